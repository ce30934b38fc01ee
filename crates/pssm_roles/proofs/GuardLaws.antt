-- What the guards of elements name.
use Rattle.std.proofs.Common.{◌≡◌, ◌<◌, ℕ, Bool, false, List, [], ◌∷◌, length, get_or, Option, Some, None, refl, sym, ap, ◌∙◌, arith}
use Rattle.std.specs.Prelude.{slice_get, option_map, codes}
use Rattle.std.specs.Option.{option_map_or}
use Rattle.std.proofs.lemmas.Option.{slice_get-get_or}
use Rattle.pssm_xml.specs.Documents.{Element}
use Rattle.pssm_roles.specs.Ids.{has_id}
use Rattle.pssm_roles.specs.References.{references}
use Rattle.pssm_roles.specs.Roles.{names_rule, is_named_rule}
use Rattle.pssm_roles.specs.inner.Asked.{Gives}
use Rattle.pssm_roles.specs.inner.Guards.{only_one, AreGuards}
use Rattle.pssm_roles.specs.inner.Seen.{seen}
use Rattle.pssm_roles.specs.declared.references.Reference.{Reference}
use Rattle.pssm_roles.proofs.IdLaws.{element_there}

-- An element is named where it has the id of the one reference.
named_by : (doc : List Element) (n : ℕ) (rs : List (ℕ × List ℕ))
    → names_rule doc n rs ≡ option_map_or (λ (r : ℕ × List ℕ). option_map_or (has_id r.1) (slice_get doc n) false) (only_one rs) false
named_by doc n [] = refl
named_by doc n (r ∷ []) = refl
named_by doc n (r ∷ s ∷ more) = refl

-- A rule is named where it has the id that is kept.
pub kept_names : (doc : List Element) (t n : ℕ) (guards : List (Option Reference)) (d g : Option Reference) → AreGuards doc (length doc) guards → t < length doc → g ≡ get_or guards t d
    → is_named_rule doc t n ≡ option_map_or (λ (r : Reference). option_map_or (has_id r.id.now) (slice_get doc n) false) g false
kept_names doc t n guards d g are in_doc is =
    let counted = are.counted in
    let kept = are.guards_are t (get_or guards t d) (slice_get-get_or guards t d (omega (arith, in_doc, counted))) in
    named_by doc n (references doc t (codes "guard"))
    ∙ ap (λ (o : Option (ℕ × List ℕ)). option_map_or (λ (r : ℕ × List ℕ). option_map_or (has_id r.1) (slice_get doc n) false) o false) (sym kept ∙ sym (ap (option_map seen) is))
    ∙ by_guard g
  where
    by_guard : (o : Option Reference) → option_map_or (λ (r : ℕ × List ℕ). option_map_or (has_id r.1) (slice_get doc n) false) (option_map seen o) false
        ≡ option_map_or (λ (r : Reference). option_map_or (has_id r.id.now) (slice_get doc n) false) o false
    by_guard None = refl
    by_guard (Some r) = refl

-- what was asked of the rule
pub has_own : (doc : List Element) (n : ℕ) (id : List ℕ) (b : Bool) → n < length doc → Gives doc n (has_id id) b → b ≡ option_map_or (has_id id) (slice_get doc n) false
has_own doc n id b in_doc gives =
    let e = element_there doc n in_doc in gives e.0 e.1 ∙ ap (λ (o : Option Element). option_map_or (has_id id) o false) (sym e.1)
