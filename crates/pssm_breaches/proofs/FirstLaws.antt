-- What is known of first forms that are looked up by numbers.
use Rattle.std.proofs.Common.{◌≡◌, ◌↔◌, ◌<◌, ℕ, Bool, true, false, not, IsTrue, Some, refl, ap, subst, ◌∙◌, slice_get, option_and_then, length}
use Rattle.pssm_model.specs.declared.elements.Owner.{Owner}
use Rattle.pssm_model.specs.declared.elements.Owner.TheVariants as owners
use Rattle.pssm_model.specs.declared.draft_setting.ElementRef.{ElementRef}
use Rattle.pssm_model.specs.declared.draft_setting.Draft.{Draft}
use Rattle.pssm_model.specs.declared.draft_setting.DraftParts.{DraftParts}
use Rattle.pssm_model.specs.DraftSettings.{ExtendsFar, IsOrExtends, IsInRange, IsOwnerIn}
use Rattle.pssm_model.specs.DraftSettings.IsOrExtends.{extended}
use Rattle.pssm_heritage.specs.declared.kinds.ElementKind.{ElementKind}
use Rattle.pssm_heritage.specs.declared.kinds.ElementKind.TheVariants.{Region, Vertex, Transition}
use Rattle.pssm_heritage.specs.Elements.{redefined}
use Rattle.pssm_heritage.specs.Becoming.{Became}
use Rattle.pssm_heritage.specs.Becoming.Became.{new, redefining}
use Rattle.pssm_heritage.specs.Heritages.{Lineage, IsLineage, AreNumbersOf, numbering_of, number_in}
use Rattle.pssm_heritage.proofs.ElementLaws.{both, redefined_is_element}
use Rattle.pssm_heritage.proofs.NumberLaws.{itself_is_new}
use Rattle.pssm_heritage.proofs.ChainLaws.{or_far}
use Rattle.pssm_heritage.proofs.OneLaws.{same_form, no_circle_above}
use Rattle.pssm_breaches.specs.Latest.{IsWithin}
use Rattle.pssm_breaches.specs.Forms.{BecameSame}
use Rattle.pssm_breaches.specs.Rules.{SameOwner}
use Rattle.pssm_breaches.specs.inner.Firsts.{first_in, HaveSameFirst, OwnersMeet}

pub numbers : (draft : Draft) (m : ℕ) (kind : ElementKind) (lineage : Lineage) → IsLineage draft m lineage → AreNumbersOf draft m lineage.machines kind (numbering_of kind lineage)
numbers draft m Region lineage h = h.regions
numbers draft m Vertex lineage h = h.vertices
numbers draft m Transition lineage h = h.transitions

-- what is looked up is what the element became
pub sound_first : (draft : Draft) (m : ℕ) (kind : ElementKind) (lineage : Lineage) (e o : ElementRef) → IsLineage draft m lineage
    → first_in (numbering_of kind lineage) e ≡ Some o → IsWithin draft m kind e × Became draft kind e o
sound_first draft m kind lineage e o h is =
    let n = both (λ (n : ℕ). slice_get (numbering_of kind lineage).firsts n) (number_in (numbering_of kind lineage) e) o is in
    let s = (numbers draft m kind lineage h).sound e n.0 n.1 in
    let same : s.2.0 ≡ o = let a = n.2 in let b = s.2.1 in cc in
    (record { element = s.1; up = s.0 }, subst (Became draft kind e) same s.2.2)

-- and it is looked up for each element
pub known_first : (draft : Draft) (m : ℕ) (kind : ElementKind) (lineage : Lineage) (e : ElementRef) → IsLineage draft m lineage
    → IsWithin draft m kind e → (o : ElementRef) × (first_in (numbering_of kind lineage) e ≡ Some o)
known_first draft m kind lineage e h w =
    let n = (numbers draft m kind lineage h).all e w.element w.up in
    let s = (numbers draft m kind lineage h).sound e n.0 n.1 in
    (s.2.0, ap (λ o. option_and_then (λ (n : ℕ). slice_get (numbering_of kind lineage).firsts n) o) n.1 ∙ s.2.1)

pub same_iff : (draft : Draft) (m : ℕ) (kind : ElementKind) (lineage : Lineage) (e f : ElementRef) → IsLineage draft m lineage
    → IsWithin draft m kind e → IsWithin draft m kind f → HaveSameFirst (numbering_of kind lineage) e f ↔ BecameSame draft kind e f
same_iff draft m kind lineage e f h v w = (
  λ s. (s.first, (sound_first draft m kind lineage e s.first h s.one).1, (sound_first draft m kind lineage f s.first h s.other).1),
  λ b.
      let p = known_first draft m kind lineage e h v in
      let q = known_first draft m kind lineage f h w in
      let one = same_form (sound_first draft m kind lineage e p.0 h p.1).1 b.1 in
      let two = same_form (sound_first draft m kind lineage f q.0 h q.1).1 b.2 in
      record { first = b.0; one = p.1 ∙ ap Some one; other = q.1 ∙ ap Some two },
)

-- ---- elements that are new, and elements that are not

pub not_above : (draft : Draft) (m : ℕ) (kind : ElementKind) (lineage : Lineage) (e f : ElementRef) → IsLineage draft m lineage
    → first_in (numbering_of kind lineage) e ≡ Some e → redefined draft kind e ≡ Some f → ExtendsFar draft e.machine f.machine → ⊥
not_above draft m kind lineage e f h is named far =
    let s = sound_first draft m kind lineage e e h is in
    itself_is_new s.1 refl f (record { named = named; above = far }) (no_circle_above h.chain s.0.up)

pub above : (draft : Draft) (m : ℕ) (kind : ElementKind) (lineage : Lineage) (e f : ElementRef) → IsLineage draft m lineage
    → IsWithin draft m kind e → redefined draft kind e ≡ Some f → (first_in (numbering_of kind lineage) e ≡ Some e → ⊥) → ExtendsFar draft e.machine f.machine
above draft m kind lineage e f h w named old =
    let p = known_first draft m kind lineage e h w in
    split (sound_first draft m kind lineage e p.0 h p.1).1 (λ same. old (p.1 ∙ ap Some same))
  where
    split : {o : ElementRef} → Became draft kind e o → (o ≡ e → ⊥) → ExtendsFar draft e.machine f.machine
    split (new none) other = absurd (other refl)
    split (redefining g names became) other =
        let a = names.named in
        let same : g ≡ f = cc in
        subst (λ (x : ElementRef). ExtendsFar draft e.machine x.machine) same names.above

pub above_iff : (draft : Draft) (m : ℕ) (kind : ElementKind) (lineage : Lineage) (e f : ElementRef) (b : Bool) → IsLineage draft m lineage
    → IsWithin draft m kind e → redefined draft kind e ≡ Some f → IsTrue b ↔ (first_in (numbering_of kind lineage) e ≡ Some e)
    → IsTrue (not b) ↔ ExtendsFar draft e.machine f.machine
above_iff draft m kind lineage e f true h w named iff = (λ t. absurd (let u = t in cc), λ far. absurd (not_above draft m kind lineage e f h (iff.0 refl) named far))
above_iff draft m kind lineage e f false h w named iff = (λ t. above draft m kind lineage e f h w named (λ is. let u = iff.1 is in cc), λ far. refl)

-- what is inherited is within
pub above_within : (draft : Draft) (m : ℕ) (kind : ElementKind) (e f : ElementRef) → IsInRange draft → IsWithin draft m kind e
    → redefined draft kind e ≡ Some f → ExtendsFar draft e.machine f.machine → IsWithin draft m kind f
above_within draft m kind e f range w named far = record {
  element = redefined_is_element draft kind e f range named;
  up = up w.up;
}
  where
    up : IsOrExtends draft m e.machine → IsOrExtends draft m f.machine
    up h = extended (or_far h far)

-- ---- owners

owner_region : (draft : Draft) (m n r : ℕ) (parts : DraftParts) → slice_get draft.machines n ≡ Some parts → IsOrExtends draft m n
    → r < length parts.regions → IsWithin draft m Region (record { machine = n; element = r })
owner_region draft m n r parts is up lt = record { element = (parts, is, lt); up = up }

owner_vertex : (draft : Draft) (m n r : ℕ) (parts : DraftParts) → slice_get draft.machines n ≡ Some parts → IsOrExtends draft m n
    → r < length parts.vertices → IsWithin draft m Vertex (record { machine = n; element = r })
owner_vertex draft m n r parts is up lt = record { element = (parts, is, lt); up = up }

pub owners_iff : (draft : Draft) (m : ℕ) (lineage : Lineage) (n k : ℕ) (a b : Owner) (parts others : DraftParts) → IsLineage draft m lineage
    → slice_get draft.machines n ≡ Some parts → IsOrExtends draft m n → IsOwnerIn parts a
    → slice_get draft.machines k ≡ Some others → IsOrExtends draft m k → IsOwnerIn others b
    → OwnersMeet lineage n a k b ↔ SameOwner draft n a k b
owners_iff draft m lineage n k owners.Top owners.Top parts others h is up own is' up' own' = (λ u. u, λ u. u)
owners_iff draft m lineage n k (owners.Region r) (owners.Region s) parts others h is up own is' up' own' =
    same_iff draft m Region lineage (record { machine = n; element = r.0 }) (record { machine = k; element = s.0 }) h
    (owner_region draft m n r.0 parts is up own) (owner_region draft m k s.0 others is' up' own')
owners_iff draft m lineage n k (owners.State v) (owners.State w) parts others h is up own is' up' own' =
    same_iff draft m Vertex lineage (record { machine = n; element = v.0 }) (record { machine = k; element = w.0 }) h
    (owner_vertex draft m n v.0 parts is up own) (owner_vertex draft m k w.0 others is' up' own')
owners_iff draft m lineage n k owners.Top (owners.Region s) parts others h is up own is' up' own' = (λ u. u, λ u. u)
owners_iff draft m lineage n k owners.Top (owners.State s) parts others h is up own is' up' own' = (λ u. u, λ u. u)
owners_iff draft m lineage n k (owners.Region r) owners.Top parts others h is up own is' up' own' = (λ u. u, λ u. u)
owners_iff draft m lineage n k (owners.Region r) (owners.State s) parts others h is up own is' up' own' = (λ u. u, λ u. u)
owners_iff draft m lineage n k (owners.State v) owners.Top parts others h is up own is' up' own' = (λ u. u, λ u. u)
owners_iff draft m lineage n k (owners.State v) (owners.Region s) parts others h is up own is' up' own' = (λ u. u, λ u. u)
