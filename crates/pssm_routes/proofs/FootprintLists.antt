-- Lists of footprints, one after another, and what a search that may find nothing decides.
use Rattle.std.proofs.Common.{◌≡◌, ◌↔◌, ◌<◌, ◌+◌, ℕ, Bool, true, false, IsTrue, List, [], ◌∷◌, ◌++◌, length, take, get_or, All, Option, Some, None, IfSome, IfNone, Result, Ok, Err, OnOk, sym, subst, ◌∙◌}
use Rattle.std.specs.Option.{is_some}
use Rattle.std.proofs.lemmas.List.{take_more}
use Rattle.std.proofs.lemmas.List.Elements.{All-tail}
use Rattle.pssm_model.specs.declared.elements.DraftMachine.{DraftMachine}
use Rattle.pssm_model.specs.declared.steps.Route.{Route}
use Rattle.pssm_routes.specs.declared.areas.Footprint.{Footprint}
use Rattle.pssm_routes.specs.inner.Footprints.{IsFootprintOf, AreFootprints, IsFootprintIn, ClashesWithSome}
use Rattle.pssm_routes.specs.inner.Sets.{AreApart}
use Rattle.pssm_routes.proofs.Joiners.{footprints_more}

module _ (m : DraftMachine) where
  -- where the first clashes with none of the others, all are apart where the others are
  pub apart_after : (footprints rest more : List Footprint) (first : Footprint) → rest ≡ first ∷ more → (ClashesWithSome m more first → ⊥)
      → All (IsFootprintIn m) rest × (AreApart m footprints ↔ AreApart m rest) → All (IsFootprintIn m) more × (AreApart m footprints ↔ AreApart m more)
  apart_after footprints rest more first e free h =
      let at : All (IsFootprintIn m) (first ∷ more) × (AreApart m footprints ↔ AreApart m (first ∷ more)) =
      subst (λ ys. All (IsFootprintIn m) ys × (AreApart m footprints ↔ AreApart m ys)) e h in
      (All-tail (IsFootprintIn m) first more at.0, (λ all. (at.1.0 all).1, λ apart. at.1.1 (free, apart)))

  -- the footprint of one route more
  pub footprints_next : (routes : List Route) (footprints : List Footprint) (n : ℕ) (p : Route) (g : Footprint) → n < length routes → p ≡ get_or routes n p
      → AreFootprints m (take n routes) footprints → IsFootprintOf m p g → AreFootprints m (take (n + 1) routes) (footprints ++ g ∷ [])
  footprints_next routes footprints n p g lt at are one =
      subst (λ ps. AreFootprints m ps (footprints ++ g ∷ [])) (sym (take_more routes n p lt))
      (footprints_more m (take n routes) footprints (get_or routes n p) g are (subst (λ q. IsFootprintOf m q g) at one))

-- a search that finds something exactly where there is something
pub found_decides : {X : Type 0} (P : X → Type 0) (Q : Type 0) (o : Option X) (b : Bool) → b ≡ is_some o → IfSome o P → IfNone o (Q → ⊥)
    → ((x : X) → P x → Q) → IsTrue b ↔ Q
found_decides P Q None b e some none gives = (λ t. absurd (let f : true ≡ false = sym t ∙ e in cc), λ q. absurd (none q))
found_decides P Q (Some x) b e some none gives = (λ t. gives x some, λ q. e)

-- what follows from what holds where a call succeeds
pub on_ok : {T E P Q : Type 0} (r : Result T E) → (P → Q) → OnOk r P → OnOk r Q
on_ok (Ok x) f h = f h
on_ok (Err e) f h = tt
