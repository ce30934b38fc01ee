-- Ways on from an entry point: over the one transition out of it, or over all of several.
use Rattle.std.proofs.Common.{◌≡◌, ◌↔◌, List, [], ◌∷◌, Contains, subst}
use Rattle.pssm_model.specs.declared.ids.VertexId.{VertexId}
use Rattle.pssm_model.specs.declared.ids.TransId.{TransId}
use Rattle.pssm_model.specs.declared.elements.DraftMachine.{DraftMachine}
use Rattle.pssm_model.specs.declared.elements.VertexKind.TheVariants as kinds
use Rattle.pssm_model.specs.Forest.{HasKind}
use Rattle.pssm_model.specs.Legs.{Leaves, Enters}
use Rattle.pssm_model.specs.Routes.{Truth}
use Rattle.pssm_model.proofs.ElementLaws.{enters_one}
use Rattle.pssm_model.proofs.RouteLaws.{is_one}
use Rattle.pssm_enabled.specs.Ways.{HasWay}
use Rattle.pssm_enabled.specs.inner.Passing.{AllEndWays}
use Rattle.pssm_enabled.specs.Ways.HasWay.{ends, over, all}
use Rattle.pssm_enabled.proofs.LeadingOn.{entry_not_passed}
use Rattle.pssm_enabled.proofs.PassingLaws.{ending_leads}

module _ (m : DraftMachine) (truth : Truth) (v : VertexId) (entry : HasKind m v kinds.EntryPoint) where
  -- over one transition
  entry_down : (t : TransId) (w : VertexId) → Leaves m t v → Enters m t w → HasWay m truth v → HasWay m truth w
  entry_down t w leaves enters (ends passed other) = absurd (other entry)
  entry_down t w leaves enters (over passed out holds into way) = absurd (entry_not_passed m v entry passed)
  entry_down t w leaves enters (all kind each) = each t w leaves enters

  pub one_behind : (out : List TransId) (t : TransId) (w : VertexId) → ((u : TransId) → Contains out u ↔ Leaves m u v) → out ≡ t ∷ []
      → Leaves m t v → Enters m t w → HasWay m truth v ↔ HasWay m truth w
  one_behind out t w lists one leaves enters = (
    λ way. entry_down t w leaves enters way,
    λ way. all entry (λ u x from into.
        let same : u ≡ t = is_one t u (subst (λ us. Contains us u) one ((lists u).1 from)) in
        subst (HasWay m truth) (enters_one m t w x enters (subst (λ y. Enters m y x) same into)) way),
  )

  -- over all
  pub ends_behind : AllEndWays m v → HasWay m truth v
  ends_behind h = all entry (λ t w leaves enters. ending_leads m w truth (h t leaves w enters))
