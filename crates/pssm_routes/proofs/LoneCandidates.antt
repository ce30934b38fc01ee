-- A State that reacts alone is outranked by none.
use Rattle.std.proofs.Common.{◌≡◌, ◌∙◌, ◌<◌, ◌↔◌, List, [], ◌∷◌, length, Contains, sym, subst, ⊎_elim, arith}
use Rattle.std.proofs.lemmas.List.Elements.{Contains-push_cases}
use Rattle.pssm_model.specs.declared.ids.VertexId.{VertexId}
use Rattle.pssm_model.specs.declared.elements.DraftMachine.{DraftMachine}
use Rattle.pssm_model.specs.declared.steps.Event.{Event}
use Rattle.pssm_model.specs.Configuration.{Configuration}
use Rattle.pssm_model.specs.Forest.{LiesInState}
use Rattle.pssm_model.specs.Shapes.{HasShape}
use Rattle.pssm_model.specs.Routes.{Truth}
use Rattle.pssm_model.proofs.ElementLaws.{nothing_in_nil}
use Rattle.pssm_routes.specs.inner.Starts.{Reacts, IsCandidate}
use Rattle.pssm_routes.proofs.Settling.{not_in_itself}

-- all elements of a list of fewer than two are one
only_one : (found : List VertexId) (q s : VertexId) → length found < 2 → Contains found q → Contains found s → q ≡ s
only_one [] q s lt first second = absurd (nothing_in_nil q first)
only_one (x ∷ []) q s lt first second =
    let is_x : (v : VertexId) → Contains (x ∷ []) v → x ≡ v =
    λ v has. ⊎_elim (λ none. absurd (nothing_in_nil v none)) (λ same. same) (Contains-push_cases [] x v has) in
    sym (is_x q first) ∙ is_x s second
only_one (x ∷ y ∷ more) q s lt first second = absurd (omega (arith, lt))

pub lone_candidates : {m : DraftMachine} → HasShape m → (now : Configuration) (truth : Truth) (event : Event) (found : List VertexId)
    → length found < 2 → ((s : VertexId) → Contains found s ↔ Reacts m now truth event s)
    → (s : VertexId) → Contains found s ↔ IsCandidate m now truth event s
lone_candidates {m} shape now truth event found lt are s = (
  λ has. (
    (are s).0 has,
    λ (q, reacts, inside). not_in_itself shape s
        (subst (λ v. LiesInState m v s) (only_one found q s lt ((are q).1 reacts) has) inside),
  ),
  λ is. (are s).1 is.0,
)
