-- The States that react and in which none does, as they are chosen.
use Rattle.std.proofs.Common.{◌≡◌, ◌↔◌, List, Bool, true, false, Result, Vec, Global, IfOk, All, Contains, get_or, sym, subst}
use Rattle.std.proofs.lemmas.Result.{IfOk-weaker}
use Rattle.std.proofs.lemmas.List.Elements.{All-contains}
use Rattle.pssm_model.specs.declared.ids.VertexId.{VertexId}
use Rattle.pssm_model.specs.declared.elements.DraftMachine.{DraftMachine}
use Rattle.pssm_model.specs.declared.steps.Event.{Event}
use Rattle.pssm_model.specs.Configuration.{Configuration}
use Rattle.pssm_model.specs.Forest.{LiesInState}
use Rattle.pssm_model.specs.Routes.{Truth}
use Rattle.pssm_enabled.proofs.Ascending.{all_from_contains}
use Rattle.pssm_routes.specs.inner.Starts.{Reacts, IsCandidate}

-- the vertex is marked
abbrev pub IsMarked : List Bool → VertexId → Type 0
IsMarked marks s = get_or marks s.0 false ≡ true

-- what holds of each of the States holds of those that are chosen
pub chosen_hold : (P Q : VertexId → Type 0) (reacting states : List VertexId) → states ≡ reacting → All P reacting → {E : Type 0}
    → (result : Result (Vec VertexId Global) E)
    → IfOk result (λ found. (s : VertexId) → Contains found.items s ↔ (Contains states s × Q s)) → IfOk result (λ found. All P found.items)
chosen_hold P Q reacting states e all result chosen =
    IfOk-weaker result _ _
    (λ found is. all_from_contains P found.items (λ s has. All-contains P states s (subst (All P) (sym e) all) ((is s).0 has).0)) chosen

-- the States that react and in which none does
pub candidates_are : (m : DraftMachine) (now : Configuration) (truth : Truth) (event : Event) (reacting chosen : List VertexId) (marks : List Bool)
    → ((s : VertexId) → Contains reacting s ↔ Reacts m now truth event s)
    → ((s : VertexId) → IsMarked marks s ↔ ((q : VertexId) × Contains reacting q × LiesInState m q s))
    → ((s : VertexId) → Contains chosen s ↔ (Contains reacting s × (IsMarked marks s → ⊥)))
    → (s : VertexId) → Contains chosen s ↔ IsCandidate m now truth event s
candidates_are m now truth event reacting chosen marks reacts around chosen_are s = (
  λ has.
      let is = (chosen_are s).0 has in
      ((reacts s).0 is.0, λ outranked. is.1 ((around s).1 (outranked.0, (reacts outranked.0).1 outranked.1, outranked.2))),
  λ is. (chosen_are s).1 (
    (reacts s).1 is.0,
    λ marked.
        let some = (around s).0 marked in
        is.1 (some.0, (reacts some.0).0 some.1, some.2),
  ),
)

-- and so it is of what is chosen at last, where the lists were lent on the way
module _ (m : DraftMachine) (now : Configuration) (truth : Truth) (event : Event) (reacting inner states : List VertexId) (outranked marks : List Bool)
    (same_inner : inner ≡ reacting) (same_states : states ≡ reacting) (same_marks : marks ≡ outranked)
    (reacts : (s : VertexId) → Contains reacting s ↔ Reacts m now truth event s)
    (around : (s : VertexId) → IsMarked outranked s ↔ ((q : VertexId) × Contains inner q × LiesInState m q s)) where
  pub candidates_chosen : (chosen : List VertexId) → ((s : VertexId) → Contains chosen s ↔ (Contains states s × (IsMarked marks s → ⊥)))
      → (s : VertexId) → Contains chosen s ↔ IsCandidate m now truth event s
  candidates_chosen chosen is =
      candidates_are m now truth event reacting chosen outranked reacts
      (subst (λ l. (s : VertexId) → IsMarked outranked s ↔ ((q : VertexId) × Contains l q × LiesInState m q s)) same_inner around)
      (subst (λ l. (s : VertexId) → Contains chosen s ↔ (Contains reacting s × (IsMarked l s → ⊥))) same_marks
      (subst (λ l. (s : VertexId) → Contains chosen s ↔ (Contains l s × (IsMarked marks s → ⊥))) same_states is))

  pub candidates_found : {E : Type 0} (result : Result (Vec VertexId Global) E)
      → IfOk result (λ found. (s : VertexId) → Contains found.items s ↔ (Contains states s × (IsMarked marks s → ⊥)))
      → IfOk result (λ found. (s : VertexId) → Contains found.items s ↔ IsCandidate m now truth event s)
  candidates_found result chosen = IfOk-weaker result _ _ (λ found is. candidates_chosen found.items is) chosen
