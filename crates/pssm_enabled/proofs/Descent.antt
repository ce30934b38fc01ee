-- From vertex to vertex through which routes go on, until none is left: no pseudostates lead on in a cycle.
use Rattle.std.proofs.Common.{◌≡◌, ◌+◌, ◌≤◌, ◌<◌, ℕ, zero, suc, List, [], ◌∷◌, ◌++◌, length, Contains, subst, ⊎_elim, arith, eqb}
use Rattle.std.specs.List.{list_any, IsDistinct}
use Rattle.std.proofs.lemmas.Bool.{eqb-true, cases_Bool}
use Rattle.std.proofs.lemmas.Cmp.{nat_eq_equiv}
use Rattle.std.proofs.lemmas.List.{length_push}
use Rattle.std.proofs.lemmas.List.Elements.{Contains-push_cases}
use Rattle.std.proofs.lemmas.Map.Keys.{IsDistinct-push}
use Rattle.std.proofs.lemmas.Map.Steps.{length-le_from_distinct_below}
use Rattle.std.proofs.lemmas.Map.Views.{Contains-from_any}
use Rattle.pssm_model.specs.declared.ids.VertexId.{VertexId}
use Rattle.pssm_model.specs.declared.ids.TransId.{TransId}
use Rattle.pssm_model.specs.declared.elements.DraftMachine.{DraftMachine}
use Rattle.pssm_model.specs.Shapes.{HasShape}
use Rattle.pssm_model.specs.Legs.{Leaves, Enters}
use Rattle.pssm_model.specs.Paths.{LeadsOn}
use Rattle.pssm_model.specs.Paths.LeadsOn.{after}
use Rattle.pssm_model.specs.WellFormed.{KeepsModelRules}
use Rattle.pssm_enabled.specs.Fitting.{IsThrough}
use Rattle.pssm_model.proofs.ElementLaws.{same_vertex, nothing_in_nil}
use Rattle.pssm_model_laws.proofs.Through.{step_leads, target_there, no_cycle}

-- different numbers of vertices that come before
pub record IsPassed (m : DraftMachine) (v : VertexId) (ns : List ℕ) : Type 0 where
  pub distinct : IsDistinct eqb ns
  pub led : (n : ℕ) → Contains ns n → (w : VertexId) × (w.0 ≡ n) × (w.0 < length m.vertices) × LeadsOn m w v

module _ {m : DraftMachine} (rules : KeepsModelRules m) where
  pub passed_none : (v : VertexId) → IsPassed m v []
  unfolding IsDistinct
  passed_none v = record { distinct = tt; led = λ n inside. absurd (nothing_in_nil n inside) }

  not_passed : (v : VertexId) (ns : List ℕ) → IsPassed m v ns → Contains ns v.0 → ⊥
  not_passed v ns h inside =
      let at = h.led v.0 inside in no_cycle rules v (subst (λ w. LeadsOn m w v) (same_vertex at.0 v at.1) at.3)

  distinct_with : (v : VertexId) (ns : List ℕ) → IsPassed m v ns → IsDistinct eqb (ns ++ v.0 ∷ [])
  distinct_with v ns h =
      IsDistinct-push nat_eq_equiv ns v.0 h.distinct
      (⊎_elim (λ there. absurd (not_passed v ns h (Contains-from_any eqb-true v.0 ns there))) (λ none. none) (cases_Bool (list_any (eqb v.0) ns)))

  below_with : (v : VertexId) (ns : List ℕ) → v.0 < length m.vertices → IsPassed m v ns → (n : ℕ) → Contains (ns ++ v.0 ∷ []) n → n < length m.vertices
  below_with v ns there h n inside =
      ⊎_elim
      (λ before. (let at = h.led n before in subst (λ k. k < length m.vertices) at.1 at.2))
      (λ same. subst (λ k. k < length m.vertices) same there)
      (Contains-push_cases ns v.0 n inside)

  pub few_passed : (v : VertexId) (ns : List ℕ) → v.0 < length m.vertices → IsPassed m v ns → length ns < length m.vertices
  few_passed v ns there h =
      let few = length-le_from_distinct_below (ns ++ v.0 ∷ []) (length m.vertices) (distinct_with v ns h)
      (λ q found. below_with v ns there h q (Contains-from_any eqb-true q (ns ++ v.0 ∷ []) found)) in
      let long = length_push ns v.0 in omega arith

  pub passed_more : (v w : VertexId) (ns : List ℕ) → v.0 < length m.vertices → LeadsOn m v w → IsPassed m v ns → IsPassed m w (ns ++ v.0 ∷ [])
  passed_more v w ns there step h = record {
    distinct = distinct_with v ns h;
    led = λ n inside. ⊎_elim
        (λ before. (let at = h.led n before in (at.0, at.1, at.2, after at.3 step)))
        (λ same. (v, same, there, step))
        (Contains-push_cases ns v.0 n inside);
  }

-- What holds of a vertex where it holds of those through which routes go on from it holds of all.
module _ {m : DraftMachine} (shape : HasShape m) (rules : KeepsModelRules m) (P : VertexId → Type 0)
    (more : (v : VertexId) → v.0 < length m.vertices
    → ((u : TransId) (w : VertexId) → IsThrough m v → Leaves m u v → Enters m u w → IsThrough m w → P w) → P v) where
  from_here : (fuel : ℕ) (v : VertexId) (ns : List ℕ) → v.0 < length m.vertices → IsPassed m v ns → length m.vertices ≤ fuel + length ns → P v
  from_here zero v ns there h room = let few = few_passed rules v ns there h in absurd (omega arith)
  from_here (suc fuel) v ns there h room =
      more v there (λ u w first leaves enters second.
      from_here fuel w (ns ++ v.0 ∷ []) (target_there shape u w enters)
      (passed_more rules v w ns there (step_leads m v w u first second leaves enters) h)
      (let long = length_push ns v.0 in omega arith))

  pub by_descent : (v : VertexId) → v.0 < length m.vertices → P v
  by_descent v there = from_here (length m.vertices) v [] there (passed_none rules v) (omega arith)
