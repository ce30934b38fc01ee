-- The rules that a machine breaks can be listed.
use Rattle.std.proofs.Common.{◌≡◌, ◌<◌, ◌≤◌, ◌+◌, ◌-◌, ℕ, zero, suc, List, [], ◌∷◌, ◌++◌, length, refl, sym, subst, inl, inr, arith}
use Rattle.std.proofs.lemmas.Bool.{cases_lt}
use Rattle.std.specs.Prelude.{map}
use Rattle.std.specs.List.{AllByRecursion}
use Rattle.pssm_model.specs.declared.ids.VertexId.{VertexId}
use Rattle.pssm_model.specs.declared.ids.RegionId.{RegionId}
use Rattle.pssm_model.specs.declared.ids.TransId.{TransId}
use Rattle.pssm_model.specs.declared.elements.DraftMachine.{DraftMachine}
use Rattle.pssm_model.specs.declared.elements.FaultPlace.{FaultPlace}
use Rattle.pssm_model.specs.declared.elements.FaultPlace.TheVariants.{Top, At}
use Rattle.pssm_model.specs.declared.elements.Element.TheVariants as elements
use Rattle.pssm_model.specs.Shapes.{HasShape}
use Rattle.pssm_model.specs.WellFormed.{Breaks}
use Rattle.pssm_semantics.specs.declared.setting.Class.{Class}
use Rattle.pssm_wellformed.specs.declared.fault.Fault.{Fault}
use Rattle.pssm_wellformed.specs.inner.Checked.{IsPlace, place_number, IsCheckedBelow}
use Rattle.pssm_wellformed.proofs.Order.{none_checked, fault_listed, fault_passed, place_done, all_checked}
use Rattle.pssm_load.specs.declared.fault.ClassFault.{ClassFault}
use Rattle.pssm_load.specs.Loads.{AreFaults, in_class, AreClassFaults}

module _ (m : DraftMachine) where
  -- how many places there are
  abbrev place_count : ℕ
  place_count = 1 + length m.regions + length m.vertices + length m.transitions

  -- The place of a number.
  place_at : (n : ℕ) → n < place_count → (place : FaultPlace) × IsPlace m place × (place_number m place ≡ n)
  place_at zero lt = (Top, tt, refl)
  place_at (suc n) lt =
      elim (cases_lt n (length m.regions)) [
        | inl region ↦ let r : RegionId = record { 0 = n } in (At (elements.Region r), region, omega arith)
        | inr past ↦ elim (cases_lt n (length m.regions + length m.vertices)) [
          | inl vertex ↦ let v : VertexId = record { 0 = n - length m.regions } in (At (elements.Vertex v), omega (arith, past, vertex), omega (arith, past))
          | inr beyond ↦ let t : TransId = record { 0 = n - length m.regions - length m.vertices } in (At (elements.Transition t), omega (arith, past, beyond, lt), omega (arith, past, beyond))
        ]
      ]

  module _ (shape : HasShape m) where
    -- The faults of one place more, up to a rule.
    rules_listed : (place : FaultPlace) → IsPlace m place → (last : ℕ) (faults : List Fault) → IsCheckedBelow m (place_number m place) 1 faults
        → ((more : List Fault) → IsCheckedBelow m (place_number m place) (last + 1) more → ⊥) → ⊥
    rules_listed place there zero faults before never = never faults before
    rules_listed place there (suc rule) faults before never =
        rules_listed place there rule faults before (λ more checked.
        let next : rule + 1 + 1 ≡ suc rule + 1 = omega arith in
        let fault : Fault = record { element = place; rule = rule + 1 } in
        let kept : Breaks m place (rule + 1) → ⊥ = λ broken.
        never (more ++ fault ∷ []) (subst (λ n. IsCheckedBelow m (place_number m place) n (more ++ fault ∷ [])) next (fault_listed shape place (rule + 1) more fault refl refl there broken checked)) in
        never more (subst (λ n. IsCheckedBelow m (place_number m place) n more) next (fault_passed shape place (rule + 1) more there kept checked)))

    -- The faults of the first places.
    places_listed : (n : ℕ) → n ≤ place_count → ((faults : List Fault) → IsCheckedBelow m n 1 faults → ⊥) → ⊥
    places_listed zero within never = never [] (none_checked m)
    places_listed (suc n) within never =
        places_listed n (omega (arith, within)) (λ faults before.
        let at = place_at n (omega (arith, within)) in
        rules_listed at.0 at.1 21 faults (subst (λ k. IsCheckedBelow m k 1 faults) (sym at.2) before) (λ more checked.
        never more (subst (λ k. IsCheckedBelow m k 1 more) (omega (arith, at.2)) (place_done shape (place_number m at.0) 22 more (omega arith) checked))))

    faults_listed : ((faults : List Fault) → AreFaults m faults → ⊥) → ⊥
    faults_listed never =
        places_listed place_count (omega arith) (λ faults checked. never faults (record { exact = all_checked shape place_count faults (omega arith) checked; ascending = checked.ascending }))

-- There is a list of the rules that machines of these classes break.
pub class_faults_listed : (classes : List Class) → AllByRecursion (λ (x : Class). HasShape x.machine) classes → ((list : List ClassFault) → AreClassFaults classes list → ⊥) → ⊥
class_faults_listed [] shapes never = never [] refl
class_faults_listed (x ∷ xs) shapes never =
    faults_listed x.machine shapes.0 (λ faults are. class_faults_listed xs shapes.1 (λ rest list. never (map (in_class x.name) faults ++ rest) (faults, rest, are, list, refl)))
