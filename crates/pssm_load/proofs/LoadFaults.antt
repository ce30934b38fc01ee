-- The rules that machines break, class by class.
use Rattle.std.proofs.Common.{◌≡◌, ◌<◌, ◌+◌, ℕ, zero, suc, List, [], ◌∷◌, ◌++◌, length, take, get_or, refl, sym, ap, subst, ◌∙◌, arith, add-one, append_assoc}
use Rattle.std.specs.Prelude.{map}
use Rattle.std.specs.List.{Contains}
use Rattle.std.proofs.lemmas.List.{append-nil}
use Rattle.pssm_model.specs.declared.elements.DraftMachine.{DraftMachine}
use Rattle.pssm_model.specs.WellFormed.{KeepsModelRules}
use Rattle.pssm_semantics.specs.declared.setting.Class.{Class}
use Rattle.pssm_wellformed.specs.declared.fault.Fault.{Fault}
use Rattle.pssm_load.specs.declared.fault.ClassFault.{ClassFault}
use Rattle.pssm_load.specs.Loads.{AreFaults, in_class, AreClassFaults}
use Rattle.pssm_load.specs.inner.Loading.{KeepRules}

-- ---- the rules that are broken

no_faults : (m : DraftMachine) (faults : List Fault) → AreFaults m faults → KeepsModelRules m → faults ≡ []
no_faults m [] are keep = refl
no_faults m (f ∷ fs) are keep = absurd (keep f.element f.rule ((are.exact f).0 (0, omega arith, refl)))

-- Machines that keep the rules have no faults.
pub no_class_faults : (classes : List Class) (list : List ClassFault) → AreClassFaults classes list → KeepRules classes → list ≡ []
no_class_faults [] list are keep = are
no_class_faults (x ∷ xs) list are keep =
    let rest : are.1 ≡ [] = no_class_faults xs are.1 are.3 keep.1 in
    are.4 ∙ ap (λ (t : List ClassFault). map (in_class x.name) are.0 ++ t) rest ∙ ap (λ (fs : List Fault). map (in_class x.name) fs ++ []) (no_faults x.machine are.0 are.2 keep.0)

-- A machine without faults keeps the rules.
keeps_all : (m : DraftMachine) → AreFaults m [] → KeepsModelRules m
keeps_all m are place n breaks =
    let f : Fault = record { element = place; rule = n } in
    let there : Contains [] f = (are.exact f).1 breaks in
    let below = there.1 in
    omega arith

-- Machines that have no faults keep the rules.
pub rules_kept : (classes : List Class) → AreClassFaults classes [] → KeepRules classes
rules_kept [] are = tt
rules_kept (x ∷ xs) are = by_faults are.0 are.1 are.2 are.4 are.3 (λ rest. rules_kept xs rest) where
  by_faults : (faults : List Fault) (rest : List ClassFault) → AreFaults x.machine faults → [] ≡ map (in_class x.name) faults ++ rest → AreClassFaults xs rest → (AreClassFaults xs [] → KeepRules xs) → KeepRules (x ∷ xs)
  by_faults [] rest exact e are keep = (keeps_all x.machine exact, keep (subst (λ (t : List ClassFault). AreClassFaults xs t) (sym e) are))
  by_faults (f ∷ fs) rest exact e are keep = absurd cc

-- The faults of the classes so far and of the next one.
pub faults_more : (classes : List Class) (i : ℕ) (x : Class) (list : List ClassFault) (faults : List Fault) → i < length classes → x ≡ get_or classes i x → AreClassFaults (take i classes) list
    → AreFaults x.machine faults → AreClassFaults (take (i + 1) classes) (list ++ map (in_class x.name) faults)
faults_more classes i x list faults within is are exact = rw add-one (one_more classes i list within is are) where
  one_more : (classes : List Class) (i : ℕ) (list : List ClassFault) → i < length classes → x ≡ get_or classes i x → AreClassFaults (take i classes) list
      → AreClassFaults (take (suc i) classes) (list ++ map (in_class x.name) faults)
  one_more [] i list within is are = absurd (omega arith)
  one_more (y ∷ ys) zero list within is are =
      let same : x ≡ y = is in
      let none : list ≡ [] = are in (
        faults,
        [],
        subst (λ (z : Class). AreFaults z.machine faults) same exact,
        refl,
        ap (λ (t : List ClassFault). t ++ map (in_class x.name) faults) none ∙ ap (λ (z : Class). map (in_class z.name) faults) same ∙ sym (append-nil (map (in_class y.name) faults)),
      )
  one_more (y ∷ ys) (suc i) list within is are = (
    are.0,
    are.1 ++ map (in_class x.name) faults,
    are.2,
    one_more ys i are.1 (omega arith) is are.3,
    ap (λ (t : List ClassFault). t ++ map (in_class x.name) faults) are.4 ∙ append_assoc (map (in_class y.name) are.0) are.1 (map (in_class x.name) faults),
  )
