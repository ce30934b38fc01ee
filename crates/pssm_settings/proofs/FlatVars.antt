-- A flat draft has few variables, and no two of them have the same name.
use Rattle.std.proofs.Common.{◌≡◌, ◌≤◌, ℕ, suc, List, [], ◌∷◌, ◌++◌, length, map, fold, take, Some, refl, sym, ap, ◌∙◌, subst, arith, Bool, true, false}
use Rattle.std.specs.Prelude.{slice_get, ◌≢◌, ◌==◌, ◌||◌, ◌-◌, AllPairs, bytes_eq, filter, cond, if◌then◌else◌}
use Rattle.std.specs.List.{AllByRecursion, flat_map, list_any}
use Rattle.std.proofs.lemmas.List.{length-map}
use Rattle.std.proofs.lemmas.List.Elements.{All-from_recursion}
use Rattle.std.proofs.lemmas.List.Kept.{AllPairs-cons}
use Rattle.std.proofs.lemmas.Bool.{eqb-true}
use Rattle.std.proofs.lemmas.Slice.Eq.{bytes_eq-Decides}
use Rattle.pssm_model.specs.declared.draft_setting.Draft.{Draft}
use Rattle.pssm_model.specs.declared.draft_setting.DraftClass.{DraftClass}
use Rattle.pssm_model.specs.declared.draft_setting.DraftVar.{DraftVar}
use Rattle.pssm_model.specs.declared.draft_setting.FlatDraft.{FlatDraft}
use Rattle.pssm_model.specs.DraftSettings.{ExtendsFar, KnowsVariable, IsInRange}
use Rattle.pssm_model.specs.DraftSettings.ExtendsFar.{directly}
use Rattle.pssm_model.specs.DraftSettings.KnowsVariable.{own, inherited}
use Rattle.pssm_heritage.specs.Chains.{IsChain}
use Rattle.pssm_heritage.specs.Chains.IsChain.{base as chain_base, extended as chain_extended}
use Rattle.pssm_heritage.proofs.ChainLaws.{far_or}
use Rattle.pssm_redefine.specs.Variables.{variables_among, machine_variables, with_variable, class_variables}
use Rattle.pssm_redefine.specs.Flattening.{Flattens}
use Rattle.pssm_redefine.proofs.ChainSums.{machines_up}
use Rattle.pssm_settings.proofs.FlatLists.{each_with, each_append, each_at, each_from, each_mapped, each_flat, all_but_last}

-- whether one of the variables has this one's name
abbrev has_name : DraftVar → List DraftVar → Bool
has_name v kept = list_any (λ (k : DraftVar). bytes_eq k.name v.name) kept

-- whether the machine of a class is this one
abbrev of_this : ℕ → DraftClass → Bool
of_this m c = c.machine == m

-- ---- what holds of all variables holds of those that are kept

module _ (P : DraftVar → Type 0) where
  pub kept_with : (vars kept : List DraftVar) → AllByRecursion P kept → AllByRecursion P vars → AllByRecursion P (fold with_variable kept vars)
  kept_with [] kept have all = have
  kept_with (v ∷ vars) kept have all = kept_with vars (with_variable kept v) (by_test (has_name v kept)) all.1 where
    by_test : (found : Bool) → AllByRecursion P (if found then kept else kept ++ v ∷ [])
    by_test true = have
    by_test false = each_append P kept (v ∷ []) have (all.0, tt)

  -- those of the classes that have a machine
  pub among : (m : ℕ) (classes : List DraftClass)
      → ((k : ℕ) (c : DraftClass) → slice_get classes k ≡ Some c → c.machine ≡ m → AllByRecursion P c.vars) → AllByRecursion P (variables_among m classes)
  among m [] each = tt
  among m (c ∷ classes) each = by_test (among m classes (λ k. each (suc k))) (c.machine == m) refl where
    by_test : AllByRecursion P (variables_among m classes) → (same : Bool) → (c.machine == m) ≡ same
        → AllByRecursion P (flat_map (λ (x : DraftClass). x.vars) (cond same (c ∷ filter (of_this m) classes) (filter (of_this m) classes)))
    by_test more true is = each_append P c.vars (variables_among m classes) (each 0 c refl (eqb-true c.machine m is)) more
    by_test more false is = more

-- ---- names apart

-- No two of the variables have the same name.
abbrev pub Apart : List DraftVar → Type 0
Apart [] = Unit {0}
Apart (v ∷ vars) = AllByRecursion (λ (w : DraftVar). v.name ≢ w.name) vars × Apart vars

apart_push : (kept : List DraftVar) (v : DraftVar) → Apart kept → has_name v kept ≡ false → Apart (kept ++ v ∷ [])
apart_push [] v apart none = (tt, tt)
apart_push (k ∷ kept) v apart none = by_test (apart_push kept v apart.1) (bytes_eq k.name v.name) refl none where
  by_test : (has_name v kept ≡ false → Apart (kept ++ v ∷ [])) → (same : Bool) → bytes_eq k.name v.name ≡ same → (same || has_name v kept) ≡ false
      → Apart (k ∷ kept ++ v ∷ [])
  by_test more true is not_found = absurd cc
  by_test more false is not_found =
      let differ : k.name ≢ v.name = λ same. let yes = (bytes_eq-Decides k.name v.name).1 same in cc (yes, is) in
      (each_append (λ (w : DraftVar). k.name ≢ w.name) kept (v ∷ []) apart.0 (differ, tt), more not_found)

-- No two of those that are kept have the same name.
pub kept_apart : (vars kept : List DraftVar) → Apart kept → Apart (fold with_variable kept vars)
kept_apart [] kept apart = apart
kept_apart (v ∷ vars) kept apart = kept_apart vars (with_variable kept v) (by_test (has_name v kept) refl) where
  by_test : (found : Bool) → has_name v kept ≡ found → Apart (if found then kept else kept ++ v ∷ [])
  by_test true is = apart
  by_test false is = apart_push kept v apart is

pub names_apart : (vars : List DraftVar) → Apart vars → AllPairs (λ (a b : List ℕ). a ≢ b) (map (λ (v : DraftVar). v.name) vars)
names_apart [] apart = λ i j d less within. absurd (omega arith)
names_apart (v ∷ vars) apart =
    AllPairs-cons (λ (a b : List ℕ). a ≢ b) v.name (map (λ (w : DraftVar). w.name) vars)
    (All-from_recursion (λ (b : List ℕ). v.name ≢ b) (map (λ (w : DraftVar). w.name) vars)
    (each_mapped (λ (b : List ℕ). v.name ≢ b) (λ (w : DraftVar). w.name) vars apart.0))
    (names_apart vars apart.1)

-- ---- the variables of a class

-- All machines of a chain but the last are extended by that one.
extended_all : (draft : Draft) (m : ℕ) (machines : List ℕ) → IsInRange draft → IsChain draft m machines
    → AllByRecursion (ExtendsFar draft m) (take (length machines - 1) machines)
extended_all draft m _ range (chain_base parts is none) = tt
extended_all draft m _ range (chain_extended other {machines} extends chain) =
    subst (AllByRecursion (ExtendsFar draft m)) (sym (all_but_last machines m))
    (each_with _ (ExtendsFar draft m) machines (λ x up. far_or (directly extends) up) (machines_up draft other machines range chain))

module _ (draft : Draft) (class : DraftClass) (P : DraftVar → Type 0)
    (of_own : (k : ℕ) (v : DraftVar) → slice_get class.vars k ≡ Some v → P v)
    (of_other : (number k : ℕ) (other : DraftClass) (v : DraftVar) → slice_get draft.classes number ≡ Some other → ExtendsFar draft class.machine other.machine
    → slice_get other.vars k ≡ Some v → P v) where
  of_machine : (m : ℕ) → ExtendsFar draft class.machine m → AllByRecursion P (machine_variables draft m)
  of_machine m far =
      among P m draft.classes
      (λ number other is same. each_from P other.vars (λ k v. of_other number k other v is (subst (ExtendsFar draft class.machine) (sym same) far)))

  -- What holds of its own variables and of those that it inherits holds of all.
  pub of_class : (machines : List ℕ) → IsInRange draft → IsChain draft class.machine machines → AllByRecursion P (class_variables draft machines class)
  of_class machines range chain =
      kept_with P (flat_map (machine_variables draft) (take (length machines - 1) machines) ++ class.vars) [] tt
      (each_append P (flat_map (machine_variables draft) (take (length machines - 1) machines)) class.vars
      (each_flat P (machine_variables draft) (take (length machines - 1) machines)
      (each_with (ExtendsFar draft class.machine) (λ m. AllByRecursion P (machine_variables draft m)) (take (length machines - 1) machines) of_machine
      (extended_all draft class.machine machines range chain)))
      (each_from P class.vars of_own))

-- ---- flat drafts

module _ (draft : Draft) (class : ℕ) (flat : FlatDraft) (range : IsInRange draft) (flattens : Flattens draft class flat) where
  abbrev names : List (List ℕ)
  names = map (λ (v : DraftVar). v.name) flat.vars

  abbrev of : DraftClass
  of = flattens.of

  vars_are : flat.vars ≡ class_variables draft flattens.flattened.lineage.machines of
  vars_are = flattens.flattened.merged.vars ∙ ap (λ machines. class_variables draft machines of) flattens.flattened.gathers.machines

  pub vars_apart : AllPairs (λ (a b : List ℕ). a ≢ b) names
  vars_apart = names_apart flat.vars (subst Apart (sym vars_are) (kept_apart
      (flat_map (machine_variables draft) (take (length flattens.flattened.lineage.machines - 1) flattens.flattened.lineage.machines) ++ of.vars) [] tt))

  -- Each is a variable of a class of the draft.
  pub vars_all : (P : DraftVar → Type 0)
      → ((k : ℕ) (v : DraftVar) → slice_get of.vars k ≡ Some v → P v)
      → ((number k : ℕ) (other : DraftClass) (v : DraftVar) → slice_get draft.classes number ≡ Some other → ExtendsFar draft of.machine other.machine
      → slice_get other.vars k ≡ Some v → P v)
      → AllByRecursion P flat.vars
  vars_all P of_own of_other =
      subst (AllByRecursion P) (sym vars_are)
      (of_class draft of P of_own of_other flattens.flattened.lineage.machines range flattens.flattened.inherits.chain)

  vars_known : AllByRecursion (KnowsVariable draft of) names
  vars_known =
      each_mapped (KnowsVariable draft of) (λ (v : DraftVar). v.name) flat.vars
      (vars_all (λ (v : DraftVar). KnowsVariable draft of v.name) (λ k v at. own v k at refl)
      (λ number k other v is far at. inherited other v number k is far at refl))

  pub flat_vars_few : length flat.vars ≤ 64
  flat_vars_few =
      let few : length names ≤ 64 = (each_at _ draft.classes class of range.classes flattens.is).vars names vars_apart vars_known in
      let size : length names ≡ length flat.vars = length-map flat.vars (λ (v : DraftVar). v.name) in
      omega (arith, few, size)
