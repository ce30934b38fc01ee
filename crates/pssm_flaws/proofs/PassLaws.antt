-- The pass over the elements, one after another.
use Rattle.std.proofs.Common.{◌≡◌, ◌⊎◌, ◌<◌, ◌≤◌, ◌+◌, ℕ, zero, suc, List, [], ◌∷◌, length, Some, sym, subst, inl, inr, arith}
use Rattle.std.specs.Prelude.{slice_get, Result, Ok, Err, IsErrAnd, IfErr}
use Rattle.std.proofs.lemmas.Bool.{cases_lt}
use Rattle.pssm_xml.specs.Documents.{Element}
use Rattle.pssm_roles.specs.Roles.{HasRole}
use Rattle.pssm_roles.specs.declared.role.Role.{Role}
use Rattle.pssm_profile.specs.declared.fault.XmiFault.{XmiFault}
use Rattle.pssm_profile.specs.declared.fault.XmiFault.TheVariants as xmi_faults
use Rattle.pssm_profile.specs.declared.flaw.Flaw.{Flaw}
use Rattle.pssm_profile.specs.Flaws.{HasFlaw}
use Rattle.pssm_profile.specs.Faults.{IsProfileFault, HasNoProfileFault}
use Rattle.pssm_flaws.specs.inner.Steps.{HasNoFlaw, IsFaultAt, NoneBefore}

pub none_before_first : (doc : List Element) → NoneBefore doc 0
none_before_first doc m flaw has less = omega (arith, less)

pub none_before_next : (doc : List Element) (n : ℕ) → NoneBefore doc n → HasNoFlaw doc n → NoneBefore doc (n + 1)
none_before_next doc n none here m flaw has less = elim (cases_lt m n) [
  | inl before ↦ none m flaw has before
  | inr most ↦ (let is : m ≡ n = omega (arith, most, less) in here flaw (subst (λ (k : ℕ). HasFlaw doc k flaw) is has))
]

-- ---- the end

in_list : {X : Type 0} (xs : List X) (n : ℕ) (x : X) → slice_get xs n ≡ Some x → n < length xs
in_list [] n x is = absurd cc
in_list (y ∷ xs) zero x is = omega arith
in_list (y ∷ xs) (suc n) x is = let less = in_list xs n x is in omega (arith, less)

role_within : (doc : List Element) (n : ℕ) (r : Role) → HasRole doc n r → n < length doc
role_within doc n r (HasRole.root at top) = in_list doc n _ at
role_within doc n r (HasRole.child at parent above) = in_list doc n _ at

flaw_within : (doc : List Element) (n : ℕ) (flaw : Flaw) → HasFlaw doc n flaw → n < length doc
flaw_within doc n flaw (HasFlaw.by_role r is of) = role_within doc n r is

pub none_in_file : (doc : List Element) (n : ℕ) → length doc ≤ n → NoneBefore doc n → HasNoProfileFault doc
none_in_file doc n over none m flaw has = none m flaw has (let less = flaw_within doc m flaw has in omega (arith, less, over))

-- ---- the fault

pub first_in_file : (doc : List Element) (n : ℕ) (fault : XmiFault) → NoneBefore doc n → (fault ≡ xmi_faults.NoMemory) ⊎ IsFaultAt doc n fault
    → (fault ≡ xmi_faults.NoMemory) ⊎ IsProfileFault doc fault
first_in_file doc n fault none (inl is) = inl is
first_in_file doc n fault none (inr here) = inr (record {
  element = n;
  flaw = here.flaw;
  first = record { has = here.has; first = none; least = here.least };
  at = here.at;
  begins = here.begins;
  told = here.told;
})

-- A fault is handed on as it is.
pub handed_on : {X : Type 0} (P : XmiFault → Type 0) (r : Result X XmiFault) (fault : XmiFault) → IsErrAnd r (λ f. f ≡ fault) → P fault → IfErr r P
handed_on P (Ok x) fault is so = absurd is
handed_on P (Err f) fault is so = subst P (sym is) so
