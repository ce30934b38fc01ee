-- The machine in which an element stands.
use Rattle.std.proofs.Common.{◌≡◌, ◌<◌, ℕ, zero, suc, Bool, true, false, cond, Option, Some, None, refl, sym, ap, ◌∙◌, arith}
use Rattle.std.specs.Option.{option_and_then}
use Rattle.pssm_numbering.specs.Numbering.{ModelFile, role_at, parent_of, is_machine, machine_within, machine_of}
use Rattle.pssm_xmi.specs.Faultless.{StandBehind}
use Rattle.pssm_xmi.proofs.Tests.{by_test}

-- A machine is its own.
pub own_machine : (file : ModelFile) (n : ℕ) → is_machine (role_at file n) ≡ true → machine_of file n ≡ Some n
own_machine file n here = ap (λ (b : Bool). cond b (Some n) (option_and_then (machine_within n file) (parent_of file n))) here

above_found : (file : ModelFile) (find : ℕ → Option ℕ) (m : ℕ) → ((p : ℕ) → find p ≡ Some m → is_machine (role_at file m) ≡ true)
    → (o : Option ℕ) → option_and_then find o ≡ Some m → is_machine (role_at file m) ≡ true
above_found file find m before None at = absurd (cc)
above_found file find m before (Some p) at = before p at

-- What is found is a machine.
found_machine : (steps : ℕ) (file : ModelFile) (n m : ℕ) → machine_within steps file n ≡ Some m → is_machine (role_at file m) ≡ true
found_machine zero file n m found = absurd (cc)
found_machine (suc steps) file n m found =
    by_test (is_machine (role_at file n))
    (λ here. let at = sym (ap (λ (b : Bool). cond b (Some n) (option_and_then (machine_within steps file) (parent_of file n))) here) ∙ found in
    let same : n ≡ m = cc in
    ap (λ (k : ℕ). is_machine (role_at file k)) (sym same) ∙ here)
    (λ other. above_found file (machine_within steps file) m (λ p at. found_machine steps file p m at) (parent_of file n)
    (sym (ap (λ (b : Bool). cond b (Some n) (option_and_then (machine_within steps file) (parent_of file n))) other) ∙ found))

pub is_found : (file : ModelFile) (n m : ℕ) → machine_of file n ≡ Some m → is_machine (role_at file m) ≡ true
is_found file n m found = found_machine (suc n) file n m found

module _ (file : ModelFile) (ordered : StandBehind file.doc) where
  above_same : (n : ℕ) (find seek : ℕ → Option ℕ) → ((p : ℕ) → p < n → find p ≡ seek p) → (o : Option ℕ) → parent_of file n ≡ o
      → option_and_then find o ≡ option_and_then seek o
  above_same n find seek before None is = refl
  above_same n find seek before (Some p) is = before p (ordered n p is)

  -- More steps find the same.
  enough : (s t n : ℕ) → n < s → n < t → machine_within s file n ≡ machine_within t file n
  enough zero t n less more = absurd (omega (arith, less))
  enough (suc s) zero n less more = absurd (omega (arith, more))
  enough (suc s) (suc t) n less more =
      ap (λ (o : Option ℕ). cond (is_machine (role_at file n)) (Some n) o)
      (above_same n (machine_within s file) (machine_within t file)
      (λ p before. enough s t p (omega (arith, before, less)) (omega (arith, before, more))) (parent_of file n) refl)

  -- What is no machine has that of its parent.
  pub machine_above : (n p : ℕ) → is_machine (role_at file n) ≡ false → parent_of file n ≡ Some p → machine_of file n ≡ machine_of file p
  machine_above n p other is =
      let before = ordered n p is in
      ap (λ (b : Bool). cond b (Some n) (option_and_then (machine_within n file) (parent_of file n))) other
      ∙ ap (λ (o : Option ℕ). option_and_then (machine_within n file) o) is
      ∙ enough n (suc p) p before (omega arith)
