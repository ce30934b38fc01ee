-- The first of the faults of references and counts.
use Rattle.std.proofs.Common.{◌≡◌, ◌<◌, ◌≤◌, ℕ, Option, Some, None, refl, sym, subst, inl, inr, arith}
use Rattle.std.specs.Prelude.{MatchOption, nat_lt}
use Rattle.pssm_xml.specs.Elements.{BeginsAt}
use Rattle.pssm_profile.specs.declared.fault.XmiFault.{XmiFault}
use Rattle.pssm_numbering.specs.Numbering.{ModelFile}
use Rattle.pssm_unmet.specs.declared.unmet.Unmet.{Unmet}
use Rattle.pssm_unmet.specs.declared.unmet.Unmet.TheVariants as unmet
use Rattle.pssm_unmet.specs.Unmet as unmets
use Rattle.pssm_unmet.specs.Unmet.{HasUnmet, HasNoUnmet, IsFirstUnmet}
use Rattle.pssm_limits.specs.Limits.{PassesLimit, IsFirstPast}
use Rattle.pssm_xmi.specs.Faults.{of_unmet, HasSecondFault, HasNoSecondFault, byte_of, rank_of, ComesBefore, IsFirstSecondFault}
use Rattle.pssm_xmi.specs.Faults.HasSecondFault.{reference, many}
use Rattle.pssm_xmi.specs.inner.First.{too_many, earlier, first_of}
use Rattle.pssm_xmi.proofs.Tests.{by_test}

-- ---- the places of both

same_byte : (one : Unmet) → byte_of (of_unmet one) ≡ unmets.byte_of one
same_byte (unmet.Unknown at) = refl
same_byte (unmet.Event at) = refl

-- A reference comes before a count.
low_rank : (one : Unmet) → rank_of (of_unmet one) ≤ 4
low_rank (unmet.Unknown at) = omega arith
low_rank (unmet.Event at) = omega arith

comes_before : (one other : Unmet) → ComesBefore (of_unmet one) (of_unmet other) → unmets.ComesBefore one other
comes_before (unmet.Unknown a) (unmet.Unknown b) (inl less) = inl less
comes_before (unmet.Unknown a) (unmet.Event b) (inl less) = inl less
comes_before (unmet.Event a) (unmet.Unknown b) (inl less) = inl less
comes_before (unmet.Event a) (unmet.Event b) (inl less) = inl less
comes_before (unmet.Unknown a) (unmet.Unknown b) (inr at) = let less = at.1 in absurd (omega (arith, less))
comes_before (unmet.Unknown a) (unmet.Event b) (inr at) = inr (at.0, omega arith)
comes_before (unmet.Event a) (unmet.Unknown b) (inr at) = let less = at.1 in absurd (omega (arith, less))
comes_before (unmet.Event a) (unmet.Event b) (inr at) = let less = at.1 in absurd (omega (arith, less))

count_before : (at byte : ℕ) → ComesBefore (too_many at) (too_many byte) → at < byte
count_before at byte (inl less) = less
count_before at byte (inr p) = let less = p.1 in absurd (omega (arith, less))

reference_before : (one : Unmet) (byte : ℕ) → ComesBefore (of_unmet one) (too_many byte) → unmets.byte_of one ≤ byte
reference_before one byte (inl less) = let same = same_byte one in omega (arith, less, same)
reference_before one byte (inr p) = let at = p.0 in let same = same_byte one in omega (arith, at, same)

count_before_reference : (byte : ℕ) (one : Unmet) → ComesBefore (too_many byte) (of_unmet one) → byte < unmets.byte_of one
count_before_reference byte one (inl less) = let same = same_byte one in omega (arith, less, same)
count_before_reference byte one (inr p) = let less = p.1 in let low = low_rank one in absurd (omega (arith, less, low))

-- ---- the first

module _ (file : ModelFile) where
  none_found : HasNoUnmet file → ((n : ℕ) → PassesLimit file n → ⊥) → HasNoSecondFault file
  none_found no_unmet no_many fault (reference {one = one} has) = no_unmet one has
  none_found no_unmet no_many fault (many {n = n} passes begins) = no_many n passes

  -- no fault of a reference comes before this one, and no count stands before it
  reference_first : (one : Unmet) → IsFirstUnmet file one
      → ((n at : ℕ) → PassesLimit file n → BeginsAt file.doc n at → at < unmets.byte_of one → ⊥) → IsFirstSecondFault file (of_unmet one)
  reference_first one first no_many = record { has = reference first.has; first = none_before } where
    none_before : (other : XmiFault) → HasSecondFault file other → ComesBefore other (of_unmet one) → ⊥
    none_before other (reference {one = o} has) before = first.first o has (comes_before o one before)
    none_before other (many {n = n} {byte = at} passes begins) before = no_many n at passes begins (count_before_reference at one before)

  many_first : (byte : ℕ) → IsFirstPast file byte
      → ((one : Unmet) → HasUnmet file one → unmets.byte_of one ≤ byte → ⊥) → IsFirstSecondFault file (too_many byte)
  many_first byte past no_unmet = record { has = many past.passes past.begins; first = none_before } where
    none_before : (other : XmiFault) → HasSecondFault file other → ComesBefore other (too_many byte) → ⊥
    none_before other (reference {one = o} has) before = no_unmet o has (reference_before o byte before)
    none_before other (many {n = n} {byte = at} passes begins) before = past.first n at passes begins (count_before at byte before)

  both_first : (one : Unmet) (byte : ℕ) → IsFirstUnmet file one → IsFirstPast file byte → IsFirstSecondFault file (earlier one byte)
  both_first one byte first past =
      by_test (nat_lt byte (unmets.byte_of one))
      (λ e. let less : byte < unmets.byte_of one = grind (arith, e) in
      subst (IsFirstSecondFault file) (sym (rw e refl))
      (many_first byte past (λ o has upto. first.first o has (inl (omega (arith, less, upto))))))
      (λ e. let more : unmets.byte_of one ≤ byte = grind (arith, e) in
      subst (IsFirstSecondFault file) (sym (rw e refl))
      (reference_first one first (λ n at passes begins before. past.first n at passes begins (omega (arith, before, more)))))

  -- Of the first reference and the first count comes the first fault.
  pub first_found : (one : Option Unmet) (count : Option ℕ) → MatchOption one (HasNoUnmet file) (λ o. IsFirstUnmet file o)
      → MatchOption count ((n : ℕ) → PassesLimit file n → ⊥) (IsFirstPast file)
      → MatchOption (first_of one count) (HasNoSecondFault file) (IsFirstSecondFault file)
  first_found None None no_unmet no_many = none_found no_unmet no_many
  first_found None (Some byte) no_unmet past = many_first byte past (λ o has upto. no_unmet o has)
  first_found (Some one) None first no_many = reference_first one first (λ n at passes begins before. no_many n passes)
  first_found (Some one) (Some byte) first past = both_first one byte first past
