-- The rules in their order.
use Rattle.std.proofs.Common.{◌≡◌, ◌<◌, ◌≤◌, ◌+◌, ℕ, zero, suc, List, refl, sym, ap, subst, ◌∙◌, ⊎_elim, arith}
use Rattle.std.proofs.lemmas.Bool.{cases_lt}
use Rattle.pssm_semantics.specs.declared.entry.Entry.{Entry}
use Rattle.pssm_semantics.specs.declared.entry.Rule.{Rule}
use Rattle.pssm_semantics.specs.declared.entry.Rule.TheVariants.{A1, A2, A3, A4, A5, A6, A7, A8, A9, A10, A11, A12}
use Rattle.pssm_semantics.specs.Verdict.{number_of, IsFirstBroken}

-- a number says which rule it is of
rule_with : ℕ → Rule
rule_with zero = A1
rule_with (suc zero) = A1
rule_with (suc (suc zero)) = A2
rule_with (suc (suc (suc zero))) = A3
rule_with (suc (suc (suc (suc zero)))) = A4
rule_with (suc (suc (suc (suc (suc zero))))) = A5
rule_with (suc (suc (suc (suc (suc (suc zero)))))) = A6
rule_with (suc (suc (suc (suc (suc (suc (suc zero))))))) = A7
rule_with (suc (suc (suc (suc (suc (suc (suc (suc zero)))))))) = A8
rule_with (suc (suc (suc (suc (suc (suc (suc (suc (suc zero))))))))) = A9
rule_with (suc (suc (suc (suc (suc (suc (suc (suc (suc (suc zero)))))))))) = A10
rule_with (suc (suc (suc (suc (suc (suc (suc (suc (suc (suc (suc zero))))))))))) = A11
rule_with (suc (suc (suc (suc (suc (suc (suc (suc (suc (suc (suc (suc n)))))))))))) = A12

rule_of_number : (rule : Rule) → rule_with (number_of rule) ≡ rule
unfolding rule_with
rule_of_number A1 = refl
rule_of_number A2 = refl
rule_of_number A3 = refl
rule_of_number A4 = refl
rule_of_number A5 = refl
rule_of_number A6 = refl
rule_of_number A7 = refl
rule_of_number A8 = refl
rule_of_number A9 = refl
rule_of_number A10 = refl
rule_of_number A11 = refl
rule_of_number A12 = refl

pub same_rule : (a b : Rule) → number_of a ≡ number_of b → a ≡ b
same_rule a b e = sym (rule_of_number a) ∙ ap rule_with e ∙ rule_of_number b

pub number_below : (rule : Rule) → number_of rule < 13
number_below A1 = omega arith
number_below A2 = omega arith
number_below A3 = omega arith
number_below A4 = omega arith
number_below A5 = omega arith
number_below A6 = omega arith
number_below A7 = omega arith
number_below A8 = omega arith
number_below A9 = omega arith
number_below A10 = omega arith
number_below A11 = omega arith
number_below A12 = omega arith

pub number_above : (rule : Rule) → 0 < number_of rule
number_above A1 = omega arith
number_above A2 = omega arith
number_above A3 = omega arith
number_above A4 = omega arith
number_above A5 = omega arith
number_above A6 = omega arith
number_above A7 = omega arith
number_above A8 = omega arith
number_above A9 = omega arith
number_above A10 = omega arith
number_above A11 = omega arith
number_above A12 = omega arith

module _ (Holds : Rule → List Entry → Entry → Type 0) (J : List Entry) (e : Entry) where
  -- the entry keeps the rules below a number
  pub record IsKeptBelow (n : ℕ) : Type 0 where
    pub each : (rule : Rule) → number_of rule < n → Holds rule J e

  pub kept_more : (rule : Rule) (n : ℕ) → number_of rule ≡ n → Holds rule J e → IsKeptBelow n → IsKeptBelow (n + 1)
  kept_more rule n is h so_far = record {
    each = λ other lt.
        ⊎_elim (λ (below : number_of other < n). so_far.each other below)
        (λ (past : n ≤ number_of other). subst (λ r. Holds r J e) (same_rule rule other (let same : number_of rule ≡ number_of other = omega arith in same)) h)
        (cases_lt (number_of other) n);
  }

  pub kept_first : Holds A1 J e → IsKeptBelow 2
  kept_first h = kept_more A1 1 refl h (record { each = λ rule lt. absurd (let pos = number_above rule in omega arith) })

  pub follows : IsKeptBelow 13 → (rule : Rule) → Holds rule J e
  follows h rule = h.each rule (number_below rule)

  pub first_broken : (rule : Rule) (n : ℕ) → number_of rule ≡ n → (Holds rule J e → ⊥) → IsKeptBelow n → IsFirstBroken Holds J e rule
  first_broken rule n is broken h = record { broken = broken; earlier = λ other lt. h.each other (omega arith) }
