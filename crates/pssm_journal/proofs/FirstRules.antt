-- The first rule that a line breaks is one rule.
use Rattle.std.proofs.Common.{◌≡◌, ℕ, ◌<◌, eqb, cond, List, refl, sym, ap, subst, ◌∙◌, arith, inl, inr}
use Rattle.std.proofs.lemmas.Bool.{cases_lt}
use Rattle.pssm_semantics.specs.declared.entry.Entry.{Entry}
use Rattle.pssm_semantics.specs.declared.entry.Rule.{Rule}
use Rattle.pssm_semantics.specs.declared.entry.Rule.TheVariants.{A1, A2, A3, A4, A5, A6, A7, A8, A9, A10, A11, A12}
use Rattle.pssm_semantics.specs.declared.line.Line.{Line}
use Rattle.pssm_semantics.specs.declared.setting.Setting.{Setting}
use Rattle.pssm_semantics.specs.Rules.{Holds}
use Rattle.pssm_semantics.specs.Verdict.{IsFirstBroken, number_of}
use Rattle.pssm_journal.specs.Entries.{IsEntryOf, BreaksNames}
use Rattle.pssm_journal.specs.Judged.{BreaksRule, by_entry, by_names}
use Rattle.pssm_journal.proofs.EntryLists.{one_entry}

rule_at : ℕ → Rule
rule_at n = cond (eqb n 1) A1 (cond (eqb n 2) A2 (cond (eqb n 3) A3 (cond (eqb n 4) A4 (cond (eqb n 5) A5 (cond (eqb n 6) A6 (cond (eqb n 7) A7 (cond (eqb n 8) A8 (cond (eqb n 9) A9 (cond (eqb n 10) A10 (cond (eqb n 11) A11 A12))))))))))

rule_of_number : (r : Rule) → rule_at (number_of r) ≡ r
unfolding rule_at
rule_of_number A1 = refl
rule_of_number A2 = refl
rule_of_number A3 = refl
rule_of_number A4 = refl
rule_of_number A5 = refl
rule_of_number A6 = refl
rule_of_number A7 = refl
rule_of_number A8 = refl
rule_of_number A9 = refl
rule_of_number A10 = refl
rule_of_number A11 = refl
rule_of_number A12 = refl

same_number : (r s : Rule) → number_of r ≡ number_of s → r ≡ s
same_number r s e = sym (rule_of_number r) ∙ ap rule_at e ∙ rule_of_number s

first_number : (r : Rule) → 0 < number_of r
first_number A1 = omega arith
first_number A2 = omega arith
first_number A3 = omega arith
first_number A4 = omega arith
first_number A5 = omega arith
first_number A6 = omega arith
first_number A7 = omega arith
first_number A8 = omega arith
first_number A9 = omega arith
first_number A10 = omega arith
first_number A11 = omega arith
first_number A12 = omega arith

one_first : (setting : Setting) (J : List Entry) (e : Entry) (r s : Rule) → IsFirstBroken (Holds setting) J e r → IsFirstBroken (Holds setting) J e s → r ≡ s
one_first setting J e r s p q =
    elim (cases_lt (number_of r) (number_of s)) [
      | inl lower ↦ absurd (p.broken (q.earlier r lower))
      | inr le ↦ elim (cases_lt (number_of s) (number_of r)) [
        | inl higher ↦ absurd (q.broken (p.earlier s higher))
        | inr ge ↦ same_number r s (omega arith)
      ]
    ]

names_first : (setting : Setting) (J : List Entry) (line : Line) (e : Entry) (r : Rule) → BreaksNames setting line → IsEntryOf setting line e → IsFirstBroken (Holds setting) J e r → r ≡ A1
names_first setting J line e r none writes first =
    elim (cases_lt (number_of A1) (number_of r)) [
      | inl later ↦ absurd (none e writes (λ K. first.earlier A1 later))
      | inr le ↦ let some = first_number r in same_number r A1 (omega arith)
    ]

-- one rule is the first that a line breaks
pub one_rule : (setting : Setting) (J : List Entry) (line : Line) (r s : Rule) → BreaksRule setting J line r → BreaksRule setting J line s → r ≡ s
one_rule setting J line r s (by_entry d p f) (by_entry e q g) =
    let same : d ≡ e = one_entry setting line d e p q in
    one_first setting J e r s (subst (λ (x : Entry). IsFirstBroken (Holds setting) J x r) same f) g
one_rule setting J line r s (by_entry d p f) (by_names none is) = names_first setting J line d r none p f ∙ sym is
one_rule setting J line r s (by_names none is) (by_entry e q g) = is ∙ sym (names_first setting J line e s none q g)
one_rule setting J line r s (by_names none is) (by_names none' is') = is ∙ sym is'
