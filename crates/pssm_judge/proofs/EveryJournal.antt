-- Of each bytes something is to be said as a journal of the setting.
use Rattle.std.proofs.Common.{◌≡◌, ◌+◌, ◌<◌, ℕ, zero, suc, true, false, List, [], ◌∷◌, ◌++◌, length, Option, Some, None, refl, sym, ap, subst, ◌∙◌, inl, inr, arith}
use Rattle.std.proofs.lemmas.Bool.{cases_lt, false≢true}
use Rattle.std.proofs.lemmas.List.{append-nil, length-append}
use Rattle.pssm_semantics.specs.declared.entry.Entry.{Entry}
use Rattle.pssm_semantics.specs.declared.entry.Rule.{Rule}
use Rattle.pssm_semantics.specs.declared.entry.Rule.TheVariants.{A1, A2, A3, A4, A5, A6, A7, A8, A9, A10, A11, A12}
use Rattle.pssm_semantics.specs.declared.line.Line.{Line}
use Rattle.pssm_semantics.specs.declared.setting.Setting.{Setting}
use Rattle.pssm_semantics.specs.Rules.{Holds}
use Rattle.pssm_semantics.specs.Verdict.{IsFirstBroken, number_of}
use Rattle.pssm_semantics.specs.Admissible.{MayFollow}
use Rattle.pssm_semantics_laws.proofs.Admissible.{IsAdmissible-nil}
use Rattle.pssm_semantics_laws.proofs.Appending.{admissible_push, every_push}
use Rattle.pssm_lines.specs.LineText.{line_text, header_line, journal_text}
use Rattle.pssm_lines.specs.Faults.{IsJournalLine, in_header, in_line}
use Rattle.pssm_journal.specs.Entries.{entry_named, IsEntryOf}
use Rattle.pssm_journal.specs.Judged.{Judged, Accepted, Refused, Limited, BadText, PassesLimits, IsKept, BreaksRule, by_entry, by_names, IsJudged}
use Rattle.pssm_journal.proofs.Fronts.{one_more_line}
use Rattle.pssm_object.proofs.Kept.{same_rule, number_above, number_below}
use Rattle.pssm_judge.proofs.FollowingLaws.{entries_append}
use Rattle.pssm_judge.proofs.RunLaws.{limits_push}
use Rattle.pssm_judge.proofs.SomeFault.{some_fault}

-- An entry breaks a rule first, or breaks none.
module _ (setting : Setting) (J : List Entry) (e : Entry) (no_first : (rule : Rule) → IsFirstBroken (Holds setting) J e rule → ⊥) where
  -- It keeps the rules with numbers below this one.
  abbrev KeepsBelow : ℕ → Type 0
  KeepsBelow n = (rule : Rule) → number_of rule < n → Holds setting rule J e

  -- It keeps one rule more.
  one_more : (rule : Rule) → KeepsBelow (number_of rule) → (KeepsBelow (number_of rule + 1) → ⊥) → ⊥
  one_more rule below not_more = no_first rule (record {
    broken = λ holds. not_more (λ other lt. elim (cases_lt (number_of other) (number_of rule)) [
      | inl lower ↦ below other lower
      | inr ge ↦ subst (λ r. Holds setting r J e) (same_rule rule other (omega (arith, lt, ge))) holds
    ]);
    earlier = below;
  })

  breaks_or_follows : (MayFollow setting J e → ⊥) → ⊥
  breaks_or_follows not_all =
      one_more A1 (λ rule lt. absurd (omega (arith, lt, number_above rule))) (λ b1. one_more A2 b1 (λ b2. one_more A3 b2 (λ b3. one_more A4 b3 (λ b4.
      one_more A5 b4 (λ b5. one_more A6 b5 (λ b6. one_more A7 b6 (λ b7. one_more A8 b7 (λ b8.
      one_more A9 b8 (λ b9. one_more A10 b9 (λ b10. one_more A11 b10 (λ b11. one_more A12 b11 (λ b12.
      not_all (λ rule. b12 rule (number_below rule))))))))))))))

module _ (setting : Setting) (bytes : List ℕ) (unsaid : (judged : Judged) → IsJudged setting bytes judged → ⊥) where
  -- A line that stands behind lines that are kept.
  module _ (lines : List Line) (J : List Entry) (rest after : List ℕ) (line : Line) (text : bytes ≡ journal_text lines ++ rest) (kept : IsKept setting lines J) (is_line : IsJournalLine line)
      (begins : rest ≡ line_text line ++ 10 ∷ after) where
    with_line : bytes ≡ journal_text (lines ++ line ∷ []) ++ after
    with_line = text ∙ ap (λ (t : List ℕ). journal_text lines ++ t) begins ∙ sym (one_more_line lines line after)

    within : PassesLimits J line → ⊥
    within passes = unsaid (Limited (length J + 1))
        (record { lines = lines; journal = J; line = line; rest = after; text = with_line; kept = kept; is_line = is_line; passes = passes; position_is = refl })

    breaks_none : (rule : Rule) → BreaksRule setting J line rule → ⊥
    breaks_none rule breaks = unsaid (Refused (length J + 1) rule)
        (record { lines = lines; journal = J; line = line; rest = after; text = with_line; kept = kept; is_line = is_line; within = within; breaks = breaks; position_is = refl })

    -- It is kept too.
    module _ (never_more : (K : List Entry) → bytes ≡ journal_text (lines ++ line ∷ []) ++ after → IsKept setting (lines ++ line ∷ []) K → length after < length rest → ⊥) where
      goes_on : (e : Entry) → IsEntryOf setting line e → MayFollow setting J e → ⊥
      goes_on e writes follows = never_more (J ++ e ∷ []) with_line (record {
        lines_are = every_push IsJournalLine lines line kept.lines_are is_line;
        entries_are = entries_append setting lines (line ∷ []) J (e ∷ []) kept.entries_are (writes, tt);
        admissible = admissible_push setting J e kept.admissible follows;
        limits = limits_push setting J line e writes within;
      }) (omega (arith, ap (λ (t : List ℕ). length t) begins, length-append (line_text line) (10 ∷ after)))

      never_line : (o : Option Entry) → entry_named setting line ≡ o → ⊥
      never_line None none = breaks_none A1 (by_names (λ e writes keeps. absurd (cc)) refl)
      never_line (Some e) writes = breaks_or_follows setting J e (λ rule first. breaks_none rule (by_entry e writes first)) (goes_on e writes)

  -- No lines are kept: they are all, or what follows them has a fault, or a line with which something is to be said or one more is kept.
  never_kept : (fuel : ℕ) (lines : List Line) (J : List Entry) (rest : List ℕ) → bytes ≡ journal_text lines ++ rest → IsKept setting lines J → length rest < fuel → ⊥
  never_kept zero lines J rest text kept few = absurd (omega (arith, few))
  never_kept (suc fuel) lines J [] text kept few =
      unsaid (Accepted (length J)) (record { lines = lines; journal = J; text = text ∙ append-nil (journal_text lines); kept = kept; entries_are = refl })
  never_kept (suc fuel) lines J (c ∷ rest) text kept few =
      some_fault true (2 + length lines) (c ∷ rest) (λ both. absurd (let none : c ∷ rest ≡ [] = both.1 in cc))
      (λ line after is_line begins.
      never_line lines J (c ∷ rest) after line text kept is_line begins
      (λ K more also less. never_kept fuel (lines ++ line ∷ []) K after more also (omega (arith, few, less)))
      (entry_named setting line) refl)
      (λ fault here. unsaid (BadText fault) (record { lines = lines; journal = J; bad = in_line (c ∷ rest) text kept.lines_are here; kept = kept }))

-- There are no bytes of which nothing is to be said.
pub something_said : (setting : Setting) (bytes : List ℕ) → ((judged : Judged) → IsJudged setting bytes judged → ⊥) → ⊥
something_said setting bytes unsaid =
    let kept : IsKept setting [] [] = record { lines_are = tt; entries_are = tt; admissible = IsAdmissible-nil (Holds setting); limits = record { entries = omega arith; outputs = omega arith } } in
    some_fault false 1 bytes (λ both. false≢true both.0)
    (λ rest begins. never_kept setting bytes unsaid (suc (length rest)) [] [] rest (begins ∙ ap (λ (t : List ℕ). t ++ rest) (sym (append-nil header_line))) kept (omega arith))
    (λ fault here. unsaid (BadText fault) (record { lines = []; journal = []; bad = in_header refl here; kept = kept }))
