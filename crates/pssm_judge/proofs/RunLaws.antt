-- What one line more does to a run.
use Rattle.std.proofs.Common.{◌≡◌, ◌+◌, ◌<◌, ◌≤◌, ◌⊎◌, ◌↔◌, ℕ, Result, Ok, Err, Bool, true, false, Option, Some, None, List, [], ◌∷◌, ◌++◌, length, sym, ap, subst, ◌∙◌, arith, inl, inr, length-append}
use Rattle.std.specs.Prelude.{IsTrue, IfOk, IfSome, IfNone}
use Rattle.std.proofs.lemmas.List.Sums.{sum_by_push}
use Rattle.pssm_semantics.specs.declared.entry.Entry.{Entry}
use Rattle.pssm_semantics.specs.declared.line.Line.{Line}
use Rattle.pssm_semantics.specs.declared.setting.Setting.{Setting}
use Rattle.pssm_semantics.specs.Pool.{output_count}
use Rattle.pssm_semantics.specs.Admissible.{MayFollow, IsAdmissibleIn, KeepsJournalLimits}
use Rattle.pssm_semantics_laws.proofs.Appending.{admissible_push}
use Rattle.pssm_journal.specs.Entries.{IsEntryOf, KeepsNames, BreaksNames}
use Rattle.pssm_journal.specs.Judged.{line_output_count, PassesLimits}
use Rattle.pssm_journal.proofs.OutputCounts.{entry_output_count, line_outputs}
use Rattle.pssm_system.specs.History.{History}
use Rattle.pssm_judge.specs.declared.run.Stop.{Stop}
use Rattle.pssm_judge.specs.inner.Following.{IsTold, TakesLine}

-- the outputs of a journal with the entry of a line more
pub outputs_push : (setting : Setting) (J : List Entry) (line : Line) (e : Entry) → IsEntryOf setting line e → output_count (J ++ e ∷ []) ≡ output_count J + line_output_count line
outputs_push setting J line e is = sum_by_push entry_output_count J e ∙ ap (λ (n : ℕ). output_count J + n) (sym (line_outputs setting line e is))

-- A line that does not pass the limits keeps them.
pub limits_push : (setting : Setting) (J : List Entry) (line : Line) (e : Entry) → IsEntryOf setting line e → (PassesLimits J line → ⊥) → KeepsJournalLimits (J ++ e ∷ [])
limits_push setting J line e is within =
    let longer = length-append J (e ∷ []) in
    let more = outputs_push setting J line e is in
    record {
      entries = omega (arith, longer, at_most 1000000 (length J + 1) (λ (x : 1000000 < length J + 1). within (inl x)));
      outputs = omega (arith, more, at_most 2000000 (output_count J + line_output_count line) (λ (x : 2000000 < output_count J + line_output_count line). within (inr x)));
    }
  where
    at_most : (limit n : ℕ) → (limit < n → ⊥) → n ≤ limit
    at_most limit n above = omega (arith, above)

-- The run has taken the entry of the line.
pub takes_line : (old new : History) (line : Line) (e : Entry) → IsAdmissibleIn old.setting old.journal → IsEntryOf old.setting line e → (PassesLimits old.journal line → ⊥)
    → MayFollow old.setting old.journal e → new.setting ≡ old.setting → new.journal ≡ old.journal ++ e ∷ [] → TakesLine old new line
takes_line old new line e admissible is within follows same grown = record {
  entry = e;
  is = is;
  setting_is = same;
  journal_is = grown;
  admissible =
      subst (λ (s : Setting). IsAdmissibleIn s new.journal) (sym same)
      (subst (λ (J : List Entry). IsAdmissibleIn old.setting J) (sym grown) (admissible_push old.setting old.journal e admissible follows));
  limits = subst (λ (J : List Entry). KeepsJournalLimits J) (sym grown) (limits_push old.setting old.journal line e is within);
}

-- The test on the limits failed: the line does not pass them.
pub keeps_within : (J : List Entry) (line : Line) (entries outputs further : ℕ) (passes : Bool) → entries ≡ length J → outputs ≡ output_count J → further ≡ line_output_count line
    → IsTrue passes ↔ ((1000000 < entries + 1) ⊎ (2000000 < outputs + further)) → passes ≡ false → PassesLimits J line → ⊥
keeps_within J line entries outputs further passes e o f test failed p =
    let met : passes ≡ true = test.1 (rw (e, o, f) p) in
    cc

-- what was found of a line: its entry
pub found_writes : (s t : Setting) (line : Line) (o : Option Entry) (e : Entry) → s ≡ t → o ≡ Some e → IfSome o (IsEntryOf s line) → IsEntryOf t line e
found_writes s t line o e same is found = subst (λ (x : Setting). IsEntryOf x line e) same (subst (λ (p : Option Entry). IfSome p (IsEntryOf s line)) is found)

-- its names are known
pub found_keeps : (s t : Setting) (o : Option Entry) (e : Entry) → s ≡ t → o ≡ Some e → IfSome o (KeepsNames s) → KeepsNames t e
found_keeps s t o e same is found = subst (λ (x : Setting). KeepsNames x e) same (subst (λ (p : Option Entry). IfSome p (KeepsNames s)) is found)

-- nothing was found
pub found_none : (s t : Setting) (line : Line) (o : Option Entry) → s ≡ t → o ≡ None → IfNone o (BreaksNames s line) → BreaksNames t line
found_none s t line o same is none = subst (λ (x : Setting). BreaksNames x line) same (subst (λ (p : Option Entry). IfNone p (BreaksNames s line)) is none)

-- What is known of an entry before it is added.
pub told_line : (run : History) (line : Line) (e : Entry) (entries outputs further : ℕ) (passes : Bool) → IsAdmissibleIn run.setting run.journal → IsEntryOf run.setting line e → KeepsNames run.setting e
    → entries ≡ length run.journal → outputs ≡ output_count run.journal → further ≡ line_output_count line → IsTrue passes ↔ ((1000000 < entries + 1) ⊎ (2000000 < outputs + further)) → passes ≡ false
    → IsTold run line (entries + 1) further e
told_line run line e entries outputs further passes admissible writes known all told more test failed = record {
  admissible = admissible;
  writes = writes;
  known = known;
  within = keeps_within run.journal line entries outputs further passes all told more test failed;
  placed = ap (λ (n : ℕ). n + 1) all;
  counted = more;
}

-- The same of the same run.
pub told_same : (run other : History) (line : Line) (position outputs : ℕ) (e : Entry) → run ≡ other → IsTold other line position outputs e → IsTold run line position outputs e
told_same run other line position outputs e is told = subst (λ (h : History). IsTold h line position outputs e) (sym is) told

-- What is said of each line of an entry is said of each line that was read.
pub by_told : {E : Type 0} (r : Result (Option Stop) E) (A B Told : Line → Type 0) (P : Option Stop → Line → Type 0) → ((line : Line) → A line → B line → Told line)
    → IfOk r (λ stop. (line : Line) → Told line → P stop line) → IfOk r (λ stop. (line : Line) → A line → B line → P stop line)
by_told (Ok stop) A B Told P from h = λ line a b. h line (from line a b)
by_told (Err e) A B Told P from h = tt

pub at_told : {E : Type 0} (r : Result (Option Stop) E) (Told : Line → Type 0) (P : Option Stop → Line → Type 0) (l : Line) → Told l
    → IfOk r (λ stop. (line : Line) → Told line → P stop line) → IfOk r (λ stop. P stop l)
at_told (Ok stop) Told P l told h = h l told
at_told (Err e) Told P l told h = tt
