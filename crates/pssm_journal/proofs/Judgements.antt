-- The bytes of a journal are judged in one way.
use Rattle.std.proofs.Common.{◌≡◌, ℕ, suc, ◌+◌, true, false, List, [], ◌∷◌, ◌++◌, length, refl, sym, ap, subst, ◌∙◌, append_assoc, arith, inl, inr}
use Rattle.std.specs.List.{AllByRecursion}
use Rattle.std.proofs.lemmas.List.{append-nil, append_cancel_left, length-append}
use Rattle.std.proofs.lemmas.List.Sums.{sum_by-append, sum_by-cons}
use Rattle.pssm_semantics.specs.declared.entry.Entry.{Entry}
use Rattle.pssm_semantics.specs.declared.entry.Rule.{Rule}
use Rattle.pssm_semantics.specs.declared.entry.Rule.TheVariants.{A1}
use Rattle.pssm_semantics.specs.declared.line.Line.{Line}
use Rattle.pssm_semantics.specs.declared.setting.Setting.{Setting}
use Rattle.pssm_semantics.specs.Rules.{Holds}
use Rattle.pssm_semantics.specs.Pool.{output_count}
use Rattle.pssm_lines.specs.declared.fault.LineFault.{LineFault}
use Rattle.pssm_lines.specs.LineText.{header_line, text_of, journal_text}
use Rattle.pssm_lines.specs.Faults.{IsJournalLine, IsFaultOf, HasFault, in_header, in_line}
use Rattle.pssm_lines.proofs.Spellings.{lines_apart}
use Rattle.pssm_lines.proofs.OneFault.{no_line_fault, no_header_fault, one_reading, no_fault_at_all}
use Rattle.pssm_journal.specs.Entries.{AreEntries}
use Rattle.pssm_journal.specs.Judged.{Judged, Accepted, Refused, Limited, BadText, PassesLimits, line_output_count, IsKept, BreaksRule, by_entry, by_names, IsAccepted, IsRefusedText, IsOverLimit, IsBadJournal, IsJudged}
use Rattle.pssm_journal.proofs.OutputCounts.{line_outputs, entry_output_count}
use Rattle.pssm_journal.proofs.Fronts.{one_more_line, line_and, unfold_line, some_line, no_lines, Compared, shorter, longer, compare}
use Rattle.pssm_journal.proofs.EntryLists.{one_entry, same_entries, IsEntryBetween, entry_between}
use Rattle.pssm_journal.proofs.FirstRules.{one_rule}

-- ---- what ends a reading

-- No journal that is kept goes on with the line after these lines.
abbrev Ends : Setting → List Line → Line → Type 0
Ends setting ls line = (more : List Line) (K : List Entry) → IsKept setting (ls ++ line ∷ more) K → ⊥

-- where a line breaks a rule
break_ends : (setting : Setting) (ls : List Line) (J : List Entry) (line : Line) (rule : Rule) → IsKept setting ls J → BreaksRule setting J line rule → Ends setting ls line
break_ends setting ls J line rule p breaks more K q = by_rule (entry_between setting ls more line J K p.entries_are q.entries_are) breaks where
  by_rule : IsEntryBetween setting J K line → BreaksRule setting J line rule → ⊥
  by_rule kept (by_entry e writes first) =
      let same : kept.entry ≡ e = one_entry setting line kept.entry e kept.writes writes in
      first.broken (subst (λ (x : Entry). Holds setting rule J x) same (q.admissible J kept.after kept.entry kept.whole rule))
  by_rule kept (by_names none is) =
      none kept.entry kept.writes (λ before. q.admissible J kept.after kept.entry kept.whole A1)

-- where it passes the limits
limit_ends : (setting : Setting) (ls : List Line) (J : List Entry) (line : Line) → IsKept setting ls J → PassesLimits J line → Ends setting ls line
limit_ends setting ls J line p passes more K q = by_entry_of (entry_between setting ls more line J K p.entries_are q.entries_are) where
  by_entry_of : IsEntryBetween setting J K line → ⊥
  by_entry_of kept =
      let entries : length K ≡ length J + suc (length kept.after) = ap (λ (t : List Entry). length t) kept.whole ∙ length-append J (kept.entry ∷ kept.after) in
      let outputs : output_count K ≡ output_count J + (entry_output_count kept.entry + output_count kept.after) = ap output_count kept.whole ∙ sum_by-append entry_output_count J (kept.entry ∷ kept.after) ∙ ap (λ (n : ℕ). output_count J + n) (sum_by-cons entry_output_count kept.entry kept.after) in
      let of_line : line_output_count line ≡ entry_output_count kept.entry = line_outputs setting line kept.entry kept.writes in
      elim passes [
        | inl many ↦ absurd (omega (arith, many, entries, q.limits.entries))
        | inr much ↦ absurd (omega (arith, much, outputs, of_line, q.limits.outputs))
      ]

-- what a refusal and a limit have in common
pub record IsStopped (setting : Setting) (bytes : List ℕ) (position : ℕ) : Type 0 where
  pub lines : List Line
  pub journal : List Entry
  pub line : Line
  pub rest : List ℕ
  pub text : bytes ≡ journal_text lines ++ line_and line rest
  pub kept : IsKept setting lines journal
  pub is_line : IsJournalLine line
  pub ends : Ends setting lines line
  pub position_is : position ≡ length journal + 1

-- the text up to a line, and the line
at_line : (ls : List Line) (l : Line) (bytes rest : List ℕ) → bytes ≡ journal_text (ls ++ l ∷ []) ++ rest → bytes ≡ journal_text ls ++ line_and l rest
at_line ls l bytes rest e = e ∙ one_more_line ls l rest

abbrev refused_stops : (setting : Setting) (bytes : List ℕ) (n : ℕ) (rule : Rule) → IsRefusedText setting bytes n rule → IsStopped setting bytes n
refused_stops setting bytes n rule p = record {
  lines = p.lines;
  journal = p.journal;
  line = p.line;
  rest = p.rest;
  text = at_line p.lines p.line bytes p.rest p.text;
  kept = p.kept;
  is_line = p.is_line;
  ends = break_ends setting p.lines p.journal p.line rule p.kept p.breaks;
  position_is = p.position_is;
}

abbrev limit_stops : (setting : Setting) (bytes : List ℕ) (n : ℕ) → IsOverLimit setting bytes n → IsStopped setting bytes n
limit_stops setting bytes n p = record {
  lines = p.lines;
  journal = p.journal;
  line = p.line;
  rest = p.rest;
  text = at_line p.lines p.line bytes p.rest p.text;
  kept = p.kept;
  is_line = p.is_line;
  ends = limit_ends setting p.lines p.journal p.line p.kept p.passes;
  position_is = p.position_is;
}

-- ---- two judgements

-- two texts of one journal after the first line
after_header : (ls ms : List Line) (bytes x y : List ℕ) → bytes ≡ journal_text ls ++ x → bytes ≡ journal_text ms ++ y → text_of ls ++ x ≡ text_of ms ++ y
after_header ls ms bytes x y e f =
    append_cancel_left header_line (text_of ls ++ x) (text_of ms ++ y) (sym (append_assoc header_line (text_of ls) x) ∙ sym e ∙ f ∙ append_assoc header_line (text_of ms) y)

whole_text : (ls : List Line) (bytes : List ℕ) → bytes ≡ journal_text ls → bytes ≡ journal_text ls ++ []
whole_text ls bytes e = e ∙ sym (append-nil (journal_text ls))

-- the lines after a front are lines
back_lines : (ls more : List Line) → AllByRecursion IsJournalLine (ls ++ more) → AllByRecursion IsJournalLine more
back_lines [] more p = p
back_lines (l ∷ ls) more p = back_lines ls more p.1

-- lines of one text, of which neither goes on past the other
same_lines : (ls ms more : List Line) → ls ≡ ms ++ more → more ≡ [] → ls ≡ ms
same_lines ls ms more e none = e ∙ ap (λ (t : List Line). ms ++ t) none ∙ append-nil ms

same_journals : (setting : Setting) (ls ms : List Line) (J K : List Entry) → IsKept setting ls J → IsKept setting ms K → ls ≡ ms → J ≡ K
same_journals setting ls ms J K p q e = same_entries setting ms J K (subst (λ (t : List Line). AreEntries setting t J) e p.entries_are) q.entries_are

-- what follows the front of a journal that is kept cannot begin with the line that ends a reading
ended_within : (setting : Setting) (ls ms more : List Line) (l : Line) (K : List Entry) (x y : List ℕ) → IsKept setting ms K → Ends setting ls l → IsJournalLine l → ms ≡ ls ++ more → line_and l x ≡ text_of more ++ y → (more ≡ []) × (line_and l x ≡ y)
ended_within setting ls ms [] l K x y q ends is_line e f = (refl, f)
ended_within setting ls ms (n ∷ more) l K x y q ends is_line e f =
    let lines : AllByRecursion IsJournalLine (n ∷ more) = back_lines ls (n ∷ more) (subst (λ (t : List Line). AllByRecursion IsJournalLine t) e q.lines_are) in
    let both = lines_apart l n x (text_of more ++ y) is_line.line lines.0.line (f ∙ unfold_line n more y) in
    absurd (ends more K (subst (λ (t : List Line). IsKept setting t K) (e ∙ ap (λ (t : Line). ls ++ t ∷ more) (sym both.0)) q))

-- Where there is a fault, a reading cannot go on by a line.
no_line_within : (ms more : List Line) (x rest : List ℕ) (n : ℕ) (f : LineFault) → IsFaultOf true n rest f → AllByRecursion IsJournalLine (ms ++ more) → rest ≡ text_of more ++ x → (more ≡ []) × (rest ≡ x)
no_line_within ms [] x rest n f fault p e = (refl, e)
no_line_within ms (l ∷ more) x rest n f fault p e =
    let lines : AllByRecursion IsJournalLine (l ∷ more) = back_lines ms (l ∷ more) p in
    absurd (no_line_fault l n (text_of more ++ x) f lines.0 (subst (λ (t : List ℕ). IsFaultOf true n t f) (e ∙ unfold_line l more x) fault))

accepted_twice : (setting : Setting) (bytes : List ℕ) (m n : ℕ) → IsAccepted setting bytes m → IsAccepted setting bytes n → m ≡ n
accepted_twice setting bytes m n p q = by_lines (compare p.lines q.lines [] [] p.kept.lines_are q.kept.lines_are (after_header p.lines q.lines bytes [] [] (whole_text p.lines bytes p.text) (whole_text q.lines bytes q.text))) where
  by_same : p.lines ≡ q.lines → m ≡ n
  by_same e = p.entries_are ∙ ap (λ (J : List Entry). length J) (same_journals setting p.lines q.lines p.journal q.journal p.kept q.kept e) ∙ sym q.entries_are

  by_lines : Compared p.lines q.lines [] [] → m ≡ n
  by_lines (shorter more e f) = by_same (sym (same_lines q.lines p.lines more e (no_lines more [] f).0))
  by_lines (longer more e f) = by_same (same_lines p.lines q.lines more e (no_lines more [] f).0)

accepted_stopped : (setting : Setting) (bytes : List ℕ) (m n : ℕ) → IsAccepted setting bytes m → IsStopped setting bytes n → ⊥
accepted_stopped setting bytes m n p q = by_lines (compare p.lines q.lines [] (line_and q.line q.rest) p.kept.lines_are q.kept.lines_are (after_header p.lines q.lines bytes [] (line_and q.line q.rest) (whole_text p.lines bytes p.text) q.text)) where
  by_lines : Compared p.lines q.lines [] (line_and q.line q.rest) → ⊥
  by_lines (shorter more e f) = some_line q.line q.rest (sym (no_lines more (line_and q.line q.rest) f).1)
  by_lines (longer more e f) = some_line q.line q.rest (sym (ended_within setting q.lines p.lines more q.line p.journal q.rest [] p.kept q.ends q.is_line e f).1)

accepted_bad : (setting : Setting) (bytes : List ℕ) (m : ℕ) (f : LineFault) → IsAccepted setting bytes m → IsBadJournal setting bytes f → ⊥
accepted_bad setting bytes m f p q = no_fault_at_all p.lines q.lines f p.kept.lines_are (subst (λ (t : List ℕ). HasFault t q.lines f) p.text q.bad)

stopped_bad : (setting : Setting) (bytes : List ℕ) (n : ℕ) (f : LineFault) → IsStopped setting bytes n → IsBadJournal setting bytes f → ⊥
stopped_bad setting bytes n f p q = by_text q.bad where
  by_text : HasFault bytes q.lines f → ⊥
  by_text (in_header none fault) =
      no_header_fault (text_of p.lines ++ line_and p.line p.rest) f (subst (λ (t : List ℕ). IsFaultOf false 1 t f) (p.text ∙ append_assoc header_line (text_of p.lines) (line_and p.line p.rest)) fault)
  by_text (in_line rest e lines fault) = by_lines (compare p.lines q.lines (line_and p.line p.rest) rest p.kept.lines_are lines (after_header p.lines q.lines bytes (line_and p.line p.rest) rest p.text e)) where
    -- the fault stands where the line does
    no_fault_here : line_and p.line p.rest ≡ rest → ⊥
    no_fault_here same = no_line_fault p.line (2 + length q.lines) p.rest f p.is_line (subst (λ (t : List ℕ). IsFaultOf true (2 + length q.lines) t f) (sym same) fault)

    by_lines : Compared p.lines q.lines (line_and p.line p.rest) rest → ⊥
    by_lines (shorter more e f) = no_fault_here (ended_within setting p.lines q.lines more p.line q.journal p.rest rest q.kept p.ends p.is_line e f).1
    by_lines (longer more e same) =
        no_fault_here (sym (no_line_within q.lines more (line_and p.line p.rest) rest (2 + length q.lines) f fault (subst (λ (t : List Line). AllByRecursion IsJournalLine t) e p.kept.lines_are) same).1)

bad_twice : (setting : Setting) (bytes : List ℕ) (f g : LineFault) → IsBadJournal setting bytes f → IsBadJournal setting bytes g → f ≡ g
bad_twice setting bytes f g p q = (one_reading bytes p.lines q.lines f g p.bad q.bad).fault

-- two readings that stop do so at one line of one journal
pub record StopsAtOne (setting : Setting) (bytes : List ℕ) (m n : ℕ) (p : IsStopped setting bytes m) (q : IsStopped setting bytes n) : Type 0 where
  pub journals : p.journal ≡ q.journal
  pub line : p.line ≡ q.line
  pub positions : m ≡ n

stopped_twice : (setting : Setting) (bytes : List ℕ) (m n : ℕ) (p : IsStopped setting bytes m) (q : IsStopped setting bytes n) → StopsAtOne setting bytes m n p q
stopped_twice setting bytes m n p q = by_lines (compare p.lines q.lines (line_and p.line p.rest) (line_and q.line q.rest) p.kept.lines_are q.kept.lines_are (after_header p.lines q.lines bytes (line_and p.line p.rest) (line_and q.line q.rest) p.text q.text)) where
  by_same : p.lines ≡ q.lines → line_and p.line p.rest ≡ line_and q.line q.rest → StopsAtOne setting bytes m n p q
  by_same e f =
      let journals : p.journal ≡ q.journal = same_journals setting p.lines q.lines p.journal q.journal p.kept q.kept e in
      record { journals = journals; line = (lines_apart p.line q.line p.rest q.rest p.is_line.line q.is_line.line f).0; positions = p.position_is ∙ ap (λ (J : List Entry). length J + 1) journals ∙ sym q.position_is }

  by_lines : Compared p.lines q.lines (line_and p.line p.rest) (line_and q.line q.rest) → StopsAtOne setting bytes m n p q
  by_lines (shorter more e f) =
      let ended = ended_within setting p.lines q.lines more p.line q.journal p.rest (line_and q.line q.rest) q.kept p.ends p.is_line e f in
      by_same (sym (same_lines q.lines p.lines more e ended.0)) ended.1
  by_lines (longer more e f) =
      let ended = ended_within setting q.lines p.lines more q.line p.journal q.rest (line_and p.line p.rest) p.kept q.ends q.is_line e f in
      by_same (same_lines p.lines q.lines more e ended.0) (sym ended.1)

refused_twice : (setting : Setting) (bytes : List ℕ) (m n : ℕ) (r s : Rule) → IsRefusedText setting bytes m r → IsRefusedText setting bytes n s → (m ≡ n) × (r ≡ s)
refused_twice setting bytes m n r s p q =
    let one = stopped_twice setting bytes m n (refused_stops setting bytes m r p) (refused_stops setting bytes n s q) in
    let breaks : BreaksRule setting q.journal q.line r = subst (λ (J : List Entry). BreaksRule setting J q.line r) one.journals (subst (λ (l : Line). BreaksRule setting p.journal l r) one.line p.breaks) in
    (one.positions, one_rule setting q.journal q.line r s breaks q.breaks)

-- a line that breaks a rule passes no limit
refused_limited : (setting : Setting) (bytes : List ℕ) (m n : ℕ) (rule : Rule) → IsRefusedText setting bytes m rule → IsOverLimit setting bytes n → ⊥
refused_limited setting bytes m n rule p q =
    let one = stopped_twice setting bytes m n (refused_stops setting bytes m rule p) (limit_stops setting bytes n q) in
    p.within (subst (λ (J : List Entry). PassesLimits J p.line) (sym one.journals) (subst (λ (l : Line). PassesLimits q.journal l) (sym one.line) q.passes))

limited_twice : (setting : Setting) (bytes : List ℕ) (m n : ℕ) → IsOverLimit setting bytes m → IsOverLimit setting bytes n → m ≡ n
limited_twice setting bytes m n p q = (stopped_twice setting bytes m n (limit_stops setting bytes m p) (limit_stops setting bytes n q)).positions

-- the bytes are judged in one way
pub judged_once : (setting : Setting) (bytes : List ℕ) (a b : Judged) → IsJudged setting bytes a → IsJudged setting bytes b → a ≡ b
judged_once setting bytes (Accepted m) (Accepted n) p q = ap (λ k. Accepted k) (accepted_twice setting bytes m n p q)
judged_once setting bytes (Accepted m) (Refused n s) p q = absurd (accepted_stopped setting bytes m n p (refused_stops setting bytes n s q))
judged_once setting bytes (Accepted m) (Limited n) p q = absurd (accepted_stopped setting bytes m n p (limit_stops setting bytes n q))
judged_once setting bytes (Accepted m) (BadText g) p q = absurd (accepted_bad setting bytes m g p q)
judged_once setting bytes (Refused m r) (Accepted n) p q = absurd (accepted_stopped setting bytes n m q (refused_stops setting bytes m r p))
judged_once setting bytes (Refused m r) (Refused n s) p q =
    let both = refused_twice setting bytes m n r s p q in
    let position : m ≡ n = both.0 in
    let rule : r ≡ s = both.1 in
    cc
judged_once setting bytes (Refused m r) (Limited n) p q = absurd (refused_limited setting bytes m n r p q)
judged_once setting bytes (Refused m r) (BadText g) p q = absurd (stopped_bad setting bytes m g (refused_stops setting bytes m r p) q)
judged_once setting bytes (Limited m) (Accepted n) p q = absurd (accepted_stopped setting bytes n m q (limit_stops setting bytes m p))
judged_once setting bytes (Limited m) (Refused n s) p q = absurd (refused_limited setting bytes n m s q p)
judged_once setting bytes (Limited m) (Limited n) p q = ap (λ k. Limited k) (limited_twice setting bytes m n p q)
judged_once setting bytes (Limited m) (BadText g) p q = absurd (stopped_bad setting bytes m g (limit_stops setting bytes m p) q)
judged_once setting bytes (BadText f) (Accepted n) p q = absurd (accepted_bad setting bytes n f q p)
judged_once setting bytes (BadText f) (Refused n s) p q = absurd (stopped_bad setting bytes n f (refused_stops setting bytes n s q) p)
judged_once setting bytes (BadText f) (Limited n) p q = absurd (stopped_bad setting bytes n f (limit_stops setting bytes n q) p)
judged_once setting bytes (BadText f) (BadText g) p q = ap (λ k. BadText k) (bad_twice setting bytes f g p q)
