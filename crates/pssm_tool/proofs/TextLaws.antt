-- How the text of a journal is written line by line.
use Rattle.std.proofs.Common.{◌≡◌, ◌<◌, ◌+◌, ℕ, zero, suc, List, [], ◌∷◌, ◌++◌, length, take, drop, get_or, sym, ap, subst, ◌∙◌, arith, add-one, append-nil, append_assoc}
use Rattle.std.specs.List.{AllByRecursion}
use Rattle.std.proofs.lemmas.Grind.{flat_map-append}
use Rattle.std.proofs.Math.Seq.{take-length}
use Rattle.pssm_semantics.specs.declared.entry.Entry.{Entry}
use Rattle.pssm_semantics.specs.declared.entry.Rule.TheVariants.{A1}
use Rattle.pssm_semantics.specs.declared.line.Line.{Line}
use Rattle.pssm_semantics.specs.declared.setting.Setting.{Setting}
use Rattle.pssm_semantics.specs.Forms.{IsRunEntry}
use Rattle.pssm_semantics.specs.Admissible.{IsAdmissibleIn, KeepsJournalLimits}
use Rattle.pssm_semantics_laws.proofs.Appending.{every_push}
use Rattle.pssm_lines.specs.LineText.{line_text, header_line, text_of, journal_text}
use Rattle.pssm_lines.specs.Grammar.{IsLine}
use Rattle.pssm_lines.specs.Faults.{IsJournalLine}
use Rattle.pssm_journal.specs.Entries.{IsEntryOf, KeepsNames, AreEntries}
use Rattle.pssm_journal.specs.Naming.{IsSpelledEntry}
use Rattle.pssm_semantics.specs.Names.{HasSpelledNames}
use Rattle.pssm_journal.proofs.RunNames.{run_is_spelled}
use Rattle.pssm_journal.proofs.LineLengths.{run_line}
use Rattle.pssm_semantics.specs.declared.stimulus.Stimulus.{Stimulus}
use Rattle.pssm_workers.specs.declared.ended.Ended.{Ended}
use Rattle.pssm_workers.specs.Endings.{EndsRun}
use Rattle.pssm_tool.specs.RunTexts.{IsRunText}
use Rattle.pssm_tool.specs.inner.Running.{IsTextOf}

-- The bytes are the first line and lines that a journal may have, which write these entries.
pub record IsWritten (setting : Setting) (J : List Entry) (bytes : List ℕ) : Type 0 where
  pub lines : List Line
  pub text : bytes ≡ journal_text lines
  pub lines_are : AllByRecursion IsJournalLine lines
  pub entries_are : AreEntries setting lines J

-- ---- one of the entries

-- A list is the items before an index, the item there, and those behind it.
split_there : {X : Type 0} (xs : List X) (i : ℕ) (x : X) → i < length xs → x ≡ get_or xs i x → xs ≡ take i xs ++ x ∷ drop (suc i) xs
split_there [] i x within is = absurd (omega arith)
split_there (y ∷ ys) zero x within is = ap (λ (z : _). z ∷ ys) (sym is)
split_there (y ∷ ys) (suc i) x within is = ap (λ (zs : List _). y ∷ zs) (split_there ys i x (omega arith) is)

take_more : {X : Type 0} (xs : List X) (i : ℕ) (x : X) → i < length xs → x ≡ get_or xs i x → take (i + 1) xs ≡ take i xs ++ x ∷ []
take_more xs i x within is = rw add-one (by_place xs i within is) where
  by_place : (xs : List _) (i : ℕ) → i < length xs → x ≡ get_or xs i x → take (suc i) xs ≡ take i xs ++ x ∷ []
  by_place [] i within is = absurd (omega arith)
  by_place (y ∷ ys) zero within is = ap (λ (z : _). z ∷ []) (sym is)
  by_place (y ∷ ys) (suc i) within is = ap (λ (zs : List _). y ∷ zs) (by_place ys i (omega arith) is)

holds_at : {X : Type 0} (P : X → Type 0) (xs : List X) (i : ℕ) (x : X) → AllByRecursion P xs → i < length xs → x ≡ get_or xs i x → P x
holds_at P [] i x all within is = absurd (omega arith)
holds_at P (y ∷ ys) zero x all within is = subst (λ (z : _). P z) (sym is) all.0
holds_at P (y ∷ ys) (suc i) x all within is = holds_at P ys i x all.1 (omega arith) is

-- What an entry of an admissible journal names is the setting's.
pub names_kept : (setting : Setting) (J : List Entry) (i : ℕ) (e : Entry) → IsAdmissibleIn setting J → i < length J → e ≡ get_or J i e → KeepsNames setting e
names_kept setting J i e admissible within is = λ K. admissible (take i J) (drop (suc i) J) e (split_there J i e within is) A1

-- Its line is one that a journal may have.
pub is_line : (setting : Setting) (J : List Entry) (i : ℕ) (e : Entry) (line : Line) → HasSpelledNames setting → AllByRecursion IsRunEntry J → i < length J → e ≡ get_or J i e
    → IsEntryOf setting line e → (HasSpelledNames setting → IsSpelledEntry e → IsLine line) → IsJournalLine line
is_line setting J i e line names entries within is writes spelled_line =
    let here : IsRunEntry e = holds_at IsRunEntry J i e entries within is in
    run_line setting e line here writes (spelled_line names (run_is_spelled e here))

-- ---- the text

pub written_start : (setting : Setting) (J : List Entry) (bytes : List ℕ) → bytes ≡ header_line → IsWritten setting (take 0 J) bytes
written_start setting J bytes is = record { lines = []; text = is ∙ sym (append-nil header_line); lines_are = tt; entries_are = tt }

entries_push : (setting : Setting) (lines : List Line) (J : List Entry) (line : Line) (e : Entry) → AreEntries setting lines J → IsEntryOf setting line e → AreEntries setting (lines ++ line ∷ []) (J ++ e ∷ [])
entries_push setting [] [] line e are is = (is, tt)
entries_push setting [] (f ∷ J) line e are is = absurd are
entries_push setting (l ∷ lines) [] line e are is = absurd are
entries_push setting (l ∷ lines) (f ∷ J) line e are is = (are.0, entries_push setting lines J line e are.1 is)

text_push : (lines : List Line) (line : Line) → journal_text lines ++ (line_text line ++ 10 ∷ []) ≡ journal_text (lines ++ line ∷ [])
text_push lines line =
    append_assoc header_line (text_of lines) (line_text line ++ 10 ∷ [])
    ∙ ap (λ (t : List ℕ). header_line ++ t)
    (ap (λ (t : List ℕ). text_of lines ++ t) (sym (append-nil (line_text line ++ 10 ∷ []))) ∙ sym (flat_map-append (λ (l : Line). line_text l ++ 10 ∷ []) lines (line ∷ [])))

pub written_more : (setting : Setting) (J : List Entry) (i : ℕ) (e : Entry) (line : Line) (bytes more : List ℕ) → i < length J → e ≡ get_or J i e → IsWritten setting (take i J) bytes
    → IsEntryOf setting line e → IsJournalLine line → more ≡ bytes ++ (line_text line ++ 10 ∷ []) → IsWritten setting (take (i + 1) J) more
written_more setting J i e line bytes more within is written writes grammar more_is =
    subst (λ (K : List Entry). IsWritten setting K more) (sym (take_more J i e within is)) (record {
      lines = written.lines ++ line ∷ [];
      text = more_is ∙ ap (λ (t : List ℕ). t ++ (line_text line ++ 10 ∷ [])) written.text ∙ text_push written.lines line;
      lines_are = every_push IsJournalLine written.lines line written.lines_are grammar;
      entries_are = entries_push setting written.lines (take i J) line e written.entries_are writes;
    })

pub written_whole : (setting : Setting) (J : List Entry) (i : ℕ) (bytes : List ℕ) → i ≡ length J → IsWritten setting (take i J) bytes → IsAdmissibleIn setting J → KeepsJournalLimits J → IsTextOf setting J bytes
written_whole setting J i bytes all written admissible limits =
    let whole = subst (λ (K : List Entry). IsWritten setting K bytes) (ap (λ (n : ℕ). take n J) all ∙ take-length J) written in
    record { lines = whole.lines; text = whole.text; kept = record { lines_are = whole.lines_are; entries_are = whole.entries_are; admissible = admissible; limits = limits } }

-- What was written is the text of a run's journal.
pub run_text : (setting own : Setting) (stimuli given : List Stimulus) (limit : ℕ) (J : List Entry) (bytes : List ℕ) (ended : Ended) → own ≡ setting → given ≡ stimuli → IsTextOf own J bytes
    → EndsRun setting given limit J ended → IsRunText setting stimuli limit bytes ended
run_text setting own stimuli given limit J bytes ended same are text run =
    let here : IsTextOf setting J bytes = subst (λ (s : Setting). IsTextOf s J bytes) same text in
    record { journal = J; lines = here.lines; text = here.text; kept = here.kept; run = subst (λ (t : List Stimulus). EndsRun setting t limit J ended) are run }
