-- The judging of a journal, line after line.
use Rattle.std.proofs.Common.{◌≡◌, ◌<◌, ◌≤◌, ◌+◌, ℕ, suc, Bool, true, false, List, [], ◌∷◌, ◌++◌, length, refl, sym, ap, subst, ◌∙◌, arith, append_assoc, length-append}
use Rattle.std.specs.List.{AllByRecursion}
use Rattle.std.proofs.lemmas.List.{append-nil}
use Rattle.pssm_semantics.specs.declared.entry.Entry.{Entry}
use Rattle.pssm_semantics.specs.declared.line.Line.{Line}
use Rattle.pssm_semantics.specs.declared.setting.Setting.{Setting}
use Rattle.pssm_semantics.specs.Rules.{Holds}
use Rattle.pssm_semantics.specs.Laws.{CompletesInTime}
use Rattle.pssm_semantics.specs.Admissible.{IsAdmissibleIn, KeepsJournalLimits}
use Rattle.pssm_semantics_laws.proofs.Admissible.{IsAdmissible-nil}
use Rattle.pssm_semantics_laws.proofs.Appending.{every_push}
use Rattle.pssm_lines.specs.declared.fault.LineFault.{LineFault}
use Rattle.pssm_lines.specs.LineText.{line_text, header_line, journal_text}
use Rattle.pssm_lines.specs.Faults.{IsJournalLine, IsFaultOf, in_header, in_line}
use Rattle.pssm_lines.specs.Reading.{stream_of}
use Rattle.pssm_journal.specs.Entries.{AreEntries}
use Rattle.pssm_journal.proofs.Fronts.{one_more_line}
use Rattle.pssm_journal.specs.Judged.{IsKept, IsJudged, BadText}
use Rattle.pssm_system.specs.History.{History}
use Rattle.pssm_judge.specs.declared.run.Stop.{Stop}
use Rattle.pssm_judge.specs.declared.run.Stop.TheVariants.{Limit, Refuse, Text}
use Rattle.pssm_judge.specs.declared.verdict.Verdict.TheVariants.{Accept}
use Rattle.pssm_judge.specs.Verdicts.{IsVerdictOn}
use Rattle.pssm_judge.specs.inner.Answers.{said_at}
use Rattle.pssm_judge.specs.inner.Following.{TakesLine, StopsAt}
use Rattle.pssm_judge.specs.inner.Judging.{IsJudging, IsSaid}
use Rattle.pssm_judge.proofs.FollowingLaws.{entries_append}

-- ---- texts

-- a journal's text, one more line, and what follows it
line_behind : (ls : List Line) (l : Line) (rest : List ℕ) → journal_text ls ++ (line_text l ++ 10 ∷ rest) ≡ journal_text (ls ++ l ∷ []) ++ rest
line_behind ls l rest = sym (one_more_line ls l rest)

-- as many entries as lines
as_many : (setting : Setting) (ls : List Line) (J : List Entry) → AreEntries setting ls J → length ls ≡ length J
as_many setting [] [] are = refl
as_many setting [] (e ∷ J) are = absurd are
as_many setting (l ∷ ls) [] are = absurd are
as_many setting (l ∷ ls) (e ∷ J) are = ap (λ (n : ℕ). suc n) (as_many setting ls J are.1)

-- what came, and more of it
pub stream_more : (begun : Bool) (ls : List Line) (rest more : List ℕ) → stream_of begun ls rest ++ more ≡ stream_of begun ls (rest ++ more)
stream_more true ls rest more = append_assoc (journal_text ls) rest more
stream_more false ls rest more = refl

-- ---- where the judging stands

-- Nothing was read.
pub judging_begin : (bytes : List ℕ) (run : History) → run.journal ≡ [] → IsJudging run.setting bytes bytes false 1 run
judging_begin bytes run none = record {
  setting_is = refl;
  lines = [];
  so_far = refl;
  numbered = refl;
  entries = subst (λ (J : List Entry). AreEntries run.setting [] J) (sym none) tt;
  admissible = subst (λ (J : List Entry). IsAdmissibleIn run.setting J) (sym none) (IsAdmissible-nil (Holds run.setting));
  limits = subst KeepsJournalLimits (sym none) (record { entries = omega arith; outputs = omega arith });
  stream = refl;
}

-- The number of a line is small.
pub few_lines : (setting : Setting) (bytes rest : List ℕ) (begun : Bool) (number : ℕ) (run : History) → IsJudging setting bytes rest begun number run → number ≤ 1000002
few_lines setting bytes rest true number run j = omega (arith, j.numbered, as_many setting j.lines run.journal j.entries, j.limits.entries)
few_lines setting bytes rest false number run j = omega (arith, j.numbered)

-- The first line was read.
pub judging_header : (setting : Setting) (bytes rest after : List ℕ) (begun : Bool) (number : ℕ) (run : History) → IsJudging setting bytes rest begun number run
    → begun ≡ false → rest ≡ header_line ++ after → IsJudging setting bytes after true (number + 1) run
judging_header setting bytes rest after true number run j none is = absurd cc
judging_header setting bytes rest after false number run j none is = record {
  setting_is = j.setting_is;
  lines = j.lines;
  so_far = subst (λ (ls : List Line). AllByRecursion IsJournalLine ls) (sym j.so_far) tt;
  numbered = omega (arith, j.numbered, ap (λ (ls : List Line). length ls) j.so_far);
  entries = j.entries;
  admissible = j.admissible;
  limits = j.limits;
  stream = j.stream ∙ is ∙ ap (λ (x : List ℕ). x ++ after) (sym (append-nil header_line)) ∙ ap (λ (ls : List Line). journal_text ls ++ after) (sym j.so_far);
}

-- A line was read, and the run has taken it.
pub judging_line : (setting : Setting) (bytes rest after : List ℕ) (begun : Bool) (number : ℕ) (run new : History) (l : Line) → IsJudging setting bytes rest begun number run
    → begun ≡ true → IsJournalLine l → rest ≡ line_text l ++ 10 ∷ after → TakesLine run new l → IsJudging setting bytes after true (number + 1) new
judging_line setting bytes rest after false number run new l j seen is_line is t = absurd cc
judging_line setting bytes rest after true number run new l j seen is_line is t =
    let same : new.setting ≡ setting = t.setting_is ∙ j.setting_is in
    let grown : new.journal ≡ run.journal ++ t.entry ∷ [] = t.journal_is in
    record {
      setting_is = same;
      lines = j.lines ++ l ∷ [];
      so_far = every_push IsJournalLine j.lines l j.so_far is_line;
      numbered = omega (arith, j.numbered, length-append j.lines (l ∷ []));
      entries = subst (λ (J : List Entry). AreEntries setting (j.lines ++ l ∷ []) J) (sym grown)
          (entries_append setting j.lines (l ∷ []) run.journal (t.entry ∷ []) j.entries (subst (λ (s : Setting). AreEntries s (l ∷ []) (t.entry ∷ [])) j.setting_is (t.is, tt)));
      admissible = subst (λ (s : Setting). IsAdmissibleIn s new.journal) same t.admissible;
      limits = t.limits;
      stream = j.stream ∙ ap (λ (x : List ℕ). journal_text j.lines ++ x) is ∙ line_behind j.lines l after;
    }

-- The judging stands where it stands.
pub same_place : (setting : Setting) (bytes rest rest' : List ℕ) (begun begun' : Bool) (number : ℕ) (run run' : History) → IsJudging setting bytes rest begun number run
    → rest' ≡ rest → begun' ≡ begun → run' ≡ run → IsJudging setting bytes rest' begun' number run'
same_place setting bytes rest rest' begun begun' number run run' j same_rest same_begun same_run =
    subst (λ (t : List ℕ). IsJudging setting bytes t begun' number run') (sym same_rest)
    (subst (λ (b : Bool). IsJudging setting bytes rest b number run') (sym same_begun)
    (subst (λ (h : History). IsJudging setting bytes rest begun number h) (sym same_run) j))

-- ---- where the judging ends

-- what is said where the judging ends behind a journal that is kept
said_behind : (setting : Setting) (bytes rest : List ℕ) (lines : List Line) (J : List Entry) (line : Line) (stop : Stop) → bytes ≡ journal_text (lines ++ line ∷ []) ++ rest
    → IsKept setting lines J → IsJournalLine line → StopsAt setting J line stop → IsJudged setting bytes (said_at stop)
said_behind setting bytes rest lines J line (Limit entry) text kept is stops = record {
  lines = lines;
  journal = J;
  line = line;
  rest = rest;
  text = text;
  kept = kept;
  is_line = is;
  passes = stops.1;
  position_is = stops.0;
}
said_behind setting bytes rest lines J line (Text fault) text kept is stops = absurd stops
said_behind setting bytes rest lines J line (Refuse entry rule) text kept is stops = record {
  lines = lines;
  journal = J;
  line = line;
  rest = rest;
  text = text;
  kept = kept;
  is_line = is;
  within = stops.1;
  breaks = stops.2;
  position_is = stops.0;
}

-- The judging ends at a line.
stops_now : (setting : Setting) (bytes rest after : List ℕ) (begun : Bool) (number : ℕ) (run : History) (l : Line) (stop : Stop) → IsJudging setting bytes rest begun number run
    → begun ≡ true → IsJournalLine l → rest ≡ line_text l ++ 10 ∷ after → StopsAt run.setting run.journal l stop → IsJudged setting bytes (said_at stop)
stops_now setting bytes rest after false number run l stop j seen is_line is stops = absurd cc
stops_now setting bytes rest after true number run l stop j seen is_line is stops =
    said_behind setting bytes after j.lines run.journal l stop (j.stream ∙ ap (λ (x : List ℕ). journal_text j.lines ++ x) is ∙ line_behind j.lines l after)
    (record { lines_are = j.so_far; entries_are = j.entries; admissible = j.admissible; limits = j.limits }) is_line
    (subst (λ (s : Setting). StopsAt s run.journal l stop) j.setting_is stops)

-- More bytes come.
pub judging_more : (setting : Setting) (bytes rest more : List ℕ) (begun : Bool) (number : ℕ) (run : History) → IsJudging setting bytes rest begun number run
    → IsJudging setting (bytes ++ more) (rest ++ more) begun number run
judging_more setting bytes rest more begun number run j = record {
  setting_is = j.setting_is;
  lines = j.lines;
  so_far = j.so_far;
  numbered = j.numbered;
  entries = j.entries;
  admissible = j.admissible;
  limits = j.limits;
  stream = ap (λ (t : List ℕ). t ++ more) j.stream ∙ stream_more begun j.lines rest more;
}

-- It is said however the bytes go on.
pub stops_here : (setting : Setting) (bytes rest after : List ℕ) (begun : Bool) (number : ℕ) (run : History) (l : Line) (stop : Stop) → IsJudging setting bytes rest begun number run
    → begun ≡ true → IsJournalLine l → rest ≡ line_text l ++ 10 ∷ after → StopsAt run.setting run.journal l stop → IsSaid setting bytes stop
stops_here setting bytes rest after begun number run l stop j seen is_line is stops = λ more.
    stops_now setting (bytes ++ more) (rest ++ more) (after ++ more) begun number run l stop (judging_more setting bytes rest more begun number run j) seen is_line
    (ap (λ (t : List ℕ). t ++ more) is ∙ append_assoc (line_text l) (10 ∷ after) more) stops

-- What is still to be read has a fault.
pub bad_here : (setting : Setting) (bytes rest : List ℕ) (begun : Bool) (number : ℕ) (run : History) (fault : LineFault) → IsJudging setting bytes rest begun number run
    → IsFaultOf begun number rest fault → IsJudged setting bytes (BadText fault)
bad_here setting bytes rest true number run fault j f = record {
  lines = j.lines;
  journal = run.journal;
  bad = in_line rest j.stream j.so_far (subst (λ (n : ℕ). IsFaultOf true n rest fault) j.numbered f);
  kept = record { lines_are = j.so_far; entries_are = j.entries; admissible = j.admissible; limits = j.limits };
}
bad_here setting bytes rest false number run fault j f = record {
  lines = j.lines;
  journal = run.journal;
  bad = in_header j.so_far (subst (λ (t : List ℕ). IsFaultOf false 1 t fault) (sym j.stream) (subst (λ (n : ℕ). IsFaultOf false n rest fault) j.numbered f));
  kept = record {
    lines_are = subst (λ (ls : List Line). AllByRecursion IsJournalLine ls) (sym j.so_far) tt;
    entries_are = j.entries;
    admissible = j.admissible;
    limits = j.limits;
  };
}

-- It has one however it goes on.
pub bad_anyhow : (setting : Setting) (bytes rest : List ℕ) (begun : Bool) (number : ℕ) (run : History) (fault : LineFault) → IsJudging setting bytes rest begun number run
    → ((more : List ℕ) → IsFaultOf begun number (rest ++ more) fault) → IsSaid setting bytes (Text fault)
bad_anyhow setting bytes rest begun number run fault j f = λ more.
    bad_here setting (bytes ++ more) (rest ++ more) begun number run fault (judging_more setting bytes rest more begun number run j) (f more)

-- All was read.
pub judged_whole : (setting : Setting) (bytes rest : List ℕ) (begun : Bool) (number : ℕ) (run : History) → IsJudging setting bytes rest begun number run → begun ≡ true → rest ≡ []
    → CompletesInTime run.setting run.journal → IsVerdictOn setting bytes (Accept (length run.journal))
judged_whole setting bytes rest false number run j seen none completes = absurd cc
judged_whole setting bytes rest true number run j seen none completes =
    let whole : bytes ≡ journal_text j.lines = j.stream ∙ ap (λ (x : List ℕ). journal_text j.lines ++ x) none ∙ append-nil (journal_text j.lines) in
    let kept : IsKept setting j.lines run.journal = record { lines_are = j.so_far; entries_are = j.entries; admissible = j.admissible; limits = j.limits } in (
      record { lines = j.lines; journal = run.journal; text = whole; kept = kept; entries_are = refl },
      record {
        lines = j.lines;
        journal = run.journal;
        text = whole;
        kept = kept;
        entries_are = refl;
        completes = subst (λ (s : Setting). CompletesInTime s run.journal) j.setting_is completes;
      },
    )

-- ---- less is left behind a line

pub shorter_line : (l : Line) (rest after : List ℕ) → rest ≡ line_text l ++ 10 ∷ after → length after < length rest
shorter_line l rest after is =
    let all : length rest ≡ length (line_text l ++ 10 ∷ after) = ap (λ (t : List ℕ). length t) is in
    omega (arith, all, length-append (line_text l) (10 ∷ after))

pub shorter_header : (rest after : List ℕ) → rest ≡ header_line ++ after → length after < length rest
shorter_header rest after is =
    let all : length rest ≡ length (header_line ++ after) = ap (λ (t : List ℕ). length t) is in
    omega (arith, all, length-append header_line after)
