-- What was written is read again.
use Rattle.std.proofs.Common.{◌≡◌, List, sym, subst}
use Rattle.std.specs.List.{AllByRecursion}
use Rattle.pssm_semantics.specs.declared.entry.Entry.{Entry}
use Rattle.pssm_semantics.specs.declared.line.Line.{Line}
use Rattle.pssm_semantics.specs.declared.setting.Setting.{Setting}
use Rattle.pssm_lines.specs.LineText.{line_text, journal_text}
use Rattle.pssm_lines.specs.Grammar.{IsLine}
use Rattle.pssm_lines.specs.Faults.{IsJournalLine}
use Rattle.pssm_lines.proofs.Spellings.{one_line}
use Rattle.pssm_lines.proofs.OneFault.{one_text}
use Rattle.pssm_journal.specs.Entries.{IsEntryOf, AreEntries}
use Rattle.pssm_journal.proofs.EntryLists.{same_entries}

-- a line that is read from the text of another writes the entry of that one
pub entry_again : (setting : Setting) (e : Entry) (line read : Line) → IsLine line → IsEntryOf setting line e → IsLine read → line_text read ≡ line_text line → IsEntryOf setting read e
entry_again setting e line read p writes q same = subst (λ (l : Line). IsEntryOf setting l e) (sym (one_line read line q p same)) writes

-- entries of one text are the same
pub journal_again : (setting : Setting) (J K : List Entry) (ls ms : List Line) → AllByRecursion IsJournalLine ls → AllByRecursion IsJournalLine ms → AreEntries setting ls J → AreEntries setting ms K → journal_text ls ≡ journal_text ms → J ≡ K
journal_again setting J K ls ms p q of_ls of_ms e =
    same_entries setting ms J K (subst (λ (t : List Line). AreEntries setting t J) (one_text ls ms p q e) of_ls) of_ms
