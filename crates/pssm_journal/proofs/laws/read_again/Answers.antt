use Rattle.pssm_journal.proofs.Spellings.{entry_again, journal_again}
use Rattle.pssm_journal.proofs.laws.read_again.Goals as goal

pub returns-clause-entry : goal.returns-clause-entry
returns-clause-entry c = entry_again

pub returns-clause-journal : goal.returns-clause-journal
returns-clause-journal c = journal_again
