use Rattle.pssm_semantics.proofs.ProperSettings.{proper_names_differ}
use Rattle.pssm_journal.proofs.RunNames.{run_is_spelled}
use Rattle.pssm_journal.proofs.LineLengths.{run_line}
use Rattle.pssm_journal.proofs.laws.run_lines.Goals as goal

pub returns-clause-differ : goal.returns-clause-differ
returns-clause-differ c = λ setting formed. proper_names_differ setting formed.proper

pub returns-clause-plain : goal.returns-clause-plain
returns-clause-plain c = run_is_spelled

pub returns-clause-short : goal.returns-clause-short
returns-clause-short c = run_line
