use Rattle.pssm_lines.proofs.Spellings.{one_line}
use Rattle.pssm_lines.proofs.laws.one_spelling.Goals as goal

pub returns : goal.returns
returns c = one_line
