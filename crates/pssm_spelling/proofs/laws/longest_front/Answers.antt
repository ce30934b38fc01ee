use Rattle.std.proofs.Common.{arith}
use Rattle.pssm_spelling.proofs.FrontLaws.{strip_law, name_law, number_law}
use Rattle.pssm_spelling.proofs.laws.longest_front.Goals as goal

pub returns-clause-fixed : goal.returns-clause-fixed
returns-clause-fixed c = strip_law

pub returns-clause-name : goal.returns-clause-name
returns-clause-name c = name_law

pub returns-clause-number : goal.returns-clause-number
returns-clause-number c bytes n rest = number_law 4294967296 bytes n rest (omega arith)

pub returns-clause-index : goal.returns-clause-index
returns-clause-index c bytes n rest = number_law 65536 bytes n rest (omega arith)
