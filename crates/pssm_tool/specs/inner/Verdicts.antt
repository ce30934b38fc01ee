-- What the judge's answers come to.
use Rattle.std.specs.Prelude.{Result, Ok, Err}
use Rattle.pssm_tool.specs.declared.answer.Answer.{Answer}
use Rattle.pssm_tool.specs.declared.answer.Answer.TheVariants.{Accept, Refuse, Limit, TooLarge}
use Rattle.pssm_tool.specs.Due.{answer_to_fault}
use Rattle.pssm_tool.specs.declared.failure.Failure.{Failure}
use Rattle.pssm_tool.specs.declared.failure.Failure.TheVariants.{ReadFault, NoMemory}
use Rattle.pssm_judge.specs.declared.verdict.Verdict.{Verdict}
use Rattle.pssm_judge.specs.declared.verdict.Verdict.TheVariants as verdicts
use Rattle.pssm_judge.specs.declared.verdict.JudgeFault.{JudgeFault}
use Rattle.pssm_judge.specs.declared.verdict.JudgeFault.TheVariants as faults

-- what the judge says, as an answer of the program; a read fault and want of memory are none
abbrev pub said : Result Verdict JudgeFault → Result Answer Failure
said (Ok (verdicts.Accept entries)) = Ok (Accept entries)
said (Ok (verdicts.Refuse entry rule)) = Ok (Refuse entry rule)
said (Err (faults.Text fault)) = Ok (answer_to_fault fault)
said (Err (faults.Limit entry)) = Ok (Limit entry)
said (Err faults.TooLarge) = Ok TooLarge
said (Err faults.ReadFault) = Err ReadFault
said (Err faults.NoMemory) = Err NoMemory
