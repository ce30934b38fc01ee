use Rattle.pssm_bodies.proofs.SomeOutcome.{program_or_fault}
use Rattle.pssm_bodies.proofs.laws.some_outcome.Goals as goal

pub returns : goal.returns
returns c = λ names flat vars objects signals bodies once. program_or_fault names flat once
