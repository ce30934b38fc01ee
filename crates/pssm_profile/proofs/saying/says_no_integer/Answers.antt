use Rattle.std.specs.Prelude.{codes}
use Rattle.std.specs.Option.{option_copied}
use Rattle.pssm_profile.specs.Counts.{said}
use Rattle.pssm_profile.proofs.SayingLaws.{some_said}
use Rattle.pssm_profile.proofs.saying.says_no_integer.Goals as goal

pub returns-in-Some : goal.returns-in-Some
returns-in-Some c = (
  λ yes. absurd cc,
  λ none. absurd (some_said (said c.args.elements.now c.args.n (codes "value")) (option_copied c.value_said.result) c.in-Some.field-0 c.value_said.ensures c.in-Some.ensures none),
)
