use Rattle.std.proofs.Common.{rules}
use Rattle.pssm_plan.proofs.PlacedCalls.{listed_there}
use Rattle.pssm_plan.proofs.calls.Calls.is_listed.Goals as goal

pub returns-in-Some : goal.returns-in-Some
returns-in-Some c = (
  λ t. listed_there c.args.self.now.items c.args.item c.in-Some.field-0 c.in-Some.ensures.0 c.in-Some.ensures.1,
  λ h. search rules,
)
