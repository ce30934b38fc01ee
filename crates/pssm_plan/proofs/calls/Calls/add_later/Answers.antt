use Rattle.std.proofs.Common.{inl, refl}
use Rattle.pssm_plan.proofs.PlacedCalls.{listed_there}
use Rattle.pssm_plan.proofs.calls.Calls.add_later.Goals as goal

pub returns-in-Some-clause-added : goal.returns-in-Some-clause-added
returns-in-Some-clause-added c =
    inl (listed_there c.args.self.now.items c.args.call.item c.in-Some.field-0 c.in-Some.ensures.0 c.in-Some.ensures.1, refl)
