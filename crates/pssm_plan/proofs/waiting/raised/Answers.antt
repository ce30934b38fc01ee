use Rattle.std.proofs.Common.{refl}
use Rattle.pssm_plan.proofs.ApartCalls.{raised_seen}
use Rattle.pssm_plan.proofs.waiting.raised.Goals as goal

pub returns-clause-seen : goal.returns-clause-seen
returns-clause-seen c =
    raised_seen c.args.machine.now c.args.calls.now c.args.place c.args.call.now _ c.args.first c.args.nests c.requires.place c.requires.from
    c.requires.within c.requires.loose c.requires.free c.requires.passed refl refl refl
