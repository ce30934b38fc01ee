use Rattle.std.proofs.lemmas.Bool.{false≢true}
use Rattle.pssm_wellformed.proofs.Together.{found_iff, not_found}
use Rattle.pssm_wellformed.proofs.stamps.lie_apart_around.Goals as goal

pub returns-in-Some-clause-apart : goal.returns-in-Some-clause-apart
returns-in-Some-clause-apart c =
    found_iff c.args.machine.now c.args.near c.args.far c.args.vertex c.meeting-transitions.result.now c.meeting-transitions.ensures.items c.in-Some.state c.lie_apart.result
    c.in-Some.ensures c.lie_apart.ensures.apart

pub returns-in-None-clause-apart : goal.returns-in-None-clause-apart
returns-in-None-clause-apart c = (
  λ t. absurd (false≢true t),
  λ h. absurd (not_found c.args.machine.now c.args.near c.args.far c.args.vertex c.meeting-transitions.result.now c.meeting-transitions.ensures.items c.in-None.ensures h),
)
