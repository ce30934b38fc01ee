-- one leaves the State, and all join in
use Rattle.pssm_config.specs.Tables.{configuration_of}
use Rattle.pssm_enabled.proofs.Started.{completed_starts, started_completes}
use Rattle.pssm_enabled.proofs.starting.are_completed_by.Goals as goal

pub returns-then-is_left_by : goal.returns-then-is_left_by
returns-then-is_left_by c = (
  λ h. completed_starts c.args.machine.now (configuration_of c.args.config.now) c.args.state c.args.starts.now
      (c.is_left_by.ensures.0 c.if-is_left_by.true) (c.join_in.ensures.0 h),
  λ h. c.join_in.ensures.1 (started_completes c.args.machine.now (configuration_of c.args.config.now) c.args.state c.args.starts.now h).1,
)

pub returns-else-is_left_by : goal.returns-else-is_left_by
returns-else-is_left_by c = (
  λ holds. absurd (let fails = c.if-is_left_by.false in cc (fails, holds)),
  λ h. c.is_left_by.ensures.1 (started_completes c.args.machine.now (configuration_of c.args.config.now) c.args.state c.args.starts.now h).0,
)
