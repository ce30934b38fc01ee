-- both, or not the first
use Rattle.pssm_routes.proofs.pick.starts_here.Goals as goal

pub returns-then-is_started_with : goal.returns-then-is_started_with
returns-then-is_started_with c = (
  λ h. (c.is_started_with.ensures.0 c.if-is_started_with.true, c.start_all_among.ensures.0 h),
  λ h. c.start_all_among.ensures.1 h.1,
)

pub returns-else-is_started_with : goal.returns-else-is_started_with
returns-else-is_started_with c = (
  λ holds. absurd (let fails = c.if-is_started_with.false in cc (fails, holds)),
  λ h. c.is_started_with.ensures.1 h.0,
)
