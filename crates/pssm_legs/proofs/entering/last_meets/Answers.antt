-- one last vertex where the transitions are taken in order, and else one for each
use Rattle.std.proofs.Common.{inl, inr, ⊎_elim}
use Rattle.pssm_legs.proofs.entering.last_meets.Goals as goal

pub returns-then-leg : goal.returns-then-leg
returns-then-leg c = (
  λ is. inl (c.if-leg.true, c.meets.ensures.0 is),
  λ h. ⊎_elim (λ ordered. c.meets.ensures.1 ordered.1) (λ star. absurd (star.0 c.if-leg.true)) h,
)

pub returns-else-leg : goal.returns-else-leg
returns-else-leg c = (
  λ is. inr (λ ordered. (let no = c.if-leg.false in cc), c.any_meets.ensures.0 is),
  λ h. ⊎_elim (λ ordered. absurd (let no = c.if-leg.false in let yes = ordered.0 in cc)) (λ star. c.any_meets.ensures.1 star.1) h,
)
