-- in one of the lists
use Rattle.std.proofs.Common.{inl, inr, ⊎_elim}
use Rattle.pssm_enabled.proofs.ListPlaces.{refuted}
use Rattle.pssm_enabled.proofs.FewOn.{on_route}
use Rattle.pssm_enabled.proofs.few.is_on.Goals as goal

pub returns-then-is_one_of : goal.returns-then-is_one_of
returns-then-is_one_of c = (
  λ e. (on_route c.args.starts.now c.args.rest.now c.args.t).1 (inl (c.is_one_of.ensures.0 c.if-is_one_of.true)),
  λ on. c.if-is_one_of.true,
)

pub returns-else-is_one_of : goal.returns-else-is_one_of
returns-else-is_one_of c = (
  λ e. (on_route c.args.starts.now c.args.rest.now c.args.t).1 (inr (c.is_one_of-else-is_one_of.ensures.0 e)),
  λ on. ⊎_elim
      (λ first. absurd (refuted c.is_one_of.result c.if-is_one_of.false c.is_one_of.ensures first))
      (λ later. c.is_one_of-else-is_one_of.ensures.1 later)
      ((on_route c.args.starts.now c.args.rest.now c.args.t).0 on),
)
