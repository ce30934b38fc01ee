-- a way ends there or not
use Rattle.std.proofs.Common.{refl, inl, inr}
use Rattle.pssm_enabled.proofs.ListPlaces.{refuted}
use Rattle.pssm_enabled.proofs.passing.Points.add_end.Goals as goal

pub returns-then-ends_way-clause-further : goal.returns-then-ends_way-clause-further
returns-then-ends_way-clause-further c = inl (c.ends_way.ensures.0 c.if-ends_way.true, c.add.ensures.further)

pub returns-else-ends_way-clause-further : goal.returns-else-ends_way-clause-further
returns-else-ends_way-clause-further c = inr (refuted c.ends_way.result c.if-ends_way.false c.ends_way.ensures, refl)
