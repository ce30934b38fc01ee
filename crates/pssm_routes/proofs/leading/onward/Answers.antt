-- the one out of the join, or the transition itself
use Rattle.std.proofs.Common.{refl, inl, inr}
use Rattle.pssm_enabled.proofs.ListPlaces.{refuted}
use Rattle.pssm_enabled.proofs.StartLaws.{starts_alone}
use Rattle.pssm_routes.proofs.leading.onward.Goals as goal

pub out_of_join-requires-clause-join : goal.out_of_join-requires-clause-join
out_of_join-requires-clause-join c = c.is_join.ensures.0 c.if-is_join.true

pub returns-then-is_join-clause-on : goal.returns-then-is_join-clause-on
returns-then-is_join-clause-on c =
    inr (c.target-v.result, c.target-v.ensures.enters, c.is_join.ensures.0 c.if-is_join.true, c.out_of_join.ensures.leaves)

pub returns-clause-on : goal.returns-clause-on
returns-clause-on c =
    inl (
      refl,
      starts_alone c.args.machine.now c.args.t c.target-v.result c.target-v.ensures.enters
          (refuted c.is_join.result c.if-is_join.false c.is_join.ensures),
    )
