-- what the look on from each vertex tells
use Rattle.std.proofs.Common.{refl, subst}
use Rattle.pssm_routes.specs.inner.Looking.{LooksOn}
use Rattle.pssm_routes.proofs.Looks.{looked_none}
use Rattle.pssm_routes.proofs.looking.Reached.look_out.Goals as goal

pub loop-place-preserved : goal.loop-place-preserved
loop-place-preserved g c = (
  c.look_on.ensures.room,
  λ values start tells h.
      subst (LooksOn c.args.machine.now values c.args.within start c.look_on.new.self _) c.in-On.is
      (c.look_on.ensures.sight values start tells (c.loop-place.invariant.1 values start tells h)),
)

pub returns-in-Out : goal.returns-in-Out
returns-in-Out g c values start tells h = (
  λ e. subst (LooksOn c.args.machine.now values c.args.within start c.look_on.new.self _) c.in-Out.is
      (c.look_on.ensures.sight values start tells (c.loop-place.invariant.1 values start tells h)),
  λ leads. refl,
)

pub returns : goal.returns
returns g c values start tells h = (
  λ e. absurd (let no = e in cc),
  λ leads. absurd (looked_none start c.loop-place.self c.loop-place.place (c.loop-place.invariant.1 values start tells h) c.loop-place-test.false leads),
)
