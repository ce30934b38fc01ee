-- the look begins with the start
use Rattle.std.proofs.Common.{subst}
use Rattle.pssm_routes.specs.inner.Looking.{IsSight}
use Rattle.pssm_routes.proofs.Looks.{looking_start}
use Rattle.pssm_routes.proofs.looking.look_over.Goals as goal

pub returns-in-On : goal.returns-in-On
returns-in-On g c values tells =
    c.look_out.ensures values c.args.start tells
    (looking_start c.args.start c.none-reached.result c.look_at.new.self c.none-reached.ensures
    (subst (IsSight c.args.machine.now values c.args.within c.args.start c.none-reached.result c.look_at.new.self) c.in-On.is
    (c.look_at.ensures.sight values tells)))
