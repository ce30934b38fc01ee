use Rattle.std.proofs.Common.{refl}
use Rattle.pssm_model.specs.declared.elements.Owner.TheVariants.{State}
use Rattle.pssm_wellformed.proofs.Climbing.{home_inside, home_outside}
use Rattle.pssm_wellformed.proofs.Places.{owner_at}
use Rattle.pssm_wellformed.proofs.levels.home.Goals as goal

pub returns-in-State : goal.returns-in-State
returns-in-State c =
    let m = c.args.machine.now in
    let p = c.vertex-in-State.result.now.owner in
    home_inside m c.requires.shape c.args.vertex c.in-State.state p
    (owner_at m c.args.vertex c.vertex.result.now (State c.in-State.state) c.vertex.ensures c.in-State.is)
    (owner_at m c.in-State.state c.vertex-in-State.result.now p c.vertex-in-State.ensures refl)

pub returns-in_default : goal.returns-in_default
returns-in_default c =
    let m = c.args.machine.now in
    let p = c.vertex.result.now.owner in
    home_outside m c.requires.shape c.args.vertex p (owner_at m c.args.vertex c.vertex.result.now p c.vertex.ensures refl) c.in_default.not-State
