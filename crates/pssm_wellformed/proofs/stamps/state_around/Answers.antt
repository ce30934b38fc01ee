use Rattle.pssm_model.specs.declared.elements.Owner.TheVariants.{Top, Region, State}
use Rattle.pssm_wellformed.specs.inner.Apart.{AreEnds}
use Rattle.pssm_wellformed.proofs.Places.{owner_at, owner_may}
use Rattle.pssm_wellformed.proofs.Together.{around_region, around_state}
use Rattle.pssm_wellformed.proofs.stamps.state_around.Goals as goal

pub returns-in-Region : goal.returns-in-Region
returns-in-Region c =
    let m = c.args.machine.now in
    around_region m c.args.vertex c.in-Region.region (AreEnds m c.args.end c.args.transitions.now) c.state_beside.result
    (owner_at m c.args.vertex c.vertex.result.now (Region c.in-Region.region) c.vertex.ensures c.in-Region.is) c.state_beside.ensures

pub returns-in-State : goal.returns-in-State
returns-in-State c =
    let m = c.args.machine.now in
    around_state m c.args.vertex c.in-State.state (AreEnds m c.args.end c.args.transitions.now)
    (owner_at m c.args.vertex c.vertex.result.now (State c.in-State.state) c.vertex.ensures c.in-State.is)

pub returns-in-Top : goal.returns-in-Top
returns-in-Top c =
    let m = c.args.machine.now in
    λ s around h. absurd (owner_may m c.requires.shape c.args.vertex Top (owner_at m c.args.vertex c.vertex.result.now Top c.vertex.ensures c.in-Top.is))
