use Rattle.std.proofs.Common.{◌≡◌, Some, ap, ◌∙◌}
use Rattle.pssm_model.specs.declared.elements.Owner.TheVariants.{Top, Region, State}
use Rattle.pssm_model.specs.Forest.{owner_of}
use Rattle.pssm_plan.proofs.CalledPlaces.{owning_there}
use Rattle.pssm_plan.proofs.Around.{state_or_around, none_around}
use Rattle.pssm_plan.proofs.waiting.state_around.Goals as goal

pub unreachable-requires : goal.unreachable-requires
unreachable-requires c =
    let m = c.args.machine.now in
    let e : owner_of m (Region c.home.result) ≡ Some (Region c.in-Region.field-0) = c.region_owner.ensures ∙ ap Some c.in-Region.is in
    let owns = (c.regions-shaped.ensures.shaped.regions c.home.result (Region c.in-Region.field-0) e).0 in
    owns

pub returns-in-State : goal.returns-in-State
returns-in-State c =
    let m = c.args.machine.now in
    let e : owner_of m (Region c.home.result) ≡ Some (State c.in-State.q) = c.region_owner.ensures ∙ ap Some c.in-State.is in (
      owning_there m c.regions-shaped.ensures.shaped c.home.result c.in-State.q e,
      state_or_around m c.args.v c.in-State.q c.home.result c.home.ensures.home e,
    )

pub returns-in-Top : goal.returns-in-Top
returns-in-Top c =
    let m = c.args.machine.now in
    let e : owner_of m (Region c.home.result) ≡ Some Top = c.region_owner.ensures ∙ ap Some c.in-Top.is in
    none_around m c.args.v c.home.result c.home.ensures.home e
