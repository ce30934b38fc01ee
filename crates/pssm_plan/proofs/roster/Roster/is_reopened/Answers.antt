use Rattle.std.proofs.Common.{◌≡◌, Some}
use Rattle.pssm_model.specs.declared.elements.Owner.TheVariants.{Region, State}
use Rattle.pssm_model.specs.Forest.{owner_of}
use Rattle.pssm_plan.proofs.CalledPlaces.{owning_there}
use Rattle.pssm_plan.proofs.AddedCalls.{reopened_here}
use Rattle.pssm_plan.proofs.roster.Roster.is_reopened.Goals as goal

pub way_opens-requires-clause-state : goal.way_opens-requires-clause-state
way_opens-requires-clause-state c =
    let e : owner_of c.args.machine.now (Region c.args.r) ≡ Some (State c.in-State.s) = (let at = c.region_owner.ensures in let is = c.in-State.is in cc) in
    owning_there c.args.machine.now c.regions-shaped.ensures.shaped c.args.r c.in-State.s e

pub returns-then-way_opens : goal.returns-then-way_opens
returns-then-way_opens c =
    let s = c.in-State.s in
    let e : owner_of c.args.machine.now (Region c.args.r) ≡ Some (State s) = (let at = c.region_owner.ensures in let is = c.in-State.is in cc) in
    let here = reopened_here c.args.machine.now c.args.self.now.calls.items c.args.way.now c.args.r s e in
    let ran = c.has_run.ensures in
    (λ t. here.1 (c.way_opens.ensures.0 c.if-way_opens.true, ran.0 t), λ h. ran.1 (here.0 h).1)

pub returns-else-way_opens : goal.returns-else-way_opens
returns-else-way_opens c =
    let s = c.in-State.s in
    let e : owner_of c.args.machine.now (Region c.args.r) ≡ Some (State s) = (let at = c.region_owner.ensures in let is = c.in-State.is in cc) in
    let here = reopened_here c.args.machine.now c.args.self.now.calls.items c.args.way.now c.args.r s e in
    (λ t. absurd (let no = c.if-way_opens.false in cc (no, t)), λ h. c.way_opens.ensures.1 (here.0 h).0)
