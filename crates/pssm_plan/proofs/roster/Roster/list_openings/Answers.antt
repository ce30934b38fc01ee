use Rattle.std.proofs.Common.{◌≡◌}
use Rattle.std.proofs.lemmas.Result.{on_ok_weaker}
use Rattle.pssm_model.specs.declared.steps.Item.{Item}
use Rattle.pssm_model.specs.declared.steps.Item.TheVariants.{Opened}
use Rattle.pssm_plan.specs.inner.ByWays.{calls_by}
use Rattle.pssm_plan.specs.inner.Calling.{IsOpeningBy}
use Rattle.pssm_plan.proofs.CalledPlaces.{owner_there}
use Rattle.pssm_plan.proofs.DirectWays.{direct_openings}
use Rattle.pssm_plan.proofs.Extending.{extended_same}
use Rattle.pssm_plan.proofs.roster.Roster.list_openings.Goals as goal

pub list_called-requires-clause-item : goal.list_called-requires-clause-item
list_called-requires-clause-item c =
    owner_there c.args.machine.now c.regions-shaped.ensures.shaped c.args.way.now.legs.first.last c.in-Some.r c.in-Some.ensures.owner

pub returns-in-Some-clause-added : goal.returns-in-Some-clause-added
returns-in-Some-clause-added c =
    let m = c.args.machine.now in
    let way = c.args.way.now in
    let r = c.in-Some.r in
    on_ok_weaker c.list_called.result
    (λ added. extended_same m _ _ (λ (x : Item). (x ≡ Opened r c.args.mode) × calls_by m way (Opened r c.args.mode)) (IsOpeningBy m way c.args.mode)
    (direct_openings c.regions-shaped.ensures.shaped c.requires.rules way c.requires.way r c.in-Some.ensures c.args.mode) added)
    c.list_called.ensures.added
