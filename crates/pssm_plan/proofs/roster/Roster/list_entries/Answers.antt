use Rattle.std.proofs.Common.{◌≡◌}
use Rattle.std.proofs.lemmas.Result.{on_ok_weaker}
use Rattle.pssm_model.specs.declared.steps.Item.{Item}
use Rattle.pssm_model.specs.declared.steps.Item.TheVariants.{Enter}
use Rattle.pssm_plan.specs.inner.ByWays.{calls_by}
use Rattle.pssm_plan.specs.inner.Calling.{IsEntryBy}
use Rattle.pssm_plan.proofs.DirectWays.{direct_entries}
use Rattle.pssm_plan.proofs.Extending.{extended_same}
use Rattle.pssm_plan.proofs.roster.Roster.list_entries.Goals as goal

pub returns-in-Some-clause-added : goal.returns-in-Some-clause-added
returns-in-Some-clause-added c =
    let m = c.args.machine.now in
    let way = c.args.way.now in
    let last = way.legs.first.last in
    on_ok_weaker c.list_called.result
    (λ added. extended_same m _ _ (λ (x : Item). (x ≡ Enter last) × calls_by m way (Enter last)) (IsEntryBy m way)
    (direct_entries c.regions-shaped.ensures.shaped c.requires.rules way c.requires.way _ c.in-Some.ensures) added)
    c.list_called.ensures.added
