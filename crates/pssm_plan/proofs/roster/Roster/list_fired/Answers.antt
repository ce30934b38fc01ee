use Rattle.std.proofs.Common.{◌⊎◌}
use Rattle.std.proofs.lemmas.Result.{on_ok_weaker}
use Rattle.pssm_model.specs.declared.steps.Item.{Item}
use Rattle.pssm_config.specs.Tables.{configuration_of}
use Rattle.pssm_plan.specs.inner.ByWays.{calls_by}
use Rattle.pssm_plan.specs.inner.Calling.{IsExitBy, IsOtherBy, MayRun}
use Rattle.pssm_plan.proofs.Extending.{extended_same, extended_further}
use Rattle.pssm_plan.proofs.AddedCalls.{fired_are}
use Rattle.pssm_plan.proofs.roster.Roster.list_fired.Goals as goal

pub returns-clause-added : goal.returns-clause-added
returns-clause-added c =
    let m = c.args.machine.now in
    let way = c.args.way.now in
    let old = c.args.self.now.calls.items in
    let mid = c.list_exits.new.self.calls.items in
    on_ok_weaker c.list_others.result
    (λ added. extended_same m old _ (λ (x : Item). IsExitBy m (configuration_of c.args.config.now) way x ⊎ IsOtherBy m way x)
    (λ x. MayRun (configuration_of c.args.config.now) x × calls_by m way x)
    (fired_are m way (configuration_of c.args.config.now))
    (extended_further m old mid _ (IsExitBy m (configuration_of c.args.config.now) way) (IsOtherBy m way) c.in_ok-list_exits.ensures.added added))
    c.list_others.ensures.added
