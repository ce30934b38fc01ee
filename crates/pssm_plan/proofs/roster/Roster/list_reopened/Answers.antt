use Rattle.std.proofs.lemmas.Result.{on_ok_weaker}
use Rattle.pssm_plan.specs.inner.Calling.{IsReopened}
use Rattle.pssm_plan.specs.inner.Direct.{IsReopenedIn}
use Rattle.pssm_plan.proofs.DirectWays.{direct_reopened}
use Rattle.pssm_plan.proofs.Extending.{extended_same}
use Rattle.pssm_plan.proofs.roster.Roster.list_reopened.Goals as goal

pub returns-in-Some-clause-added : goal.returns-in-Some-clause-added
returns-in-Some-clause-added c =
    let m = c.args.machine.now in
    let way = c.args.way.now in
    let calls = c.args.self.now.calls.items in
    on_ok_weaker c.list_reopened_in.result
    (λ added. extended_same m _ _ (IsReopenedIn m calls way way.legs.first.last) (IsReopened m calls way)
    (direct_reopened c.regions-shaped.ensures.shaped c.requires.rules way c.requires.way _ c.in-Some.ensures calls) added)
    c.list_reopened_in.ensures.added
