use Rattle.std.proofs.Common.{◌⊎◌}
use Rattle.std.proofs.lemmas.Result.{on_ok_weaker}
use Rattle.pssm_model.specs.declared.steps.Item.{Item}
use Rattle.pssm_plan.specs.inner.Calling.{IsOtherBy, IsReopened, IsLate}
use Rattle.pssm_plan.proofs.Extending.{extended_same, extended_further}
use Rattle.pssm_plan.proofs.AddedCalls.{late_same}
use Rattle.pssm_plan.proofs.roster.Roster.list_late.Goals as goal

pub returns-clause-added : goal.returns-clause-added
returns-clause-added c =
    let m = c.args.machine.now in
    let way = c.args.way.now in
    let old = c.args.self.now.calls.items in
    let mid = c.list_others.new.self.calls.items in
    on_ok_weaker c.list_reopened.result
    (λ added. extended_same m old _ (λ (x : Item). IsOtherBy m way x ⊎ IsReopened m mid way x) (IsLate m old way)
    (late_same m old mid way c.in_ok-list_others.ensures.added.marked)
    (extended_further m old mid _ (IsOtherBy m way) (IsReopened m mid way) c.in_ok-list_others.ensures.added added))
    c.list_reopened.ensures.added
