use Rattle.std.proofs.lemmas.Result.{on_ok_weaker}
use Rattle.pssm_plan.specs.inner.Calling.{IsDefaultOf, IsRestoredOf}
use Rattle.pssm_plan.proofs.Extending.{extended_further}
use Rattle.pssm_plan.proofs.roster.Roster.list_opened.Goals as goal

pub returns-clause-added : goal.returns-clause-added
returns-clause-added c =
    let m = c.args.machine.now in
    on_ok_weaker c.list_as_restored.result
    (λ added. extended_further m c.args.self.now.calls.items c.list_defaults.new.self.calls.items _ (IsDefaultOf m c.args.ways.now c.args.s)
    (IsRestoredOf m c.args.restored.now c.args.s) c.in_ok-list_defaults.ensures.added added)
    c.list_as_restored.ensures.added
