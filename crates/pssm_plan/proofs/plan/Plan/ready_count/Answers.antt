use Rattle.std.proofs.Common.{◌≡◌, ◌∙◌, List, length, ap}
use Rattle.std.specs.List.{filter}
use Rattle.pssm_plan.specs.declared.roster.Call.{Call}
use Rattle.pssm_plan.specs.Agenda.{Agenda}
use Rattle.pssm_plan.specs.Standings.{stands_ready}
use Rattle.pssm_plan.specs.inner.Views.{shown}
use Rattle.pssm_plan.proofs.ReadyCalls.{lists_ready}
use Rattle.pssm_plan.proofs.Shown.{ready_raw}
use Rattle.pssm_plan.proofs.plan.Plan.ready_count.Goals as goal

pub returns-clause-count : goal.returns-clause-count
returns-clause-count c =
    let raw = c.self.inside.progress.roster.calls.items in
    let is : shown raw ≡ c.args.self.now.calls = ap (λ (p : Agenda). p.calls) c.self.view_is in
    c.count_ready.ensures ∙ ap (λ (l : List Call). length (filter stands_ready l)) c.as_slice.ensures.value ∙ ready_raw raw c.args.self.now.calls is

pub returns-clause-listed : goal.returns-clause-listed
returns-clause-listed c = λ m h. lists_ready m c.args.self.now h
