use Rattle.std.proofs.Common.{◌≡◌, List, IfSome, IfNone, length, ap, subst}
use Rattle.std.specs.List.{filter}
use Rattle.pssm_plan.specs.declared.roster.Call.{Call}
use Rattle.pssm_plan.specs.Agenda.{Agenda}
use Rattle.pssm_plan.specs.Standings.{stands_ready, ready_before, IsNextReady}
use Rattle.pssm_plan.specs.inner.Views.{shown}
use Rattle.pssm_plan.proofs.ReadyCalls.{found_is_ready}
use Rattle.pssm_plan.proofs.Shown.{found_raw, none_raw}
use Rattle.pssm_plan.proofs.plan.Plan.ready_from.Goals as goal

pub returns-clause-some : goal.returns-clause-some
returns-clause-some c =
    let raw = c.self.inside.progress.roster.calls.items in
    let is : shown raw ≡ c.args.self.now.calls = ap (λ (p : Agenda). p.calls) c.self.view_is in
    found_raw raw c.args.self.now.calls is c.args.place c.next_ready.result
    (subst (λ (calls : List Call). IfSome c.next_ready.result (IsNextReady calls c.args.place)) c.as_slice.ensures.value c.next_ready.ensures.some)

pub returns-clause-none : goal.returns-clause-none
returns-clause-none c =
    let raw = c.self.inside.progress.roster.calls.items in
    let is : shown raw ≡ c.args.self.now.calls = ap (λ (p : Agenda). p.calls) c.self.view_is in
    none_raw raw c.args.self.now.calls is c.args.place c.next_ready.result
    (subst (λ (calls : List Call). IfNone c.next_ready.result (ready_before calls c.args.place ≡ length (filter stands_ready calls)))
    c.as_slice.ensures.value c.next_ready.ensures.none)

pub returns-clause-ready : goal.returns-clause-ready
returns-clause-ready c = λ m h. found_is_ready m c.args.self.now h c.args.place c.next_ready.result (returns-clause-some c)
