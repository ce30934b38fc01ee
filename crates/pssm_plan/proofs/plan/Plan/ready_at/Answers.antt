use Rattle.std.proofs.Common.{◌≡◌, ◌<◌, List, length, arith, ap, subst, sym}
use Rattle.std.specs.List.{filter}
use Rattle.pssm_plan.specs.declared.roster.Call.{Call}
use Rattle.pssm_plan.specs.Agenda.{Agenda}
use Rattle.pssm_plan.specs.Standings.{stands_ready, IsItemAt}
use Rattle.pssm_plan.specs.inner.Views.{shown}
use Rattle.pssm_plan.proofs.ReadyCalls.{item_is_ready}
use Rattle.pssm_plan.proofs.Shown.{ready_raw, item_raw}
use Rattle.pssm_plan.proofs.plan.Plan.ready_at.Goals as goal

pub ready_item-requires : goal.ready_item-requires
ready_item-requires c =
    let raw = c.self.inside.progress.roster.calls.items in
    let is : shown raw ≡ c.args.self.now.calls = ap (λ (p : Agenda). p.calls) c.self.view_is in
    subst (λ (l : List Call). c.args.i < length (filter stands_ready l)) (sym c.as_slice.ensures.value)
    (let same = ready_raw raw c.args.self.now.calls is in let lt = c.requires in omega (arith, same, lt))

pub returns-clause-listed : goal.returns-clause-listed
returns-clause-listed c =
    let raw = c.self.inside.progress.roster.calls.items in
    let is : shown raw ≡ c.args.self.now.calls = ap (λ (p : Agenda). p.calls) c.self.view_is in
    item_raw raw c.args.self.now.calls is c.args.i c.ready_item.result
    (let same = ready_raw raw c.args.self.now.calls is in let lt = c.requires in omega (arith, same, lt))
    (subst (λ (calls : List Call). IsItemAt (filter stands_ready calls) c.args.i c.ready_item.result) c.as_slice.ensures.value c.ready_item.ensures)

pub returns-clause-ready : goal.returns-clause-ready
returns-clause-ready c = λ m h. item_is_ready m c.args.self.now h c.args.i c.ready_item.result c.requires (returns-clause-listed c)
