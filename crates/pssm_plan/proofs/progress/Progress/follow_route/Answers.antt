use Rattle.std.proofs.Common.{List, refl, subst, sym}
use Rattle.pssm_plan.specs.declared.ways.Way.{Way}
use Rattle.pssm_plan.specs.inner.Going.{KeepsOrder}
use Rattle.pssm_plan.proofs.Growing.{longer_same}
use Rattle.pssm_plan.proofs.Following.{order_kept, longer_progress, longer_kept, longer_by}
use Rattle.pssm_plan.proofs.progress.Progress.follow_route.Goals as goal

pub returns-in_err-way-clause-longer : goal.returns-in_err-way-clause-longer
returns-in_err-way-clause-longer c = longer_progress _ _ (longer_same _) (longer_same _) (longer_same _) (longer_same _)

pub returns-in_err-list_late-clause-longer : goal.returns-in_err-list_late-clause-longer
returns-in_err-list_late-clause-longer c = longer_progress _ _ c.list_late.ensures.calls (longer_same _) (longer_same _) (longer_same _)

pub returns-in_err-push-clause-longer : goal.returns-in_err-push-clause-longer
returns-in_err-push-clause-longer c =
    longer_progress _ _ c.list_late.ensures.calls (longer_kept _ _ c.in_err-push.ensures.items) (longer_same _) (longer_same _)

pub returns-clause-longer : goal.returns-clause-longer
returns-clause-longer c = longer_progress _ _ c.list_late.ensures.calls (longer_by _ _ _ c.in_ok-push.ensures.items) (longer_same _) (longer_same _)

pub returns-clause-followed : goal.returns-clause-followed
returns-clause-followed c = record {
  way = c.in_ok-way.way;
  inside = c.in_ok-way.ensures.way;
  route = c.in_ok-way.ensures.route;
  late = c.in_ok-way.ensures.fires;
  ways = c.in_ok-push.ensures.items;
  restored = refl;
  extended = c.in_ok-list_late.ensures.added;
}

pub returns-clause-kept : goal.returns-clause-kept
returns-clause-kept c = λ free.
    let m = c.args.machine.now in
    let calls = c.args.self.now.roster.calls.items in
    let ways = c.args.self.now.ways.items in
    subst (λ (l : List Way). KeepsOrder m calls ways l) (sym c.in_ok-push.ensures.items)
    (order_kept m calls ways c.in_ok-way.way
    (λ h. free (c.meets-anew.ensures h)))
