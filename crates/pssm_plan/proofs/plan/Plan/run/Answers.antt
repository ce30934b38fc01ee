use Rattle.std.proofs.Common.{◌<◌, ◌∙◌, ◌++◌, ◌∷◌, [], ℕ, List, length, get_or, ap, subst, sym}
use Rattle.std.proofs.lemmas.Result.{on_ok_weaker}
use Rattle.std.proofs.lemmas.List.{map-append}
use Rattle.pssm_model.specs.declared.steps.How.{How}
use Rattle.pssm_model.specs.declared.steps.Item.{Item}
use Rattle.pssm_model.specs.Course.{RemembersSoFar}
use Rattle.pssm_model.specs.Order.{IsReady, IsWayNow}
use Rattle.pssm_plan.specs.declared.plan.Step.{Step}
use Rattle.pssm_plan.specs.Agenda.{Agenda, course_of}
use Rattle.pssm_plan.specs.Plans.{IsPlanOf}
use Rattle.pssm_plan.specs.declared.roster.Call.{Call}
use Rattle.pssm_plan.specs.Waiting.{IsExact}
use Rattle.pssm_plan.specs.Ways.{AreWaysIn}
use Rattle.pssm_plan.specs.inner.Sequence.{IsRoster, IsSequence}
use Rattle.pssm_plan.specs.inner.Going.{AreCovered}
use Rattle.pssm_plan.specs.inner.Views.{head_of, tables_of, steps_of}
use Rattle.pssm_plan.proofs.Shown.{shown_roster, shown_covered, shown_sure}
use Rattle.pssm_plan.proofs.Settled.{agenda_of, plan_roster, plan_covered, plan_exact, can_run_so, run_plan}
use Rattle.pssm_plan.proofs.plan.Plan.run.Goals as goal

pub run-outcome-requires-clause-roster : goal.run-outcome-requires-clause-roster
run-outcome-requires-clause-roster c =
    shown_roster c.args.machine.now c.self.inside.progress.roster.calls.items
    (subst (λ (p : Agenda). IsRoster c.args.machine.now p.calls) (sym c.self.view_is)
    (plan_roster c.args.machine.now c.regions-shaped.ensures.shaped c.args.self.now c.requires.plan))

pub run-outcome-requires-clause-ways : goal.run-outcome-requires-clause-ways
run-outcome-requires-clause-ways c =
    subst (λ (p : Agenda). AreWaysIn c.args.machine.now p.ways) (sym c.self.view_is) c.requires.plan.ways.legs

pub run-outcome-requires-clause-item : goal.run-outcome-requires-clause-item
run-outcome-requires-clause-item c =
    (plan_roster c.args.machine.now c.regions-shaped.ensures.shaped c.args.self.now c.requires.plan).items c.args.item
    ((c.requires.plan.called c.args.item).1 c.requires.ready.waiting.called)

pub run-outcome-requires-clause-covered : goal.run-outcome-requires-clause-covered
run-outcome-requires-clause-covered c =
    shown_covered c.args.machine.now c.self.inside.progress.ways.items c.self.inside.progress.roster.calls.items
    (subst (λ (p : Agenda). AreCovered c.args.machine.now p.ways p.calls) (sym c.self.view_is)
    (plan_covered c.args.machine.now c.args.self.now c.requires.plan))

pub run-outcome-requires-clause-sure : goal.run-outcome-requires-clause-sure
run-outcome-requires-clause-sure c =
    shown_sure (IsSequence c.args.machine.now c.self.inside.progress.ways.items) c.self.inside.progress.roster.calls.items
    (subst (λ (p : Agenda). (k : ℕ) (d : Call) → k < length p.calls → IsExact (IsSequence c.args.machine.now p.ways) p.calls k (get_or p.calls k d)) (sym c.self.view_is)
    (plan_exact c.args.machine.now c.regions-shaped.ensures.shaped c.args.self.now c.requires.plan))

pub run-outcome-requires-clause-way : goal.run-outcome-requires-clause-way
run-outcome-requires-clause-way c =
    can_run_so c.args.machine.now c.requires.way.0 (RemembersSoFar c.args.machine.now (course_of c.args.self.now)) c.args.item c.args.how.now c.requires.way.1

pub returns-else-is_err-clause-plan : goal.returns-else-is_err-clause-plan
returns-else-is_err-clause-plan c =
    let m = c.args.machine.now in
    let old : Agenda = agenda_of (head_of c.self.inside.beginning) (tables_of c.self.inside.beginning) (steps_of c.self.inside.ran.items) c.self.inside.progress in
    let back = sym c.self.view_is in
    let plan = subst (λ (p : Agenda). IsPlanOf m p) back c.requires.plan in
    let ready = subst (λ (p : Agenda). IsReady m (course_of p) c.args.item) back c.requires.ready in
    let way = subst (λ (p : Agenda). IsWayNow m c.requires.way.0 (course_of p) c.args.item c.args.how.now) back c.requires.way.1 in
    let step : Step → Item × How = (λ s. (s.item.value, s.how.value)) in
    let longer = ap (λ (l : List Step). steps_of l) c.in_ok-push.ensures.items
    ∙ map-append step c.self.inside.ran.items _
    ∙ ap (λ (x : Item). steps_of c.self.inside.ran.items ++ (x, c.of-2.result.value) ∷ []) c.of.ensures
    ∙ ap (λ (h : How). steps_of c.self.inside.ran.items ++ (c.args.item, h) ∷ []) c.of-2.ensures in
    on_ok_weaker c.run-outcome.result
    (λ ran. subst
    (λ (l : List (Item × How)). IsPlanOf m (agenda_of (head_of c.self.inside.beginning) (tables_of c.self.inside.beginning) l c.run-outcome.new.self))
    (sym longer)
    (run_plan (head_of c.self.inside.beginning) (tables_of c.self.inside.beginning) (steps_of c.self.inside.ran.items)
    c.self.inside.progress c.run-outcome.new.self c.args.item c.args.how.now plan ready c.requires.way.0 way ran))
    c.run-outcome.ensures.ran
