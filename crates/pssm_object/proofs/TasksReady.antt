-- A task is ready after a journal exactly where it is ready by what is kept of the object.
use Rattle.std.proofs.Common.{◌≡◌, ◌↔◌, List, Bool, IsTrue, Option, Some, None, refl, sym, ◌∙◌, subst}
use Rattle.pssm_model.specs.declared.elements.DraftMachine.{DraftMachine}
use Rattle.pssm_model.specs.declared.steps.Item.{Item}
use Rattle.pssm_model.specs.declared.steps.Item.TheVariants as items
use Rattle.pssm_model.specs.Order.{IsReady}
use Rattle.pssm_config.specs.Tables.{configuration_of}
use Rattle.pssm_plan.specs.Agenda.{Agenda, course_of}
use Rattle.pssm_semantics.specs.declared.entry.Entry.{Entry}
use Rattle.pssm_semantics.specs.declared.stimulus.Task.{Task}
use Rattle.pssm_semantics.specs.declared.stimulus.Task.TheVariants as tasks
use Rattle.pssm_semantics.specs.declared.setting.Class.{Class}
use Rattle.pssm_semantics.specs.Journal.{configuration_after}
use Rattle.pssm_semantics.specs.Tasks.{IsReadyItem, IsReadyWork, IsReadyTask}
use Rattle.pssm_object.specs.Standing.{Standing, StandsAfter}
use Rattle.pssm_object.specs.inner.Judging.{IsReadyIn, IsWorkReady, IsTaskReady}
use Rattle.pssm_object.proofs.Agreeing.{Agree-symm}
use Rattle.pssm_object.proofs.DoingNext.{next_alike}
use Rattle.pssm_object.proofs.Judged.{same_some}
use Rattle.pssm_object.proofs.Rules.{no_step}
use Rattle.pssm_object.proofs.Standings.{only_posts, step_of}
use Rattle.pssm_object.proofs.UnderWay.{ready_item_is, item_ready}

-- the plan in which it is ready is this one
pub ready_where : (m : DraftMachine) (plan : Option Agenda) (p : Agenda) (item : Item) → plan ≡ Some p → IsReadyIn m plan item → IsReady m (course_of p) item
ready_where m plan p item is at = subst (λ a. IsReady m (course_of a) item) (same_some at.0 p (sym at.1 ∙ is)) at.2

module _ (class : Class) {J : List Entry} {x : Standing} (s : StandsAfter class J x) where
  abbrev m : DraftMachine
  m = class.machine

  item_told : (item : Item) → IsReadyIn m x.plan item → IsReadyItem m J x.own item
  item_told item at = item_ready (step_of s at.0 at.1) item at.2

  item_kept : (plan : Option Agenda) → x.plan ≡ plan → (item : Item) → IsReadyItem m J x.own item → IsReadyIn m x.plan item
  item_kept None none item r = absurd (no_step J x.own (only_posts s none) r.step r.last)
  item_kept (Some p) is item r = (p, is, ready_item_is (step_of s p is) item r)

  work_told : (task : Task) → IsWorkReady m x task → IsReadyWork m J x.own task
  work_told (tasks.Exit v) h = item_told (items.Exit v) h
  work_told (tasks.Effect t) h = item_told (items.Effect t) h
  work_told (tasks.Enter v) h = item_told (items.Enter v) h
  work_told (tasks.DoStep v k) h = next_alike m (configuration_of x.config) (configuration_after m J x.own) s.now_is v k h

  work_kept : (task : Task) → IsReadyWork m J x.own task → IsWorkReady m x task
  work_kept (tasks.Exit v) h = item_kept x.plan refl (items.Exit v) h
  work_kept (tasks.Effect t) h = item_kept x.plan refl (items.Effect t) h
  work_kept (tasks.Enter v) h = item_kept x.plan refl (items.Enter v) h
  work_kept (tasks.DoStep v k) h =
      next_alike m (configuration_after m J x.own) (configuration_of x.config)
      (Agree-symm (configuration_of x.config) (configuration_after m J x.own) s.now_is) v k h

  pub task_told : (task : Task) (answer : Bool) → (IsTrue answer ↔ IsTaskReady m x task) → (IsTrue answer ↔ IsReadyTask m J x.own task)
  task_told task answer h = (
    λ yes. let at = h.0 yes in ((λ ended. at.0 (s.ended_is.1 ended)), work_told task at.1),
    λ ready. h.1 ((λ yes. ready.0 (s.ended_is.0 yes)), work_kept task ready.1),
  )
