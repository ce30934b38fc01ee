-- What is active as a step goes on: what has been entered, and what was active at its head and has not been exited.
use Rattle.std.proofs.Common.{List, [], ◌∷◌, ◌++◌, ◌≡◌, ◌⊎◌, ◌↔◌, refl, sym, ap, subst, inl, inr, ⊎_elim}
use Rattle.pssm_model.specs.declared.ids.VertexId.{VertexId}
use Rattle.pssm_model.specs.declared.elements.DraftMachine.{DraftMachine}
use Rattle.pssm_model.specs.declared.steps.Route.{Route}
use Rattle.pssm_model.specs.declared.steps.How.{How}
use Rattle.pssm_model.specs.declared.steps.How.TheVariants.{By, Restore, Nothing}
use Rattle.pssm_model.specs.declared.steps.Item.{Item}
use Rattle.pssm_model.specs.declared.steps.Item.TheVariants as items
use Rattle.pssm_model.specs.Configuration.{Configuration}
use Rattle.pssm_model.specs.Changes.{entered, exited}
use Rattle.pssm_model.specs.Shapes.{HasShape}
use Rattle.pssm_model.specs.Course.{Head, Course, HasRun}
use Rattle.pssm_model.specs.Items.{IsWaiting}
use Rattle.pssm_model.specs.Order.{HasGone, course_by}
use Rattle.pssm_model.specs.Order.HasGone.{begun as gone_begun, more as gone_more}
use Rattle.pssm_model.specs.WellFormed.{KeepsModelRules}
use Rattle.pssm_plan.specs.Steadiness.{BeginsWell, changed_by_item, changed_along}
use Rattle.pssm_plan.proofs.RouteItems.{called_is}
use Rattle.pssm_plan.proofs.RouteSteps.{gone_by_routes}
use Rattle.pssm_plan.proofs.MoreRan.{gone_on, nothing_ran, run_more}
use Rattle.pssm_plan.proofs.SteadyApart.{IsFiredAround}
use Rattle.pssm_plan.proofs.SteadyItems.{exited_around, entry_after_exits}

-- one more item at the end
pub changed_along-push : (m : DraftMachine) (now : Configuration) (xs : List (Item × How)) (item : Item) (how : How)
    → changed_along m now (xs ++ (item, how) ∷ []) ≡ changed_by_item m (changed_along m now xs) item how
changed_along-push m now [] item how = refl
changed_along-push m now (x ∷ xs) item how = changed_along-push m (changed_by_item m now x.0 x.1) xs item how

-- The State has been entered in the step, or was active at its head and has not been exited.
abbrev pub IsLeftActive : Course → VertexId → Type 0
IsLeftActive course s = HasRun course (items.Enter s) ⊎ (course.at_head.Active s × (HasRun course (items.Exit s) → ⊥))

-- an exit and an entry are of one State
same_exit : (s q : VertexId) → items.Exit s ≡ items.Exit q → s ≡ q
same_exit s q e = cc

same_enter : (s q : VertexId) → items.Enter s ≡ items.Enter q → s ≡ q
same_enter s q e = cc

-- what one more item does to this
module _ (m : DraftMachine) (course : Course) (before : Configuration) (how : How)
    (is : (s : VertexId) → before.Active s ↔ IsLeftActive course s) where
  -- an item that neither enters nor exits
  kept : (item : Item) → ((s : VertexId) → items.Enter s ≡ item → ⊥) → ((s : VertexId) → items.Exit s ≡ item → ⊥)
      → (s : VertexId) → before.Active s ↔ IsLeftActive (gone_on course item how) s
  kept item no_enter no_exit s = (
    λ h. ⊎_elim
        (λ ran. inl ((run_more course item how (items.Enter s)).1 (inl ran)))
        (λ left. inr (left.0, λ ran. ⊎_elim left.1 (no_exit s) ((run_more course item how (items.Exit s)).0 ran)))
        ((is s).0 h),
    λ h. (is s).1 (⊎_elim
        (λ ran. inl (⊎_elim (λ was. was) (λ same. absurd (no_enter s same)) ((run_more course item how (items.Enter s)).0 ran)))
        (λ left. inr (left.0, λ ran. left.1 ((run_more course item how (items.Exit s)).1 (inl ran))))
        h),
  )

  -- an entry
  active_entered : (q s : VertexId)
      → (entered m before q).Active s ↔ IsLeftActive (gone_on course (items.Enter q) how) s
  active_entered q s =
      let item = items.Enter q in (
        λ h. ⊎_elim
            (λ same. inl ((run_more course item how (items.Enter s)).1 (inr (ap items.Enter same))))
            (λ was. ⊎_elim
            (λ ran. inl ((run_more course item how (items.Enter s)).1 (inl ran)))
            (λ left. inr (left.0, λ ran. ⊎_elim left.1 (λ clash. cc) ((run_more course item how (items.Exit s)).0 ran)))
            ((is s).0 was))
            h,
        λ h. ⊎_elim
            (λ ran. ⊎_elim
            (λ was. inr ((is s).1 (inl was)))
            (λ same. inl (same_enter s q same))
            ((run_more course item how (items.Enter s)).0 ran))
            (λ left. inr ((is s).1 (inr (left.0, λ ran. left.1 ((run_more course item how (items.Exit s)).1 (inl ran))))))
            h,
      )

  -- an exit, before which that State has not been entered
  active_exited : (q s : VertexId) → (HasRun course (items.Enter q) → ⊥)
      → (exited m before q).Active s ↔ IsLeftActive (gone_on course (items.Exit q) how) s
  active_exited q s none =
      let item = items.Exit q in (
        λ h. ⊎_elim
            (λ ran. inl ((run_more course item how (items.Enter s)).1 (inl ran)))
            (λ left. inr (
              left.0,
              λ ran. ⊎_elim
                  left.1
                  (λ same. h.0 (same_exit s q same))
                  ((run_more course item how (items.Exit s)).0 ran),
            ))
            ((is s).0 h.1),
        λ h. ⊎_elim
            (λ ran. ⊎_elim
            (λ was. (λ same. none (subst (λ x. HasRun course (items.Enter x)) same was), (is s).1 (inl was)))
            (λ clash. absurd (cc))
            ((run_more course item how (items.Enter s)).0 ran))
            (λ left. (
              λ same. left.1 ((run_more course item how (items.Exit s)).1 (inr (ap items.Exit same))),
              (is s).1 (inr (left.0, λ ran. left.1 ((run_more course item how (items.Exit s)).1 (inl ran)))),
            ))
            h,
      )

-- what one more item does to what is active
active_more : (m : DraftMachine) (course : Course) (before : Configuration) (item : Item) (how : How)
    → ((s : VertexId) → before.Active s ↔ IsLeftActive course s)
    → ((q : VertexId) → items.Exit q ≡ item → HasRun course (items.Enter q) → ⊥)
    → (s : VertexId) → (changed_by_item m before item how).Active s ↔ IsLeftActive (gone_on course item how) s
active_more m course before (items.Exit q) how is first s = active_exited m course before how is q s (first q refl)
active_more m course before (items.Enter q) how is first s = active_entered m course before how is q s
active_more m course before (items.Effect t) how is first s =
    kept m course before how is (items.Effect t) (λ v e. cc) (λ v e. cc) s
active_more m course before (items.Opened r mode) (By route) is first s =
    kept m course before (By route) is (items.Opened r mode) (λ v e. cc) (λ v e. cc) s
active_more m course before (items.Opened r mode) (Restore q) is first s =
    kept m course before (Restore q) is (items.Opened r mode) (λ v e. cc) (λ v e. cc) s
active_more m course before (items.Opened r mode) Nothing is first s =
    kept m course before Nothing is (items.Opened r mode) (λ v e. cc) (λ v e. cc) s
active_more m course before (items.Pick c) how is first s =
    kept m course before how is (items.Pick c) (λ v e. cc) (λ v e. cc) s

module _ {m : DraftMachine} (shape : HasShape m) (rules : KeepsModelRules m)
    (head : Head) (now : Configuration) (begins : BeginsWell m head now) where
  -- nothing has been entered where an exit waits
  pub no_entry_yet : (ran : List (Item × How)) → HasGone m head now ran → (p : Route) (q v : VertexId)
      → IsFiredAround m head q p → IsFiredAround m head v p
      → IsWaiting m (course_by head now ran) (items.Exit q) → HasRun (course_by head now ran) (items.Enter v) → ⊥
  no_entry_yet ran gone p q v place around waits entry =
      let called = called_is rules shape (course_by head now ran) (gone_by_routes rules shape head now ran gone) (items.Exit q) waits.called in
      waits.not_run (entry_after_exits shape rules head now begins ran gone p v q around place entry called)

  -- so a State has not been entered whose exit waits
  not_entered : (ran : List (Item × How)) → HasGone m head now ran → (q : VertexId)
      → IsWaiting m (course_by head now ran) (items.Exit q) → HasRun (course_by head now ran) (items.Enter q) → ⊥
  not_entered ran gone q waits entry =
      let called = called_is rules shape (course_by head now ran) (gone_by_routes rules shape head now ran gone) (items.Exit q) waits.called in
      let at = exited_around shape rules head now ran gone q called in
      no_entry_yet ran gone at.0 q q at.1 at.1 waits entry

  -- what is active
  pub active_is : (ran : List (Item × How)) → HasGone m head now ran
      → (s : VertexId) → (changed_along m now ran).Active s ↔ IsLeftActive (course_by head now ran) s
  active_is _ (gone_begun fires) s = (
    λ h. inr (h, nothing_ran head now (items.Exit s)),
    λ h. ⊎_elim (λ ran. absurd (nothing_ran head now (items.Enter s) ran)) (λ left. left.0) h,
  )
  active_is _ (gone_more {ran = ran} item how before ready truth way) s =
      let course = course_by head now ran in
      subst (λ (c : Configuration). c.Active s ↔ IsLeftActive (gone_on course item how) s)
      (sym (changed_along-push m now ran item how))
      (active_more m course (changed_along m now ran) item how (active_is ran before)
      (λ q same entry. not_entered ran before q (subst (λ x. IsWaiting m course x) (sym same) ready.waiting) entry)
      s)

  -- a State whose exit waits is active
  pub exit_is_active : (ran : List (Item × How)) → HasGone m head now ran → (s : VertexId)
      → IsWaiting m (course_by head now ran) (items.Exit s) → (changed_along m now ran).Active s
  exit_is_active ran gone s waits =
      let called = called_is rules shape (course_by head now ran) (gone_by_routes rules shape head now ran gone) (items.Exit s) waits.called in
      (active_is ran gone s).1 (inr (called.1.1, waits.not_run))
