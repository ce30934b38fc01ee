-- What one item more that has run does to what a step calls that goes by routes: what was called still is.
use Rattle.std.proofs.Common.{◌≡◌, ◌⊎◌, ◌↔◌, inl, inr, ⊎_elim}
use Rattle.pssm_model.specs.declared.ids.VertexId.{VertexId}
use Rattle.pssm_model.specs.declared.ids.RegionId.{RegionId}
use Rattle.pssm_model.specs.declared.elements.DraftMachine.{DraftMachine}
use Rattle.pssm_model.specs.declared.elements.VertexKind.TheVariants as kinds
use Rattle.pssm_model.specs.declared.steps.Route.{Route}
use Rattle.pssm_model.specs.declared.steps.Mode.{Mode}
use Rattle.pssm_model.specs.declared.steps.How.{How}
use Rattle.pssm_model.specs.declared.steps.How.TheVariants.{By, Restore}
use Rattle.pssm_model.specs.declared.steps.Item.{Item}
use Rattle.pssm_model.specs.declared.steps.Item.TheVariants as items
use Rattle.pssm_model.specs.Forest.{HasKind}
use Rattle.pssm_model.specs.RouteWords.{IsStepRoute}
use Rattle.pssm_model.specs.Course.{Course, HasRestored}
use Rattle.pssm_plan.specs.inner.OverRoutes.{GoesByRoutes, GoesBy, IsEnteredOver, OpensFor, OpensAfterEntry, IsOpenedFor, IsCalledOver}
use Rattle.pssm_plan.proofs.MoreRan.{gone_on, ran_kept, run_more as ran_more, gone_by_more as by_more, restored_more as put_back_more}

module _ (course : Course) (item : Item) (how : How) where
  -- its routes
  pub over_more : (p : Route) → GoesBy (gone_on course item how) p ↔ (GoesBy course p ⊎ (how ≡ By p))
  over_more p = (
    λ h. ⊎_elim
        (λ fires. inl (inl fires))
        (λ gone. ⊎_elim (λ was. inl (inr was)) (λ now. inr now) ((by_more course item how p).0 gone))
        h,
    λ h. ⊎_elim
        (λ was. ⊎_elim (λ fires. inl fires) (λ gone. inr ((by_more course item how p).1 (inl gone))) was)
        (λ now. inr ((by_more course item how p).1 (inr now)))
        h,
  )

  pub goes_on_by_routes : (m : DraftMachine) → GoesByRoutes m course → ((route : Route) → how ≡ By route → IsStepRoute m route)
      → ((s : VertexId) → how ≡ Restore s → HasKind m s kinds.State) → GoesByRoutes m (gone_on course item how)
  goes_on_by_routes m g by state = record {
    routes = λ route goes. ⊎_elim
        (λ fires. g.routes route (inl fires))
        (λ gone. ⊎_elim (λ was. g.routes route (inr was)) (by route) ((by_more course item how route).0 gone))
        goes;
    restored = λ mode s h. ⊎_elim (g.restored mode s) (state s) (put_back_more course item how mode s h);
  }

  -- what it goes by, and what it has restored, stay
  pub goes_kept : (p : Route) → GoesBy course p → GoesBy (gone_on course item how) p
  goes_kept p by = (over_more p).1 (inl by)

  restored_kept : (mode : Mode) (s : VertexId) → HasRestored course mode s → HasRestored (gone_on course item how) mode s
  restored_kept mode s h = (h.0, ran_kept course item how (items.Opened h.0 mode, Restore s) h.1)

  entered_kept : (m : DraftMachine) (p : Route) (s : VertexId) → IsEnteredOver m course p s → IsEnteredOver m (gone_on course item how) p s
  entered_kept m p s h = (goes_kept p h.0, h.1)

  -- openings
  opens_kept : (m : DraftMachine) (s : VertexId) (r : RegionId) (mode : Mode) → OpensFor m course s r mode
      → OpensFor m (gone_on course item how) s r mode
  opens_kept m s r mode h =
      ⊎_elim
      (λ over. inl (over.0, entered_kept m over.0 s over.1, over.2, over.3))
      (λ back. inr (back.0, restored_kept back.0 s back.1, back.2))
      h

  pub after_kept : (m : DraftMachine) (s : VertexId) (r : RegionId) (mode : Mode) → OpensAfterEntry m course s r mode
      → OpensAfterEntry m (gone_on course item how) s r mode
  after_kept m s r mode h = ((ran_more course item how (items.Enter s)).1 (inl h.0), h.1, opens_kept m s r mode h.2)

  pub opened_kept : (m : DraftMachine) (r : RegionId) (mode : Mode) → IsOpenedFor m course r mode → IsOpenedFor m (gone_on course item how) r mode
  opened_kept m r mode h =
      ⊎_elim
      (λ starts. inl starts)
      (⊎_elim
      (λ at. inr (inl (at.0, after_kept m at.0 r mode at.1)))
      (λ beside. inr (inr (beside.0, (goes_kept beside.0 beside.1.0, beside.1.1, beside.1.2)))))
      h

  -- what is called
  pub called_kept : (m : DraftMachine) (x : Item) → IsCalledOver m course x → IsCalledOver m (gone_on course item how) x
  called_kept m (items.Exit s) h = h
  called_kept m (items.Effect t) h = (h.0, goes_kept h.0 h.1, h.2)
  called_kept m (items.Enter s) h =
      ⊎_elim (λ over. inl (over.0, entered_kept m over.0 s over.1)) (λ back. inr (back.0, restored_kept back.0 s back.1)) h
  called_kept m (items.Opened r mode) h =
      ⊎_elim
      (λ opens. inl (opened_kept m r mode opens))
      (λ over. inr (over.0, (goes_kept over.0 over.1.0, over.1.1)))
      h
  called_kept m (items.Pick c) h = (h.0, (goes_kept h.0 h.1.0, h.1.1))
