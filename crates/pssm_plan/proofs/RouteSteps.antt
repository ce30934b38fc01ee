-- The steps of a machine: they go by routes, restore what is remembered, and take late what starts at an initial vertex, a history or a choice; so what
-- they call is seen from the items and the routes.
use Rattle.std.proofs.Common.{◌≡◌, ◌⊎◌, List, refl, subst, inl, inr, ⊎_elim}
use Rattle.pssm_model.specs.declared.ids.VertexId.{VertexId}
use Rattle.pssm_model.specs.declared.ids.RegionId.{RegionId}
use Rattle.pssm_model.specs.declared.elements.DraftMachine.{DraftMachine}
use Rattle.pssm_model.specs.declared.elements.VertexKind.{VertexKind}
use Rattle.pssm_model.specs.declared.elements.VertexKind.TheVariants as kinds
use Rattle.pssm_model.specs.declared.steps.Route.{Route}
use Rattle.pssm_model.specs.declared.steps.Mode.{Mode}
use Rattle.pssm_model.specs.declared.steps.Mode.TheVariants.{Plain, Shallow, Deep}
use Rattle.pssm_model.specs.declared.steps.How.{How}
use Rattle.pssm_model.specs.declared.steps.How.TheVariants.{By, Restore, Nothing}
use Rattle.pssm_model.specs.declared.steps.Item.{Item}
use Rattle.pssm_model.specs.declared.steps.Item.TheVariants as items
use Rattle.pssm_model.specs.Shapes.{HasShape}
use Rattle.pssm_model.specs.Configuration.{Configuration}
use Rattle.pssm_model.specs.Routes.{Truth, IsStateRoute}
use Rattle.pssm_model.specs.FiringSets.{IsLateRoute}
use Rattle.pssm_model.specs.Paths.{IsInitialOf}
use Rattle.pssm_model.specs.Course.{Head, FiresBy, RemembersSoFar}
use Rattle.pssm_model.specs.Ways.{Memory, IsRemembered, IsHistoryOf, OpensByDefault, OpensByHistory, IsWay}
use Rattle.pssm_model.specs.Order.{HasGone, course_by}
use Rattle.pssm_model.specs.Order.HasGone.{begun as gone_begun, more as gone_more}
use Rattle.pssm_model.specs.WellFormed.{KeepsModelRules}
use Rattle.pssm_model.specs.RouteWords.{IsStepRoute}
use Rattle.pssm_plan.specs.inner.OverRoutes.{GoesByRoutes}
use Rattle.pssm_model.proofs.ElementLaws.{nothing_in_nil}
use Rattle.pssm_plan.proofs.MoreRan.{begins_by}
use Rattle.pssm_plan.proofs.RouteMore.{goes_on_by_routes}

module _ (m : DraftMachine) (truth : Truth) (memory : Memory) where
  -- The late route begins at the initial vertex of the region, or at a history vertex of it.
  abbrev pub IsFromWithin : RegionId → Route → Type 0
  IsFromWithin r p = (v : VertexId) × IsLateRoute m truth v p × (IsInitialOf m r v ⊎ ((kind : VertexKind) × IsHistoryOf m r kind v))

  by_default : (r : RegionId) (q p : Route) → OpensByDefault m truth r (By q) → By q ≡ By p → IsFromWithin r p
  by_default r q p way e =
      let same : q ≡ p = cc in
      (way.0, subst (λ x. IsLateRoute m truth way.0 x) same way.2, inl way.1)

  by_history : (r : RegionId) (kind : VertexKind) (how : How) (p : Route) → OpensByHistory m truth memory r kind how → how ≡ By p → IsFromWithin r p
  by_history r kind (By q) p way e =
      let same : q ≡ p = cc in
      ⊎_elim
      (λ history. (history.0, subst (λ x. IsLateRoute m truth history.0 x) same history.2, inr (kind, history.1)))
      (λ none. by_default r q p none.1 e)
      way.1
  by_history r kind (Restore s) p way e = absurd (cc)
  by_history r kind Nothing p way e = absurd (cc)

  -- the way of an opening, if it is a route
  pub opening_by : (r : RegionId) (mode : Mode) (how : How) → IsWay m truth memory (items.Opened r mode) how → (p : Route) → how ≡ By p
      → IsFromWithin r p
  opening_by r Plain (By q) way p e = by_default r q p way e
  opening_by r Plain (Restore s) way p e = absurd way
  opening_by r Plain Nothing way p e = absurd (cc)
  opening_by r Shallow how way p e = by_history r kinds.ShallowHistory how p way e
  opening_by r Deep how way p e = by_history r kinds.DeepHistory how p way e

  pub pick_by : (c : VertexId) (how : How) → IsWay m truth memory (items.Pick c) how → (p : Route) → how ≡ By p → IsLateRoute m truth c p
  pick_by c (By q) way p e = let same : q ≡ p = cc in subst (λ x. IsLateRoute m truth c x) same way
  pick_by c (Restore s) way p e = absurd way
  pick_by c Nothing way p e = absurd way

  -- and what it restores
  restored_by_history : (r : RegionId) (kind : VertexKind) (how : How) (s : VertexId) → OpensByHistory m truth memory r kind how → how ≡ Restore s
      → IsRemembered m memory r s
  restored_by_history r kind (By q) s way e = absurd (cc)
  restored_by_history r kind (Restore q) s way e = let same : q ≡ s = cc in subst (λ x. IsRemembered m memory r x) same way
  restored_by_history r kind Nothing s way e = absurd (cc)

  pub opening_restores : (r : RegionId) (mode : Mode) (how : How) → IsWay m truth memory (items.Opened r mode) how → (s : VertexId) → how ≡ Restore s
      → IsRemembered m memory r s
  opening_restores r Plain (By q) way s e = absurd (cc)
  opening_restores r Plain (Restore q) way s e = absurd way
  opening_restores r Plain Nothing way s e = absurd (cc)
  opening_restores r Shallow how way s e = restored_by_history r kinds.ShallowHistory how s way e
  opening_restores r Deep how way s e = restored_by_history r kinds.DeepHistory how s way e

  pick_restores : (c : VertexId) (how : How) → IsWay m truth memory (items.Pick c) how → (s : VertexId) → how ≡ Restore s → ⊥
  pick_restores c (By q) way s e = cc
  pick_restores c (Restore q) way s e = way
  pick_restores c Nothing way s e = way

  -- a way is a late route, a State that is remembered, or none
  pub way_is_late : (item : Item) (how : How) → IsWay m truth memory item how → (p : Route) → how ≡ By p → (v : VertexId) × IsLateRoute m truth v p
  way_is_late (items.Exit s) how way p e = let clash = way in absurd (cc)
  way_is_late (items.Effect t) how way p e = let clash = way in absurd (cc)
  way_is_late (items.Enter s) how way p e = let clash = way in absurd (cc)
  way_is_late (items.Opened r mode) how way p e = let at = opening_by r mode how way p e in (at.0, at.1)
  way_is_late (items.Pick c) how way p e = (c, pick_by c how way p e)

  -- The item opens a region that remembers the State.
  abbrev pub IsRestoring : Item → VertexId → Type 0
  IsRestoring item s = (r : RegionId) × (mode : Mode) × (item ≡ items.Opened r mode) × IsRemembered m memory r s

  pub way_remembers : (item : Item) (how : How) → IsWay m truth memory item how → (s : VertexId) → how ≡ Restore s → IsRestoring item s
  way_remembers (items.Exit q) how way s e = let clash = way in absurd (cc)
  way_remembers (items.Effect t) how way s e = let clash = way in absurd (cc)
  way_remembers (items.Enter q) how way s e = let clash = way in absurd (cc)
  way_remembers (items.Opened r mode) how way s e = (r, mode, refl, opening_restores r mode how way s e)
  way_remembers (items.Pick c) how way s e = absurd (pick_restores c how way s e)

-- a late route is one by which steps go
pub late_is_step : (m : DraftMachine) (truth : Truth) (v : VertexId) (p : Route) → IsLateRoute m truth v p → IsStepRoute m p
late_is_step m truth v p late = inr (v, late.leaves.0, late.origin_is, late.route_is, late.leaves.1, late.leaves.2)

module _ {m : DraftMachine} (rules : KeepsModelRules m) (shape : HasShape m) where
  -- a step goes by routes
  pub gone_by_routes : (head : Head) (now : Configuration) (ran : List (Item × How)) → HasGone m head now ran → GoesByRoutes m (course_by head now ran)
  gone_by_routes head now _ (gone_begun fires) = record {
    routes = λ p by. inl (fires p (begins_by head now p by));
    restored = λ mode s h. absurd (nothing_in_nil (items.Opened h.0 mode, Restore s) h.1);
  }
  gone_by_routes head now _ (gone_more {ran = ran} item how before ready truth way) =
      let course = course_by head now ran in
      let memory : Memory = RemembersSoFar m course in
      goes_on_by_routes course item how m (gone_by_routes head now ran before)
      (λ p e. (let late = way_is_late m truth memory item how way p e in late_is_step m truth late.0 p late.1))
      (λ s e. (way_remembers m truth memory item how way s e).3.1)

  -- those that fire leave States
  pub fires_states : (head : Head) (now : Configuration) (ran : List (Item × How)) → HasGone m head now ran → (p : Route) → FiresBy head p → IsStateRoute m p
  fires_states head now _ (gone_begun fires) p is = fires p is
  fires_states head now _ (gone_more {ran = ran} item how before ready truth way) p is = fires_states head now ran before p is
