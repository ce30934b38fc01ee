-- What a route of one transition calls: the exit of its source, its effect and the entry of its target.
use Rattle.std.proofs.Common.{◌≡◌, Some, refl, sym, subst, inl, inr, ⊎_elim}
use Rattle.pssm_model.specs.declared.ids.VertexId.{VertexId}
use Rattle.pssm_model.specs.declared.ids.RegionId.{RegionId}
use Rattle.pssm_model.specs.declared.ids.TransId.{TransId}
use Rattle.pssm_model.specs.declared.elements.DraftMachine.{DraftMachine}
use Rattle.pssm_model.specs.declared.elements.VertexKind.TheVariants as kinds
use Rattle.pssm_model.specs.declared.elements.TransKind.TheVariants.{Local, Internal}
use Rattle.pssm_model.specs.declared.elements.Owner.TheVariants.{Region, State}
use Rattle.pssm_model.specs.declared.steps.Route.{Route}
use Rattle.pssm_model.specs.declared.steps.Item.TheVariants as items
use Rattle.pssm_model.specs.Forest.{owner_of, LiesUnder, LiesInRegion}
use Rattle.pssm_model.specs.Forest.LiesUnder.{owned, further}
use Rattle.pssm_model.specs.Legs.{On, IsLastVertex, IsLocalFrom, IsInternal, IsOfLeg, PassesSomePoint, LegScope, LegExits, LegEnters}
use Rattle.pssm_model.specs.Legs.Scope.{Within}
use Rattle.pssm_model.specs.Legs.SameLeg.{itself}
use Rattle.pssm_model.specs.Legs.LegScope.{other}
use Rattle.pssm_model.specs.Course.{Course, Leg, IsLeg}
use Rattle.pssm_model.specs.Items.{Called, CanExit, IsAimedAt}
use Rattle.pssm_model.specs.Items.Called.{run}
use Rattle.pssm_model.proofs.OwnerChains.{under_further}
use Rattle.pssm_model.proofs.Nesting.{region_cases}
use Rattle.pssm_model_laws.proofs.StateRoutes.{start_is_on}
use Rattle.pssm_suite.proofs.PlainMachines.{IsPlain, no_other, enters_state, goes_external}
use Rattle.pssm_suite.proofs.LoneRoutes.{IsLone, no_later, no_passing, no_circle, of_leg_home, entered_is, leg_is}

module _ (m : DraftMachine) (plain : IsPlain m) (p : Route) (t : TransId) (lone : IsLone m p t) where
  -- the leg, named by its transition
  abbrev pub leg_of : Leg
  leg_of = record { route = p; named_by = t }

  pub is_on : On p t
  is_on = start_is_on p t lone.starts

  not_internal : IsInternal m p t → ⊥
  not_internal h = let e = goes_external m plain t Internal h.1 in cc

  not_local : (s : VertexId) → IsLocalFrom m p t s → ⊥
  not_local s h = let e = goes_external m plain h.0 Local h.4 in cc

  not_passing : PassesSomePoint m p t → ⊥
  not_passing h = no_passing m plain p t h.0 h.1 h.2

  source_of_leg : IsOfLeg m p t lone.source
  source_of_leg = (t, itself is_on, inl lone.leaves)

  -- no narrower region has all its vertices
  innermost : (q : RegionId) → ((v : VertexId) → IsOfLeg m p t v → LiesInRegion m v q) → LiesUnder m (Region q) (Region lone.home) → ⊥
  innermost q all under =
      ⊎_elim
      (λ (same : lone.home ≡ q). no_circle m plain lone.home (subst (λ r. LiesUnder m (Region r) (Region lone.home)) (sym same) under))
      (λ deeper. no_circle m plain lone.home (under_further deeper under))
      (region_cases m (State lone.source) lone.home q lone.source_home (all lone.source source_of_leg))

  leg_scope : LegScope m p t (Within lone.home)
  leg_scope =
      other is_on not_internal not_local not_passing
      (record { common = λ v is_of. of_leg_home m plain p t lone t v is_of; innermost = innermost })

  pub exits_source : (Active : VertexId → Type 0) → Active lone.source → LegExits m Active p t lone.source
  exits_source Active active =
      ((active, (Within lone.home, leg_scope, owned lone.source_home)), λ u later would. no_later m plain p u t later)

  pub target_last : IsLastVertex m p t lone.target
  target_last = (t, itself is_on, lone.enters, λ k. no_other m plain lone.target kinds.Junction (λ e. cc) (λ e. cc) k)

  pub enters_it : LegEnters m p t lone.target
  enters_it = (
    lone.target,
    target_last,
    (
      λ k. no_other m plain lone.target kinds.Terminate (λ e. cc) (λ e. cc) k,
      λ k. no_other m plain lone.target kinds.ExitPoint (λ e. cc) (λ e. cc) k,
      λ k. no_other m plain lone.target kinds.Join (λ e. cc) (λ e. cc) k,
    ),
    not_internal,
    inr (inl (inl (enters_state m plain t lone.target lone.enters), refl)),
  )

  -- it aims at no region of its target
  pub aims_nowhere : (r : RegionId) → owner_of m (Region r) ≡ Some (State lone.target) → IsAimedAt m p t r → ⊥
  aims_nowhere r owner (u, v, legs, last, lies) =
      let at : v ≡ lone.target = entered_is m plain p t lone last.0 v (leg_is m plain p t lone u last.0 last.1).1 last.2 in
      let down : LiesInRegion m lone.target r = subst (λ k. LiesInRegion m k r) at lies in
      let up : LiesUnder m (Region r) (Region lone.home) = further owner (owned lone.target_home) in
      ⊎_elim
      (λ (same : lone.home ≡ r). no_circle m plain lone.home (subst (λ q. LiesUnder m (Region q) (Region lone.home)) (sym same) up))
      (λ deeper. no_circle m plain lone.home (under_further deeper up))
      (region_cases m (State lone.target) lone.home r lone.target_home down)

  -- what a step calls that goes by it
  module _ (course : Course) (is : IsLeg course leg_of) where
    pub effect_called : Called m course (items.Effect t)
    effect_called = run leg_of is (itself is_on)

    pub enter_called : Called m course (items.Enter lone.target)
    enter_called = run leg_of is enters_it

    pub exit_called : CanExit course p lone.source → Called m course (items.Exit lone.source)
    exit_called can = run leg_of is (exits_source (CanExit course p) can)
