-- Nothing comes before itself.
use Rattle.std.proofs.Common.{◌≡◌, ◌+◌, ℕ, List, Bool, IsTrue, get_or, refl, sym, ap, subst, inl, ⊎_elim, ◌∙◌}
use Rattle.pssm_model.specs.declared.ids.TransId.{TransId}
use Rattle.pssm_model.specs.declared.elements.DraftMachine.{DraftMachine}
use Rattle.pssm_model.specs.declared.elements.Owner.TheVariants.{State}
use Rattle.pssm_model.specs.declared.steps.Route.{Route}
use Rattle.pssm_model.specs.declared.steps.Item.{Item}
use Rattle.pssm_model.specs.declared.steps.Item.TheVariants as items
use Rattle.pssm_model.specs.Forest.LiesUnder.{owned}
use Rattle.pssm_model.specs.Items.{LegEnds, LegOpens, IsExit, IsEffect, IsEnter, PathBefore}
use Rattle.pssm_model.specs.Shapes.{HasShape}
use Rattle.pssm_model.specs.WellFormed.{KeepsModelRules}
use Rattle.pssm_model.specs.RouteWords.{IsStepRoute}
use Rattle.pssm_model.proofs.OwnerChains.{under_further}
use Rattle.pssm_model_laws.proofs.InnerPaths.{no_circle}
use Rattle.pssm_model_laws.proofs.LegRoots.{leg_turned, later_to}
use Rattle.pssm_model_laws.proofs.RouteTree.{not_after_itself}
use Rattle.pssm_legs.proofs.Chains.{no_round_path}
use Rattle.pssm_legs.specs.Calls.{IsItemOfLeg, IsOrderedInLeg}
use Rattle.pssm_legs.specs.Calls.IsOrderedInLeg.{exit_effect, path, effect_enter, effect_end, enter_end, later}
use Rattle.pssm_plan.specs.declared.ways.Way.{Way}
use Rattle.pssm_plan.specs.declared.roster.Call.{Call}
use Rattle.pssm_plan.specs.Ways.{AreWaysIn}
use Rattle.pssm_plan.specs.inner.Passes.{AreFreeFrom}
use Rattle.pssm_plan.specs.inner.Sequence.{IsSequence, IsNestedPair}
use Rattle.pssm_plan.proofs.Growing.{lower_or_same}
use Rattle.pssm_plan.proofs.OnceCalled.{once}

exit_or_effect : (x : Item) → IsExit x → IsEffect x → ⊥
exit_or_effect (items.Exit s) h g = g
exit_or_effect (items.Effect t) h g = h
exit_or_effect (items.Enter s) h g = h
exit_or_effect (items.Opened r mode) h g = h
exit_or_effect (items.Pick c) h g = h

effect_or_enter : (x : Item) → IsEffect x → IsEnter x → ⊥
effect_or_enter (items.Exit s) h g = h
effect_or_enter (items.Effect t) h g = g
effect_or_enter (items.Enter s) h g = h
effect_or_enter (items.Opened r mode) h g = h
effect_or_enter (items.Pick c) h g = h

-- a leg ends with no effect and no entry
effect_no_end : (m : DraftMachine) (p : Route) (t : TransId) (x : Item) → IsEffect x → LegEnds m p t x → ⊥
effect_no_end m p t (items.Exit s) h g = h
effect_no_end m p t (items.Effect u) h g = g
effect_no_end m p t (items.Enter s) h g = h
effect_no_end m p t (items.Opened r mode) h g = h
effect_no_end m p t (items.Pick c) h g = h

effect_opens_none : (m : DraftMachine) (p : Route) (t : TransId) (x : Item) → IsEffect x → LegOpens m p t x → ⊥
effect_opens_none m p t (items.Exit s) h g = h
effect_opens_none m p t (items.Effect u) h g = g
effect_opens_none m p t (items.Enter s) h g = h
effect_opens_none m p t (items.Opened r mode) h g = h
effect_opens_none m p t (items.Pick c) h g = h

enter_no_end : (m : DraftMachine) (p : Route) (t : TransId) (x : Item) → IsEnter x → LegEnds m p t x → ⊥
enter_no_end m p t (items.Exit s) h g = h
enter_no_end m p t (items.Effect u) h g = h
enter_no_end m p t (items.Enter s) h g = g
enter_no_end m p t (items.Opened r mode) h g = h
enter_no_end m p t (items.Pick c) h g = h

module _ {m : DraftMachine} (shape : HasShape m) (rules : KeepsModelRules m) where
  nested_self : (x : Item) → IsNestedPair m x x → ⊥
  nested_self (items.Exit s) h = no_circle shape (State s) (under_further h.2 (owned h.1))
  nested_self (items.Enter s) h = no_circle shape (State s) (under_further h.2 (owned h.1))
  nested_self (items.Effect t) h = h
  nested_self (items.Opened r mode) h = h
  nested_self (items.Pick c) h = h

  module _ (p : Route) (step : IsStepRoute m p) (fires : Bool) (t : TransId) where
    own_leg : (x y : Item) → x ≡ y → IsOrderedInLeg m fires p t x y → ⊥
    own_leg x y same (exit_effect a b c d) = exit_or_effect y (subst IsExit same a) b
    own_leg x y same (path {u = u} {w = w} leg before) =
        no_round_path shape rules p step u (subst (λ (v : TransId). PathBefore m p u v) (let e : u ≡ w = cc (same) in sym e) before)
    own_leg x y same (effect_enter a b c d) = effect_or_enter y (subst IsEffect same a) b
    own_leg x y same (effect_end a c d) =
        let is = subst IsEffect same a in ⊎_elim (λ ends. effect_no_end m p t y is ends) (λ opens. effect_opens_none m p t y is opens) d
    own_leg x y same (enter_end a c d) = enter_no_end m p t y (subst IsEnter same a) d
    own_leg x y same (later next leads a b) =
        let first = subst (λ (z : Item). IsItemOfLeg m fires p t z) same (inl a) in
        let leg = once shape rules p step (λ s. IsTrue fires) t next y first b in
        not_after_itself shape rules p step t (later_to m p leads (leg_turned m p leg))

  -- no item comes before itself
  pub none_before_itself : (ways : List Way) → AreWaysIn m ways → (x : Item) → IsSequence m ways x x → ⊥
  none_before_itself ways are x h =
      ⊎_elim
      (λ nested. nested_self x nested)
      (λ ordered.
      let way = ordered.0 in
      own_leg way.route.value (are way ordered.1).route way.fires ordered.2.0 x x refl ordered.2.2)
      h

  -- so a call that none before its own place holds up is held up by none up to it
  pub own_free : (ways : List Way) → AreWaysIn m ways → (calls : List Call) (item : Item) (from place : ℕ)
      → ((d : Call) → (get_or calls place d).item ≡ item) → AreFreeFrom (IsSequence m ways) calls item from place
      → AreFreeFrom (IsSequence m ways) calls item from (place + 1)
  own_free ways are calls item from place own free k d low high inside up =
      ⊎_elim
      (λ less. free k d low less inside up)
      (λ same. none_before_itself ways are item
      (subst (λ (x : Item). IsSequence m ways x item) (ap (λ (n : ℕ). (get_or calls n d).item) same ∙ own d) up.0))
      (lower_or_same k place high)
