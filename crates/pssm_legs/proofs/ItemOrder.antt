-- Which kinds of items come before which.
use Rattle.std.proofs.Common.{◌⊎◌, Bool, ⊎_elim}
use Rattle.pssm_model.specs.declared.ids.TransId.{TransId}
use Rattle.pssm_model.specs.declared.elements.DraftMachine.{DraftMachine}
use Rattle.pssm_model.specs.declared.steps.Route.{Route}
use Rattle.pssm_model.specs.declared.steps.Mode.TheVariants.{Plain, Shallow, Deep}
use Rattle.pssm_model.specs.declared.steps.Item.{Item}
use Rattle.pssm_model.specs.declared.steps.Item.TheVariants as items
use Rattle.pssm_model.specs.Items.{LegEnds, LegOpens, IsExit, IsEffect, IsEnter}
use Rattle.pssm_legs.specs.Calls.{IsCalledInLeg}
use Rattle.pssm_legs.specs.inner.Told.{ComesFirst, ComesBeforeLater}

-- the order of kinds of items
pub exit_before_effect : (x y : Item) → IsExit x → IsEffect y → ComesFirst x y
exit_before_effect (items.Exit s) (items.Effect t) h g = tt
exit_before_effect (items.Exit s) (items.Exit q) h g = absurd g
exit_before_effect (items.Exit s) (items.Enter q) h g = absurd g
exit_before_effect (items.Exit s) (items.Opened r mode) h g = absurd g
exit_before_effect (items.Exit s) (items.Pick c) h g = absurd g
exit_before_effect (items.Effect t) y h g = absurd h
exit_before_effect (items.Enter s) y h g = absurd h
exit_before_effect (items.Opened r mode) y h g = absurd h
exit_before_effect (items.Pick c) y h g = absurd h

pub effect_before_enter : (x y : Item) → IsEffect x → IsEnter y → ComesFirst x y
effect_before_enter (items.Effect t) (items.Enter s) h g = tt
effect_before_enter (items.Effect t) (items.Exit q) h g = absurd g
effect_before_enter (items.Effect t) (items.Effect u) h g = absurd g
effect_before_enter (items.Effect t) (items.Opened r mode) h g = absurd g
effect_before_enter (items.Effect t) (items.Pick c) h g = absurd g
effect_before_enter (items.Exit s) y h g = absurd h
effect_before_enter (items.Enter s) y h g = absurd h
effect_before_enter (items.Opened r mode) y h g = absurd h
effect_before_enter (items.Pick c) y h g = absurd h

module _ (m : DraftMachine) (p : Route) (t : TransId) where
  pub effect_before_end : (x y : Item) → IsEffect x → (LegEnds m p t y ⊎ LegOpens m p t y) → ComesFirst x y
  effect_before_end (items.Effect u) (items.Opened r mode) h g = tt
  effect_before_end (items.Effect u) (items.Pick c) h g = tt
  effect_before_end (items.Effect u) (items.Exit s) h g = absurd (⊎_elim (λ e. e) (λ e. e) g)
  effect_before_end (items.Effect u) (items.Effect w) h g = absurd (⊎_elim (λ e. e) (λ e. e) g)
  effect_before_end (items.Effect u) (items.Enter s) h g = absurd (⊎_elim (λ e. e) (λ e. e) g)
  effect_before_end (items.Exit s) y h g = absurd h
  effect_before_end (items.Enter s) y h g = absurd h
  effect_before_end (items.Opened r mode) y h g = absurd h
  effect_before_end (items.Pick c) y h g = absurd h

  pub enter_before_end : (x y : Item) → IsEnter x → LegEnds m p t y → ComesFirst x y
  enter_before_end (items.Enter s) (items.Opened r Shallow) h g = tt
  enter_before_end (items.Enter s) (items.Opened r Deep) h g = tt
  enter_before_end (items.Enter s) (items.Pick c) h g = tt
  enter_before_end (items.Enter s) (items.Opened r Plain) h g = absurd g
  enter_before_end (items.Enter s) (items.Exit q) h g = absurd g
  enter_before_end (items.Enter s) (items.Effect w) h g = absurd g
  enter_before_end (items.Enter s) (items.Enter q) h g = absurd g
  enter_before_end (items.Exit s) y h g = absurd h
  enter_before_end (items.Effect u) y h g = absurd h
  enter_before_end (items.Opened r mode) y h g = absurd h
  enter_before_end (items.Pick c) y h g = absurd h

  pub called_comes_before : (fires : Bool) (x : Item) → IsCalledInLeg m fires p t x → ComesBeforeLater x
  called_comes_before fires (items.Exit s) h = tt
  called_comes_before fires (items.Effect u) h = tt
  called_comes_before fires (items.Enter s) h = tt
  called_comes_before fires (items.Opened r mode) h = absurd h
  called_comes_before fires (items.Pick c) h = absurd h
