-- Listed items that a way may call, which ends in the region where it exits and enters.
use Rattle.std.proofs.Common.{◌≡◌, List, IsTrue, Contains, refl, sym, subst, ⊎_elim}
use Rattle.pssm_model.specs.declared.ids.VertexId.{VertexId}
use Rattle.pssm_model.specs.declared.ids.RegionId.{RegionId}
use Rattle.pssm_model.specs.declared.ids.TransId.{TransId}
use Rattle.pssm_model.specs.declared.steps.Mode.TheVariants.{Plain, Shallow, Deep}
use Rattle.pssm_model.specs.declared.steps.Item.{Item}
use Rattle.pssm_model.specs.declared.steps.Item.TheVariants.{Exit, Effect, Enter, Opened, Pick}
use Rattle.pssm_plan.specs.declared.roster.Call.{Call}
use Rattle.pssm_plan.specs.declared.ways.Way.{Way}
use Rattle.pssm_plan.specs.inner.Calling.{IsNoExit}
use Rattle.pssm_plan.specs.inner.Direct.{MayCallDirectly}
use Rattle.pssm_plan.specs.inner.Marks.{IsListed}

-- an item is an exit, or another one
pub exit_or_other : (x : Item) (P : Type 0) → ((s : VertexId) → x ≡ Exit s → P) → (IsNoExit x → P) → P
exit_or_other (Exit s) P exit other = exit s refl
exit_or_other (Effect t) P exit other = other tt
exit_or_other (Enter s) P exit other = other tt
exit_or_other (Opened r mode) P exit other = other tt
exit_or_other (Pick c) P exit other = other tt

-- a late way calls no exits
pub late_calls_no_exit : (way : Way) (r : RegionId) (x : Item) → (IsTrue way.fires → ⊥) → MayCallDirectly way r x → IsNoExit x
late_calls_no_exit way r (Exit s) late may = absurd (late may)
late_calls_no_exit way r (Effect t) late may = tt
late_calls_no_exit way r (Enter s) late may = tt
late_calls_no_exit way r (Opened q mode) late may = tt
late_calls_no_exit way r (Pick c) late may = tt

module _ (calls : List Call) (way : Way) (r : RegionId) (P : Type 0)
    (named : IsListed calls (Effect way.legs.first.named) → P)
    (further : (t : TransId) → Contains way.legs.first.further.items t → IsListed calls (Effect t) → P)
    (entry : IsListed calls (Enter way.legs.first.last) → P) (pick : IsListed calls (Pick way.legs.first.last) → P)
    (shallow : IsListed calls (Opened r Shallow) → P) (deep : IsListed calls (Opened r Deep) → P) where
  -- what is listed that such a way may call, by its kind
  pub met_kinds : (x : Item) → IsListed calls x → IsNoExit x → MayCallDirectly way r x → P
  met_kinds (Exit s) listed other may = absurd other
  met_kinds (Effect t) listed other may =
      ⊎_elim
      (λ same. named (subst (λ (u : TransId). IsListed calls (Effect u)) (sym same) listed))
      (λ inside. further t inside listed)
      may
  met_kinds (Enter s) listed other may = entry (subst (λ (v : VertexId). IsListed calls (Enter v)) may listed)
  met_kinds (Opened q Plain) listed other may = absurd may
  met_kinds (Opened q Shallow) listed other may = shallow (subst (λ (k : RegionId). IsListed calls (Opened k Shallow)) may listed)
  met_kinds (Opened q Deep) listed other may = deep (subst (λ (k : RegionId). IsListed calls (Opened k Deep)) may listed)
  met_kinds (Pick c) listed other may = pick (subst (λ (v : VertexId). IsListed calls (Pick v)) may listed)
