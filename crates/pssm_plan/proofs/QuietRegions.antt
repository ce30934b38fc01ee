-- Regions in which no other region lies: what a way exits there.
use Rattle.std.proofs.Common.{◌≡◌, ◌≢◌, ◌↔◌, Some, inl, sym, subst, ap, ◌∙◌, ⊎_elim}
use Rattle.pssm_model.specs.declared.ids.VertexId.{VertexId}
use Rattle.pssm_model.specs.declared.ids.RegionId.{RegionId}
use Rattle.pssm_model.specs.declared.elements.DraftMachine.{DraftMachine}
use Rattle.pssm_model.specs.declared.elements.Owner.{Owner}
use Rattle.pssm_model.specs.declared.elements.Owner.TheVariants.{Top, Region, State}
use Rattle.pssm_model.specs.declared.steps.Item.{Item}
use Rattle.pssm_model.specs.declared.steps.Item.TheVariants.{Exit}
use Rattle.pssm_model.specs.Forest.{owner_of, LiesUnder, IsStateOrFinal}
use Rattle.pssm_model.specs.Forest.LiesUnder.{owned, further}
use Rattle.pssm_model.specs.Shapes.{HasShape}
use Rattle.pssm_model.specs.WellFormed.{KeepsModelRules}
use Rattle.pssm_model.specs.Configuration.{IsDirect as IsPlaced}
use Rattle.pssm_model.proofs.OwnerChains.{top_lies_nowhere, under_further}
use Rattle.pssm_model_laws.proofs.InnerPaths.{no_circle}
use Rattle.pssm_config.specs.Tables.{Tables, Fits, configuration_of}
use Rattle.pssm_plan.specs.declared.ways.Way.{Way}
use Rattle.pssm_plan.specs.Ways.{IsWayIn}
use Rattle.pssm_plan.specs.inner.ByWays.{calls_by}
use Rattle.pssm_plan.specs.inner.Calling.{IsExitBy}
use Rattle.pssm_plan.specs.inner.Direct.{IsDirect, HasNoneInside}
use Rattle.pssm_plan.proofs.DirectWays.{exit_lies, first_step}
use Rattle.pssm_plan.proofs.SteadyPlaces.{home_of_state}

module _ {m : DraftMachine} (shape : HasShape m) (r : RegionId) (quiet : HasNoneInside m r) where
  -- a State or final state that lies in the region is owned by it
  owned_by : (v : VertexId) → IsStateOrFinal m v → LiesUnder m (State v) (Region r) → owner_of m (State v) ≡ Some (Region r)
  owned_by v is (owned e) = e
  owned_by v is (further {q = Top} e rest) = absurd (top_lies_nowhere (Region r) rest)
  owned_by v is (further {q = State s} e rest) = absurd (let home = home_of_state shape v is in let clash = home.1 in cc (e, clash))
  owned_by v is (further {q = Region q} e (owned f)) = absurd (shape.regions q (Region r) f).0
  owned_by v is (further {q = Region q} e (further {q = Top} f rest)) = absurd (top_lies_nowhere (Region r) rest)
  owned_by v is (further {q = Region q} e (further {q = Region k} f rest)) = absurd (shape.regions q (Region k) f).0
  owned_by v is (further {q = Region q} e (further {q = State w} f rest)) =
      absurd (quiet q w f (owned_by w (inl (shape.regions q (State w) f).0) rest))

  module _ (rules : KeepsModelRules m) (way : Way) (is : IsWayIn m way) (d : IsDirect m way r) (tables : Tables) (fits : Fits m tables) where
    -- what the way exits that is active is a direct vertex of the region
    pub exit_placed : (v : VertexId) → (configuration_of tables).Active v → calls_by m way (Exit v) → IsPlaced m v r
    exit_placed v active called =
        let state = fits.states v active in
        (owned_by v state (exit_lies shape rules way is r d v called), state)

    -- the one exit of the way is that of the active vertex of the region
    pub exits_one : (s : VertexId) → IsPlaced m s r → (configuration_of tables).Active s
        → (x : Item) → ((x ≡ Exit s) × calls_by m way (Exit s)) ↔ IsExitBy m (configuration_of tables) way x
    exits_one s placed active x = (
      λ h. (s, h.0, active, subst (calls_by m way) (sym h.0) h.1),
      λ h. let c = subst (calls_by m way) h.1 h.3 in
          let other = exit_placed h.0 h.2 c in
          let same : h.0 ≡ s = (let a = (fits.held r h.0).1 (other, h.2) in let b = (fits.held r s).1 (placed, active) in cc (a, b)) in
          (h.1 ∙ ap Exit same, subst (λ (v : VertexId). calls_by m way (Exit v)) same c),
    )

    pub exits_none : ((s : VertexId) → IsPlaced m s r → (configuration_of tables).Active s → ⊥)
        → (x : Item) → IsExitBy m (configuration_of tables) way x → ⊥
    exits_none none x h = none h.0 (exit_placed h.0 h.2 (subst (calls_by m way) h.1 h.3)) h.2

-- what lies in a region lies in no other one of the same owner
pub not_in_sibling : {m : DraftMachine} (shape : HasShape m) (s : VertexId) (q r : RegionId) (o : Owner) → owner_of m (State s) ≡ Some (Region q)
    → q ≢ r → owner_of m (Region q) ≡ Some o → owner_of m (Region r) ≡ Some o → LiesUnder m (State s) (Region r) → ⊥
not_in_sibling {m} shape s q r o home differs first second lies =
    ⊎_elim
    (λ same. differs (cc (same)))
    (λ under. ⊎_elim
    (λ own. no_circle shape (Region r) (owned (second ∙ ap Some (sym own))))
    (λ over. no_circle shape o (under_further over (owned second)))
    (first_step (Region q) (Region r) o first under))
    (first_step (State s) (Region r) (Region q) home lies)
