-- Effects of transitions that meet on a junction: what comes before the second is the first, or comes before it.
use Rattle.std.proofs.Common.{◌≡◌, ◌≢◌, ◌⊎◌, ◌<◌, ◌≤◌, ◌+◌, ℕ, List, Bool, Contains, IsTrue, AllPairs, length, get_or, sym, subst, ap, inl, inr, ⊎_elim, ◌∙◌, arith}
use Rattle.pssm_model.specs.declared.ids.VertexId.{VertexId}
use Rattle.pssm_model.specs.declared.ids.TransId.{TransId}
use Rattle.pssm_model.specs.declared.elements.DraftMachine.{DraftMachine}
use Rattle.pssm_model.specs.declared.elements.VertexKind.TheVariants as kinds
use Rattle.pssm_model.specs.declared.steps.Route.{Route}
use Rattle.pssm_model.specs.declared.steps.Item.{Item}
use Rattle.pssm_model.specs.declared.steps.Item.TheVariants as items
use Rattle.pssm_model.specs.Forest.{HasKind}
use Rattle.pssm_model.specs.Legs.{On, Leaves, Enters, SameLeg, LaterLeg}
use Rattle.pssm_model.specs.Items.{PathBefore}
use Rattle.pssm_model.specs.Shapes.{HasShape}
use Rattle.pssm_model.specs.WellFormed.{KeepsModelRules}
use Rattle.pssm_model.specs.RouteWords.{IsStepRoute}
use Rattle.pssm_model.proofs.ElementLaws.{leaves_one}
use Rattle.pssm_model_laws.proofs.LegRoots.{leg_ends, leg_more}
use Rattle.pssm_model_laws.proofs.LegShapes.{last_step}
use Rattle.pssm_model_laws.proofs.RouteTree.{one_entry}
use Rattle.pssm_model_laws.proofs.Through.{kinds_clash}
use Rattle.pssm_legs.specs.Calls.{IsItemOfLeg, IsOrderedInLeg}
use Rattle.pssm_legs.specs.Calls.IsOrderedInLeg.{exit_effect, path, effect_enter, effect_end, enter_end, later}
use Rattle.pssm_plan.specs.declared.ways.Way.{Way}
use Rattle.pssm_plan.specs.declared.roster.Call.{Call}
use Rattle.pssm_plan.specs.Ways.{IsWayIn, AreWaysIn}
use Rattle.pssm_plan.specs.inner.ByWays.{calls_by, orders_by}
use Rattle.pssm_plan.specs.inner.Passes.{ArePassed, AreSureBut, WaitingLeft}
use Rattle.pssm_plan.specs.inner.Sequence.{IsSequence}
use Rattle.pssm_plan.specs.inner.Clear.{AreMeeting, LeadsTo, AreClearBefore}
use Rattle.pssm_plan.proofs.ApartPairs.{effect_in_leg}
use Rattle.pssm_plan.proofs.ClearCalls.{effect_nested}
use Rattle.pssm_plan.proofs.NearWays.{way_calls_second}
use Rattle.pssm_plan.proofs.Telling.{one_place}

no_junction_joins : (m : DraftMachine) (v : VertexId) → HasKind m v kinds.Junction → HasKind m v kinds.Join → ⊥
no_junction_joins m v k j = kinds_clash m v kinds.Junction kinds.Join (λ e. cc) k j

module _ {m : DraftMachine} (shape : HasShape m) (rules : KeepsModelRules m) (p : Route) (step : IsStepRoute m p)
    (t u : TransId) (on : On p t) (meet : AreMeeting m t u) where
  -- the leg of the second has the first
  leg_back : (a : TransId) → SameLeg m p a u → SameLeg m p a t
  leg_back a leg = leg_more m p t leg (inr (inl (meet.0, meet.1, meet.3, meet.2))) on

  -- the first is the one transition from which the path comes
  step_back : (w : TransId) → PathBefore m p w u → (w ≡ t) ⊎ PathBefore m p w t
  step_back w before =
      let last = last_step m p w u before in
      let here : meet.0 ≡ last.1.at = leaves_one m u meet.0 last.1.at meet.3 last.1.leaves in
      let entered = subst (Enters m last.0) (sym here) last.1.enters in
      let one : last.0 ≡ t = one_entry shape rules p step meet.0 last.0 t (no_junction_joins m meet.0 meet.1) last.1.first on entered meet.2 in
      ⊎_elim (λ same. inl (same ∙ one)) (λ far. inr (subst (PathBefore m p w) one far)) last.2

  module _ (fires : Bool) where
    ordered_back : (a : TransId) (x : Item) → IsOrderedInLeg m fires p a x (items.Effect u) → (x ≡ items.Effect t) ⊎ IsOrderedInLeg m fires p a x (items.Effect t)
    ordered_back a _ (exit_effect {x = x} e f cx cy) = inr (exit_effect e tt cx (leg_back a cy))
    ordered_back a _ (path {u = w} leg before) = ⊎_elim (λ same. inl (ap (λ (n : TransId). items.Effect n) same)) (λ far. inr (path leg far)) (step_back w before)
    ordered_back a _ (effect_enter e f cx cy) = absurd f
    ordered_back a _ (effect_end e cx ends) = absurd (⊎_elim (λ x. x) (λ x. x) ends)
    ordered_back a _ (enter_end e cx ends) = absurd ends
    ordered_back a _ (later {x = x} next far cx cy) = inr (later next far cx (inl (leg_back next (effect_in_leg m fires p next u cy))))

-- a way that has both transitions puts nothing between their effects
way_leads : {m : DraftMachine} (shape : HasShape m) (rules : KeepsModelRules m) (way : Way) → IsWayIn m way → (t u : TransId) → AreMeeting m t u
    → calls_by m way (items.Effect t) → (x : Item) → orders_by m way x (items.Effect u)
    → (x ≡ items.Effect t) ⊎ orders_by m way x (items.Effect t)
way_leads {m} shape rules way is t u meet calls x h =
    let p = way.route.value in
    let on : On p t = leg_ends m p (effect_in_leg m way.fires p calls.0 t calls.2) in
    ⊎_elim (λ same. inl same) (λ before. inr (h.0, h.1, before))
    (ordered_back shape rules p is.route t u on meet way.fires h.0 x h.2)

-- where all ways that have the second transition have the first, what comes before the effect of the second is that of the first, or comes before it
pub effect_led : {m : DraftMachine} (shape : HasShape m) (rules : KeepsModelRules m) (ways : List Way) → AreWaysIn m ways → (t u : TransId) → AreMeeting m t u
    → ((way : Way) → Contains ways way → calls_by m way (items.Effect u) → calls_by m way (items.Effect t))
    → LeadsTo (IsSequence m ways) (items.Effect t) (items.Effect u)
effect_led {m} shape rules ways are t u meet both z h =
    ⊎_elim
    (λ nested. absurd (effect_nested m z u nested))
    (λ by.
    (let has = both by.0 by.1 (way_calls_second m by.0 z (items.Effect u) by.2) in
    ⊎_elim (λ same. inl same) (λ before. inr (inr (by.0, by.1, before)))
    (way_leads shape rules by.0 (are by.0 by.1) t u meet has z by.2)))
    h

-- where a call has run which none holds up, and what comes before an item is that of the call or comes before it, nothing holds up the item
pub led_passed : (Comes : Item → Item → Type 0) (calls : List Call) (ran : ℕ) (call : Call) (item : Item) → AllPairs (λ a b. a.item ≢ b.item) calls
    → ran < length calls → ((d : Call) → get_or calls ran d ≡ call) → IsTrue call.ran → ArePassed Comes calls call.item (length calls)
    → LeadsTo Comes call.item item → ArePassed Comes calls item (length calls)
led_passed Comes calls ran call item once inside is has passed leads k d lt there up =
    ⊎_elim
    (λ same.
    (let at : k ≡ ran = one_place calls call.item ran once inside (λ e. ap (λ (c : Call). c.item) (is e)) k d there same in
    let here : get_or calls k d ≡ call = ap (λ (n : ℕ). get_or calls n d) at ∙ is d in
    up.1 (subst (λ (c : Call). IsTrue c.ran) (sym here) has)))
    (λ before. passed k d lt there (before, up.1))
    (leads (get_or calls k d).item up.0)

-- of the calls that have been told, one that waits for none is one that none holds up
pub free_passed : (Comes : Item → Item → Type 0) (calls : List Call) (first ran from end : ℕ)
    → AreSureBut (WaitingLeft Comes first ran from end) Comes calls → AreClearBefore Comes calls first
free_passed Comes calls first ran from end left k d old inside free =
    ⊎_elim
    (λ sure. sure.clear free)
    (λ rest. ⊎_elim
    (λ new. absurd (omega (arith, new, old)))
    (λ waits. absurd (free waits.2.blocked))
    rest)
    (left k d inside)
