-- Of the legs on the way to a leg that exit and enter around a State, the first exits it; none behind it does.
use Rattle.std.proofs.Common.{◌≡◌, ◌⊎◌, ◌↔◌, ◌<◌, ◌≤◌, ◌+◌, ℕ, zero, suc, length, Bool, IsTrue, Option, Some, None, refl, sym, ap, ◌∙◌, subst, inl, inr, ⊎_elim, arith}
use Rattle.std.proofs.lemmas.Bool.{cases_eq}
use Rattle.std.proofs.lemmas.Option.{slice_get_within}
use Rattle.pssm_model.specs.declared.ids.VertexId.{VertexId}
use Rattle.pssm_model.specs.declared.ids.RegionId.{RegionId}
use Rattle.pssm_model.specs.declared.elements.DraftMachine.{DraftMachine}
use Rattle.pssm_model.specs.declared.elements.Owner.{Owner}
use Rattle.pssm_model.specs.declared.elements.Owner.TheVariants.{Top, Region, State}
use Rattle.pssm_model.specs.declared.steps.Item.{Item}
use Rattle.pssm_model.specs.declared.steps.Item.TheVariants as items
use Rattle.pssm_model.specs.Forest.{owner_of, LiesUnder, LiesInState, HasRegionsAbove}
use Rattle.pssm_model.specs.Forest.LiesUnder.{owned, further}
use Rattle.pssm_model.specs.Forest.HasRegionsAbove.{region, state, machine}
use Rattle.pssm_model.specs.Legs.{LiesInScope, Scope}
use Rattle.pssm_model.specs.Legs.Scope.{Nowhere as nowhere, Inside as inside, Within as within}
use Rattle.pssm_model.specs.Shapes.{HasShape}
use Rattle.pssm_model.proofs.ElementLaws.{some_at, same_vertex}
use Rattle.pssm_model.proofs.OwnerChains.{one_owner, top_lies_nowhere, under_further}
use Rattle.pssm_model.proofs.Nesting.{under_cases}
use Rattle.pssm_model_laws.proofs.RegionChains.{counted, lies_or_not}
use Rattle.pssm_legs.specs.declared.legs.Leg.{Leg}
use Rattle.pssm_legs.specs.declared.legs.Legs.{Legs}
use Rattle.pssm_legs.specs.Areas.{scope_of}
use Rattle.pssm_legs.specs.LegsOf.{leg_list, IsAt, StandsLater, AreLegsIn}
use Rattle.pssm_legs.specs.LegsOf.StandsLater.{next, after}
use Rattle.pssm_legs.specs.inner.Told.{IsCoveredBefore, IsExited, IsCoveredExit, IsInnerExit, IsCoveredAhead, IsCalledAhead, IsCalledLater, IsOrderedOver, IsOrderedAsTold, HasFurther, ComesFirst}
use Rattle.pssm_legs.proofs.LaterPlaces.{later_cases, later_further, later_lower}
use Rattle.pssm_legs.proofs.Places.{same_at}

module _ (m : DraftMachine) where
  -- The place lies in a region of the State.
  abbrev LiesIn : Owner → VertexId → Type 0
  LiesIn p s = (r : RegionId) × (owner_of m (Region r) ≡ Some (State s)) × LiesUnder m p (Region r)

  -- what owns a place lies around it
  lies_over : (p q : Owner) (s : VertexId) → owner_of m p ≡ Some q → LiesIn q s → LiesIn p s
  lies_over p q s e h = (h.0, h.1, further e h.2)

  -- what lies around a place lies around its owner, where that is no region of it
  over_lies : (p q : Owner) (s : VertexId) → owner_of m p ≡ Some q → ((r : RegionId) → q ≡ Region r → owner_of m (Region r) ≡ Some (State s) → ⊥)
      → LiesIn p s → LiesIn q s
  over_lies p q s e none h =
      ⊎_elim (λ same. absurd (none h.0 same h.1)) (λ more. (h.0, h.1, more)) (under_cases m p q (Region h.0) e h.2)

  -- whether a State owns a region can be told
  owns_or_not : (r : RegionId) (n : ℕ) (s : VertexId) → HasRegionsAbove m (Region r) n
      → (owner_of m (Region r) ≡ Some (State s)) ⊎ (owner_of m (Region r) ≡ Some (State s) → ⊥)
  owns_or_not r n s (machine f) = inr (λ g. cc)
  owns_or_not r _ s (region f rest) = inr (λ g. cc)
  owns_or_not r n s (state {s = q} f rest) =
      ⊎_elim (λ same. inl (f ∙ ap (λ x. Some (State x)) (same_vertex q s same)))
      (λ apart. inr (λ g. apart (let one : q ≡ s = cc in ap (λ x. x.0) one)))
      (cases_eq q.0 s.0)

  -- whether a place lies in a State can be told
  in_state_or_not : (p : Owner) (n : ℕ) (s : VertexId) → HasRegionsAbove m p n → LiesIn p s ⊎ (LiesIn p s → ⊥)
  in_state_or_not p n s (machine e) =
      inr (λ h. ⊎_elim (λ same. absurd (cc)) (λ more. top_lies_nowhere {m = m} (Region h.0) more) (under_cases m p Top (Region h.0) e h.2))
  in_state_or_not p n s (state {s = q} e above) =
      ⊎_elim (λ yes. inl (lies_over p (State q) s e yes)) (λ no. inr (λ h. no (over_lies p (State q) s e (λ r same own. cc) h)))
      (in_state_or_not (State q) n s above)
  in_state_or_not p _ s (region {r = r} {n = n} e above) =
      ⊎_elim
      (λ own. inl (r, own, owned e))
      (λ other.
      ⊎_elim (λ yes. inl (lies_over p (Region r) s e yes))
      (λ no. inr (λ h. no (over_lies p (Region r) s e
      (λ x same own. other (let one : x ≡ r = cc in subst (λ y. owner_of m (Region y) ≡ Some (State s)) one own)) h)))
      (in_state_or_not (Region r) n s above))
      (owns_or_not r n s above)

  -- what lies in a State lies where the State does
  pub deeper : (q s : VertexId) (scope : Scope) → LiesInScope m q scope → LiesInState m s q → LiesInScope m s scope
  deeper q s nowhere h lies = absurd h
  deeper q s (inside o) h lies = (h.0, h.1, under_further {m = m} lies.2 (further lies.1 h.2))
  deeper q s (within r) h lies = under_further {m = m} lies.2 (further lies.1 h)

  module _ (shape : HasShape m) (s : VertexId) (there : s.0 < length m.vertices) where
    -- whether a State lies where a leg exits and enters can be told
    scope_or_not : (scope : Scope) → LiesInScope m s scope ⊎ (LiesInScope m s scope → ⊥)
    scope_or_not nowhere = inr (λ h. h)
    scope_or_not (inside o) = let above = counted shape s there in in_state_or_not (State s) above.0 o above.1
    scope_or_not (within r) = let above = counted shape s there in lies_or_not m (State s) above.0 r above.1

    module _ (legs : Legs) (inside : AreLegsIn m legs) where
      -- and whether a leg exits and enters around it on the way to another
      covered_from : (j k : ℕ) (b a : Leg) → IsAt legs j b → b.before ≡ Some k → IsAt legs k a
          → IsCoveredBefore m legs k s ⊎ (IsCoveredBefore m legs k s → ⊥) → IsCoveredBefore m legs j s ⊎ (IsCoveredBefore m legs j s → ⊥)
      covered_from j k b a at e here above =
          ⊎_elim
          (λ covers. inl (k, a, next at e, here, covers))
          (λ clear. ⊎_elim
          (λ covered. inl (covered.0, covered.1, after at e covered.2, covered.3, covered.4))
          (λ none. inr (λ h.
          let up = later_cases legs h.0 j b at h.2 in
          let some = up.1 in
          let same : up.0 ≡ k = cc in
          ⊎_elim
          (λ this.
          let place : h.0 ≡ k = cc in
          let leg = same_at (leg_list legs) k h.1 a (subst (λ n. IsAt legs n h.1) place h.3) here in
          clear (subst (λ (x : Leg). LiesInScope m s (scope_of x.area)) leg h.4))
          (λ more. none (h.0, h.1, subst (StandsLater (leg_list legs) h.0) same more, h.3, h.4))
          up.2))
          above)
          (scope_or_not (scope_of a.area))

      covered_by : (j : ℕ) (b : Leg) (before : Option ℕ) → IsAt legs j b → b.before ≡ before
          → ((k : ℕ) (a : Leg) → k < j → IsAt legs k a → IsCoveredBefore m legs k s ⊎ (IsCoveredBefore m legs k s → ⊥))
          → IsCoveredBefore m legs j s ⊎ (IsCoveredBefore m legs j s → ⊥)
      covered_by j b None at e above = inr (λ h. let up = later_cases legs h.0 j b at h.2 in let some = up.1 in cc)
      covered_by j b (Some k) at e above =
          let less = inside.before k j b at e in
          let within = slice_get_within (leg_list legs) j b at in
          let a = some_at (leg_list legs) k (omega (arith, less, within)) in
          covered_from j k b a.0 at e a.1 (above k a.0 less a.1)

      covered_or_not : (bound j : ℕ) (b : Leg) → j < bound → IsAt legs j b → IsCoveredBefore m legs j s ⊎ (IsCoveredBefore m legs j s → ⊥)
      covered_or_not zero j b lt at = absurd (omega (arith, lt))
      covered_or_not (suc bound) j b lt at = covered_by j b b.before at refl (λ k a less here. covered_or_not bound k a (omega (arith, less, lt)) here)

      -- the first of them exits the State
      pub first_exits : (bound j : ℕ) → j < bound → IsCoveredBefore m legs j s
          → (i : ℕ) × (a : Leg) × StandsLater (leg_list legs) i j × IsAt legs i a × IsExited m legs i a s
      first_exits zero j lt h = absurd (omega (arith, lt))
      first_exits (suc bound) j lt h =
          let less = later_lower legs inside.before h.0 j h.2 in
          ⊎_elim
          (λ covered.
          let up = first_exits bound h.0 (omega (arith, less, lt)) covered in
          (up.0, up.1, later_further legs up.0 h.0 j up.2 h.2, up.3, up.4))
          (λ none. (h.0, h.1, h.2, h.3, (h.4, none)))
          (covered_or_not (h.0 + 1) h.0 h.1 (omega arith) h.3)

      pub exit_ahead : (fires : Bool) (j : ℕ) (b : Leg) (y : Item) → IsAt legs j b
          → (IsTrue fires × IsCoveredAhead m legs j b s y) ↔ IsCalledAhead m legs j b fires (items.Exit s) y
      exit_ahead fires j b y at = (
        λ h. ⊎_elim
            (λ own. ⊎_elim
            (λ covered. inr (ahead h.0 covered))
            (λ none. inl (own.0, (h.0, (own.1, none))))
            (covered_or_not (j + 1) j b (omega arith) at))
            (λ covered. inr (ahead h.0 covered))
            h.1,
        λ h. ⊎_elim
            (λ own. (own.1.0, inl (own.0, own.1.1.0)))
            (λ before. (before.4.0, inr (before.0, before.1, before.2, before.3, before.4.1.0)))
            h,
      )
        where
          ahead : IsTrue fires → IsCoveredBefore m legs j s
              → (i : ℕ) × (a : Leg) × StandsLater (leg_list legs) i j × IsAt legs i a × (IsTrue fires × IsExited m legs i a s)
          ahead f covered = let up = first_exits (j + 1) j (omega arith) covered in (up.0, up.1, up.2, up.3, (f, up.4))

module _ (m : DraftMachine) (legs : Legs) (fires : Bool) where
  -- what lies where a leg exits no later one exits
  pub covered_exit_not_later : (i : ℕ) (a : Leg) (x : Item) → IsAt legs i a → IsCoveredExit m a x → IsCalledLater m legs i fires x → ⊥
  covered_exit_not_later i a (items.Exit s) at covers h = h.3.1.1.1 (i, a, h.3.0, at, covers)
  covered_exit_not_later i a (items.Effect t) at covers h = absurd covers
  covered_exit_not_later i a (items.Enter s) at covers h = absurd covers
  covered_exit_not_later i a (items.Opened r mode) at covers h = absurd covers
  covered_exit_not_later i a (items.Pick c) at covers h = absurd covers

  -- nor what lies in a State that a leg exits
  inner_not_later : (i : ℕ) (a : Leg) (q s : VertexId) → IsAt legs i a → LiesInState m s q → IsOrderedOver m legs i a fires (items.Exit q) (items.Exit s) → ⊥
  inner_not_later i a q s at lies h = covered_exit_not_later i a (items.Exit s) at (deeper m q s (scope_of a.area) h.1.1.0 lies) h.2

  pub inner_not_over : (x y : Item) → IsInnerExit m x y → IsOrderedOver m legs 0 legs.first fires x y → ⊥
  inner_not_over (items.Exit q) (items.Exit s) lies h = inner_not_later 0 legs.first q s refl lies h
  inner_not_over (items.Exit q) (items.Effect t) lies h = absurd lies
  inner_not_over (items.Exit q) (items.Enter s) lies h = absurd lies
  inner_not_over (items.Exit q) (items.Opened r mode) lies h = absurd lies
  inner_not_over (items.Exit q) (items.Pick c) lies h = absurd lies
  inner_not_over (items.Effect t) y lies h = absurd lies
  inner_not_over (items.Enter q) y lies h = absurd lies
  inner_not_over (items.Opened r mode) y lies h = absurd lies
  inner_not_over (items.Pick c) y lies h = absurd lies

  pub inner_not_further : (x y : Item) → IsInnerExit m x y → HasFurther legs (λ i a. IsOrderedAsTold m legs i a fires x y) → ⊥
  inner_not_further (items.Exit q) (items.Exit s) lies h =
      ⊎_elim (λ within. ⊎_elim (λ pair. absurd pair) (λ both. absurd both.0) within)
      (λ over. inner_not_later (h.0 + 1) h.1 q s h.2 lies over) h.3
  inner_not_further (items.Exit q) (items.Effect t) lies h = absurd lies
  inner_not_further (items.Exit q) (items.Enter s) lies h = absurd lies
  inner_not_further (items.Exit q) (items.Opened r mode) lies h = absurd lies
  inner_not_further (items.Exit q) (items.Pick c) lies h = absurd lies
  inner_not_further (items.Effect t) y lies h = absurd lies
  inner_not_further (items.Enter q) y lies h = absurd lies
  inner_not_further (items.Opened r mode) y lies h = absurd lies
  inner_not_further (items.Pick c) y lies h = absurd lies
