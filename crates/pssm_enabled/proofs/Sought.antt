-- A search for a way out: what coming to a junction or exit point does to what the search keeps, and what it knows at its end.
use Rattle.std.proofs.Common.{◌≡◌, ◌⊎◌, ◌<◌, ◌≤◌, ◌+◌, ℕ, zero, suc, List, [], ◌∷◌, ◌++◌, length, take, map, get_or, set, replicate, Bool, true, false, eqb, Option, Some, None, IfNone, slice_get, option_map, unwrap_or, Contains, refl, sym, ap, subst, ◌∙◌, inl, inr, ⊎_elim, append-nil, arith}
use Rattle.std.specs.List.{IsDistinct}
use Rattle.std.proofs.lemmas.Bool.{eqb-true, cases_lt}
use Rattle.std.proofs.lemmas.Bool.Decides.{eqb_tells}
use Rattle.std.proofs.lemmas.List.{length-map, get_or-map, length_push, take_more_set, length-take-le, get_or-replicate, get_or_past, length-replicate, get_or-set_same, get_or-set_other, get_or-take}
use Rattle.std.proofs.lemmas.List.Elements.{Contains-append_cases}
use Rattle.std.proofs.lemmas.Option.{slice_get_within, slice_get-get_or, get_or_from_slice_get, same_Some}
use Rattle.std.proofs.lemmas.Map.Keys.{IsDistinct-from_apart}
use Rattle.std.proofs.lemmas.Map.Views.{Contains-from_any}
use Rattle.std.proofs.lemmas.Map.Steps.{length-le_from_distinct_below}
use Rattle.pssm_model.specs.declared.ids.VertexId.{VertexId}
use Rattle.pssm_model.specs.declared.ids.RegionId.{RegionId}
use Rattle.pssm_model.specs.declared.ids.TransId.{TransId}
use Rattle.pssm_model.specs.declared.elements.DraftMachine.{DraftMachine}
use Rattle.pssm_model.specs.declared.elements.Transition.{Transition}
use Rattle.pssm_model.specs.declared.elements.Vertex.{Vertex}
use Rattle.pssm_model.specs.declared.elements.VertexKind.{VertexKind}
use Rattle.pssm_model.specs.declared.elements.VertexKind.TheVariants as kinds
use Rattle.pssm_model.specs.Forest.{vertex_at, transition_at, HasKind}
use Rattle.pssm_model.specs.Legs.{Leaves, Enters}
use Rattle.pssm_model.specs.Routes.{Truth}
use Rattle.pssm_model.specs.Shapes.{HasShape}
use Rattle.pssm_model.proofs.ElementLaws.{mapped_some, enters_one, same_vertex, nothing_in_nil}
use Rattle.pssm_model.proofs.RouteLaws.{is_one}
use Rattle.pssm_enabled.specs.declared.seeking.Step.{Step}
use Rattle.pssm_enabled.specs.declared.seeking.Search.{Search}
use Rattle.pssm_enabled.specs.Ways.{IsPassedOver, EndsInside, IsOpen, LeadsOut}
use Rattle.pssm_enabled.specs.Ways.IsWay.{begins, goes_on}
use Rattle.pssm_enabled.specs.Ways.LeadsOut.{ends, on}
use Rattle.pssm_enabled.specs.Steps.{IsTrail, IsSeen, IsFound, SeesDeadEnds}
use Rattle.pssm_enabled.specs.Steps.IsTrail.{first as trail_first, further}
use Rattle.pssm_enabled.specs.inner.Seeking.{kept, ComesTo, Tries, ComesOnce, IsLed, IsLedOn, IsTried, HasStepTo, KeepsWays, IsUnderWay, GoesOn}
use Rattle.pssm_enabled.specs.inner.Seeking.ComesTo.{out, again, first}
use Rattle.pssm_enabled.specs.inner.Seeking.Tries.{closed, comes}

-- what holds anyway holds where nothing is found
pub if_none : {X P : Type 0} (o : Option X) → P → IfNone o P
if_none None h = h
if_none (Some x) h = tt

-- what is at a place of a list with one more at its end, or of a list cut short
at_left : {X : Type 0} (xs ys : List X) (k : ℕ) (x : X) → slice_get xs k ≡ Some x → slice_get (xs ++ ys) k ≡ Some x
at_left [] ys k x e = absurd (cc)
at_left (y ∷ xs) ys zero x e = e
at_left (y ∷ xs) ys (suc k) x e = at_left xs ys k x e

at_cases : {X : Type 0} (xs : List X) (y : X) (k : ℕ) (x : X) → slice_get (xs ++ y ∷ []) k ≡ Some x
    → (slice_get xs k ≡ Some x) ⊎ ((k ≡ length xs) × (y ≡ x))
at_cases [] y zero x e = inr (refl, cc)
at_cases [] y (suc k) x e = absurd (cc)
at_cases (z ∷ xs) y zero x e = inl e
at_cases (z ∷ xs) y (suc k) x e = ⊎_elim (λ h. inl h) (λ h. inr (ap suc h.0, h.1)) (at_cases xs y k x e)

pub at_last : {X : Type 0} (xs : List X) (y : X) → slice_get (xs ++ y ∷ []) (length xs) ≡ Some y
at_last [] y = refl
at_last (z ∷ xs) y = at_last xs y

at_taken : {X : Type 0} (n : ℕ) (xs : List X) (k : ℕ) (x : X) → slice_get (take n xs) k ≡ Some x → slice_get xs k ≡ Some x
at_taken zero xs k x e = absurd (cc)
at_taken (suc n) [] k x e = absurd (cc)
at_taken (suc n) (y ∷ xs) zero x e = e
at_taken (suc n) (y ∷ xs) (suc k) x e = at_taken n xs k x e

length_taken : {X : Type 0} (n : ℕ) (xs : List X) → length (take n xs) ≤ n
length_taken zero xs = omega arith
length_taken (suc n) [] = omega arith
length_taken (suc n) (x ∷ xs) = let h = length_taken n xs in omega (arith, h)

below_more_cases : (k n : ℕ) → k < n + 1 → (k < n) ⊎ (k ≡ n)
below_more_cases k n lt = ⊎_elim (λ less. inl less) (λ not. inr (omega (arith, lt, not))) (cases_lt k n)

in_cons : {X : Type 0} (y : X) (xs : List X) (x : X) → Contains (y ∷ xs) x → (x ≡ y) ⊎ Contains xs x
in_cons y xs x h = ⊎_elim (λ head. inl (is_one y x head)) (λ tail. inr tail) (Contains-append_cases (y ∷ []) xs x h)

at_place : {X : Type 0} (xs : List X) (x : X) → Contains xs x → (k : ℕ) × (slice_get xs k ≡ Some x)
at_place xs x h = (h.0, slice_get-get_or xs h.0 x h.1 ∙ ap Some h.2)

nothing_at : {X : Type 0} (k : ℕ) (x : X) → slice_get [] k ≡ Some x → ⊥
nothing_at k x e = cc

-- a trail stays one as further steps are kept
pub trail_more : {xs : List Step} (ys : List Step) {step : Step} {path : List TransId} → IsTrail xs step path → IsTrail (xs ++ ys) step path
trail_more ys (trail_first t) = trail_first t
trail_more {xs = xs} ys (further {k = k} {step = step} u at before) = further u (at_left xs ys k step at) (trail_more ys before)

pub trail_of_taken : {xs : List Step} (n : ℕ) {step : Step} {path : List TransId} → IsTrail (take n xs) step path → IsTrail xs step path
trail_of_taken n (trail_first t) = trail_first t
trail_of_taken {xs = xs} n (further {k = k} {step = step} u at before) = further u (at_taken n xs k step at) (trail_of_taken n before)

-- that one search keeps more steps than another, and has marked more
record Grows (old new : Search) : Type 0 where
  more : List Step
  steps : kept new ≡ kept old ++ more
  seen : (v : VertexId) → IsSeen old v → IsSeen new v

same_grows : {old new : Search} → new ≡ old → Grows old new
same_grows {old = old} same = record {
  more = [];
  steps = ap kept same ∙ sym (append-nil (kept old));
  seen = λ v h. subst (λ s. IsSeen s v) (sym same) h;
}

module _ {m : DraftMachine} {old new : Search} {step : Step} where
  grows : {ends : Bool} → ComesTo m old step new ends → Grows old new
  grows (out free same) = same_grows same
  grows (again e j h same) = same_grows same
  grows (first e j free marks steps) = record { more = step ∷ []; steps = steps; seen = λ v h. (marks v).1 (inl h) }

module _ {old new : Search} (g : Grows old new) where
  kept_grows : (k : ℕ) (step : Step) → slice_get (kept old) k ≡ Some step → slice_get (kept new) k ≡ Some step
  kept_grows k step at = subst (λ xs. slice_get xs k ≡ Some step) (sym g.steps) (at_left (kept old) g.more k step at)

  came_grows : (m : DraftMachine) (v : VertexId) → HasStepTo m old v → HasStepTo m new v
  came_grows m v h = (h.0, h.1, kept_grows h.0 h.1 h.2, h.3)

  module _ {m : DraftMachine} {truth : Truth} {within : Option RegionId} where
    abbrev led_grows : (start : TransId) (step : Step) → IsLed m truth within start old step → IsLed m truth within start new step
    led_grows start step h = record {
      passed = h.passed;
      path = h.path;
      trail = subst (λ xs. IsTrail xs step h.path) (sym g.steps) (trail_more g.more h.trail);
      way = h.way;
      seen = λ v is. g.seen v (h.seen v is);
    }

    tried_grows : (u : TransId) → IsTried m truth within old u → IsTried m truth within new u
    tried_grows u h w opened enters = let is = h w opened enters in (is.0, g.seen w is.1)

-- coming to the target of a step's transition leaves what a search keeps
module _ {m : DraftMachine} {truth : Truth} {within : Option RegionId} {start : TransId} {before : Search} {place : ℕ} {old new : Search} {step : Step} where
  keeps_more : {ends : Bool} → KeepsWays m truth within start before old place → IsLed m truth within start old step → ComesTo m old step new ends
      → KeepsWays m truth within start before new place
  keeps_more h led (out free same) = subst (λ s. KeepsWays m truth within start before s place) (sym same) h
  keeps_more h led (again e j seen same) = subst (λ s. KeepsWays m truth within start before s place) (sym same) h
  keeps_more h led (first {v = v} e j free marks steps) =
      let g : Grows old new = record { more = step ∷ []; steps = steps; seen = λ w is. (marks w).1 (inl is) } in
      let split : (k : ℕ) (s : Step) → slice_get (kept new) k ≡ Some s → (slice_get (kept old) k ≡ Some s) ⊎ ((k ≡ length (kept old)) × (step ≡ s)) =
      λ k s at. at_cases (kept old) step k s (subst (λ xs. slice_get xs k ≡ Some s) steps at) in
      record {
        led = λ k s at.
            ⊎_elim
            (λ there. let was = h.led k s there in record { led = led_grows g start s was.led; fresh = was.fresh })
            (λ is. subst (IsLedOn m truth within start new) is.1
            (record {
              led = led_grows g start step led;
              fresh = λ w enters inside. free (subst (IsSeen old) (enters_one m step.by w v enters e) (led.seen w inside));
            }))
            (split k s at);
        gone = λ k s lt at.
            ⊎_elim
            (λ there u w enters leaves. tried_grows g u (h.gone k s lt there u w enters leaves))
            (λ is. let reached = h.reached in let last = is.0 in absurd (omega (arith, lt, reached, last)))
            (split k s at);
        reached =
            let reached = h.reached in
            let longer = ap length steps ∙ length_push (kept old) step in
            omega (arith, reached, longer);
        marks = λ w is.
            ⊎_elim
            (λ was. ⊎_elim (λ early. inl early) (λ came. inr (came_grows g m w came)) (h.marks w was))
            (λ same. inr (
              length (kept old),
              step,
              subst (λ xs. slice_get xs (length (kept old)) ≡ Some step) (sym steps) (at_last (kept old) step),
              subst (Enters m step.by) (sym same) e,
            ))
            ((marks w).0 is);
      }

-- steps that end on different vertices are no more than there are vertices
module _ (m : DraftMachine) where
  abbrev number_of : Step → ℕ
  number_of step = unwrap_or (option_map (λ (x : Transition). x.target.0) (transition_at m step.by)) 0

  number_is : (step : Step) (v : VertexId) → Enters m step.by v → number_of step ≡ v.0
  number_is step v h =
      let x = mapped_some (λ (y : Transition). y.target) (transition_at m step.by) v h in
      ap (λ o. unwrap_or (option_map (λ (y : Transition). y.target.0) o) 0) x.1 ∙ ap (λ (w : VertexId). w.0) x.2

  abbrev AreApart : List Step → Type 0
  AreApart steps = (i k : ℕ) (a b : Step) (v : VertexId) → i < k → slice_get steps i ≡ Some a → slice_get steps k ≡ Some b
      → Enters m a.by v → Enters m b.by v → ⊥

  abbrev EndThere : List Step → Type 0
  EndThere steps = (k : ℕ) (a : Step) → slice_get steps k ≡ Some a → (v : VertexId) × Enters m a.by v × (v.0 < length m.vertices)

  few : (steps : List Step) → AreApart steps → EndThere steps → length steps ≤ length m.vertices
  few steps apart there =
      let d : Step = record { by = record { 0 = 0 }; before = None } in
      let at : (k : ℕ) → k < length steps → slice_get steps k ≡ Some (get_or steps k d) = λ k lt. slice_get-get_or steps k d lt in
      let number : (k n : ℕ) → k < length steps → get_or (map number_of steps) k n ≡ number_of (get_or steps k d) = λ k n lt.
      get_or-map number_of steps k d n lt in
      let distinct : IsDistinct eqb (map number_of steps) =
      IsDistinct-from_apart eqb (map number_of steps)
      (λ i j n lt inside.
      let long : j < length steps = subst (λ k. j < k) (length-map steps number_of) inside in
      let short : i < length steps = omega (arith, lt, long) in
      let a = there i (get_or steps i d) (at i short) in
      let b = there j (get_or steps j d) (at j long) in
      ⊎_elim
      (λ same. absurd (apart i j (get_or steps i d) (get_or steps j d) a.0 lt (at i short) (at j long) a.1
      (subst (Enters m (get_or steps j d).by)
      (same_vertex b.0 a.0
      (sym (number_is (get_or steps j d) b.0 b.1) ∙ sym (number j n long) ∙ sym same.1 ∙ number i n short ∙ number_is (get_or steps i d) a.0 a.1))
      b.1)))
      (λ differ. differ.0)
      (eqb_tells (get_or (map number_of steps) i n) (get_or (map number_of steps) j n))) in
      let most = length-le_from_distinct_below (map number_of steps) (length m.vertices) distinct
      (λ n found.
      let k = at_place (map number_of steps) n (Contains-from_any eqb-true n (map number_of steps) found) in
      let inside : k.0 < length steps = subst (λ j. k.0 < j) (length-map steps number_of) (slice_get_within (map number_of steps) k.0 n k.1) in
      let a = there k.0 (get_or steps k.0 d) (at k.0 inside) in
      let same : n ≡ a.0.0 =
      sym (get_or_from_slice_get (map number_of steps) k.0 n n k.1) ∙ number k.0 n inside ∙ number_is (get_or steps k.0 d) a.0 a.1 in
      subst (λ j. j < length m.vertices) (sym same) a.2) in
      subst (λ n. n ≤ length m.vertices) (length-map steps number_of) most

-- the steps after one more come to one vertex each, and there is room for it
module _ {m : DraftMachine} {old : Search} (step : Step) {v : VertexId} (h : ComesOnce m old) (e : Enters m step.by v) (free : IsSeen old v → ⊥) where
  apart_more : AreApart m (kept old ++ step ∷ [])
  apart_more i k a b w lt one other enters same =
      ⊎_elim
      (λ was. h.once i k a b w lt (earlier i k a b lt one was) was enters same)
      (λ is.
      let target : w ≡ v = enters_one m step.by w v (subst (λ (s : Step). Enters m s.by w) (sym is.1) same) e in
      let came = h.comes i a (before i k a b lt one is.0) in
      free (subst (IsSeen old) (enters_one m a.by came.0 w came.1 enters ∙ target) came.3))
      (at_cases (kept old) step k b other)
    where
      before : (i k : ℕ) (a b : Step) → i < k → slice_get (kept old ++ step ∷ []) i ≡ Some a → k ≡ length (kept old) → slice_get (kept old) i ≡ Some a
      before i k a b lt at last = ⊎_elim (λ was. was) (λ is. let same = is.0 in absurd (omega (arith, lt, last, same))) (at_cases (kept old) step i a at)

      earlier : (i k : ℕ) (a b : Step) → i < k → slice_get (kept old ++ step ∷ []) i ≡ Some a → slice_get (kept old) k ≡ Some b
          → slice_get (kept old) i ≡ Some a
      earlier i k a b lt at was =
          let inside = slice_get_within (kept old) k b was in
          ⊎_elim (λ there. there) (λ is. let same = is.0 in absurd (omega (arith, lt, inside, same))) (at_cases (kept old) step i a at)

  pub room_for : IsPassedOver m v → HasShape m → length old.steps ≡ 4096 → old.count < 4096
  room_for j shape long =
      let there : EndThere m (kept old ++ step ∷ []) = λ k a at.
      ⊎_elim
      (λ was. let came = h.comes k a was in (came.0, came.1, kind_there came.0 came.2))
      (λ is. (v, subst (λ (s : Step). Enters m s.by v) is.1 e, kind_there v j))
      (at_cases (kept old) step k a at) in
      let most = few m (kept old ++ step ∷ []) apart_more there in
      let longer = length_push (kept old) step in
      let room = h.room in
      let whole = length-take-le old.count old.steps (subst (λ n. old.count ≤ n) (sym long) room) in
      let limit = shape.limits.vertices in
      omega (arith, most, longer, whole, limit)
    where
      of_kind : (w : VertexId) (k : VertexKind) → HasKind m w k → w.0 < length m.vertices
      of_kind w k is = let x = mapped_some (λ (y : Vertex). y.kind) (vertex_at m w) k is in slice_get_within m.vertices w.0 x.0 x.1

      kind_there : (w : VertexId) → IsPassedOver m w → w.0 < length m.vertices
      kind_there w is = ⊎_elim (λ k. of_kind w kinds.Junction k) (λ k. of_kind w kinds.ExitPoint k) is

once_more : {m : DraftMachine} {old new : Search} {step : Step} {ends : Bool} → ComesOnce m old → ComesTo m old step new ends → new.count ≤ 4096
    → ComesOnce m new
once_more {m = m} h (out free same) room = subst (ComesOnce m) (sym same) h
once_more {m = m} h (again e j seen same) room = subst (ComesOnce m) (sym same) h
once_more {m = m} {old = old} {new = new} {step = step} h (first {v = v} e j free marks steps) room = record {
  comes = λ k s at.
      ⊎_elim
      (λ was. let came = h.comes k s was in (came.0, came.1, came.2, (marks came.0).1 (inl came.3)))
      (λ is. (v, subst (λ (a : Step). Enters m a.by v) is.1 e, j, (marks v).1 (inr refl)))
      (at_cases (kept old) step k s (subst (λ xs. slice_get xs k ≡ Some s) steps at));
  once = subst (AreApart m) (sym steps) (apart_more step h e free);
  room = room;
}

-- a step whose transition ends on no junction or exit point is the last of a way out
module _ {m : DraftMachine} {truth : Truth} {within : Option RegionId} where
  found_at_end : (start : TransId) {old new : Search} {step : Step} → IsLed m truth within start old step → ComesTo m old step new true
      → IsFound m truth within new.steps start step
  found_at_end start {old = old} {new = new} {step = step} led (out free same) = (
    led.path,
    subst (λ (s : Search). IsTrail s.steps step led.path) (sym same) (trail_of_taken old.count led.trail),
    record { passed = led.passed; way = led.way; ends = free },
  )

  tried_at_end : {old new : Search} {step : Step} → ComesTo m old step new false → IsTried m truth within new step.by
  tried_at_end {old = old} {new = new} {step = step} (again {v = v} e j seen same) w opened enters =
      let at = enters_one m step.by v w e enters in
      (subst (λ u. IsPassedOver m u) at j, subst (IsSeen new) at (subst (λ s. IsSeen s v) (sym same) seen))
  tried_at_end {old = old} {new = new} {step = step} (first {v = v} e j free marks steps) w opened enters =
      let at = enters_one m step.by v w e enters in
      (subst (λ u. IsPassedOver m u) at j, subst (IsSeen new) at ((marks v).1 (inr refl)))

  -- what trying a step leaves, and what it tells
  module _ {old new : Search} {step : Step} where
    tries_grows : {ends : Bool} → Tries m truth within old step new ends → Grows old new
    tries_grows (closed shut same) = same_grows same
    tries_grows (comes opened c) = grows c

    tries_keeps : {ends : Bool} (start : TransId) (before : Search) (place : ℕ) → KeepsWays m truth within start before old place
        → (IsOpen m truth within step.by → IsLed m truth within start old step) → Tries m truth within old step new ends
        → KeepsWays m truth within start before new place
    tries_keeps start before place h led (closed shut same) = subst (λ s. KeepsWays m truth within start before s place) (sym same) h
    tries_keeps start before place h led (comes opened c) = keeps_more h (led opened) c

    tries_tells : Tries m truth within old step new false → IsTried m truth within new step.by
    tries_tells (closed shut same) w opened enters = absurd (shut opened)
    tries_tells (comes opened c) w also enters = tried_at_end c w also enters

    tries_finds : (start : TransId) → (IsOpen m truth within step.by → IsLed m truth within start old step) → Tries m truth within old step new true
        → IsFound m truth within new.steps start step
    tries_finds start led (comes opened c) = found_at_end start (led opened) c

module _ {m : DraftMachine} {truth : Truth} {within : Option RegionId} {start : TransId} where
  -- the start begins a way, and an open transition out of the target of a kept step goes on with one
  start_led : (search : Search) → IsOpen m truth within start → IsLed m truth within start search (record { by = start; before = None })
  start_led search opened = record {
    passed = [];
    path = start ∷ [];
    trail = trail_first start;
    way = begins opened;
    seen = λ v is. absurd (nothing_in_nil v is);
  }

  led_on : (search : Search) (place : ℕ) (step : Step) (u : TransId) (v : VertexId) → IsLedOn m truth within start search step
      → slice_get (kept search) place ≡ Some step → Enters m step.by v → IsPassedOver m v → IsSeen search v → Leaves m u v
      → IsOpen m truth within u → IsLed m truth within start search (record { by = u; before = Some place })
  led_on search place step u v h at enters j seen leaves opened = record {
    passed = v ∷ h.led.passed;
    path = h.led.path ++ u ∷ [];
    trail = further u at h.led.trail;
    way = goes_on h.led.way enters j (h.fresh v enters) leaves opened;
    seen = λ w is. ⊎_elim (λ same. subst (IsSeen search) (sym same) seen) (λ later. h.led.seen w later) (in_cons v h.led.passed w is);
  }

  -- a search that keeps nothing yet, and has tried the start
  module _ {before new : Search} where
    pub under_way_from_start : Tries m truth within (record { seen = before.seen; steps = before.steps; count = 0 })
        (record { by = start; before = None }) new false → IsUnderWay m truth within start before new 0
    under_way_from_start tries =
        let empty : Search = record { seen = before.seen; steps = before.steps; count = 0 } in
        record {
          begun = tries_tells tries;
          keeps = tries_keeps start before 0
              (record {
                led = λ k step at. absurd (nothing_at k step at);
                gone = λ k step lt. absurd (omega (arith, lt));
                reached = omega arith;
                marks = λ v is. inl is;
              })
              (start_led empty) tries;
        }

  -- an open transition that ends on no junction or exit point is a way out
  pub found_alone : (EndsInside m start → ⊥) → IsOpen m truth within start → (steps : List Step)
      → IsFound m truth within steps start (record { by = start; before = None })
  found_alone apart opened steps =
      (start ∷ [], trail_first start, record { passed = []; way = begins opened; ends = λ v enters kind. apart (v, enters, kind) })

  pub found_from_start : {empty new : Search} → Tries m truth within empty (record { by = start; before = None }) new true
      → IsFound m truth within new.steps start (record { by = start; before = None })
  found_from_start {empty = empty} tries = tries_finds start (start_led empty) tries

  -- where it has gone on from all that it keeps, nothing leads out
  module _ {before search : Search} {place : ℕ} (h : IsUnderWay m truth within start before search place) (all : length (kept search) ≤ place)
      (dead : SeesDeadEnds m truth within before) where
    tried_from : (v : VertexId) (u : TransId) → HasStepTo m search v → Leaves m u v → IsTried m truth within search u
    tried_from v u came leaves =
        let inside = slice_get_within (kept search) came.0 came.1 came.2 in
        h.keeps.gone came.0 came.1 (omega (arith, inside, all)) came.2 u v came.3 leaves

    pub all_dead : SeesDeadEnds m truth within search
    all_dead v u seen leaves (ends {v = w} opened enters not) =
        ⊎_elim
        (λ was. dead v u was leaves (ends opened enters not))
        (λ came. not (tried_from v u came leaves w opened enters).0)
        (h.keeps.marks v seen)
    all_dead v u seen leaves (on {u = onward} {v = w} opened enters j leaves_on rest) =
        ⊎_elim
        (λ was. dead v u was leaves (on opened enters j leaves_on rest))
        (λ came. all_dead w onward (tried_from v u came leaves w opened enters).1 leaves_on rest)
        (h.keeps.marks v seen)

    pub start_dead : LeadsOut m truth within start → ⊥
    start_dead (ends {v = w} opened enters not) = not (h.begun w opened enters).0
    start_dead (on {u = onward} {v = w} opened enters j leaves rest) = all_dead w onward (h.begun w opened enters).1 leaves rest

-- going on from one junction or exit point
module _ {m : DraftMachine} {Told : Truth → Type 0} {within : Option RegionId} {place : ℕ} {items : List TransId} {initial search : Search} {step : Step}
    {v : VertexId} (at : slice_get (kept initial) place ≡ Some step) (e : Enters m step.by v) where
  module _ {index : ℕ} (h : GoesOn m Told within place items initial search index) where
    led_from_here : (truth : Truth) (start : TransId) (before : Search) (u : TransId) → Told truth → Leaves m u v
        → IsUnderWay m truth within start before initial place → IsOpen m truth within u
        → IsLed m truth within start search (record { by = u; before = Some place })
    led_from_here truth start before u told leaves under opened =
        let there = h.here truth step told at in
        let came = h.once.comes place step there in
        let same = enters_one m step.by came.0 v came.1 e in
        led_on search place step u v ((h.keeps truth start before told under).keeps.led place step there) there e
        (subst (λ w. IsPassedOver m w) same came.2) (subst (IsSeen search) same came.3) leaves opened

    module _ {new : Search} {u : TransId} (leaves : Leaves m u v) where
      pub goes_more : slice_get items index ≡ Some u → ComesOnce m new
          → ((truth : Truth) → Told truth → Tries m truth within search (record { by = u; before = Some place }) new false)
          → GoesOn m Told within place items initial new (index + 1)
      goes_more item once tries = record {
        once = once;
        here = λ truth s told there. kept_grows (tries_grows (tries truth told)) place s (h.here truth s told there);
        keeps = λ truth start before told under.
            let was = h.keeps truth start before told under in
            record {
              begun = tried_grows (tries_grows (tries truth told)) start was.begun;
              keeps = tries_keeps start before place was.keeps (led_from_here truth start before u told leaves under) (tries truth told);
            };
        tried = λ truth k w told lt there.
            ⊎_elim
            (λ early. tried_grows (tries_grows (tries truth told)) w (h.tried truth k w told early there))
            (λ last. subst (IsTried m truth within new) (same_Some u w (sym item ∙ subst (λ n. slice_get items n ≡ Some w) last there))
            (tries_tells (tries truth told)))
            (below_more_cases k index lt);
      }

      pub goes_out : (truth : Truth) (start : TransId) (before : Search) → Told truth → IsUnderWay m truth within start before initial place
          → Tries m truth within search (record { by = u; before = Some place }) new true
          → IsFound m truth within new.steps start (record { by = u; before = Some place })
      goes_out truth start before told under tries = tries_finds start (led_from_here truth start before u told leaves under) tries

    -- where all transitions out of it are tried, it has gone on from one step more
    pub goes_on_at_end : length items ≤ index → ((u : TransId) → Leaves m u v → Contains items u) → (truth : Truth) (start : TransId) (before : Search)
        → Told truth → IsUnderWay m truth within start before initial place → IsUnderWay m truth within start before search (place + 1)
    goes_on_at_end all listed truth start before told under =
        let was = h.keeps truth start before told under in
        let there = h.here truth step told at in
        record {
          begun = was.begun;
          keeps = record {
            led = was.keeps.led;
            gone = λ k s lt here.
                ⊎_elim
                (λ early. was.keeps.gone k s early here)
                (λ last u w enters leaves.
                let same : step ≡ s = same_Some step s (sym there ∙ subst (λ n. slice_get (kept search) n ≡ Some s) last here) in
                let target = enters_one m step.by w v (subst (λ (a : Step). Enters m a.by w) (sym same) enters) e in
                let item = at_place items u (listed u (subst (Leaves m u) target leaves)) in
                let inside = slice_get_within items item.0 u item.1 in
                h.tried truth item.0 u told (omega (arith, inside, all)) item.1)
                (below_more_cases k place lt);
            reached = let inside = slice_get_within (kept search) place step there in omega (arith, inside);
            marks = was.keeps.marks;
          };
        }

-- nothing is marked at first
pub nothing_marked : (n k : ℕ) → get_or (replicate n false) k false ≡ true → ⊥
nothing_marked n k h =
    ⊎_elim
    (λ (inside : k < n). let is = get_or-replicate n k false false inside in let clash : false ≡ true = sym is ∙ h in cc)
    (λ (past : n ≤ k).
    let is = get_or_past (replicate n false) k false (let long = length-replicate n false in omega (arith, past, long)) in
    let clash : false ≡ true = sym is ∙ h in
    cc)
    (cases_lt k n)

-- to mark a junction or exit point and to keep the step is to come to it for the first time
module _ {m : DraftMachine} {old : Search} (step : Step) {v : VertexId} where
  pub comes_first : ComesOnce m old → Enters m step.by v → IsPassedOver m v → (IsSeen old v → ⊥) → v.0 < length old.seen → HasShape m
      → length old.steps ≡ 4096
      → ComesTo m old step (record { seen = set old.seen v.0 true; steps = set old.steps old.count step; count = old.count + 1 }) false
  comes_first once e j free inside shape long =
      first e j free
      (λ w.
      ⊎_elim
      (λ same. (
        λ is. inr (same_vertex w v same.1),
        λ h. subst (λ k. get_or (set old.seen v.0 true) k false ≡ true) (sym same.1)
            (get_or-set_same old.seen v.0 true false inside),
      ))
      (λ differ.
      let other = get_or-set_other old.seen v.0 w.0 true false differ.1 in
      (λ is. inl (sym other ∙ is), λ h. ⊎_elim (λ is. other ∙ is) (λ same. absurd (differ.1 (ap (λ (x : VertexId). x.0) same))) h))
      (eqb_tells w.0 v.0))
      (take_more_set old.steps old.count step (let room = room_for step once e free j shape long in omega (arith, room, long)))

  pub once_first : ComesOnce m old → Enters m step.by v → IsPassedOver m v → (IsSeen old v → ⊥) → v.0 < length old.seen → HasShape m
      → length old.steps ≡ 4096 → ComesOnce m (record { seen = set old.seen v.0 true; steps = set old.steps old.count step; count = old.count + 1 })
  once_first once e j free inside shape long =
      once_more once (comes_first once e j free inside shape long) (let room = room_for step once e free j shape long in omega (arith, room))

-- a transition that ends somewhere is there
pub enters_there : (m : DraftMachine) (t : TransId) (v : VertexId) → Enters m t v → t.0 < length m.transitions
enters_there m t v h =
    let x = mapped_some (λ (y : Transition). y.target) (transition_at m t) v h in
    slice_get_within m.transitions t.0 x.0 x.1

-- the step at a place below the count is kept, and no other
pub kept_at : (search : Search) (place : ℕ) (d : Step) → place < search.count → search.count ≤ 4096 → length search.steps ≡ 4096
    → slice_get (kept search) place ≡ Some (get_or search.steps place d)
kept_at search place d lt room long =
    let whole = length-take-le search.count search.steps (subst (λ n. search.count ≤ n) (sym long) room) in
    slice_get-get_or (kept search) place d (subst (λ n. place < n) (sym whole) lt) ∙ ap Some (get_or-take search.count search.steps place d lt)

pub kept_short : (search : Search) (place : ℕ) → search.count ≤ place → length (kept search) ≤ place
kept_short search place h = let most = length_taken search.count search.steps in omega (arith, h, most)

pub entered_at : {m : DraftMachine} {search : Search} (place : ℕ) (d : Step) → ComesOnce m search → place < search.count → length search.steps ≡ 4096
    → (get_or search.steps place d).by.0 < length m.transitions
entered_at {m = m} {search = search} place d once lt long =
    let step = get_or search.steps place d in
    let came = once.comes place step (kept_at search place d lt once.room long) in
    enters_there m step.by came.0 came.1
