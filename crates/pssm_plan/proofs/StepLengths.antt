-- A step that has begun well runs each item at most once, and opens no region in two modes of which it has no history;
-- so it is no longer than the machine is large.
use Rattle.std.proofs.Common.{◌≡◌, ◌⊎◌, ◌+◌, ◌<◌, ◌≤◌, ℕ, List, [], ◌∷◌, length, map, Bool, true, false, Contains, Some, refl, sym, ap, subst, inl, inr, ⊎_elim, arith, eqb}
use Rattle.std.specs.List.{list_any, IsDistinct}
use Rattle.std.proofs.lemmas.Option.{slice_get_within}
use Rattle.std.proofs.lemmas.Cmp.{nat_eq_equiv}
use Rattle.std.proofs.lemmas.Bool.{eqb-true}
use Rattle.std.proofs.lemmas.List.{map-append, length-map}
use Rattle.std.proofs.lemmas.List.Elements.{Contains-append_cases, Contains-append_left, Contains-append_right}
use Rattle.std.proofs.lemmas.Map.Keys.{IsDistinct-push}
use Rattle.std.proofs.lemmas.Map.Views.{Contains-from_any}
use Rattle.std.proofs.lemmas.Map.Steps.{length-le_from_distinct_below}
use Rattle.pssm_model.specs.declared.ids.VertexId.{VertexId}
use Rattle.pssm_model.specs.declared.ids.RegionId.{RegionId}
use Rattle.pssm_model.specs.declared.elements.DraftMachine.{DraftMachine}
use Rattle.pssm_model.specs.declared.elements.VertexKind.TheVariants as kinds
use Rattle.pssm_model.specs.declared.elements.Vertex.{Vertex}
use Rattle.pssm_model.specs.declared.elements.Owner.TheVariants.{Region, State}
use Rattle.pssm_model.specs.declared.steps.Mode.{Mode}
use Rattle.pssm_model.specs.declared.steps.Mode.TheVariants.{Plain, Shallow, Deep}
use Rattle.pssm_model.specs.declared.steps.How.{How}
use Rattle.pssm_model.specs.declared.steps.Item.{Item}
use Rattle.pssm_model.specs.declared.steps.Item.TheVariants as items
use Rattle.pssm_model.specs.Forest.{vertex_at, HasKind, IsStateOrFinal, owner_of}
use Rattle.pssm_model.specs.Shapes.{HasShape}
use Rattle.pssm_model.specs.Configuration.{Configuration}
use Rattle.pssm_model.specs.Course.{Head, Course, HasRun}
use Rattle.pssm_model.specs.Order.{HasGone, course_by, entries_at_most}
use Rattle.pssm_model.specs.Order.HasGone.{begun, more}
use Rattle.pssm_model.specs.WellFormed.{KeepsModelRules}
use Rattle.pssm_legs.specs.Calls.{IsItemIn}
use Rattle.pssm_plan.specs.Steadiness.{BeginsWell}
use Rattle.pssm_plan.specs.Steps.{IsStep}
use Rattle.pssm_plan.specs.inner.OverRoutes.{IsHistoryFor, GoesByRoutes, IsOpenedFor, IsCalledOver}
use Rattle.pssm_model.proofs.ElementLaws.{same_vertex, same_transition}
use Rattle.pssm_model.proofs.ElementLaws.{same_region}
use Rattle.pssm_model.proofs.ElementLaws.{mapped_some, nothing_in_nil}
use Rattle.pssm_model.proofs.OwnerChains.{one_owner}
use Rattle.pssm_model.proofs.RouteLaws.{in_one, is_one}
use Rattle.pssm_plan.proofs.RouteItems.{called_is}
use Rattle.pssm_plan.proofs.RouteSteps.{gone_by_routes}
use Rattle.pssm_plan.proofs.RouteCourses.{called_there as names_there}
use Rattle.pssm_model_laws.proofs.Known.{Known}
use Rattle.pssm_plan.proofs.KnownHistories.{known_history}
use Rattle.pssm_plan.proofs.SteadyPlaces.{other_kind, go_on_is_no, same_region_place}
use Rattle.pssm_plan.proofs.RoutePlaces.{entered_is_state}
use Rattle.pssm_plan.proofs.SteadyStems.{history_modes, history_is_no_choice, go_on_history, ran_was_called}
use Rattle.pssm_plan.proofs.SteadyFilling.{one_mode}

module _ (m : DraftMachine) where
  -- What the item names is there, and the item is one that such a machine calls.
  abbrev pub IsThere : Item → Type 0
  IsThere (items.Exit s) = s.0 < length m.vertices
  IsThere (items.Enter s) = (s.0 < length m.vertices) × IsStateOrFinal m s
  IsThere (items.Pick c) = (c.0 < length m.vertices) × HasKind m c kinds.Choice
  IsThere (items.Opened r mode) = r.0 < length m.regions
  IsThere (items.Effect t) = t.0 < length m.transitions

  -- A history vertex of the region is one of the mode.
  abbrev HasHistory : RegionId → Mode → Type 0
  HasHistory r mode = (v : VertexId) × IsHistoryFor m v mode × (owner_of m (State v) ≡ Some (Region r))

  history_there : (v : VertexId) (mode : Mode) → IsHistoryFor m v mode → v.0 < length m.vertices
  history_there v Plain h = absurd h
  history_there v Shallow h =
      let at = mapped_some (λ (x : Vertex). x.kind) (vertex_at m v) kinds.ShallowHistory h in slice_get_within m.vertices v.0 at.0 at.1
  history_there v Deep h =
      let at = mapped_some (λ (x : Vertex). x.kind) (vertex_at m v) kinds.DeepHistory h in slice_get_within m.vertices v.0 at.0 at.1

  -- the number of an opening: that of the entry of the history, or one for the region
  number_by : (r : RegionId) (mode : Mode) → Known (HasHistory r mode) → ℕ
  number_by r mode (inl h) = length m.vertices + h.0.0
  number_by r mode (inr none) = length m.vertices + length m.vertices + r.0

  -- It is the one or the other.
  abbrev IsFormOf : RegionId → Mode → ℕ → Type 0
  IsFormOf r mode n =
      ((h : HasHistory r mode) × (n ≡ length m.vertices + h.0.0) × (h.0.0 < length m.vertices))
      ⊎ ((HasHistory r mode → ⊥) × (n ≡ length m.vertices + length m.vertices + r.0))

  form_by : (r : RegionId) (mode : Mode) (known : Known (HasHistory r mode)) → IsFormOf r mode (number_by r mode known)
  unfolding number_by
  form_by r mode (inl h) = inl (h, refl, history_there h.0 mode h.1)
  form_by r mode (inr none) = inr (none, refl)

  -- The two are openings of one region in modes of which it has no history.
  abbrev IsClash : Item → Item → Type 0
  IsClash (items.Opened r a) (items.Opened q b) = (r ≡ q) × (HasHistory r a → ⊥) × (HasHistory q b → ⊥)
  IsClash _ _ = ⊥

  abbrev IsNoOpening : Item → Type 0
  IsNoOpening (items.Opened r mode) = ⊥
  IsNoOpening _ = Unit {0}

  -- what is entered is no choice and no history
  no_choice : (s c : VertexId) → IsStateOrFinal m s → HasKind m c kinds.Choice → s ≡ c → ⊥
  no_choice s c is choice same =
      let here = subst (λ v. HasKind m v kinds.Choice) (sym same) choice in
      ⊎_elim
      (λ state. other_kind m s kinds.State kinds.Choice (λ e. cc) state here)
      (λ final. other_kind m s kinds.Final kinds.Choice (λ e. cc) final here)
      is

  no_history : (s v : VertexId) (mode : Mode) → IsStateOrFinal m s → IsHistoryFor m v mode → s ≡ v → ⊥
  no_history s v mode is history same =
      let on = go_on_history m v mode history in
      ⊎_elim
      (λ state. go_on_is_no m v kinds.State (λ e. cc) (λ e. cc) (λ e. cc) on (subst (λ x. HasKind m x kinds.State) same state))
      (λ final. go_on_is_no m v kinds.Final (λ e. cc) (λ e. cc) (λ e. cc) on (subst (λ x. HasKind m x kinds.Final) same final))
      is

module _ {m : DraftMachine} (shape : HasShape m) where
  opening_number : RegionId → Mode → ℕ
  opening_number r mode = number_by m r mode (known_history shape r mode)

  form_of : (r : RegionId) (mode : Mode) → IsFormOf m r mode (opening_number r mode)
  unfolding opening_number
  form_of r mode = form_by m r mode (known_history shape r mode)

  -- a number for each item: exits, entries and picks, openings and effects; what is entered is no choice, and neither is a history
  abbrev number_of : Item → ℕ
  number_of (items.Exit s) = s.0
  number_of (items.Enter s) = length m.vertices + s.0
  number_of (items.Pick c) = length m.vertices + c.0
  number_of (items.Opened r mode) = opening_number r mode
  number_of (items.Effect t) = length m.vertices + length m.vertices + length m.regions + t.0

  opening_in_range : (r : RegionId) (mode : Mode) → r.0 < length m.regions → opening_number r mode < entries_at_most m
  opening_in_range r mode lt =
      ⊎_elim
      (λ f. (let is : opening_number r mode ≡ length m.vertices + f.0.0.0 = f.1 in let less : f.0.0.0 < length m.vertices = f.2 in omega (arith, is, less)))
      (λ f. (let is : opening_number r mode ≡ length m.vertices + length m.vertices + r.0 = f.1 in omega (arith, is, lt)))
      (form_of r mode)

  in_range : (x : Item) → IsThere m x → number_of x < entries_at_most m
  in_range (items.Exit s) h = let lt : s.0 < length m.vertices = h in omega arith
  in_range (items.Enter s) h = let lt : s.0 < length m.vertices = h.0 in omega arith
  in_range (items.Opened r mode) h = opening_in_range r mode h
  in_range (items.Effect t) h = omega arith
  in_range (items.Pick c) h = let lt : c.0 < length m.vertices = h.0 in omega arith

  -- an opening and another item have different numbers
  apart_by : (x : Item) (r : RegionId) (mode : Mode) (n : ℕ) → IsNoOpening m x → IsThere m x → r.0 < length m.regions → IsFormOf m r mode n
      → number_of x ≡ n → ⊥
  apart_by (items.Exit s) r mode n is h lt (inl f) e = let less : s.0 < length m.vertices = h in let at : n ≡ length m.vertices + f.0.0.0 = f.1 in omega (arith, e, at)
  apart_by (items.Exit s) r mode n is h lt (inr f) e =
      let less : s.0 < length m.vertices = h in let at : n ≡ length m.vertices + length m.vertices + r.0 = f.1 in omega (arith, e, at)
  apart_by (items.Enter s) r mode n is h lt (inl f) e =
      let at : n ≡ length m.vertices + f.0.0.0 = f.1 in no_history m s f.0.0 mode h.1 f.0.1 (same_vertex s f.0.0 (omega (arith, e, at)))
  apart_by (items.Enter s) r mode n is h lt (inr f) e =
      let less : s.0 < length m.vertices = h.0 in let at : n ≡ length m.vertices + length m.vertices + r.0 = f.1 in omega (arith, e, at)
  apart_by (items.Pick c) r mode n is h lt (inl f) e =
      let at : n ≡ length m.vertices + f.0.0.0 = f.1 in
      let same : c ≡ f.0.0 = same_vertex c f.0.0 (omega (arith, e, at)) in
      history_is_no_choice m f.0.0 mode f.0.1 (subst (λ v. HasKind m v kinds.Choice) same h.1)
  apart_by (items.Pick c) r mode n is h lt (inr f) e =
      let less : c.0 < length m.vertices = h.0 in let at : n ≡ length m.vertices + length m.vertices + r.0 = f.1 in omega (arith, e, at)
  apart_by (items.Effect t) r mode n is h lt (inl f) e =
      let less : f.0.0.0 < length m.vertices = f.2 in let at : n ≡ length m.vertices + f.0.0.0 = f.1 in omega (arith, e, at)
  apart_by (items.Effect t) r mode n is h lt (inr f) e = let at : n ≡ length m.vertices + length m.vertices + r.0 = f.1 in omega (arith, e, at)
  apart_by (items.Opened q b) r mode n is h lt f e = is

  opening_apart : (x : Item) (r : RegionId) (mode : Mode) → IsNoOpening m x → IsThere m x → r.0 < length m.regions
      → number_of x ≡ opening_number r mode → ⊥
  opening_apart x r mode is h lt e = apart_by x r mode (opening_number r mode) is h lt (form_of r mode) e

  -- two openings with one number are one, or clash
  same_by : (r q : RegionId) (a b : Mode) (n : ℕ) → IsFormOf m r a n → IsFormOf m q b n
      → (items.Opened r a ≡ items.Opened q b) ⊎ IsClash m (items.Opened r a) (items.Opened q b)
  same_by r q a b n (inl f) (inl g) =
      let at : n ≡ length m.vertices + f.0.0.0 = f.1 in
      let too : n ≡ length m.vertices + g.0.0.0 = g.1 in
      let same : f.0.0 ≡ g.0.0 = same_vertex f.0.0 g.0.0 (omega (arith, at, too)) in
      let modes = history_modes m g.0.0 a b (subst (λ v. IsHistoryFor m v a) same f.0.1) g.0.1 in
      let homes = same_region_place r q
      (one_owner m (State g.0.0) (Region r) (Region q) (subst (λ v. owner_of m (State v) ≡ Some (Region r)) same f.0.2) g.0.2) in
      inl (let one : items.Opened r a ≡ items.Opened q b = cc in one)
  same_by r q a b n (inl f) (inr g) =
      let less : f.0.0.0 < length m.vertices = f.2 in
      let at : n ≡ length m.vertices + f.0.0.0 = f.1 in
      let too : n ≡ length m.vertices + length m.vertices + q.0 = g.1 in
      absurd (omega (arith, at, too))
  same_by r q a b n (inr f) (inl g) =
      let less : g.0.0.0 < length m.vertices = g.2 in
      let at : n ≡ length m.vertices + length m.vertices + r.0 = f.1 in
      let too : n ≡ length m.vertices + g.0.0.0 = g.1 in
      absurd (omega (arith, at, too))
  same_by r q a b n (inr f) (inr g) =
      let at : n ≡ length m.vertices + length m.vertices + r.0 = f.1 in
      let too : n ≡ length m.vertices + length m.vertices + q.0 = g.1 in
      inr (same_region r q (omega (arith, at, too)), f.0, g.0)

  same_item : (x y : Item) → IsThere m x → IsThere m y → number_of x ≡ number_of y → (x ≡ y) ⊎ IsClash m x y
  same_item (items.Exit s) (items.Exit q) h k e = inl (ap items.Exit (same_vertex s q (omega (arith, e))))
  same_item (items.Exit s) (items.Enter q) h k e =
      absurd (let lt : s.0 < length m.vertices = h in let less : q.0 < length m.vertices = k.0 in omega (arith, e))
  same_item (items.Exit s) (items.Effect u) h k e = absurd (let lt : s.0 < length m.vertices = h in omega (arith, e))
  same_item (items.Exit s) (items.Pick d) h k e =
      absurd (let lt : s.0 < length m.vertices = h in let less : d.0 < length m.vertices = k.0 in omega (arith, e))
  same_item (items.Exit s) (items.Opened q b) h k e = absurd (opening_apart (items.Exit s) q b tt h k e)
  same_item (items.Enter s) (items.Exit q) h k e =
      absurd (let lt : s.0 < length m.vertices = h.0 in let less : q.0 < length m.vertices = k in omega (arith, e))
  same_item (items.Enter s) (items.Enter q) h k e = inl (ap items.Enter (same_vertex s q (omega (arith, e))))
  same_item (items.Enter s) (items.Effect u) h k e = absurd (let lt : s.0 < length m.vertices = h.0 in omega (arith, e))
  same_item (items.Enter s) (items.Pick d) h k e = absurd (no_choice m s d h.1 k.1 (same_vertex s d (omega (arith, e))))
  same_item (items.Enter s) (items.Opened q b) h k e = absurd (opening_apart (items.Enter s) q b tt h k e)
  same_item (items.Effect t) (items.Exit q) h k e = absurd (let less : q.0 < length m.vertices = k in omega (arith, e))
  same_item (items.Effect t) (items.Enter q) h k e = absurd (let less : q.0 < length m.vertices = k.0 in omega (arith, e))
  same_item (items.Effect t) (items.Effect u) h k e = inl (ap items.Effect (same_transition t u (omega (arith, e))))
  same_item (items.Effect t) (items.Pick d) h k e = absurd (let less : d.0 < length m.vertices = k.0 in omega (arith, e))
  same_item (items.Effect t) (items.Opened q b) h k e = absurd (opening_apart (items.Effect t) q b tt h k e)
  same_item (items.Pick c) (items.Exit q) h k e =
      absurd (let lt : c.0 < length m.vertices = h.0 in let less : q.0 < length m.vertices = k in omega (arith, e))
  same_item (items.Pick c) (items.Enter q) h k e = absurd (no_choice m q c k.1 h.1 (same_vertex q c (omega (arith, e))))
  same_item (items.Pick c) (items.Effect u) h k e = absurd (let lt : c.0 < length m.vertices = h.0 in omega (arith, e))
  same_item (items.Pick c) (items.Pick d) h k e = inl (ap items.Pick (same_vertex c d (omega (arith, e))))
  same_item (items.Pick c) (items.Opened q b) h k e = absurd (opening_apart (items.Pick c) q b tt h k e)
  same_item (items.Opened r a) (items.Exit q) h k e = absurd (opening_apart (items.Exit q) r a tt k h (sym e))
  same_item (items.Opened r a) (items.Enter q) h k e = absurd (opening_apart (items.Enter q) r a tt k h (sym e))
  same_item (items.Opened r a) (items.Effect u) h k e = absurd (opening_apart (items.Effect u) r a tt k h (sym e))
  same_item (items.Opened r a) (items.Pick d) h k e = absurd (opening_apart (items.Pick d) r a tt k h (sym e))
  same_item (items.Opened r a) (items.Opened q b) h k e =
      same_by r q a b (opening_number q b) (subst (λ n. IsFormOf m r a n) e (form_of r a)) (form_of q b)

  -- the numbers of the items that have run
  abbrev numbers_of : List (Item × How) → List ℕ
  numbers_of ran = map (λ x. number_of x.0) ran

  numbered : (ran : List (Item × How)) (n : ℕ) → Contains (numbers_of ran) n → (x : Item × How) × Contains ran x × (number_of x.0 ≡ n)
  numbered [] n h = absurd (nothing_in_nil n h)
  numbered (x ∷ ran) n h =
      ⊎_elim
      (λ first. (x, Contains-append_left (x ∷ []) ran x (in_one x), sym (is_one (number_of x.0) n first)))
      (λ rest. (
      let at = numbered ran n rest in
      (at.0, Contains-append_right (x ∷ []) ran at.0 at.1, at.2)
      ))
      (Contains-append_cases (number_of x.0 ∷ []) (numbers_of ran) n h)

  -- what is called is there
  pub called_there : (rules : KeepsModelRules m) (head : Head) (now : Configuration) (ran : List (Item × How)) → HasGone m head now ran
      → (x : Item) → IsCalledOver m (course_by head now ran) x → IsThere m x
  called_there rules head now ran gone x h = plain x h
    where
      g : GoesByRoutes m (course_by head now ran)
      g = gone_by_routes rules shape head now ran gone

      named : (y : Item) → IsCalledOver m (course_by head now ran) y → IsItemIn m y
      named y called = names_there shape rules (course_by head now ran) g y called

      plain : (y : Item) → IsCalledOver m (course_by head now ran) y → IsThere m y
      plain (items.Exit s) called = named (items.Exit s) called
      plain (items.Effect t) called = named (items.Effect t) called
      plain (items.Enter s) called = (
        named (items.Enter s) called,
        ⊎_elim
            (λ over. entered_is_state shape rules over.0 (g.routes over.0 over.1.0) s over.1.1)
            (λ back. inl (g.restored back.0 s back.1))
            called,
      )
      plain (items.Opened r mode) called = named (items.Opened r mode) called
      plain (items.Pick c) called = (named (items.Pick c) called, called.1.1.1)

  module _ (rules : KeepsModelRules m) (head : Head) (now : Configuration) (begins : BeginsWell m head now) where
    ran_there : (ran : List (Item × How)) → HasGone m head now ran → (x : Item × How) → Contains ran x → IsThere m x.0
    ran_there ran gone x inside =
        called_there rules head now ran gone x.0 (ran_was_called shape rules head now ran gone x.0 (x.1, inside))

    -- no two called items clash
    opened_for : (ran : List (Item × How)) (r : RegionId) (mode : Mode) → (HasHistory m r mode → ⊥)
        → IsCalledOver m (course_by head now ran) (items.Opened r mode) → IsOpenedFor m (course_by head now ran) r mode
    opened_for ran r mode none called =
        ⊎_elim
        (λ opened. opened)
        (λ over. (let ends = over.1.1 in absurd (none (ends.0, ends.2, ends.3))))
        called

    clash_is_same : (ran : List (Item × How)) → HasGone m head now ran → (x y : Item) → IsClash m x y → IsCalledOver m (course_by head now ran) x
        → IsCalledOver m (course_by head now ran) y → x ≡ y
    clash_is_same ran gone (items.Opened r a) (items.Opened q mode) clash first second =
        let opened = opened_for ran r a clash.1 first in
        let too = opened_for ran q mode clash.2 second in
        let modes = one_mode shape rules head now begins ran gone q a mode (subst (λ z. IsOpenedFor m (course_by head now ran) z a) clash.0 opened) too in
        let regions = clash.0 in
        cc
    clash_is_same ran gone (items.Opened r a) (items.Exit s) clash first second = absurd clash
    clash_is_same ran gone (items.Opened r a) (items.Effect t) clash first second = absurd clash
    clash_is_same ran gone (items.Opened r a) (items.Enter s) clash first second = absurd clash
    clash_is_same ran gone (items.Opened r a) (items.Pick c) clash first second = absurd clash
    clash_is_same ran gone (items.Exit s) y clash first second = absurd clash
    clash_is_same ran gone (items.Effect t) y clash first second = absurd clash
    clash_is_same ran gone (items.Enter s) y clash first second = absurd clash
    clash_is_same ran gone (items.Pick c) y clash first second = absurd clash

    -- each item runs once
    is_new : (ran : List (Item × How)) (item : Item) → HasGone m head now ran
        → IsCalledOver m (course_by head now ran) item → (HasRun (course_by head now ran) item → ⊥)
        → list_any (eqb (number_of item)) (numbers_of ran) ≡ false
    is_new ran item gone called not = by (list_any (eqb (number_of item)) (numbers_of ran)) refl
      where
        by : (found : Bool) → list_any (eqb (number_of item)) (numbers_of ran) ≡ found
            → list_any (eqb (number_of item)) (numbers_of ran) ≡ false
        by true e =
            let at = numbered ran (number_of item) (Contains-from_any eqb-true (number_of item) (numbers_of ran) e) in
            let was = ran_was_called shape rules head now ran gone at.0.0 (at.0.1, at.1) in
            let one = same_item at.0.0 item (ran_there ran gone at.0 at.1) (called_there rules head now ran gone item called) at.2 in
            let same : at.0.0 ≡ item = ⊎_elim (λ is. is) (λ clash. clash_is_same ran gone at.0.0 item clash was called) one in
            absurd (not (at.0.1, subst (λ y. Contains ran (y, at.0.1)) same at.1))
        by false e = e

    distinct : (ran : List (Item × How)) → HasGone m head now ran → IsDistinct eqb (numbers_of ran)
    unfolding IsDistinct
    distinct _ (begun fires) = tt
    distinct _ (more {ran = ran} item how before ready truth way) =
        let course = course_by head now ran in
        let called = called_is rules shape course (gone_by_routes rules shape head now ran before) item ready.waiting.called in
        subst (IsDistinct eqb) (sym (map-append (λ (x : Item × How). number_of x.0) ran ((item, how) ∷ [])))
        (IsDistinct-push nat_eq_equiv (numbers_of ran) (number_of item) (distinct ran before)
        (is_new ran item before called ready.waiting.not_run))

-- so a step has at most so many items
pub step_length : (m : DraftMachine) (course : Course) → IsStep m course → length course.ran ≤ entries_at_most m
step_length m course h =
    let few = length-le_from_distinct_below (numbers_of h.shape course.ran) (entries_at_most m)
    (distinct h.shape h.rules course.head course.at_head h.begins course.ran h.gone)
    (λ q found. (
    let at = numbered h.shape course.ran q (Contains-from_any eqb-true q (numbers_of h.shape course.ran) found) in
    subst (λ n. n < entries_at_most m) at.2
    (in_range h.shape at.0.0 (ran_there h.shape h.rules course.head course.at_head h.begins course.ran h.gone at.0 at.1))
    )) in
    let same = length-map course.ran (λ (x : Item × How). number_of h.shape x.0) in
    subst (λ n. n ≤ entries_at_most m) same few
