-- A number for each item of a step, by which no two of its items are alike; so a step has few.
use Rattle.std.proofs.Common.{◌≡◌, ◌⊎◌, ◌≤◌, ◌<◌, ◌+◌, ◌-◌, ◌*◌, ℕ, Bool, true, false, List, [], ◌∷◌, ◌++◌, length, map, Contains, Some, refl, sym, ap, subst, ◌∙◌, inl, inr, ⊎_elim, arith, eqb}
use Rattle.std.specs.List.{list_any, IsDistinct}
use Rattle.std.specs.Option.{option_map_or}
use Rattle.std.proofs.lemmas.Bool.{eqb-true}
use Rattle.std.proofs.lemmas.Cmp.{nat_eq_equiv}
use Rattle.std.proofs.lemmas.List.{map-append, length-map}
use Rattle.std.proofs.lemmas.List.Elements.{Contains-append_cases, Contains-append_left, Contains-append_right, Contains-push}
use Rattle.std.proofs.lemmas.Map.Keys.{IsDistinct-push}
use Rattle.std.proofs.lemmas.Map.Steps.{length-le_from_distinct_below}
use Rattle.std.proofs.lemmas.Map.Views.{Contains-from_any}
use Rattle.pssm_model.specs.declared.ids.VertexId.{VertexId}
use Rattle.pssm_model.specs.declared.ids.RegionId.{RegionId}
use Rattle.pssm_model.specs.declared.ids.TransId.{TransId}
use Rattle.pssm_model.specs.declared.elements.DraftMachine.{DraftMachine}
use Rattle.pssm_model.specs.declared.elements.Transition.{Transition}
use Rattle.pssm_model.specs.declared.elements.Owner.{Owner}
use Rattle.pssm_model.specs.declared.elements.Owner.TheVariants.{Top, Region, State}
use Rattle.pssm_model.specs.declared.steps.Mode.TheVariants.{Plain}
use Rattle.pssm_model.specs.declared.steps.Route.{Route}
use Rattle.pssm_model.specs.declared.steps.How.{How}
use Rattle.pssm_model.specs.declared.steps.Item.{Item}
use Rattle.pssm_model.specs.declared.steps.Item.TheVariants as items
use Rattle.pssm_model.specs.Forest.{transition_at, owner_of}
use Rattle.pssm_model.specs.Legs.{Leaves}
use Rattle.pssm_model.specs.Configuration.{Configuration}
use Rattle.pssm_model.specs.Course.{Head, HasRun}
use Rattle.pssm_model.specs.Course.Head.{Starts, Fires}
use Rattle.pssm_model.specs.Routes.{IsStateRoute}
use Rattle.pssm_model.specs.Order.{HasGone, course_by}
use Rattle.pssm_model.specs.Order.HasGone.{begun, more}
use Rattle.pssm_model.proofs.ElementLaws.{mapped_some, nothing_in_nil, same_region}
use Rattle.pssm_model.proofs.RouteLaws.{in_one, is_one}
use Rattle.pssm_plan.specs.Steadiness.{BeginsWell}
use Rattle.pssm_suite.proofs.PlainMachines.{IsPlain}
use Rattle.pssm_suite.proofs.LoneRoutes.{IsLone, home_there}
use Rattle.pssm_suite.proofs.CalmMachines.{IsCalm}
use Rattle.pssm_suite.proofs.FiredSteps.{IsItemOf, IsFired, gone_fired, one_transition}
use Rattle.pssm_suite.proofs.StartSteps.{IsMoved, IsStarted, gone_started, one_first}

-- ---- items of which each has a number of its own, below a bound

module _ (m : DraftMachine) (head : Head) (now : Configuration) (P : Item → Type 0) (place : Item → ℕ) (bound : ℕ)
    (holds : (ran : List (Item × How)) → HasGone m head now ran → (x : Item × How) → Contains ran x → P x.0)
    (below : (item : Item) → P item → place item < bound)
    (one : (x y : Item) → P x → P y → place x ≡ place y → x ≡ y) where
  abbrev numbers_of : List (Item × How) → List ℕ
  numbers_of ran = map (λ x. place x.0) ran

  numbered : (ran : List (Item × How)) (n : ℕ) → Contains (numbers_of ran) n → (x : Item × How) × Contains ran x × (place x.0 ≡ n)
  numbered [] n h = absurd (nothing_in_nil n h)
  numbered (x ∷ ran) n h =
      ⊎_elim
      (λ first. (x, Contains-append_left (x ∷ []) ran x (in_one x), sym (is_one (place x.0) n first)))
      (λ rest. (
      let at = numbered ran n rest in
      (at.0, Contains-append_right (x ∷ []) ran at.0 at.1, at.2)
      ))
      (Contains-append_cases (place x.0 ∷ []) (numbers_of ran) n h)

  is_new : (ran : List (Item × How)) (item : Item) → HasGone m head now ran → P item → (HasRun (course_by head now ran) item → ⊥)
      → list_any (eqb (place item)) (numbers_of ran) ≡ false
  is_new ran item gone is not = by (list_any (eqb (place item)) (numbers_of ran)) refl
    where
      by : (found : Bool) → list_any (eqb (place item)) (numbers_of ran) ≡ found → list_any (eqb (place item)) (numbers_of ran) ≡ false
      by true e =
          let at = numbered ran (place item) (Contains-from_any eqb-true (place item) (numbers_of ran) e) in
          let same : at.0.0 ≡ item = one at.0.0 item (holds ran gone at.0 at.1) is at.2 in
          absurd (not (at.0.1, subst (λ y. Contains ran (y, at.0.1)) same at.1))
      by false e = e

  distinct : (ran : List (Item × How)) → HasGone m head now ran → IsDistinct eqb (numbers_of ran)
  unfolding IsDistinct
  distinct _ (begun fires) = tt
  distinct _ (more {ran = ran} item how before ready truth way) =
      let is : P item = holds (ran ++ (item, how) ∷ []) (more item how before ready truth way) (item, how) (Contains-push ran (item, how)) in
      subst (IsDistinct eqb) (sym (map-append (λ (x : Item × How). place x.0) ran ((item, how) ∷ [])))
      (IsDistinct-push nat_eq_equiv (numbers_of ran) (place item) (distinct ran before) (is_new ran item before is ready.waiting.not_run))

  pub few_items : (ran : List (Item × How)) → HasGone m head now ran → length ran ≤ bound
  few_items ran gone =
      let few = length-le_from_distinct_below (numbers_of ran) bound (distinct ran gone)
      (λ q found. (
      let at = numbered ran q (Contains-from_any eqb-true q (numbers_of ran) found) in
      subst (λ n. n < bound) at.2 (below at.0.0 (holds ran gone at.0 at.1))
      )) in
      let same = length-map ran (λ (x : Item × How). place x.0) in
      subst (λ n. n ≤ bound) same few

-- ---- numbers by homes and kinds

abbrev region_number : Owner → ℕ
region_number (Region r) = r.0
region_number Top = 0
region_number (State v) = 0

abbrev pub home_number : DraftMachine → VertexId → ℕ
home_number m v = option_map_or region_number (owner_of m (State v)) 0

abbrev pub home_of : DraftMachine → Item → ℕ
home_of m (items.Exit s) = home_number m s
home_of m (items.Effect t) = option_map_or (λ (x : Transition). home_number m x.source) (transition_at m t) 0
home_of m (items.Enter s) = home_number m s
home_of m (items.Opened r mode) = r.0
home_of m (items.Pick c) = 0

abbrev pub kind_of : Item → ℕ
kind_of (items.Exit s) = 0
kind_of (items.Effect t) = 1
kind_of (items.Enter s) = 2
kind_of (items.Opened r mode) = 0
kind_of (items.Pick c) = 0

kind_below : (item : Item) → kind_of item < 3
kind_below (items.Exit s) = omega arith
kind_below (items.Effect t) = omega arith
kind_below (items.Enter s) = omega arith
kind_below (items.Opened r mode) = omega arith
kind_below (items.Pick c) = omega arith

-- counted from the first region
abbrev pub place_from : ℕ → DraftMachine → Item → ℕ
place_from first m item = 3 * (home_of m item - first) + kind_of item

home_at : (m : DraftMachine) (v : VertexId) (r : RegionId) → owner_of m (State v) ≡ Some (Region r) → home_number m v ≡ r.0
home_at m v r e = ap (λ o. option_map_or region_number o 0) e

source_home_at : (m : DraftMachine) (t : TransId) (v : VertexId) (r : RegionId) → Leaves m t v → owner_of m (State v) ≡ Some (Region r)
    → home_of m (items.Effect t) ≡ r.0
source_home_at m t v r l e =
    let x = mapped_some (λ (y : Transition). y.source) (transition_at m t) v l in
    ap (λ o. option_map_or (λ (y : Transition). home_number m y.source) o 0) x.1 ∙ ap (λ w. home_number m w) x.2 ∙ home_at m v r e

-- the home of an item of a transition
pub item_home : (m : DraftMachine) (p : Route) (t : TransId) (lone : IsLone m p t) (item : Item) → IsItemOf lone.source t lone.target item
    → home_of m item ≡ lone.home.0
item_home m p t lone item (inl e) = ap (λ x. home_of m x) e ∙ home_at m lone.source lone.home lone.source_home
item_home m p t lone item (inr (inl e)) = ap (λ x. home_of m x) e ∙ source_home_at m t lone.source lone.home lone.leaves lone.source_home
item_home m p t lone item (inr (inr e)) = ap (λ x. home_of m x) e ∙ home_at m lone.target lone.home lone.target_home

-- items of one transition and of one kind are the same
one_item : (s : VertexId) (t : TransId) (w : VertexId) (x y : Item) → IsItemOf s t w x → IsItemOf s t w y → kind_of x ≡ kind_of y → x ≡ y
one_item s t w x y (inl e) (inl f) k = e ∙ sym f
one_item s t w x y (inl e) (inr (inl f)) k = absurd (let a = ap kind_of e in let b = ap kind_of f in omega (arith, a, b, k))
one_item s t w x y (inl e) (inr (inr f)) k = absurd (let a = ap kind_of e in let b = ap kind_of f in omega (arith, a, b, k))
one_item s t w x y (inr (inl e)) (inl f) k = absurd (let a = ap kind_of e in let b = ap kind_of f in omega (arith, a, b, k))
one_item s t w x y (inr (inl e)) (inr (inl f)) k = e ∙ sym f
one_item s t w x y (inr (inl e)) (inr (inr f)) k = absurd (let a = ap kind_of e in let b = ap kind_of f in omega (arith, a, b, k))
one_item s t w x y (inr (inr e)) (inl f) k = absurd (let a = ap kind_of e in let b = ap kind_of f in omega (arith, a, b, k))
one_item s t w x y (inr (inr e)) (inr (inl f)) k = absurd (let a = ap kind_of e in let b = ap kind_of f in omega (arith, a, b, k))
one_item s t w x y (inr (inr e)) (inr (inr f)) k = e ∙ sym f

-- ---- a step that fires routes

module _ (m : DraftMachine) (first count : ℕ) (calm : IsCalm m first count) (routes : List Route) (now : Configuration) (begins : BeginsWell m (Fires routes) now)
    (of_states : (route : Route) → Contains routes route → IsStateRoute m route) where
  pub fired_within : (x : Item) (f : IsFired m now routes x) → (first ≤ home_of m x) × (home_of m x < first + count)
  fired_within x f =
      let lone = f.there.lone in
      let at = calm.within f.there.at lone.source lone.home lone.leaves f.there.state lone.source_home in
      let is = item_home m f.route f.there.at lone x f.form in
      (omega (arith, at.0, is), omega (arith, at.1, is))

  fired_below : (x : Item) → IsFired m now routes x → place_from first m x < 3 * count
  fired_below x f = let at = fired_within x f in let k = kind_below x in omega (arith, at.0, at.1, k)

  -- fired items of one home and kind are the same
  pub fired_same : (x y : Item) → IsFired m now routes x → IsFired m now routes y → home_of m x ≡ home_of m y → kind_of x ≡ kind_of y → x ≡ y
  fired_same x y f g home kind =
      let a = item_home m f.route f.there.at f.there.lone x f.form in
      let b = item_home m g.route g.there.at g.there.lone y g.form in
      let same = one_transition m first count calm routes now begins of_states f.route g.route f.there g.there
      (same_region f.there.lone.home g.there.lone.home (sym a ∙ home ∙ b)) in
      let here : IsItemOf g.there.lone.source g.there.at g.there.lone.target x =
      subst (λ s. IsItemOf s g.there.at g.there.lone.target x) same.1
      (subst (λ t. IsItemOf f.there.lone.source t g.there.lone.target x) same.0
      (subst (λ w. IsItemOf f.there.lone.source f.there.at w x) same.2 f.form)) in
      one_item g.there.lone.source g.there.at g.there.lone.target x y here g.form kind

  fired_one : (x y : Item) → IsFired m now routes x → IsFired m now routes y → place_from first m x ≡ place_from first m y → x ≡ y
  fired_one x y f g e =
      let a = fired_within x f in
      let b = fired_within y g in
      let j = kind_below x in
      let k = kind_below y in
      fired_same x y f g (omega (arith, e, a.0, b.0, j, k)) (omega (arith, e, a.0, b.0, j, k))

  pub fired_few : (ran : List (Item × How)) → HasGone m (Fires routes) now ran → length ran ≤ 3 * count
  fired_few =
      few_items m (Fires routes) now (IsFired m now routes) (place_from first m) (3 * count)
      (λ ran gone x inside. (gone_fired m first count calm routes now begins of_states ran gone x inside).1)
      fired_below fired_one

-- ---- the first step

module _ (m : DraftMachine) (plain : IsPlain m) (now : Configuration) where
  moved_form : (x : Item) (f : IsMoved m x) → IsItemOf f.lone.source f.at f.lone.target x
  moved_form x f = inr f.form

  moved_home : (x : Item) (f : IsMoved m x) → home_of m x ≡ f.lone.home.0
  moved_home x f = item_home m f.route f.at f.lone x (moved_form x f)

  started_below : (x : Item) → IsStarted m x → place_from 0 m x < 3 * length m.regions
  started_below x (inl (r, there, same)) =
      let home : home_of m x ≡ r.0 = ap (λ y. home_of m y) same in let k = kind_below x in omega (arith, home, there, k)
  started_below x (inr f) =
      let home = moved_home x f in
      let there = home_there m plain f.lone.source f.lone.home f.lone.source_home in
      let k = kind_below x in
      omega (arith, home, there, k)

  -- a moved item is none of kind 0
  moved_kind : (x : Item) → IsMoved m x → kind_of x ≡ 0 → ⊥
  moved_kind x f zero_is = by f.form
    where
      by : (x ≡ items.Effect f.at) ⊎ (x ≡ items.Enter f.lone.target) → ⊥
      by (inl e) = let a = ap kind_of e in omega (arith, a, zero_is)
      by (inr e) = let a = ap kind_of e in omega (arith, a, zero_is)

  -- started items of one home and kind are the same
  pub started_same : (x y : Item) → IsStarted m x → IsStarted m y → home_of m x ≡ home_of m y → kind_of x ≡ kind_of y → x ≡ y
  started_same x y (inl (r, there, e)) (inl (q, here, f)) home kind =
      let a : home_of m x ≡ r.0 = ap (λ z. home_of m z) e in
      let b : home_of m y ≡ q.0 = ap (λ z. home_of m z) f in
      e ∙ ap (λ k. items.Opened k Plain) (same_region r q (sym a ∙ home ∙ b)) ∙ sym f
  started_same x y (inl (r, there, e)) (inr g) home kind = absurd (moved_kind y g (sym kind ∙ ap kind_of e))
  started_same x y (inr f) (inl (q, here, e)) home kind = absurd (moved_kind x f (kind ∙ ap kind_of e))
  started_same x y (inr f) (inr g) home kind =
      let same = one_first m plain x y f g (same_region f.lone.home g.lone.home (sym (moved_home x f) ∙ home ∙ moved_home y g)) in
      let here : (x ≡ items.Effect g.at) ⊎ (x ≡ items.Enter g.lone.target) =
      ⊎_elim (λ e. inl (e ∙ ap items.Effect same.0)) (λ e. inr (e ∙ ap items.Enter same.1)) f.form in
      one_item g.lone.source g.at g.lone.target x y (inr here) (inr g.form) kind

  started_one : (x y : Item) → IsStarted m x → IsStarted m y → place_from 0 m x ≡ place_from 0 m y → x ≡ y
  started_one x y f g e =
      let j = kind_below x in
      let k = kind_below y in
      started_same x y f g (omega (arith, e, j, k)) (omega (arith, e, j, k))

  pub started_few : (ran : List (Item × How)) → HasGone m Starts now ran → length ran ≤ 3 * length m.regions
  started_few =
      few_items m Starts now (IsStarted m) (place_from 0 m) (3 * length m.regions)
      (λ ran gone x inside. (gone_started m plain now ran gone x inside).0)
      started_below started_one
