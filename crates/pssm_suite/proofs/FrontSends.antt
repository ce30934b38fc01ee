-- `a` sends no more signals than it takes: each of its steps has at most one effect that sends.
use Rattle.std.proofs.Common.{◌≡◌, ◌⊎◌, ◌≤◌, ◌+◌, ◌==◌, ◌++◌, ℕ, zero, suc, List, [], ◌∷◌, Bool, true, false, if◌then◌else◌, Option, None, Contains, refl, sym, ap, subst, ◌∙◌, inl, inr, ⊎_elim, arith}
use Rattle.std.specs.List.{AllByRecursion, sum_by}
use Rattle.std.specs.Option.{option_map_or}
use Rattle.std.proofs.lemmas.List.Elements.{Contains-push}
use Rattle.std.proofs.lemmas.List.Sums.{sum_by-cons, sum_by_push}
use Rattle.pssm_model.specs.declared.elements.DraftMachine.{DraftMachine}
use Rattle.pssm_model.specs.declared.steps.Route.{Route}
use Rattle.pssm_model.specs.declared.steps.How.{How}
use Rattle.pssm_model.specs.declared.steps.Item.{Item}
use Rattle.pssm_model.specs.declared.steps.Item.TheVariants as items
use Rattle.pssm_model.specs.Configuration.{Configuration}
use Rattle.pssm_model.specs.Course.Head.{Starts, Fires}
use Rattle.pssm_model.specs.Routes.{IsStateRoute}
use Rattle.pssm_model.specs.Order.{HasGone}
use Rattle.pssm_model.specs.Order.HasGone.{begun, more}
use Rattle.pssm_plan.specs.Steadiness.{BeginsWell}
use Rattle.pssm_semantics.specs.declared.entry.Entry.{Entry}
use Rattle.pssm_semantics.specs.declared.entry.Entry.TheVariants.{Post, Start, Take, Done, Exit, Effect, Enter, Opened, Pick, DoStep}
use Rattle.pssm_semantics.specs.Journal.{IsPost, Heads, object_of, configuration_after}
use Rattle.pssm_semantics.specs.Steps.{head_of, item_of}
use Rattle.pssm_semantics.specs.Admissible.{IsAdmissibleIn}
use Rattle.pssm_semantics_laws.proofs.Members.{first_in, later_in}
use Rattle.pssm_semantics_laws.proofs.Objects.{same_object}
use Rattle.pssm_object.specs.Standing.{HasNotStarted}
use Rattle.pssm_object.specs.Coming.{HasCourse}
use Rattle.pssm_system.proofs.Coming.{has_come}
use Rattle.pssm_suite.specs.GeneratedSetting.{front_machine, front, generated_setting}
use Rattle.pssm_suite.proofs.PlainFront.{front_plain, initial_is}
use Rattle.pssm_suite.proofs.LoadedSetting.{generated_well_formed}
use Rattle.pssm_suite.proofs.CalmFront.{front_source, front_calm}
use Rattle.pssm_suite.proofs.FiredSteps.{IsFired, routes_begun, gone_fired}
use Rattle.pssm_suite.proofs.StartSteps.{IsStarted, gone_started}
use Rattle.pssm_suite.proofs.StepPlaces.{kind_of, fired_within, fired_same}
use Rattle.pssm_suite.proofs.EntryWeights.{EndsWithin, steps_below, WeighsAs, weight_of_items, sum_of_none, own_head, no_value}
use Rattle.pssm_suite.proofs.StepSums.{yes_is, no_done, good_before, ran_of_start, ran_of_take, begins_take}
use Rattle.pssm_suite.proofs.GeneratedObjects.{front_object, front_class}
use Rattle.pssm_suite.proofs.GeneratedOuts.{sends_at, item_sends, sends_of}
use Rattle.pssm_suite.proofs.GeneratedTold.{item_weight}

-- ---- sums of few

pub none_or_some : {X : Type 0} (v : X → ℕ) (xs : List X) → (sum_by v xs ≡ 0) ⊎ ((x : X) × Contains xs x × (1 ≤ v x))
none_or_some v [] = inl refl
none_or_some {X} v (x ∷ xs) = by (v x) refl (none_or_some v xs)
  where
    by : (k : ℕ) → v x ≡ k → (sum_by v xs ≡ 0) ⊎ ((y : X) × Contains xs y × (1 ≤ v y)) → (sum_by v (x ∷ xs) ≡ 0) ⊎ ((y : X) × Contains (x ∷ xs) y × (1 ≤ v y))
    by (suc k) e rest = inr (x, first_in x xs, omega (arith, e))
    by zero e (inl none) = inl (let a = sum_by-cons v x xs in omega (arith, a, e, none))
    by zero e (inr found) = inr (found.0, later_in x xs found.0 found.1, found.2)

pub sum_of_zeros : {X : Type 0} (v : X → ℕ) (xs : List X) → ((x : X) → Contains xs x → v x ≡ 0) → sum_by v xs ≡ 0
sum_of_zeros v [] none = refl
sum_of_zeros v (x ∷ xs) none =
    let a = sum_by-cons v x xs in
    let b = none x (first_in x xs) in
    let c = sum_of_zeros v xs (λ y inside. none y (later_in x xs y inside)) in
    omega (arith, a, b, c)

at_most_one : (k : ℕ) → sends_at k ≤ 1
at_most_one zero = omega arith
at_most_one (suc k) = omega arith

pub item_sends_one : (x : Item) → item_sends x ≤ 1
item_sends_one (items.Effect t) = at_most_one t.0
item_sends_one (items.Exit s) = omega arith
item_sends_one (items.Enter s) = omega arith
item_sends_one (items.Opened r mode) = omega arith
item_sends_one (items.Pick c) = omega arith

sends_is_effect : (x : Item) → 1 ≤ item_sends x → kind_of x ≡ 1
sends_is_effect (items.Effect t) le = refl
sends_is_effect (items.Exit s) le = absurd (omega (arith, le))
sends_is_effect (items.Enter s) le = absurd (omega (arith, le))
sends_is_effect (items.Opened r mode) le = absurd (omega (arith, le))
sends_is_effect (items.Pick c) le = absurd (omega (arith, le))

module _ (n : ℕ) (some : 1 ≤ n) (few : n ≤ 4000) (now : Configuration) where
  abbrev m : DraftMachine
  m = front_machine n

  -- the first step sends nothing
  started_sends : (x : Item) → IsStarted m x → item_sends x ≡ 0
  started_sends x (inl (r, there, e)) = ap item_sends e
  started_sends x (inr f) =
      ⊎_elim
      (λ effect.
      let at : f.at.0 ≡ 0 = sym (front_source n f.at.0 f.lone.source f.lone.leaves) ∙ initial_is n some few f.lone.source f.initial in
      ap item_sends effect ∙ ap sends_at at)
      (λ enter. ap item_sends enter)
      f.form

  pub start_sends : (ran : List (Item × How)) → HasGone m Starts now ran → sum_by sends_of ran ≡ 0
  start_sends ran gone = sum_of_zeros sends_of ran (λ x inside. started_sends x.0 (gone_started m (front_plain n some few) now ran gone x inside).0)

  -- a step that fires sends once at most
  module _ (routes : List Route) (begins : BeginsWell m (Fires routes) now) (of_states : (route : Route) → Contains routes route → IsStateRoute m route) where
    one_effect : (x y : Item) → IsFired m now routes x → IsFired m now routes y → kind_of x ≡ 1 → kind_of y ≡ 1 → x ≡ y
    one_effect x y f g a b =
        let calm = front_calm n some few in
        let p = fired_within m 0 1 calm routes now begins of_states x f in
        let q = fired_within m 0 1 calm routes now begins of_states y g in
        fired_same m 0 1 calm routes now begins of_states x y f g (omega (arith, p.1, q.1)) (a ∙ sym b)

    pub fired_sends : (ran : List (Item × How)) → HasGone m (Fires routes) now ran → sum_by sends_of ran ≤ 1
    fired_sends _ (begun fires) = omega arith
    fired_sends _ (more {ran = ran} item how before ready truth way) = by (item_sends item) refl (none_or_some sends_of ran) (fired_sends ran before)
      where
        by : (k : ℕ) → item_sends item ≡ k → (sum_by sends_of ran ≡ 0) ⊎ ((x : Item × How) × Contains ran x × (1 ≤ sends_of x)) → sum_by sends_of ran ≤ 1
            → sum_by sends_of (ran ++ (item, how) ∷ []) ≤ 1
        by k e (inl none) so_far =
            let a = sum_by_push sends_of ran (item, how) in
            let one = item_sends_one item in
            omega (arith, a, one, none)
        by zero e (inr found) so_far =
            let a = sum_by_push sends_of ran (item, how) in
            omega (arith, a, e, so_far)
        by (suc k) e (inr (x, inside, sends)) so_far =
            let all = gone_fired m 0 1 (front_calm n some few) routes now begins of_states in
            let gone = more item how before ready truth way in
            let first = (all ran before x inside).1 in
            let last = (all (ran ++ (item, how) ∷ []) gone (item, how) (Contains-push ran (item, how))).1 in
            let same : x.0 ≡ item = one_effect x.0 item first last (sends_is_effect x.0 sends) (sends_is_effect item (omega (arith, e))) in
            absurd (ready.waiting.not_run (x.1, subst (λ y. Contains ran (y, x.1)) same inside))

-- ---- over a journal

module _ (n : ℕ) (some : 1 ≤ n) (few : n ≤ 4000) where
  no_post_item : (e : Entry) → IsPost e → (let none : Option (Item × How) = None in item_of e ≡ none)
  no_post_item (Post q g args) post = refl
  no_post_item (Start q) post = absurd post
  no_post_item (Take q k firing) post = absurd post
  no_post_item (Done q v firing) post = absurd post
  no_post_item (Exit q v outs) post = absurd post
  no_post_item (Effect q t outs) post = absurd post
  no_post_item (Enter q v outs) post = absurd post
  no_post_item (Opened q r mode how) post = absurd post
  no_post_item (Pick q v route) post = absurd post
  no_post_item (DoStep q v k outs) post = absurd post

  no_item : (b : Bool) (r : Option (Item × How)) → (b ≡ true → r ≡ None) → option_map_or sends_of (if b then r else None) 0 ≡ 0
  no_item true r none = ap (λ x. option_map_or sends_of x 0) (none refl)
  no_item false r none = refl

  pub no_weight : (e : Entry) → ((object_of e ≡ front_object) → IsPost e) → item_weight e ≡ 0
  no_weight e h = no_item ((object_of e).0 == 0) (item_of e) (λ same. no_post_item e (h (same_object (object_of e) front_object same)))

  pub weighs : (J : List Entry) → AllByRecursion (WeighsAs front_object item_weight sends_of) J
  weighs [] = tt
  weighs (e ∷ J) = ((λ other. refl), weighs J)

  module _ (J : List Entry) (admissible : IsAdmissibleIn (generated_setting n) J) where
    abbrev Course : Type 0
    Course = HasCourse (front_machine n) J front_object

    step_sends : (c : Course) → item_weight c.under_way.step.head + sum_by item_weight c.under_way.step.after ≤ own_head front_object 0 1 c.under_way.step.head
    step_sends c = by c.under_way.step.head c.under_way.last.heads refl
      where
        after : sum_by item_weight c.under_way.step.after ≡ sum_by sends_of c.ran
        after =
            weight_of_items front_object item_weight sends_of c.under_way.step.after c.under_way.last.last (weighs c.under_way.step.after)
            ∙ ap (λ xs. sum_by sends_of xs) (sym c.under_way.ran_is)

        by : (head : Entry) → Heads head front_object → c.under_way.step.head ≡ head
            → item_weight head + sum_by item_weight c.under_way.step.after ≤ own_head front_object 0 1 head
        by (Start q) heads e =
            let gone = ran_of_start (generated_well_formed n some few) front_object (front n) (front_class n) 0 1 (front_calm n some few) J admissible c (ap head_of e) in
            let none = start_sends n some few (configuration_after (front_machine n) c.before front_object) c.ran gone in
            let zero_is = no_value sends_of (q.0 == 0) in
            let same = after in
            omega (arith, none, zero_is, same)
        by (Take q k firing) heads e =
            let at = configuration_after (front_machine n) c.before front_object in
            let gone = ran_of_take (generated_well_formed n some few) front_object (front n) (front_class n) 0 1 (front_calm n some few) J admissible c firing.routes (ap head_of e) in
            let well = begins_take (generated_well_formed n some few) front_object (front n) (front_class n) 0 1 (front_calm n some few) J admissible c firing.routes (ap head_of e) in
            let one = fired_sends n some few at firing.routes well (routes_begun (front_machine n) (Fires firing.routes) at c.ran gone) c.ran gone in
            let zero_is = no_value sends_of (q.0 == 0) in
            let most = yes_is 1 (q.0 == 0) heads in
            let same = after in
            omega (arith, one, zero_is, most, same)
        by (Done q v firing) heads e =
            absurd
            (no_done (generated_well_formed n some few) front_object (front n) (front_class n) 0 1 (front_calm n some few) J admissible
            c.under_way.step.before c.under_way.step.after q v firing
            (c.under_way.last.splits ∙ ap (λ h. c.under_way.step.before ++ h ∷ c.under_way.step.after) e) (same_object q front_object heads))
        by (Post q g args) heads e = absurd (cc)
        by (Exit q v outs) heads e = absurd (cc)
        by (Effect q t outs) heads e = absurd (cc)
        by (Enter q v outs) heads e = absurd (cc)
        by (Opened q r mode how) heads e = absurd (cc)
        by (Pick q v route) heads e = absurd (cc)
        by (DoStep q v k outs) heads e = absurd (cc)

    sends_each : (sum_by item_weight J ≡ 0) ⊎ EndsWithin (IsAdmissibleIn (generated_setting n)) item_weight (own_head front_object 0 1) J
    sends_each =
        ⊎_elim
        (λ (none : HasNotStarted (front_machine n) J front_object).
        inl (sum_of_none (λ f. (object_of f ≡ front_object) → IsPost f) item_weight no_weight J none.posts))
        (λ (c : Course). inr (record {
          before = c.under_way.step.before;
          head = c.under_way.step.head;
          after = c.under_way.step.after;
          splits = c.under_way.last.splits;
          good = good_before (generated_well_formed n some few) front_object (front n) (front_class n) 0 1 (front_calm n some few) J admissible c;
          few = step_sends c;
        }))
        (has_come (generated_well_formed n some few) front_object (front n) (front_class n) J admissible)

  pub sends_below : (J : List Entry) → IsAdmissibleIn (generated_setting n) J → sum_by item_weight J ≤ sum_by (own_head front_object 0 1) J
  sends_below = steps_below (IsAdmissibleIn (generated_setting n)) item_weight (own_head front_object 0 1) sends_each
