-- The finished steps of an object of a calm class have all their items, and leave a State active in each region in which transitions lead from States.
use Rattle.std.proofs.Common.{◌≡◌, ◌⊎◌, ◌≤◌, ◌<◌, ◌+◌, ◌*◌, ◌==◌, ◌++◌, ℕ, zero, suc, List, [], ◌∷◌, length, Contains, Some, refl, ap, subst, ◌∙◌, inl, inr, ⊎_elim, arith, length-append, eq-eqb}
use Rattle.std.specs.List.{AllByRecursion, sum_by}
use Rattle.std.proofs.lemmas.Grind.{flat_map-append}
use Rattle.pssm_model.specs.declared.ids.VertexId.{VertexId}
use Rattle.pssm_model.specs.declared.ids.RegionId.{RegionId}
use Rattle.pssm_model.specs.declared.ids.TransId.{TransId}
use Rattle.pssm_model.specs.declared.elements.DraftMachine.{DraftMachine}
use Rattle.pssm_model.specs.declared.elements.VertexKind.TheVariants as kinds
use Rattle.pssm_model.specs.declared.elements.Owner.TheVariants.{Region, State}
use Rattle.pssm_model.specs.declared.steps.Route.{Route}
use Rattle.pssm_model.specs.declared.steps.Firing.{Firing}
use Rattle.pssm_model.specs.declared.steps.How.{How}
use Rattle.pssm_model.specs.declared.steps.Item.{Item}
use Rattle.pssm_model.specs.declared.steps.Item.TheVariants as items
use Rattle.pssm_model.specs.declared.steps.Event.TheVariants.{Signal}
use Rattle.pssm_model.specs.Forest.{HasKind, owner_of}
use Rattle.pssm_model.specs.Legs.{Leaves}
use Rattle.pssm_model.specs.Configuration.{Configuration}
use Rattle.pssm_model.specs.Course.{Head}
use Rattle.pssm_model.specs.Course.Head.{Starts, Fires}
use Rattle.pssm_model.specs.Items.{HasRunOut}
use Rattle.pssm_model.specs.Routes.{Truth}
use Rattle.pssm_model.specs.FiringSets.{IsFiring}
use Rattle.pssm_model.specs.Order.{HasGone, course_by}
use Rattle.pssm_model.proofs.ElementLaws.{leaves_one, all_at}
use Rattle.pssm_model.proofs.OwnerChains.{one_owner}
use Rattle.pssm_plan.specs.Steadiness.{IsConsistent}
use Rattle.pssm_semantics.specs.declared.entry.ObjectId.{ObjectId}
use Rattle.pssm_semantics.specs.declared.entry.Entry.{Entry}
use Rattle.pssm_semantics.specs.declared.entry.Entry.TheVariants.{Post, Start, Take, Done, Exit, Effect, Enter, Opened, Pick, DoStep}
use Rattle.pssm_semantics.specs.declared.entry.Rule.TheVariants.{A3, A4, A6, A7}
use Rattle.pssm_semantics.specs.declared.stimulus.Stimulus.{Stimulus}
use Rattle.pssm_semantics.specs.declared.setting.Class.{Class}
use Rattle.pssm_semantics.specs.declared.setting.Setting.{Setting}
use Rattle.pssm_semantics.specs.Settings.{class_of}
use Rattle.pssm_semantics.specs.Journal.{IsPost, Splits, IsActive, Heads, object_of, configuration_after}
use Rattle.pssm_semantics.specs.Steps.{head_of}
use Rattle.pssm_semantics.specs.Values.{eight_of}
use Rattle.pssm_semantics.specs.Pool.{signals_of, signals_of_entry, told_by}
use Rattle.pssm_semantics.specs.Behaviours.{store_of, guards_under}
use Rattle.pssm_semantics.specs.Completion.{IsStepFinished}
use Rattle.pssm_semantics.specs.Proper.{IsWellFormed}
use Rattle.pssm_semantics.specs.Classes.{IsWellFormedClass}
use Rattle.pssm_semantics.specs.Admissible.{IsAdmissibleIn}
use Rattle.pssm_semantics.proofs.Appended.{AllByRecursion-front}
use Rattle.pssm_semantics_laws.proofs.SettingClasses.{class_of_object}
use Rattle.pssm_semantics_laws.proofs.Objects.{same_object}
use Rattle.pssm_object.specs.Standing.{HasNotStarted}
use Rattle.pssm_object.specs.Coming.{HasCourse}
use Rattle.pssm_object.proofs.Coming.{come_consistent}
use Rattle.pssm_object.proofs.Rules.{not_started, unstarted_finished}
use Rattle.pssm_object.proofs.UnderWay.{finished_step}
use Rattle.pssm_system.proofs.Coming.{has_come}
use Rattle.pssm_system.proofs.Takes.{pool_of-waits}
use Rattle.pssm_suite.proofs.PlainMachines.{enters_state}
use Rattle.pssm_suite.proofs.CalmMachines.{IsCalm}
use Rattle.pssm_suite.proofs.CalmEntries.{never_ends}
use Rattle.pssm_suite.proofs.FiredSteps.{FiresAt, routes_begun, fires_at}
use Rattle.pssm_suite.proofs.EnabledRoutes.{route_of, go_signal, is_enabled, fires_all}
use Rattle.pssm_suite.proofs.FullFired.{effect_ran, now_active, fired_many}
use Rattle.pssm_suite.proofs.FullStarts.{IsOpened, target_active, started_many}
use Rattle.pssm_suite.proofs.EntryWeights.{EndsExactly, steps_exactly, sum_of_none, own_entry, own_head, no_own_entry, no_own_head, no_later_head}
use Rattle.pssm_suite.proofs.StepSums.{yes_is, no_done, good_before, ran_of_start, ran_of_take, begins_take, few_of_start, few_of_take, own_after}

-- each signal told is `Go`
abbrev pub AreGo : List Entry → Type 0
AreGo J = AllByRecursion (λ (x : Stimulus). x.signal ≡ go_signal) (signals_of J)

pub go_before : (J before rest : List Entry) → J ≡ before ++ rest → AreGo J → AreGo before
go_before J before rest splits go =
    AllByRecursion-front (λ (x : Stimulus). x.signal ≡ go_signal) (signals_of before) (signals_of rest)
    (subst (AllByRecursion (λ (x : Stimulus). x.signal ≡ go_signal)) (flat_map-append signals_of_entry before rest) (subst AreGo splits go))

pub go_at : (J : List Entry) → AreGo J → (number : ℕ) (x : Stimulus) → told_by J number ≡ Some x → x.signal ≡ go_signal
go_at J go zero x told = absurd (cc)
go_at J go (suc k) x told = all_at (λ (y : Stimulus). y.signal ≡ go_signal) (signals_of J) k x go told

region_number_of : (r q : RegionId) → Region r ≡ Region q → r.0 ≡ q.0
region_number_of r q e = cc

one_start : (t u : TransId) (ts us : List TransId) → t ∷ ts ≡ u ∷ us → t ≡ u
one_start t u ts us e = cc

module _ {setting : Setting} (b : IsWellFormed setting) (o : ObjectId) (class : Class) (is : class_of setting o ≡ Some class)
    (first count : ℕ) (calm : IsCalm class.machine first count)
    (fit : first + count ≤ length class.machine.regions)
    (left : (s : VertexId) (r : RegionId) → HasKind class.machine s kinds.State → owner_of class.machine (State s) ≡ Some (Region r) → first ≤ r.0
    → r.0 < first + count → (t : TransId) × Leaves class.machine t s)
    (opens : (now : Configuration) (ran : List (Item × How)) (gone : HasGone class.machine Starts now ran) (out : HasRunOut class.machine (course_by Starts now ran))
    → (j : ℕ) → j < length class.machine.regions → IsOpened class.machine calm.plain now ran gone out (record { 0 = j })) where
  abbrev m : DraftMachine
  m = class.machine

  well_formed : IsWellFormedClass class
  well_formed = (class_of_object setting b o class is).0

  -- a State of the region that is active for the object
  abbrev HasActiveIn : List Entry → RegionId → Type 0
  HasActiveIn J r = (s : VertexId) × IsActive J o s × HasKind m s kinds.State × (owner_of m (State s) ≡ Some (Region r))

  -- one in each of the regions
  abbrev pub IsFilled : List Entry → Type 0
  IsFilled J = (j : ℕ) → j < count → HasActiveIn J (record { 0 = first + j })

  -- an admissible journal in which the object's steps are finished
  pub record IsDone (J : List Entry) : Type 0 where
    pub admissible : IsAdmissibleIn setting J
    pub go : AreGo J
    pub finished : IsStepFinished m J o

  module _ (J : List Entry) (done : IsDone J) (c : HasCourse m J o) where
    abbrev now : Configuration
    now = configuration_after m c.before o

    run_out : HasRunOut m (course_by c.head now c.ran)
    run_out = finished_step c.under_way (never_ends m first count calm J o) done.finished

    out_of : (head : Head) → c.head ≡ head → HasRunOut m (course_by head (configuration_after m c.before o) c.ran)
    out_of head e = subst (λ h. HasRunOut m (course_by h (configuration_after m c.before o) c.ran)) e run_out

    abbrev before : List Entry
    before = c.under_way.step.before

    before_good : IsAdmissibleIn setting c.under_way.step.before
    before_good = good_before b o class is first count calm J done.admissible c

    before_go : AreGo c.under_way.step.before
    before_go = go_before J c.under_way.step.before (c.under_way.step.head ∷ c.under_way.step.after) c.under_way.last.splits done.go

    splits_at : (e : Entry) → c.under_way.step.head ≡ e → Splits J c.under_way.step.before e c.under_way.step.after
    splits_at e same = c.under_way.last.splits ∙ ap (λ h. c.under_way.step.before ++ h ∷ c.under_way.step.after) same

    -- ---- after a start

    module _ (starts : head_of c.under_way.step.head ≡ Starts) where
      start_gone : HasGone m Starts (configuration_after m c.before o) c.ran
      start_gone = ran_of_start b o class is first count calm J done.admissible c starts

      start_out : HasRunOut m (course_by Starts (configuration_after m c.before o) c.ran)
      start_out = out_of Starts (c.under_way.head_is ∙ starts)

      pub start_full : length c.ran ≡ 3 * length m.regions
      start_full =
          let many = started_many m calm.plain (configuration_after m c.before o) c.ran start_gone start_out
          (opens (configuration_after m c.before o) c.ran start_gone start_out) in
          let few = few_of_start b o class is first count calm J done.admissible c starts in
          omega (arith, many, few)

      pub start_fills : IsFilled J
      start_fills j lt =
          let at = opens (configuration_after m c.before o) c.ran start_gone start_out (first + j) (omega (arith, fit, lt)) in
          let active = target_active m calm.plain (configuration_after m c.before o) c.ran start_gone start_out (record { 0 = first + j }) at in (
            at.lone.target,
            (c.under_way.along at.lone.target).1 active,
            enters_state m calm.plain at.at at.lone.target at.lone.enters,
            at.lone.target_home ∙ ap (λ r. Some (Region r)) at.home,
          )

    -- ---- after a take

    module _ (number : ℕ) (firing : Firing) (is_take : c.under_way.step.head ≡ Take o number firing) where
      take_splits : Splits J c.under_way.step.before (Take o number firing) c.under_way.step.after
      take_splits = splits_at (Take o number firing) is_take

      pub done_before : IsDone c.under_way.step.before
      done_before = record {
        admissible = before_good;
        go = before_go;
        finished = done.admissible c.under_way.step.before c.under_way.step.after (Take o number firing) take_splits A4 class is;
      }

      pub course_before : HasCourse m c.under_way.step.before o
      course_before =
          let start = done.admissible c.under_way.step.before c.under_way.step.after (Take o number firing) take_splits A3 class is in
          ⊎_elim
          (λ (none : HasNotStarted m c.under_way.step.before o). absurd (not_started c.under_way.step.before o none.posts start.0 start.1 start.2))
          (λ (earlier : HasCourse m c.under_way.step.before o). earlier)
          (has_come b o class is c.under_way.step.before before_good)

      -- what the take fires
      record IsFiredAt : Type 0 where
        pub truth : Truth
        pub fires : IsFiring m (configuration_after m c.under_way.step.before o) truth (Signal go_signal) firing.routes

      fires_there : IsFiredAt
      fires_there =
          let pool = done.admissible c.under_way.step.before c.under_way.step.after (Take o number firing) take_splits A6 class is in
          let waits = pool_of-waits c.under_way.step.before o pool.0 pool.1 number pool.2 pool.3 in
          let fires = done.admissible c.under_way.step.before c.under_way.step.after (Take o number firing) take_splits A7 class is pool.2 waits.told in
          let truth = guards_under class (store_of class (told_by c.under_way.step.before) c.under_way.step.before o) (eight_of pool.2.args) in
          record {
            truth = truth;
            fires = subst (λ g. IsFiring m (configuration_after m c.under_way.step.before o) truth (Signal g) firing.routes)
                (go_at c.under_way.step.before before_go number pool.2 waits.told) fires;
          }

      take_head : head_of c.under_way.step.head ≡ Fires firing.routes
      take_head = ap head_of is_take

      take_gone : HasGone m (Fires firing.routes) (configuration_after m c.before o) c.ran
      take_gone = ran_of_take b o class is first count calm J done.admissible c firing.routes take_head

      take_out : HasRunOut m (course_by (Fires firing.routes) (configuration_after m c.before o) c.ran)
      take_out = out_of (Fires firing.routes) (c.under_way.head_is ∙ take_head)

      module _ (filled : IsFilled c.under_way.step.before) where
        -- the route that fires in a region
        pub record FiresIn (j : ℕ) : Type 0 where
          pub route : Route
          pub fires : Contains firing.routes route
          pub there : FiresAt m (configuration_after m c.before o) route
          pub home : there.lone.home.0 ≡ first + j

        pub fires_in : (j : ℕ) → j < count → FiresIn j
        fires_in j lt =
            let at = filled j lt in
            let s = at.0 in
            let t = left s (record { 0 = first + j }) at.2 at.3 (omega arith) (omega (arith, lt)) in
            let there = configuration_after m c.under_way.step.before o in
            let fired = fires_there in
            let consistent : IsConsistent m (configuration_after m c.under_way.step.before o) = come_consistent well_formed (inr course_before) in
            let inside : Contains firing.routes (route_of t.0) =
            fires_all m first count calm there fired.truth consistent go_signal firing.routes fired.fires.0 (route_of t.0)
            (is_enabled m first count calm there fired.truth t.0 s t.1 at.2 at.1) in
            let f = fires_at m first count calm firing.routes (configuration_after m c.before o)
            (begins_take b o class is first count calm J done.admissible c firing.routes take_head)
            (routes_begun m (Fires firing.routes) (configuration_after m c.before o) c.ran take_gone) (route_of t.0) inside in
            let same : t.0 ≡ f.at = one_start t.0 f.at [] [] f.lone.starts in
            let source : f.lone.source ≡ s = leaves_one m f.at f.lone.source s f.lone.leaves (subst (λ u. Leaves m u s) same t.1) in
            let home = one_owner m (State s) (Region f.lone.home) (Region (record { 0 = first + j }))
            (subst (λ v. owner_of m (State v) ≡ Some (Region f.lone.home)) source f.lone.source_home) at.3 in
            record { route = route_of t.0; fires = inside; there = f; home = region_number_of f.lone.home (record { 0 = first + j }) home }

        pub take_full : length c.ran ≡ 3 * count
        take_full =
            let many = fired_many m first count calm firing.routes (configuration_after m c.before o)
            (begins_take b o class is first count calm J done.admissible c firing.routes take_head)
            (routes_begun m (Fires firing.routes) (configuration_after m c.before o) c.ran take_gone) c.ran take_gone take_out
            (λ j lt. (let f = fires_in j lt in (f.route, f.fires, f.there, f.home))) in
            let few = few_of_take b o class is first count calm J done.admissible c firing.routes take_head in
            omega (arith, many, few)

        pub take_fills : IsFilled J
        take_fills j lt =
            let f = fires_in j lt in
            let lone = f.there.lone in
            let active = now_active m first count calm firing.routes (configuration_after m c.before o)
            (begins_take b o class is first count calm J done.admissible c firing.routes take_head)
            (routes_begun m (Fires firing.routes) (configuration_after m c.before o) c.ran take_gone) c.ran take_gone take_out f.route f.fires f.there in (
              lone.target,
              (c.under_way.along lone.target).1 active,
              enters_state m calm.plain f.there.at lone.target lone.enters,
              lone.target_home ∙ ap (λ (k : ℕ). let r : RegionId = record { 0 = k } in Some (Region r)) f.home,
            )

  -- ---- so it is after every finished step

  module _ (J : List Entry) (done : IsDone J) (c : HasCourse m J o) where
    -- the step was begun by the start or by a take
    abbrev pub IsTaken : Type 0
    IsTaken = (number : ℕ) × (firing : Firing) × (c.under_way.step.head ≡ Take o number firing)

    pub begun_by : (c.under_way.step.head ≡ Start o) ⊎ IsTaken
    begun_by = by c.under_way.step.head c.under_way.last.heads refl
      where
        by : (head : Entry) → Heads head o → c.under_way.step.head ≡ head → (c.under_way.step.head ≡ Start o) ⊎ IsTaken
        by (Start q) heads e = inl (e ∙ ap (λ p. Start p) (same_object q o heads))
        by (Take q number firing) heads e = inr (number, firing, e ∙ ap (λ p. Take p number firing) (same_object q o heads))
        by (Done q v firing) heads e =
            absurd
            (no_done b o class is first count calm J done.admissible c.under_way.step.before c.under_way.step.after q v firing
            (c.under_way.last.splits ∙ ap (λ h. c.under_way.step.before ++ h ∷ c.under_way.step.after) e) (same_object q o heads))
        by (Post q g args) heads e = absurd (cc)
        by (Exit q v outs) heads e = absurd (cc)
        by (Effect q t outs) heads e = absurd (cc)
        by (Enter q v outs) heads e = absurd (cc)
        by (Opened q r mode how) heads e = absurd (cc)
        by (Pick q v route) heads e = absurd (cc)
        by (DoStep q v k outs) heads e = absurd (cc)

    shorter : (k : ℕ) → length J < suc k → length c.under_way.step.before < k
    shorter k lt =
        let long = length-append c.under_way.step.before (c.under_way.step.head ∷ c.under_way.step.after) in
        let same = ap (λ (xs : List Entry). length xs) c.under_way.last.splits in
        omega (arith, long, same, lt)

  filled_in : (k : ℕ) (J : List Entry) → length J < k → IsDone J → HasCourse m J o → IsFilled J
  filled_in zero J lt done c = absurd (omega (arith, lt))
  filled_in (suc k) J lt done c =
      ⊎_elim
      (λ starts. start_fills J done c (ap head_of starts))
      (λ take.
      take_fills J done c take.0 take.1 take.2
      (filled_in k c.under_way.step.before (shorter J done c k lt) (done_before J done c take.0 take.1 take.2) (course_before J done c take.0 take.1 take.2)))
      (begun_by J done c)

  pub filled : (J : List Entry) → IsDone J → HasCourse m J o → IsFilled J
  filled J done c = filled_in (suc (length J)) J (omega arith) done c

  -- the effect of a take in a region
  module _ (J : List Entry) (done : IsDone J) (c : HasCourse m J o) (number : ℕ) (firing : Firing) (is_take : c.under_way.step.head ≡ Take o number firing) where
    pub take_effect : (j : ℕ) → j < count
        → (t : TransId) × (s : VertexId) × Leaves m t s × HasKind m s kinds.State × (how : How) × Contains c.ran (items.Effect t, how)
    take_effect j lt =
        let earlier = filled c.under_way.step.before (done_before J done c number firing is_take) (course_before J done c number firing is_take) in
        let f = fires_in J done c number firing is_take earlier j lt in
        let gone = take_gone J done c number firing is_take in
        let ran = effect_ran m first count calm firing.routes (configuration_after m c.before o)
        (begins_take b o class is first count calm J done.admissible c firing.routes (take_head J done c number firing is_take))
        (routes_begun m (Fires firing.routes) (configuration_after m c.before o) c.ran gone) c.ran gone (take_out J done c number firing is_take)
        f.route f.fires f.there in
        (f.there.at, f.there.lone.source, f.there.lone.leaves, f.there.state, ran.0, ran.1)

  -- ---- and each finished step has all its entries

  module _ (J : List Entry) (done : IsDone J) (c : HasCourse m J o) where
    pub none_later : (first_weight later_weight : ℕ) → sum_by (own_head o first_weight later_weight) c.under_way.step.after ≡ 0
    none_later first_weight later_weight =
        sum_of_none (λ e. Heads e o → ⊥) (own_head o first_weight later_weight) (no_later_head o first_weight later_weight) c.under_way.step.after c.under_way.last.last

    -- the entries before the start are done with too
    pub done_at_start : c.under_way.step.head ≡ Start o → IsDone c.under_way.step.before
    done_at_start starts =
        let posts = done.admissible c.under_way.step.before c.under_way.step.after (Start o)
        (c.under_way.last.splits ∙ ap (λ h. c.under_way.step.before ++ h ∷ c.under_way.step.after) starts) A3 class is in
        record {
          admissible = good_before b o class is first count calm J done.admissible c;
          go = go_before J c.under_way.step.before (c.under_way.step.head ∷ c.under_way.step.after) c.under_way.last.splits done.go;
          finished = unstarted_finished c.under_way.step.before o posts m;
        }

    own_same : EndsExactly IsDone (own_entry o) (own_head o (1 + 3 * length m.regions) (1 + 3 * count)) J
    own_same =
        ⊎_elim
        (λ starts. record {
          before = c.under_way.step.before;
          head = c.under_way.step.head;
          after = c.under_way.step.after;
          splits = c.under_way.last.splits;
          good = done_at_start starts;
          same = (
              let own = own_after b o class is first count calm J done.admissible c in
              let full = start_full J done c (ap head_of starts) in
              let none = none_later (1 + 3 * length m.regions) (1 + 3 * count) in
              let one = ap (own_entry o) starts ∙ yes_is 1 (o.0 == o.0) (eq-eqb o.0 o.0 refl) in
              let all = ap (own_head o (1 + 3 * length m.regions) (1 + 3 * count)) starts ∙ yes_is (1 + 3 * length m.regions) (o.0 == o.0) (eq-eqb o.0 o.0 refl) in
              omega (arith, own, full, none, one, all)
              );
        })
        (λ take. record {
          before = c.under_way.step.before;
          head = c.under_way.step.head;
          after = c.under_way.step.after;
          splits = c.under_way.last.splits;
          good = done_before J done c take.0 take.1 take.2;
          same = (
              let own = own_after b o class is first count calm J done.admissible c in
              let full = take_full J done c take.0 take.1 take.2
              (filled c.under_way.step.before (done_before J done c take.0 take.1 take.2) (course_before J done c take.0 take.1 take.2)) in
              let none = none_later (1 + 3 * length m.regions) (1 + 3 * count) in
              let one = ap (own_entry o) take.2 ∙ yes_is 1 (o.0 == o.0) (eq-eqb o.0 o.0 refl) in
              let all = ap (own_head o (1 + 3 * length m.regions) (1 + 3 * count)) take.2 ∙ yes_is (1 + 3 * count) (o.0 == o.0) (eq-eqb o.0 o.0 refl) in
              omega (arith, own, full, none, one, all)
              );
        })
        (begun_by J done c)

  own_each : (J : List Entry) → IsDone J
      → ((sum_by (own_entry o) J ≡ 0) × (sum_by (own_head o (1 + 3 * length m.regions) (1 + 3 * count)) J ≡ 0))
      ⊎ EndsExactly IsDone (own_entry o) (own_head o (1 + 3 * length m.regions) (1 + 3 * count)) J
  own_each J done =
      ⊎_elim
      (λ (none : HasNotStarted m J o). inl (
        sum_of_none (λ f. (object_of f ≡ o) → IsPost f) (own_entry o) (no_own_entry o) J none.posts,
        sum_of_none (λ f. (object_of f ≡ o) → IsPost f) (own_head o (1 + 3 * length m.regions) (1 + 3 * count))
            (no_own_head o (1 + 3 * length m.regions) (1 + 3 * count)) J none.posts,
      ))
      (λ (c : HasCourse m J o). inr (own_same J done c))
      (has_come b o class is J done.admissible)

  pub own_exactly : (J : List Entry) → IsDone J → sum_by (own_entry o) J ≡ sum_by (own_head o (1 + 3 * length m.regions) (1 + 3 * count)) J
  own_exactly = steps_exactly IsDone (own_entry o) (own_head o (1 + 3 * length m.regions) (1 + 3 * count)) own_each
