-- How many entries an object of a calm class has, by its starts and takes.
use Rattle.std.proofs.Common.{◌≡◌, ◌⊎◌, ◌≤◌, ◌+◌, ◌*◌, ◌==◌, ◌++◌, ℕ, List, ◌∷◌, length, Bool, true, cond, Some, refl, sym, ap, subst, ◌∙◌, inl, inr, ⊎_elim, arith}
use Rattle.std.specs.List.{AllByRecursion, sum_by}
use Rattle.pssm_model.specs.declared.ids.VertexId.{VertexId}
use Rattle.pssm_model.specs.declared.elements.DraftMachine.{DraftMachine}
use Rattle.pssm_model.specs.declared.steps.Firing.{Firing}
use Rattle.pssm_model.specs.declared.steps.Route.{Route}
use Rattle.pssm_model.specs.Course.Head.{Starts, Fires}
use Rattle.pssm_model.specs.Order.{HasGone}
use Rattle.pssm_plan.specs.Steadiness.{BeginsWell}
use Rattle.pssm_semantics.specs.declared.entry.ObjectId.{ObjectId}
use Rattle.pssm_semantics.specs.declared.entry.Entry.{Entry}
use Rattle.pssm_semantics.specs.declared.entry.Entry.TheVariants.{Post, Start, Take, Done, Exit, Effect, Enter, Opened, Pick, DoStep}
use Rattle.pssm_semantics.specs.declared.entry.Rule.TheVariants.{A5, A11}
use Rattle.pssm_semantics.specs.declared.setting.Class.{Class}
use Rattle.pssm_semantics.specs.declared.setting.Setting.{Setting}
use Rattle.pssm_semantics.specs.Settings.{class_of}
use Rattle.pssm_semantics.specs.Journal.{IsPost, Splits, Heads, object_of, configuration_after}
use Rattle.pssm_semantics.specs.Steps.{head_of}
use Rattle.pssm_semantics.specs.Rules.{Holds}
use Rattle.pssm_semantics.specs.Proper.{IsWellFormed}
use Rattle.pssm_semantics.specs.Admissible.{IsAdmissibleIn}
use Rattle.pssm_semantics.proofs.Appended.{AllByRecursion-back}
use Rattle.pssm_semantics_laws.proofs.Admissible.{IsAdmissible-front}
use Rattle.pssm_semantics_laws.proofs.Objects.{same_object}
use Rattle.pssm_object.specs.Standing.{IsUnderWay, HasNotStarted}
use Rattle.pssm_object.specs.Coming.{HasCourse}
use Rattle.pssm_system.proofs.Coming.{has_come}
use Rattle.pssm_suite.proofs.CalmMachines.{IsCalm}
use Rattle.pssm_suite.proofs.CalmEntries.{no_do_step, none_queued}
use Rattle.pssm_suite.proofs.FiredSteps.{routes_begun}
use Rattle.pssm_suite.proofs.StepPlaces.{fired_few, started_few}
use Rattle.pssm_suite.proofs.EntryWeights.{each_entry, EndsWithin, steps_below, WeighsAs, weight_of_items, sum_of_ones, sum_of_none, own_entry, own_head, no_own_entry, IsNoDoStep, own_entry_weighs}

-- what a test says that is true
pub yes_is : (k : ℕ) (b : Bool) → b ≡ true → cond b k 0 ≡ k
yes_is k b e = ap (λ t. cond t k 0) e

module _ {setting : Setting} (b : IsWellFormed setting) (o : ObjectId) (class : Class) (is : class_of setting o ≡ Some class)
    (first count : ℕ) (calm : IsCalm class.machine first count) where
  abbrev m : DraftMachine
  m = class.machine

  -- the class of an entry's object
  here : (e : Entry) → object_of e ≡ o → class_of setting (object_of e) ≡ Some class
  here e own = ap (λ q. class_of setting q) own ∙ is

  module _ (J : List Entry) (admissible : IsAdmissibleIn setting J) where
    -- each entry of the object is no do step, and none dispatches a completion
    no_do : (before after : List Entry) (e : Entry) → Splits J before e after → object_of e ≡ o → IsNoDoStep e
    no_do before after (DoStep q v k outs) splits own =
        no_do_step m first count calm (configuration_after m before q) v k (admissible before after (DoStep q v k outs) splits A11 class (here (DoStep q v k outs) own))
    no_do before after (Post q g args) splits own = tt
    no_do before after (Start q) splits own = tt
    no_do before after (Take q k firing) splits own = tt
    no_do before after (Done q v firing) splits own = tt
    no_do before after (Exit q v outs) splits own = tt
    no_do before after (Effect q t outs) splits own = tt
    no_do before after (Enter q v outs) splits own = tt
    no_do before after (Opened q r mode how) splits own = tt
    no_do before after (Pick q v route) splits own = tt

    pub no_done : (before after : List Entry) (q : ObjectId) (v : VertexId) (firing : Firing) → Splits J before (Done q v firing) after → q ≡ o → ⊥
    no_done before after q v firing splits own =
        let e : Entry = Done q v firing in
        let queued = admissible before after e splits A5 class (here e own) in
        none_queued m first count calm before q v queued.0 queued.1

    -- the last step, as it has come
    module _ (c : HasCourse m J o) where
      abbrev u : IsUnderWay m J o c.head (configuration_after m c.before o) c.ran
      u = c.under_way

      pub good_before : IsAdmissibleIn setting u.step.before
      good_before = IsAdmissible-front (Holds setting) u.step.before (u.step.head ∷ u.step.after) (subst (IsAdmissibleIn setting) u.last.splits admissible)

      -- it was begun by a start or by a take
      pub ran_of_start : head_of u.step.head ≡ Starts → HasGone m Starts (configuration_after m c.before o) c.ran
      ran_of_start e = subst (λ h. HasGone m h (configuration_after m c.before o) c.ran) (u.head_is ∙ e) u.gone

      pub ran_of_take : (routes : List Route) → head_of u.step.head ≡ Fires routes → HasGone m (Fires routes) (configuration_after m c.before o) c.ran
      ran_of_take routes e = subst (λ h. HasGone m h (configuration_after m c.before o) c.ran) (u.head_is ∙ e) u.gone

      pub begins_take : (routes : List Route) → head_of u.step.head ≡ Fires routes → BeginsWell m (Fires routes) (configuration_after m c.before o)
      begins_take routes e = subst (λ h. BeginsWell m h (configuration_after m c.before o)) (u.head_is ∙ e) u.begins

      -- what is said of each entry of the journal is said of the later ones of the step
      pub of_later : (P : Entry → Type 0) → AllByRecursion P J → AllByRecursion P u.step.after
      of_later P all = (AllByRecursion-back P u.step.before (u.step.head ∷ u.step.after) (subst (AllByRecursion P) u.last.splits all)).1

      -- the step's items
      pub few_of_start : head_of u.step.head ≡ Starts → length c.ran ≤ 3 * length m.regions
      few_of_start e = started_few m calm.plain (configuration_after m c.before o) c.ran (ran_of_start e)

      pub few_of_take : (routes : List Route) → head_of u.step.head ≡ Fires routes → length c.ran ≤ 3 * count
      few_of_take routes e =
          let now = configuration_after m c.before o in
          let gone = ran_of_take routes e in
          fired_few m first count calm routes now (begins_take routes e) (routes_begun m (Fires routes) now c.ran gone) c.ran gone

      own_few : own_entry o u.step.head + length c.ran ≤ own_head o (1 + 3 * length m.regions) (1 + 3 * count) u.step.head
      own_few = by u.step.head u.last.heads refl
        where
          by : (head : Entry) → Heads head o → u.step.head ≡ head
              → own_entry o head + length c.ran ≤ own_head o (1 + 3 * length m.regions) (1 + 3 * count) head
          by (Start q) heads e =
              let a = yes_is 1 (q.0 == o.0) heads in
              let z = yes_is (1 + 3 * length m.regions) (q.0 == o.0) heads in
              let few = few_of_start (ap head_of e) in
              omega (arith, a, z, few)
          by (Take q k firing) heads e =
              let a = yes_is 1 (q.0 == o.0) heads in
              let z = yes_is (1 + 3 * count) (q.0 == o.0) heads in
              let few = few_of_take firing.routes (ap head_of e) in
              omega (arith, a, z, few)
          by (Done q v firing) heads e =
              absurd (no_done u.step.before u.step.after q v firing (u.last.splits ∙ ap (λ h. u.step.before ++ h ∷ u.step.after) e) (same_object q o heads))
          by (Post q g args) heads e = absurd (cc)
          by (Exit q v outs) heads e = absurd (cc)
          by (Effect q t outs) heads e = absurd (cc)
          by (Enter q v outs) heads e = absurd (cc)
          by (Opened q r mode how) heads e = absurd (cc)
          by (Pick q v route) heads e = absurd (cc)
          by (DoStep q v k outs) heads e = absurd (cc)

      own_weighs : AllByRecursion (WeighsAs o (own_entry o) (λ x. 1)) u.step.after
      own_weighs = of_later (WeighsAs o (own_entry o) (λ x. 1)) (each_entry (WeighsAs o (own_entry o) (λ x. 1)) J weighs)
        where
          weighs : (before after : List Entry) (e : Entry) → Splits J before e after → WeighsAs o (own_entry o) (λ x. 1) e
          weighs before after e splits = own_entry_weighs o e (no_do before after e splits)

      pub own_after : sum_by (own_entry o) u.step.after ≡ length c.ran
      own_after =
          weight_of_items o (own_entry o) (λ x. 1) u.step.after u.last.last own_weighs
          ∙ ap (λ xs. sum_by (λ x. 1) xs) (sym u.ran_is)
          ∙ sum_of_ones c.ran

    own_each : (sum_by (own_entry o) J ≡ 0)
        ⊎ EndsWithin (IsAdmissibleIn setting) (own_entry o) (own_head o (1 + 3 * length m.regions) (1 + 3 * count)) J
    own_each =
        ⊎_elim
        (λ (none : HasNotStarted m J o). inl (sum_of_none (λ f. (object_of f ≡ o) → IsPost f) (own_entry o) (no_own_entry o) J none.posts))
        (λ (c : HasCourse m J o). inr (record {
          before = c.under_way.step.before;
          head = c.under_way.step.head;
          after = c.under_way.step.after;
          splits = c.under_way.last.splits;
          good = good_before c;
          few = (let few = own_few c in let same = own_after c in omega (arith, few, same));
        }))
        (has_come b o class is J admissible)

  -- the object's entries but its posts
  pub own_below : (J : List Entry) → IsAdmissibleIn setting J
      → sum_by (own_entry o) J ≤ sum_by (own_head o (1 + 3 * length m.regions) (1 + 3 * count)) J
  own_below = steps_below (IsAdmissibleIn setting) (own_entry o) (own_head o (1 + 3 * length m.regions) (1 + 3 * count)) own_each
