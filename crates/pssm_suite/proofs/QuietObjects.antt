-- After which nothing more can happen: each object of a calm class has started, its step has run out, and no signal waits for it.
use Rattle.std.proofs.Common.{◌≡◌, ℕ, List, [], ◌∷◌, Contains, Some, refl, sym, subst, ◌∙◌, inr, ⊎_elim}
use Rattle.std.proofs.lemmas.List.Elements.{All-weaker}
use Rattle.pssm_model.specs.declared.elements.DraftMachine.{DraftMachine}
use Rattle.pssm_model.specs.declared.elements.Vertex.{Vertex}
use Rattle.pssm_model.specs.declared.steps.Route.{Route}
use Rattle.pssm_model.specs.declared.steps.Firing.{Firing}
use Rattle.pssm_model.specs.declared.steps.Event.TheVariants.{Signal}
use Rattle.pssm_model.specs.Forest.{vertex_at}
use Rattle.pssm_model.specs.Routes.{IsEnabled}
use Rattle.pssm_model.specs.FiringSets.{IsFiring}
use Rattle.pssm_model.specs.Items.{HasRunOut}
use Rattle.pssm_model.specs.Order.{course_by}
use Rattle.pssm_model.proofs.ElementLaws.{nothing_in_nil, some_and}
use Rattle.pssm_semantics.specs.declared.entry.ObjectId.{ObjectId}
use Rattle.pssm_semantics.specs.declared.entry.Entry.{Entry}
use Rattle.pssm_semantics.specs.declared.entry.Entry.TheVariants.{Start, Take}
use Rattle.pssm_semantics.specs.declared.entry.Rule.{Rule}
use Rattle.pssm_semantics.specs.declared.entry.Rule.TheVariants.{A1, A2, A3, A4, A5, A6, A7, A8, A9, A10, A11, A12}
use Rattle.pssm_semantics.specs.declared.stimulus.Stimulus.{Stimulus}
use Rattle.pssm_semantics.specs.declared.setting.Class.{Class}
use Rattle.pssm_semantics.specs.declared.setting.Setting.{Setting}
use Rattle.pssm_semantics.specs.Settings.{class_of}
use Rattle.pssm_semantics.specs.Journal.{configuration_after}
use Rattle.pssm_semantics.specs.Values.{eight_of}
use Rattle.pssm_semantics.specs.Pool.{pool_of, told_by}
use Rattle.pssm_semantics.specs.Behaviours.{store_of, guards_under}
use Rattle.pssm_semantics.specs.Deferral.{IsDeferred}
use Rattle.pssm_semantics.specs.Known.{IsRouteOf, IsFiringOf}
use Rattle.pssm_semantics.specs.Rules.{IsWhatFires, IsFirstWaiting, KeepsOwn, taken_by}
use Rattle.pssm_semantics.specs.Completion.{IsStepFinished}
use Rattle.pssm_semantics.specs.Proper.{IsWellFormed}
use Rattle.pssm_semantics.specs.Classes.{IsWellFormedClass}
use Rattle.pssm_semantics.specs.Admissible.{IsAdmissibleIn, IsQuiet}
use Rattle.pssm_semantics_laws.proofs.SettingClasses.{class_of_object}
use Rattle.pssm_object.specs.Standing.{HasNotStarted}
use Rattle.pssm_object.specs.Coming.{HasCourse}
use Rattle.pssm_object.proofs.Coming.{come_known, come_consistent}
use Rattle.pssm_object.proofs.Rules.{has_started}
use Rattle.pssm_object.proofs.UnderWay.{step_finished}
use Rattle.pssm_object.proofs.Ready.{runs_ready, out_or_ready}
use Rattle.pssm_system.proofs.Coming.{has_come}
use Rattle.pssm_system.proofs.Completing.{work-no_post, may-go_on}
use Rattle.pssm_system.proofs.Following.{holds}
use Rattle.pssm_system.proofs.Takes.{pool_of-waits}
use Rattle.pssm_suite.proofs.CalmMachines.{IsCalm}
use Rattle.pssm_suite.proofs.CalmEntries.{never_ends, none_queued}
use Rattle.pssm_suite.proofs.CalmFiring.{calm_firing}
use Rattle.pssm_suite.proofs.EnabledRoutes.{go_signal}

module _ {setting : Setting} (b : IsWellFormed setting) (o : ObjectId) (class : Class) (is : class_of setting o ≡ Some class)
    (first count : ℕ) (calm : IsCalm class.machine first count) (J : List Entry) (admissible : IsAdmissibleIn setting J) (quiet : IsQuiet setting J) where
  abbrev m : DraftMachine
  m = class.machine

  well_formed : IsWellFormedClass class
  well_formed = (class_of_object setting b o class is).0

  -- ---- it has started

  start_keeps : HasNotStarted m J o → (rule : Rule) → KeepsOwn class (told_by J) (taken_by (told_by J) (Start o)) rule J (Start o)
  start_keeps none A1 = tt
  start_keeps none A2 = never_ends m first count calm J o
  start_keeps none A3 = none.posts
  start_keeps none A4 = tt
  start_keeps none A5 = tt
  start_keeps none A6 = tt
  start_keeps none A7 = tt
  start_keeps none A8 = tt
  start_keeps none A9 = tt
  start_keeps none A10 = tt
  start_keeps none A11 = tt
  start_keeps none A12 = refl

  pub course : HasCourse m J o
  course =
      ⊎_elim
      (λ (none : HasNotStarted m J o). absurd (quiet (Start o) (λ post. post) (λ rule. holds setting J (Start o) class is tt tt rule (start_keeps none rule))))
      (λ (c : HasCourse m J o). c)
      (has_come b o class is J admissible)

  -- ---- its step has run out

  pub run_out : HasRunOut m (course_by course.head (configuration_after m course.before o) course.ran)
  run_out =
      ⊎_elim
      (λ out. out)
      (λ ready.
      let e = runs_ready class well_formed course.under_way (never_ends m first count calm J o) ready.0 ready.1 in
      absurd (quiet e.0 (work-no_post e.0 e.1.goes_on.works) (may-go_on b o class is J e.0 e.1.goes_on)))
      (out_or_ready class well_formed course.under_way)

  pub finished : IsStepFinished m J o
  finished = step_finished course.under_way run_out

  -- ---- no signal waits

  module _ (go : (number : ℕ) (x : Stimulus) → told_by J number ≡ Some x → x.signal ≡ go_signal) where
    module _ (number : ℕ) (x : Stimulus) (rest : List (ℕ × Stimulus)) (waits : pool_of J o ≡ (number, x) ∷ rest) where
      told : told_by J number ≡ Some x
      told = (pool_of-waits J o [] rest number x waits).told

      fires : (routes : List Route) × IsFiring m (configuration_after m J o) (guards_under class (store_of class (told_by J) J o) (eight_of x.args)) (Signal go_signal) routes
      fires =
          calm_firing m first count calm (configuration_after m J o) (come_consistent well_formed (inr course))
          (guards_under class (store_of class (told_by J) J o) (eight_of x.args)) (come_known {m = m} {J = J} {o = o} (inr course))

      abbrev firing : Firing
      firing = record { routes = fires.0 }

      of_machine : IsFiringOf m firing
      of_machine =
          All-weaker
          (IsEnabled m (configuration_after m J o) (guards_under class (store_of class (told_by J) J o) (eight_of x.args)) (Signal go_signal))
          (IsRouteOf m)
          (λ p e. e.route_of_states.0.in_range)
          fires.0 fires.1.0.sound.enabled

      not_deferred : IsDeferred class (told_by J) J o x → ⊥
      not_deferred (s, active, defers, rest_of) =
          let v = some_and (λ (y : Vertex). Contains y.defers x.signal) (vertex_at m s) defers in
          nothing_in_nil x.signal (subst (λ ds. Contains ds x.signal) (calm.vertices s v.0 v.1).defers v.2)

      first_waiting : IsFirstWaiting class J o number
      first_waiting = ([], rest, x, waits, tt, not_deferred)

      fires_so : (y : Stimulus) → told_by J number ≡ Some y → IsWhatFires class (told_by J) J o (eight_of y.args) (Signal y.signal) firing
      fires_so y is_told =
          let same : x ≡ y = (let both : Some x ≡ Some y = sym told ∙ is_told in cc) in
          subst (λ (z : Stimulus). IsWhatFires class (told_by J) J o (eight_of z.args) (Signal z.signal) firing) same
          (subst
          (λ g. IsFiring m (configuration_after m J o) (guards_under class (store_of class (told_by J) J o) (eight_of x.args)) (Signal g) fires.0)
          (sym (go number x told)) fires.1)

      take_keeps : (rule : Rule) → KeepsOwn class (told_by J) (told_by J number) rule J (Take o number firing)
      take_keeps A1 = tt
      take_keeps A2 = never_ends m first count calm J o
      take_keeps A3 = has_started course.under_way
      take_keeps A4 = finished
      take_keeps A5 = none_queued m first count calm J o
      take_keeps A6 = tt
      take_keeps A7 = fires_so
      take_keeps A8 = tt
      take_keeps A9 = tt
      take_keeps A10 = tt
      take_keeps A11 = tt
      take_keeps A12 = refl

      none_first : ⊥
      none_first =
          quiet (Take o number firing) (λ post. post)
          (λ rule. holds setting J (Take o number firing) class is of_machine first_waiting rule (take_keeps rule))

    by_pool : (waiting : List (ℕ × Stimulus)) → pool_of J o ≡ waiting → pool_of J o ≡ []
    by_pool [] e = e
    by_pool ((number, x) ∷ rest) e = absurd (none_first number x rest e)

    pub none_waits : pool_of J o ≡ []
    none_waits = by_pool (pool_of J o) refl
