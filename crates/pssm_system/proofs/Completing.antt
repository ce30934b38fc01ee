-- A journal can be continued to a complete run: the objects whose step is open finish it one after the other.
use Rattle.std.proofs.Common.{◌≡◌, ◌≢◌, ◌⊎◌, ◌≤◌, ◌<◌, ◌++◌, ◌==◌, ℕ, zero, suc, List, [], ◌∷◌, length, Bool, true, false, Option, Some, None, Contains, AllPairs, if◌then◌else◌, refl, sym, ap, subst, ◌∙◌, inl, inr, ⊎_elim, arith, append-nil, append_assoc, length-append}
use Rattle.std.specs.Option.{option_map_or}
use Rattle.std.proofs.lemmas.Bool.{false≢true}
use Rattle.std.proofs.lemmas.Bool.Decides.{eqb_tells}
use Rattle.pssm_model.specs.declared.ids.TransId.{TransId}
use Rattle.pssm_model.specs.declared.ids.VertexId.{VertexId}
use Rattle.pssm_model.specs.declared.elements.DraftMachine.{DraftMachine}
use Rattle.pssm_model.specs.declared.steps.How.{How}
use Rattle.pssm_model.specs.declared.steps.Item.{Item}
use Rattle.pssm_model.specs.Items.{HasRunOut}
use Rattle.pssm_model.specs.Order.{entries_at_most}
use Rattle.pssm_semantics.specs.declared.entry.ObjectId.{ObjectId}
use Rattle.pssm_semantics.specs.declared.entry.Entry.{Entry}
use Rattle.pssm_semantics.specs.declared.entry.Entry.TheVariants.{Post, Start, Take, Done, Exit, Effect, Enter, Opened, Pick, DoStep}
use Rattle.pssm_semantics.specs.declared.setting.Class.{Class}
use Rattle.pssm_semantics.specs.declared.setting.Setting.{Setting}
use Rattle.pssm_semantics.specs.Settings.{class_of}
use Rattle.pssm_semantics.specs.Journal.{Heads, IsPost, EntersAt, ExitsAt, object_of, configuration_after}
use Rattle.pssm_semantics.specs.Steps.{StepAt, IsLastStep, item_of, item_by, course_of, head_of}
use Rattle.pssm_semantics.specs.Completion.{EffectsAt, IsStepFinished}
use Rattle.pssm_semantics_laws.proofs.Ended.{SparesEnd, HasEnded-stays}
use Rattle.pssm_semantics_laws.proofs.LastStep.{IsLastStep-was}
use Rattle.pssm_semantics_laws.proofs.Courses.{ran_same}
use Rattle.pssm_semantics_laws.proofs.Objects.{same_object}
use Rattle.pssm_semantics_laws.proofs.Stores.{head_own}
use Rattle.std.proofs.Common.{get_or}
use Rattle.std.proofs.lemmas.Bool.{cases_lt}
use Rattle.std.proofs.lemmas.List.Elements.{Contains-get_or}
use Rattle.std.proofs.lemmas.List.Kept.{AllPairs-cons}
use Rattle.std.proofs.lemmas.List.Sums.{sum_by-cons}
use Rattle.pssm_model.proofs.ElementLaws.{nothing_in_nil}
use Rattle.pssm_model.proofs.RouteLaws.{none_in_order}
use Rattle.pssm_semantics.specs.declared.entry.Rule.TheVariants.{A12}
use Rattle.pssm_semantics.specs.Pool.{told_by}
use Rattle.pssm_semantics.specs.Rules.{KeepsOwn}
use Rattle.pssm_semantics.specs.Admissible.{MayFollow, IsAdmissibleIn, IsCompleteRun}
use Rattle.pssm_semantics.specs.Laws.{CompletesWithin, HasOpenStep, needs_at_most, CompletesInTime}
use Rattle.pssm_semantics.specs.Proper.{IsWellFormed}
use Rattle.pssm_semantics_laws.proofs.Appending.{admissible_push}
use Rattle.pssm_semantics_laws.proofs.SettingClasses.{class_of_object}
use Rattle.pssm_semantics_laws.proofs.Members.{first_in, later_in, in_cases}
use Rattle.pssm_semantics_laws.proofs.Outcomes.{known_outs}
use Rattle.pssm_object.specs.Laws.{IsWork, GoesOn, GoOn, Finishes}
use Rattle.pssm_object.proofs.Advancing.{known_object}
use Rattle.pssm_object.proofs.Completing.{step_known, finishes}
use Rattle.pssm_system.proofs.Coming.{class_exists, has_come}
use Rattle.pssm_system.proofs.Following.{IsNoTake, object_there, one_class, holds}
use Rattle.pssm_system.proofs.Judged.{no_pool, taken_none, known_by}

-- an entry of another object neither ends an object nor enters or exits anything of it
effects-own : (e : Entry) (o : ObjectId) (t : TransId) → EffectsAt e o t → object_of e ≡ o
effects-own (Effect q t outs) o u h = h.0
effects-own (Post q g args) o u h = absurd h
effects-own (Start q) o u h = absurd h
effects-own (Take q n firing) o u h = absurd h
effects-own (Done q v firing) o u h = absurd h
effects-own (Exit q v outs) o u h = absurd h
effects-own (Enter q v outs) o u h = absurd h
effects-own (Opened q r mode how) o u h = absurd h
effects-own (Pick q v route) o u h = absurd h
effects-own (DoStep q v k outs) o u h = absurd h

enters-own : (e : Entry) (o : ObjectId) (s : VertexId) → EntersAt e o s → object_of e ≡ o
enters-own (Enter q v outs) o s h = h.0
enters-own (Post q g args) o s h = absurd h
enters-own (Start q) o s h = absurd h
enters-own (Take q n firing) o s h = absurd h
enters-own (Done q v firing) o s h = absurd h
enters-own (Exit q v outs) o s h = absurd h
enters-own (Effect q t outs) o s h = absurd h
enters-own (Opened q r mode how) o s h = absurd h
enters-own (Pick q v route) o s h = absurd h
enters-own (DoStep q v k outs) o s h = absurd h

exits-own : (e : Entry) (o : ObjectId) (s : VertexId) → ExitsAt e o s → object_of e ≡ o
exits-own (Exit q v outs) o s h = h.0
exits-own (Post q g args) o s h = absurd h
exits-own (Start q) o s h = absurd h
exits-own (Take q n firing) o s h = absurd h
exits-own (Done q v firing) o s h = absurd h
exits-own (Enter q v outs) o s h = absurd h
exits-own (Effect q t outs) o s h = absurd h
exits-own (Opened q r mode how) o s h = absurd h
exits-own (Pick q v route) o s h = absurd h
exits-own (DoStep q v k outs) o s h = absurd h

spares : (m : DraftMachine) (e : Entry) (o : ObjectId) → (object_of e ≡ o → ⊥) → SparesEnd m e o
spares m e o other = record {
  effect = λ h. other (effects-own e o h.0 h.2);
  enters = λ s h. other (enters-own e o s h);
  exits = λ s h. other (exits-own e o s h);
}

-- it runs no item of the object
not-run : (test : Bool) (r : Option (Item × How)) → test ≡ false → (if test then r else None) ≡ None
not-run true r none = absurd (false≢true (sym none))
not-run false r none = refl

runs-none : (e : Entry) (o : ObjectId) → (object_of e ≡ o → ⊥) → item_by o e ≡ None
runs-none e o other =
    not-run ((object_of e).0 == o.0) (item_of e)
    (⊎_elim (λ same. absurd (other (same_object (object_of e) o same.0))) (λ apart. apart.0) (eqb_tells (object_of e).0 o.0))

-- A finished step stays so while another object goes on.
pub still-finished : (m : DraftMachine) (J : List Entry) (e : Entry) (o : ObjectId) → (object_of e ≡ o → ⊥) → IsStepFinished m J o
    → IsStepFinished m (J ++ e ∷ []) o
still-finished m J e o other h = elim h [
  | inl out ↦ inl (λ step last. run_out out step (IsLastStep-was J e o step last))
  | inr ended ↦ inr (HasEnded-stays m J e o (spares m e o other) ended)
]
  where
    run_out : ((step : StepAt) → IsLastStep J o step → HasRunOut m (course_of m o step)) → (step : StepAt)
        → (Heads e o × (step ≡ record { before = J; head = e; after = [] }))
        ⊎ ((Heads e o → ⊥) × ((rest : List Entry) × (step.after ≡ rest ++ e ∷ []) × IsLastStep J o (record step { after = rest })))
        → HasRunOut m (course_of m o step)
    run_out out step (inl head) = absurd (other (head_own o e head.0))
    run_out out step (inr (none, (rest, after, was))) =
        let before : StepAt = record { before = step.before; head = step.head; after = rest } in
        let same : step ≡ record { before = step.before; head = step.head; after = rest ++ e ∷ [] } =
        ap (λ xs. let t : StepAt = record { before = step.before; head = step.head; after = xs } in t) after in
        subst (λ t. HasRunOut m (course_of m o t)) (sym same)
        (subst (λ ran. HasRunOut m (record { head = head_of step.head; at_head = configuration_after m step.before o; ran = ran }))
        (sym (ran_same m o before e (runs-none e o other))) (out before was))

-- what runs an item is neither a take nor a post
work-free : (e : Entry) → IsWork e → IsNoTake e
work-free (Exit o v outs) h = tt
work-free (Effect o t outs) h = tt
work-free (Enter o v outs) h = tt
work-free (Opened o r mode how) h = tt
work-free (Post o g args) h = tt
work-free (Start o) h = tt
work-free (Take o n firing) h = absurd h
work-free (Done o v firing) h = tt
work-free (Pick o v route) h = tt
work-free (DoStep o v k outs) h = tt

pub work-no_post : (e : Entry) → IsWork e → IsPost e → ⊥
work-no_post (Post o g args) h post = h
work-no_post (Exit o v outs) h post = post
work-no_post (Effect o t outs) h post = post
work-no_post (Enter o v outs) h post = post
work-no_post (Opened o r mode how) h post = post
work-no_post (Start o) h post = post
work-no_post (Take o n firing) h post = post
work-no_post (Done o v firing) h post = post
work-no_post (Pick o v route) h post = post
work-no_post (DoStep o v k outs) h post = post

-- a journal goes on behind another
behind : (J rest : List Entry) (e : Entry) → (J ++ e ∷ []) ++ rest ≡ J ++ e ∷ rest
behind J rest e = append_assoc J (e ∷ []) rest

-- the objects differ
abbrev Differ : List ObjectId → Type 0
Differ [] = Unit {0}
Differ (o ∷ rest) = ((q : ObjectId) → Contains rest q → o ≢ q) × Differ rest

differ-pairs : (os : List ObjectId) → Differ os → AllPairs (λ a b. a ≢ b) os
differ-pairs [] h = none_in_order (λ a b. a ≢ b)
differ-pairs (o ∷ rest) h =
    AllPairs-cons (λ a b. a ≢ b) o rest (λ k d lt. h.0 (get_or rest k d) (Contains-get_or rest k d lt)) (differ-pairs rest h.1)

module _ {setting : Setting} (b : IsWellFormed setting) where
  module _ (o : ObjectId) (class : Class) (is : class_of setting o ≡ Some class) where
    -- an entry that goes on with its step may follow
    pub may-go_on : (J : List Entry) (e : Entry) → GoesOn class J o e → MayFollow setting J e
    may-go_on J e h rule =
        let fits = (class_of_object setting b o class is).1 in
        let here : class_of setting (object_of e) ≡ Some class = ap (λ q. class_of setting q) h.own ∙ is in
        let free = work-free e h.works in
        let outs = known_outs setting class fits o (object_there setting o class is) (told_by J) J e h.own (h.keeps A12) in
        holds setting J e class here (known_by setting class e (work-no_post e h.works) h.places outs) (no_pool class J e free) rule
        (subst (λ s. KeepsOwn class (told_by J) s rule J e) (sym (taken_none (told_by J) e free)) (h.keeps rule))

    admissible-through : (J more : List Entry) → GoOn class J o more → IsAdmissibleIn setting J → IsAdmissibleIn setting (J ++ more)
    admissible-through J [] h admissible = subst (IsAdmissibleIn setting) (sym (append-nil J)) admissible
    admissible-through J (e ∷ rest) h admissible =
        subst (IsAdmissibleIn setting) (behind J rest e)
        (admissible-through (J ++ e ∷ []) rest h.1 (admissible_push setting J e admissible (may-go_on J e h.0)))

  -- what another object's entries leave
  module _ (o : ObjectId) (class : Class) (q : ObjectId) (other : o ≢ q) where
    apart : (J : List Entry) (e : Entry) → GoesOn class J o e → object_of e ≡ q → ⊥
    apart J e h own = other (sym h.own ∙ own)

    finished-through : (m : DraftMachine) (J more : List Entry) → GoOn class J o more → IsStepFinished m J q → IsStepFinished m (J ++ more) q
    finished-through m J [] h finished = subst (λ js. IsStepFinished m js q) (sym (append-nil J)) finished
    finished-through m J (e ∷ rest) h finished =
        subst (λ js. IsStepFinished m js q) (behind J rest e)
        (finished-through m (J ++ e ∷ []) rest h.1 (still-finished m J e q (apart J e h.0) finished))

  -- an object of the setting, with its class
  abbrev HasClass : ObjectId → Type 0
  HasClass o = (class : Class) × (class_of setting o ≡ Some class)

  -- the steps of these objects are finished one after the other
  completes-these : (os : List ObjectId) (J : List Entry) → IsAdmissibleIn setting J → ((o : ObjectId) → Contains os o → HasClass o)
      → ((o : ObjectId) (class : Class) → class_of setting o ≡ Some class → (Contains os o → ⊥) → IsStepFinished class.machine J o)
      → CompletesWithin setting J (needs_at_most setting os)
  completes-these [] J admissible there finished = record {
    more = [];
    few = omega arith;
    run = subst (IsCompleteRun setting) (sym (append-nil J))
        (record { admissible = admissible; finished = λ o class is. finished o class is (nothing_in_nil o) });
  }
  completes-these (o ∷ rest) J admissible there finished =
      let here = there o (first_in o rest) in
      let ends : Finishes here.0 J o (entries_at_most here.0.machine) =
      finishes here.0 (class_of_object setting b o here.0 here.1).0 (has_come b o here.0 here.1 J admissible) in
      let later = completes-these rest (J ++ ends.more) (admissible-through o here.0 here.1 J ends.more ends.goes_on admissible)
      (λ q inside. there q (later_in o rest q inside))
      (λ q class is outside.
      ⊎_elim
      (λ same.
      let one : here.0 ≡ class = one_class setting q here.0 class (subst (λ p. class_of setting p ≡ Some here.0) same here.1) is in
      subst (λ (k : Class). IsStepFinished k.machine (J ++ ends.more) q) one
      (subst (IsStepFinished here.0.machine (J ++ ends.more)) same ends.finished))
      (λ other.
      finished-through o here.0 q other class.machine J ends.more ends.goes_on
      (finished q class is (λ inside. ⊎_elim (λ first. other (sym first)) outside (in_cases o rest q inside))))
      (known_object o q)) in
      record {
        more = ends.more ++ later.more;
        few =
            let mine : option_map_or (λ (c : Class). entries_at_most c.machine) (class_of setting o) 0 ≡ entries_at_most here.0.machine =
            ap (λ c. option_map_or (λ (k : Class). entries_at_most k.machine) c 0) here.1 in
            let sum = sum_by-cons (λ q. option_map_or (λ (c : Class). entries_at_most c.machine) (class_of setting q) 0) o rest in
            let long = length-append ends.more later.more in
            let few = ends.few in
            let fewer = later.few in
            omega (arith, mine, sum, long, few, fewer);
        run = subst (IsCompleteRun setting) (append_assoc J ends.more later.more) later.run;
      }

  -- the objects below a number whose step is open
  pub record AreOpenBelow (J : List Entry) (n : ℕ) (os : List ObjectId) : Type 0 where
    pub each : (o : ObjectId) → o.0 < n → HasOpenStep setting J o → Contains os o
    pub only : (o : ObjectId) → Contains os o → (o.0 < n) × HasOpenStep setting J o
    pub differ : Differ os

  -- whether the step of an object is finished is known
  known-step : (J : List Entry) → IsAdmissibleIn setting J → (o : ObjectId) (class : Class) → class_of setting o ≡ Some class
      → IsStepFinished class.machine J o ⊎ (IsStepFinished class.machine J o → ⊥)
  known-step J admissible o class is = step_known class (class_of_object setting b o class is).0 (has_come b o class is J admissible)

  open-below : (J : List Entry) → IsAdmissibleIn setting J → (n : ℕ) → n ≤ length setting.objects
      → (os : List ObjectId) × AreOpenBelow J n os
  open-below J admissible zero le = (
    [],
    record {
      each = λ o lt. absurd (omega arith);
      only = λ o inside. absurd (nothing_in_nil o inside);
      differ = tt;
    },
  )
  open-below J admissible (suc n) le =
      let o : ObjectId = record { 0 = n } in
      let before = open-below J admissible n (omega arith) in
      let here = class_exists setting b o (let lt : n < length setting.objects = omega arith in lt) in
      let own : (q : ObjectId) → q.0 ≡ n → q ≡ o = λ q same. ap (λ k. let p : ObjectId = record { 0 = k } in p) same in
      ⊎_elim
      (λ finished. (
        before.0,
        record {
          each = λ q lt unfinished.
              ⊎_elim
              (λ same.
              let one : here.0 ≡ unfinished.0 =
              one_class setting q here.0 unfinished.0 (subst (λ p. class_of setting p ≡ Some here.0) (sym (own q same)) here.1) unfinished.1 in
              let done : IsStepFinished here.0.machine J q = subst (IsStepFinished here.0.machine J) (sym (own q same)) finished in
              absurd (unfinished.2 (subst (λ (k : Class). IsStepFinished k.machine J q) one done)))
              (λ other. before.1.each q (let apart : q.0 ≡ n → ⊥ = other in ⊎_elim (λ (below : q.0 < n). below) (λ (past : n ≤ q.0). absurd (apart (omega arith))) (cases_lt q.0 n)) unfinished)
              (⊎_elim (λ same. inl same.1) (λ other. inr other.1) (eqb_tells q.0 n));
          only = λ q inside. let was = before.1.only q inside in ((let lt = was.0 in omega arith), was.1);
          differ = before.1.differ;
        },
      ))
      (λ unfinished. (
        o ∷ before.0,
        record {
          each = λ q lt open_step.
              ⊎_elim
              (λ (below : q.0 < n). later_in o before.0 q (before.1.each q below open_step))
              (λ (past : n ≤ q.0). subst (Contains (o ∷ before.0)) (sym (own q (omega arith))) (first_in o before.0))
              (cases_lt q.0 n);
          only = λ q inside.
              ⊎_elim
              (λ first.
              let has : HasOpenStep setting J o = (here.0, here.1, unfinished) in
              let at : q.0 ≡ n = ap (λ (p : ObjectId). p.0) first in
              (omega arith, subst (HasOpenStep setting J) (sym first) has))
              (λ later. let was = before.1.only q later in ((let lt = was.0 in omega arith), was.1))
              (in_cases o before.0 q inside);
          differ = (
            (λ q inside same. let was = before.1.only q inside in let at : n ≡ q.0 = ap (λ (p : ObjectId). p.0) same in let lt = was.0 in absurd (omega arith)),
            before.1.differ,
          );
        },
      ))
      (known-step J admissible o here.0 here.1)

  -- Every admissible journal can be completed in time.
  pub completes : (J : List Entry) → IsAdmissibleIn setting J → CompletesInTime setting J
  completes J admissible =
      let all = open-below J admissible (length setting.objects) (omega arith) in (
        all.0,
        record {
          each = λ o open_step. all.1.each o (object_there setting o open_step.0 open_step.1) open_step;
          only = λ o inside. (all.1.only o inside).1;
          once = differ-pairs all.0 all.1.differ;
        },
        completes-these all.0 J admissible (λ o inside. class_exists setting b o (all.1.only o inside).0)
            (λ o class is outside.
            ⊎_elim
            (λ finished. finished)
            (λ unfinished. absurd (outside (all.1.each o (object_there setting o class is) (class, is, unfinished))))
            (known-step J admissible o class is)),
      )
