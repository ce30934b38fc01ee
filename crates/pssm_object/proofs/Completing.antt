-- An object's step can be run to its end, in no more entries than the machine allows for.
use Rattle.std.proofs.Common.{◌⊎◌, ◌≤◌, ◌+◌, ◌++◌, ℕ, zero, suc, List, [], ◌∷◌, length, sym, subst, inl, inr, ⊎_elim, arith, append-nil, append_assoc, length-append}
use Rattle.pssm_model.specs.declared.elements.DraftMachine.{DraftMachine}
use Rattle.pssm_model.specs.declared.steps.How.{How}
use Rattle.pssm_model.specs.declared.steps.Item.{Item}
use Rattle.pssm_model.specs.Configuration.{Configuration}
use Rattle.pssm_model.specs.Course.{Head}
use Rattle.pssm_model.specs.Order.{course_by, entries_at_most}
use Rattle.pssm_plan.proofs.StepLengths.{step_length}
use Rattle.pssm_semantics.specs.declared.entry.ObjectId.{ObjectId}
use Rattle.pssm_semantics.specs.declared.entry.Entry.{Entry}
use Rattle.pssm_semantics.specs.declared.setting.Class.{Class}
use Rattle.pssm_semantics.specs.Journal.{configuration_after}
use Rattle.pssm_semantics.specs.Completion.{HasEnded, IsStepFinished}
use Rattle.pssm_semantics.specs.Classes.{IsWellFormedClass}
use Rattle.pssm_object.specs.Standing.{IsUnderWay}
use Rattle.pssm_object.specs.Coming.{HasCome}
use Rattle.pssm_object.specs.Laws.{GoesOn, Finishes}
use Rattle.pssm_object.proofs.KnownEnds.{known_ended, known_active}
use Rattle.pssm_object.proofs.Rules.{unstarted_finished}
use Rattle.pssm_object.proofs.Coming.{come_known}
use Rattle.pssm_object.proofs.UnderWay.{step_finished, finished_step, runs_on}
use Rattle.pssm_object.proofs.Ready.{runs_ready, out_or_ready}

-- a step that can be finished in so many entries, after one more entry
finishes_after : (class : Class) (J : List Entry) (o : ObjectId) (e : Entry) (n : ℕ) → GoesOn class J o e → Finishes class (J ++ e ∷ []) o n
    → Finishes class J o (n + 1)
finishes_after class J o e n first h = record {
  more = e ∷ h.more;
  few = let few = h.few in omega arith;
  goes_on = (first, h.goes_on);
  finished = subst (λ js. IsStepFinished class.machine js o) (append_assoc J (e ∷ []) h.more) h.finished;
}

-- in no more entries than so many
finishes_in : (class : Class) (J : List Entry) (o : ObjectId) (n most : ℕ) → n ≤ most → Finishes class J o n → Finishes class J o most
finishes_in class J o n most le h = record { more = h.more; few = let few = h.few in omega arith; goes_on = h.goes_on; finished = h.finished }

finishes_now : (class : Class) (J : List Entry) (o : ObjectId) → IsStepFinished class.machine J o → Finishes class J o 0
finishes_now class J o finished = record {
  more = [];
  few = omega arith;
  goes_on = tt;
  finished = subst (λ js. IsStepFinished class.machine js o) (sym (append-nil J)) finished;
}

module _ (class : Class) (b : IsWellFormedClass class) where
  abbrev m : DraftMachine
  m = class.machine

  -- a step that is under way has no more items than the machine allows for
  no_longer : (J : List Entry) (o : ObjectId) (head : Head) (at_head : Configuration) (ran : List (Item × How)) → IsUnderWay m J o head at_head ran
      → length ran ≤ entries_at_most m
  no_longer J o head at_head ran u =
      step_length m (course_by head at_head ran) (record { shape = b.proper.machine.shape; rules = b.rules; gone = u.gone; begins = u.begins })

  -- what is ready runs until everything has run, or the object has ended
  finishes_step : (n : ℕ) (J : List Entry) (o : ObjectId) (head : Head) (at_head : Configuration) (ran : List (Item × How))
      → IsUnderWay m J o head at_head ran → HasEnded m J o ⊎ (HasEnded m J o → ⊥) → entries_at_most m ≤ length ran + n → Finishes class J o n
  finishes_step n J o head at_head ran u (inl ended) few = finishes_in class J o 0 n (omega arith) (finishes_now class J o (inr ended))
  finishes_step zero J o head at_head ran u (inr living) few =
      ⊎_elim (λ out. finishes_now class J o (step_finished u out))
      (λ ready.
      let e = runs_ready class b u living ready.0 ready.1 in
      let longer = no_longer (J ++ e.0 ∷ []) o head at_head (ran ++ (ready.0, e.1.how) ∷ [])
      (runs_on u e.0 ready.0 e.1.how e.1.goes_on.own e.1.no_head e.1.runs ready.1 e.1.truth e.1.way) in
      let len = length-append ran ((ready.0, e.1.how) ∷ []) in
      absurd (omega (arith, longer, len, few)))
      (out_or_ready class b u)
  finishes_step (suc n) J o head at_head ran u (inr living) few =
      ⊎_elim (λ out. finishes_in class J o 0 (suc n) (omega arith) (finishes_now class J o (step_finished u out)))
      (λ ready.
      let e = runs_ready class b u living ready.0 ready.1 in
      let len = length-append ran ((ready.0, e.1.how) ∷ []) in
      let next = runs_on u e.0 ready.0 e.1.how e.1.goes_on.own e.1.no_head e.1.runs ready.1 e.1.truth e.1.way in
      finishes_in class J o (n + 1) (suc n) (omega arith)
      (finishes_after class J o e.0 n e.1.goes_on
      (finishes_step n (J ++ e.0 ∷ []) o head at_head (ran ++ (ready.0, e.1.how) ∷ []) next
      (known_ended m (J ++ e.0 ∷ []) o (known_active next)) (omega (arith, len, few)))))
      (out_or_ready class b u)

  module _ {J : List Entry} {o : ObjectId} (come : HasCome m J o) where
    -- whether the object has ended is known
    end_known : HasEnded m J o ⊎ (HasEnded m J o → ⊥)
    end_known = known_ended m J o (come_known come)

    -- whether its step is finished is known
    pub step_known : IsStepFinished m J o ⊎ (IsStepFinished m J o → ⊥)
    step_known = by come
      where
        by : HasCome m J o → IsStepFinished m J o ⊎ (IsStepFinished m J o → ⊥)
        by (inl none) = inl (unstarted_finished J o none.posts m)
        by (inr c) =
            ⊎_elim
            (λ ended. inl (inr ended))
            (λ living.
            ⊎_elim
            (λ out. inl (step_finished c.under_way out))
            (λ ready. inr (λ finished.
            let out = finished_step c.under_way living finished in
            ready.1.waiting.not_run (out ready.0 ready.1.waiting.called)))
            (out_or_ready class b c.under_way))
            end_known

    -- and it can be finished, however far the object has come
    pub finishes : Finishes class J o (entries_at_most m)
    finishes = by come
      where
        by : HasCome m J o → Finishes class J o (entries_at_most m)
        by (inl none) = finishes_in class J o 0 (entries_at_most m) (omega arith) (finishes_now class J o (unstarted_finished J o none.posts m))
        by (inr c) =
            finishes_step (entries_at_most m) J o c.head (configuration_after m c.before o) c.ran c.under_way end_known (omega arith)
