-- An entry that keeps every rule after a journal is accepted where the object stands so.
use Rattle.std.proofs.Common.{◌≡◌, ℕ, List, Contains, IfSome, Option, Some, None, refl, sym, ap, subst, ◌∙◌, inr, ⊎_elim}
use Rattle.pssm_model.specs.declared.ids.VertexId.{VertexId}
use Rattle.pssm_model.specs.declared.ids.RegionId.{RegionId}
use Rattle.pssm_model.specs.declared.ids.TransId.{TransId}
use Rattle.pssm_model.specs.declared.elements.DraftMachine.{DraftMachine}
use Rattle.pssm_model.specs.declared.steps.Route.{Route}
use Rattle.pssm_model.specs.declared.steps.Firing.{Firing}
use Rattle.pssm_model.specs.declared.steps.Mode.{Mode}
use Rattle.pssm_model.specs.declared.steps.How.{How}
use Rattle.pssm_model.specs.declared.steps.How.TheVariants.{By}
use Rattle.pssm_model.specs.declared.steps.Item.{Item}
use Rattle.pssm_model.specs.declared.steps.Item.TheVariants as items
use Rattle.pssm_plan.specs.Agenda.{Agenda}
use Rattle.pssm_semantics.specs.declared.entry.Out.{Out}
use Rattle.pssm_semantics.specs.declared.entry.Entry.{Entry}
use Rattle.pssm_semantics.specs.declared.entry.Entry.TheVariants.{Post, Start, Take, Done, Exit, Effect, Enter, Opened, Pick, DoStep}
use Rattle.pssm_semantics.specs.declared.entry.Rule.TheVariants.{A2, A3, A4, A5, A7, A8, A9, A10, A11, A12}
use Rattle.pssm_semantics.specs.declared.setting.Class.{Class}
use Rattle.pssm_semantics.specs.Journal.{IsPost, IsStart, object_of}
use Rattle.pssm_semantics.specs.declared.setting.Outcome.{Outcome}
use Rattle.pssm_semantics.specs.Completion.{HasEnded, IsStepFinished}
use Rattle.pssm_semantics.specs.Rules.{IsCalledItem, IsClearedItem}
use Rattle.pssm_semantics.specs.Classes.{IsWellFormedClass}
use Rattle.pssm_pool.specs.declared.pools.Waiting.{Waiting}
use Rattle.pssm_object.specs.Standing.{Standing, StandsAfter}
use Rattle.pssm_object.specs.Following.{stimulus_of, KeepsRule, KeepsRules}
use Rattle.pssm_object.specs.inner.Situations.{IsAtRest}
use Rattle.pssm_object.specs.inner.Working.{act_for}
use Rattle.pssm_object.specs.inner.Judging.{FiresHere, JudgesItem, JudgesTake, JudgesDone, JudgesWork, JudgesWay, JudgesDoing, IsPastEnd, JudgesLiving, Judges}
use Rattle.pssm_object.proofs.Standings.{plan_or_none, only_posts, step_of}
use Rattle.pssm_object.proofs.UnderWay.{called_item_waits, cleared_item_is, finished_step}
use Rattle.pssm_object.proofs.Rules.{starts_once, not_started}
use Rattle.pssm_object.proofs.QueueHeads.{head_of_queue, end_of_queue}
use Rattle.pssm_object.proofs.Judged.{fires_before, completes_as, made_so, opens_as, picks_as, next_as, step_made}

module _ (class : Class) (b : IsWellFormedClass class) {J : List Entry} {x : Standing} (s : StandsAfter class J x) (signal : Option Waiting) where
  abbrev m : DraftMachine
  m = class.machine

  -- where the object has started there is a plan
  started_plan : (f : Entry) × Contains J f × IsStart f x.own → (p : Agenda) × (x.plan ≡ Some p)
  started_plan start =
      ⊎_elim (λ none. absurd (not_started J x.own (only_posts s none) start.0 start.1 start.2)) (λ some. some) (plan_or_none x.plan)

  -- an item that is called and cleared is ready
  ready_item : (y : Item) → (f : Entry) × Contains J f × IsStart f x.own → IsCalledItem m J x.own y → IsClearedItem m J x.own y → JudgesItem m x.plan y None
  ready_item y start called cleared =
      let there = started_plan start in
      let u = step_of s there.0 there.1 in
      (there.0, there.1, record { waiting = called_item_waits u y called; cleared = cleared_item_is u y cleared })

  rests : (HasEnded m J x.own → ⊥) → (f : Entry) × Contains J f × IsStart f x.own → IsStepFinished m J x.own → IsAtRest m x.plan
  rests living start finished =
      let there = started_plan start in
      (there.0, there.1, finished_step (step_of s there.0 there.1) living finished)

  -- the signal that is handed in fires what the take says
  fires_known : (known : Option Waiting) (number : ℕ) (firing : Firing) → KeepsRule class x known A7 J (Take x.own number firing)
      → IfSome known (FiresHere class x firing.routes)
  fires_known None number firing kept = tt
  fires_known (Some w) number firing kept = fires_before class b s signal w firing (kept (stimulus_of x.own w) refl)

  accepted_start : KeepsRules class x signal J (Start x.own) → x.plan ≡ None
  accepted_start kept = ⊎_elim (λ none. none) (λ some. absurd (starts_once (step_of s some.0 some.1) (kept A3))) (plan_or_none x.plan)

  accepted_exit : (v : VertexId) (outs : List Out) → KeepsRules class x signal J (Exit x.own v outs) → JudgesWork class x (items.Exit v) outs None
  accepted_exit v outs kept = (ready_item (items.Exit v) (kept A3) (kept A8) (kept A9), kept A12 ∙ made_so class b s signal (act_for class (items.Exit v)))

  accepted_effect : (t : TransId) (outs : List Out) → KeepsRules class x signal J (Effect x.own t outs) → JudgesWork class x (items.Effect t) outs None
  accepted_effect t outs kept =
      (ready_item (items.Effect t) (kept A3) (kept A8) (kept A9), kept A12 ∙ made_so class b s signal (act_for class (items.Effect t)))

  accepted_enter : (v : VertexId) (outs : List Out) → KeepsRules class x signal J (Enter x.own v outs) → JudgesWork class x (items.Enter v) outs None
  accepted_enter v outs kept =
      (ready_item (items.Enter v) (kept A3) (kept A8) (kept A9), kept A12 ∙ made_so class b s signal (act_for class (items.Enter v)))

  accepted_opened : (r : RegionId) (mode : Mode) (how : How) → KeepsRules class x signal J (Opened x.own r mode how)
      → JudgesWay class x (items.Opened r mode) how None
  accepted_opened r mode how kept =
      let ready = ready_item (items.Opened r mode) (kept A3) (kept A8) (kept A9) in (ready, (opens_as class b s signal r mode how).1 (kept A10))

  accepted_pick : (v : VertexId) (route : Route) → KeepsRules class x signal J (Pick x.own v route) → JudgesWay class x (items.Pick v) (By route) None
  accepted_pick v route kept =
      let ready = ready_item (items.Pick v) (kept A3) (kept A8) (kept A9) in (ready, (picks_as class b s signal v route).1 (kept A10))

  accepted_doing : (v : VertexId) (k : ℕ) (outs : List Out) → KeepsRules class x signal J (DoStep x.own v k outs) → JudgesDoing class x v k outs None
  accepted_doing v k outs kept =
      inr (
        started_plan (kept A3),
        ((next_as class b s signal v k).1 (kept A11), kept A12 ∙ sym (ap (λ (made : Outcome). made.outs) (step_made class b s signal v k outs))),
      )

  accepted_done : (HasEnded m J x.own → ⊥) → (v : VertexId) (firing : Firing) → KeepsRules class x signal J (Done x.own v firing)
      → JudgesDone class x v firing.routes None
  accepted_done living v firing kept = (
    rests living (kept A3) (kept A4),
    (head_of_queue m J x.own x.queue.states s.queue_is v).1 (kept A5),
    (completes_as class b s signal v firing).1 (kept A7),
  )

  accepted_take : (HasEnded m J x.own → ⊥) → (number : ℕ) (firing : Firing) → KeepsRules class x signal J (Take x.own number firing)
      → JudgesTake class x signal firing.routes None
  accepted_take living number firing kept = (
    rests living (kept A3) (kept A4),
    (end_of_queue m J x.own x.queue.states s.queue_is).1 (kept A5),
    fires_known signal number firing (kept A7),
  )

  -- an object that has not ended
  living : (e : Entry) → object_of e ≡ x.own → (IsPost e → ⊥) → KeepsRules class x signal J e → HasEnded m J x.own → ⊥
  living (Post q g args) own no_post kept ended = no_post tt
  living (Start q) own no_post kept ended = kept A2 (subst (HasEnded m J) (sym own) ended)
  living (Take q number firing) own no_post kept ended = kept A2 (subst (HasEnded m J) (sym own) ended)
  living (Done q v firing) own no_post kept ended = kept A2 (subst (HasEnded m J) (sym own) ended)
  living (Exit q v outs) own no_post kept ended = kept A2 (subst (HasEnded m J) (sym own) ended)
  living (Effect q t outs) own no_post kept ended = kept A2 (subst (HasEnded m J) (sym own) ended)
  living (Enter q v outs) own no_post kept ended = kept A2 (subst (HasEnded m J) (sym own) ended)
  living (Opened q r mode how) own no_post kept ended = kept A2 (subst (HasEnded m J) (sym own) ended)
  living (Pick q v route) own no_post kept ended = kept A2 (subst (HasEnded m J) (sym own) ended)
  living (DoStep q v k outs) own no_post kept ended = kept A2 (subst (HasEnded m J) (sym own) ended)

  open_still : (e : Entry) → object_of e ≡ x.own → KeepsRules class x signal J e → IsPastEnd x e → ⊥
  open_still (Post q g args) own kept past = past
  open_still (Start q) own kept past = living (Start q) own (λ post. post) kept (s.ended_is.0 past)
  open_still (Take q number firing) own kept past = living (Take q number firing) own (λ post. post) kept (s.ended_is.0 past)
  open_still (Done q v firing) own kept past = living (Done q v firing) own (λ post. post) kept (s.ended_is.0 past)
  open_still (Exit q v outs) own kept past = living (Exit q v outs) own (λ post. post) kept (s.ended_is.0 past)
  open_still (Effect q t outs) own kept past = living (Effect q t outs) own (λ post. post) kept (s.ended_is.0 past)
  open_still (Enter q v outs) own kept past = living (Enter q v outs) own (λ post. post) kept (s.ended_is.0 past)
  open_still (Opened q r mode how) own kept past = living (Opened q r mode how) own (λ post. post) kept (s.ended_is.0 past)
  open_still (Pick q v route) own kept past = living (Pick q v route) own (λ post. post) kept (s.ended_is.0 past)
  open_still (DoStep q v k outs) own kept past = living (DoStep q v k outs) own (λ post. post) kept (s.ended_is.0 past)

  accepted_living : (e : Entry) → object_of e ≡ x.own → KeepsRules class x signal J e → JudgesLiving class x signal e None
  accepted_living (Post q g args) own kept = refl
  accepted_living (Start q) own kept = accepted_start (subst (λ p. KeepsRules class x signal J (Start p)) own kept)
  accepted_living (Take q number firing) own kept =
      accepted_take (living (Take q number firing) own (λ post. post) kept) number firing
      (subst (λ p. KeepsRules class x signal J (Take p number firing)) own kept)
  accepted_living (Done q v firing) own kept =
      accepted_done (living (Done q v firing) own (λ post. post) kept) v firing (subst (λ p. KeepsRules class x signal J (Done p v firing)) own kept)
  accepted_living (Exit q v outs) own kept = accepted_exit v outs (subst (λ p. KeepsRules class x signal J (Exit p v outs)) own kept)
  accepted_living (Effect q t outs) own kept = accepted_effect t outs (subst (λ p. KeepsRules class x signal J (Effect p t outs)) own kept)
  accepted_living (Enter q v outs) own kept = accepted_enter v outs (subst (λ p. KeepsRules class x signal J (Enter p v outs)) own kept)
  accepted_living (Opened q r mode how) own kept =
      accepted_opened r mode how (subst (λ p. KeepsRules class x signal J (Opened p r mode how)) own kept)
  accepted_living (Pick q v route) own kept = accepted_pick v route (subst (λ p. KeepsRules class x signal J (Pick p v route)) own kept)
  accepted_living (DoStep q v k outs) own kept = accepted_doing v k outs (subst (λ p. KeepsRules class x signal J (DoStep p v k outs)) own kept)

  pub accepted : (e : Entry) → object_of e ≡ x.own → KeepsRules class x signal J e → Judges class x signal e None
  accepted e own kept = inr (open_still e own kept, accepted_living e own kept)
