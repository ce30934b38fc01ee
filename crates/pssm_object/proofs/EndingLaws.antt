-- When an object has ended: at its start it has not, and one more entry ends it exactly where the item that it runs does.
use Rattle.std.proofs.Common.{◌≡◌, ◌⊎◌, ◌↔◌, ◌++◌, List, [], ◌∷◌, Bool, false, IsTrue, Option, Some, None, refl, sym, ap, subst, ◌∙◌, inl, inr, ⊎_elim}
use Rattle.std.proofs.lemmas.List.Elements.{Contains-append_left, Contains-push, Contains-push_cases}
use Rattle.pssm_model.specs.declared.ids.VertexId.{VertexId}
use Rattle.pssm_model.specs.declared.ids.RegionId.{RegionId}
use Rattle.pssm_model.specs.declared.ids.TransId.{TransId}
use Rattle.pssm_model.specs.declared.elements.DraftMachine.{DraftMachine}
use Rattle.pssm_model.specs.declared.elements.Vertex.{Vertex}
use Rattle.pssm_model.specs.declared.elements.VertexKind.{VertexKind}
use Rattle.pssm_model.specs.declared.elements.VertexKind.TheVariants as kinds
use Rattle.pssm_model.specs.declared.elements.Owner.{Owner}
use Rattle.pssm_model.specs.declared.elements.Owner.TheVariants.{Top, Region, State}
use Rattle.pssm_model.specs.declared.elements.FaultPlace.TheVariants as places
use Rattle.pssm_model.specs.declared.steps.How.{How}
use Rattle.pssm_model.specs.declared.steps.How.TheVariants.{By, Restore, Nothing}
use Rattle.pssm_model.specs.declared.steps.Item.{Item}
use Rattle.pssm_model.specs.declared.steps.Item.TheVariants as items
use Rattle.pssm_model.specs.Forest.{vertex_at, owner_of}
use Rattle.pssm_model.specs.WellFormed.{KeepsModelRules}
use Rattle.pssm_model.specs.WellFormed.Breaks.{E01_top}
use Rattle.pssm_model.specs.Configuration.{Configuration, HasActiveFinal, AllTopsAreFinal}
use Rattle.pssm_model.specs.Changes.{Agree, entered, exited}
use Rattle.pssm_model.specs.Course.{Head}
use Rattle.pssm_model.specs.Items.{HasRunOut}
use Rattle.pssm_model.specs.Order.{course_by}
use Rattle.pssm_object.proofs.Agreeing.{Agree-symm}
use Rattle.pssm_model.proofs.ElementLaws.{mapped_some, kind_at, nothing_in_nil}
use Rattle.pssm_plan.specs.Steadiness.{changed_by_item}
use Rattle.pssm_model_laws.proofs.Known.{Known, known_as, known_both}
use Rattle.pssm_model_laws.proofs.KnownPlaces.{known_owner}
use Rattle.pssm_semantics.specs.declared.entry.ObjectId.{ObjectId}
use Rattle.pssm_semantics.specs.declared.entry.Entry.{Entry}
use Rattle.pssm_semantics.specs.declared.entry.Entry.TheVariants.{Post, Start, Take, Done, Exit, Effect, Enter, Opened, Pick, DoStep}
use Rattle.pssm_semantics.specs.Journal.{EntersAt, ExitsAt, IsActive, IsPost, object_of, configuration_after}
use Rattle.pssm_semantics.specs.Steps.{item_of, item_by}
use Rattle.pssm_semantics.specs.Completion.{EffectsAt, HasTerminated, HasEnded, IsStepFinished}
use Rattle.pssm_semantics_laws.proofs.Active.{IsActive-nil, IsActive-stays, IsActive-was}
use Rattle.pssm_semantics_laws.proofs.Courses.{runs_own, runs_is}
use Rattle.pssm_object.specs.Standing.{IsUnderWay}
use Rattle.pssm_object.specs.inner.Ending.{Terminates, IsTopFinal, Ends}
use Rattle.pssm_object.proofs.UnderWay.{after_item, step_finished, finished_step}

-- what all top regions have, they have where as much is active
tops_by : (m : DraftMachine) (a b : Configuration)
    → ((r : RegionId) → owner_of m (Region r) ≡ Some Top → HasActiveFinal m a r → HasActiveFinal m b r)
    → AllTopsAreFinal m a → AllTopsAreFinal m b
tops_by m a b each all r top = each r top (all r top)

tops_more : (m : DraftMachine) (a b : Configuration) → ((s : VertexId) → a.Active s → b.Active s)
    → AllTopsAreFinal m a → AllTopsAreFinal m b
tops_more m a b more all =
    tops_by m a b (λ r top h. (h.0, h.1, h.2, more h.0 h.3)) all

-- what an item ends does not turn on which of two configurations that agree is told
pub ends_alike : (m : DraftMachine) (a b : Configuration) → Agree a b → (item : Item) → Ends m a item → Ends m b item
ends_alike m a b same (items.Effect t) h = h
ends_alike m a b same (items.Enter s) h = (h.0, tops_more m a b (λ v. (same.active v).0) h.1)
ends_alike m a b same (items.Exit s) h = absurd h
ends_alike m a b same (items.Opened r mode) h = absurd h
ends_alike m a b same (items.Pick c) h = absurd h

-- whether a vertex is a final state of a top region is known
known_final_kind : (k : VertexKind) → Known (k ≡ kinds.Final)
known_final_kind kinds.Final = inl refl
known_final_kind kinds.State = inr (λ e. cc)
known_final_kind kinds.Junction = inr (λ e. cc)
known_final_kind kinds.Initial = inr (λ e. cc)
known_final_kind kinds.DeepHistory = inr (λ e. cc)
known_final_kind kinds.ShallowHistory = inr (λ e. cc)
known_final_kind kinds.Join = inr (λ e. cc)
known_final_kind kinds.Fork = inr (λ e. cc)
known_final_kind kinds.Choice = inr (λ e. cc)
known_final_kind kinds.EntryPoint = inr (λ e. cc)
known_final_kind kinds.ExitPoint = inr (λ e. cc)
known_final_kind kinds.Terminate = inr (λ e. cc)

module _ (m : DraftMachine) (s : VertexId) where
  abbrev TopOwner : Owner → Type 0
  TopOwner p = (r : RegionId) × (p ≡ Region r) × (owner_of m (Region r) ≡ Some Top)

  known_top_owner : (p : Owner) → Known (TopOwner p)
  known_top_owner Top = inr (λ h. let clash = h.1 in cc)
  known_top_owner (State q) = inr (λ h. let clash = h.1 in cc)
  known_top_owner (Region r) =
      known_as
      (λ top. (r, refl, top))
      (λ h. subst (λ p. owner_of m p ≡ Some Top) (sym h.1) h.2)
      (known_owner m (Region r) Top)

  known_top_final : Known (IsTopFinal m s)
  known_top_final = by (vertex_at m s) refl
    where
      by : (o : Option Vertex) → vertex_at m s ≡ o → Known (IsTopFinal m s)
      by None e = inr (λ h. let at = mapped_some (λ (x : Vertex). x.kind) (vertex_at m s) kinds.Final h.0 in let clash = at.1 in cc)
      by (Some x) e =
          known_as
          (λ h. ((kind_at m s x kinds.Final e).1 h.0, (h.1.0, owned x h.1.0 e h.1.1, h.1.2)))
          (λ h. ((kind_at m s x kinds.Final e).0 h.0, (h.1.0, owns x h.1.0 e h.1.1, h.1.2)))
          (known_both (known_final_kind x.kind) (known_top_owner x.owner))
        where
          owned : (x : Vertex) (r : RegionId) → vertex_at m s ≡ Some x → x.owner ≡ Region r → owner_of m (State s) ≡ Some (Region r)
          owned x r e is = cc

          owns : (x : Vertex) (r : RegionId) → vertex_at m s ≡ Some x → owner_of m (State s) ≡ Some (Region r) → x.owner ≡ Region r
          owns x r e is = cc

-- at the start no object has ended: a machine has a top region
pub never_at_start : {m : DraftMachine} → KeepsModelRules m → (o : ObjectId) → HasEnded m [] o → ⊥
never_at_start rules o (inl (e, t, v, inside, effect, enters, kind)) = nothing_in_nil e inside
never_at_start {m = m} rules o (inr finals) =
    rules places.Top 1 (E01_top (λ r top. let f = finals r top in IsActive-nil o f.0 f.3))

-- an entry that enters, exits or runs an effect runs that item
enters_runs : (e : Entry) (o : ObjectId) (s : VertexId) → EntersAt e o s → item_by o e ≡ Some (items.Enter s, Nothing)
enters_runs (Enter q v outs) o s h =
    subst (λ p. item_by p (Enter q v outs) ≡ Some (items.Enter s, Nothing)) h.0
    (runs_own (Enter q v outs) (items.Enter s, Nothing) (ap (λ (w : VertexId). Some (items.Enter w, Nothing)) h.1))
enters_runs (Post q g args) o s h = absurd h
enters_runs (Start q) o s h = absurd h
enters_runs (Take q n firing) o s h = absurd h
enters_runs (Done q v firing) o s h = absurd h
enters_runs (Exit q v outs) o s h = absurd h
enters_runs (Effect q t outs) o s h = absurd h
enters_runs (Opened q r mode how) o s h = absurd h
enters_runs (Pick q v route) o s h = absurd h
enters_runs (DoStep q v k outs) o s h = absurd h

exits_runs : (e : Entry) (o : ObjectId) (s : VertexId) → ExitsAt e o s → item_by o e ≡ Some (items.Exit s, Nothing)
exits_runs (Exit q v outs) o s h =
    subst (λ p. item_by p (Exit q v outs) ≡ Some (items.Exit s, Nothing)) h.0
    (runs_own (Exit q v outs) (items.Exit s, Nothing) (ap (λ (w : VertexId). Some (items.Exit w, Nothing)) h.1))
exits_runs (Post q g args) o s h = absurd h
exits_runs (Start q) o s h = absurd h
exits_runs (Take q n firing) o s h = absurd h
exits_runs (Done q v firing) o s h = absurd h
exits_runs (Enter q v outs) o s h = absurd h
exits_runs (Effect q t outs) o s h = absurd h
exits_runs (Opened q r mode how) o s h = absurd h
exits_runs (Pick q v route) o s h = absurd h
exits_runs (DoStep q v k outs) o s h = absurd h

effects_runs : (e : Entry) (o : ObjectId) (t : TransId) → EffectsAt e o t → item_by o e ≡ Some (items.Effect t, Nothing)
effects_runs (Effect q u outs) o t h =
    subst (λ p. item_by p (Effect q u outs) ≡ Some (items.Effect t, Nothing)) h.0
    (runs_own (Effect q u outs) (items.Effect t, Nothing) (ap (λ (w : TransId). Some (items.Effect w, Nothing)) h.1))
effects_runs (Post q g args) o t h = absurd h
effects_runs (Start q) o t h = absurd h
effects_runs (Take q n firing) o t h = absurd h
effects_runs (Done q v firing) o t h = absurd h
effects_runs (Exit q v outs) o t h = absurd h
effects_runs (Enter q v outs) o t h = absurd h
effects_runs (Opened q r mode how) o t h = absurd h
effects_runs (Pick q v route) o t h = absurd h
effects_runs (DoStep q v k outs) o t h = absurd h

-- and the other way round
first_of : (x y : Item × How) → Some x ≡ Some y → x.0 ≡ y.0
first_of x y e = let same : x ≡ y = cc in ap (λ (z : Item × How). z.0) same

runs_effect : (e : Entry) (o : ObjectId) (t : TransId) (how : How) → object_of e ≡ o → item_of e ≡ Some (items.Effect t, how) → EffectsAt e o t
runs_effect (Effect q u outs) o t how own runs =
    (own, (let same : items.Effect u ≡ items.Effect t = first_of (items.Effect u, Nothing) (items.Effect t, how) runs in cc))
runs_effect (Exit q v outs) o t how own runs =
    absurd (let clash : items.Exit v ≡ items.Effect t = first_of (items.Exit v, Nothing) (items.Effect t, how) runs in cc)
runs_effect (Enter q v outs) o t how own runs =
    absurd (let clash : items.Enter v ≡ items.Effect t = first_of (items.Enter v, Nothing) (items.Effect t, how) runs in cc)
runs_effect (Opened q r mode by) o t how own runs =
    absurd (let clash : items.Opened r mode ≡ items.Effect t = first_of (items.Opened r mode, by) (items.Effect t, how) runs in cc)
runs_effect (Pick q v route) o t how own runs =
    absurd (let clash : items.Pick v ≡ items.Effect t = first_of (items.Pick v, By route) (items.Effect t, how) runs in cc)
runs_effect (Post q g args) o t how own runs = absurd (cc)
runs_effect (Start q) o t how own runs = absurd (cc)
runs_effect (Take q n firing) o t how own runs = absurd (cc)
runs_effect (Done q v firing) o t how own runs = absurd (cc)
runs_effect (DoStep q v k outs) o t how own runs = absurd (cc)

module _ (m : DraftMachine) (J : List Entry) (o : ObjectId) (e : Entry) where
  abbrev more : List Entry
  more = J ++ e ∷ []

  abbrev now : Configuration
  now = configuration_after m J o

  abbrev after : Configuration
  after = configuration_after m more o

  -- what has ended stays terminated
  terminated_stays : HasTerminated m J o → HasTerminated m more o
  terminated_stays (f, t, v, inside, effect, enters, kind) = (f, t, v, Contains-append_left J (e ∷ []) f inside, effect, enters, kind)

  -- and one more entry terminates only as an effect into a terminate vertex
  terminated_cases : HasTerminated m more o → HasTerminated m J o ⊎ ((t : TransId) × EffectsAt e o t × Terminates m t)
  terminated_cases (f, t, v, inside, effect, enters, kind) =
      ⊎_elim
      (λ was. inl (f, t, v, was, effect, enters, kind))
      (λ same. inr (t, subst (λ g. EffectsAt g o t) (sym same) effect, (v, enters, kind)))
      (Contains-push_cases J e f inside)

  -- an entry of the object that runs no item, and any entry of another one, leaves it as it was
  module _ (none : item_by o e ≡ None) where
    runs_none : (x : Item × How) → item_by o e ≡ Some x → ⊥
    runs_none x is = let clash : Some x ≡ None = sym is ∙ none in cc

    same_active : (s : VertexId) → IsActive more o s ↔ IsActive J o s
    same_active s = (
      λ h. ⊎_elim (λ enters. absurd (runs_none (items.Enter s, Nothing) (enters_runs e o s enters))) (λ was. was.0) (IsActive-was J e o s h),
      λ h. IsActive-stays J e o s h (λ exits. runs_none (items.Exit s, Nothing) (exits_runs e o s exits)),
    )

    pub ended_left : HasEnded m more o ↔ HasEnded m J o
    ended_left = (to, from)
      where
        to : HasEnded m more o → HasEnded m J o
        to (inl terminated) =
            ⊎_elim (λ was. inl was) (λ by. absurd (runs_none (items.Effect by.0, Nothing) (effects_runs e o by.0 by.1))) (terminated_cases terminated)
        to (inr finals) = inr (tops_more m after now (λ s. (same_active s).0) finals)

        from : HasEnded m J o → HasEnded m more o
        from (inl terminated) = inl (terminated_stays terminated)
        from (inr finals) = inr (tops_more m now after (λ s. (same_active s).1) finals)

    -- in the form in which an object keeps it
    pub ended_left_is : (ended : Bool) → IsTrue ended ↔ HasEnded m J o → IsTrue ended ↔ HasEnded m more o
    ended_left_is ended is = (λ yes. ended_left.1 (is.0 yes), λ h. is.1 (ended_left.0 h))

  -- an entry of the object that runs an item
  module _ (item : Item) (how : How) (own : object_of e ≡ o) (runs : item_of e ≡ Some (item, how)) (unended : HasEnded m J o → ⊥) where
    by_item : item_by o e ≡ Some (item, how)
    by_item = subst (λ p. item_by p e ≡ Some (item, how)) own (runs_own e (item, how) runs)

    changed : Agree after (changed_by_item m now item how)
    changed = after_item m J o e item how own runs

    runs_other : (x : Item × How) → item_by o e ≡ Some x → x ≡ (item, how)
    runs_other x is = let same : Some x ≡ Some (item, how) = sym is ∙ by_item in cc

    -- the effect that it runs
    effect_is : (t : TransId) → EffectsAt e o t → items.Effect t ≡ item
    effect_is t h = ap (λ (x : Item × How). x.0) (runs_other (items.Effect t, Nothing) (effects_runs e o t h))

    terminated_by : HasTerminated m more o → (t : TransId) × (items.Effect t ≡ item) × Terminates m t
    terminated_by h =
        ⊎_elim (λ was. absurd (unended (inl was))) (λ by. (by.0, effect_is by.0 by.1, by.2)) (terminated_cases h)

-- what an item makes of the top regions, where they had no final states all
module _ (m : DraftMachine) (now : Configuration) (unended : AllTopsAreFinal m now → ⊥) where
  -- an entry of a vertex that is no final state of a top region leaves the final states of top regions as they are
  old_final : (s : VertexId) → (IsTopFinal m s → ⊥) → (r : RegionId) → owner_of m (Region r) ≡ Some Top
      → HasActiveFinal m (entered m now s) r → HasActiveFinal m now r
  old_final s other r top (v, owner, final, active) =
      ⊎_elim
      (λ same. absurd (other (subst (IsTopFinal m) same (final, (r, owner, top)))))
      (λ was. (v, owner, final, was))
      active

  tops_by_item : (item : Item) (how : How) → AllTopsAreFinal m (changed_by_item m now item how) → Ends m (changed_by_item m now item how) item
  tops_by_item (items.Enter s) how all =
      ⊎_elim
      (λ is. (is, all))
      (λ other. absurd (unended (tops_by m (entered m now s) now (old_final s other) all)))
      (known_top_final m s)
  tops_by_item (items.Exit s) how all = absurd (unended (tops_more m (exited m now s) now (λ v h. h.1) all))
  tops_by_item (items.Opened r mode) Nothing all = absurd (unended all)
  tops_by_item (items.Opened r mode) (By route) all = absurd (unended all)
  tops_by_item (items.Opened r mode) (Restore s) all = absurd (unended all)
  tops_by_item (items.Effect t) how all = absurd (unended all)
  tops_by_item (items.Pick c) how all = absurd (unended all)

module _ (m : DraftMachine) (J : List Entry) (o : ObjectId) (e : Entry) (item : Item) (how : How) (own : object_of e ≡ o) (runs : item_of e ≡ Some (item, how))
    (unended : HasEnded m J o → ⊥) where
  abbrev longer : List Entry
  longer = J ++ e ∷ []

  abbrev then : Configuration
  then = changed_by_item m (configuration_after m J o) item how

  same : Agree (configuration_after m longer o) then
  same = after_item m J o e item how own runs

  back : Agree then (configuration_after m longer o)
  back = Agree-symm (configuration_after m longer o) then same

  by_terminating : (x : Item) (t : TransId) → items.Effect t ≡ x → Terminates m t → Ends m (configuration_after m longer o) x
  by_terminating x t is h = subst (Ends m (configuration_after m longer o)) is h

  -- it ends the object only where its item does
  ended_only : HasEnded m longer o → Ends m (configuration_after m longer o) item
  ended_only (inl terminated) = let by = terminated_by m J o e item how own runs unended terminated in by_terminating item by.0 by.1 by.2
  ended_only (inr finals) =
      ends_alike m then (configuration_after m longer o) back item
      (tops_by_item m (configuration_after m J o) (λ all. unended (inr all)) item how
      (tops_more m (configuration_after m longer o) then (λ v. (same.active v).0) finals))

  ends_it : (x : Item) → item_of e ≡ Some (x, how) → Ends m (configuration_after m longer o) x → HasEnded m longer o
  ends_it (items.Effect t) is h = inl (e, t, h.0, Contains-push J e, runs_effect e o t how own is, h.1, h.2)
  ends_it (items.Enter s) is h = inr h.1
  ends_it (items.Exit s) is h = absurd h
  ends_it (items.Opened r mode) is h = absurd h
  ends_it (items.Pick c) is h = absurd h

  -- one more entry of an object that has not ended ends it exactly where its item does
  pub ended_exactly : HasEnded m longer o ↔ Ends m (configuration_after m longer o) item
  ended_exactly = (ended_only, ends_it item runs)

  -- in the form in which an object keeps it, where the configuration is told otherwise
  pub ended_by_is : (told : Configuration) → Agree (configuration_after m longer o) told → (ended : Bool)
      → IsTrue ended ↔ Ends m told item → IsTrue ended ↔ HasEnded m longer o
  ended_by_is told agree ended is = (
    λ yes. ended_exactly.1 (ends_alike m told (configuration_after m longer o) (Agree-symm (configuration_after m longer o) told agree) item (is.0 yes)),
    λ h. is.1 (ends_alike m (configuration_after m longer o) told agree item (ended_exactly.0 h)),
  )

-- an object before its start has not ended, in the form in which it keeps this
pub unended_is : {m : DraftMachine} → KeepsModelRules m → (o : ObjectId) → IsTrue false ↔ HasEnded m [] o
unended_is rules o = (λ yes. absurd (cc), λ h. absurd (never_at_start rules o h))

-- no post and no entry of another object runs an item of it
no_item_of_post : (e : Entry) (x : Item × How) → IsPost e → item_of e ≡ Some x → ⊥
no_item_of_post (Post q g args) x post runs = cc
no_item_of_post (Start q) x post runs = post
no_item_of_post (Take q n firing) x post runs = post
no_item_of_post (Done q v firing) x post runs = post
no_item_of_post (Exit q v outs) x post runs = post
no_item_of_post (Effect q t outs) x post runs = post
no_item_of_post (Enter q v outs) x post runs = post
no_item_of_post (Opened q r mode how) x post runs = post
no_item_of_post (Pick q v route) x post runs = post
no_item_of_post (DoStep q v k outs) x post runs = post

pub other_runs_none : (e : Entry) (o : ObjectId) → ((object_of e ≡ o) → IsPost e) → item_by o e ≡ None
other_runs_none e o other = by (item_by o e) refl
  where
    by : (r : Option (Item × How)) → item_by o e ≡ r → item_by o e ≡ None
    by None is = is
    by (Some x) is = let both = runs_is o e x is in absurd (no_item_of_post e x (other both.0) both.1)

-- a step is finished exactly where everything called has run or the object has ended
module _ {m : DraftMachine} {J : List Entry} {o : ObjectId} {head : Head} {at_head : Configuration} {ran : List (Item × How)}
    (u : IsUnderWay m J o head at_head ran) where
  pub finished_by_end : HasEnded m J o → IsStepFinished m J o
  finished_by_end ended = inr ended

  pub finished_by_items : HasRunOut m (course_by head at_head ran) → IsStepFinished m J o
  finished_by_items out = step_finished u out

  pub finished_cases : (HasEnded m J o → ⊥) → IsStepFinished m J o → HasRunOut m (course_by head at_head ran)
  finished_cases unended finished = finished_step u unended finished
