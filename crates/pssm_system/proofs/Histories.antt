-- What a system tells of itself, from what it keeps.
use Rattle.std.proofs.Common.{◌≡◌, ◌<◌, ◌+◌, ◌++◌, ◌↔◌, ℕ, ℤ, List, [], ◌∷◌, length, Bool, IsTrue, Option, Some, None, Result, Ok, Err, IfOk, IfNone, IfSome, get_or, sym, ap, subst, ◌∙◌, arith}
use Rattle.pssm_semantics.specs.declared.entry.ObjectId.{ObjectId}
use Rattle.pssm_semantics.specs.declared.entry.Entry.{Entry}
use Rattle.pssm_semantics.specs.declared.entry.Rule.{Rule}
use Rattle.pssm_semantics.specs.declared.entry.Rule.TheVariants.{A1}
use Rattle.pssm_semantics.specs.declared.setting.Class.{Class}
use Rattle.pssm_semantics.specs.declared.setting.Setting.{Setting}
use Rattle.pssm_semantics.specs.declared.stimulus.Task.{Task}
use Rattle.pssm_semantics.specs.Settings.{class_of}
use Rattle.pssm_semantics.specs.Journal.{IsPost}
use Rattle.pssm_semantics.specs.Pool.{told_by}
use Rattle.pssm_semantics.specs.Behaviours.{store_of, params_of}
use Rattle.pssm_semantics.specs.Proper.{IsWellFormed}
use Rattle.pssm_semantics.specs.Rules.{Holds}
use Rattle.pssm_semantics.specs.Verdict.{IsFirstBroken}
use Rattle.pssm_semantics.specs.Admissible.{MayFollow, IsQuiet, KeepsJournalLimits}
use Rattle.pssm_semantics.specs.Laws.{CompletesInTime, KeepsTakes, KeepsRegions}
use Rattle.pssm_semantics_laws.proofs.Appending.{every_push, admissible_push, admissible_none}
use Rattle.pssm_system.proofs.Outputs.{signals_of-within}
use Rattle.pssm_system.proofs.Takes.{admissible-keeps_takes}
use Rattle.pssm_object.specs.Standing.{Standing}
use Rattle.pssm_object.specs.Following.{IsMove}
use Rattle.pssm_system.specs.declared.situation.Situation.{Situation}
use Rattle.pssm_system.specs.declared.choosing.Wanted.TheVariants.{AnyEntry, Move}
use Rattle.pssm_system.specs.History.{History}
use Rattle.pssm_semantics.specs.Forms.{IsRunEntry}
use Rattle.pssm_semantics.specs.Work.{Work, outcome_from}
use Rattle.pssm_system.specs.Tasks.{IsReadyOf, AreReady, AreReadyFor, own_tasks, HasNoMove, HasNoMoveOf, IsQuietOf}
use Rattle.pssm_system.specs.Works.{HasMade}
use Rattle.pssm_system.specs.inner.Keeping.{StandsSo, Stands, CanCome, IsUnchanged, KeepsRun, tasks_of}
use Rattle.pssm_system.specs.inner.Judging.{IsKnown, IsVerdict}
use Rattle.pssm_system.specs.inner.Choosing.{FindsAmong}
use Rattle.pssm_system.specs.inner.Stepping.{AreMade}
use Rattle.pssm_system.proofs.AllTasks.{are_ready}
use Rattle.pssm_system.proofs.OwnTasks.{are_ready_for}
use Rattle.pssm_system.proofs.Made.{made_here}
use Rattle.pssm_system.proofs.Choices.{none-of_all}
use Rattle.pssm_system.proofs.Completing.{completes}
use Rattle.pssm_system.proofs.Regions.{keeps_regions, is_run_entry}
use Rattle.pssm_system.proofs.Members.{IsMember, member}
use Rattle.pssm_system.proofs.Coming.{class_exists}
use Rattle.pssm_system.proofs.Stepped.{told_after, stands_unchanged}

-- what a clause sees of a setting, a journal and what is kept of it
abbrev pub history_of : Setting → List Entry → Situation → History
history_of setting J s = record { setting = setting; journal = J; tasks = tasks_of setting s.objects.items }

module _ (h : History) (setting : Setting) (J : List Entry) (s : Situation) (k : KeepsRun setting J s) (view_is : history_of setting J s ≡ h) where
  seen : (P : Setting → List Entry → Type 0) → P setting J → P h.setting h.journal
  seen P here = subst (λ (v : History). P v.setting v.journal) view_is here

  unseen : (P : Setting → List Entry → Type 0) → P h.setting h.journal → P setting J
  unseen P there = subst (λ (v : History). P v.setting v.journal) (sym view_is) there

  -- it stands so
  pub stands_here : Stands setting s
  stands_here = (J, k.stands)

  pub well_formed_seen : IsWellFormed h.setting
  well_formed_seen = seen (λ x js. IsWellFormed x) k.well_formed

  pub completes_seen : CompletesInTime h.setting h.journal
  completes_seen = seen CompletesInTime (completes k.well_formed J k.admissible)

  pub laws_seen : KeepsTakes h.setting h.journal × KeepsRegions h.setting h.journal
  laws_seen = (
    seen KeepsTakes (admissible-keeps_takes setting J k.admissible),
    seen KeepsRegions (keeps_regions k.well_formed k.admissible),
  )

  -- what an entry names is known
  pub known_here : (e : Entry) → Holds h.setting A1 h.journal e → IsKnown setting e
  known_here e names = unseen (λ x js. Holds x A1 js e) names

  -- the verdict
  pub keeps_seen : {E : Type 0} (e : Entry) (r : Result (Option Rule) E)
      → IfOk r (λ answer. (K : List Entry) → StandsSo setting K s → IsVerdict setting K e answer) → IfOk r (λ rule. IfNone rule (MayFollow h.setting h.journal e))
  keeps_seen e (Ok None) says = seen (λ x js. MayFollow x js e) (says J k.stands)
  keeps_seen e (Ok (Some rule)) says = tt
  keeps_seen e (Err none) says = tt

  pub breaks_seen : {E : Type 0} (e : Entry) (r : Result (Option Rule) E)
      → IfOk r (λ answer. (K : List Entry) → StandsSo setting K s → IsVerdict setting K e answer)
      → IfOk r (λ rule. IfSome rule (λ broken. IsFirstBroken (Holds h.setting) h.journal e broken))
  breaks_seen e (Ok None) says = tt
  breaks_seen e (Ok (Some rule)) says = seen (λ x js. IsFirstBroken (Holds x) js e rule) (says J k.stands)
  breaks_seen e (Err none) says = tt

  -- an entry that may follow within the limits can come
  pub can_come : (e : Entry) → MayFollow h.setting h.journal e → KeepsJournalLimits (h.journal ++ e ∷ []) → CanCome setting s e
  can_come e may limits =
      let follows = unseen (λ x js. MayFollow x js e) may in
      let here = unseen (λ x js. KeepsJournalLimits (js ++ e ∷ [])) limits in
      record {
        before = J;
        stands = k.stands;
        follows = follows;
        few =
            let within = signals_of-within (J ++ e ∷ []) in
            let all = told_after k.well_formed k.stands e follows in
            let most = here.outputs in
            omega (arith, within, all, most);
      }

  -- and what is kept once it has come
  pub keeps_longer : (e : Entry) → MayFollow h.setting h.journal e → KeepsJournalLimits (h.journal ++ e ∷ []) → (new : Situation)
      → ((K : List Entry) → StandsSo setting K s → MayFollow setting K e → StandsSo setting (K ++ e ∷ []) new) → KeepsRun setting (J ++ e ∷ []) new
  keeps_longer e may limits new goes =
      let follows = unseen (λ x js. MayFollow x js e) may in
      record {
        well_formed = k.well_formed;
        admissible = admissible_push setting J e k.admissible follows;
        limits = unseen (λ x js. KeepsJournalLimits (js ++ e ∷ [])) limits;
        entries = every_push IsRunEntry J e k.entries (is_run_entry k.well_formed k.stands e follows);
        stands = goes J k.stands follows;
      }

  pub quiet_seen : (b : Bool) → ((K : List Entry) → StandsSo setting K s → (IsTrue b ↔ IsQuiet setting K)) → IsTrue b ↔ IsQuiet h.setting h.journal
  quiet_seen b says = seen (λ x js. IsTrue b ↔ IsQuiet x js) (says J k.stands)

  pub quiet_seen_of : (o : ObjectId) (b : Bool) → ((K : List Entry) → StandsSo setting K s → (IsTrue b ↔ IsQuietOf setting K o))
      → IsTrue b ↔ IsQuietOf h.setting h.journal o
  quiet_seen_of o b says = seen (λ x js. IsTrue b ↔ IsQuietOf x js o) (says J k.stands)

  -- what is chosen
  pub chosen_seen : {E : Type 0} (r : Result (Option Entry) E) → IfOk r (FindsAmong setting s AnyEntry 0 (length s.objects.items))
      → IfOk r (λ o. IfSome o (λ e. (IsPost e → ⊥) × MayFollow h.setting h.journal e))
  chosen_seen (Ok None) found = tt
  chosen_seen (Ok (Some e)) found = (found.wanted_is, seen (λ x js. MayFollow x js e) (found.follows J k.stands))
  chosen_seen (Err none) found = tt

  pub none_seen : {E : Type 0} (r : Result (Option Entry) E) → IfOk r (FindsAmong setting s AnyEntry 0 (length s.objects.items))
      → IfOk r (λ o. IfNone o (IsQuiet h.setting h.journal))
  none_seen (Ok None) found = seen IsQuiet (λ e no_post may. none-of_all k.stands AnyEntry found e no_post may)
  none_seen (Ok (Some e)) found = tt
  none_seen (Err none) found = tt

  pub moved_seen : {E : Type 0} (r : Result (Option Entry) E) → IfOk r (FindsAmong setting s Move 0 (length s.objects.items))
      → IfOk r (λ o. IfSome o (λ e. IsMove e × MayFollow h.setting h.journal e))
  moved_seen (Ok None) found = tt
  moved_seen (Ok (Some e)) found = (found.wanted_is, seen (λ x js. MayFollow x js e) (found.follows J k.stands))
  moved_seen (Err none) found = tt

  pub no_move_seen : {E : Type 0} (r : Result (Option Entry) E) → IfOk r (FindsAmong setting s Move 0 (length s.objects.items))
      → IfOk r (λ o. IfNone o (HasNoMove h.setting h.journal))
  no_move_seen (Ok None) found = seen HasNoMove (λ e move may. none-of_all k.stands Move found e move may)
  no_move_seen (Ok (Some e)) found = tt
  no_move_seen (Err none) found = tt

  -- what is chosen of one object
  module _ (o : ObjectId) where
    pub moved_seen_of : {E : Type 0} (r : Result (Option Entry) E) → IfOk r (FindsAmong setting s Move o.0 (o.0 + 1))
        → IfOk r (λ chosen. IfSome chosen (λ e. IsMove e × MayFollow h.setting h.journal e))
    moved_seen_of (Ok None) found = tt
    moved_seen_of (Ok (Some e)) found = (found.wanted_is, seen (λ x js. MayFollow x js e) (found.follows J k.stands))
    moved_seen_of (Err none) found = tt

    pub no_move_seen_of : {E : Type 0} (r : Result (Option Entry) E) → IfOk r (FindsAmong setting s Move o.0 (o.0 + 1))
        → IfOk r (λ chosen. IfNone chosen (HasNoMoveOf h.setting h.journal o))
    no_move_seen_of (Ok None) found = seen (λ x js. HasNoMoveOf x js o) (λ e own move may.
        let at = ap (λ (q : ObjectId). q.0) own in found J e k.stands (omega (arith, at)) (omega (arith, at)) move may)
    no_move_seen_of (Ok (Some e)) found = tt
    no_move_seen_of (Err none) found = tt

  -- the tasks
  tasks_are : h.tasks ≡ tasks_of setting s.objects.items
  tasks_are = sym (ap (λ (v : History). v.tasks) view_is)

  pub ready_seen : AreReady h.setting h.journal h.tasks
  ready_seen = subst (λ (v : History). AreReady v.setting v.journal v.tasks) view_is (are_ready k.well_formed k.stands.objects)

  pub task_ready_seen : (o : ObjectId) (task : Task) (answer : Bool)
      → ((K : List Entry) → StandsSo setting K s → (IsTrue answer ↔ IsReadyOf setting K o task)) → IsTrue answer ↔ IsReadyOf h.setting h.journal o task
  task_ready_seen o task answer says = seen (λ x js. IsTrue answer ↔ IsReadyOf x js o task) (says J k.stands)

  pub own_ready_seen : (o : ObjectId) → AreReadyFor h.setting h.journal o (own_tasks o h.tasks)
  own_ready_seen o = are_ready_for o ready_seen

  -- what was run elsewhere
  pub made_seen : (e : Entry) (work : Work) → HasMade h.setting h.journal e work → (store : List ℤ) → store ≡ (outcome_from work).store
      → AreMade setting s.objects.items e store
  made_seen e work made store is = made_here k.stands.objects e work (unseen (λ x js. HasMade x js e work) made) store is

  -- the values of an object
  module _ (o : ObjectId) (x : Standing) (n : ℕ) (read : x ≡ get_or s.objects.items n x) (at : n ≡ o.0) where
    member_here : (c : Class) → class_of h.setting o ≡ Some c → IsMember setting J s.objects.items o c x
    member_here c is = member k.well_formed k.stands.objects o c x n (unseen (λ y js. class_of y o ≡ Some c) is) at read

    pub store_seen : (c : Class) → class_of h.setting o ≡ Some c → x.store ≡ store_of c (told_by h.journal) h.journal o
    store_seen c is =
        let m = member_here c is in
        seen (λ y js. x.store ≡ store_of c (told_by js) js o)
        (m.object.stands.store_is ∙ ap (λ q. store_of c (told_by J) J q) m.object.own)

    pub params_seen : o.0 < length h.setting.objects → x.params ≡ params_of (told_by h.journal) h.journal o
    params_seen there =
        let class = class_exists h.setting well_formed_seen o there in
        let m = member_here class.0 class.1 in
        seen (λ y js. x.params ≡ params_of (told_by js) js o)
        (m.object.stands.params_is ∙ ap (λ q. params_of (told_by J) J q) m.object.own)

    pub object_in : o.0 < length h.setting.objects → o.0 < length s.objects.items
    object_in there = subst (λ i. o.0 < i) (sym k.stands.objects.count) (unseen (λ y js. o.0 < length y.objects) there)

-- where nothing has changed but room, the same is kept
pub keeps_same : (setting : Setting) (J K : List Entry) (s new : Situation) → KeepsRun setting J s → K ≡ J → IsUnchanged s new → KeepsRun setting K new
keeps_same setting J K s new k same unchanged =
    let here : KeepsRun setting J new = record {
      well_formed = k.well_formed;
      admissible = k.admissible;
      limits = k.limits;
      entries = k.entries;
      stands = stands_unchanged k.stands unchanged;
    } in
    subst (λ js. KeepsRun setting js new) (sym same) here

-- a system that has just been made
pub keeps_new : (setting : Setting) (J : List Entry) (s : Situation) → IsWellFormed setting → J ≡ [] → StandsSo setting [] s → KeepsRun setting J s
keeps_new setting J s formed empty stands =
    let here : KeepsRun setting [] s = record {
      well_formed = formed;
      admissible = admissible_none setting;
      limits = record { entries = omega arith; outputs = omega arith };
      entries = tt;
      stands = stands;
    } in
    subst (λ js. KeepsRun setting js s) (sym empty) here
