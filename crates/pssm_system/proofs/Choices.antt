-- What was found for an object is what may follow in the setting.
use Rattle.std.proofs.Common.{◌≡◌, ◌≤◌, ◌<◌, ℕ, List, [], length, Bool, Option, Some, None, Contains, is_some, slice_get, refl, sym, subst, ◌∙◌, ⊎_elim, arith}
use Rattle.std.proofs.lemmas.Bool.{cases_lt}
use Rattle.pssm_model.proofs.ElementLaws.{nothing_in_nil}
use Rattle.pssm_semantics.specs.declared.entry.ObjectId.{ObjectId}
use Rattle.pssm_semantics.specs.declared.entry.Entry.{Entry}
use Rattle.pssm_semantics.specs.declared.entry.Entry.TheVariants.{Post, Start, Take, Done, Exit, Effect, Enter, Opened, Pick, DoStep}
use Rattle.pssm_semantics.specs.declared.entry.Rule.TheVariants.{A1, A2, A8, A9, A11}
use Rattle.pssm_semantics.specs.declared.stimulus.Task.{Task}
use Rattle.pssm_semantics.specs.declared.stimulus.Task.TheVariants as tasks
use Rattle.pssm_semantics.specs.declared.setting.Class.{Class}
use Rattle.pssm_semantics.specs.declared.setting.Setting.{Setting}
use Rattle.pssm_semantics.specs.Settings.{class_of}
use Rattle.pssm_semantics.specs.Journal.{IsPost, object_of}
use Rattle.pssm_semantics.specs.Pool.{told_by}
use Rattle.pssm_semantics.specs.Tasks.{IsReadyTask}
use Rattle.pssm_semantics.specs.Admissible.{MayFollow, IsQuiet}
use Rattle.pssm_semantics.specs.Classes.{IsWellFormedClass}
use Rattle.pssm_semantics.specs.Proper.{IsWellFormed}
use Rattle.pssm_pool.specs.declared.pools.Waiting.{Waiting}
use Rattle.pssm_object.specs.Standing.{Standing, StandsAfter}
use Rattle.pssm_object.specs.Following.{NamesPlaces, NamesSignal, KeepsRules, IsCandidate, IsMove, IsHandedIn, stimulus_for}
use Rattle.pssm_object.specs.Following as objects
use Rattle.pssm_object.specs.Tasks.{ready_tasks, Does}
use Rattle.pssm_object.proofs.TaskLists.{lists_tasks}
use Rattle.pssm_system.specs.declared.situation.Situation.{Situation}
use Rattle.pssm_system.specs.declared.choosing.Wanted.{Wanted}
use Rattle.pssm_system.specs.declared.choosing.Wanted.TheVariants.{AnyEntry, Move}
use Rattle.pssm_system.specs.Tasks.{IsQuietOf}
use Rattle.pssm_system.specs.inner.Deferring.{IsFirstFor}
use Rattle.pssm_system.specs.inner.Keeping.{StandsSo}
use Rattle.pssm_system.specs.inner.Choosing.{IsWanted, IsNext, HasNoNext, NoneMayCome}
use Rattle.pssm_system.proofs.Following.{IsNoTake, own_alike, object_there}
use Rattle.pssm_system.proofs.Judged.{IsPart, is_part, names_none}
use Rattle.pssm_system.proofs.Named.{names_places}
use Rattle.pssm_system.proofs.Signals.{IsFirst}
use Rattle.pssm_system.proofs.Nexts.{first_in, alone_follows, next_follows, follows_next}

-- no move is a post
pub move-no_post : (e : Entry) → IsMove e → IsPost e → ⊥
move-no_post (Post o g args) move post = move
move-no_post (Start o) move post = post
move-no_post (Take o number firing) move post = post
move-no_post (Done o v firing) move post = post
move-no_post (Exit o v outs) move post = post
move-no_post (Effect o t outs) move post = post
move-no_post (Enter o v outs) move post = post
move-no_post (Opened o r mode how) move post = post
move-no_post (Pick o v route) move post = post
move-no_post (DoStep o v k outs) move post = post

pub wanted-no_post : (wanted : Wanted) (e : Entry) → IsWanted wanted e → IsPost e → ⊥
wanted-no_post AnyEntry e is post = is post
wanted-no_post Move e is post = move-no_post e is post

-- what does a task is neither a post nor a take
pub record IsDone (o : ObjectId) (e : Entry) : Type 0 where
  pub own : object_of e ≡ o
  pub no_post : IsPost e → ⊥
  pub no_take : IsNoTake e

pub does-is : (o : ObjectId) (task : Task) (e : Entry) → Does o task e → IsDone o e
does-is o (tasks.Exit v) e (outs, is) = subst (IsDone o) (sym is) (record { own = refl; no_post = λ post. post; no_take = tt })
does-is o (tasks.Effect t) e (outs, is) = subst (IsDone o) (sym is) (record { own = refl; no_post = λ post. post; no_take = tt })
does-is o (tasks.Enter v) e (outs, is) = subst (IsDone o) (sym is) (record { own = refl; no_post = λ post. post; no_take = tt })
does-is o (tasks.DoStep v k) e (outs, is) = subst (IsDone o) (sym is) (record { own = refl; no_post = λ post. post; no_take = tt })

-- the entry of a ready task may come next under any signal
pub task-next : (class : Class) (x : Standing) (task : Task) (e : Entry) → Does x.own task e → NamesPlaces class.machine e
    → ((J : List Entry) → StandsAfter class J x → KeepsRules class x None J e) → (signal : Option Waiting) → IsNext class x signal AnyEntry e
task-next class x task e does places keeps signal =
    let done = does-is x.own task e does in
    record {
      wanted_is = done.no_post;
      candidate = record { own = done.own; no_post = done.no_post; names = names_none signal e done.no_take };
      places = places;
      keeps = λ J s rule.
          own_alike class (told_by J) (stimulus_for x.own None) (stimulus_for x.own signal) J rule e done.no_take (keeps J s rule);
    }

-- where no task is ready, what may come next is a move
module _ (class : Class) (b : IsWellFormedClass class) {J : List Entry} {x : Standing} (s : StandsAfter class J x) (signal : Option Waiting)
    (none : ready_tasks class.machine x ≡ []) where
  not_ready : (task : Task) → IsReadyTask class.machine J x.own task → ⊥
  not_ready task ready = nothing_in_nil task (subst (λ ts. Contains ts task) none (((lists_tasks class b s).each task).1 ready))

  pub only-moves : (e : Entry) → IsCandidate x.own signal e → KeepsRules class x signal J e → IsMove e
  only-moves (Post o g args) c keeps = absurd (c.no_post tt)
  only-moves (Start o) c keeps = tt
  only-moves (Take o number firing) c keeps = tt
  only-moves (Done o v firing) c keeps = tt
  only-moves (Opened o r mode how) c keeps = tt
  only-moves (Pick o v route) c keeps = tt
  only-moves (Exit o v outs) c keeps =
      let called = keeps A8 in
      let ready : IsReadyTask class.machine J o (tasks.Exit v) =
      (keeps A2, record { step = called.step; last = called.last; ready = record { waiting = called.waits; cleared = keeps A9 called.step called.last } }) in
      absurd (not_ready (tasks.Exit v) (subst (λ q. IsReadyTask class.machine J q (tasks.Exit v)) c.own ready))
  only-moves (Effect o t outs) c keeps =
      let called = keeps A8 in
      let ready : IsReadyTask class.machine J o (tasks.Effect t) =
      (keeps A2, record { step = called.step; last = called.last; ready = record { waiting = called.waits; cleared = keeps A9 called.step called.last } }) in
      absurd (not_ready (tasks.Effect t) (subst (λ q. IsReadyTask class.machine J q (tasks.Effect t)) c.own ready))
  only-moves (Enter o v outs) c keeps =
      let called = keeps A8 in
      let ready : IsReadyTask class.machine J o (tasks.Enter v) =
      (keeps A2, record { step = called.step; last = called.last; ready = record { waiting = called.waits; cleared = keeps A9 called.step called.last } }) in
      absurd (not_ready (tasks.Enter v) (subst (λ q. IsReadyTask class.machine J q (tasks.Enter v)) c.own ready))
  only-moves (DoStep o v k outs) c keeps =
      let ready : IsReadyTask class.machine J o (tasks.DoStep v k) = (keeps A2, keeps A11) in
      absurd (not_ready (tasks.DoStep v k) (subst (λ q. IsReadyTask class.machine J q (tasks.DoStep v k)) c.own ready))

-- What was found for the first signal that waits and is not deferred is what may follow.
module _ {setting : Setting} (b : IsWellFormed setting) {s : Situation} {J : List Entry} (stands : StandsSo setting J s) (o : ObjectId) (class : Class)
    (x : Standing) (is : class_of setting o ≡ Some class) (at : slice_get s.objects.items o.0 ≡ Some x) (first : Option Waiting)
    (f : IsFirstFor setting s o first) where
  pub part : IsPart setting J s.pools.waiting o class x
  part = is_part b stands.objects stands.pools o class x is at

  first_is : IsFirst s.pools.waiting o class x first
  first_is = first_in stands o class x is at first f

  own_is : x.own ≡ o
  own_is = part.object.own

  candidate_as : (e : Entry) → IsCandidate x.own first e → IsCandidate o first e
  candidate_as e c = subst (λ q. IsCandidate q first e) own_is c

  candidate_of : (e : Entry) → IsCandidate o first e → IsCandidate x.own first e
  candidate_of e c = subst (λ q. IsCandidate q first e) (sym own_is) c

  pub found-follows : (wanted : Wanted) (e : Entry) → IsNext class x first wanted e → MayFollow setting J e
  found-follows wanted e n = next_follows part first_is e (candidate_as e n.candidate) n.places (n.keeps J part.object.stands)

  pub none-follows : (wanted : Wanted) → HasNoNext class x first wanted → (e : Entry) → object_of e ≡ o → IsWanted wanted e → MayFollow setting J e → ⊥
  none-follows wanted none e own is_wanted may =
      let next = follows_next part first_is e own (wanted-no_post wanted e is_wanted) may in
      none J e part.object.stands is_wanted (candidate_of e next.0) next.1

  pub quiet-none : objects.IsQuiet class x first J → (e : Entry) → object_of e ≡ o → (IsPost e → ⊥) → MayFollow setting J e → ⊥
  quiet-none quiet e own no_post may = let next = follows_next part first_is e own no_post may in quiet e (candidate_of e next.0) next.1

  pub next-some : objects.HasNext class x first J → IsQuiet setting J → ⊥
  next-some (e, c, keeps) quiet =
      quiet e c.no_post
      (next_follows part first_is e (candidate_as e c) (names_places class part.well_formed part.object.stands first e c keeps) keeps)

  pub next-own : objects.HasNext class x first J → IsQuietOf setting J o → ⊥
  next-own (e, c, keeps) quiet =
      quiet e (candidate_as e c).own c.no_post
      (next_follows part first_is e (candidate_as e c) (names_places class part.well_formed part.object.stands first e c keeps) keeps)

-- a candidate without a signal is no take
pub no_take_of : (e : Entry) → NamesSignal None e → IsNoTake e
no_take_of (Take o number firing) named = absurd named
no_take_of (Post o g args) named = tt
no_take_of (Start o) named = tt
no_take_of (Done o v firing) named = tt
no_take_of (Exit o v outs) named = tt
no_take_of (Effect o v outs) named = tt
no_take_of (Enter o v outs) named = tt
no_take_of (Opened o r mode how) named = tt
no_take_of (Pick o v route) named = tt
no_take_of (DoStep o v k outs) named = tt

-- an object that has something to do without a signal is not quiet
pub alone-own : {setting : Setting} {J : List Entry} {pools : List (List Waiting)} {o : ObjectId} {class : Class} {x : Standing}
    → IsPart setting J pools o class x → objects.HasNext class x None J → IsQuietOf setting J o → ⊥
alone-own {class = class} p (e, c, keeps) quiet =
    let mine = subst (λ q. IsCandidate q None e) p.object.own c in
    quiet e mine.own c.no_post
    (alone_follows p e mine (names_places class p.well_formed p.object.stands None e c keeps) keeps (no_take_of e c.names))

-- a signal is handed in where one waits
pub handed_in : (signal : Option Waiting) (waiting : Bool) → waiting ≡ is_some signal → IsHandedIn waiting signal
handed_in signal waiting is = ((λ w. sym is ∙ w), (λ w. is ∙ w))

-- ranges of objects without a next entry
module _ (setting : Setting) (s : Situation) (wanted : Wanted) where
  pub none-none : (k : ℕ) → NoneMayCome setting s wanted k k
  none-none k J e stands le lt = absurd (omega arith)

  pub none-both : (from mid to : ℕ) → NoneMayCome setting s wanted from mid → NoneMayCome setting s wanted mid to → NoneMayCome setting s wanted from to
  none-both from mid to front back J e stands le lt is may =
      ⊎_elim (λ (below : (object_of e).0 < mid). front J e stands le below is may) (λ (past : mid ≤ (object_of e).0). back J e stands past lt is may)
      (cases_lt (object_of e).0 mid)

-- where none of all objects has one, nothing may follow
pub none-of_all : {setting : Setting} {s : Situation} {J : List Entry} → StandsSo setting J s → (wanted : Wanted)
    → NoneMayCome setting s wanted 0 (length s.objects.items) → (e : Entry) → IsWanted wanted e → MayFollow setting J e → ⊥
none-of_all {setting = setting} {s = s} {J = J} stands wanted none e is may =
    none J e stands (omega arith)
    (subst (λ n. (object_of e).0 < n) (sym stands.objects.count) (object_there setting (object_of e) (may A1).0 (may A1).1)) is may
