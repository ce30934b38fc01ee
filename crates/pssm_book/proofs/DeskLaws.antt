-- What a desk keeps, call by call.
use Rattle.std.proofs.Common.{◌≡◌, ◌≢◌, ◌⊎◌, ◌≤◌, ◌<◌, ◌+◌, ◌++◌, ◌↔◌, ℕ, List, [], ◌∷◌, length, take, Contains, Option, Some, None, Result, Ok, Err, IfOk, IfNone, IfSome, slice_get, refl, sym, ap, subst, ◌∙◌, inl, inr, ⊎_elim, arith, length-append, eq-eqb}
use Rattle.std.specs.Prelude.{AllPairs}
use Rattle.std.specs.List.{AllByRecursion}
use Rattle.std.proofs.Math.Seq.{take-length}
use Rattle.std.proofs.lemmas.Bool.{cases_lt}
use Rattle.std.proofs.lemmas.List.{length-take-le}
use Rattle.std.proofs.lemmas.Option.{slice_get_within, slice_get_past, same_Some}
use Rattle.pssm_model.proofs.RouteLaws.{none_in_order}
use Rattle.pssm_semantics.specs.declared.entry.ObjectId.{ObjectId}
use Rattle.pssm_semantics.specs.declared.entry.Out.{Out}
use Rattle.pssm_semantics.specs.declared.entry.Entry.{Entry}
use Rattle.pssm_semantics.specs.declared.entry.Entry.TheVariants.{Post, Start, Take, Done, Exit, Effect, Enter, Opened, Pick, DoStep}
use Rattle.pssm_semantics.specs.declared.entry.Rule.TheVariants.{A1}
use Rattle.pssm_semantics.specs.declared.setting.Setting.{Setting}
use Rattle.pssm_semantics.specs.declared.setting.Class.{Class}
use Rattle.pssm_semantics.specs.declared.stimulus.Stimulus.{Stimulus}
use Rattle.pssm_semantics.specs.declared.stimulus.Task.{Task}
use Rattle.pssm_semantics.specs.declared.stimulus.Task.TheVariants as tasks
use Rattle.pssm_semantics.specs.Arguments.{ActArgsFit}
use Rattle.pssm_semantics.specs.Work.{Work, outcome_from}
use Rattle.pssm_semantics.specs.Proper.{IsWellFormed}
use Rattle.pssm_semantics.specs.Journal.{IsPost, object_of}
use Rattle.pssm_semantics.specs.Pool.{told_by, posts_of_entry, outs_of, posts_of, output_count}
use Rattle.pssm_semantics.specs.Values.{Store, Params, outcome_of}
use Rattle.pssm_semantics.specs.Behaviours.{params_at, store_of}
use Rattle.pssm_semantics.specs.Admissible.{MayFollow, IsAdmissibleIn, IsFull, KeepsJournalLimits, FitsStimuli}
use Rattle.pssm_semantics_laws.proofs.Appending.{admissible_push, admissible_none}
use Rattle.pssm_semantics_laws.proofs.Members.{first_in}
use Rattle.pssm_semantics_laws.proofs.Objects.{same_object}
use Rattle.pssm_object.specs.Following.{IsMove}
use Rattle.pssm_object.specs.Tasks.{entry_of}
use Rattle.pssm_system.specs.History.{History}
use Rattle.pssm_system.specs.Tasks.{IsReadyOf, AreReady, AreReadyFor, own_tasks, IsQuietOf}
use Rattle.pssm_system.specs.Works.{HasMade}
use Rattle.pssm_system.proofs.Choices.{move-no_post}
use Rattle.pssm_system.proofs.Following.{object_there}
use Rattle.pssm_book.specs.declared.desk.Desk.{Desk}
use Rattle.pssm_book.specs.declared.choosing.Next.{Next}
use Rattle.pssm_book.specs.declared.choosing.Next.TheVariants as nexts
use Rattle.pssm_book.specs.declared.answers.Job.{Job}
use Rattle.pssm_book.specs.declared.answers.Claimed.TheVariants as claimed
use Rattle.pssm_semantics.specs.Known.{IsStimulusOf}
use Rattle.pssm_book.specs.Stimuli.{post_of}
use Rattle.pssm_book.specs.Counts.{IsFullAt}
use Rattle.pssm_book.specs.Contents.{Contents, IsKept}
use Rattle.pssm_book.specs.Works.{behaviour_in, store_in, params_in}
use Rattle.pssm_book.specs.Claiming.{IsOpen, IsBusy, HasMoved, HasClaimed, CarriesWork}
use Rattle.pssm_book.specs.Committing.{IsItsWork, IsUpToDate}
use Rattle.pssm_book.specs.inner.Keeping.{IsRunning, IsInOrder, contents_of, bare, HasAppended, HasHandedOut, IsFresh}
use Rattle.pssm_book.specs.inner.Nexts.{PostsNext, IsNext, waiting_at, IsAppended, HasNothingOpen, IsStill, Finds, FindsWithin, FindsAmong, HaveNothing, HasNothingOf, AreOutOf, AreOutFirst}
use Rattle.pssm_book.specs.inner.Coming.{IsQuietlyEnded, IsOpenEnded, Comes}
use Rattle.pssm_book.proofs.ListLaws.{got_member, member_got, apart_more}
use Rattle.pssm_book.proofs.PostLaws.{post_follows}
use Rattle.pssm_book.proofs.RunLaws.{none_past, waiting_known, running_start, full_counted, counted_full, fits, running_more, limits_more}
use Rattle.pssm_book.proofs.TaskLaws.{work_follows, work_makes, store_is, ready_unquiet, ready_unquiet_of, quiet_of_none}

-- ---- a new desk

pub new_order : (desk : Desk) (setting : Setting) (stimuli : List Stimulus) (limit : ℕ) → IsFresh setting stimuli limit desk → desk.posted ≡ 0 → desk.outputs ≡ 0
    → IsWellFormed setting → AllByRecursion (IsStimulusOf setting) stimuli → limit ≤ 1000000 → IsInOrder desk
new_order desk setting stimuli limit fresh posted outputs formed known low = record {
  well_formed = subst IsWellFormed (sym fresh.setting_is) formed;
  admissible = subst (IsAdmissibleIn desk.system.setting) (sym fresh.journal) (admissible_none desk.system.setting);
  running =
      subst (λ n. IsRunning desk.system.setting desk.stimuli.items desk.limit desk.system n desk.outputs) (sym posted)
      (subst (λ n. IsRunning desk.system.setting desk.stimuli.items desk.limit desk.system 0 n) (sym outputs)
      (running_start desk.system.setting desk.stimuli.items desk.limit desk.system refl fresh.journal));
  known =
      subst (λ s. AllByRecursion (IsStimulusOf s) desk.stimuli.items) (sym fresh.setting_is)
      (subst (AllByRecursion (IsStimulusOf setting)) (sym fresh.stimuli_are) known);
  low = subst (λ n. n ≤ 1000000) (sym fresh.limit_is) low;
  few_claims = let none = ap (λ (xs : List (ObjectId × Task)). length xs) fresh.claims in omega (arith, none);
  apart = subst (AllPairs (λ a b. a ≢ b)) (sym fresh.claims) (none_in_order (λ (a b : ObjectId × Task). a ≢ b));
}

-- the same but for room, or with other claims
pub order_same : (old new : Desk) → IsInOrder old → new.system ≡ old.system → new.stimuli.items ≡ old.stimuli.items → new.limit ≡ old.limit → new.posted ≡ old.posted
    → new.outputs ≡ old.outputs → length new.claims.items ≤ 65536 → AllPairs (λ a b. a ≢ b) new.claims.items → IsInOrder new
order_same old new order run stimuli limit posted outputs few apart = record {
  well_formed = subst (λ (h : History). IsWellFormed h.setting) (sym run) order.well_formed;
  admissible = subst (λ (h : History). IsAdmissibleIn h.setting h.journal) (sym run) order.admissible;
  running =
      subst (λ (h : History). IsRunning h.setting new.stimuli.items new.limit h new.posted new.outputs) (sym run)
      (subst (λ xs. IsRunning old.system.setting xs new.limit old.system new.posted new.outputs) (sym stimuli)
      (subst (λ n. IsRunning old.system.setting old.stimuli.items n old.system new.posted new.outputs) (sym limit)
      (subst (λ n. IsRunning old.system.setting old.stimuli.items old.limit old.system n new.outputs) (sym posted)
      (subst (λ n. IsRunning old.system.setting old.stimuli.items old.limit old.system old.posted n) (sym outputs) order.running))));
  known =
      subst (λ (h : History). AllByRecursion (IsStimulusOf h.setting) new.stimuli.items) (sym run)
      (subst (AllByRecursion (IsStimulusOf old.system.setting)) (sym stimuli) order.known);
  low = subst (λ n. n ≤ 1000000) (sym limit) order.low;
  few_claims = few;
  apart = apart;
}

-- ---- full or not

module _ (desk : Desk) (order : IsInOrder desk) where
  pub full_is : IsFullAt desk.limit (length desk.system.journal) desk.outputs ↔ IsFull desk.limit desk.system.journal
  full_is = (
    λ full. full_counted desk.system.setting desk.stimuli.items desk.limit desk.system desk.posted desk.outputs order.running full,
    λ full. counted_full desk.system.setting desk.stimuli.items desk.limit desk.system desk.posted desk.outputs order.running full,
  )

  -- so many posts as are posted
  pub posted_is : length (posts_of desk.system.journal) ≡ desk.posted
  posted_is = ap (λ (xs : List Stimulus). length xs) order.running.posts ∙ length-take-le desk.posted desk.stimuli.items order.running.within

  -- while a stimulus waits, not all are posted
  pub some_waits : desk.posted < length desk.stimuli.items → posts_of desk.system.journal ≡ desk.stimuli.items → ⊥
  some_waits waits all = let long = ap (λ (xs : List Stimulus). length xs) all in let count = posted_is in absurd (omega (arith, long, count, waits))

  -- where none waits, all are posted
  pub all_posted : waiting_at desk ≡ None → posts_of desk.system.journal ≡ desk.stimuli.items
  all_posted none =
      let past = none_past desk.stimuli.items desk.posted none in
      let within = order.running.within in
      let all : desk.posted ≡ length desk.stimuli.items = omega (arith, past, within) in
      order.running.posts ∙ ap (λ (n : ℕ). take n desk.stimuli.items) all ∙ take-length desk.stimuli.items

  pub fits_stimuli : FitsStimuli desk.system.journal desk.stimuli.items
  fits_stimuli = fits desk.system.setting desk.stimuli.items desk.limit desk.system desk.posted desk.outputs order.running

-- with room, there are few outputs
pub roomy : (desk : Desk) → IsInOrder desk → (IsFull desk.limit desk.system.journal → ⊥) → desk.outputs ≤ 1999936
roomy desk order room =
    let counted = order.running.outputs_are in
    let apart : (1999936 < output_count desk.system.journal) → ⊥ = λ many. room (inr many) in
    omega arith

-- ---- an entry is appended

module _ (old new : Desk) (order : IsInOrder old) (e : Entry) (room : IsFull old.limit old.system.journal → ⊥) (next : IsNext old.system (waiting_at old) e)
    (same : new.system.setting ≡ old.system.setting) (grown : new.system.journal ≡ old.system.journal ++ e ∷ [])
    (posted : new.posted ≡ old.posted + length (posts_of_entry e)) (outputs : new.outputs ≡ old.outputs + (length (posts_of_entry e) + length (outs_of e)))
    (stimuli : new.stimuli.items ≡ old.stimuli.items) (limit : new.limit ≡ old.limit) (claims : new.claims.items ≡ old.claims.items) where
  running : IsRunning new.system.setting new.stimuli.items new.limit new.system new.posted new.outputs
  running =
      subst (λ s. IsRunning s new.stimuli.items new.limit new.system new.posted new.outputs) (sym same)
      (subst (λ xs. IsRunning old.system.setting xs new.limit new.system new.posted new.outputs) (sym stimuli)
      (subst (λ n. IsRunning old.system.setting old.stimuli.items n new.system new.posted new.outputs) (sym limit)
      (subst (λ n. IsRunning old.system.setting old.stimuli.items old.limit new.system n new.outputs) (sym posted)
      (subst (λ n. IsRunning old.system.setting old.stimuli.items old.limit new.system (old.posted + length (posts_of_entry e)) n) (sym outputs)
      (running_more old.system.setting old.stimuli.items old.limit old.system old.posted old.outputs order.running (λ full. room ((full_is old order).0 full)) e next
      new.system (length (posts_of_entry e)) (length (posts_of_entry e)) (length (outs_of e)) same grown refl refl refl)))))

  admissible : IsAdmissibleIn new.system.setting new.system.journal
  admissible =
      subst (λ s. IsAdmissibleIn s new.system.journal) (sym same)
      (subst (IsAdmissibleIn old.system.setting) (sym grown) (admissible_push old.system.setting old.system.journal e order.admissible next.follows))

  pub appended : HasAppended old e new
  appended = record {
    in_order = record {
      well_formed = subst IsWellFormed (sym same) order.well_formed;
      admissible = admissible;
      running = running;
      known =
          subst (λ s. AllByRecursion (IsStimulusOf s) new.stimuli.items) (sym same)
          (subst (AllByRecursion (IsStimulusOf old.system.setting)) (sym stimuli) order.known);
      low = subst (λ n. n ≤ 1000000) (sym limit) order.low;
      few_claims = subst (λ (xs : List (ObjectId × Task)). length xs ≤ 65536) (sym claims) order.few_claims;
      apart = subst (AllPairs (λ a b. a ≢ b)) (sym claims) order.apart;
    };
    setting = same;
    journal = grown;
    stimuli = stimuli;
    limit = limit;
    claims = claims;
  }

-- the journal stays within its limits
pub append_limits : (old : Desk) → IsInOrder old → (e : Entry) → (IsFull old.limit old.system.journal → ⊥) → IsNext old.system (waiting_at old) e
    → KeepsJournalLimits (old.system.journal ++ e ∷ [])
append_limits old order e room next =
    limits_more old.system.setting old.stimuli.items old.limit old.system old.posted old.outputs order.running (λ full. room ((full_is old order).0 full)) e next
    order.well_formed order.low

-- ---- what may come next

-- the stimulus that waits is known
pub post_known : (desk : Desk) → IsInOrder desk → (x : Stimulus) → waiting_at desk ≡ Some x → IsStimulusOf desk.system.setting x
post_known desk order x waits =
    subst (λ (o : Option Stimulus). IfSome o (IsStimulusOf desk.system.setting)) waits
    (waiting_known desk.system.setting desk.stimuli.items desk.posted order.known)

-- the post of the stimulus that waits
pub post_next : (desk : Desk) → IsInOrder desk → (x : Stimulus) → waiting_at desk ≡ Some x → IsStimulusOf desk.system.setting x → IsAppended desk (post_of x)
post_next desk order x waits known = record {
  next = record { follows = post_follows desk.system.setting desk.system.journal x known; posts = inr (x, waits, refl) };
  kind = inl tt;
}

-- a move posts nothing
move_posts_none : (e : Entry) → IsMove e → posts_of_entry e ≡ []
move_posts_none (Post o signal args) move = absurd move
move_posts_none (Start o) move = refl
move_posts_none (Take o number firing) move = refl
move_posts_none (Done o v firing) move = refl
move_posts_none (Opened o r mode how) move = refl
move_posts_none (Pick o v route) move = refl
move_posts_none (Exit o v outs) move = absurd move
move_posts_none (Effect o t outs) move = absurd move
move_posts_none (Enter o v outs) move = absurd move
move_posts_none (DoStep o v k outs) move = absurd move

pub move_next : (desk : Desk) (e : Entry) → IsMove e → MayFollow desk.system.setting desk.system.journal e → IsAppended desk e
move_next desk e move may = record {
  next = record { follows = may; posts = inl (move_posts_none e move) };
  kind = inr move;
}

-- a post posts the stimulus that waits
post_waits : (desk : Desk) (e : Entry) → IsPost e → PostsNext (waiting_at desk) e → desk.posted < length desk.stimuli.items
post_waits desk (Post o signal args) post (inl none) = absurd cc
post_waits desk (Post o signal args) post (inr some) = slice_get_within desk.stimuli.items desk.posted some.0 some.1
post_waits desk (Start o) post h = absurd post
post_waits desk (Take o number firing) post h = absurd post
post_waits desk (Done o v firing) post h = absurd post
post_waits desk (Exit o v outs) post h = absurd post
post_waits desk (Effect o t outs) post h = absurd post
post_waits desk (Enter o v outs) post h = absurd post
post_waits desk (Opened o r mode how) post h = absurd post
post_waits desk (Pick o v route) post h = absurd post
post_waits desk (DoStep o v k outs) post h = absurd post

-- what may come next beside a post may come next
pub within_next : (desk : Desk) (next : Next) → FindsWithin desk (Some next) → Finds desk next
within_next desk (nexts.Append e) found = move_next desk e found.0 found.1
within_next desk (nexts.Work o task) found = found
within_next desk nexts.Wait found = absurd found
within_next desk nexts.End found = absurd found

-- where all stimuli are posted, none waits
pub none_waits : (desk : Desk) → length desk.stimuli.items ≤ desk.posted → waiting_at desk ≡ None
none_waits desk past = slice_get_past desk.stimuli.items desk.posted past

-- a ready task of an object that is not among the claims
-- an object of which nothing but a post may follow has nothing
pub quiet_nothing : (desk : Desk) → IsInOrder desk → (o : ObjectId) → IsQuietOf desk.system.setting desk.system.journal o → HasNothingOf desk o
quiet_nothing desk order o quiet = record {
  no_move = λ e own move may. quiet e own (move-no_post e move) may;
  all_out = λ task ready. absurd (ready_unquiet_of order.well_formed order.admissible o task ready quiet);
}

pub open_of_listed : (desk : Desk) (o : ObjectId) (i : ℕ) (task : Task)
    → AreReadyFor desk.system.setting desk.system.journal o (own_tasks o desk.system.tasks) → slice_get (own_tasks o desk.system.tasks) i ≡ Some task
    → (Contains desk.claims.items (o, task) → ⊥) → IsOpen desk.system desk.claims.items o task
open_of_listed desk o i task listed at free = record { ready = (listed.each task).0 (got_member (own_tasks o desk.system.tasks) i task at); free = free }

-- one more of the object's tasks is among the claims
pub out_first_more : (desk : Desk) (o : ObjectId) (n : ℕ) (task : Task) → AreOutFirst desk o n → slice_get (own_tasks o desk.system.tasks) n ≡ Some task
    → Contains desk.claims.items (o, task) → AreOutFirst desk o (n + 1)
out_first_more desk o n task so_far at inside k other less there =
    ⊎_elim (λ (below : k < n). so_far k other below there)
    (λ (past : n ≤ k).
    let place : k ≡ n = omega (arith, less, past) in
    let same : task ≡ other = same_Some task other (sym at ∙ ap (λ (j : ℕ). slice_get (own_tasks o desk.system.tasks) j) (sym place) ∙ there) in
    subst (λ (t : Task). Contains desk.claims.items (o, t)) same inside)
    (cases_lt k n)

-- where all that are listed are, all that are ready are
pub out_of_first : (desk : Desk) (o : ObjectId) (n : ℕ) → AreReadyFor desk.system.setting desk.system.journal o (own_tasks o desk.system.tasks)
    → length (own_tasks o desk.system.tasks) ≤ n → AreOutFirst desk o n → AreOutOf desk o
out_of_first desk o n listed all first task ready =
    let at = member_got (own_tasks o desk.system.tasks) task ((listed.each task).1 ready) in
    let within = slice_get_within (own_tasks o desk.system.tasks) at.0 task at.1 in
    first at.0 task (omega (arith, within, all)) at.1

-- one object more
pub nothing_of_more : (desk : Desk) (from : ℕ) (o : ObjectId) → HaveNothing desk from o.0 → HasNothingOf desk o → HaveNothing desk from (o.0 + 1)
nothing_of_more desk from o so_far here other le less =
    ⊎_elim (λ (below : other.0 < o.0). so_far other le below)
    (λ (past : o.0 ≤ other.0).
    let place : o.0 ≡ other.0 = omega (arith, less, past) in
    subst (HasNothingOf desk) (same_object o other (eq-eqb o.0 other.0 place)) here)
    (cases_lt other.0 o.0)

-- all objects
pub nothing_open : (desk : Desk) (count : ℕ) → count ≡ length desk.system.setting.objects
    → ((o : ObjectId) → o.0 < count → HasNothingOf desk o) → HasNothingOpen desk
nothing_open desk count all each = record {
  no_move = λ e move may.
      let there = object_there desk.system.setting (object_of e) (may A1).0 (may A1).1 in
      (each (object_of e) (omega (arith, there, all))).no_move e refl move may;
  all_out = λ o task ready.
      let there = object_there desk.system.setting o ready.class ready.class_is in
      (each o (omega (arith, there, all))).all_out task ready;
}

-- what was found is nothing, so there is nothing
pub none_is : {P : Type 0} (found : Option Next) → ((next : Next) → found ≡ Some next → ⊥) → IfNone found P → P
none_is None none is = is
none_is (Some next) none is = absurd (none next refl)

-- what was found of the objects before some that have nothing was found of all
pub found_before : {E : Type 0} (desk : Desk) (count first : ℕ) (back : Option Next) (front : Result (Option Next) E)
    → count ≡ length desk.system.setting.objects → back ≡ None → FindsAmong desk first count back → IfOk front (FindsAmong desk 0 first)
    → IfOk front (FindsWithin desk)
found_before desk count first None (Ok None) all none last found =
    nothing_open desk count all
    (λ o there. ⊎_elim (λ (below : o.0 < first). found o (omega arith) below) (λ (past : first ≤ o.0). last o past there) (cases_lt o.0 first))
found_before desk count first (Some next) (Ok None) all none last found = absurd cc
found_before desk count first back (Ok (Some next)) all none last found = found
found_before desk count first back (Err fault) all none last found = tt

-- there is no object
pub nothing_there : (desk : Desk) (count : ℕ) → count ≡ length desk.system.setting.objects → count ≡ 0 → HasNothingOpen desk
nothing_there desk count all none = nothing_open desk count all (λ o there. absurd (omega (arith, there, none)))

-- no task is listed, so none is ready; or one is
pub none_listed : (desk : Desk) → AreReady desk.system.setting desk.system.journal desk.system.tasks → length desk.system.tasks ≡ 0 → (o : ObjectId) (task : Task)
    → IsReadyOf desk.system.setting desk.system.journal o task → ⊥
none_listed desk listed none o task ready = let inside = (listed.each o task).1 ready in let less = inside.1 in absurd (omega (arith, less, none))

pub one_listed : (desk : Desk) → AreReady desk.system.setting desk.system.journal desk.system.tasks → (length desk.system.tasks ≡ 0 → ⊥)
    → (o : ObjectId) × (task : Task) × IsReadyOf desk.system.setting desk.system.journal o task
one_listed desk listed some = by desk.system.tasks refl where
  by : (ts : List (ObjectId × Task)) → desk.system.tasks ≡ ts → (o : ObjectId) × (task : Task) × IsReadyOf desk.system.setting desk.system.journal o task
  by [] at = absurd (some (ap (λ (xs : List (ObjectId × Task)). length xs) at))
  by (t ∷ ts) at = (t.0, t.1, (listed.each t.0 t.1).0 (subst (λ (xs : List (ObjectId × Task)). Contains xs t) (sym at) (first_in t ts)))

-- ---- what comes of a claim

-- the journal has not ended quietly, and no claim is waited for, where an entry may be appended
module _ (old : Desk) (order : IsInOrder old) (room : IsFull old.limit old.system.journal → ⊥) where
  pub moved_comes : (new : Desk) (e : Entry) → IsAppended old e → HasAppended old e new → Comes (bare old) claimed.Moved (bare new)
  moved_comes new e next has = (
    record { room = room; unended = unended },
    record { entry = e; kind = next.kind; follows = next.next.follows; journal = has.journal; claims = has.claims },
    λ out busy. ⊎_elim (λ post. some_waits old order (post_waits old e post next.next.posts) busy.all_posted) (λ move. busy.no_move e move next.next.follows)
        next.kind,
  )
    where
      unended : IsQuietlyEnded (bare old) → ⊥
      unended ended =
          ⊎_elim (λ post. some_waits old order (post_waits old e post next.next.posts) ended.all_posted)
          (λ move. ended.quiet e (move-no_post e move) next.next.follows) next.kind

  pub job_comes : (new : Desk) (job : Job) (o : ObjectId) (task : Task) → IsOpen old.system old.claims.items o task → (job.object ≡ o) × (job.task ≡ task)
      → HasHandedOut old o task new → CarriesWork old.system job → ActArgsFit job.act → Comes (bare old) (claimed.Job job) (bare new)
  job_comes new job o task is_open names has carries runs = (
    record { room = room; unended = λ ended. ready_unquiet order.well_formed order.admissible o task is_open.ready ended.quiet },
    subst (λ (q : ObjectId). HasClaimed (bare old) q job.task (bare new)) (sym names.0)
        (subst (λ (t : Task). HasClaimed (bare old) o t (bare new)) (sym names.1) (record { was_open = is_open; run = has.run; claims = has.claims })),
    carries,
    runs,
  )

  pub busy_comes : IsStill old → ((o : ObjectId) × (task : Task) × IsReadyOf old.system.setting old.system.journal o task) → (out : ℕ) → out ≡ length old.claims.items
      → Comes (bare old) (claimed.Busy out) (bare old)
  busy_comes still some out count = (
    record {
      room = room;
      goes_on = λ ended. ready_unquiet order.well_formed order.admissible some.0 some.1 some.2 ended.quiet;
      all_out = still.nothing.all_out;
      all_posted = all_posted old order still.none_waits;
      no_move = still.nothing.no_move;
      count = count;
      some = let less = (still.nothing.all_out some.0 some.1 some.2).1 in omega (arith, less, count);
    },
    refl,
  )

  pub quiet_comes : IsStill old → ((o : ObjectId) (task : Task) → IsReadyOf old.system.setting old.system.journal o task → ⊥) → Comes (bare old) claimed.Quiet (bare old)
  quiet_comes still none = (
    record {
      not_full = room;
      all_posted = all_posted old order still.none_waits;
      quiet = quiet_of_none order.well_formed order.admissible still.nothing.no_move none;
    },
    refl,
  )

-- ---- the entry of a task

task_posts_none : (o : ObjectId) (task : Task) (outs : List Out) → posts_of_entry (entry_of o task outs) ≡ []
task_posts_none o (tasks.Exit s) outs = refl
task_posts_none o (tasks.Effect t) outs = refl
task_posts_none o (tasks.Enter s) outs = refl
task_posts_none o (tasks.DoStep s k) outs = refl

pub task_next : (desk : Desk) → IsInOrder desk → (task : Task) (work : Work) → IsUpToDate desk.system desk.claims.items task work
    → IsNext desk.system (waiting_at desk) (entry_of work.own task (outcome_from work).outs)
task_next desk order task work up =
    let r = up.work_is.ready in
    let class = r.class in
    let store : work.store ≡ store_of class (told_by desk.system.journal) desk.system.journal work.own =
    up.store ∙ store_is order.well_formed order.admissible work.own r.class_is in
    let may = work_follows order.well_formed order.admissible work.own r.class_is task work.act r.ready up.work_is.act in
    let by_store = subst (λ (xs : Store). MayFollow desk.system.setting desk.system.journal
    (entry_of work.own task (outcome_of work.act work.own xs (params_at (told_by desk.system.journal) desk.system.journal (entry_of work.own task []))).outs)) (sym store) may in
    record {
      follows = subst (λ (ps : Params). MayFollow desk.system.setting desk.system.journal (entry_of work.own task (outcome_of work.act work.own work.store ps).outs))
          (sym up.work_is.params) by_store;
      posts = inl (task_posts_none work.own task (outcome_from work).outs);
    }

-- what was run for it made what its behaviour makes
pub task_made : (desk : Desk) → IsInOrder desk → (task : Task) (work : Work) → IsUpToDate desk.system desk.claims.items task work
    → HasMade desk.system.setting desk.system.journal (entry_of work.own task (outcome_from work).outs) work
task_made desk order task work up k there =
    let r = up.work_is.ready in
    let store : work.store ≡ store_of r.class (told_by desk.system.journal) desk.system.journal work.own =
    up.store ∙ store_is order.well_formed order.admissible work.own r.class_is in
    ap (λ (xs : Store). outcome_of work.act work.own xs work.params) store
    ∙ ap (λ (ps : Params). outcome_of work.act work.own (store_of r.class (told_by desk.system.journal) desk.system.journal work.own) ps) up.work_is.params
    ∙ work_makes order.well_formed order.admissible work.own r.class_is task (outcome_from work).outs work.act up.work_is.act k there

-- ---- what the type keeps

pub kept : (desk : Desk) (total : ℕ) → IsInOrder desk → total ≡ length desk.system.journal → IsKept (contents_of desk total)
kept desk total order counted = record {
  well_formed = order.well_formed;
  admissible = order.admissible;
  known = order.known;
  fits = fits_stimuli desk order;
  low = order.low;
  few = order.running.few;
  counted = counted;
  apart = order.apart;
}
