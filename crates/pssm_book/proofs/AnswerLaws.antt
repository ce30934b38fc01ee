-- What the calls of a book promise, from what each answer says.
use Rattle.std.proofs.Common.{◌≡◌, ◌↔◌, ◌+◌, ◌++◌, ℕ, ℤ, List, [], ◌∷◌, length, slice_get, refl, sym, ap, subst, ◌∙◌, arith, length-append}
use Rattle.std.proofs.lemmas.Option.{same_Some}
use Rattle.pssm_semantics.specs.declared.entry.ObjectId.{ObjectId}
use Rattle.pssm_semantics.specs.declared.entry.Entry.{Entry}
use Rattle.pssm_semantics.specs.declared.stimulus.Task.{Task}
use Rattle.pssm_semantics.specs.Work.{Work}
use Rattle.pssm_semantics.specs.Admissible.{IsFull}
use Rattle.pssm_system.specs.History.{History}
use Rattle.pssm_book.specs.declared.desk.Desk.{Desk}
use Rattle.pssm_book.specs.declared.answers.Job.{Job}
use Rattle.pssm_book.specs.declared.answers.Claimed.{Claimed}
use Rattle.pssm_book.specs.declared.answers.Claimed.TheVariants as claimed
use Rattle.pssm_book.specs.declared.answers.Committed.{Committed}
use Rattle.pssm_book.specs.declared.answers.Committed.TheVariants as committed
use Rattle.pssm_book.specs.Contents.{Contents, KeepsTerms}
use Rattle.pssm_book.specs.Claiming.{IsBusy, HasMoved, HasClaimed, CarriesWork, MayRun, IsRefusal}
use Rattle.pssm_book.specs.Committing.{IsItsWork, DifferFirst, IsStale, IsUpToDate, HasDone}
use Rattle.pssm_book.specs.inner.Keeping.{contents_of, bare, IsUnchanged}
use Rattle.pssm_book.specs.inner.Coming.{IsQuietlyEnded, Comes, entries_by_claim, Commits, entries_by_commit}
use Rattle.pssm_book.proofs.ListLaws.{differ_apart, one_place}

-- no list is longer than itself
pub no_longer : {X : Type 0} (xs : List X) (x : X) → xs ≡ xs ++ x ∷ [] → ⊥
no_longer xs x e = let more = length-append xs (x ∷ []) in let same = ap (λ (ys : List _). length ys) e in absurd (omega (arith, more, same))

-- ---- with a total

pub same_contents : (old new : Desk) (was now : ℕ) → bare new ≡ bare old → now ≡ was → contents_of new now ≡ contents_of old was
same_contents old new was now same total =
    ap (λ (c : Contents). let d : Contents = record { run = c.run; stimuli = c.stimuli; limit = c.limit; claims = c.claims; total = now } in d) same
    ∙ ap (λ (n : ℕ). contents_of old n) total

pub unchanged_contents : (old new : Desk) (was now : ℕ) → IsUnchanged old new → now ≡ was → contents_of new now ≡ contents_of old was
unchanged_contents old new was now u total =
    ap (λ (h : History). let d : Contents = record { run = h; stimuli = new.stimuli.items; limit = new.limit; claims = new.claims.items; total = now } in d) u.run
    ∙ ap (λ (xs : List _). let d : Contents = record { run = old.system; stimuli = xs; limit = new.limit; claims = new.claims.items; total = now } in d) u.stimuli
    ∙ ap (λ (n : ℕ). let d : Contents = record { run = old.system; stimuli = old.stimuli.items; limit = n; claims = new.claims.items; total = now } in d) u.limit
    ∙ ap (λ (xs : List (ObjectId × Task)). let d : Contents = record { run = old.system; stimuli = old.stimuli.items; limit = old.limit; claims = xs; total = now } in d) u.claims
    ∙ ap (λ (n : ℕ). contents_of old n) total

-- what has come of a claim, with the totals
pub comes_with : (old new : Desk) (a : Claimed) (was now : ℕ) → Comes (bare old) a (bare new) → now ≡ was + entries_by_claim a → Comes (contents_of old was) a (contents_of new now)
comes_with old new claimed.Full was now h total = (h.0, same_contents old new was now h.1 (omega (arith, total)))
comes_with old new claimed.Quiet was now h total = (
  record { not_full = h.0.not_full; all_posted = h.0.all_posted; quiet = h.0.quiet },
  same_contents old new was now h.1 (omega (arith, total)),
)
comes_with old new (claimed.Busy out) was now h total = (
  record {
    room = h.0.room;
    goes_on = h.0.goes_on;
    all_out = h.0.all_out;
    all_posted = h.0.all_posted;
    no_move = h.0.no_move;
    count = h.0.count;
    some = h.0.some;
  },
  same_contents old new was now h.1 (omega (arith, total)),
)
comes_with old new claimed.Moved was now h total = (
  record { room = h.0.room; unended = h.0.unended },
  record { entry = h.1.entry; kind = h.1.kind; follows = h.1.follows; journal = h.1.journal; claims = h.1.claims },
  λ out b. h.2 out (record {
    room = b.room;
    goes_on = b.goes_on;
    all_out = b.all_out;
    all_posted = b.all_posted;
    no_move = b.no_move;
    count = b.count;
    some = b.some;
  }),
)
comes_with old new (claimed.Job job) was now h total = (
  record { room = h.0.room; unended = h.0.unended },
  record { was_open = h.1.was_open; run = h.1.run; claims = h.1.claims },
  h.2,
  h.3,
)

pub commits_with : (old new : Desk) (task : Task) (work : Work) (a : Committed) (was now : ℕ) → Commits (bare old) task work a (bare new)
    → Commits (contents_of old was) task work a (contents_of new now)
commits_with old new task work (committed.Gone other) was now h = h
commits_with old new task work (committed.Stale place here there) was now h = h
commits_with old new task work committed.Full was now h = h
commits_with old new task work committed.Done was now h = h

-- ---- claims

module _ (old new : Contents) where
  -- how much longer the journal is
  pub longer_by : (a : Claimed) → Comes old a new → length new.run.journal ≡ length old.run.journal + entries_by_claim a
  longer_by claimed.Full h = let same = ap (λ (c : Contents). length c.run.journal) h.1 in omega (arith, same)
  longer_by claimed.Quiet h = let same = ap (λ (c : Contents). length c.run.journal) h.1 in omega (arith, same)
  longer_by (claimed.Busy out) h = let same = ap (λ (c : Contents). length c.run.journal) h.1 in omega (arith, same)
  longer_by claimed.Moved h =
      let more = length-append old.run.journal (h.1.entry ∷ []) in
      let is = ap (λ (xs : List Entry). length xs) h.1.journal in
      omega (arith, more, is)
  longer_by (claimed.Job job) h = let same = ap (λ (r : History). length r.journal) h.1.run in omega (arith, same)

  -- a move is none where nothing has changed
  not_moved : new.run ≡ old.run → HasMoved old new → ⊥
  not_moved same m = no_longer old.run.journal m.entry (sym (ap (λ (r : History). r.journal) same) ∙ m.journal)

  not_claimed : new.claims ≡ old.claims → (o : ObjectId) (task : Task) → HasClaimed old o task new → ⊥
  not_claimed same o task h = no_longer old.claims (o, task) (sym same ∙ h.claims)

  same_run : new ≡ old → new.run ≡ old.run
  same_run e = ap (λ (c : Contents). c.run) e

  same_claims : new ≡ old → new.claims ≡ old.claims
  same_claims e = ap (λ (c : Contents). c.claims) e

  pub full_comes : (a : Claimed) → Comes old a new → (a ≡ claimed.Full) ↔ IsFull old.limit old.run.journal
  full_comes claimed.Full h = (λ e. h.0, λ full. refl)
  full_comes claimed.Quiet h = (λ e. absurd cc, λ full. absurd (h.0.not_full full))
  full_comes (claimed.Busy out) h = (λ e. absurd cc, λ full. absurd (h.0.room full))
  full_comes claimed.Moved h = (λ e. absurd cc, λ full. absurd (h.0.room full))
  full_comes (claimed.Job job) h = (λ e. absurd cc, λ full. absurd (h.0.room full))

  pub quiet_comes : (a : Claimed) → Comes old a new → (a ≡ claimed.Quiet) ↔ IsQuietlyEnded old
  quiet_comes claimed.Full h = (λ e. absurd cc, λ ended. absurd (ended.not_full h.0))
  quiet_comes claimed.Quiet h = (λ e. h.0, λ ended. refl)
  quiet_comes (claimed.Busy out) h = (λ e. absurd cc, λ ended. absurd (h.0.goes_on ended))
  quiet_comes claimed.Moved h = (λ e. absurd cc, λ ended. absurd (h.0.unended ended))
  quiet_comes (claimed.Job job) h = (λ e. absurd cc, λ ended. absurd (h.0.unended ended))

  pub busy_comes : (a : Claimed) → Comes old a new → (out : ℕ) → (a ≡ claimed.Busy out) ↔ IsBusy old out
  busy_comes claimed.Full h out = (λ e. absurd cc, λ busy. absurd (busy.room h.0))
  busy_comes claimed.Quiet h out = (λ e. absurd cc, λ busy. absurd (busy.goes_on h.0))
  busy_comes (claimed.Busy n) h out = (
    λ e. let same : n ≡ out = cc in subst (IsBusy old) same h.0,
    λ busy. ap (λ (k : ℕ). claimed.Busy k) (h.0.count ∙ sym busy.count),
  )
  busy_comes claimed.Moved h out = (λ e. absurd cc, λ busy. absurd (h.2 out busy))
  busy_comes (claimed.Job job) h out = (
    λ e. absurd cc,
    λ busy. absurd (h.1.was_open.free (busy.all_out job.object job.task h.1.was_open.ready)),
  )

  pub moved_comes : (a : Claimed) → Comes old a new → (a ≡ claimed.Moved) ↔ HasMoved old new
  moved_comes claimed.Full h = (λ e. absurd cc, λ m. absurd (not_moved (same_run h.1) m))
  moved_comes claimed.Quiet h = (λ e. absurd cc, λ m. absurd (not_moved (same_run h.1) m))
  moved_comes (claimed.Busy out) h = (λ e. absurd cc, λ m. absurd (not_moved (same_run h.1) m))
  moved_comes claimed.Moved h = (λ e. h.1, λ m. refl)
  moved_comes (claimed.Job job) h = (λ e. absurd cc, λ m. absurd (not_moved h.1.run m))

  pub job_comes : (a : Claimed) → Comes old a new → (job : Job) → a ≡ claimed.Job job → HasClaimed old job.object job.task new
  job_comes claimed.Full h job e = absurd cc
  job_comes claimed.Quiet h job e = absurd cc
  job_comes (claimed.Busy out) h job e = absurd cc
  job_comes claimed.Moved h job e = absurd cc
  job_comes (claimed.Job j) h job e = let same : j ≡ job = cc in subst (λ (k : Job). HasClaimed old k.object k.task new) same h.1

  pub only_job_comes : (a : Claimed) → Comes old a new → (o : ObjectId) (task : Task) → HasClaimed old o task new → (job : Job) × (a ≡ claimed.Job job)
  only_job_comes claimed.Full h o task c = absurd (not_claimed (same_claims h.1) o task c)
  only_job_comes claimed.Quiet h o task c = absurd (not_claimed (same_claims h.1) o task c)
  only_job_comes (claimed.Busy out) h o task c = absurd (not_claimed (same_claims h.1) o task c)
  only_job_comes claimed.Moved h o task c = absurd (not_claimed h.1.claims o task c)
  only_job_comes (claimed.Job job) h o task c = (job, refl)

  pub carries_comes : (a : Claimed) → Comes old a new → (job : Job) → a ≡ claimed.Job job → CarriesWork old.run job
  carries_comes claimed.Full h job e = absurd cc
  carries_comes claimed.Quiet h job e = absurd cc
  carries_comes (claimed.Busy out) h job e = absurd cc
  carries_comes claimed.Moved h job e = absurd cc
  carries_comes (claimed.Job j) h job e = let same : j ≡ job = cc in subst (CarriesWork old.run) same h.2

  pub runs_comes : (a : Claimed) → Comes old a new → MayRun a
  runs_comes claimed.Full h = tt
  runs_comes claimed.Quiet h = tt
  runs_comes (claimed.Busy out) h = tt
  runs_comes claimed.Moved h = tt
  runs_comes (claimed.Job job) h = h.3

  pub refused_comes : (a : Claimed) → Comes old a new → IsRefusal a → new ≡ old
  refused_comes claimed.Full h r = h.1
  refused_comes claimed.Quiet h r = h.1
  refused_comes (claimed.Busy out) h r = h.1
  refused_comes claimed.Moved h r = absurd r
  refused_comes (claimed.Job job) h r = absurd r

-- ---- commits

-- What differs first is one place with its two values.
one_differ : (kept carried : List ℤ) (p q : ℕ) (a b c d : ℤ) → DifferFirst kept carried p a c → DifferFirst kept carried q b d → committed.Stale p a c ≡ committed.Stale q b d
one_differ kept carried p q a b c d one other =
    let place = one_place kept carried p q a b c d one other in
    let here : a ≡ b = same_Some a b (sym one.kept_is ∙ ap (λ (n : ℕ). slice_get kept n) place ∙ other.kept_is) in
    let there : c ≡ d = same_Some c d (sym one.carried_is ∙ ap (λ (n : ℕ). slice_get carried n) place ∙ other.carried_is) in
    ap (λ (n : ℕ). committed.Stale n a c) place ∙ ap (λ (k : ℤ). committed.Stale q k c) here ∙ ap (λ (k : ℤ). committed.Stale q b k) there

module _ (old new : Contents) (task : Task) (work : Work) where
  pub committed_longer : (a : Committed) → Commits old task work a new → length new.run.journal ≡ length old.run.journal + entries_by_commit a
  committed_longer (committed.Gone other) h = let same = ap (λ (r : History). length r.journal) h.2 in omega (arith, same)
  committed_longer (committed.Stale place here there) h = let same = ap (λ (r : History). length r.journal) h.1 in omega (arith, same)
  committed_longer committed.Full h = let same = ap (λ (r : History). length r.journal) h.2 in omega (arith, same)
  committed_longer committed.Done h = ap (λ (xs : List Entry). length xs) h.2 ∙ length-append old.run.journal _

  -- work that is up to date is not stale
  not_stale : (place : ℕ) (here there : ℤ) → IsUpToDate old.run old.claims task work → IsStale old.run old.claims task work place here there → ⊥
  not_stale place here there up stale = differ_apart _ work.store place here there stale.differ (sym up.store)

  pub gone_commits : (a : Committed) → Commits old task work a new → (a ≡ committed.Gone task) ↔ (IsItsWork old.run old.claims task work → ⊥)
  gone_commits (committed.Gone other) h = (λ e. h.1, λ none. ap (λ (t : Task). committed.Gone t) h.0)
  gone_commits (committed.Stale place here there) h = (λ e. absurd cc, λ none. absurd (none h.0.work_is))
  gone_commits committed.Full h = (λ e. absurd cc, λ none. absurd (none h.0.work_is))
  gone_commits committed.Done h = (λ e. absurd cc, λ none. absurd (none h.0.work_is))

  pub which_commits : (a : Committed) → Commits old task work a new → (other : Task) → a ≡ committed.Gone other → other ≡ task
  which_commits (committed.Gone t) h other e = let same : t ≡ other = cc in sym same ∙ h.0
  which_commits (committed.Stale place here there) h other e = absurd cc
  which_commits committed.Full h other e = absurd cc
  which_commits committed.Done h other e = absurd cc

  -- what differs first is one thing
  one_stale : (p q : ℕ) (a c : ℤ) (b d : ℤ) → IsStale old.run old.claims task work p a c → IsStale old.run old.claims task work q b d
      → committed.Stale p a c ≡ committed.Stale q b d
  one_stale p q a c b d s t = one_differ _ work.store p q a b c d s.differ t.differ

  pub stale_commits : (a : Committed) → Commits old task work a new → (variable : ℕ) (kept carried : ℤ)
      → (a ≡ committed.Stale variable kept carried) ↔ IsStale old.run old.claims task work variable kept carried
  stale_commits (committed.Gone other) h variable kept carried = (λ e. absurd cc, λ stale. absurd (h.1 stale.work_is))
  stale_commits (committed.Stale place here there) h variable kept carried = (
    λ e.
        let p : place ≡ variable = cc in
        let q : here ≡ kept = cc in
        let r : there ≡ carried = cc in
        subst (λ (n : ℕ). IsStale old.run old.claims task work n kept carried) p
        (subst (λ (k : ℤ). IsStale old.run old.claims task work place k carried) q
        (subst (λ (k : ℤ). IsStale old.run old.claims task work place here k) r h.0)),
    λ stale. one_stale place variable here there kept carried h.0 stale,
  )
  stale_commits committed.Full h variable kept carried = (λ e. absurd cc, λ stale. absurd (not_stale variable kept carried h.0 stale))
  stale_commits committed.Done h variable kept carried = (λ e. absurd cc, λ stale. absurd (not_stale variable kept carried h.0 stale))

  pub full_commits : (a : Committed) → Commits old task work a new
      → (a ≡ committed.Full) ↔ (IsUpToDate old.run old.claims task work × IsFull old.limit old.run.journal)
  full_commits (committed.Gone other) h = (λ e. absurd cc, λ up. absurd (h.1 up.0.work_is))
  full_commits (committed.Stale place here there) h = (λ e. absurd cc, λ up. absurd (not_stale place here there up.0 h.0))
  full_commits committed.Full h = (λ e. (h.0, h.1), λ up. refl)
  full_commits committed.Done h = (λ e. absurd cc, λ up. absurd (h.1 up.1))

  pub done_commits : (a : Committed) → Commits old task work a new
      → (a ≡ committed.Done) ↔ (IsUpToDate old.run old.claims task work × (IsFull old.limit old.run.journal → ⊥))
  done_commits (committed.Gone other) h = (λ e. absurd cc, λ up. absurd (h.1 up.0.work_is))
  done_commits (committed.Stale place here there) h = (λ e. absurd cc, λ up. absurd (not_stale place here there up.0 h.0))
  done_commits committed.Full h = (λ e. absurd cc, λ up. absurd (up.1 h.1))
  done_commits committed.Done h = (λ e. (h.0, h.1), λ up. refl)

  pub appends_commits : (a : Committed) → Commits old task work a new → a ≡ committed.Done → HasDone old task work new
  appends_commits (committed.Gone other) h e = absurd cc
  appends_commits (committed.Stale place here there) h e = absurd cc
  appends_commits committed.Full h e = absurd cc
  appends_commits committed.Done h e = h.2

  pub refused_commits : (a : Committed) → Commits old task work a new → (a ≡ committed.Done → ⊥) → new.run ≡ old.run
  refused_commits (committed.Gone other) h not_done = h.2
  refused_commits (committed.Stale place here there) h not_done = h.1
  refused_commits committed.Full h not_done = h.2
  refused_commits committed.Done h not_done = absurd (not_done refl)

-- ---- with what stands behind a book

-- the terms are those of the desk
pub terms_with : (old new : Desk) (was now : ℕ) → KeepsTerms (bare old) (bare new) → KeepsTerms (contents_of old was) (contents_of new now)
terms_with old new was now k = record { setting = k.setting; stimuli = k.stimuli; limit = k.limit }
