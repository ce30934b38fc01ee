-- What the calls of a book promise, in one piece: of the contents that a clause sees, from what the desk behind them has answered.
use Rattle.std.proofs.Common.{◌≡◌, ◌↔◌, ◌+◌, ℕ, ℤ, length, Contains, refl, sym, ap, subst, ◌∙◌, arith}
use Rattle.pssm_semantics.specs.declared.entry.ObjectId.{ObjectId}
use Rattle.pssm_semantics.specs.declared.stimulus.Task.{Task}
use Rattle.pssm_semantics.specs.Work.{Work}
use Rattle.pssm_semantics.specs.Admissible.{IsFull}
use Rattle.pssm_book.specs.declared.desk.Desk.{Desk}
use Rattle.pssm_book.specs.declared.answers.Job.{Job}
use Rattle.pssm_book.specs.declared.answers.Claimed.{Claimed}
use Rattle.pssm_book.specs.declared.answers.Claimed.TheVariants as claimed
use Rattle.pssm_book.specs.declared.answers.Committed.{Committed}
use Rattle.pssm_book.specs.declared.answers.Committed.TheVariants as committed
use Rattle.pssm_system.specs.History.{History}
use Rattle.pssm_book.specs.Contents.{Contents, KeepsTerms}
use Rattle.pssm_book.specs.Claiming.{IsBusy, HasMoved, HasClaimed, CarriesWork, MayRun, IsRefusal}
use Rattle.pssm_book.specs.Committing.{IsItsWork, IsStale, IsUpToDate, HasDone, IsWithout}
use Rattle.pssm_book.specs.inner.Keeping.{contents_of, bare, IsUnchanged, HasGivenBack}
use Rattle.pssm_book.specs.inner.Coming.{IsQuietlyEnded, Comes, entries_by_claim, Commits, entries_by_commit}
use Rattle.pssm_book.proofs.AnswerLaws.{unchanged_contents, comes_with, commits_with, full_comes, quiet_comes, busy_comes, moved_comes, job_comes, only_job_comes, carries_comes, runs_comes, refused_comes, longer_by}
use Rattle.pssm_book.proofs.AnswerLaws.{gone_commits, which_commits, stale_commits, full_commits, done_commits, appends_commits, refused_commits, committed_longer}

-- what an answer of `claim` promises
pub record ClaimSays (old : Contents) (a : Claimed) (new : Contents) : Type 0 where
  pub full : (a ≡ claimed.Full) ↔ IsFull old.limit old.run.journal
  pub quiet : (a ≡ claimed.Quiet) ↔ IsQuietlyEnded old
  pub busy : (out : ℕ) → (a ≡ claimed.Busy out) ↔ IsBusy old out
  pub moved : (a ≡ claimed.Moved) ↔ HasMoved old new
  pub job : (job : Job) → a ≡ claimed.Job job → HasClaimed old job.object job.task new
  pub only_job : (o : ObjectId) (task : Task) → HasClaimed old o task new → (job : Job) × (a ≡ claimed.Job job)
  pub carries : (job : Job) → a ≡ claimed.Job job → CarriesWork old.run job
  pub runs : MayRun a
  pub refused : IsRefusal a → new ≡ old
  pub longer : length new.run.journal ≡ length old.run.journal + entries_by_claim a

claim_says : (old new : Contents) (a : Claimed) → Comes old a new → ClaimSays old a new
claim_says old new a h = record {
  full = full_comes old new a h;
  quiet = quiet_comes old new a h;
  busy = busy_comes old new a h;
  moved = moved_comes old new a h;
  job = job_comes old new a h;
  only_job = only_job_comes old new a h;
  carries = carries_comes old new a h;
  runs = runs_comes old new a h;
  refused = refused_comes old new a h;
  longer = longer_by old new a h;
}

pub claim_seen : (before after : Desk) (was now : ℕ) (seen : Contents) → contents_of before was ≡ seen → (a : Claimed) → Comes (bare before) a (bare after)
    → now ≡ was + entries_by_claim a → ClaimSays seen a (contents_of after now)
claim_seen before after was now seen view_is a comes total =
    subst (λ (k : Contents). ClaimSays k a (contents_of after now)) view_is
    (claim_says (contents_of before was) (contents_of after now) a (comes_with before after a was now comes total))

-- what an answer of `commit` promises
pub record CommitSays (old : Contents) (task : Task) (work : Work) (a : Committed) (new : Contents) : Type 0 where
  pub gone : (a ≡ committed.Gone task) ↔ (IsItsWork old.run old.claims task work → ⊥)
  pub which : (other : Task) → a ≡ committed.Gone other → other ≡ task
  pub stale : (variable : ℕ) (kept carried : ℤ) → (a ≡ committed.Stale variable kept carried)
      ↔ IsStale old.run old.claims task work variable kept carried
  pub full : (a ≡ committed.Full) ↔ (IsUpToDate old.run old.claims task work × IsFull old.limit old.run.journal)
  pub done : (a ≡ committed.Done) ↔ (IsUpToDate old.run old.claims task work × (IsFull old.limit old.run.journal → ⊥))
  pub appends : a ≡ committed.Done → HasDone old task work new
  pub refused : (a ≡ committed.Done → ⊥) → new.run ≡ old.run
  pub longer : length new.run.journal ≡ length old.run.journal + entries_by_commit a

commit_says : (old new : Contents) (task : Task) (work : Work) (a : Committed) → Commits old task work a new → CommitSays old task work a new
commit_says old new task work a h = record {
  gone = gone_commits old new task work a h;
  which = which_commits old new task work a h;
  stale = stale_commits old new task work a h;
  full = full_commits old new task work a h;
  done = done_commits old new task work a h;
  appends = appends_commits old new task work a h;
  refused = refused_commits old new task work a h;
  longer = committed_longer old new task work a h;
}

pub commit_seen : (before after : Desk) (was now : ℕ) (seen : Contents) → contents_of before was ≡ seen → (task : Task) (work : Work) (a : Committed)
    → Commits (bare before) task work a (bare after) → CommitSays seen task work a (contents_of after now)
commit_seen before after was now seen view_is task work a commits =
    subst (λ (k : Contents). CommitSays k task work a (contents_of after now)) view_is
    (commit_says (contents_of before was) (contents_of after now) task work a (commits_with before after task work a was now commits))

-- ---- where nothing is done

pub unchanged_seen : (before after : Desk) (total : ℕ) (seen : Contents) → contents_of before total ≡ seen → IsUnchanged before after → contents_of after total ≡ seen
unchanged_seen before after total seen view_is u = unchanged_contents before after total total u refl ∙ view_is

pub unchanged_terms : (before after : Desk) (total : ℕ) (seen : Contents) → contents_of before total ≡ seen → IsUnchanged before after
    → KeepsTerms seen (contents_of after total)
unchanged_terms before after total seen view_is u =
    subst (λ (k : Contents). KeepsTerms k (contents_of after total)) view_is
    (record { setting = ap (λ (r : History). r.setting) u.run; stimuli = u.stimuli; limit = u.limit })

pub unchanged_count : (before after : Desk) (total : ℕ) → IsUnchanged before after → total ≡ length before.system.journal → total ≡ length after.system.journal
unchanged_count before after total u counted = counted ∙ sym (ap (λ (r : History). length r.journal) u.run)

pub unchanged_length : (before after : Desk) (total : ℕ) (seen : Contents) → contents_of before total ≡ seen → IsUnchanged before after
    → length after.system.journal ≡ length seen.run.journal
unchanged_length before after total seen view_is u =
    ap (λ (r : History). length r.journal) u.run ∙ ap (λ (k : Contents). length k.run.journal) view_is

-- work for a task that is not handed out changes nothing
no_entry : (old new : Contents) (task : Task) (work : Work) (a : Committed) → Commits old task work a new → (Contains old.claims (work.own, task) → ⊥)
    → entries_by_commit a ≡ 0
no_entry old new task work (committed.Gone other) h absent = refl
no_entry old new task work (committed.Stale place here there) h absent = refl
no_entry old new task work committed.Full h absent = refl
no_entry old new task work committed.Done h absent = absurd (absent h.0.work_is.claimed)

pub unclaimed_seen : (before after : Desk) (was now : ℕ) (seen : Contents) → contents_of before was ≡ seen → (task : Task) (work : Work) (a : Committed)
    → Commits (bare before) task work a (bare after) → now ≡ was + entries_by_commit a
    → ((Contains before.claims.items (work.own, task) → ⊥) → IsUnchanged before after) → (Contains seen.claims (work.own, task) → ⊥)
    → contents_of after now ≡ seen
unclaimed_seen before after was now seen view_is task work a commits total same absent =
    let free : Contains before.claims.items (work.own, task) → ⊥ =
    λ inside. absent (subst (λ (k : Contents). Contains k.claims (work.own, task)) view_is inside) in
    let none = no_entry (bare before) (bare after) task work a commits free in
    unchanged_contents before after was now (same free) (omega (arith, total, none)) ∙ view_is

-- what `release` promises
pub record ReleaseSays (old : Contents) (o : ObjectId) (task : Task) (new : Contents) : Type 0 where
  pub given_back : IsWithout old.claims (o, task) new.claims
  pub unclaimed : (Contains old.claims (o, task) → ⊥) → new ≡ old
  pub run : new.run ≡ old.run
  pub terms : KeepsTerms old new
  pub total : new.total ≡ old.total

pub release_seen : (before after : Desk) (total : ℕ) (seen : Contents) → contents_of before total ≡ seen → (o : ObjectId) (task : Task)
    → HasGivenBack before o task after → ReleaseSays seen o task (contents_of after total)
release_seen before after total seen view_is o task h =
    subst (λ (k : Contents). ReleaseSays k o task (contents_of after total)) view_is
    (record {
      given_back = h.claims;
      unclaimed = λ absent.
          unchanged_contents before after total total
          (record { run = h.run; stimuli = h.stimuli; limit = h.limit; claims = h.unclaimed absent }) refl;
      run = h.run;
      terms = record { setting = ap (λ (r : History). r.setting) h.run; stimuli = h.stimuli; limit = h.limit };
      total = refl;
    })
