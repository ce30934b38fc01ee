-- What each answer says, and what has come of the call.
use Rattle.std.specs.Prelude.{◌≡◌, ◌⊎◌, ℕ, Option, None, Some}
use Rattle.pssm_semantics.specs.declared.entry.ObjectId.{ObjectId}
use Rattle.pssm_semantics.specs.declared.stimulus.Task.{Task}
use Rattle.pssm_semantics.specs.Work.{Work}
use Rattle.pssm_semantics.specs.Arguments.{ActArgsFit}
use Rattle.pssm_semantics.specs.Admissible.{IsFull, HasEndedQuietly}
use Rattle.pssm_book.specs.declared.answers.Job.{Job}
use Rattle.pssm_book.specs.declared.answers.Claimed.{Claimed}
use Rattle.pssm_book.specs.declared.answers.Claimed.TheVariants as claimed
use Rattle.pssm_book.specs.declared.answers.Committed.{Committed}
use Rattle.pssm_book.specs.declared.answers.Committed.TheVariants as committed
use Rattle.pssm_book.specs.Contents.{Contents}
use Rattle.pssm_book.specs.Claiming.{IsBusy, HasMoved, HasClaimed, CarriesWork, AreAllOutOf}
use Rattle.pssm_book.specs.Committing.{IsItsWork, IsStale, IsUpToDate, HasDone}

-- The journal has ended quietly.
abbrev pub IsQuietlyEnded : Contents → Type 0
IsQuietlyEnded c = HasEndedQuietly c.run.setting c.stimuli c.limit c.run.journal

-- The journal has room and has not ended quietly.
pub record IsOpenEnded (c : Contents) : Type 0 where
  pub room : IsFull c.limit c.run.journal → ⊥
  pub unended : IsQuietlyEnded c → ⊥

-- what an answer of `claim` says, and what has come of the call
abbrev pub Comes : Contents → Claimed → Contents → Type 0
Comes old claimed.Full new = IsFull old.limit old.run.journal × (new ≡ old)
Comes old claimed.Quiet new = IsQuietlyEnded old × (new ≡ old)
Comes old (claimed.Busy out) new = IsBusy old out × (new ≡ old)
Comes old claimed.Moved new = IsOpenEnded old × HasMoved old new × ((out : ℕ) → IsBusy old out → ⊥)
Comes old (claimed.Job job) new = IsOpenEnded old × HasClaimed old job.object job.task new × CarriesWork old.run job × ActArgsFit job.act

-- what an answer of `claim_of` says, and what has come of the call
abbrev pub ComesOf : Contents → ObjectId → Option Job → Contents → Type 0
ComesOf old o None new = (IsFull old.limit old.run.journal ⊎ AreAllOutOf old.run old.claims o) × (new ≡ old)
ComesOf old o (Some job) new =
    (IsFull old.limit old.run.journal → ⊥) × (job.object ≡ o) × HasClaimed old o job.task new × CarriesWork old.run job × ActArgsFit job.act

-- how many entries it has appended
abbrev pub entries_by_claim : Claimed → ℕ
entries_by_claim claimed.Moved = 1
entries_by_claim _ = 0

-- what an answer of `commit` says, and what has come of the call
abbrev pub Commits : Contents → Task → Work → Committed → Contents → Type 0
Commits old task work (committed.Gone other) new = (other ≡ task) × (IsItsWork old.run old.claims task work → ⊥) × (new.run ≡ old.run)
Commits old task work (committed.Stale place here there) new = IsStale old.run old.claims task work place here there × (new.run ≡ old.run)
Commits old task work committed.Full new = IsUpToDate old.run old.claims task work × IsFull old.limit old.run.journal × (new.run ≡ old.run)
Commits old task work committed.Done new =
    IsUpToDate old.run old.claims task work × (IsFull old.limit old.run.journal → ⊥) × HasDone old task work new

-- how many entries it has appended
abbrev pub entries_by_commit : Committed → ℕ
entries_by_commit committed.Done = 1
entries_by_commit _ = 0
