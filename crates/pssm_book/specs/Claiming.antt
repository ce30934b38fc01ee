-- What `claim` may come to.
use Rattle.std.specs.Prelude.{◌≡◌, ◌⊎◌, ◌<◌, ◌++◌, ℕ, List, [], ◌∷◌, length, Some, Contains}
use Rattle.pssm_semantics.specs.declared.entry.ObjectId.{ObjectId}
use Rattle.pssm_semantics.specs.declared.entry.Entry.{Entry}
use Rattle.pssm_semantics.specs.declared.stimulus.Task.{Task}
use Rattle.pssm_semantics.specs.Arguments.{ActArgsFit}
use Rattle.pssm_semantics.specs.Journal.{IsPost}
use Rattle.pssm_semantics.specs.Pool.{posts_of}
use Rattle.pssm_semantics.specs.Admissible.{MayFollow, IsFull, HasEndedQuietly}
use Rattle.pssm_object.specs.Following.{IsMove}
use Rattle.pssm_system.specs.History.{History}
use Rattle.pssm_system.specs.Tasks.{IsReadyOf, HasNoMove}
use Rattle.pssm_book.specs.declared.answers.Job.{Job}
use Rattle.pssm_book.specs.declared.answers.Claimed.{Claimed}
use Rattle.pssm_book.specs.declared.answers.Claimed.TheVariants as answers
use Rattle.pssm_book.specs.Contents.{Contents}
use Rattle.pssm_book.specs.Works.{behaviour_in, store_in, params_in}

-- a task that is ready and is not handed out (this profile's choice)
pub record IsOpen (run : History) (claims : List (ObjectId × Task)) (o : ObjectId) (task : Task) : Type 0 where
  pub ready : IsReadyOf run.setting run.journal o task
  pub free : Contains claims (o, task) → ⊥

-- Every task that is ready is handed out (this profile's choice).
abbrev pub AreAllOut : History → List (ObjectId × Task) → Type 0
AreAllOut run claims = (o : ObjectId) (task : Task) → IsReadyOf run.setting run.journal o task → Contains claims (o, task)

-- Every task of the object that is ready is handed out (this profile's choice).
abbrev pub AreAllOutOf : History → List (ObjectId × Task) → ObjectId → Type 0
AreAllOutOf run claims o = (task : Task) → IsReadyOf run.setting run.journal o task → Contains claims (o, task)

-- The journal has room and has not ended, but all that may come next are entries of tasks that are handed out, of which there are so many
-- (this profile's choice).
pub record IsBusy (c : Contents) (out : ℕ) : Type 0 where
  pub room : IsFull c.limit c.run.journal → ⊥
  pub goes_on : HasEndedQuietly c.run.setting c.stimuli c.limit c.run.journal → ⊥
  pub all_out : AreAllOut c.run c.claims
  pub all_posted : posts_of c.run.journal ≡ c.stimuli
  pub no_move : HasNoMove c.run.setting c.run.journal
  pub count : out ≡ length c.claims
  pub some : 0 < out

-- The journal has one entry more, which may follow it: a post, a start, a take, a dispatch of a completion, an opening or a pick
-- (UML 2.5.1 14.2.3.9, run to completion).
pub record HasMoved (old new : Contents) : Type 0 where
  pub entry : Entry
  pub kind : IsPost entry ⊎ IsMove entry
  pub follows : MayFollow old.run.setting old.run.journal entry
  pub journal : new.run.journal ≡ old.run.journal ++ entry ∷ []
  pub claims : new.claims ≡ old.claims

-- One ready task that was not handed out is so now, and the journal is as before (this profile's choice).
pub record HasClaimed (old : Contents) (o : ObjectId) (task : Task) (new : Contents) : Type 0 where
  pub was_open : IsOpen old.run old.claims o task
  pub run : new.run ≡ old.run
  pub claims : new.claims ≡ old.claims ++ (o, task) ∷ []

-- The job carries the behaviour of its task, and the values of the object's variables and the parameters that it is to be run on now
-- (UML 2.5.1 13.2.3, executions of behaviours).
pub record CarriesWork (run : History) (job : Job) : Type 0 where
  pub act : behaviour_in run.setting job.object job.task ≡ Some job.act
  pub store : job.store ≡ store_in run.setting run.journal job.object
  pub params : job.params ≡ params_in run.journal job.object job.task

-- A job can be run: no send or mark of its behaviour has more arguments than there may be (UML 2.5.1 13.2.3, executions of behaviours).
abbrev pub CanRun : Job → Type 0
CanRun job = ActArgsFit job.act

-- A job that is handed out may be run (UML 2.5.1 13.2.3, executions of behaviours).
abbrev pub MayRun : Claimed → Type 0
MayRun (answers.Job job) = CanRun job
MayRun _ = Unit {0}

-- The answer hands out no task and appends nothing (this profile's choice).
abbrev pub IsRefusal : Claimed → Type 0
IsRefusal (answers.Busy out) = Unit {0}
IsRefusal answers.Quiet = Unit {0}
IsRefusal answers.Full = Unit {0}
IsRefusal _ = ⊥
