-- What may come next at a desk.
use Rattle.std.specs.Prelude.{◌≡◌, ◌⊎◌, ◌<◌, ◌≤◌, ℕ, [], ◌∷◌, Option, Some, None, slice_get, Contains}
use Rattle.pssm_semantics.specs.declared.entry.ObjectId.{ObjectId}
use Rattle.pssm_semantics.specs.declared.entry.Entry.{Entry}
use Rattle.pssm_semantics.specs.declared.stimulus.Stimulus.{Stimulus}
use Rattle.pssm_semantics.specs.declared.stimulus.Task.{Task}
use Rattle.pssm_semantics.specs.Journal.{IsPost}
use Rattle.pssm_semantics.specs.Pool.{posts_of_entry}
use Rattle.pssm_semantics.specs.Admissible.{MayFollow}
use Rattle.pssm_object.specs.Following.{IsMove}
use Rattle.pssm_system.specs.History.{History}
use Rattle.pssm_system.specs.Tasks.{IsReadyOf, own_tasks, HasNoMove, HasNoMoveOf}
use Rattle.pssm_book.specs.declared.desk.Desk.{Desk}
use Rattle.pssm_book.specs.declared.choosing.Next.{Next}
use Rattle.pssm_book.specs.declared.choosing.Next.TheVariants.{Append, Work, Wait, End}
use Rattle.pssm_book.specs.Claiming.{IsOpen, AreAllOut}

-- The entry posts nothing, or the stimulus that waits.
abbrev pub PostsNext : Option Stimulus → Entry → Type 0
PostsNext waiting e = (posts_of_entry e ≡ []) ⊎ ((x : Stimulus) × (waiting ≡ Some x) × (posts_of_entry e ≡ x ∷ []))

-- The entry breaks no rule, and posts nothing but the stimulus that waits.
pub record IsNext (run : History) (waiting : Option Stimulus) (e : Entry) : Type 0 where
  pub follows : MayFollow run.setting run.journal e
  pub posts : PostsNext waiting e

-- the stimulus that waits, if there is one
abbrev pub waiting_at : Desk → Option Stimulus
waiting_at desk = slice_get desk.stimuli.items desk.posted

-- an entry that the desk may append, which is a post or a move
pub record IsAppended (desk : Desk) (e : Entry) : Type 0 where
  pub next : IsNext desk.system (waiting_at desk) e
  pub kind : IsPost e ⊎ IsMove e

-- No move may come, and every ready task is handed out.
pub record HasNothingOpen (desk : Desk) : Type 0 where
  pub no_move : HasNoMove desk.system.setting desk.system.journal
  pub all_out : AreAllOut desk.system desk.claims.items

-- No stimulus waits either.
pub record IsStill (desk : Desk) : Type 0 where
  pub none_waits : waiting_at desk ≡ None
  pub nothing : HasNothingOpen desk

-- what may come next: an entry, a task, or nothing, where a ready task is waited for or none is ready
abbrev pub Finds : Desk → Next → Type 0
Finds desk (Append e) = IsAppended desk e
Finds desk (Work o task) = IsOpen desk.system desk.claims.items o task
Finds desk Wait = IsStill desk × ((o : ObjectId) × (task : Task) × IsReadyOf desk.system.setting desk.system.journal o task)
Finds desk End = IsStill desk × ((o : ObjectId) (task : Task) → IsReadyOf desk.system.setting desk.system.journal o task → ⊥)

-- The claims have every ready task of the object.
abbrev pub AreOutOf : Desk → ObjectId → Type 0
AreOutOf desk o = (task : Task) → IsReadyOf desk.system.setting desk.system.journal o task → Contains desk.claims.items (o, task)

-- They have so many of the object's ready tasks, the first.
abbrev pub AreOutFirst : Desk → ObjectId → ℕ → Type 0
AreOutFirst desk o count =
    (i : ℕ) (task : Task) → i < count → slice_get (own_tasks o desk.system.tasks) i ≡ Some task → Contains desk.claims.items (o, task)

-- No move of the object may come, and each of its ready tasks is handed out.
pub record HasNothingOf (desk : Desk) (o : ObjectId) : Type 0 where
  pub no_move : HasNoMoveOf desk.system.setting desk.system.journal o
  pub all_out : AreOutOf desk o

-- So it is with the objects from one number on and before another.
abbrev pub HaveNothing : Desk → ℕ → ℕ → Type 0
HaveNothing desk from to = (o : ObjectId) → from ≤ o.0 → o.0 < to → HasNothingOf desk o

-- an entry that is a move, or a task that may be handed out
abbrev pub GoesOn : Desk → Next → Type 0
GoesOn desk (Append e) = IsMove e × MayFollow desk.system.setting desk.system.journal e
GoesOn desk (Work o task) = IsOpen desk.system desk.claims.items o task
GoesOn desk Wait = ⊥
GoesOn desk End = ⊥

-- what was found of these objects: what may come next beside a post, or nothing where none of them has anything
abbrev pub FindsAmong : Desk → ℕ → ℕ → Option Next → Type 0
FindsAmong desk from to None = HaveNothing desk from to
FindsAmong desk from to (Some next) = GoesOn desk next

-- what may come next beside a post, or nothing where there is nothing
abbrev pub FindsWithin : Desk → Option Next → Type 0
FindsWithin desk None = HasNothingOpen desk
FindsWithin desk (Some next) = GoesOn desk next
