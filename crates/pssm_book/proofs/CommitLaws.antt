-- What comes of a commit.
use Rattle.std.proofs.Common.{◌≡◌, ◌≤◌, ◌+◌, ◌++◌, Bool, true, false, ℕ, List, [], ◌∷◌, length, refl, sym, ap, ◌∙◌, arith}
use Rattle.pssm_semantics.specs.declared.entry.ObjectId.{ObjectId}
use Rattle.pssm_semantics.specs.declared.entry.Entry.{Entry}
use Rattle.pssm_semantics.specs.declared.entry.Out.{Out}
use Rattle.pssm_semantics.specs.declared.stimulus.Task.{Task}
use Rattle.pssm_semantics.specs.declared.stimulus.Task.TheVariants as tasks
use Rattle.pssm_semantics.specs.Pool.{posts_of_entry, outs_of, output_count}
use Rattle.pssm_semantics.specs.Work.{Work, outcome_from}
use Rattle.pssm_semantics.specs.Admissible.{IsFull, KeepsJournalLimits}
use Rattle.pssm_object.specs.Tasks.{entry_of}
use Rattle.pssm_book.specs.declared.desk.Desk.{Desk}
use Rattle.pssm_book.specs.declared.answers.Committed.{Committed}
use Rattle.pssm_book.specs.declared.answers.Committed.TheVariants as committed
use Rattle.pssm_book.specs.Contents.{KeepsTerms}
use Rattle.pssm_book.specs.Committing.{IsUpToDate}
use Rattle.pssm_book.specs.inner.Keeping.{IsInOrder, HasAppended, bare}
use Rattle.pssm_book.specs.inner.Coming.{Commits}
use Rattle.pssm_book.proofs.RunLaws.{outputs_more, limits_more}
use Rattle.pssm_book.proofs.DeskLaws.{full_is, appended, task_next}

pub true_and_false : (b : Bool) → b ≡ true → b ≡ false → ⊥
true_and_false b p q = let both : true ≡ false = sym p ∙ q in cc

-- a task posts nothing, and its entry has the outputs that it is given
task_posts : (o : ObjectId) (task : Task) (outs : List Out) → posts_of_entry (entry_of o task outs) ≡ []
task_posts o (tasks.Exit s) outs = refl
task_posts o (tasks.Effect t) outs = refl
task_posts o (tasks.Enter s) outs = refl
task_posts o (tasks.DoStep s k) outs = refl

task_outs : (o : ObjectId) (task : Task) (outs : List Out) → outs_of (entry_of o task outs) ≡ outs
task_outs o (tasks.Exit s) outs = refl
task_outs o (tasks.Effect t) outs = refl
task_outs o (tasks.Enter s) outs = refl
task_outs o (tasks.DoStep s k) outs = refl

module _ (old : Desk) (order : IsInOrder old) (room : IsFull old.limit old.system.journal → ⊥) (task : Task) (work : Work)
    (up : IsUpToDate old.system old.claims.items task work) where
  -- the journal stays within its limits
  pub task_limits : KeepsJournalLimits (old.system.journal ++ entry_of work.own task (outcome_from work).outs ∷ [])
  task_limits =
      limits_more old.system.setting old.stimuli.items old.limit old.system old.posted old.outputs order.running (λ full. room ((full_is old order).0 full))
      (entry_of work.own task (outcome_from work).outs) (task_next old order task work up) order.well_formed order.low

  -- so do the outputs
  pub task_few : old.outputs + length (outcome_from work).outs ≤ 2000000
  task_few =
      let limits = task_limits in
      let more = outputs_more old.system.journal (entry_of work.own task (outcome_from work).outs) in
      let outs = ap (λ (xs : List Out). length xs) (task_outs work.own task (outcome_from work).outs) in
      let few = limits.outputs in
      let are = order.running.outputs_are in
      omega (arith, few, more, outs, are)

  pub task_appended : (new : Desk) → new.system.setting ≡ old.system.setting
      → new.system.journal ≡ old.system.journal ++ entry_of work.own task (outcome_from work).outs ∷ [] → new.posted ≡ old.posted
      → new.outputs ≡ old.outputs + length (outcome_from work).outs → new.stimuli.items ≡ old.stimuli.items → new.limit ≡ old.limit
      → new.claims.items ≡ old.claims.items → HasAppended old (entry_of work.own task (outcome_from work).outs) new
  task_appended new same grown posted outputs stimuli limit claims =
      let none = ap (λ (xs : List _). length xs) (task_posts work.own task (outcome_from work).outs) in
      let outs = ap (λ (xs : List Out). length xs) (task_outs work.own task (outcome_from work).outs) in
      appended old new order (entry_of work.own task (outcome_from work).outs) room (task_next old order task work up) same grown
      (omega (arith, posted, none)) (omega (arith, outputs, none, outs)) stimuli limit claims

  -- what has come of it
  pub done_comes : (new : Desk) → HasAppended old (entry_of work.own task (outcome_from work).outs) new
      → Commits (bare old) task work committed.Done (bare new)
  done_comes new has = (
    record { work_is = record { claimed = up.work_is.claimed; ready = up.work_is.ready; act = up.work_is.act; params = up.work_is.params; size = up.work_is.size }; store = up.store },
    room,
    has.journal,
  )

-- the terms of the desk stay
pub terms_appended : (old new : Desk) (e : Entry) → HasAppended old e new → KeepsTerms (bare old) (bare new)
terms_appended old new e has = record { setting = has.setting; stimuli = has.stimuli; limit = has.limit }
