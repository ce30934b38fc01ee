-- What a claim of one object's task promises, from what the desk has answered.
use Rattle.std.proofs.Common.{◌≡◌, ◌↔◌, ◌⊎◌, Option, None, Some, ◌∙◌, ℕ, length, refl, sym, ap, subst, inl, inr, ⊎_elim}
use Rattle.std.specs.Prelude.{IfSome, IfNone}
use Rattle.pssm_semantics.specs.declared.entry.ObjectId.{ObjectId}
use Rattle.pssm_semantics.specs.declared.stimulus.Task.{Task}
use Rattle.pssm_semantics.specs.Arguments.{ActArgsFit}
use Rattle.pssm_semantics.specs.Admissible.{IsFull}
use Rattle.pssm_system.specs.History.{History}
use Rattle.pssm_book.specs.declared.desk.Desk.{Desk}
use Rattle.pssm_book.specs.declared.answers.Job.{Job}
use Rattle.pssm_book.specs.declared.answers.Claimed.TheVariants as claimed
use Rattle.pssm_book.specs.Contents.{Contents, KeepsTerms}
use Rattle.pssm_book.specs.Claiming.{IsOpen, HasClaimed, CarriesWork, CanRun, AreAllOutOf}
use Rattle.pssm_book.specs.inner.Keeping.{contents_of, bare, IsInOrder, HasHandedOut}
use Rattle.pssm_book.specs.inner.Coming.{ComesOf}
use Rattle.pssm_book.proofs.AnswerLaws.{same_contents, terms_with}
use Rattle.pssm_book.proofs.DeskLaws.{job_comes}

-- what has come of a claim of one object's task, where the desk hands one out
pub own_job_comes : (old : Desk) → IsInOrder old → (IsFull old.limit old.system.journal → ⊥) → (new : Desk) (job : Job) (o : ObjectId) (task : Task)
    → IsOpen old.system old.claims.items o task → (job.object ≡ o) × (job.task ≡ task) → HasHandedOut old o task new → CarriesWork old.system job
    → ActArgsFit job.act → ComesOf (bare old) o (Some job) (bare new)
own_job_comes old order room new job o task free names out carries fits =
    let comes = job_comes old order room new job o task free names out carries fits in
    (room, names.0, subst (λ (k : ObjectId). HasClaimed (bare old) k job.task (bare new)) names.0 comes.1, comes.2, comes.3)

-- the same, with the total
pub own_with : (old new : Desk) (o : ObjectId) (found : Option Job) (total : ℕ) → ComesOf (bare old) o found (bare new)
    → ComesOf (contents_of old total) o found (contents_of new total)
own_with old new o None total h = (h.0, same_contents old new total total h.1 refl)
own_with old new o (Some job) total h =
    (h.0, h.1, record { was_open = h.2.was_open; run = h.2.run; claims = h.2.claims }, h.3, h.4)

-- what the call promises
pub record OwnSays (old : Contents) (o : ObjectId) (found : Option Job) (new : Contents) : Type 0 where
  pub some : IfSome found (λ (job : Job). (job.object ≡ o) × HasClaimed old o job.task new)
  pub none : (found ≡ None) ↔ (IsFull old.limit old.run.journal ⊎ AreAllOutOf old.run old.claims o)
  pub carries : IfSome found (CarriesWork old.run)
  pub runs : IfSome found CanRun
  pub refused : IfNone found (new ≡ old)

own_says : (old new : Contents) (o : ObjectId) (found : Option Job) → ComesOf old o found new → OwnSays old o found new
own_says old new o None h = record {
  some = tt;
  none = (λ e. h.0, λ why. refl);
  carries = tt;
  runs = tt;
  refused = h.1;
}
own_says old new o (Some job) h = record {
  some = (h.1, h.2);
  none = (
    λ e. absurd cc,
    λ why. absurd (⊎_elim (λ full. h.0 full) (λ out. h.2.was_open.free (out job.task h.2.was_open.ready)) why),
  );
  carries = h.3;
  runs = h.4;
  refused = tt;
}

pub own_seen : (before after : Desk) (total : ℕ) (seen : Contents) → contents_of before total ≡ seen → (o : ObjectId) (found : Option Job)
    → ComesOf (bare before) o found (bare after) → OwnSays seen o found (contents_of after total)
own_seen before after total seen view_is o found comes =
    subst (λ (k : Contents). OwnSays k o found (contents_of after total)) view_is
    (own_says (contents_of before total) (contents_of after total) o found (own_with before after o found total comes))

-- the journal is as long as before
pub own_count : (before after : Desk) (o : ObjectId) (found : Option Job) (total : ℕ) → ComesOf (bare before) o found (bare after)
    → total ≡ length before.system.journal → total ≡ length after.system.journal
own_count before after o None total h counted = counted ∙ sym (ap (λ (k : Contents). length k.run.journal) h.1)
own_count before after o (Some job) total h counted = counted ∙ sym (ap (λ (r : History). length r.journal) h.2.run)
