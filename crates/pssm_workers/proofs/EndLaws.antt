-- What a run comes to that one thread has gone on with.
use Rattle.std.proofs.Common.{◌≡◌, ◌++◌, Bool, true, false, ℕ, List, [], ◌∷◌, Option, Some, None, Result, Ok, Err, IfOk, IfSome, length, take, slice_get, refl, sym, ap, subst, ◌∙◌, inl, inr, append_assoc, append-nil, length-append, arith}
use Rattle.std.specs.Option.{option_copied}
use Rattle.std.proofs.Math.Seq.{take-length, take-append_seam}
use Rattle.pssm_semantics.specs.declared.entry.Entry.{Entry}
use Rattle.pssm_semantics.specs.declared.setting.Setting.{Setting}
use Rattle.pssm_semantics.specs.declared.stimulus.Stimulus.{Stimulus}
use Rattle.pssm_semantics.specs.Pool.{posts_of, output_count}
use Rattle.pssm_semantics.specs.Admissible.{IsQuiet}
use Rattle.pssm_system.specs.History.{History}
use Rattle.pssm_book.specs.Counts.{IsFullAt}
use Rattle.pssm_book.specs.Contents.{Contents, IsKept}
use Rattle.pssm_book.specs.inner.Keeping.{IsRunning}
use Rattle.pssm_book.proofs.RunLaws.{none_past, running_start, full_counted, counted_full, fits}
use Rattle.pssm_workers.specs.declared.finishing.Course.{Course}
use Rattle.pssm_workers.specs.declared.ended.Ended.TheVariants.{Quiet, Limit}
use Rattle.pssm_workers.specs.Endings.{EndsRun, IsBookOf, GoesOnFrom}
use Rattle.pssm_workers.specs.inner.Finishing.{IsOver, IsCourseOf}

pub true_and_false : (b : Bool) → b ≡ true → b ≡ false → ⊥
true_and_false b p q = let both : true ≡ false = sym p ∙ q in cc

-- a journal goes on from itself, and one entry further
pub from_itself : (J : List Entry) → GoesOnFrom J J
from_itself J = ([], sym (append-nil J))

pub from_further : (before J K : List Entry) (e : Entry) → GoesOnFrom before J → K ≡ J ++ e ∷ [] → GoesOnFrom before K
from_further before J K e from grown =
    (from.0 ++ e ∷ [], grown ∙ ap (λ (xs : List Entry). xs ++ e ∷ []) from.1 ∙ append_assoc before from.0 (e ∷ []))

-- What a book keeps is what a course of its run needs.
pub kept_running : (c : Contents) → IsKept c → (posted outputs : ℕ) → posted ≡ length (posts_of c.run.journal) → outputs ≡ output_count c.run.journal
    → IsRunning c.run.setting c.stimuli c.limit c.run posted outputs
kept_running c k posted outputs posts outs =
    let long = ap (λ (xs : List Stimulus). length xs) k.fits.1 in
    let parts = length-append (posts_of c.run.journal) k.fits.0 in
    let front : take posted c.stimuli ≡ posts_of c.run.journal =
    ap (λ (n : ℕ). take n c.stimuli) posts ∙ ap (λ (xs : List Stimulus). take (length (posts_of c.run.journal)) xs) k.fits.1
    ∙ take-append_seam (posts_of c.run.journal) k.fits.0 in
    record {
      setting_is = refl;
      few = k.few;
      within = omega (arith, posts, long, parts);
      posts = sym front;
      outputs_are = outs;
    }

-- a course of the book's run, where the book is one of this setting with these stimuli and this limit
pub course_as : (setting : Setting) (stimuli : List Stimulus) (limit : ℕ) (c : Contents) → IsBookOf setting stimuli limit c → (course : Course)
    → IsCourseOf c.run.setting c.stimuli c.limit course → IsCourseOf setting stimuli limit course
course_as setting stimuli limit c is course way =
    subst (λ (s : Setting). IsCourseOf s stimuli limit course) is.setting_is
    (subst (λ (xs : List Stimulus). IsCourseOf c.run.setting xs limit course) is.stimuli_are
    (subst (λ (n : ℕ). IsCourseOf c.run.setting c.stimuli n course) is.limit_is way))

-- a course that begins
pub course_new : (setting : Setting) (stimuli : List Stimulus) (limit : ℕ) (course : Course) → course.system.setting ≡ setting → course.system.journal ≡ [] → course.posted ≡ 0
    → course.outputs ≡ 0 → IsCourseOf setting stimuli limit course
course_new setting stimuli limit course same none posted outputs =
    subst (λ (n : ℕ). IsRunning setting stimuli limit course.system n course.outputs) (sym posted)
    (subst (λ (n : ℕ). IsRunning setting stimuli limit course.system 0 n) (sym outputs) (running_start setting stimuli limit course.system same none))

module _ (setting : Setting) (stimuli : List Stimulus) (limit : ℕ) (run : History) (posted outputs : ℕ) (running : IsRunning setting stimuli limit run posted outputs) where
  -- It ends because it is full.
  pub ends_full : IsFullAt limit (length run.journal) outputs → EndsRun setting stimuli limit run.journal Limit
  ends_full full = record { fits = fits setting stimuli limit run posted outputs running; few = running.few; ends = full_counted setting stimuli limit run posted outputs running full }

  -- It ends because nothing more can happen.
  pub ends_quietly : (IsFullAt limit (length run.journal) outputs → ⊥) → IsOver run (slice_get stimuli posted) → EndsRun setting stimuli limit run.journal Quiet
  ends_quietly room over =
      let past = none_past stimuli posted over.none in
      let all : posted ≡ length stimuli = let within = running.within in omega arith in
      record {
        fits = fits setting stimuli limit run posted outputs running;
        few = running.few;
        ends = record {
          not_full = λ full. room (counted_full setting stimuli limit run posted outputs running full);
          all_posted = running.posts ∙ ap (λ (n : ℕ). take n stimuli) all ∙ take-length stimuli;
          quiet = subst (λ (s : Setting). IsQuiet s run.journal) running.setting_is over.quiet;
        };
      }
