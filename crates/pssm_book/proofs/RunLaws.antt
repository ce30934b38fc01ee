-- How a run goes on entry by entry.
use Rattle.std.proofs.Common.{◌≡◌, ◌≢◌, ◌<◌, ◌≤◌, ◌+◌, ℕ, zero, suc, List, [], ◌∷◌, ◌++◌, length, take, drop, get_or, Option, Some, None, IfSome, slice_get, refl, sym, ap, subst, ◌∙◌, arith, inl, inr, add-one, append-nil, length-append, Bor, MatchOption}
use Rattle.std.specs.List.{AllByRecursion}
use Rattle.std.proofs.lemmas.Grind.{flat_map-append}
use Rattle.std.proofs.lemmas.List.{take-append-drop}
use Rattle.std.proofs.lemmas.List.Sums.{sum_by-append}
use Rattle.std.specs.Option.{option_copied}
use Rattle.std.proofs.lemmas.Option.{slice_get_within, slice_get_past, slice_get_read}
use Rattle.pssm_semantics.specs.declared.entry.Entry.{Entry}
use Rattle.pssm_semantics.specs.declared.entry.Entry.TheVariants.{Post, Start, Take, Done, Exit, Effect, Enter, Opened, Pick, DoStep}
use Rattle.pssm_semantics.specs.declared.entry.Rule.TheVariants.{A1, A12}
use Rattle.pssm_semantics.specs.declared.setting.Setting.{Setting}
use Rattle.pssm_semantics.specs.declared.stimulus.Stimulus.{Stimulus}
use Rattle.pssm_semantics.specs.Proper.{IsWellFormed}
use Rattle.pssm_semantics.specs.Journal.{object_of}
use Rattle.pssm_semantics.specs.Pool.{told_by, posts_of_entry, outs_of, posts_of, output_count}
use Rattle.pssm_semantics.specs.Admissible.{MayFollow, IsFull, KeepsJournalLimits, FitsStimuli}
use Rattle.pssm_semantics_laws.proofs.SettingClasses.{class_of_object}
use Rattle.pssm_semantics_laws.proofs.Outcomes.{few_outs}
use Rattle.pssm_system.specs.History.{History}
use Rattle.pssm_semantics.specs.Known.{IsStimulusOf}
use Rattle.pssm_book.specs.Counts.{IsFullAt}
use Rattle.pssm_book.specs.inner.Keeping.{IsRunning}
use Rattle.pssm_book.specs.inner.Nexts.{PostsNext, IsNext}

-- An entry that may follow has at most 64 sends and marks.
pub few_made : (setting : Setting) (J : List Entry) (e : Entry) → IsWellFormed setting → MayFollow setting J e → length (outs_of e) ≤ 64
few_made setting J e formed may =
    let there = may A1 in
    let runs = (class_of_object setting formed (object_of e) there.0 there.1).0 in
    few_outs there.0 runs.proper (told_by J) J e (may A12 there.0 there.1)

-- An entry that has so few has no more outputs: a post sends and marks nothing.
pub few_outputs : (e : Entry) → length (outs_of e) ≤ 64 → length (posts_of_entry e) + length (outs_of e) ≤ 64
few_outputs (Post o signal args) few = omega arith
few_outputs (Start o) few = omega arith
few_outputs (Take o number firing) few = omega arith
few_outputs (Done o state firing) few = omega arith
few_outputs (Exit o state outs) few = omega (arith, few)
few_outputs (Effect o transition outs) few = omega (arith, few)
few_outputs (Enter o state outs) few = omega (arith, few)
few_outputs (Opened o region mode how) few = omega arith
few_outputs (Pick o choice route) few = omega arith
few_outputs (DoStep o state step outs) few = omega (arith, few)

-- what std's `get` gives
pub got : {X : Type 0} (Q : Bor X → Type 0) (xs : List X) (i : ℕ) (r : Option (Bor X)) → IfSome r (λ x. x.now ≡ get_or xs i x.now) → MatchOption r (length xs ≤ i) (λ x. (i < length xs) × Q x)
    → option_copied r ≡ slice_get xs i
got Q xs i None here past = sym (slice_get_past xs i past)
got Q xs i (Some x) here within = sym (slice_get_read xs (length xs) i x.now refl within.0 here)

-- The stimulus that waits is known.
pub waiting_known : (setting : Setting) (stimuli : List Stimulus) (i : ℕ) → AllByRecursion (IsStimulusOf setting) stimuli → IfSome (slice_get stimuli i) (IsStimulusOf setting)
waiting_known setting [] i all = tt
waiting_known setting (x ∷ stimuli) zero all = all.0
waiting_known setting (x ∷ stimuli) (suc i) all = waiting_known setting stimuli i all.1

pub got_known : (setting own : Setting) (stimuli : List Stimulus) (i : ℕ) (r : Option (Bor Stimulus)) → own ≡ setting → option_copied r ≡ slice_get stimuli i → AllByRecursion (IsStimulusOf setting) stimuli
    → IfSome r (λ x. IsStimulusOf own x.now)
got_known setting own stimuli i None same is all = tt
got_known setting own stimuli i (Some x) same is all =
    let known : IfSome (Some x.now) (IsStimulusOf setting) = subst (λ (o : Option Stimulus). IfSome o (IsStimulusOf setting)) (sym is) (waiting_known setting stimuli i all) in
    subst (λ (s : Setting). IsStimulusOf s x.now) (sym same) known

pub take_next : {X : Type 0} (xs : List X) (i : ℕ) (x : X) → slice_get xs i ≡ Some x → take (i + 1) xs ≡ take i xs ++ x ∷ []
take_next xs i x is = rw add-one (by_place xs i is) where
  by_place : (xs : List _) (i : ℕ) → slice_get xs i ≡ Some x → take (suc i) xs ≡ take i xs ++ x ∷ []
  by_place [] i is = absurd cc
  by_place (y ∷ ys) zero is = let same : y ≡ x = cc in ap (λ (z : _). z ∷ []) same
  by_place (y ∷ ys) (suc i) is = ap (λ (zs : List _). y ∷ zs) (by_place ys i is)

pub none_past : {X : Type 0} (xs : List X) (i : ℕ) → slice_get xs i ≡ None → length xs ≤ i
none_past [] i is = omega arith
none_past (y ∷ ys) zero is = absurd cc
none_past (y ∷ ys) (suc i) is = let past = none_past ys i is in omega arith

-- ---- the posts and outputs of a journal with one entry more

pub posts_more : (J : List Entry) (e : Entry) → posts_of (J ++ e ∷ []) ≡ posts_of J ++ posts_of_entry e
posts_more J e = flat_map-append posts_of_entry J (e ∷ []) ∙ ap (λ (t : List Stimulus). posts_of J ++ t) (append-nil (posts_of_entry e))

pub outputs_more : (J : List Entry) (e : Entry) → output_count (J ++ e ∷ []) ≡ output_count J + (length (posts_of_entry e) + length (outs_of e))
outputs_more J e =
    let more = sum_by-append (λ (x : Entry). length (posts_of_entry x) + length (outs_of x)) J (e ∷ []) in
    omega (arith, more)

-- an entry posts one signal at most, so a journal has no more posts than entries
pub one_post : (e : Entry) → length (posts_of_entry e) ≤ 1
one_post (Post o signal args) = omega arith
one_post (Start o) = omega arith
one_post (Take o number firing) = omega arith
one_post (Done o state firing) = omega arith
one_post (Exit o state outs) = omega arith
one_post (Effect o transition outs) = omega arith
one_post (Enter o state outs) = omega arith
one_post (Opened o region mode how) = omega arith
one_post (Pick o choice route) = omega arith
one_post (DoStep o state step outs) = omega arith

pub posts_few : (J : List Entry) → length (posts_of J) ≤ length J
posts_few [] = omega arith
posts_few (e ∷ J) = let more = length-append (posts_of_entry e) (posts_of J) in omega (arith, more, one_post e, posts_few J)

-- ---- the run

pub running_start : (setting : Setting) (stimuli : List Stimulus) (limit : ℕ) (run : History) → run.setting ≡ setting → run.journal ≡ [] → IsRunning setting stimuli limit run 0 0
running_start setting stimuli limit run same none = record {
  setting_is = same;
  few = omega (arith, ap (λ (J : List Entry). length J) none);
  within = omega arith;
  posts = ap posts_of none;
  outputs_are = sym (ap output_count none);
}

module _ (setting : Setting) (stimuli : List Stimulus) (limit : ℕ) (run : History) (posted outputs : ℕ) (running : IsRunning setting stimuli limit run posted outputs) where
  -- the journal is full as the counts are
  pub full_counted : IsFullAt limit (length run.journal) outputs → IsFull limit run.journal
  full_counted (inl entries) = inl entries
  full_counted (inr many) = inr (let counted = running.outputs_are in omega arith)

  pub counted_full : IsFull limit run.journal → IsFullAt limit (length run.journal) outputs
  counted_full (inl entries) = inl entries
  counted_full (inr many) = inr (let counted = running.outputs_are in omega arith)

  pub fits : FitsStimuli run.journal stimuli
  fits = (drop posted stimuli, sym (take-append-drop posted stimuli) ∙ ap (λ (t : List Stimulus). t ++ drop posted stimuli) (sym running.posts))

  -- one entry more
  module _ (room : IsFullAt limit (length run.journal) outputs → ⊥) (e : Entry) (next : IsNext run (slice_get stimuli posted) e) where
    pub posted_within : posted + length (posts_of_entry e) ≤ length stimuli
    posted_within = by_posts next.posts where
      by_posts : PostsNext (slice_get stimuli posted) e → posted + length (posts_of_entry e) ≤ length stimuli
      by_posts (inl none) = let n = ap length none in let within = running.within in omega arith
      by_posts (inr some) = let n = ap length some.2 in let within = slice_get_within stimuli posted some.0 some.1 in omega arith

    pub posts_are : posts_of (run.journal ++ e ∷ []) ≡ take (posted + length (posts_of_entry e)) stimuli
    posts_are = posts_more run.journal e ∙ by_posts next.posts where
      by_posts : PostsNext (slice_get stimuli posted) e → posts_of run.journal ++ posts_of_entry e ≡ take (posted + length (posts_of_entry e)) stimuli
      by_posts (inl none) =
          ap (λ (t : List Stimulus). posts_of run.journal ++ t) none ∙ append-nil (posts_of run.journal) ∙ running.posts
          ∙ ap (λ (n : ℕ). take n stimuli) (let n = ap length none in omega arith)
      by_posts (inr some) =
          ap (λ (t : List Stimulus). posts_of run.journal ++ t) some.2 ∙ ap (λ (t : List Stimulus). t ++ some.0 ∷ []) running.posts ∙ sym (take_next stimuli posted some.0 some.1)
          ∙ ap (λ (n : ℕ). take n stimuli) (let n = ap length some.2 in omega arith)

    pub shorter : length run.journal < limit
    shorter = by_length refl where
      by_length : length run.journal ≡ length run.journal → length run.journal < limit
      by_length e = let few = running.few in let apart : length run.journal ≢ limit = λ same. room (inl same) in omega arith

    pub roomy : outputs ≤ 1999936
    roomy = let apart : (1999936 < outputs) → ⊥ = λ many. room (inr many) in omega arith

    pub running_more : (after : History) (a b c : ℕ) → after.setting ≡ run.setting → after.journal ≡ run.journal ++ e ∷ [] → a ≡ length (posts_of_entry e) → b ≡ length (posts_of_entry e)
        → c ≡ length (outs_of e) → IsRunning setting stimuli limit after (posted + a) (outputs + (b + c))
    running_more after a b c same grown p q r =
        let places : posted + length (posts_of_entry e) ≡ posted + a = omega (arith, p) in
        let longer : length after.journal ≡ length run.journal + 1 = ap (λ (J : List Entry). length J) grown ∙ length-append run.journal (e ∷ []) in
        let made : output_count after.journal ≡ output_count run.journal + (length (posts_of_entry e) + length (outs_of e)) = ap output_count grown ∙ outputs_more run.journal e in
        record {
          setting_is = same ∙ running.setting_is;
          few = omega (arith, longer, shorter);
          within = omega (arith, places, posted_within);
          posts = ap posts_of grown ∙ posts_are ∙ ap (λ (n : ℕ). take n stimuli) places;
          outputs_are = omega (arith, made, running.outputs_are, q, r);
        }

    -- The journal stays within its limits.
    pub limits_more : IsWellFormed setting → limit ≤ 1000000 → KeepsJournalLimits (run.journal ++ e ∷ [])
    limits_more formed low =
        let few = few_outputs e (few_made run.setting run.journal e (subst (λ (s : Setting). IsWellFormed s) (sym running.setting_is) formed) next.follows) in
        record {
          entries = omega (arith, length-append run.journal (e ∷ []), shorter, low);
          outputs = omega (arith, outputs_more run.journal e, few, running.outputs_are, roomy);
        }
