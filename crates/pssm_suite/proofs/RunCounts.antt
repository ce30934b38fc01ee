-- The runs of a generated model have at most 12 n + 14 entries and 2 n takes, and so never fill a journal.
use Rattle.std.proofs.Common.{◌≡◌, ◌⊎◌, ◌≤◌, ◌+◌, ◌*◌, ◌==◌, ◌++◌, ℕ, List, [], ◌∷◌, length, Bool, true, false, cond, Option, Some, None, refl, ap, subst, inl, inr, ⊎_elim, arith, length-append}
use Rattle.std.specs.List.{AllByRecursion, sum_by}
use Rattle.std.specs.Option.{option_map_or}
use Rattle.std.proofs.lemmas.List.{length-replicate}
use Rattle.std.proofs.lemmas.List.Sums.{sum_by-cons, sum_by_push}
use Rattle.pssm_model.specs.declared.steps.How.{How}
use Rattle.pssm_model.specs.declared.steps.Item.{Item}
use Rattle.pssm_semantics.specs.declared.entry.ObjectId.{ObjectId}
use Rattle.pssm_semantics.specs.declared.entry.Entry.{Entry}
use Rattle.pssm_semantics.specs.declared.entry.Entry.TheVariants.{Post, Start, Take, Done, Exit, Effect, Enter, Opened, Pick, DoStep}
use Rattle.pssm_semantics.specs.declared.entry.Rule.{Rule}
use Rattle.pssm_semantics.specs.declared.entry.Rule.TheVariants.{A1, A3}
use Rattle.pssm_semantics.specs.declared.setting.Setting.{Setting}
use Rattle.pssm_semantics.specs.Journal.{IsPost, object_of}
use Rattle.pssm_semantics.specs.Steps.{item_by}
use Rattle.pssm_semantics.specs.Pool.{outs_of, posts_of_entry, posts_of, output_count}
use Rattle.pssm_semantics.specs.Rules.{Holds}
use Rattle.pssm_semantics.specs.Admissible.{IsAdmissibleIn, IsFull, FitsStimuli}
use Rattle.pssm_semantics.proofs.Appended.{from_the_end}
use Rattle.pssm_semantics_laws.proofs.Admissible.{IsAdmissible-front, IsAdmissible-last}
use Rattle.pssm_semantics_laws.proofs.Objects.{same_object}
use Rattle.pssm_suite.specs.Counts.{takes_signal, take_count, IsGeneratedRun, HasFewEntries}
use Rattle.pssm_suite.specs.Generated.{go, generated_stimuli}
use Rattle.pssm_suite.specs.GeneratedSetting.{front, back, generated_setting}
use Rattle.pssm_suite.proofs.LoadedSetting.{generated_well_formed}
use Rattle.pssm_suite.proofs.CalmFront.{front_calm}
use Rattle.pssm_suite.proofs.CalmBack.{back_calm}
use Rattle.pssm_suite.proofs.EntryWeights.{each_entry, sum_of_ones, sum_of_none, own_entry, own_head, no_own_head, split_heads, start_count, takes_of}
use Rattle.pssm_suite.proofs.StepSums.{own_below}
use Rattle.pssm_suite.proofs.GeneratedObjects.{front_object, back_object, front_class, back_class, which_object}
use Rattle.pssm_suite.proofs.GeneratedOuts.{go_on, sends_of}
use Rattle.pssm_suite.proofs.TakenSignals.{few_taken}
use Rattle.pssm_suite.proofs.GeneratedTold.{sums_below, posts_go, SendsAsItem, all_send, item_weight, told_to_front, told_to_back}
use Rattle.pssm_suite.proofs.FrontSends.{item_sends_one, sends_below}

-- ---- an object starts once

no_take : (b : Bool) → ◌≡◌ {A = ℕ} (cond b 0 0) 0
no_take true = refl
no_take false = refl

at_most_one : (b : Bool) → cond b 1 0 ≤ 1
at_most_one true = omega arith
at_most_one false = omega arith

module _ (setting : Setting) (o : ObjectId) where
  none_yet : (J : List Entry) → AllByRecursion (λ f. (object_of f ≡ o) → IsPost f) J → start_count o J ≡ 0
  none_yet J posts = sum_of_none (λ f. (object_of f ≡ o) → IsPost f) (own_head o 1 0) (no_own_head o 1 0) J posts

  other : (J : List Entry) (e : Entry) → own_head o 1 0 e ≡ 0 → start_count o J ≤ 1 → start_count o (J ++ e ∷ []) ≤ 1
  other J e none was = let a = sum_by_push (own_head o 1 0) J e in omega (arith, a, none, was)

  one_more : (J : List Entry) (e : Entry) → ((rule : Rule) → Holds setting rule J e) → start_count o J ≤ 1 → start_count o (J ++ e ∷ []) ≤ 1
  one_more J (Start q) may was = by (q.0 == o.0) refl
    where
      by : (b : Bool) → (q.0 == o.0) ≡ b → start_count o (J ++ Start q ∷ []) ≤ 1
      by true e =
          let known = may A1 in
          let same : q ≡ o = same_object q o e in
          let none = none_yet J (subst (λ p. AllByRecursion (λ f. (object_of f ≡ p) → IsPost f) J) same (may A3 known.0 known.1)) in
          let a = sum_by_push (own_head o 1 0) J (Start q) in
          let one = at_most_one (q.0 == o.0) in
          omega (arith, a, none, one)
      by false e = other J (Start q) (ap {B = ℕ} (λ b. cond b 1 0) e) was
  one_more J (Take q number firing) may was = other J (Take q number firing) (no_take (q.0 == o.0)) was
  one_more J (Post q g args) may was = other J (Post q g args) refl was
  one_more J (Done q v firing) may was = other J (Done q v firing) refl was
  one_more J (Exit q v outs) may was = other J (Exit q v outs) refl was
  one_more J (Effect q t outs) may was = other J (Effect q t outs) refl was
  one_more J (Enter q v outs) may was = other J (Enter q v outs) refl was
  one_more J (Opened q r mode how) may was = other J (Opened q r mode how) refl was
  one_more J (Pick q v route) may was = other J (Pick q v route) refl was
  one_more J (DoStep q v k outs) may was = other J (DoStep q v k outs) refl was

  pub starts_once : (J : List Entry) → IsAdmissibleIn setting J → start_count o J ≤ 1
  starts_once =
      from_the_end (λ js. IsAdmissibleIn setting js → start_count o js ≤ 1) (λ all. omega arith)
      (λ js e before all.
      one_more js e (IsAdmissible-last (Holds setting) js e all) (before (IsAdmissible-front (Holds setting) js (e ∷ []) all)))

-- ---- the entries are the posts and those of the two objects

abbrev pub IsOfTwo : ObjectId → Type 0
IsOfTwo q = (q ≡ front_object) ⊎ (q ≡ back_object)

pub all_of_two : (n : ℕ) (J : List Entry) → IsAdmissibleIn (generated_setting n) J → AllByRecursion (λ e. IsOfTwo (object_of e)) J
all_of_two n J admissible =
    each_entry (λ e. IsOfTwo (object_of e)) J
    (λ before after e splits.
    let known = admissible before after e splits A1 in
    ⊎_elim (λ one. inl one.0) (λ two. inr two.0) (which_object n (object_of e) known.0 known.1))

-- one of the two tests is passed
one_of_two : (q : ObjectId) → IsOfTwo q → ◌≡◌ {A = ℕ} (cond (q.0 == 0) 1 0 + cond (q.0 == 1) 1 0) 1
one_of_two q (inl e) = ap {B = ℕ} (λ (p : ObjectId). cond (p.0 == 0) 1 0 + cond (p.0 == 1) 1 0) e
one_of_two q (inr e) = ap {B = ℕ} (λ (p : ObjectId). cond (p.0 == 0) 1 0 + cond (p.0 == 1) 1 0) e

entry_parts : (e : Entry) → IsOfTwo (object_of e) → length (posts_of_entry e) + own_entry front_object e + own_entry back_object e ≡ 1
entry_parts (Post q g args) of_two = omega arith
entry_parts (Start q) of_two = let one = one_of_two q of_two in omega (arith, one)
entry_parts (Take q k firing) of_two = let one = one_of_two q of_two in omega (arith, one)
entry_parts (Done q v firing) of_two = let one = one_of_two q of_two in omega (arith, one)
entry_parts (Exit q v outs) of_two = let one = one_of_two q of_two in omega (arith, one)
entry_parts (Effect q t outs) of_two = let one = one_of_two q of_two in omega (arith, one)
entry_parts (Enter q v outs) of_two = let one = one_of_two q of_two in omega (arith, one)
entry_parts (Opened q r mode how) of_two = let one = one_of_two q of_two in omega (arith, one)
entry_parts (Pick q v route) of_two = let one = one_of_two q of_two in omega (arith, one)
entry_parts (DoStep q v k outs) of_two = let one = one_of_two q of_two in omega (arith, one)

pub entries_are : (J : List Entry) → AllByRecursion (λ e. IsOfTwo (object_of e)) J
    → length J ≡ length (posts_of J) + sum_by (own_entry front_object) J + sum_by (own_entry back_object) J
entries_are [] all = refl
entries_are (e ∷ J) all =
    let posts = length-append (posts_of_entry e) (posts_of J) in
    let a = sum_by-cons (own_entry front_object) e J in
    let b = sum_by-cons (own_entry back_object) e J in
    let here = entry_parts e all.0 in
    let rest = entries_are J all.1 in
    omega (arith, posts, a, b, here, rest)

take_parts : (e : Entry) → IsOfTwo (object_of e) → own_head front_object 0 1 e + own_head back_object 0 1 e ≡ cond (takes_signal e) 1 0
take_parts (Take q k firing) of_two = one_of_two q of_two
take_parts (Start q) of_two = let a = no_take (q.0 == 0) in let b = no_take (q.0 == 1) in omega (arith, a, b)
take_parts (Post q g args) of_two = refl
take_parts (Done q v firing) of_two = refl
take_parts (Exit q v outs) of_two = refl
take_parts (Effect q t outs) of_two = refl
take_parts (Enter q v outs) of_two = refl
take_parts (Opened q r mode how) of_two = refl
take_parts (Pick q v route) of_two = refl
take_parts (DoStep q v k outs) of_two = refl

pub takes_are : (J : List Entry) → AllByRecursion (λ e. IsOfTwo (object_of e)) J → take_count J ≡ takes_of front_object J + takes_of back_object J
takes_are [] all = refl
takes_are (e ∷ J) all =
    let t = sum_by-cons (λ f. cond (takes_signal f) 1 0) e J in
    let a = sum_by-cons (own_head front_object 0 1) e J in
    let b = sum_by-cons (own_head back_object 0 1) e J in
    let here = take_parts e all.0 in
    let rest = takes_are J all.1 in
    omega (arith, t, a, b, here, rest)

-- ---- the sum

pub few_posts : (n : ℕ) (J : List Entry) → FitsStimuli J (generated_stimuli n) → length (posts_of J) ≤ n
few_posts n J (rest, same) =
    let all = ap (λ xs. length xs) same in
    let long = length-replicate n go in
    let parts = length-append (posts_of J) rest in
    omega (arith, all, long, parts)

-- the counts of both objects, and what is known of them
pub record RunParts (n : ℕ) (J : List Entry) : Type 0 where
  pub posts : length (posts_of J) ≤ n
  pub entries : length J ≡ length (posts_of J) + sum_by (own_entry front_object) J + sum_by (own_entry back_object) J
  pub front_entries : sum_by (own_entry front_object) J ≤ 4 * start_count front_object J + 4 * takes_of front_object J
  pub back_entries : sum_by (own_entry back_object) J ≤ 10 * start_count back_object J + 7 * takes_of back_object J
  pub front_starts : start_count front_object J ≤ 1
  pub back_starts : start_count back_object J ≤ 1
  pub front_takes : takes_of front_object J ≤ length (posts_of J)
  pub back_takes : takes_of back_object J ≤ takes_of front_object J
  pub takes : take_count J ≡ takes_of front_object J + takes_of back_object J

module _ (n : ℕ) (some : 1 ≤ n) (few : n ≤ 4000) (J : List Entry) (run : IsGeneratedRun n J) where
  front_bound : sum_by (own_entry front_object) J ≤ sum_by (own_head front_object 4 4) J
  front_bound = own_below (generated_well_formed n some few) front_object (front n) (front_class n) 0 1 (front_calm n some few) J run.admissible

  back_bound : sum_by (own_entry back_object) J ≤ sum_by (own_head back_object 10 7) J
  back_bound = own_below (generated_well_formed n some few) back_object back (back_class n) 1 2 back_calm J run.admissible

  pub run_parts : RunParts n J
  run_parts =
      let of_two = all_of_two n J run.admissible in
      let sends = all_send n some few J run.admissible in
      record {
        posts = few_posts n J run.fits;
        entries = entries_are J of_two;
        front_entries = (let a = front_bound in let b = split_heads front_object 4 4 J in omega (arith, a, b));
        back_entries = (let a = back_bound in let b = split_heads back_object 10 7 J in omega (arith, a, b));
        front_starts = starts_once (generated_setting n) front_object J run.admissible;
        back_starts = starts_once (generated_setting n) back_object J run.admissible;
        front_takes = (
            let a = few_taken (generated_setting n) front_object J run.admissible in
            let b = told_to_front J sends in
            omega (arith, a, b)
            );
        back_takes = (
            let a = few_taken (generated_setting n) back_object J run.admissible in
            let b = told_to_back J (posts_go n J run.fits) sends in
            let c = sends_below n some few J run.admissible in
            omega (arith, a, b, c)
            );
        takes = takes_are J of_two;
      }

  pub few_entries : HasFewEntries n J
  few_entries =
      let p = run_parts in
      record {
        entries = omega (arith, p.posts, p.entries, p.front_entries, p.back_entries, p.front_starts, p.back_starts, p.front_takes, p.back_takes);
        takes = omega (arith, p.posts, p.front_takes, p.back_takes, p.takes);
      }

  -- ---- the limits

  weight_one : (r : Option (Item × How)) → option_map_or sends_of r 0 ≤ 1
  weight_one None = omega arith
  weight_one (Some x) = item_sends_one x.0

  few_outs : (e : Entry) → SendsAsItem e → length (outs_of e) ≤ 1
  few_outs e sends =
      let long = ap (λ os. length os) sends in
      let same = length-replicate (item_weight e) go_on in
      let one = weight_one (item_by front_object e) in
      omega (arith, long, same, one)

  one_output : (e : Entry) → SendsAsItem e → length (posts_of_entry e) + length (outs_of e) ≤ 1
  one_output (Post q g args) sends = omega arith
  one_output (Start q) sends = omega arith
  one_output (Take q k firing) sends = omega arith
  one_output (Done q v firing) sends = omega arith
  one_output (Exit q v outs) sends = let one = few_outs (Exit q v outs) sends in omega (arith, one)
  one_output (Effect q t outs) sends = let one = few_outs (Effect q t outs) sends in omega (arith, one)
  one_output (Enter q v outs) sends = let one = few_outs (Enter q v outs) sends in omega (arith, one)
  one_output (Opened q r mode how) sends = omega arith
  one_output (Pick q v route) sends = omega arith
  one_output (DoStep q v k outs) sends = let one = few_outs (DoStep q v k outs) sends in omega (arith, one)

  all_one : (K : List Entry) → AllByRecursion SendsAsItem K → AllByRecursion (λ e. length (posts_of_entry e) + length (outs_of e) ≤ 1) K
  all_one [] all = tt
  all_one (e ∷ K) all = (one_output e all.0, all_one K all.1)

  few_outputs : output_count J ≤ length J
  few_outputs =
      let each = all_one J (all_send n some few J run.admissible) in
      let a = sums_below (λ e. length (posts_of_entry e) + length (outs_of e)) (λ e. 1) J each in
      let b = sum_of_ones J in
      omega (arith, a, b)

  pub never_full : IsFull 1000000 J → ⊥
  never_full (inl full) = let all = few_entries.entries in omega (arith, full, all, few)
  never_full (inr full) = let all = few_entries.entries in let out = few_outputs in omega (arith, full, all, out, few)
