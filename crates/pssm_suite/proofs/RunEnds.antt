-- Where a run of a generated model has ended quietly it has exactly 12 n + 14 entries and 2 n takes.
use Rattle.std.proofs.Common.{◌≡◌, ◌≤◌, ◌+◌, ◌*◌, ◌==◌, ℕ, zero, suc, List, [], ◌∷◌, length, cond, Contains, refl, sym, ap, subst, ◌∙◌, arith, append-nil}
use Rattle.std.specs.Prelude.{replicate, flat_map}
use Rattle.std.specs.List.{AllByRecursion, sum_by, count_by}
use Rattle.std.proofs.lemmas.List.{length-replicate}
use Rattle.std.proofs.lemmas.List.Concat.{length-flat_map}
use Rattle.std.proofs.lemmas.List.Sums.{sum_by-cons, sum_by-append}
use Rattle.pssm_semantics.specs.declared.entry.ObjectId.{ObjectId}
use Rattle.pssm_semantics.specs.declared.entry.Entry.{Entry}
use Rattle.pssm_semantics.specs.declared.entry.Entry.TheVariants.{Post, Start, Take, Done, Exit, Effect, Enter, Opened, Pick, DoStep}
use Rattle.pssm_semantics.specs.declared.stimulus.Stimulus.{Stimulus}
use Rattle.pssm_semantics.specs.Journal.{IsStart}
use Rattle.pssm_semantics.specs.Pool.{outs_of, signals_of_out, posts_of_entry, signals_of_entry, posts_of, pool_of}
use Rattle.pssm_semantics.proofs.Appended.{AllByRecursion-append}
use Rattle.pssm_suite.specs.Counts.{IsGeneratedRun, IsGeneratedEnd, HasAllEntries}
use Rattle.pssm_suite.specs.Generated.{go}
use Rattle.pssm_suite.specs.GeneratedSetting.{front, back, generated_setting}
use Rattle.pssm_suite.proofs.LoadedSetting.{generated_well_formed}
use Rattle.pssm_suite.proofs.CalmFront.{front_calm}
use Rattle.pssm_suite.proofs.CalmBack.{back_calm}
use Rattle.pssm_suite.proofs.EnabledRoutes.{go_signal}
use Rattle.pssm_suite.proofs.EntryWeights.{own_entry, own_head, split_heads, start_count, takes_of}
use Rattle.pssm_suite.proofs.GeneratedObjects.{front_object, back_object, front_class, back_class}
use Rattle.pssm_suite.proofs.GeneratedOuts.{go_on}
use Rattle.pssm_suite.proofs.TakenSignals.{is_for, told_count}
use Rattle.pssm_suite.proofs.AllTaken.{all_taken}
use Rattle.pssm_suite.proofs.GeneratedTold.{sum_of_parts, sums_below, both, PostsGo, posts_go, SendsAsItem, all_send, item_weight, sent_to_back}
use Rattle.pssm_suite.proofs.RunCounts.{run_parts}
use Rattle.pssm_suite.proofs.FullSteps.{AreGo, go_at}
use Rattle.pssm_suite.proofs.QuietObjects.{course, finished, none_waits}
use Rattle.pssm_suite.proofs.FrontWhole.{weighs_within, FrontDone, front_exactly, sends_exactly}
use Rattle.pssm_suite.proofs.BackWhole.{BackDone, back_exactly}

-- ---- every signal is `Go`

abbrev IsGo : Stimulus → Type 0
IsGo x = x.signal ≡ go_signal

all_sent : (k : ℕ) → AllByRecursion IsGo (flat_map signals_of_out (replicate k go_on))
all_sent zero = tt
all_sent (suc k) = (refl, all_sent k)

all_posted : (xs : List Stimulus) → AllByRecursion (λ x. x ≡ go) xs → AllByRecursion IsGo xs
all_posted [] all = tt
all_posted (x ∷ xs) all = (ap (λ (y : Stimulus). y.signal) all.0, all_posted xs all.1)

entry_go : (e : Entry) → PostsGo e → SendsAsItem e → AllByRecursion IsGo (signals_of_entry e)
entry_go e posts sends =
    AllByRecursion-append IsGo (posts_of_entry e) (flat_map signals_of_out (outs_of e))
    (all_posted (posts_of_entry e) posts)
    (subst (λ os. AllByRecursion IsGo (flat_map signals_of_out os)) (sym sends) (all_sent (item_weight e)))

from_parts : {X Y : Type 0} (P : Y → Type 0) (g : X → List Y) (xs : List X) → AllByRecursion (λ x. AllByRecursion P (g x)) xs → AllByRecursion P (flat_map g xs)
from_parts P g [] all = tt
from_parts P g (x ∷ xs) all = AllByRecursion-append P (g x) (flat_map g xs) all.0 (from_parts P g xs all.1)

all_go : (J : List Entry) → AllByRecursion PostsGo J → AllByRecursion SendsAsItem J → AreGo J
all_go J posts sends =
    from_parts IsGo signals_of_entry J (both PostsGo SendsAsItem (λ e. AllByRecursion IsGo (signals_of_entry e)) entry_go J posts sends)

-- ---- what is told is all that is posted and sent

all_for_front : (xs : List Stimulus) → AllByRecursion (λ x. x ≡ go) xs → length xs ≤ count_by (is_for front_object) xs
all_for_front [] all = omega arith
all_for_front (x ∷ xs) all =
    let a = sum_by-cons (λ (y : Stimulus). cond (is_for front_object y) 1 0) x xs in
    let b : ◌≡◌ {A = ℕ} (cond (is_for front_object x) 1 0) 1 = ap {B = ℕ} (λ (y : Stimulus). cond (is_for front_object y) 1 0) all.0 in
    let rest = all_for_front xs all.1 in
    omega (arith, a, b, rest)

front_told : (e : Entry) → PostsGo e → length (posts_of_entry e) ≤ count_by (is_for front_object) (signals_of_entry e)
front_told e posts =
    let parts = sum_by-append (λ (y : Stimulus). cond (is_for front_object y) 1 0) (posts_of_entry e) (flat_map signals_of_out (outs_of e)) in
    let posted = all_for_front (posts_of_entry e) posts in
    omega (arith, parts, posted)

back_told : (e : Entry) → SendsAsItem e → item_weight e ≤ count_by (is_for back_object) (signals_of_entry e)
back_told e sends =
    let parts = sum_by-append (λ (y : Stimulus). cond (is_for back_object y) 1 0) (posts_of_entry e) (flat_map signals_of_out (outs_of e)) in
    let others = ap (λ os. count_by (is_for back_object) (flat_map signals_of_out os)) sends in
    let all = sent_to_back (item_weight e) in
    omega (arith, parts, others, all)

all_told_to_front : (J : List Entry) → AllByRecursion PostsGo J → length (posts_of J) ≤ told_count front_object J
all_told_to_front J posts =
    let a = sum_of_parts (λ (y : Stimulus). cond (is_for front_object y) 1 0) signals_of_entry J in
    let each = both PostsGo PostsGo (λ e. length (posts_of_entry e) ≤ count_by (is_for front_object) (signals_of_entry e)) (λ e p q. front_told e p) J posts posts in
    let b = sums_below (λ e. length (posts_of_entry e)) (λ e. count_by (is_for front_object) (signals_of_entry e)) J each in
    let c = length-flat_map posts_of_entry J in
    omega (arith, a, b, c)

all_told_to_back : (J : List Entry) → AllByRecursion SendsAsItem J → sum_by item_weight J ≤ told_count back_object J
all_told_to_back J sends =
    let a = sum_of_parts (λ (y : Stimulus). cond (is_for back_object y) 1 0) signals_of_entry J in
    let each = both SendsAsItem SendsAsItem (λ e. item_weight e ≤ count_by (is_for back_object) (signals_of_entry e)) (λ e p q. back_told e p) J sends sends in
    let b = sums_below item_weight (λ e. count_by (is_for back_object) (signals_of_entry e)) J each in
    omega (arith, a, b)

-- ---- a start counts

start_counts : (o : ObjectId) (e : Entry) → IsStart e o → own_head o 1 0 e ≡ cond (o.0 == o.0) 1 0
start_counts o (Start q) h = ap {B = ℕ} (λ (p : ObjectId). cond (p.0 == o.0) 1 0) h
start_counts o (Post q g args) h = absurd h
start_counts o (Take q k firing) h = absurd h
start_counts o (Done q v firing) h = absurd h
start_counts o (Exit q v outs) h = absurd h
start_counts o (Effect q t outs) h = absurd h
start_counts o (Enter q v outs) h = absurd h
start_counts o (Opened q r mode how) h = absurd h
start_counts o (Pick q v route) h = absurd h
start_counts o (DoStep q v k outs) h = absurd h

started : (o : ObjectId) (J : List Entry) (e : Entry) → Contains J e → IsStart e o → cond (o.0 == o.0) 1 0 ≤ start_count o J
started o J e inside starts =
    let within = weighs_within (own_head o 1 0) J e inside in let is = start_counts o e starts in omega (arith, within, is)

-- ---- the counts

module _ (n : ℕ) (some : 1 ≤ n) (few : n ≤ 4000) (J : List Entry) (end : IsGeneratedEnd n J) where
  run : IsGeneratedRun n J
  run = record { admissible = end.admissible; fits = ([], sym end.all_posted ∙ sym (append-nil (posts_of J))) }

  posts : AllByRecursion PostsGo J
  posts = posts_go n J run.fits

  sends : AllByRecursion SendsAsItem J
  sends = all_send n some few J end.admissible

  go_all : AreGo J
  go_all = all_go J posts sends

  front_done : FrontDone n some few J
  front_done = record {
    admissible = end.admissible;
    go = go_all;
    finished = finished (generated_well_formed n some few) front_object (front n) (front_class n) 0 1 (front_calm n some few) J end.admissible end.quiet;
  }

  back_done : BackDone n some few J
  back_done = record {
    admissible = end.admissible;
    go = go_all;
    finished = finished (generated_well_formed n some few) back_object back (back_class n) 1 2 back_calm J end.admissible end.quiet;
  }

  front_empty : pool_of J front_object ≡ []
  front_empty = none_waits (generated_well_formed n some few) front_object (front n) (front_class n) 0 1 (front_calm n some few) J end.admissible end.quiet (go_at J go_all)

  back_empty : pool_of J back_object ≡ []
  back_empty = none_waits (generated_well_formed n some few) back_object back (back_class n) 1 2 back_calm J end.admissible end.quiet (go_at J go_all)

  front_started : 1 ≤ start_count front_object J
  front_started =
      let c = course (generated_well_formed n some few) front_object (front n) (front_class n) 0 1 (front_calm n some few) J end.admissible end.quiet in
      started front_object J c.under_way.start c.under_way.started.0 c.under_way.started.1

  back_started : 1 ≤ start_count back_object J
  back_started =
      let c = course (generated_well_formed n some few) back_object back (back_class n) 1 2 back_calm J end.admissible end.quiet in
      started back_object J c.under_way.start c.under_way.started.0 c.under_way.started.1

  front_entries : sum_by (own_entry front_object) J ≡ 4 * start_count front_object J + 4 * takes_of front_object J
  front_entries = front_exactly n some few J front_done ∙ split_heads front_object 4 4 J

  back_entries : sum_by (own_entry back_object) J ≡ 10 * start_count back_object J + 7 * takes_of back_object J
  back_entries = back_exactly n some few J back_done ∙ split_heads back_object 10 7 J

  all_posts : length (posts_of J) ≡ n
  all_posts = ap (λ xs. length xs) end.all_posted ∙ length-replicate n go

  front_takes : takes_of front_object J ≡ length (posts_of J)
  front_takes =
      let a = all_taken (generated_setting n) front_object J end.admissible in
      let none = ap (λ (ws : List (ℕ × Stimulus)). length ws) front_empty in
      let told = all_told_to_front J posts in
      let p = (run_parts n some few J run).front_takes in
      omega (arith, a, none, told, p)

  back_takes : takes_of back_object J ≡ takes_of front_object J
  back_takes =
      let a = all_taken (generated_setting n) back_object J end.admissible in
      let none = ap (λ (ws : List (ℕ × Stimulus)). length ws) back_empty in
      let told = all_told_to_back J sends in
      let sent = sends_exactly n some few J front_done in
      let p = (run_parts n some few J run).back_takes in
      omega (arith, a, none, told, sent, p)

  pub all_entries : HasAllEntries n J
  all_entries =
      let p = run_parts n some few J run in
      let a = all_posts in
      let b = front_entries in
      let c = back_entries in
      let d = front_takes in
      let e = back_takes in
      let f = front_started in
      let g = back_started in
      record {
        entries = omega (arith, a, b, c, d, e, f, g, p.entries, p.front_starts, p.back_starts);
        takes = omega (arith, a, d, e, p.takes);
      }
