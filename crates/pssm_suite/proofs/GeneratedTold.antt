-- What is told to the two objects of the generated setting: to `a` the posts, to `b` what the effects of `a` send.
use Rattle.std.proofs.Common.{◌≡◌, ◌≤◌, ◌==◌, ◌++◌, ℕ, zero, suc, List, [], ◌∷◌, length, cond, if◌then◌else◌, None, refl, sym, ap, subst, ◌∙◌, ⊎_elim, arith}
use Rattle.std.specs.Prelude.{replicate, flat_map}
use Rattle.std.specs.List.{AllByRecursion, sum_by, count_by}
use Rattle.std.specs.Option.{option_map_or}
use Rattle.std.proofs.lemmas.List.Concat.{length-flat_map}
use Rattle.std.proofs.lemmas.List.Sums.{sum_by-cons, sum_by-append, count_by-le-length}
use Rattle.pssm_semantics.specs.declared.entry.ObjectId.{ObjectId}
use Rattle.pssm_semantics.specs.declared.entry.Entry.{Entry}
use Rattle.pssm_semantics.specs.declared.entry.Entry.TheVariants.{Post, Start, Take, Done, Exit, Effect, Enter, Opened, Pick, DoStep}
use Rattle.pssm_semantics.specs.declared.entry.Rule.TheVariants.{A1, A11, A12}
use Rattle.pssm_semantics.specs.declared.stimulus.Stimulus.{Stimulus}
use Rattle.pssm_semantics.specs.declared.setting.Class.{Class}
use Rattle.pssm_semantics.specs.Journal.{Splits, object_of, configuration_after}
use Rattle.pssm_semantics.specs.Steps.{item_of, item_by}
use Rattle.pssm_semantics.specs.Pool.{outs_of, signals_of_out, posts_of_entry, signals_of_entry, posts_of, told_by}
use Rattle.pssm_semantics.specs.Known.{NamesKnown}
use Rattle.pssm_semantics.specs.Rules.{KeepsDoSteps, KeepsOuts}
use Rattle.pssm_semantics.specs.Admissible.{IsAdmissibleIn, FitsStimuli}
use Rattle.pssm_semantics.proofs.Appended.{AllByRecursion-front, AllByRecursion-back}
use Rattle.pssm_suite.specs.Generated.{go, generated_stimuli}
use Rattle.pssm_suite.specs.GeneratedSetting.{front, back, generated_setting}
use Rattle.pssm_suite.proofs.CalmMachines.{IsCalm}
use Rattle.pssm_suite.proofs.CalmFront.{front_calm}
use Rattle.pssm_suite.proofs.CalmBack.{back_calm}
use Rattle.pssm_suite.proofs.CalmEntries.{no_do_step}
use Rattle.pssm_suite.proofs.EntryWeights.{each_entry, IsNoDoStep}
use Rattle.pssm_suite.proofs.GeneratedObjects.{front_object, back_object, which_object}
use Rattle.pssm_suite.proofs.GeneratedOuts.{go_on, sends_of, back_sends, front_sends}
use Rattle.pssm_suite.proofs.TakenSignals.{is_for, told_count}

-- ---- sums over what entries tell

pub sum_of_parts : {X Y : Type 0} (f : Y → ℕ) (g : X → List Y) (xs : List X) → sum_by f (flat_map g xs) ≡ sum_by (λ x. sum_by f (g x)) xs
sum_of_parts f g [] = refl
sum_of_parts f g (x ∷ xs) =
    let a = sum_by-append f (g x) (flat_map g xs) in
    let b = sum_by-cons (λ y. sum_by f (g y)) x xs in
    let rest = sum_of_parts f g xs in
    omega (arith, a, b, rest)

pub sums_below : {X : Type 0} (f g : X → ℕ) (xs : List X) → AllByRecursion (λ x. f x ≤ g x) xs → sum_by f xs ≤ sum_by g xs
sums_below f g [] all = omega arith
sums_below f g (x ∷ xs) all =
    let a = sum_by-cons f x xs in
    let b = sum_by-cons g x xs in
    let first = all.0 in
    let rest = sums_below f g xs all.1 in
    omega (arith, a, b, first, rest)

-- ---- the posts

all_go : (n : ℕ) → AllByRecursion (λ x. x ≡ go) (generated_stimuli n)
all_go zero = tt
all_go (suc n) = (refl, all_go n)

all_parts : {X Y : Type 0} (P : Y → Type 0) (g : X → List Y) (xs : List X) → AllByRecursion P (flat_map g xs) → AllByRecursion (λ x. AllByRecursion P (g x)) xs
all_parts P g [] all = tt
all_parts P g (x ∷ xs) all = (AllByRecursion-front P (g x) (flat_map g xs) all, all_parts P g xs (AllByRecursion-back P (g x) (flat_map g xs) all))

-- each post is of the one stimulus
abbrev pub PostsGo : Entry → Type 0
PostsGo e = AllByRecursion (λ x. x ≡ go) (posts_of_entry e)

pub posts_go : (n : ℕ) (J : List Entry) → FitsStimuli J (generated_stimuli n) → AllByRecursion PostsGo J
posts_go n J (rest, same) =
    let all : AllByRecursion (λ x. x ≡ go) (posts_of J ++ rest) = subst (AllByRecursion (λ x. x ≡ go)) same (all_go n) in
    all_parts (λ x. x ≡ go) posts_of_entry J (AllByRecursion-front (λ x. x ≡ go) (posts_of J) rest all)

none_for_back : (xs : List Stimulus) → AllByRecursion (λ x. x ≡ go) xs → count_by (is_for back_object) xs ≡ 0
none_for_back [] all = refl
none_for_back (x ∷ xs) all =
    let a = sum_by-cons (λ (y : Stimulus). cond (is_for back_object y) 1 0) x xs in
    let b : ◌≡◌ {A = ℕ} (cond (is_for back_object x) 1 0) 0 = ap {B = ℕ} (λ (y : Stimulus). cond (is_for back_object y) 1 0) all.0 in
    let rest = none_for_back xs all.1 in
    omega (arith, a, b, rest)

-- ---- the sends

abbrev sent : Stimulus
sent = record { object = record { 0 = 1 }; signal = record { 0 = 0 }; args = [] }

sent_to_front : (k : ℕ) → count_by (is_for front_object) (flat_map signals_of_out (replicate k go_on)) ≡ 0
sent_to_front zero = refl
sent_to_front (suc k) =
    let a = sum_by-cons (λ (y : Stimulus). cond (is_for front_object y) 1 0) sent (flat_map signals_of_out (replicate k go_on)) in
    let rest = sent_to_front k in
    omega (arith, a, rest)

pub sent_to_back : (k : ℕ) → count_by (is_for back_object) (flat_map signals_of_out (replicate k go_on)) ≡ k
sent_to_back zero = refl
sent_to_back (suc k) =
    let a = sum_by-cons (λ (y : Stimulus). cond (is_for back_object y) 1 0) sent (flat_map signals_of_out (replicate k go_on)) in
    let rest = sent_to_back k in
    omega (arith, a, rest)

-- what an entry sends: of `a` so much as its item does, of `b` nothing
abbrev pub SendsAsItem : Entry → Type 0
SendsAsItem e = outs_of e ≡ replicate (option_map_or sends_of (item_by front_object e) 0) go_on

module _ (n : ℕ) (some : 1 ≤ n) (few : n ≤ 4000) (J : List Entry) (admissible : IsAdmissibleIn (generated_setting n) J) where
  no_do : (class : Class) (first count : ℕ) → IsCalm class.machine first count → (before : List Entry) (e : Entry) → KeepsDoSteps class.machine before e → IsNoDoStep e
  no_do class first count calm before (DoStep q v k outs) h = no_do_step class.machine first count calm (configuration_after class.machine before q) v k h
  no_do class first count calm before (Post q g args) h = tt
  no_do class first count calm before (Start q) h = tt
  no_do class first count calm before (Take q k firing) h = tt
  no_do class first count calm before (Done q v firing) h = tt
  no_do class first count calm before (Exit q v outs) h = tt
  no_do class first count calm before (Effect q t outs) h = tt
  no_do class first count calm before (Enter q v outs) h = tt
  no_do class first count calm before (Opened q r mode how) h = tt
  no_do class first count calm before (Pick q v route) h = tt

  -- an entry of one of the objects runs its own item
  by_own : (e : Entry) → object_of e ≡ front_object → item_by front_object e ≡ item_of e
  by_own e own = ap (λ (q : ObjectId). if q.0 == 0 then item_of e else None) own

  by_other : (e : Entry) → object_of e ≡ back_object → item_by front_object e ≡ None
  by_other e own = ap (λ (q : ObjectId). if q.0 == 0 then item_of e else None) own

  front_entry : (before : List Entry) (e : Entry) → object_of e ≡ front_object → NamesKnown (generated_setting n) (front n) e → KeepsDoSteps (front n).machine before e
      → KeepsOuts (front n) (told_by before) before e → SendsAsItem e
  front_entry before e own known steps keeps =
      front_sends n (front_calm n some few) (generated_setting n) (told_by before) before e (no_do (front n) 0 1 (front_calm n some few) before e steps) known keeps
      ∙ ap (λ r. replicate (option_map_or sends_of r 0) go_on) (sym (by_own e own))

  back_entry : (before : List Entry) (e : Entry) → object_of e ≡ back_object → KeepsDoSteps back.machine before e
      → KeepsOuts back (told_by before) before e → SendsAsItem e
  back_entry before e own steps keeps =
      back_sends back_calm (told_by before) before e (no_do back 1 2 back_calm before e steps) keeps
      ∙ ap (λ r. replicate (option_map_or sends_of r 0) go_on) (sym (by_other e own))

  sends_as_item : (before after : List Entry) (e : Entry) → Splits J before e after → SendsAsItem e
  sends_as_item before after e splits =
      let known = admissible before after e splits A1 in
      let class = known.0 in
      let steps = admissible before after e splits A11 class known.1 in
      let keeps = admissible before after e splits A12 class known.1 in
      ⊎_elim
      (λ one.
      front_entry before e one.0 (subst (λ c. NamesKnown (generated_setting n) c e) one.1 known.2) (subst (λ (c : Class). KeepsDoSteps c.machine before e) one.1 steps)
      (subst (λ c. KeepsOuts c (told_by before) before e) one.1 keeps))
      (λ other.
      back_entry before e other.0 (subst (λ (c : Class). KeepsDoSteps c.machine before e) other.1 steps)
      (subst (λ c. KeepsOuts c (told_by before) before e) other.1 keeps))
      (which_object n (object_of e) class known.1)

  pub all_send : AllByRecursion SendsAsItem J
  all_send = each_entry SendsAsItem J sends_as_item

-- ---- what the entries tell

-- the sends of an entry, by its item
abbrev pub item_weight : Entry → ℕ
item_weight e = option_map_or sends_of (item_by front_object e) 0

entry_to_front : (e : Entry) → SendsAsItem e → count_by (is_for front_object) (signals_of_entry e) ≤ length (posts_of_entry e)
entry_to_front e sends =
    let parts = sum_by-append (λ (y : Stimulus). cond (is_for front_object y) 1 0) (posts_of_entry e) (flat_map signals_of_out (outs_of e)) in
    let posted = count_by-le-length (is_for front_object) (posts_of_entry e) in
    let others = ap (λ os. count_by (is_for front_object) (flat_map signals_of_out os)) sends in
    let none = sent_to_front (item_weight e) in
    omega (arith, parts, posted, others, none)

entry_to_back : (e : Entry) → PostsGo e → SendsAsItem e → count_by (is_for back_object) (signals_of_entry e) ≤ item_weight e
entry_to_back e posts sends =
    let parts = sum_by-append (λ (y : Stimulus). cond (is_for back_object y) 1 0) (posts_of_entry e) (flat_map signals_of_out (outs_of e)) in
    let posted = none_for_back (posts_of_entry e) posts in
    let others = ap (λ os. count_by (is_for back_object) (flat_map signals_of_out os)) sends in
    let some = sent_to_back (item_weight e) in
    omega (arith, parts, posted, others, some)

pub both : {X : Type 0} (P Q R : X → Type 0) → ((x : X) → P x → Q x → R x) → (xs : List X) → AllByRecursion P xs → AllByRecursion Q xs → AllByRecursion R xs
both P Q R f [] p q = tt
both P Q R f (x ∷ xs) p q = (f x p.0 q.0, both P Q R f xs p.1 q.1)

pub told_to_front : (J : List Entry) → AllByRecursion SendsAsItem J → told_count front_object J ≤ length (posts_of J)
told_to_front J sends =
    let a = sum_of_parts (λ (y : Stimulus). cond (is_for front_object y) 1 0) signals_of_entry J in
    let each = both SendsAsItem SendsAsItem (λ e. count_by (is_for front_object) (signals_of_entry e) ≤ length (posts_of_entry e)) (λ e s t. entry_to_front e s) J sends sends in
    let b = sums_below (λ e. count_by (is_for front_object) (signals_of_entry e)) (λ e. length (posts_of_entry e)) J each in
    let c = length-flat_map posts_of_entry J in
    omega (arith, a, b, c)

pub told_to_back : (J : List Entry) → AllByRecursion PostsGo J → AllByRecursion SendsAsItem J → told_count back_object J ≤ sum_by item_weight J
told_to_back J posts sends =
    let a = sum_of_parts (λ (y : Stimulus). cond (is_for back_object y) 1 0) signals_of_entry J in
    let each = both PostsGo SendsAsItem (λ e. count_by (is_for back_object) (signals_of_entry e) ≤ item_weight e) entry_to_back J posts sends in
    let b = sums_below (λ e. count_by (is_for back_object) (signals_of_entry e)) item_weight J each in
    omega (arith, a, b)
