-- Sums over the entries of a journal, cut into the steps of one object.
use Rattle.std.proofs.Common.{◌≡◌, ◌⊎◌, ◌≤◌, ◌<◌, ◌+◌, ◌*◌, ◌==◌, ◌++◌, ℕ, zero, suc, List, [], ◌∷◌, length, Bool, true, false, cond, if◌then◌else◌, Option, Some, None, filter_map, refl, sym, ap, ◌∙◌, ⊎_elim, arith, length-append}
use Rattle.std.specs.List.{AllByRecursion, sum_by, cons_option}
use Rattle.std.specs.Option.{option_map_or}
use Rattle.std.proofs.lemmas.List.Sums.{sum_by-cons, sum_by-append}
use Rattle.std.proofs.Math.Nat.{mul-add}
use Rattle.pssm_model.specs.declared.steps.How.{How}
use Rattle.pssm_model.specs.declared.steps.How.TheVariants.{By, Nothing}
use Rattle.pssm_model.specs.declared.steps.Item.{Item}
use Rattle.pssm_model.specs.declared.steps.Item.TheVariants as items
use Rattle.pssm_semantics.specs.declared.entry.ObjectId.{ObjectId}
use Rattle.pssm_semantics.specs.declared.entry.Entry.{Entry}
use Rattle.pssm_semantics.specs.declared.entry.Entry.TheVariants.{Post, Start, Take, Done, Exit, Effect, Enter, Opened, Pick, DoStep}
use Rattle.pssm_semantics.specs.Journal.{IsPost, Splits, Heads, object_of}
use Rattle.pssm_semantics.specs.Steps.{item_by}
use Rattle.pssm_semantics_laws.proofs.Objects.{same_object}

-- ---- what holds of each entry

pub each_entry : (P : Entry → Type 0) (J : List Entry) → ((before after : List Entry) (e : Entry) → Splits J before e after → P e) → AllByRecursion P J
each_entry P [] h = tt
each_entry P (e ∷ J) h = (h [] J e refl, each_entry P J (λ before after f s. h (e ∷ before) after f (ap (λ xs. e ∷ xs) s)))

-- ---- sums over steps

-- The journal ends with a step, which weighs no more than its head allows for.
pub record EndsWithin (Good : List Entry → Type 0) (weight most : Entry → ℕ) (J : List Entry) : Type 0 where
  pub before : List Entry
  pub head : Entry
  pub after : List Entry
  pub splits : J ≡ before ++ head ∷ after
  pub good : Good before
  pub few : weight head + sum_by weight after ≤ most head

sum_at : (f : Entry → ℕ) (J before after : List Entry) (head : Entry) → J ≡ before ++ head ∷ after → sum_by f J ≡ sum_by f before + (f head + sum_by f after)
sum_at f J before after head splits =
    ap (sum_by f) splits ∙ sum_by-append f before (head ∷ after) ∙ ap (λ k. sum_by f before + k) (sum_by-cons f head after)

shorter : (J before after : List Entry) (head : Entry) (k : ℕ) → J ≡ before ++ head ∷ after → length J < suc k → length before < k
shorter J before after head k splits lt =
    let long = length-append before (head ∷ after) in
    let same = ap (λ (xs : List Entry). length xs) splits in
    omega (arith, long, same, lt)

module _ (Good : List Entry → Type 0) (weight most : Entry → ℕ) (each : (J : List Entry) → Good J → (sum_by weight J ≡ 0) ⊎ EndsWithin Good weight most J) where
  below : (k : ℕ) (J : List Entry) → length J < k → Good J → sum_by weight J ≤ sum_by most J
  below zero J lt good = absurd (omega (arith, lt))
  below (suc k) J lt good =
      ⊎_elim
      (λ none. omega (arith, none))
      (λ (last : EndsWithin Good weight most J).
      let earlier = below k last.before (shorter J last.before last.after last.head k last.splits lt) last.good in
      let a = sum_at weight J last.before last.after last.head last.splits in
      let b = sum_at most J last.before last.after last.head last.splits in
      let few = last.few in
      omega (arith, earlier, a, b, few))
      (each J good)

  pub steps_below : (J : List Entry) → Good J → sum_by weight J ≤ sum_by most J
  steps_below J good = below (suc (length J)) J (omega arith) good

-- The journal ends with a step, which weighs just what its head and its further entries ask for.
pub record EndsExactly (Good : List Entry → Type 0) (weight most : Entry → ℕ) (J : List Entry) : Type 0 where
  pub before : List Entry
  pub head : Entry
  pub after : List Entry
  pub splits : J ≡ before ++ head ∷ after
  pub good : Good before
  pub same : weight head + sum_by weight after ≡ most head + sum_by most after

module _ (Good : List Entry → Type 0) (weight most : Entry → ℕ)
    (each : (J : List Entry) → Good J → ((sum_by weight J ≡ 0) × (sum_by most J ≡ 0)) ⊎ EndsExactly Good weight most J) where
  exactly : (k : ℕ) (J : List Entry) → length J < k → Good J → sum_by weight J ≡ sum_by most J
  exactly zero J lt good = absurd (omega (arith, lt))
  exactly (suc k) J lt good =
      ⊎_elim
      (λ none. none.0 ∙ sym none.1)
      (λ (last : EndsExactly Good weight most J).
      let earlier = exactly k last.before (shorter J last.before last.after last.head k last.splits lt) last.good in
      let a = sum_at weight J last.before last.after last.head last.splits in
      let b = sum_at most J last.before last.after last.head last.splits in
      let same = last.same in
      omega (arith, earlier, a, b, same))
      (each J good)

  pub steps_exactly : (J : List Entry) → Good J → sum_by weight J ≡ sum_by most J
  steps_exactly J good = exactly (suc (length J)) J (omega arith) good

-- ---- the entries of a step weigh what its items do

sum_of_option : {X : Type 0} (v : X → ℕ) (r : Option X) (xs : List X) → sum_by v (cons_option r xs) ≡ option_map_or v r 0 + sum_by v xs
sum_of_option v None xs = omega arith
sum_of_option v (Some x) xs = sum_by-cons v x xs

-- The entry, unless it begins a step of the object, weighs what its item does, where it runs one of the object.
abbrev pub WeighsAs : ObjectId → (Entry → ℕ) → (Item × How → ℕ) → Entry → Type 0
WeighsAs o weight value e = (Heads e o → ⊥) → weight e ≡ option_map_or value (item_by o e) 0

pub weight_of_items : (o : ObjectId) (weight : Entry → ℕ) (value : Item × How → ℕ) (after : List Entry) → AllByRecursion (λ e. Heads e o → ⊥) after
    → AllByRecursion (WeighsAs o weight value) after → sum_by weight after ≡ sum_by value (filter_map (item_by o) after)
weight_of_items o weight value [] none all = refl
weight_of_items o weight value (e ∷ after) none all =
    let first = all.0 none.0 in
    let rest = weight_of_items o weight value after none.1 all.1 in
    let a = sum_by-cons weight e after in
    let b = sum_of_option value (item_by o e) (filter_map (item_by o) after) in
    omega (arith, a, b, first, rest)

pub sum_of_ones : {X : Type 0} (xs : List X) → sum_by (λ x. 1) xs ≡ length xs
sum_of_ones [] = refl
sum_of_ones (x ∷ xs) = let a = sum_by-cons (λ y. 1) x xs in let b = sum_of_ones xs in omega (arith, a, b)

-- ---- where the object has posts alone

pub sum_of_none : (P : Entry → Type 0) (weight : Entry → ℕ) → ((e : Entry) → P e → weight e ≡ 0) → (J : List Entry) → AllByRecursion P J → sum_by weight J ≡ 0
sum_of_none P weight none [] all = refl
sum_of_none P weight none (e ∷ J) all =
    let a = sum_by-cons weight e J in
    let b = none e all.0 in
    let c = sum_of_none P weight none J all.1 in
    omega (arith, a, b, c)

-- ---- the weights

-- one for each entry of the object but posts
abbrev pub own_entry : ObjectId → Entry → ℕ
own_entry o (Post q signal args) = 0
own_entry o e = cond ((object_of e).0 == o.0) 1 0

-- so much for the start of the object, and so much for each of its takes
abbrev pub own_head : ObjectId → ℕ → ℕ → Entry → ℕ
own_head o first later (Start q) = cond (q.0 == o.0) first 0
own_head o first later (Take q number firing) = cond (q.0 == o.0) later 0
own_head o first later _ = 0

if_own : (b : Bool) (k : ℕ) → (b ≡ true → ⊥) → cond b k 0 ≡ 0
if_own true k none = absurd (none refl)
if_own false k none = refl

-- an entry that is a post or of another object
pub no_own_entry : (o : ObjectId) (e : Entry) → ((object_of e ≡ o) → IsPost e) → own_entry o e ≡ 0
no_own_entry o (Post q g args) h = refl
no_own_entry o (Start q) h = if_own (q.0 == o.0) 1 (λ same. h (same_object q o same))
no_own_entry o (Take q k firing) h = if_own (q.0 == o.0) 1 (λ same. h (same_object q o same))
no_own_entry o (Done q v firing) h = if_own (q.0 == o.0) 1 (λ same. h (same_object q o same))
no_own_entry o (Exit q v outs) h = if_own (q.0 == o.0) 1 (λ same. h (same_object q o same))
no_own_entry o (Effect q t outs) h = if_own (q.0 == o.0) 1 (λ same. h (same_object q o same))
no_own_entry o (Enter q v outs) h = if_own (q.0 == o.0) 1 (λ same. h (same_object q o same))
no_own_entry o (Opened q r mode how) h = if_own (q.0 == o.0) 1 (λ same. h (same_object q o same))
no_own_entry o (Pick q v route) h = if_own (q.0 == o.0) 1 (λ same. h (same_object q o same))
no_own_entry o (DoStep q v k outs) h = if_own (q.0 == o.0) 1 (λ same. h (same_object q o same))

pub no_own_head : (o : ObjectId) (first later : ℕ) (e : Entry) → ((object_of e ≡ o) → IsPost e) → own_head o first later e ≡ 0
no_own_head o first later (Start q) h = if_own (q.0 == o.0) first (λ same. h (same_object q o same))
no_own_head o first later (Take q k firing) h = if_own (q.0 == o.0) later (λ same. h (same_object q o same))
no_own_head o first later (Post q g args) h = refl
no_own_head o first later (Done q v firing) h = refl
no_own_head o first later (Exit q v outs) h = refl
no_own_head o first later (Effect q t outs) h = refl
no_own_head o first later (Enter q v outs) h = refl
no_own_head o first later (Opened q r mode how) h = refl
no_own_head o first later (Pick q v route) h = refl
no_own_head o first later (DoStep q v k outs) h = refl

-- an entry that begins no step of the object
pub no_later_head : (o : ObjectId) (first later : ℕ) (e : Entry) → (Heads e o → ⊥) → own_head o first later e ≡ 0
no_later_head o first later (Start q) h = if_own (q.0 == o.0) first h
no_later_head o first later (Take q k firing) h = if_own (q.0 == o.0) later h
no_later_head o first later (Post q g args) h = refl
no_later_head o first later (Done q v firing) h = refl
no_later_head o first later (Exit q v outs) h = refl
no_later_head o first later (Effect q t outs) h = refl
no_later_head o first later (Enter q v outs) h = refl
no_later_head o first later (Opened q r mode how) h = refl
no_later_head o first later (Pick q v route) h = refl
no_later_head o first later (DoStep q v k outs) h = refl

-- The entry does no do step.
abbrev pub IsNoDoStep : Entry → Type 0
IsNoDoStep (DoStep o state step outs) = ⊥
IsNoDoStep _ = Unit {0}

one_item : (b : Bool) (x : Item × How) → ◌≡◌ {A = ℕ} (cond b 1 0) (option_map_or (λ (y : Item × How). 1) (if b then Some x else None) 0)
one_item true x = refl
one_item false x = refl

pub no_value : (value : Item × How → ℕ) (b : Bool) → (let none : Option (Item × How) = None in option_map_or value (if b then none else none) 0) ≡ 0
no_value value true = refl
no_value value false = refl

head_weight : (b : Bool) → (b ≡ true → ⊥) → ◌≡◌ {A = ℕ} (cond b 1 0) (let none : Option (Item × How) = None in option_map_or (λ (y : Item × How). 1) (if b then none else none) 0)
head_weight true h = absurd (h refl)
head_weight false h = refl

-- each other entry of the object runs an item
pub own_entry_weighs : (o : ObjectId) (e : Entry) → ((object_of e ≡ o) → IsNoDoStep e) → WeighsAs o (own_entry o) (λ x. 1) e
own_entry_weighs o (Post q g args) free other = sym (no_value (λ x. 1) (q.0 == o.0))
own_entry_weighs o (Start q) free other = head_weight (q.0 == o.0) other
own_entry_weighs o (Take q k firing) free other = head_weight (q.0 == o.0) other
own_entry_weighs o (Done q v firing) free other = head_weight (q.0 == o.0) other
own_entry_weighs o (Exit q v outs) free other = one_item (q.0 == o.0) (items.Exit v, Nothing)
own_entry_weighs o (Effect q t outs) free other = one_item (q.0 == o.0) (items.Effect t, Nothing)
own_entry_weighs o (Enter q v outs) free other = one_item (q.0 == o.0) (items.Enter v, Nothing)
own_entry_weighs o (Opened q r mode how) free other = one_item (q.0 == o.0) (items.Opened r mode, how)
own_entry_weighs o (Pick q v route) free other = one_item (q.0 == o.0) (items.Pick v, By route)
own_entry_weighs o (DoStep q v k outs) free other = head_weight (q.0 == o.0) (λ same. free (same_object q o same))

-- ---- starts and takes apart

split_head : (o : ObjectId) (first later : ℕ) (e : Entry) → own_head o first later e ≡ first * own_head o 1 0 e + later * own_head o 0 1 e
split_head o first later (Start q) = by (q.0 == o.0)
  where
    by : (b : Bool) → cond b first 0 ≡ first * cond b 1 0 + later * cond b 0 0
    by true = omega arith
    by false = omega arith
split_head o first later (Take q k firing) = by (q.0 == o.0)
  where
    by : (b : Bool) → cond b later 0 ≡ first * cond b 0 0 + later * cond b 1 0
    by true = omega arith
    by false = omega arith
split_head o first later (Post q g args) = omega arith
split_head o first later (Done q v firing) = omega arith
split_head o first later (Exit q v outs) = omega arith
split_head o first later (Effect q t outs) = omega arith
split_head o first later (Enter q v outs) = omega arith
split_head o first later (Opened q r mode how) = omega arith
split_head o first later (Pick q v route) = omega arith
split_head o first later (DoStep q v k outs) = omega arith

-- how often the object starts, and how many signals it takes
abbrev pub start_count : ObjectId → List Entry → ℕ
start_count o J = sum_by (own_head o 1 0) J

abbrev pub takes_of : ObjectId → List Entry → ℕ
takes_of o J = sum_by (own_head o 0 1) J

pub split_heads : (o : ObjectId) (first later : ℕ) (J : List Entry) → sum_by (own_head o first later) J ≡ first * start_count o J + later * takes_of o J
split_heads o first later [] = omega arith
split_heads o first later (e ∷ J) =
    let a = sum_by-cons (own_head o first later) e J in
    let b = sum_by-cons (own_head o 1 0) e J in
    let c = sum_by-cons (own_head o 0 1) e J in
    let d = split_head o first later e in
    let rest = split_heads o first later J in
    let x = mul-add first (own_head o 1 0 e) (start_count o J) in
    let y = mul-add later (own_head o 0 1 e) (takes_of o J) in
    let p = ap (λ k. first * k) b in
    let q = ap (λ k. later * k) c in
    omega (arith, a, d, rest, x, y, p, q)
