-- What one more entry does to the store and the parameters of an object, and that both go by the signals taken so far alone.
use Rattle.std.proofs.Common.{◌≡◌, ℕ, zero, suc, List, [], ◌∷◌, ◌++◌, refl, sym, ◌∙◌, ap, subst, append_assoc, append-nil, Bool, true, false, Some, ◌==◌, if◌then◌else◌, slice_get, eq-eqb}
use Rattle.std.specs.List.{AllByRecursion}
use Rattle.std.specs.Option.{option_map_or}
use Rattle.pssm_semantics.specs.declared.entry.ObjectId.{ObjectId}
use Rattle.pssm_semantics.specs.declared.entry.Entry.{Entry}
use Rattle.pssm_semantics.specs.declared.entry.Entry.TheVariants.{Post, Start, Take, Done, Exit, Effect, Enter, Opened, Pick, DoStep}
use Rattle.pssm_semantics.specs.declared.setting.Class.{Class}
use Rattle.pssm_semantics.specs.declared.stimulus.Stimulus.{Stimulus}
use Rattle.pssm_semantics.specs.Journal.{object_of, is_head_of}
use Rattle.pssm_semantics.specs.Values.{Store, outcome_of}
use Rattle.pssm_semantics.specs.Pool.{KnownSignals, signals_of, signals_of_entry, told_by}
use Rattle.pssm_semantics.specs.Rules.{taken_by}
use Rattle.pssm_semantics.specs.Behaviours.{params_of_head, params_of, params_at, act_of, outcome_at, first_store, store_after, store_through, store_of}
use Rattle.pssm_semantics.proofs.Appended.{AllByRecursion-front, AllByRecursion-back, from_the_end}
use Rattle.pssm_semantics_laws.proofs.LastStep.{last_head-begins, last_head-goes_on}
use Rattle.pssm_semantics_laws.proofs.Objects.{same_object}
use Rattle.pssm_semantics_laws.proofs.Waiting.{signals_of-append}

store_through-append : (class : Class) (told : KnownSignals) (o : ObjectId) (before rest : List Entry) (e : Entry) (store : Store)
    → store_through class told o before (rest ++ e ∷ []) store ≡ store_after class told o (before ++ rest) e (store_through class told o before rest store)
store_through-append class told o before [] e store = ap (λ xs. store_after class told o xs e store) (sym (append-nil before))
store_through-append class told o before (x ∷ rest) e store =
    store_through-append class told o (before ++ x ∷ []) rest e (store_after class told o before x store)
    ∙ ap (λ xs. store_after class told o xs e (store_through class told o (before ++ x ∷ []) rest (store_after class told o before x store)))
    (append_assoc before (x ∷ []) rest)

-- The store after an entry is what the entry makes of the store before it.
pub store_of-append : (class : Class) (told : KnownSignals) (J : List Entry) (e : Entry) (o : ObjectId)
    → store_of class told (J ++ e ∷ []) o ≡ store_after class told o J e (store_of class told J o)
store_of-append class told J e o = store_through-append class told o [] J e (first_store class)

-- the two know the same of each signal that the object takes in the journal
abbrev pub SameTakes : KnownSignals → KnownSignals → ObjectId → List Entry → Type 0
SameTakes told more o J = AllByRecursion (λ e. (object_of e ≡ o) → taken_by told e ≡ taken_by more e) J

params_of_head-same : (told more : KnownSignals) (e : Entry) → taken_by told e ≡ taken_by more e → params_of_head told (Some e) ≡ params_of_head more (Some e)
params_of_head-same told more (Take q n f) same = ap (λ x. params_of_head (λ k. x) (Some (Take q n f))) same
params_of_head-same told more (Post q s args) same = refl
params_of_head-same told more (Start q) same = refl
params_of_head-same told more (Done q s f) same = refl
params_of_head-same told more (Exit q s outs) same = refl
params_of_head-same told more (Effect q t outs) same = refl
params_of_head-same told more (Enter q s outs) same = refl
params_of_head-same told more (Opened q r mode how) same = refl
params_of_head-same told more (Pick q c route) same = refl
params_of_head-same told more (DoStep q s k outs) same = refl

apart : (b : Bool) → b ≡ false → b ≡ true → ⊥
apart b f t = let h : false ≡ true = sym f ∙ t in cc

-- what begins a step of an object is an entry of it
pub head_own : (o : ObjectId) (e : Entry) → is_head_of o e ≡ true → object_of e ≡ o
head_own o (Start q) is = same_object q o is
head_own o (Take q n f) is = same_object q o is
head_own o (Done q s f) is = same_object q o is
head_own o (Post q s args) is = absurd (cc)
head_own o (Exit q s outs) is = absurd (cc)
head_own o (Effect q t outs) is = absurd (cc)
head_own o (Enter q s outs) is = absurd (cc)
head_own o (Opened q r mode how) is = absurd (cc)
head_own o (Pick q c route) is = absurd (cc)
head_own o (DoStep q s k outs) is = absurd (cc)

params_of-step : (told more : KnownSignals) (J : List Entry) (e : Entry) (o : ObjectId) (b : Bool) → is_head_of o e ≡ b
    → ((object_of e ≡ o) → taken_by told e ≡ taken_by more e)
    → params_of told J o ≡ params_of more J o → params_of told (J ++ e ∷ []) o ≡ params_of more (J ++ e ∷ []) o
params_of-step told more J e o true heads same before =
    ap (λ x. params_of_head told x) (last_head-begins J e o heads)
    ∙ params_of_head-same told more e (same (head_own o e heads))
    ∙ sym (ap (λ x. params_of_head more x) (last_head-begins J e o heads))
params_of-step told more J e o false heads same before =
    ap (λ x. params_of_head told x) (last_head-goes_on J e o (apart (is_head_of o e) heads))
    ∙ before
    ∙ sym (ap (λ x. params_of_head more x) (last_head-goes_on J e o (apart (is_head_of o e) heads)))

module _ (told more : KnownSignals) (o : ObjectId) where
  abbrev SameTake : Entry → Type 0
  SameTake e = (object_of e ≡ o) → taken_by told e ≡ taken_by more e

  -- The parameters go by the signals that the object takes in the journal.
  pub params_of-same : (J : List Entry) → SameTakes told more o J → params_of told J o ≡ params_of more J o
  params_of-same J same =
      from_the_end (λ xs. SameTakes told more o xs → params_of told xs o ≡ params_of more xs o)
      (λ all. refl)
      (λ xs e before all. params_of-step told more xs e o (is_head_of o e) refl
      (AllByRecursion-back SameTake xs (e ∷ []) all).0
      (before (AllByRecursion-front SameTake xs (e ∷ []) all)))
      J same

  params_at-own : (J : List Entry) (e : Entry) → params_of told J (object_of e) ≡ params_of more J (object_of e) → params_at told J e ≡ params_at more J e
  params_at-own J (Post q s args) same = same
  params_at-own J (Start q) same = same
  params_at-own J (Take q n f) same = same
  params_at-own J (Done q s f) same = same
  params_at-own J (Exit q s outs) same = same
  params_at-own J (Effect q t outs) same = same
  params_at-own J (Enter q s outs) same = same
  params_at-own J (Opened q r mode how) same = same
  params_at-own J (Pick q c route) same = same
  params_at-own J (DoStep q s k outs) same = refl

  params_at-same : (J : List Entry) (e : Entry) → object_of e ≡ o → SameTakes told more o J → params_at told J e ≡ params_at more J e
  params_at-same J e own same =
      params_at-own J e (subst (λ q. params_of told J q ≡ params_of more J q) (sym own) (params_of-same J same))

  store_after-by : (class : Class) (before : List Entry) (e : Entry) (store : Store) (own : Bool) → ((object_of e).0 == o.0) ≡ own
      → SameTakes told more o before → store_after class told o before e store ≡ store_after class more o before e store
  store_after-by class before e store true is same =
      ap (λ params. if (object_of e).0 == o.0
      then (option_map_or (λ act. outcome_of act (object_of e) store params) (act_of class e) (record { store = store; outs = [] })).store else store)
      (params_at-same before e (same_object (object_of e) o is) same)
  store_after-by class before e store false is same =
      rw is refl

  store_after-same : (class : Class) (before : List Entry) (e : Entry) (store : Store) → SameTakes told more o before
      → store_after class told o before e store ≡ store_after class more o before e store
  store_after-same class before e store same = store_after-by class before e store ((object_of e).0 == o.0) refl same

  store_through-same : (class : Class) (before rest : List Entry) (store : Store) → SameTakes told more o (before ++ rest)
      → store_through class told o before rest store ≡ store_through class more o before rest store
  store_through-same class before [] store same = refl
  store_through-same class before (e ∷ rest) store same =
      let Same : List Entry → Type 0 = λ xs. SameTakes told more o xs in
      let all : SameTakes told more o ((before ++ e ∷ []) ++ rest) = subst Same (sym (append_assoc before (e ∷ []) rest)) same in
      ap (λ s. store_through class told o (before ++ e ∷ []) rest s)
      (store_after-same class before e store (AllByRecursion-front SameTake before (e ∷ rest) same))
      ∙ store_through-same class (before ++ e ∷ []) rest (store_after class more o before e store) all

  -- The store goes by the signals that the object takes in the journal.
  pub store_of-same : (class : Class) (J : List Entry) → SameTakes told more o J → store_of class told J o ≡ store_of class more J o
  store_of-same class J same = store_through-same class [] J (first_store class) same

slice_get-front : {X : Type 0} (xs ys : List X) (k : ℕ) (x : X) → slice_get xs k ≡ Some x → slice_get (xs ++ ys) k ≡ Some x
slice_get-front [] ys k x e = cc
slice_get-front (z ∷ zs) ys zero x e = e
slice_get-front (z ∷ zs) ys (suc k) x e = slice_get-front zs ys k x e

-- What a journal tells of a signal, it tells with more entries too.
pub told_by-more : (J : List Entry) (e : Entry) (n : ℕ) (x : Stimulus) → told_by J n ≡ Some x → told_by (J ++ e ∷ []) n ≡ Some x
told_by-more J e zero x told = cc
told_by-more J e (suc n) x told =
    ap (λ xs. slice_get xs n) (signals_of-append J e) ∙ slice_get-front (signals_of J) (signals_of_entry e) n x told

-- What one more entry does to the values of an object's variables and to the parameters of its step, where the journal with it tells no more of the signals
-- that the object has taken.
module _ (class : Class) (J : List Entry) (e : Entry) (o : ObjectId) (same : SameTakes (told_by J) (told_by (J ++ e ∷ [])) o J) where
  abbrev later : KnownSignals
  later = told_by (J ++ e ∷ [])

  store_before : store_of class later J o ≡ store_of class (told_by J) J o
  store_before = sym (store_of-same (told_by J) later o class J same)

  store_by : (own : Bool) → ((object_of e).0 == o.0) ≡ own
      → store_of class later (J ++ e ∷ []) o ≡ (if own then (outcome_at class later J e (store_of class later J o)).store else store_of class later J o)
  store_by own is =
      store_of-append class later J e o
      ∙ ap (λ (b : Bool). if b then (outcome_at class later J e (store_of class later J o)).store else store_of class later J o) is

  -- an entry of the object changes the values by its behaviour
  pub store_of-own : object_of e ≡ o → store_of class later (J ++ e ∷ []) o ≡ (outcome_at class (told_by J) J e (store_of class (told_by J) J o)).store
  store_of-own own =
      let is : ((object_of e).0 == o.0) ≡ true = eq-eqb (object_of e).0 o.0 (ap (λ (q : ObjectId). q.0) own) in
      store_by true is
      ∙ ap (λ store. (outcome_at class later J e store).store) store_before
      ∙ ap (λ params. (option_map_or (λ act. outcome_of act (object_of e) (store_of class (told_by J) J o) params) (act_of class e)
      (record { store = store_of class (told_by J) J o; outs = [] })).store) (sym (params_at-same (told_by J) later o J e own same))

  other_number : (b : Bool) → ((object_of e).0 == o.0) ≡ b → (object_of e ≡ o → ⊥) → b ≡ false
  other_number true is other = absurd (other (same_object (object_of e) o is))
  other_number false is other = refl

  -- and one of another object does not
  pub store_of-other : (object_of e ≡ o → ⊥) → store_of class later (J ++ e ∷ []) o ≡ store_of class (told_by J) J o
  store_of-other other = store_by false (other_number ((object_of e).0 == o.0) refl other) ∙ store_before

  -- a head brings its parameters, and another entry leaves them
  pub params_of-begins : is_head_of o e ≡ true → params_of later (J ++ e ∷ []) o ≡ params_of_head later (Some e)
  params_of-begins heads = ap (λ x. params_of_head later x) (last_head-begins J e o heads)

  pub params_of-goes_on : (is_head_of o e ≡ true → ⊥) → params_of later (J ++ e ∷ []) o ≡ params_of (told_by J) J o
  params_of-goes_on other =
      ap (λ x. params_of_head later x) (last_head-goes_on J e o other) ∙ sym (params_of-same (told_by J) later o J same)
