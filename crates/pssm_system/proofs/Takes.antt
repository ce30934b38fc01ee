-- In every admissible journal steps follow finished steps, and each signal that is taken was told earlier, to its object, and is taken once.
use Rattle.std.proofs.Common.{◌≡◌, ◌<◌, ◌+◌, ◌++◌, ◌==◌, ◌&&◌, ◌||◌, ℕ, zero, suc, List, [], ◌∷◌, Bool, true, false, not, cond, filter, Some, None, slice_get, refl, sym, ap, subst, ◌∙◌, arith, add-one, eq-eqb}
use Rattle.std.specs.List.{AllByRecursion, list_any, enumerate_from}
use Rattle.std.proofs.lemmas.Bool.{false≢true}
use Rattle.std.proofs.lemmas.Grind.{flat_map-append}
use Rattle.pssm_model.specs.declared.steps.Firing.{Firing}
use Rattle.pssm_semantics.specs.declared.entry.ObjectId.{ObjectId}
use Rattle.pssm_semantics.specs.declared.entry.Entry.{Entry}
use Rattle.pssm_semantics.specs.declared.entry.Entry.TheVariants.{Post, Start, Take, Done, Exit, Effect, Enter, Opened, Pick, DoStep}
use Rattle.pssm_semantics.specs.declared.entry.Rule.TheVariants.{A1, A4, A6}
use Rattle.pssm_semantics.specs.declared.stimulus.Stimulus.{Stimulus}
use Rattle.pssm_semantics.specs.declared.setting.Setting.{Setting}
use Rattle.pssm_semantics.specs.Settings.{class_of}
use Rattle.pssm_semantics.specs.Journal.{Splits}
use Rattle.pssm_semantics.specs.Pool.{signals_of_entry, signals_of, takes, pool_of, told_by}
use Rattle.pssm_semantics.specs.Completion.{IsStepFinished}
use Rattle.pssm_semantics.specs.Admissible.{IsAdmissibleIn}
use Rattle.pssm_semantics.specs.Laws.{StepsFollow, TakesAreTold, TakesDiffer, KeepsTakes}
use Rattle.pssm_semantics.proofs.Appended.{AllByRecursion-back}
use Rattle.pssm_semantics_laws.proofs.Objects.{same_object}

every-weaker : {X : Type 0} (P Q : X → Type 0) → ((x : X) → P x → Q x) → (xs : List X) → AllByRecursion P xs → AllByRecursion Q xs
every-weaker P Q f [] h = tt
every-weaker P Q f (x ∷ xs) h = (f x h.0, every-weaker P Q f xs h.1)

-- what passes a test
kept-all : {X : Type 0} (P : X → Type 0) (p : X → Bool) (x : X) (ys : List X) (b : Bool) → p x ≡ b → P x → AllByRecursion (λ y. P y × (p y ≡ true)) ys
    → AllByRecursion (λ y. P y × (p y ≡ true)) (cond b (x ∷ ys) ys)
kept-all P p x ys true is h all = ((h, is), all)
kept-all P p x ys false is h all = all

filtered-all : {X : Type 0} (P : X → Type 0) (p : X → Bool) (xs : List X) → AllByRecursion P xs → AllByRecursion (λ x. P x × (p x ≡ true)) (filter p xs)
filtered-all P p [] all = tt
filtered-all P p (x ∷ xs) all = kept-all P p x (filter p xs) (p x) refl all.0 (filtered-all P p xs all.1)

-- a numbered element stands at its place
abbrev pub StandsAtPlace : {X : Type 0} → ℕ → List X → ℕ × X → Type 0
StandsAtPlace n xs w = (k : ℕ) × (w.0 ≡ n + k) × (slice_get xs k ≡ Some w.1)

numbered-all : {X : Type 0} (n : ℕ) (xs : List X) → AllByRecursion (StandsAtPlace n xs) (enumerate_from n xs)
numbered-all n [] = tt
numbered-all n (x ∷ xs) = (
  (0, (let e : n ≡ n + 0 = omega arith in e), refl),
  every-weaker (StandsAtPlace (n + 1) xs) (StandsAtPlace n (x ∷ xs)) (λ w h. (suc h.0, (let e = h.1 in omega arith), h.2)) (enumerate_from (n + 1) xs)
      (numbered-all (n + 1) xs),
)

-- both parts of a test
and-first : (a b : Bool) → (a && b) ≡ true → a ≡ true
and-first true b h = refl
and-first false b h = h

and-second : (a b : Bool) → (a && b) ≡ true → b ≡ true
and-second true b h = h
and-second false b h = absurd (false≢true h)

-- what is known of a signal that waits
pub record IsWaitingSignal (J : List Entry) (o : ObjectId) (number : ℕ) (x : Stimulus) : Type 0 where
  pub told : told_by J number ≡ Some x
  pub to : x.object ≡ o
  pub untaken : not (list_any (λ e. takes e o number) J) ≡ true

pub pool_of-waits : (J : List Entry) (o : ObjectId) (held rest : List (ℕ × Stimulus)) (number : ℕ) (x : Stimulus) → pool_of J o ≡ held ++ (number, x) ∷ rest
    → IsWaitingSignal J o number x
pool_of-waits J o held rest number x e =
    let test : ℕ × Stimulus → Bool = λ w. (w.1.object.0 == o.0) && not (list_any (λ f. takes f o w.0) J) in
    let Waits : ℕ × Stimulus → Type 0 = λ w. StandsAtPlace 1 (signals_of J) w × (test w ≡ true) in
    let all : AllByRecursion Waits (held ++ (number, x) ∷ rest) =
    subst (AllByRecursion Waits) e (filtered-all (StandsAtPlace 1 (signals_of J)) test (enumerate_from 1 (signals_of J)) (numbered-all 1 (signals_of J))) in
    let h = (AllByRecursion-back Waits held ((number, x) ∷ rest) all).0 in
    let place : number ≡ h.0.0 + 1 = let is = h.0.1 in omega arith in
    record {
      told = subst (λ n. told_by J n ≡ Some x) (sym place) (rw add-one h.0.2);
      to = same_object x.object o (and-first (x.object.0 == o.0) (not (list_any (λ f. takes f o number) J)) h.1);
      untaken = and-second (x.object.0 == o.0) (not (list_any (λ f. takes f o number) J)) h.1;
    }

-- the entries before a place
split-at : {X : Type 0} (xs : List X) (j : ℕ) (x : X) → slice_get xs j ≡ Some x
    → (before after : List X) × (xs ≡ before ++ x ∷ after) × ((i : ℕ) (y : X) → i < j → slice_get xs i ≡ Some y → slice_get before i ≡ Some y)
split-at [] j x e = let none : None ≡ Some x = e in absurd (cc)
split-at (z ∷ zs) zero x e = ([], zs, (let same : z ≡ x = cc in ap (λ y. y ∷ zs) same), λ i y lt there. absurd (omega arith))
split-at (z ∷ zs) (suc j) x e =
    let h = split-at zs j x e in
    (z ∷ h.0, h.1, ap (λ ys. z ∷ ys) h.2, earlier h.0 h.3)
  where
    earlier : (before : List _) → ((i : ℕ) (y : _) → i < j → slice_get zs i ≡ Some y → slice_get before i ≡ Some y)
        → (i : ℕ) (y : _) → i < suc j → slice_get (z ∷ zs) i ≡ Some y → slice_get (z ∷ before) i ≡ Some y
    earlier before h zero y lt there = there
    earlier before h (suc i) y lt there = h i y (omega arith) there

-- a test that an element at a place passes
any-at : {X : Type 0} (p : X → Bool) (xs : List X) (i : ℕ) (x : X) → slice_get xs i ≡ Some x → p x ≡ true → list_any p xs ≡ true
any-at p [] i x e is = let none : None ≡ Some x = e in absurd (cc)
any-at p (z ∷ zs) zero x e is = let same : x ≡ z = cc in let here : p z ≡ true = subst (λ y. p y ≡ true) same is in rw here refl
any-at p (z ∷ zs) (suc i) x e is = let rest = any-at p zs i x e is in either (p z) (list_any p zs) rest
  where
    either : (a b : Bool) → b ≡ true → (a || b) ≡ true
    either true b h = refl
    either false b h = h

get-front : {X : Type 0} (xs ys : List X) (k : ℕ) (x : X) → slice_get xs k ≡ Some x → slice_get (xs ++ ys) k ≡ Some x
get-front [] ys k x e = let none : None ≡ Some x = e in absurd (cc)
get-front (z ∷ zs) ys zero x e = e
get-front (z ∷ zs) ys (suc k) x e = get-front zs ys k x e

-- what is told of a signal stays told
pub told_by-front : (J more : List Entry) (n : ℕ) (x : Stimulus) → told_by J n ≡ Some x → told_by (J ++ more) n ≡ Some x
told_by-front J more zero x told = let none : None ≡ Some x = told in absurd (cc)
told_by-front J more (suc n) x told =
    ap (λ xs. slice_get xs n) (flat_map-append signals_of_entry J more) ∙ get-front (signals_of J) (signals_of more) n x told

module _ (setting : Setting) (J : List Entry) (all : IsAdmissibleIn setting J) where
  -- a take is of a signal that waits
  taken-waits : (before after : List Entry) (o : ObjectId) (number : ℕ) (firing : Firing) → Splits J before (Take o number firing) after
      → (x : Stimulus) × IsWaitingSignal before o number x
  taken-waits before after o number firing splits =
      let (class, is, known) = all before after (Take o number firing) splits A1 in
      let (held, rest, x, e, deferred, kept) = all before after (Take o number firing) splits A6 class is in
      (x, pool_of-waits before o held rest number x e)

  -- it comes after the object's step is finished, and so does a done
  steps-follow : StepsFollow setting J
  steps-follow before after (Take q number firing) o class splits begins is =
      subst (IsStepFinished class.machine before) begins
      (all before after (Take q number firing) splits A4 class (subst (λ p. class_of setting p ≡ Some class) (sym begins) is))
  steps-follow before after (Done q v firing) o class splits begins is =
      subst (IsStepFinished class.machine before) begins
      (all before after (Done q v firing) splits A4 class (subst (λ p. class_of setting p ≡ Some class) (sym begins) is))
  steps-follow before after (Post q g args) o class splits begins is = absurd begins
  steps-follow before after (Start q) o class splits begins is = absurd begins
  steps-follow before after (Exit q v outs) o class splits begins is = absurd begins
  steps-follow before after (Effect q t outs) o class splits begins is = absurd begins
  steps-follow before after (Enter q v outs) o class splits begins is = absurd begins
  steps-follow before after (Opened q r mode how) o class splits begins is = absurd begins
  steps-follow before after (Pick q v route) o class splits begins is = absurd begins
  steps-follow before after (DoStep q v k outs) o class splits begins is = absurd begins

  takes-told : TakesAreTold J
  takes-told before after o number firing splits =
      let w = taken-waits before after o number firing splits in (w.0, w.1.told, w.1.to)

  -- a number that is taken twice would still wait at the second take
  takes-differ : TakesDiffer J
  takes-differ i j o q n k f g lt first second same =
      let p = split-at J i (Take o n f) first in
      let r = split-at J j (Take q k g) second in
      let x = taken-waits p.0 p.1 o n f p.2 in
      let y = taken-waits r.0 r.1 q k g r.2 in
      let one : told_by J n ≡ Some x.0 = subst (λ js. told_by js n ≡ Some x.0) (sym p.2) (told_by-front p.0 (Take o n f ∷ p.1) n x.0 x.1.told) in
      let other : told_by J n ≡ Some y.0 =
      subst (λ m. told_by J m ≡ Some y.0) (sym same)
      (subst (λ js. told_by js k ≡ Some y.0) (sym r.2) (told_by-front r.0 (Take q k g ∷ r.1) k y.0 y.1.told)) in
      let signal : x.0 ≡ y.0 = cc in
      let object : o ≡ q = sym x.1.to ∙ ap (λ (z : Stimulus). z.object) signal ∙ y.1.to in
      let earlier : slice_get r.0 i ≡ Some (Take o n f) = r.3 i (Take o n f) lt first in
      let passes : takes (Take o n f) q k ≡ true =
      subst (λ b. ((o.0 == q.0) && b) ≡ true) (sym (eq-eqb n k same)) (subst (λ b. (b && true) ≡ true) (sym (eq-eqb o.0 q.0 (ap (λ (z : ObjectId). z.0) object))) refl) in
      let found : list_any (λ e. takes e q k) r.0 ≡ true = any-at (λ e. takes e q k) r.0 i (Take o n f) earlier passes in
      false≢true (sym (ap not found) ∙ y.1.untaken)

  pub admissible-keeps_takes : KeepsTakes setting J
  admissible-keeps_takes = record { steps_follow = steps-follow; takes_are_told = takes-told; takes_differ = takes-differ }
