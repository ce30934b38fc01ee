-- The numbers of the bodies that elements have are those of the places in their slots.
use Rattle.std.proofs.Common.{◌≡◌, ◌≢◌, ◌≤◌, ◌+◌, ◌==◌, ℕ, zero, suc, Bool, true, false, not, cond, List, [], ◌∷◌, ◌++◌, map, filter, length, Option, Some, None, refl, sym, ap, ◌∙◌, subst, arith}
use Rattle.std.specs.Prelude.{slice_get, option_and_then, All}
use Rattle.std.specs.List.{flat_map}
use Rattle.std.proofs.lemmas.Bool.{ne_eqb}
use Rattle.std.proofs.lemmas.List.{map-append, length-append}
use Rattle.std.proofs.lemmas.List.Elements.{filter-append, All-nil, All-cons, All-append}
use Rattle.pssm_model.specs.declared.ids.ActId.{ActId}
use Rattle.pssm_model.specs.declared.elements.Owner.{Owner}
use Rattle.pssm_model.specs.declared.elements.Guard.{Guard}
use Rattle.pssm_model.specs.declared.elements.Vertex.{Vertex}
use Rattle.pssm_model.specs.declared.elements.Transition.{Transition}
use Rattle.pssm_model.specs.declared.draft_setting.Body.{Body}
use Rattle.pssm_model.specs.declared.draft_setting.Draft.{Draft}
use Rattle.pssm_model.specs.declared.draft_setting.ElementRef.{ElementRef}
use Rattle.pssm_model.specs.declared.draft_setting.PartGuard.{PartGuard}
use Rattle.pssm_model.specs.declared.draft_setting.PartGuard.TheVariants as guards
use Rattle.pssm_redefine.specs.declared.parts.Ends.{Ends}
use Rattle.pssm_redefine.specs.Forms.{last_given, given_entry, given_exit, given_steps, given_guard, given_effect, guard_text}
use Rattle.pssm_redefine.specs.Bodies.{places_from}
use Rattle.pssm_redefine.specs.Merging.{act, steps_numbered, guard_numbered, vertex_slots, transition_slots, IsMergedVertex, IsMergedTransition}
use Rattle.pssm_bodies.specs.declared.slot.Reading.TheVariants as readings
use Rattle.pssm_bodies.specs.declared.slot.Slot.{Slot}
use Rattle.pssm_bodies.specs.Slots as machine
use Rattle.pssm_bodies.specs.Slots.{slot, is_given, guard_slots}
use Rattle.pssm_settings.proofs.OncePlaces.{Place, Agrees, Fits}

-- ---- numbers that are given

-- the numbers in slots of the machine
abbrev pub numbers : List Slot → List ℕ
numbers xs = map (λ (s : Slot). s.number) xs

-- those that are given
abbrev pub given : List Slot → List ℕ
given xs = filter is_given (numbers xs)

-- of the slots of elements, the first of which has the number `n`
abbrev pub told : (ℕ → ℕ) → ℕ → List (Option Body) → List ℕ
told f n slots = map (λ (p : Place). f p.slot) (places_from n slots)

pub given_append : (xs ys : List Slot) → given (xs ++ ys) ≡ given xs ++ given ys
given_append xs ys = ap (filter is_given) (map-append (λ (s : Slot). s.number) xs ys) ∙ filter-append is_given (numbers xs) (numbers ys)

pub told_append : (f : ℕ → ℕ) (n m : ℕ) (xs ys : List (Option Body)) → n + length xs ≡ m → told f n (xs ++ ys) ≡ told f n xs ++ told f m ys
told_append f n m [] ys e = let same : n ≡ m = omega (arith, e) in ap (λ k. told f k ys) same
told_append f n m (None ∷ xs) ys e = told_append f (n + 1) m xs ys (omega (arith, e))
told_append f n m (Some body ∷ xs) ys e = ap (λ l. f n ∷ l) (told_append f (n + 1) m xs ys (omega (arith, e)))

pub fits_front : (f : ℕ → ℕ) (n : ℕ) (xs ys : List (Option Body)) → Fits f n (xs ++ ys) → Fits f n xs
fits_front f n [] ys h = tt
fits_front f n (x ∷ xs) ys h = (h.0, fits_front f (n + 1) xs ys h.1)

pub fits_back : (f : ℕ → ℕ) (n m : ℕ) (xs ys : List (Option Body)) → n + length xs ≡ m → Fits f n (xs ++ ys) → Fits f m ys
fits_back f n m [] ys e h = let same : n ≡ m = omega (arith, e) in subst (λ k. Fits f k ys) same h
fits_back f n m (x ∷ xs) ys e h = fits_back f (n + 1) m xs ys (omega (arith, e)) h.1

-- one more slot of the machine, and of the elements
more : (f : ℕ → ℕ) (n : ℕ) (of : Option Body) (slots : List (Option Body)) (ns : List ℕ) → Agrees (f n) of → filter is_given ns ≡ told f (n + 1) slots
    → filter is_given (f n ∷ ns) ≡ told f n (of ∷ slots)
more f n None slots ns e h = subst (λ m. filter is_given (m ∷ ns) ≡ told f (n + 1) slots) (sym e) h
more f n (Some body) slots ns ne h =
    ap (λ t. cond (not t) (f n ∷ filter is_given ns) (filter is_given ns)) (ne_eqb (f n) 0 ne) ∙ ap (λ l. f n ∷ l) h

-- ---- vertices

abbrev pub step_slots : List ActId → List Slot
step_slots acts = map (λ (a : ActId). slot readings.Steps a.0) acts

steps_by : (m : ℕ) (t : Bool) → (m == 0) ≡ t → given (step_slots (cond t [] (act m ∷ []))) ≡ cond (not t) (m ∷ []) []
steps_by m true e = refl
steps_by m false e = ap (λ t. cond (not t) (m ∷ []) []) e

steps_given : (m : ℕ) → given (step_slots (steps_numbered m)) ≡ filter is_given (m ∷ [])
steps_given m = steps_by m (m == 0) refl

pub few_steps : (m : ℕ) → length (steps_numbered m) ≤ 1
few_steps m = go (m == 0) where
  go : (t : Bool) → length (cond t [] (act m ∷ [])) ≤ 1
  go true = omega arith
  go false = omega arith

-- the slots of a vertex one by one
three_told : (f : ℕ → ℕ) (n : ℕ) (a b c : Option Body) → Fits f n (a ∷ b ∷ c ∷ [])
    → filter is_given (f n ∷ f (n + 1) ∷ numbers (step_slots (steps_numbered (f (n + 1 + 1))))) ≡ told f n (a ∷ b ∷ c ∷ [])
three_told f n a b c fit =
    let last = steps_given (f (n + 1 + 1)) ∙ more f (n + 1 + 1) c [] [] fit.1.1.0 refl in
    let tail = numbers (step_slots (steps_numbered (f (n + 1 + 1)))) in
    more f n a (b ∷ c ∷ []) (f (n + 1) ∷ tail) fit.0 (more f (n + 1) b (c ∷ []) tail fit.1.0 last)

-- the numbers of a vertex
pub vertex_told : (draft : Draft) (f : ℕ → ℕ) (owner : Owner) (n exit steps : ℕ) (forms : List ElementRef) (v : Vertex) → n + 1 ≡ exit → n + 1 + 1 ≡ steps
    → IsMergedVertex draft owner (f n) (f exit) (f steps) forms v → Fits f n (vertex_slots draft forms)
    → given (machine.vertex_slots v) ≡ told f n (vertex_slots draft forms)
vertex_told draft f owner n exit steps forms v second third h fit =
    ap (λ (a : ActId). filter is_given (a.0 ∷ v.exit.0 ∷ numbers (step_slots v.steps))) h.on_entry
    ∙ ap (λ (a : ActId). filter is_given (f n ∷ a.0 ∷ numbers (step_slots v.steps))) (h.on_exit ∙ ap (λ k. act (f k)) (sym second))
    ∙ ap (λ (acts : List ActId). filter is_given (f n ∷ f (n + 1) ∷ numbers (step_slots acts))) (h.doing ∙ ap (λ k. steps_numbered (f k)) (sym third))
    ∙ three_told f n (last_given (given_entry draft) forms) (last_given (given_exit draft) forms) (last_given (given_steps draft) forms) fit

-- ---- transitions

guard_told : (f : ℕ → ℕ) (n : ℕ) (guard : Option PartGuard) (of : Option Body) → Fits f n (option_and_then guard_text guard ∷ of ∷ [])
    → given (guard_slots (guard_numbered guard (f n)) ++ slot readings.Behaviour (f (n + 1)) ∷ []) ≡ told f n (option_and_then guard_text guard ∷ of ∷ [])
guard_told f n None of fit = more f (n + 1) of [] [] fit.1.0 refl
guard_told f n (Some guards.Missing) of fit = more f (n + 1) of [] [] fit.1.0 refl
guard_told f n (Some guards.Otherwise) of fit = more f (n + 1) of [] [] fit.1.0 refl
guard_told f n (Some (guards.Given body)) of fit = more f n (Some body) (of ∷ []) (f (n + 1) ∷ []) fit.0 (more f (n + 1) of [] [] fit.1.0 refl)

-- the numbers of a transition
pub transition_told : (draft : Draft) (f : ℕ → ℕ) (ends : Ends) (n effect : ℕ) (forms : List ElementRef) (t : Transition) → n + 1 ≡ effect
    → IsMergedTransition draft ends (f n) (f effect) forms t → Fits f n (transition_slots draft forms)
    → given (machine.transition_slots t) ≡ told f n (transition_slots draft forms)
transition_told draft f ends n effect forms t second h fit =
    ap (λ (g : Guard). given (guard_slots g ++ slot readings.Behaviour t.effect.0 ∷ [])) h.when
    ∙ ap (λ (a : ActId). given (guard_slots (guard_numbered (last_given (given_guard draft) forms) (f n)) ++ slot readings.Behaviour a.0 ∷ []))
    (h.doing ∙ ap (λ k. act (f k)) (sym second))
    ∙ guard_told f n (last_given (given_guard draft) forms) (last_given (given_effect draft) forms) fit

-- ---- guards

-- A guard that has a text has a body of its own.
abbrev pub HasItsOwn : Slot → Type 0
HasItsOwn s = s.reading ≡ readings.Guard → s.number ≢ 0

behaves : (n : ℕ) → HasItsOwn (slot readings.Behaviour n)
behaves n e = cc

does : (n : ℕ) → HasItsOwn (slot readings.Steps n)
does n e = cc

all_do : (acts : List ActId) → All HasItsOwn (step_slots acts)
all_do [] = All-nil HasItsOwn
all_do (a ∷ acts) = All-cons HasItsOwn (slot readings.Steps a.0) (step_slots acts) (does a.0) (all_do acts)

-- no guard stands in a vertex
pub vertex_own : (v : Vertex) → All HasItsOwn (machine.vertex_slots v)
vertex_own v =
    All-cons HasItsOwn (slot readings.Behaviour v.entry.0) (slot readings.Behaviour v.exit.0 ∷ step_slots v.steps) (behaves v.entry.0)
    (All-cons HasItsOwn (slot readings.Behaviour v.exit.0) (step_slots v.steps) (behaves v.exit.0) (all_do v.steps))

guard_own : (m : ℕ) (guard : Option PartGuard) → Agrees m (option_and_then guard_text guard) → All HasItsOwn (guard_slots (guard_numbered guard m))
guard_own m None fit = All-nil HasItsOwn
guard_own m (Some guards.Missing) fit = All-nil HasItsOwn
guard_own m (Some guards.Otherwise) fit = All-nil HasItsOwn
guard_own m (Some (guards.Given body)) fit = All-cons HasItsOwn (slot readings.Guard m) [] (λ e. fit) (All-nil HasItsOwn)

-- the guard of a transition
pub transition_own : (draft : Draft) (f : ℕ → ℕ) (ends : Ends) (n effect : ℕ) (forms : List ElementRef) (t : Transition)
    → IsMergedTransition draft ends (f n) (f effect) forms t → Fits f n (transition_slots draft forms) → All HasItsOwn (machine.transition_slots t)
transition_own draft f ends n effect forms t h fit =
    All-append HasItsOwn (guard_slots t.guard) (slot readings.Behaviour t.effect.0 ∷ [])
    (subst (λ (g : Guard). All HasItsOwn (guard_slots g)) (sym h.when) (guard_own (f n) (last_given (given_guard draft) forms) fit.0))
    (All-cons HasItsOwn (slot readings.Behaviour t.effect.0) [] (behaves t.effect.0) (All-nil HasItsOwn))

-- ---- all elements

-- each of the elements fits, where each has as many slots
pub fits_each : {B : Type 0} (f : ℕ → ℕ) (wide : ℕ) (slots : B → List (Option Body)) (all : (y : B) → length (slots y) ≡ wide) (ys : List B) (at : ℕ → ℕ)
    (next : (k : ℕ) → at k + wide ≡ at (suc k)) → Fits f (at 0) (flat_map slots ys) → (k : ℕ) (y : B) → slice_get ys k ≡ Some y → Fits f (at k) (slots y)
fits_each f wide slots all [] at next fit k y is = absurd cc
fits_each f wide slots all (x ∷ ys) at next fit zero y is =
    let same : x ≡ y = cc in
    subst (λ z. Fits f (at 0) (slots z)) same (fits_front f (at 0) (slots x) (flat_map slots ys) fit)
fits_each f wide slots all (x ∷ ys) at next fit (suc k) y is =
    fits_each f wide slots all ys (λ j. at (suc j)) (λ j. next (suc j))
    (fits_back f (at 0) (at 1) (slots x) (flat_map slots ys) (ap (λ n. at 0 + n) (all x) ∙ next 0) fit) k y is

-- the numbers of all elements, from those of each
pub told_all : {A B : Type 0} (f : ℕ → ℕ) (wide : ℕ) (places : A → List Slot) (slots : B → List (Option Body)) (all : (y : B) → length (slots y) ≡ wide)
    (xs : List A) (ys : List B) (at : ℕ → ℕ) (next : (k : ℕ) → at k + wide ≡ at (suc k)) → length xs ≡ length ys
    → ((k : ℕ) (x : A) (y : B) → slice_get xs k ≡ Some x → slice_get ys k ≡ Some y → given (places x) ≡ told f (at k) (slots y))
    → given (flat_map places xs) ≡ told f (at 0) (flat_map slots ys)
told_all f wide places slots all [] [] at next same each = refl
told_all f wide places slots all [] (y ∷ ys) at next same each = absurd (omega (arith, same))
told_all f wide places slots all (x ∷ xs) [] at next same each = absurd (omega (arith, same))
told_all f wide places slots all (x ∷ xs) (y ∷ ys) at next same each =
    given_append (places x) (flat_map places xs)
    ∙ ap (λ l. l ++ given (flat_map places xs)) (each 0 x y refl refl)
    ∙ ap (λ l. told f (at 0) (slots y) ++ l)
    (told_all f wide places slots all xs ys (λ j. at (suc j)) (λ j. next (suc j)) (omega (arith, same)) (λ k a b ia ib. each (suc k) a b ia ib))
    ∙ sym (told_append f (at 0) (at 1) (slots y) (flat_map slots ys) (ap (λ n. at 0 + n) (all y) ∙ next 0))

-- what holds of the slots of each element holds of all
pub own_all : {A : Type 0} (P : Slot → Type 0) (places : A → List Slot) (xs : List A)
    → ((k : ℕ) (x : A) → slice_get xs k ≡ Some x → All P (places x)) → All P (flat_map places xs)
own_all P places [] each = All-nil P
own_all P places (x ∷ xs) each = All-append P (places x) (flat_map places xs) (each 0 x refl) (own_all P places xs (λ k y is. each (suc k) y is))

-- how many slots elements have
pub length_all : {B : Type 0} (wide : ℕ) (slots : B → List (Option Body)) (all : (y : B) → length (slots y) ≡ wide) (ys : List B) (at : ℕ → ℕ)
    (next : (k : ℕ) → at k + wide ≡ at (suc k)) → at 0 + length (flat_map slots ys) ≡ at (length ys)
length_all wide slots all [] at next = omega arith
length_all wide slots all (y ∷ ys) at next =
    let here : length (slots y) ≡ wide = all y in
    let front : at 0 + wide ≡ at 1 = next 0 in
    let rest : at 1 + length (flat_map slots ys) ≡ at (suc (length ys)) = length_all wide slots all ys (λ j. at (suc j)) (λ j. next (suc j)) in
    let both = length-append (slots y) (flat_map slots ys) in
    omega (arith, here, front, rest, both)
