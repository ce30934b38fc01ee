-- Bodies in the order of the file.
use Rattle.std.proofs.Common.{◌≡◌, ◌<◌, ◌≤◌, ℕ, suc, ◌+◌, cond, List, [], ◌∷◌, ◌++◌, length, map, set, length-set, get_or, drop, take, drop-cons, refl, sym, ◌∙◌, ap, subst, arith, Option, Some, None, Bor, ⊎_elim, get_or-set_same, get_or-set_other}
use Rattle.std.specs.Prelude.{slice_get, option_and_then, option_map, IsSome, All}
use Rattle.std.specs.Option.{option_copied}
use Rattle.std.proofs.lemmas.Bool.{cases_eq, eq-eqb, ne_eqb}
use Rattle.std.proofs.lemmas.List.{map_push, take_more, length-take-le, append-nil}
use Rattle.std.proofs.lemmas.Option.{slice_get-map, slice_get_within}
use Rattle.std.proofs.lemmas.List.Elements.{All-cons}
use Rattle.std.proofs.lemmas.List.Sorted.{All-permutation, length_permutation}
use Rattle.pssm_model.specs.declared.draft_setting.Body.{Body}
use Rattle.pssm_redefine.specs.declared.bodies.Place.{Place}
use Rattle.pssm_redefine.specs.Bodies.{places_from, number_from, body_in, empty_body, IsOrder, AreBodies}
use Rattle.pssm_redefine.specs.inner.Gathered.{AreNumbers, lent_bodies}

-- ---- where bodies stand

places_push : (n : ℕ) (slots : List (Option Body)) (slot : Option Body) → places_from n (slots ++ slot ∷ []) ≡ places_from n slots ++ places_from (n + length slots) (slot ∷ [])
places_push n [] slot = let e : n ≡ n + 0 = omega arith in ap (λ k. places_from k (slot ∷ [])) e
places_push n (None ∷ slots) slot =
    let e : n + 1 + length slots ≡ n + suc (length slots) = omega arith in
    places_push (n + 1) slots slot ∙ ap (λ k. places_from (n + 1) slots ++ places_from k (slot ∷ [])) e
places_push n (Some body ∷ slots) slot =
    let e : n + 1 + length slots ≡ n + suc (length slots) = omega arith in
    let here : Place = record { at = body.at; slot = n } in
    ap (λ ps. here ∷ ps) (places_push (n + 1) slots slot ∙ ap (λ k. places_from (n + 1) slots ++ places_from k (slot ∷ [])) e)

length_lent : (slots : List (Option (Bor Body))) → length (lent_bodies slots) ≡ length slots
length_lent [] = refl
length_lent (s ∷ slots) = ap suc (length_lent slots)

pub places_more : (slots : List (Option (Bor Body))) (i : ℕ) (d : Option (Bor Body)) → i < length slots
    → places_from 0 (lent_bodies (take (i + 1) slots)) ≡ places_from 0 (lent_bodies (take i slots)) ++ places_from i (option_copied (get_or slots i d) ∷ [])
places_more slots i d lt =
    let len : 0 + length (lent_bodies (take i slots)) ≡ i = omega (arith, length_lent (take i slots), length-take-le i slots (omega arith)) in
    ap (λ s. places_from 0 (lent_bodies s)) (take_more slots i d lt)
    ∙ ap (places_from 0) (map_push option_copied (take i slots) (get_or slots i d))
    ∙ places_push 0 (lent_bodies (take i slots)) (option_copied (get_or slots i d))
    ∙ ap (λ k. places_from 0 (lent_bodies (take i slots)) ++ places_from k (option_copied (get_or slots i d) ∷ [])) len

-- ---- numbers

pub numbers_more : (width i : ℕ) (order : List Place) (p : Place) (numbers : List ℕ) → i < length order → get_or order i p ≡ p → p.slot < width
    → AreNumbers width (i + 1 + 1) (drop (i + 1) order) numbers → AreNumbers width (i + 1) (drop i order) (set numbers p.slot (i + 1))
numbers_more width i order p numbers lt is within h =
    let next : suc i ≡ i + 1 = omega arith in
    let split : drop i order ≡ p ∷ drop (i + 1) order = drop-cons order i p lt ∙ ap (λ q. q ∷ drop (suc i) order) is ∙ ap (λ k. p ∷ drop k order) next in
    record {
      all = length-set numbers p.slot (i + 1) ∙ h.all;
      each = λ slot. ⊎_elim
          (λ (here : p.slot ≡ slot).
          ap (λ s. get_or (set numbers p.slot (i + 1)) s 0) (sym here) ∙ get_or-set_same numbers p.slot (i + 1) 0 (let all = h.all in omega arith)
          ∙ ap (λ b. cond b (i + 1) (number_from (i + 1 + 1) (drop (i + 1) order) slot)) (sym (eq-eqb p.slot slot here))
          ∙ ap (λ ps. number_from (i + 1) ps slot) (sym split))
          (λ (ne : p.slot ≡ slot → ⊥).
          get_or-set_other numbers p.slot slot (i + 1) 0 (λ e. ne (sym e)) ∙ h.each slot
          ∙ ap (λ b. cond b (i + 1) (number_from (i + 1 + 1) (drop (i + 1) order) slot)) (sym (ne_eqb p.slot slot ne))
          ∙ ap (λ ps. number_from (i + 1) ps slot) (sym split))
          (cases_eq p.slot slot);
    }

-- ---- the bodies

copied_in : (o : Option (Option (Bor Body))) → option_and_then (λ (b : Option Body). b) (option_map option_copied o) ≡ option_copied (option_and_then (λ (b : Option (Bor Body)). b) o)
copied_in None = refl
copied_in (Some b) = refl

pub lent_in : (slots : List (Option (Bor Body))) (slot : ℕ) → body_in (lent_bodies slots) slot ≡ option_copied (option_and_then (λ (b : Option (Bor Body)). b) (slice_get slots slot))
lent_in slots slot = ap (option_and_then (λ (b : Option Body). b)) (slice_get-map option_copied slots slot) ∙ copied_in (slice_get slots slot)

pub bodies_more : (slots : List (Option Body)) (order : List Place) (i : ℕ) (p : Place) (bodies : List Body) (body : Body) → i < length order → get_or order i p ≡ p
    → body_in slots p.slot ≡ Some body → AreBodies slots (take i order) bodies → AreBodies slots (take (i + 1) order) (bodies ++ body ∷ [])
bodies_more slots order i p bodies body lt is given h =
    map_push Some bodies body
    ∙ ap (λ bs. bs ++ Some body ∷ []) h
    ∙ ap (λ o. (Some empty_body ∷ map (λ (q : Place). body_in slots q.slot) (take i order)) ++ o ∷ []) (sym given)
    ∙ ap (λ bs. Some empty_body ∷ bs) (sym (map_push (λ (q : Place). body_in slots q.slot) (take i order) p))
    ∙ ap (λ ps. Some empty_body ∷ map (λ (q : Place). body_in slots q.slot) ps) (ap (λ q. take i order ++ q ∷ []) (sym is) ∙ sym (take_more order i p lt))

-- a turn of the loop over the slots
pub places_some : (slots : List (Option (Bor Body))) (i : ℕ) (d : Option (Bor Body)) (body : Bor Body) → i < length slots → d ≡ get_or slots i d → d ≡ Some body
    → places_from 0 (lent_bodies (take (i + 1) slots)) ≡ places_from 0 (lent_bodies (take i slots)) ++ record { at = body.now.at; slot = i } ∷ []
places_some slots i d body lt is some =
    places_more slots i d lt ∙ ap (λ (o : Option (Bor Body)). places_from 0 (lent_bodies (take i slots)) ++ places_from i (option_copied o ∷ [])) (sym is ∙ some)

pub places_none : (slots : List (Option (Bor Body))) (i : ℕ) (d : Option (Bor Body)) → i < length slots → d ≡ get_or slots i d → d ≡ None
    → places_from 0 (lent_bodies (take (i + 1) slots)) ≡ places_from 0 (lent_bodies (take i slots))
places_none slots i d lt is none =
    places_more slots i d lt ∙ ap (λ (o : Option (Bor Body)). places_from 0 (lent_bodies (take i slots)) ++ places_from i (option_copied o ∷ [])) (sym is ∙ none)
    ∙ append-nil (places_from 0 (lent_bodies (take i slots)))

-- what holds of each place where a body stands
pub all_placed : (P : Place → Type 0) (n : ℕ) (slots : List (Option Body)) → ((i : ℕ) (body : Body) → slice_get slots i ≡ Some (Some body) → P (record { at = body.at; slot = n + i }))
    → All P (places_from n slots)
all_placed P n [] each = λ k d lt. absurd (omega arith)
all_placed P n (None ∷ slots) each =
    all_placed P (n + 1) slots (λ i body h.
    let e : n + suc i ≡ n + 1 + i = omega arith in subst (λ s. P (record { at = body.at; slot = s })) e (each (suc i) body h))
all_placed P n (Some here ∷ slots) each =
    let z : n + 0 ≡ n = omega arith in
    All-cons P (record { at = here.at; slot = n }) (places_from (n + 1) slots) (subst (λ s. P (record { at = here.at; slot = s })) z (each 0 here refl))
    (all_placed P (n + 1) slots (λ i body h.
    let e : n + suc i ≡ n + 1 + i = omega arith in subst (λ s. P (record { at = body.at; slot = s })) e (each (suc i) body h)))

-- places stand within the slots, and a body stands at each
pub places_within : (slots : List (Option Body)) (order : List Place) → IsOrder slots order → All (λ (p : Place). p.slot < length slots) order
places_within slots order h =
    All-permutation (λ (p : Place). p.slot < length slots) (places_from 0 slots) order h.same
    (all_placed (λ (p : Place). p.slot < length slots) 0 slots (λ i body g. let lt = slice_get_within slots i (Some body) g in omega arith))

pub places_given : (slots : List (Option Body)) (order : List Place) → IsOrder slots order → All (λ (p : Place). IsSome (body_in slots p.slot)) order
places_given slots order h =
    All-permutation (λ (p : Place). IsSome (body_in slots p.slot)) (places_from 0 slots) order h.same
    (all_placed (λ (p : Place). IsSome (body_in slots p.slot)) 0 slots (λ i body g.
    let e : 0 + i ≡ i = omega arith in
    subst (λ s. IsSome (body_in slots s)) (sym e) (subst (λ (o : Option (Option Body)). IsSome (option_and_then (λ (b : Option Body). b) o)) (sym g) refl)))

pub lent_length : (slots : List (Option (Bor Body))) → length (lent_bodies slots) ≡ length slots
lent_length slots = length_lent slots

-- the same, as it is asked for
pub order_within : (slots s1 : List (Option (Bor Body))) (order o2 : List Place) (width : ℕ) → s1 ≡ slots → o2 ≡ order → width ≡ length slots → IsOrder (lent_bodies s1) order
    → All (λ (p : Place). p.slot < width) o2
order_within slots s1 order o2 width es eo ew h =
    subst (λ w. All (λ (p : Place). p.slot < w) o2) (length_lent slots ∙ sym ew)
    (subst (λ ps. All (λ (p : Place). p.slot < length (lent_bodies slots)) ps) (sym eo)
    (places_within (lent_bodies slots) order (subst (λ s. IsOrder (lent_bodies s) order) es h)))

pub order_given : (slots s1 s2 : List (Option (Bor Body))) (order o2 : List Place) → s1 ≡ slots → s2 ≡ slots → o2 ≡ order → IsOrder (lent_bodies s1) order
    → All (λ (p : Place). IsSome (body_in (lent_bodies s2) p.slot)) o2
order_given slots s1 s2 order o2 e1 e2 eo h =
    subst (λ ps. All (λ (p : Place). IsSome (body_in (lent_bodies s2) p.slot)) ps) (sym eo)
    (places_given (lent_bodies s2) order (subst (λ s. IsOrder (lent_bodies s) order) (e1 ∙ sym e2) h))

-- There are as many bodies in order as stand in slots.
pub order_few : (slots s1 : List (Option (Bor Body))) (of : List (Option Body)) (order o2 : List Place) → s1 ≡ slots → lent_bodies slots ≡ of → o2 ≡ order
    → IsOrder (lent_bodies s1) order → length (places_from 0 of) ≤ 65535 → length o2 ≤ 65535
order_few slots s1 of order o2 es eo e2 h few =
    let all : length order ≡ length (places_from 0 of) =
    length_permutation (places_from 0 (lent_bodies s1)) order h.same ∙ ap (λ (s : List (Option Body)). length (places_from 0 s)) (ap lent_bodies es ∙ eo) in
    let same : length o2 ≡ length order = ap length e2 in
    omega arith
