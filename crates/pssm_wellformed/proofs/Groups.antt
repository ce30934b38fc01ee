-- Groups of a search in their order, and the numbers that stand from a place on.
use Rattle.std.proofs.Common.{◌≡◌, ◌⊎◌, ◌<◌, ◌≤◌, ◌+◌, ◌-◌, ℕ, List, [], ◌∷◌, ◌++◌, length, get_or, take, slice_get, Some, Contains, refl, sym, ap, subst, ◌∙◌, inl, inr, ⊎_elim, arith, length-append}
use Rattle.std.specs.List.{AllPairs}
use Rattle.std.proofs.lemmas.Bool.{cases_lt}
use Rattle.std.proofs.lemmas.List.{take_more, take_all, get_or_append_left, get_or_default, get_or-append_right}
use Rattle.std.proofs.lemmas.List.Elements.{Contains-append_left, Contains-push, Contains-push_cases}
use Rattle.std.proofs.lemmas.Option.{slice_get-get_or}
use Rattle.std.proofs.Math.Seq.{get_or-append_seam, take-append_seam}
use Rattle.pssm_wellformed.specs.declared.cycles.Group.{Group}
use Rattle.pssm_wellformed.specs.inner.Cycles.{StandsFrom, IsEarlierGroup, IsLastGroup, IsJoined}

-- the beginning of an ascending list is ascending
pub front_ascending : (xs ys : List Group) → AllPairs IsEarlierGroup (xs ++ ys) → AllPairs IsEarlierGroup xs
front_ascending xs ys h i j d lt within =
    subst (λ x. IsEarlierGroup x (get_or xs j d)) (get_or_append_left xs ys d i (omega arith))
    (subst (λ y. IsEarlierGroup (get_or (xs ++ ys) i d) y) (get_or_append_left xs ys d j within)
    (h i j d lt (omega (arith, length-append xs ys))))

-- each group begins no later than the last
pub up_to_last : (xs : List Group) (y x : Group) → AllPairs IsEarlierGroup (xs ++ y ∷ []) → Contains (xs ++ y ∷ []) x → IsEarlierGroup x y
up_to_last xs y x h c = ⊎_elim
    (λ before. subst (λ z. IsEarlierGroup z y) (get_or_append_left xs (y ∷ []) x before.0 before.1 ∙ before.2)
    (subst (IsEarlierGroup (get_or (xs ++ y ∷ []) before.0 x)) (get_or-append_seam xs y [] x)
    (h before.0 (length xs) x before.1 (omega (arith, length-append xs (y ∷ []))))))
    (λ same. subst (λ z. IsEarlierGroup z y) same (omega arith, omega arith))
    (Contains-push_cases xs y x c)

-- a list without its last group
pub without_last : (xs groups rest : List Group) (x : Group) → groups ≡ xs ++ x ∷ [] → rest ≡ take (length groups - 1) groups → rest ≡ xs
without_last xs groups rest x is e =
    let count : length groups - 1 ≡ length xs = let l = ap length is in omega (arith, length-append xs (x ∷ [])) in
    e ∙ ap (λ n. take n groups) count ∙ ap (take (length xs)) is ∙ take-append_seam xs (x ∷ [])

-- a list that is not empty has a last group
pub last_there : (groups : List Group) (d : Group) → 0 < length groups → (x : Group) × IsLastGroup groups x
last_there groups d lt =
    let n = length groups - 1 in
    let low : n < length groups = omega arith in
    (get_or groups n d, (take n groups, sym (take_all (n + 1) groups (omega arith)) ∙ take_more groups n d low))

-- the last group is the one at the last place
pub last_at : (groups : List Group) (x d : Group) → IsLastGroup groups x → get_or groups (length groups - 1) d ≡ x
last_at groups x d last =
    let count : length groups - 1 ≡ length last.0 = let l = ap length last.1 in omega (arith, length-append last.0 (x ∷ [])) in
    ap (λ n. get_or groups n d) count ∙ ap (λ xs. get_or xs (length last.0) d) last.1 ∙ get_or-append_seam last.0 x [] d

-- what is found at the last place is the last group
pub last_got : (groups : List Group) (x : Group) → slice_get groups (length groups - 1) ≡ Some x → IsLastGroup groups x
last_got [] x found = absurd cc
last_got (g ∷ rest) x found =
    let groups = g ∷ rest in
    let n = length groups - 1 in
    let low : n < length groups = omega arith in
    let is : get_or groups n x ≡ x = let e = slice_get-get_or groups n x low in cc in
    (take n groups, sym (take_all (n + 1) groups (omega arith)) ∙ take_more groups n x low ∙ ap (λ y. take n groups ++ y ∷ []) is)

-- a number behind a front stands as far behind as it stands in its own list
pub stands_place : (xs ys : List ℕ) (k : ℕ) → get_or (xs ++ ys) (length xs + k) 0 ≡ get_or ys k 0
stands_place xs ys k =
    get_or-append_right xs ys (length xs) (length xs + k) 0 refl (omega arith) ∙ ap (λ n. get_or ys n 0) (let s : length xs + k - length xs ≡ k = omega arith in s)

-- a list of at most one number has no other
pub alone : (xs : List ℕ) (a b : ℕ) → length xs ≤ 1 → Contains xs a → Contains xs b → a ≡ b
alone xs a b few (i, lti, e) (j, ltj, f) =
    let same : i ≡ j = omega arith in
    sym (get_or_default xs i 0 a lti ∙ e) ∙ ap (λ n. get_or xs n 0) same ∙ get_or_default xs j 0 b ltj ∙ f

-- numbers that stand from a place on, and more behind them
pub stands_left : (xs ys : List ℕ) (p a : ℕ) → StandsFrom xs p a → StandsFrom (xs ++ ys) p a
stands_left xs ys p a (i, le, lt, e) = (i, le, omega (arith, length-append xs ys), get_or_append_left xs ys 0 i lt ∙ e)

pub stands_right : (xs ys : List ℕ) (p a : ℕ) → p ≤ length xs → Contains ys a → StandsFrom (xs ++ ys) p a
stands_right xs ys p a le (k, lt, e) = (
  length xs + k,
  omega arith,
  omega (arith, length-append xs ys),
  stands_place xs ys k ∙ get_or_default ys k 0 a lt ∙ e,
)

pub stands_cases : (xs : List ℕ) (p y a : ℕ) → StandsFrom (xs ++ y ∷ []) p a → StandsFrom xs p a ⊎ ((p ≤ length xs) × (y ≡ a))
stands_cases xs p y a (i, le, lt, e) = ⊎_elim
    (λ (before : i < length xs). inl (i, le, before, sym (get_or_append_left xs (y ∷ []) 0 i before) ∙ e))
    (λ (behind : length xs ≤ i).
    let here : i ≡ length xs = omega (arith, length-append xs (y ∷ [])) in
    inr (omega arith, sym (get_or-append_seam xs y [] 0) ∙ ap (λ n. get_or (xs ++ y ∷ []) n 0) (sym here) ∙ e))
    (cases_lt i (length xs))

-- what stands in the list behind its front
pub stands_behind : (xs ys : List ℕ) (a : ℕ) → StandsFrom (xs ++ ys) (length xs) a → Contains ys a
stands_behind xs ys a (i, le, lt, e) =
    let k = i - length xs in
    let low : k < length ys = omega (arith, length-append xs ys) in
    (k, low, get_or_default ys k a 0 low ∙ sym (get_or-append_right xs ys (length xs) i 0 refl le) ∙ e)

-- at first every group is there
pub joined_begins : (place : ℕ) (groups : List Group) → AllPairs IsEarlierGroup groups → IsJoined place groups groups
joined_begins place groups h = record { kept = λ x c le. c; from = λ x c. c; ascending = h; shorter = omega arith }

-- the last group goes, which begins past the place
pub joined_more : (place : ℕ) (before groups rest : List Group) (x : Group) → groups ≡ rest ++ x ∷ [] → place < x.first → IsJoined place before groups → IsJoined place before rest
joined_more place before groups rest x is past h = record {
  kept = λ y c le. ⊎_elim (λ there. there) (λ same. absurd (let lt : place < y.first = subst (λ (z : Group). place < z.first) same past in omega arith))
      (Contains-push_cases rest x y (subst (λ xs. Contains xs y) is (h.kept y c le)));
  from = λ y c. h.from y (subst (λ xs. Contains xs y) (sym is) (Contains-append_left rest (x ∷ []) y c));
  ascending = front_ascending rest (x ∷ []) (subst (AllPairs IsEarlierGroup) is h.ascending);
  shorter = let le = h.shorter in let l = ap length is in omega (arith, length-append rest (x ∷ []));
}

-- where the last group waits for more arrows, each group does
pub waits : (groups : List Group) (n : ℕ) → AllPairs IsEarlierGroup groups → ((x : Group) → Contains groups x → x.ahead ≤ n)
    → ((x : Group) → IsLastGroup groups x → x.ahead ≡ n → ⊥) → (x : Group) → Contains groups x → x.ahead < n
waits groups n ascending upto more x c =
    let last = last_there groups x (let lt = c.1 in omega arith) in
    let y = last.0 in
    let end = last.1 in
    let earlier = (up_to_last end.0 y x (subst (AllPairs IsEarlierGroup) end.1 ascending) (subst (λ xs. Contains xs x) end.1 c)).1 in
    let le = upto y (subst (λ xs. Contains xs y) (sym end.1) (Contains-push end.0 y)) in
    let other : y.ahead ≡ n → ⊥ = more y end in
    omega arith
