-- The walk over arrows: what is found, and why it is all that can be reached.
use Rattle.std.proofs.Common.{◌≡◌, ◌↔◌, ◌<◌, ◌≤◌, ◌+◌, ℕ, zero, suc, List, [], ◌∷◌, ◌++◌, length, Bool, true, false, get_or, take, set, replicate, Contains, Vec, Global, refl, sym, ap, subst, ◌∙◌, inl, inr, ⊎_elim, arith, length-append}
use Rattle.std.proofs.lemmas.Bool.{cases_eq, false≢true}
use Rattle.std.proofs.lemmas.List.{take_more, get_or-set_same, get_or-set_other, length-set, get_or_append_left, get_or_default}
use Rattle.std.proofs.lemmas.List.Elements.{Contains-append_left, Contains-push, Contains-push_cases, Contains-get_or}
use Rattle.std.specs.Option.{option_map_or}
use Rattle.std.proofs.lemmas.Option.{slice_get-get_or}
use Rattle.pssm_wellformed.specs.inner.Lists.{list_at}
use Rattle.pssm_wellformed.specs.inner.Reach.{IsReached, StaysWithin, marked, AreMarked, FindsMore, IsWalked}
use Rattle.pssm_wellformed.specs.inner.Reach.IsReached.{at_first, by_arrow}

-- nothing more is found among none
pub finds_none : (found : List ℕ) → FindsMore found found []
finds_none found = record {
  longer = omega arith;
  kept = λ k lt. refl;
  found = λ b. (λ c. inl c, λ w. ⊎_elim (λ c. c) (λ none. absurd (let lt = none.1 in omega arith)) w);
}

-- one number more has been looked at: it was found before
pub finds_again : (before after further : List ℕ) (i : ℕ) → i < length further → Contains after (get_or further i 0)
    → FindsMore before after (take i further) → FindsMore before after (take (i + 1) further)
finds_again before after further i lt there h =
    let grown = take_more further i 0 lt in
    record {
      longer = h.longer;
      kept = h.kept;
      found = λ b. (
        λ c. ⊎_elim inl (λ f. inr (subst (λ ys. Contains ys b) (sym grown) (Contains-append_left (take i further) (get_or further i 0 ∷ []) b f))) ((h.found b).0 c),
        λ w. ⊎_elim (λ old. (h.found b).1 (inl old))
            (λ f. ⊎_elim (λ g. (h.found b).1 (inr g)) (λ same. subst (λ y. Contains after y) same there)
            (Contains-push_cases (take i further) (get_or further i 0) b (subst (λ ys. Contains ys b) grown f))) w,
      );
    }

-- one number more has been looked at, and is new
pub finds_new : (before after further : List ℕ) (i : ℕ) → i < length further
    → FindsMore before after (take i further) → FindsMore before (after ++ get_or further i 0 ∷ []) (take (i + 1) further)
finds_new before after further i lt h =
    let x = get_or further i 0 in
    let grown = take_more further i 0 lt in
    record {
      longer = let le = h.longer in omega (arith, length-append after (x ∷ []));
      kept = λ k below. let there : k < length after = let le = h.longer in omega arith in get_or_append_left after (x ∷ []) 0 k there ∙ h.kept k below;
      found = λ b. (
        λ c. ⊎_elim
            (λ old. ⊎_elim inl (λ f. inr (subst (λ ys. Contains ys b) (sym grown) (Contains-append_left (take i further) (x ∷ []) b f))) ((h.found b).0 old))
            (λ same. inr (subst (λ ys. Contains ys b) (sym grown) (subst (λ y. Contains (take i further ++ x ∷ []) y) same (Contains-push (take i further) x))))
            (Contains-push_cases after x b c),
        λ w. ⊎_elim (λ old. Contains-append_left after (x ∷ []) b ((h.found b).1 (inl old)))
            (λ f. ⊎_elim (λ g. Contains-append_left after (x ∷ []) b ((h.found b).1 (inr g)))
            (λ same. subst (λ y. Contains (after ++ x ∷ []) y) same (Contains-push after x))
            (Contains-push_cases (take i further) x b (subst (λ ys. Contains ys b) grown f))) w,
      );
    }

-- one mark more
pub marked_set : (marks : List Bool) (i : ℕ) → i < length marks → get_or marks i false ≡ false → marked (set marks i true) ≡ suc (marked marks)
marked_set [] i lt h = absurd (omega arith)
marked_set (true ∷ marks) zero lt h = absurd (false≢true (sym h))
marked_set (false ∷ marks) zero lt h = refl
marked_set (true ∷ marks) (suc i) lt h = ap suc (marked_set marks i (omega arith) h)
marked_set (false ∷ marks) (suc i) lt h = marked_set marks i (omega arith) h

pub marked_at_most : (marks : List Bool) → marked marks ≤ length marks
marked_at_most [] = omega arith
marked_at_most (true ∷ marks) = let le = marked_at_most marks in omega arith
marked_at_most (false ∷ marks) = let le = marked_at_most marks in omega arith

-- a number without a mark is marked and found
pub marks_one : (marks : List Bool) (found : List ℕ) (x : ℕ) → x < length marks → get_or marks x false ≡ false
    → AreMarked marks found → AreMarked (set marks x true) (found ++ x ∷ [])
marks_one marks found x lt off h = record {
  same = λ b. ⊎_elim
      (λ (here : b ≡ x). (
        λ m. subst (λ y. Contains (found ++ x ∷ []) y) (sym here) (Contains-push found x),
        λ c. rw here (get_or-set_same marks x true false lt),
      ))
      (λ (other : b ≡ x → ⊥). let kept : get_or (set marks x true) b false ≡ get_or marks b false = get_or-set_other marks x b true false other in (
        λ m. Contains-append_left found (x ∷ []) b ((h.same b).0 (sym kept ∙ m)),
        λ c. kept ∙ ⊎_elim (λ old. (h.same b).1 old) (λ e. absurd (other (sym e))) (Contains-push_cases found x b c),
      ))
      (cases_eq b x);
  once = let more = marked_set marks x lt off in let o = h.once in omega (arith, length-append found (x ∷ []));
}

no_marks : (n b : ℕ) → get_or (replicate n false) b false ≡ false
no_marks zero b = refl
no_marks (suc n) zero = refl
no_marks (suc n) (suc b) = no_marks n b

none_marked : (n : ℕ) → 0 ≡ marked (replicate n false)
none_marked zero = refl
none_marked (suc n) = none_marked n

-- at the beginning no number has a mark
pub blank_marks : (n : ℕ) → AreMarked (replicate n false) []
blank_marks n = record {
  same = λ b. (λ m. absurd (false≢true (sym (no_marks n b) ∙ m)), λ c. absurd (let lt = c.1 in omega arith));
  once = none_marked n;
}

-- the list at a place in range
pub list_there : (lists : List (Vec ℕ Global)) (k : ℕ) (list : Vec ℕ Global) → k < length lists → list ≡ get_or lists k list → list_at lists k ≡ list.items
list_there lists k list lt at =
    ap (λ found. option_map_or (λ (l : Vec ℕ Global). l.items) found []) (slice_get-get_or lists k list lt) ∙ ap (λ (l : Vec ℕ Global). l.items) (sym at)

pub reached_within : {onward : List (Vec ℕ Global)} {first : List ℕ} → StaysWithin onward → ((b : ℕ) → Contains first b → b < length onward)
    → (b : ℕ) → IsReached onward first b → b < length onward
reached_within within there _ (at_first {b = b} c) = there b c
reached_within within there _ (by_arrow {a = a} {b = b} r c) = within a b c

-- at the beginning the first ones are found
pub walk_begins : (onward : List (Vec ℕ Global)) (first before : List ℕ) (marks : List Bool) (found : List ℕ)
    → length marks ≡ length onward → before ≡ [] → AreMarked marks found → FindsMore before found first → IsWalked onward first 0 marks found
walk_begins onward first before marks found width none are more = record {
  width = width;
  upto = omega arith;
  are_marked = are;
  sound = λ b c. ⊎_elim (λ old. absurd (let old' : Contains [] b = subst (λ xs. Contains xs b) none old in let lt = old'.1 in omega arith)) (λ f. at_first f) ((more.found b).0 c);
  begun = λ b c. (more.found b).1 (inr c);
  closed = λ k b lt c. absurd (omega arith);
}

-- the arrows of one more are walked
pub walk_goes_on : (onward : List (Vec ℕ Global)) (first : List ℕ) (place : ℕ) (marks marks' : List Bool) (found found' ends : List ℕ)
    → IsWalked onward first place marks found → place < length found → list_at onward (get_or found place 0) ≡ ends
    → length marks' ≡ length marks → AreMarked marks' found' → FindsMore found found' ends → IsWalked onward first (place + 1) marks' found'
walk_goes_on onward first place marks marks' found found' ends h lt is width are more = record {
  width = width ∙ h.width;
  upto = let le = more.longer in omega arith;
  are_marked = are;
  sound = λ b c. ⊎_elim (h.sound b)
      (λ f. by_arrow (h.sound (get_or found place 0) (Contains-get_or found place 0 lt)) (subst (λ xs. Contains xs b) (sym is) f)) ((more.found b).0 c);
  begun = λ b c. (more.found b).1 (inl (h.begun b c));
  closed = λ k b below c. ⊎_elim
      (λ (here : k ≡ place).
      let same : get_or found' k 0 ≡ get_or found place 0 = more.kept k (omega arith) ∙ ap (λ j. get_or found j 0) here in
      (more.found b).1 (inr (subst (λ xs. Contains xs b) is (subst (λ a. Contains (list_at onward a) b) same c))))
      (λ (other : k ≡ place → ⊥).
      let before : k < place = omega arith in
      let up = h.upto in
      let same : get_or found' k 0 ≡ get_or found k 0 = more.kept k (omega arith) in
      (more.found b).1 (inl (h.closed k b before (subst (λ a. Contains (list_at onward a) b) same c))))
      (cases_eq k place);
}

found_again : {onward : List (Vec ℕ Global)} {first : List ℕ} {place : ℕ} {marks : List Bool} {found : List ℕ}
    → IsWalked onward first place marks found → length found ≤ place → (b : ℕ) → IsReached onward first b → Contains found b
found_again h all _ (at_first {b = b} c) = h.begun b c
found_again {onward = onward} {found = found} h all _ (by_arrow {a = a} {b = b} r c) =
    let there = found_again h all a r in
    let k = there.0 in
    let lt : k < length found = there.1 in
    let is : get_or found k 0 ≡ a = get_or_default found k 0 a lt ∙ there.2 in
    h.closed k b (omega arith) (subst (λ x. Contains (list_at onward x) b) (sym is) c)

-- at the end what can be reached is found
pub walk_ends : (onward : List (Vec ℕ Global)) (first : List ℕ) (place : ℕ) (marks : List Bool) (found : List ℕ)
    → IsWalked onward first place marks found → length found ≤ place → (b : ℕ) → Contains found b ↔ IsReached onward first b
walk_ends onward first place marks found h all b = (h.sound b, found_again h all b)

-- fewer than all numbers are walked
pub walk_has_room : (onward : List (Vec ℕ Global)) (first : List ℕ) (place : ℕ) (marks : List Bool) (found : List ℕ)
    → IsWalked onward first place marks found → place < length found → place < length onward
walk_has_room onward first place marks found h lt =
    let o = h.are_marked.once in let m = marked_at_most marks in let w = h.width in omega arith

-- what is found has a list
pub found_within : (onward : List (Vec ℕ Global)) (first : List ℕ) (place : ℕ) (marks : List Bool) (found : List ℕ) (x : ℕ)
    → StaysWithin onward → ((b : ℕ) → Contains first b → b < length onward)
    → IsWalked onward first place marks found → place < length found → get_or found place 0 ≡ x → x < length onward
found_within onward first place marks found x within there h lt is =
    subst (λ y. y < length onward) is (reached_within within there (get_or found place 0) (h.sound (get_or found place 0) (Contains-get_or found place 0 lt)))

-- what a turn of the search keeps
pub record IsFinding (width : ℕ) (before further : List ℕ) (i : ℕ) (marks : List Bool) (found : List ℕ) : Type 0 where
  pub wide : length marks ≡ width
  pub are_marked : AreMarked marks found
  pub more : FindsMore before found (take i further)

pub turn_new : (width : ℕ) (before further : List ℕ) (i x : ℕ) (marks marks' : List Bool) (found found' : List ℕ) → i < length further → x ≡ get_or further i 0
    → x < length marks → get_or marks x false ≡ false → marks' ≡ set marks x true → found' ≡ found ++ x ∷ []
    → IsFinding width before further i marks found → IsFinding width before further (i + 1) marks' found'
turn_new width before further i x marks marks' found found' lt is there off sets pushes h = record {
  wide = ap length sets ∙ length-set marks x true ∙ h.wide;
  are_marked = rw (sets, pushes) (marks_one marks found x there off h.are_marked);
  more = rw (pushes, is) (finds_new before found further i lt h.more);
}

pub turn_again : (width : ℕ) (before further : List ℕ) (i x : ℕ) (marks marks' : List Bool) (found found' : List ℕ) → i < length further → x ≡ get_or further i 0
    → get_or marks x false ≡ true → marks' ≡ marks → found' ≡ found
    → IsFinding width before further i marks found → IsFinding width before further (i + 1) marks' found'
turn_again width before further i x marks marks' found found' lt is on sets pushes h = record {
  wide = ap length sets ∙ h.wide;
  are_marked = rw (sets, pushes) h.are_marked;
  more = rw pushes (finds_again before found further i lt (subst (Contains found) is ((h.are_marked.same x).0 on)) h.more);
}

-- the list of the number that is walked
pub walk_list : (onward : List (Vec ℕ Global)) (first : List ℕ) (place : ℕ) (marks : List Bool) (found : List ℕ) (x : ℕ) (list : Vec ℕ Global)
    → StaysWithin onward → ((b : ℕ) → Contains first b → b < length onward)
    → IsWalked onward first place marks found → place < length found → x ≡ get_or found place x → list ≡ get_or onward x list
    → list_at onward (get_or found place 0) ≡ list.items
walk_list onward first place marks found x list within there h lt at is =
    let same = get_or_default found place 0 x lt ∙ sym at in
    ap (list_at onward) same ∙ list_there onward x list (found_within onward first place marks found x within there h lt same) is

-- a list of one number has no other
pub only_first : (a b : ℕ) → Contains (a ∷ []) b → a ≡ b
only_first a b (zero, lt, e) = e
only_first a b (suc k, lt, e) = absurd (omega arith)
