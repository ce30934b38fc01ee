-- The last group of a search is closed.
use Rattle.std.proofs.Common.{◌≡◌, ◌↔◌, ◌⊎◌, ◌<◌, ◌≤◌, ◌+◌, ℕ, zero, suc, List, [], ◌∷◌, ◌++◌, length, Bool, true, false, get_or, Contains, Vec, Global, refl, sym, ap, subst, ◌∙◌, inl, inr, ⊎_elim, arith, length-append}
use Rattle.std.proofs.lemmas.Bool.{cases_lt}
use Rattle.std.proofs.lemmas.List.{get_or_append_left, get_or_default}
use Rattle.std.proofs.lemmas.List.Elements.{Contains-append_left, Contains-push, Contains-push_cases, Contains-get_or}
use Rattle.pssm_wellformed.specs.declared.cycles.Stage.{Stage}
use Rattle.pssm_wellformed.specs.declared.cycles.Stage.TheVariants.{New, Open, Closed}
use Rattle.pssm_wellformed.specs.declared.cycles.Group.{Group}
use Rattle.pssm_wellformed.specs.inner.Lists.{list_at}
use Rattle.pssm_wellformed.specs.inner.Reach.{IsReached}
use Rattle.pssm_wellformed.specs.inner.Reach.IsReached.{at_first, by_arrow}
use Rattle.pssm_wellformed.specs.inner.Cycles.{GoesRound, stage_at, StandsFrom, IsLedFromOpen, IsSearch, IsSettled}
use Rattle.pssm_wellformed.proofs.Walking.{only_first}
use Rattle.pssm_wellformed.proofs.Closures.{reach_from}
use Rattle.pssm_wellformed.proofs.Groups.{front_ascending, up_to_last, alone, stands_place, stands_right, stands_behind}
use Rattle.pssm_wellformed.proofs.Searching.{same_place, open_not_new, open_not_closed, new_not_closed}

-- what a number reaches is itself, or its arrows reach it
pub reach_on : (g : List (Vec ℕ Global)) (a b : ℕ) → IsReached g (a ∷ []) b → (a ≡ b) ⊎ IsReached g (list_at g a) b
reach_on g a _ (at_first {b = b} c) = inl (only_first a b c)
reach_on g a _ (by_arrow {a = d} {b = b} r c) = ⊎_elim
    (λ same. inr (at_first (subst (λ n. Contains (list_at g n) b) (sym same) c)))
    (λ on. inr (by_arrow on c))
    (reach_on g a d r)

-- two numbers that reach each other go round
pub round_by : (g : List (Vec ℕ Global)) (a b : ℕ) → (a ≡ b → ⊥) → IsReached g (a ∷ []) b → IsReached g (b ∷ []) a → GoesRound g a
round_by g a b other to back =
    reach_from g (b ∷ []) (list_at g a)
    (λ n c. subst (IsReached g (list_at g a)) (only_first b n c) (⊎_elim (λ same. absurd (other same)) (λ on. on) (reach_on g a b to))) a back

-- a list of more than one number has another place
other_place : (n k : ℕ) → 1 < n → k < n → (j : ℕ) × (j < n) × (k ≡ j → ⊥)
other_place n zero more lt = (1, more, λ e. omega arith)
other_place n (suc k) more lt = (0, omega arith, λ e. omega arith)

module _ {g : List (Vec ℕ Global)} {stages stages' : List Stage} (rest group : List ℕ) (groups : List Group) (y : Group) {ahead : List ℕ} {cyclic cyclic' : List Bool}
    (h : IsSearch g stages (rest ++ group) (groups ++ y ∷ []) ahead cyclic) (first : y.first ≡ length rest) (none : y.ahead ≡ length ahead)
    (s : IsSettled g group (length group) stages stages' cyclic cyclic') where
  last_first : (x : Group) → Contains (groups ++ y ∷ []) x → x.first ≤ length rest
  last_first x c = let le = (up_to_last groups y x h.ascending c).0 in omega arith

  y_in : Contains (groups ++ y ∷ []) y
  y_in = Contains-push groups y

  -- a number of the group stands behind the rest
  stands : (a : ℕ) → Contains group a → StandsFrom (rest ++ group) y.first a
  stands a c = stands_right rest group y.first a (omega arith) c

  in_group : (a : ℕ) → StandsFrom (rest ++ group) y.first a → Contains group a
  in_group a from = stands_behind rest group a (subst (λ n. StandsFrom (rest ++ group) n a) first from)

  is_open : (a : ℕ) → Contains group a → (i : ℕ) × (length rest ≤ i) × (stage_at stages a ≡ Open i)
  is_open a c = let from = stands a c in (from.0, (let le = from.1 in omega arith), (h.placed a from.0).1 (from.2, from.3))

  rest_open : (i : ℕ) → i < length rest → stage_at stages (get_or rest i 0) ≡ Open i
  rest_open i lt = (h.placed (get_or rest i 0) i).1 (omega (arith, length-append rest group), get_or_append_left rest group 0 i lt)

  -- a number of the rest is none of the group
  apart : (i : ℕ) → i < length rest → Contains group (get_or rest i 0) → ⊥
  apart i lt c =
      let other = is_open (get_or rest i 0) c in
      let same = same_place i other.0 (sym (rest_open i lt) ∙ other.2) in
      absurd (let le = other.1 in omega arith)

  -- whether a number is one of the group
  by_stage : (a : ℕ) (stage : Stage) → stage_at stages a ≡ stage → Contains group a ⊎ (Contains group a → ⊥)
  by_stage a New is = inr (λ c. let o = is_open a c in open_not_new o.0 (sym o.2 ∙ is))
  by_stage a Closed is = inr (λ c. let o = is_open a c in open_not_closed o.0 (sym o.2 ∙ is))
  by_stage a (Open i) is = ⊎_elim
      (λ (low : i < length rest). inr (λ c. let o = is_open a c in let same = same_place i o.0 (sym is ∙ o.2) in absurd (let le = o.1 in omega arith)))
      (λ (high : length rest ≤ i). let at = (h.placed a i).0 is in inl (in_group a (i, omega arith, at.0, at.1)))
      (cases_lt i (length rest))

  decided : (a : ℕ) → Contains group a ⊎ (Contains group a → ⊥)
  decided a = by_stage a (stage_at stages a) refl

  closed_still : (a : ℕ) → stage_at stages a ≡ Closed → stage_at stages' a ≡ Closed
  closed_still a is = ⊎_elim (λ c. s.stages_here a c) (λ out. s.stages_there a out ∙ is) (decided a)

  closes_placed : (a i : ℕ) → (stage_at stages' a ≡ Open i) ↔ ((i < length rest) × (get_or rest i 0 ≡ a))
  closes_placed a i = (
    λ is. ⊎_elim (λ c. absurd (open_not_closed i (sym is ∙ s.stages_here a c)))
        (λ out.
        let at = (h.placed a i).0 (sym (s.stages_there a out) ∙ is) in
        let low : i < length rest = ⊎_elim (λ lt. lt) (λ le. absurd (out (in_group a (i, omega arith, at.0, at.1)))) (cases_lt i (length rest)) in
        (low, sym (get_or_append_left rest group 0 i low) ∙ at.1))
        (decided a),
    λ w.
        let out : Contains group a → ⊥ = λ c. apart i w.0 (subst (Contains group) (sym w.1) c) in
        s.stages_there a out ∙ ap (stage_at stages) (sym w.1) ∙ rest_open i w.0,
  )

  -- an arrow from the group leads to a closed number or into the group
  leads_inside : (a b : ℕ) → Contains group a → Contains (list_at g a) b → (stage_at stages b ≡ Closed) ⊎ Contains group b
  leads_inside a b c arrow = ⊎_elim inl (⊎_elim (λ from. inr (in_group b from)) (λ from. absurd (let le = from.1 in let lt = from.2 in omega arith))) (h.walked y y_in a b (stands a c) arrow)

  closes_closed : (a b : ℕ) → stage_at stages' a ≡ Closed → Contains (list_at g a) b → stage_at stages' b ≡ Closed
  closes_closed a b is arrow = ⊎_elim
      (λ c. ⊎_elim (λ was. closed_still b was) (λ inside. s.stages_here b inside) (leads_inside a b c arrow))
      (λ out. closed_still b (h.closed a b (sym (s.stages_there a out) ∙ is) arrow))
      (decided a)

  -- the numbers of the group reach each other
  reach_each : (a b : ℕ) → Contains group a → Contains group b → IsReached g (a ∷ []) b
  reach_each a b c d =
      let i = stands a c in
      let j = stands b d in
      subst (λ n. IsReached g (n ∷ []) b) i.3 (subst (IsReached g (get_or (rest ++ group) i.0 0 ∷ [])) j.3
      (h.joined i.0 j.0 i.2 j.2 (λ x inside. inl (let le = last_first x inside in let from = j.1 in omega arith))))

  -- two places of the group have two numbers
  two_numbers : (k j : ℕ) → k < length group → j < length group → (k ≡ j → ⊥) → get_or group k 0 ≡ get_or group j 0 → ⊥
  two_numbers k j ltk ltj other same =
      let at : (n : ℕ) → n < length group → stage_at stages (get_or group n 0) ≡ Open (length rest + n) =
      λ n lt. (h.placed (get_or group n 0) (length rest + n)).1 (omega (arith, length-append rest group), stands_place rest group n) in
      other (let e = same_place (length rest + k) (length rest + j) (sym (at k ltk) ∙ ap (stage_at stages) same ∙ at j ltj) in omega arith)

  -- where no number is beside it, what is reached from a number of the group is closed, or it leads to itself
  goes_nowhere : (a : ℕ) → Contains group a → length group ≤ 1 → (b : ℕ) → IsReached g (list_at g a) b → (stage_at stages b ≡ Closed) ⊎ Contains (list_at g a) a
  goes_nowhere a c few _ (at_first {b = b} arrow) = ⊎_elim inl
      (λ inside. inr (subst (Contains (list_at g a)) (sym (alone group a b few c inside)) arrow)) (leads_inside a b c arrow)
  goes_nowhere a c few _ (by_arrow {a = d} {b = b} r arrow) = ⊎_elim (λ is. inl (h.closed d b is arrow)) inr (goes_nowhere a c few d r)

  closes_round : (a : ℕ) → Contains group a → ((1 < length group) ⊎ Contains (list_at g a) a) ↔ GoesRound g a
  closes_round a c = (
    ⊎_elim
        (λ more.
        let other = other_place (length group) c.0 more c.1 in
        let b = get_or group other.0 0 in
        let inside : Contains group b = Contains-get_or group other.0 0 other.1 in
        let is : get_or group c.0 0 ≡ a = get_or_default group c.0 0 a c.1 ∙ c.2 in
        round_by g a b (λ same. two_numbers c.0 other.0 c.1 other.1 other.2 (is ∙ same)) (reach_each a b c inside) (reach_each b a inside c))
        (λ itself. at_first itself),
    λ round. ⊎_elim inl (λ few. inr (⊎_elim (λ is. absurd (let o = is_open a c in open_not_closed o.0 (sym o.2 ∙ is))) (λ itself. itself)
        (goes_nowhere a c (let le = few in omega arith) a round))) (cases_lt 1 (length group)),
  )

  closes_marks : (a : ℕ) → stage_at stages' a ≡ Closed → (get_or cyclic' a false ≡ true) ↔ GoesRound g a
  closes_marks a is = ⊎_elim
      (λ c. let marks = s.marks_here a c in let round = closes_round a c in (λ m. round.0 (marks.0 m), λ r. marks.1 (round.1 r)))
      (λ out. let marks = h.marks a (sym (s.stages_there a out) ∙ is) in let same = s.marks_there a out in (λ m. marks.0 (sym same ∙ m), λ r. same ∙ marks.1 r))
      (decided a)

  closes_walked : (x : Group) → Contains groups x → (a b : ℕ) → StandsFrom rest x.first a → Contains (list_at g a) b
      → (stage_at stages' b ≡ Closed) ⊎ StandsFrom rest x.first b ⊎ StandsFrom ahead x.ahead b
  closes_walked x c a b (i, le, lt, e) arrow =
      let wide : StandsFrom (rest ++ group) x.first a = (i, le, omega (arith, length-append rest group), get_or_append_left rest group 0 i lt ∙ e) in
      ⊎_elim (λ is. inl (closed_still b is))
      (⊎_elim (λ from. ⊎_elim
      (λ (low : from.0 < length rest). inr (inl (from.0, from.1, low, sym (get_or_append_left rest group 0 from.0 low) ∙ from.3)))
      (λ high. inl (s.stages_here b (in_group b (from.0, omega arith, from.2, from.3)))) (cases_lt from.0 (length rest)))
      (λ coming. inr (inr coming)))
      (h.walked x (Contains-append_left groups (y ∷ []) x c) a b wide arrow)

  closes_led : (t : ℕ) → t < length ahead → (x : Group) → Contains groups x → x.ahead ≤ t → IsLedFromOpen g rest groups ahead t
  closes_led t lt x c le =
      let led = h.led t lt x (Contains-append_left groups (y ∷ []) x c) le in
      let low : led.0 < length rest = ⊎_elim (λ l. l) (λ high. absurd (let up = (led.3 y y_in).0 (omega arith) in omega arith)) (cases_lt led.0 (length rest)) in (
        led.0,
        low,
        subst (λ n. Contains (list_at g n) (get_or ahead t 0)) (get_or_append_left rest group 0 led.0 low) led.2,
        λ z d. led.3 z (Contains-append_left groups (y ∷ []) z d),
      )

  pub closes : IsSearch g stages' rest groups ahead cyclic'
  closes = record {
    within = h.within;
    stages_width = s.stages_width ∙ h.stages_width;
    marks_width = s.marks_width ∙ h.marks_width;
    placed = closes_placed;
    closed = closes_closed;
    marks = closes_marks;
    ascending = front_ascending groups (y ∷ []) h.ascending;
    inside = λ x c. let there = Contains-append_left groups (y ∷ []) x c in (last_first x there, (h.inside x there).1);
    grouped = λ i lt.
        let own = h.grouped i (omega (arith, length-append rest group)) in
        ⊎_elim (λ there. (own.0, there, own.2)) (λ same. absurd (let le : y.first ≤ i = subst (λ (z : Group). z.first ≤ i) (sym same) own.2 in omega arith))
        (Contains-push_cases groups y own.0 own.1);
    joined = λ i j lti ltj split.
        subst (λ n. IsReached g (n ∷ []) (get_or rest j 0)) (get_or_append_left rest group 0 i lti)
        (subst (IsReached g (get_or (rest ++ group) i 0 ∷ [])) (get_or_append_left rest group 0 j ltj)
        (h.joined i j (omega (arith, length-append rest group)) (omega (arith, length-append rest group))
        (λ x c. ⊎_elim (λ there. split x there) (λ same. inr (subst (λ (z : Group). i < z.first) same (omega arith))) (Contains-push_cases groups y x c))));
    walked = closes_walked;
    led = closes_led;
    there = h.there;
    coming = λ a lt is. h.coming a lt (⊎_elim (λ c. absurd (new_not_closed (sym is ∙ s.stages_here a c))) (λ out. sym (s.stages_there a out) ∙ is) (decided a));
  }
