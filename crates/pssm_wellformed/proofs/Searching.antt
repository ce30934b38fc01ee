-- A search as it begins, as it meets the end of an arrow, and as it ends.
use Rattle.std.proofs.Common.{◌≡◌, ◌↔◌, ◌⊎◌, ◌<◌, ◌≤◌, ◌-◌, ℕ, zero, suc, List, [], ◌∷◌, ◌++◌, length, Bool, true, false, get_or, set, replicate, Contains, Vec, Global, refl, sym, ap, subst, ◌∙◌, inl, inr, ⊎_elim, arith, length-append}
use Rattle.std.proofs.lemmas.Bool.{cases_eq, cases_lt, false≢true}
use Rattle.std.proofs.lemmas.List.{get_or-set_same, get_or-set_other, length-set, length-replicate, get_or_append_left, get_or_default, get_or_past, get_or-append_right}
use Rattle.std.proofs.lemmas.List.Elements.{Contains-append_left, Contains-append_cases, Contains-push, Contains-push_cases, Contains-get_or}
use Rattle.std.proofs.lemmas.List.Quantifiers.{all_pairs_push}
use Rattle.std.proofs.Math.Seq.{get_or-append_seam}
use Rattle.pssm_wellformed.specs.declared.cycles.Stage.{Stage}
use Rattle.pssm_wellformed.specs.declared.cycles.Stage.TheVariants.{New, Open, Closed}
use Rattle.pssm_wellformed.specs.declared.cycles.Group.{Group}
use Rattle.pssm_wellformed.specs.inner.Lists.{list_at}
use Rattle.pssm_wellformed.specs.inner.Reach.{IsReached, StaysWithin}
use Rattle.pssm_wellformed.specs.inner.Reach.IsReached.{at_first, by_arrow}
use Rattle.pssm_wellformed.specs.inner.Cycles.{GoesRound, stage_at, StandsFrom, IsEarlierGroup, IsLedFromOpen, IsSearch, IsJoined}
use Rattle.pssm_wellformed.proofs.Walking.{only_first, reached_within}
use Rattle.pssm_wellformed.proofs.Closures.{here_first, reach_from}
use Rattle.pssm_wellformed.proofs.Groups.{stands_left, stands_right, stands_cases}

-- the place of an open number is one
pub same_place : (i j : ℕ) → Open i ≡ Open j → i ≡ j
same_place i j e = cc

pub open_not_new : (i : ℕ) → Open i ≡ New → ⊥
open_not_new i e = cc

pub open_not_closed : (i : ℕ) → Open i ≡ Closed → ⊥
open_not_closed i e = cc

pub new_not_closed : New ≡ Closed → ⊥
new_not_closed e = cc

-- the end of an arrow of the last group is reached from each open number
pub led_on : (g : List (Vec ℕ Global)) (stages : List Stage) (opened : List ℕ) (groups : List Group) (ahead : List ℕ) (cyclic : List Bool) (b : ℕ)
    → IsSearch g stages opened groups (ahead ++ b ∷ []) cyclic → ((x : Group) → Contains groups x → x.ahead ≤ length ahead)
    → (i : ℕ) → i < length opened → IsReached g (get_or opened i 0 ∷ []) b
led_on g stages opened groups ahead cyclic b h last i lt =
    let group = h.grouped i lt in
    let led = h.led (length ahead) (omega (arith, length-append ahead (b ∷ []))) group.0 group.1 (last group.0 group.1) in
    let k = led.0 in
    by_arrow (h.joined i k lt led.1 (λ x c. inl ((led.3 x c).1 (last x c))))
    (subst (Contains (list_at g (get_or opened k 0))) (get_or-append_seam ahead b [] 0) led.2)

-- the end is closed: nothing more is open
pub meets_closed : (g : List (Vec ℕ Global)) (stages : List Stage) (opened : List ℕ) (groups : List Group) (ahead : List ℕ) (cyclic : List Bool) (b : ℕ)
    → IsSearch g stages opened groups (ahead ++ b ∷ []) cyclic → ((x : Group) → Contains groups x → x.ahead ≤ length ahead) → stage_at stages b ≡ Closed
    → IsSearch g stages opened groups ahead cyclic
meets_closed g stages opened groups ahead cyclic b h last is = record {
  within = h.within;
  stages_width = h.stages_width;
  marks_width = h.marks_width;
  placed = h.placed;
  closed = h.closed;
  marks = h.marks;
  ascending = h.ascending;
  inside = λ x c. ((h.inside x c).0, last x c);
  grouped = h.grouped;
  joined = h.joined;
  walked = λ x c a d from arrow. ⊎_elim inl (⊎_elim (λ there. inr (inl there)) (λ coming. ⊎_elim (λ still. inr (inr still))
      (λ same. inl (subst (λ n. stage_at stages n ≡ Closed) same.1 is)) (stands_cases ahead x.ahead b d coming))) (h.walked x c a d from arrow);
  led = λ t lt y c le.
      let led = h.led t (omega (arith, length-append ahead (b ∷ []))) y c le in
      (led.0, led.1, subst (Contains (list_at g (get_or opened led.0 0))) (get_or_append_left ahead (b ∷ []) 0 t lt) led.2, led.3);
  there = λ d c. h.there d (Contains-append_left ahead (b ∷ []) d c);
  coming = λ a lt new. ⊎_elim (λ there. there) (λ same. absurd (new_not_closed (sym new ∙ subst (λ n. stage_at stages n ≡ Closed) same is)))
      (Contains-push_cases ahead b a (h.coming a lt new));
}

-- the end is open: the groups from its own on become one
pub meets_open : (g : List (Vec ℕ Global)) (stages : List Stage) (opened : List ℕ) (groups groups' : List Group) (ahead : List ℕ) (cyclic : List Bool) (b q : ℕ)
    → IsSearch g stages opened groups (ahead ++ b ∷ []) cyclic → ((x : Group) → Contains groups x → x.ahead ≤ length ahead) → stage_at stages b ≡ Open q
    → IsJoined q groups groups' → ((x : Group) → Contains groups' x → x.first ≤ q) → IsSearch g stages opened groups' ahead cyclic
meets_open g stages opened groups groups' ahead cyclic b q h last is joins upto =
    let here : (q < length opened) × (get_or opened q 0 ≡ b) = (h.placed b q).0 is in
    let own = h.grouped q here.0 in
    let own_stays : Contains groups' own.0 = joins.kept own.0 own.1 own.2 in
    record {
      within = h.within;
      stages_width = h.stages_width;
      marks_width = h.marks_width;
      placed = h.placed;
      closed = h.closed;
      marks = h.marks;
      ascending = joins.ascending;
      inside = λ x c. ((h.inside x (joins.from x c)).0, last x (joins.from x c));
      grouped = λ i lt. ⊎_elim
          (λ (low : i < q). let old = h.grouped i lt in (old.0, joins.kept old.0 old.1 (let le = old.2 in omega arith), old.2))
          (λ (high : q ≤ i). (own.0, own_stays, (let le = own.2 in omega arith)))
          (cases_lt i q);
      joined = λ i j lti ltj apart. ⊎_elim
          (λ (past : q < i).
          let on : IsReached g (get_or opened q 0 ∷ []) (get_or opened j 0) =
          h.joined q j here.0 ltj (λ x c. ⊎_elim (λ (far : q < x.first). inr far)
          (λ (near : x.first ≤ q). ⊎_elim inl (λ (lt : i < x.first). absurd (omega arith)) (apart x (joins.kept x c near))) (cases_lt q x.first)) in
          reach_from g (get_or opened q 0 ∷ []) (get_or opened i 0 ∷ [])
          (λ n c. subst (IsReached g (get_or opened i 0 ∷ [])) (sym here.1 ∙ only_first (get_or opened q 0) n c) (led_on g stages opened groups ahead cyclic b h last i lti))
          (get_or opened j 0) on)
          (λ (upto' : i ≤ q). h.joined i j lti ltj (λ x c. ⊎_elim (λ (far : q < x.first). inr (omega arith)) (λ (near : x.first ≤ q). apart x (joins.kept x c near)) (cases_lt q x.first)))
          (cases_lt q i);
      walked = λ x c a d from arrow. ⊎_elim inl (⊎_elim (λ there. inr (inl there)) (λ coming. ⊎_elim (λ still. inr (inr still))
          (λ same. inr (inl (q, upto x c, here.0, here.1 ∙ same.1))) (stands_cases ahead x.ahead b d coming))) (h.walked x (joins.from x c) a d from arrow);
      led = λ t lt y c le.
          let led = h.led t (omega (arith, length-append ahead (b ∷ []))) y (joins.from y c) le in
          (led.0, led.1, subst (Contains (list_at g (get_or opened led.0 0))) (get_or_append_left ahead (b ∷ []) 0 t lt) led.2, λ x c'. led.3 x (joins.from x c'));
      there = λ d c. h.there d (Contains-append_left ahead (b ∷ []) d c);
      coming = λ a lt new. ⊎_elim (λ there. there) (λ same. absurd (open_not_new q (sym is ∙ ap (stage_at stages) same ∙ new)))
          (Contains-push_cases ahead b a (h.coming a lt new));
    }

-- the end is new: it is open now, as a group of its own, and its arrows are ahead
module _ {g : List (Vec ℕ Global)} {stages : List Stage} {opened : List ℕ} {groups : List Group} {cyclic : List Bool} (ahead : List ℕ) (b : ℕ)
    (h : IsSearch g stages opened groups (ahead ++ b ∷ []) cyclic) (last : (x : Group) → Contains groups x → x.ahead ≤ length ahead) (new : stage_at stages b ≡ New)
    (y : Group) (first : y.first ≡ length opened) (before : y.ahead ≡ length ahead) where
  number_there : b < length g
  number_there = h.there b (Contains-push ahead b)

  abbrev new_stages : List Stage
  new_stages = set stages b (Open (length opened))

  stage_here : stage_at new_stages b ≡ Open (length opened)
  stage_here = get_or-set_same stages b (Open (length opened)) New (let lt = number_there in let w = h.stages_width in omega arith)

  stage_kept : (a : ℕ) → (a ≡ b → ⊥) → stage_at new_stages a ≡ stage_at stages a
  stage_kept a other = get_or-set_other stages b a (Open (length opened)) New other

  closed_kept : (a : ℕ) → stage_at stages a ≡ Closed → stage_at new_stages a ≡ Closed
  closed_kept a is = stage_kept a (λ same. new_not_closed (sym new ∙ ap (stage_at stages) (sym same) ∙ is)) ∙ is

  was_closed : (a : ℕ) → stage_at new_stages a ≡ Closed → stage_at stages a ≡ Closed
  was_closed a is = ⊎_elim (λ (same : a ≡ b). absurd (open_not_closed (length opened) (sym stage_here ∙ ap (stage_at new_stages) (sym same) ∙ is)))
      (λ other. sym (stage_kept a other) ∙ is) (cases_eq a b)

  number_last : get_or (opened ++ b ∷ []) (length opened) 0 ≡ b
  number_last = get_or-append_seam opened b [] 0

  number_kept : (i : ℕ) → i < length opened → get_or (opened ++ b ∷ []) i 0 ≡ get_or opened i 0
  number_kept i lt = get_or_append_left opened (b ∷ []) 0 i lt

  -- a place among the open numbers is an old one or the last
  old_or_last : (i : ℕ) → i < length (opened ++ b ∷ []) → (i < length opened) ⊎ (i ≡ length opened)
  old_or_last i lt = ⊎_elim inl (λ le. inr (omega (arith, length-append opened (b ∷ [])))) (cases_lt i (length opened))

  opens_placed : (a i : ℕ) → (stage_at new_stages a ≡ Open i) ↔ ((i < length (opened ++ b ∷ [])) × (get_or (opened ++ b ∷ []) i 0 ≡ a))
  opens_placed a i = ⊎_elim
      (λ (same : a ≡ b). (
        λ is.
            let at : length opened ≡ i = same_place (length opened) i (sym stage_here ∙ ap (stage_at new_stages) (sym same) ∙ is) in
            (omega (arith, length-append opened (b ∷ [])), ap (λ n. get_or (opened ++ b ∷ []) n 0) (sym at) ∙ number_last ∙ sym same),
        λ w. ⊎_elim
            (λ (old : i < length opened). absurd (open_not_new i (sym ((h.placed b i).1 (old, sym (number_kept i old) ∙ w.1 ∙ same)) ∙ new)))
            (λ (at : i ≡ length opened). ap (stage_at new_stages) same ∙ stage_here ∙ ap Open (sym at))
            (old_or_last i w.0),
      ))
      (λ (other : a ≡ b → ⊥). (
        λ is. let old = (h.placed a i).0 (sym (stage_kept a other) ∙ is) in
            (let lt = old.0 in omega (arith, length-append opened (b ∷ [])), number_kept i old.0 ∙ old.1),
        λ w. ⊎_elim
            (λ (old : i < length opened). stage_kept a other ∙ (h.placed a i).1 (old, sym (number_kept i old) ∙ w.1))
            (λ (at : i ≡ length opened). absurd (other (sym w.1 ∙ ap (λ n. get_or (opened ++ b ∷ []) n 0) at ∙ number_last)))
            (old_or_last i w.0),
      ))
      (cases_eq a b)

  opens_inside : (x : Group) → Contains (groups ++ y ∷ []) x → (x.first ≤ length opened) × (x.ahead ≤ length ahead)
  opens_inside x c = ⊎_elim (λ old. ((h.inside x old).0, last x old))
      (λ same. subst (λ (z : Group). (z.first ≤ length opened) × (z.ahead ≤ length ahead)) same (omega arith, omega arith)) (Contains-push_cases groups y x c)

  opens_grouped : (i : ℕ) → i < length (opened ++ b ∷ []) → (x : Group) × Contains (groups ++ y ∷ []) x × (x.first ≤ i)
  opens_grouped i lt = ⊎_elim
      (λ old. let own = h.grouped i old in (own.0, Contains-append_left groups (y ∷ []) own.0 own.1, own.2))
      (λ (at : i ≡ length opened). (y, Contains-push groups y, omega arith))
      (old_or_last i lt)

  opens_joined : (i j : ℕ) → i < length (opened ++ b ∷ []) → j < length (opened ++ b ∷ []) → ((x : Group) → Contains (groups ++ y ∷ []) x → (x.first ≤ j) ⊎ (i < x.first))
      → IsReached g (get_or (opened ++ b ∷ []) i 0 ∷ []) (get_or (opened ++ b ∷ []) j 0)
  opens_joined i j lti ltj apart = ⊎_elim
      (λ (oldi : i < length opened).
      subst (λ n. IsReached g (n ∷ []) (get_or (opened ++ b ∷ []) j 0)) (sym (number_kept i oldi)) (⊎_elim
      (λ (oldj : j < length opened). subst (IsReached g (get_or opened i 0 ∷ [])) (sym (number_kept j oldj))
      (h.joined i j oldi oldj (λ x c. apart x (Contains-append_left groups (y ∷ []) x c))))
      (λ (at : j ≡ length opened). subst (IsReached g (get_or opened i 0 ∷ [])) (sym (ap (λ n. get_or (opened ++ b ∷ []) n 0) at ∙ number_last))
      (led_on g stages opened groups ahead cyclic b h last i oldi))
      (old_or_last j ltj)))
      (λ (at : i ≡ length opened). ⊎_elim
      (λ (oldj : j < length opened). absurd (⊎_elim (λ (le : y.first ≤ j). omega arith) (λ (lt : i < y.first). omega arith) (apart y (Contains-push groups y))))
      (λ (at' : j ≡ length opened).
      subst (λ n. IsReached g (get_or (opened ++ b ∷ []) i 0 ∷ []) (get_or (opened ++ b ∷ []) n 0)) (at ∙ sym at') (at_first (here_first (get_or (opened ++ b ∷ []) i 0))))
      (old_or_last j ltj))
      (old_or_last i lti)

  opens_walked : (x : Group) → Contains (groups ++ y ∷ []) x → (a d : ℕ) → StandsFrom (opened ++ b ∷ []) x.first a → Contains (list_at g a) d
      → (stage_at new_stages d ≡ Closed) ⊎ StandsFrom (opened ++ b ∷ []) x.first d ⊎ StandsFrom (ahead ++ list_at g b) x.ahead d
  opens_walked x c a d from arrow =
      let inside = opens_inside x c in
      ⊎_elim
      (λ (old : StandsFrom opened x.first a). ⊎_elim
      (λ there. ⊎_elim (λ is. inl (closed_kept d is)) (⊎_elim (λ in_open. inr (inl (stands_left opened (b ∷ []) x.first d in_open)))
      (λ coming. ⊎_elim (λ still. inr (inr (stands_left ahead (list_at g b) x.ahead d still)))
      (λ same. inr (inl (length opened, inside.0, omega (arith, length-append opened (b ∷ [])), number_last ∙ same.1))) (stands_cases ahead x.ahead b d coming)))
      (h.walked x there a d old arrow))
      (λ same. absurd (let le : y.first ≤ old.0 = subst (λ (z : Group). z.first ≤ old.0) (sym same) old.1 in let lt = old.2 in omega arith))
      (Contains-push_cases groups y x c))
      (λ same. inr (inr (stands_right ahead (list_at g b) x.ahead d inside.1 (subst (λ n. Contains (list_at g n) d) (sym same.1) arrow))))
      (stands_cases opened x.first b a from)

  opens_led : (t : ℕ) → t < length (ahead ++ list_at g b) → (z : Group) → Contains (groups ++ y ∷ []) z → z.ahead ≤ t
      → IsLedFromOpen g (opened ++ b ∷ []) (groups ++ y ∷ []) (ahead ++ list_at g b) t
  opens_led t lt z c le = ⊎_elim
      (λ (old : t < length ahead). ⊎_elim
      (λ there.
      let led = h.led t (omega (arith, length-append ahead (b ∷ []))) z there le in
      let is : get_or (ahead ++ b ∷ []) t 0 ≡ get_or (ahead ++ list_at g b) t 0 = get_or_append_left ahead (b ∷ []) 0 t old ∙ sym (get_or_append_left ahead (list_at g b) 0 t old) in (
        led.0,
        (let low = led.1 in omega (arith, length-append opened (b ∷ []))),
        subst (λ n. Contains (list_at g n) (get_or (ahead ++ list_at g b) t 0)) (sym (number_kept led.0 led.1)) (subst (Contains (list_at g (get_or opened led.0 0))) is led.2),
        λ x c'. ⊎_elim (λ there'. led.3 x there')
            (λ same. subst (λ (w : Group). (w.first ≤ led.0) ↔ (w.ahead ≤ t)) same
            ((λ no. absurd (let low = led.1 in omega arith)), (λ no. absurd (omega arith)))) (Contains-push_cases groups y x c'),
      ))
      (λ same. absurd (let low : y.ahead ≤ t = subst (λ (w : Group). w.ahead ≤ t) (sym same) le in omega arith))
      (Contains-push_cases groups y z c))
      (λ (behind : length ahead ≤ t).
      let k = t - length ahead in
      let low : k < length (list_at g b) = omega (arith, length-append ahead (list_at g b)) in (
        length opened,
        omega (arith, length-append opened (b ∷ [])),
        subst (λ n. Contains (list_at g n) (get_or (ahead ++ list_at g b) t 0)) (sym number_last)
            (subst (Contains (list_at g b)) (sym (get_or-append_right ahead (list_at g b) (length ahead) t 0 refl behind)) (Contains-get_or (list_at g b) k 0 low)),
        λ x c'. let inside = opens_inside x c' in ((λ yes. let up = inside.1 in omega arith), (λ yes. inside.0)),
      ))
      (cases_lt t (length ahead))

  opens : IsSearch g (set stages b (Open (length opened))) (opened ++ b ∷ []) (groups ++ y ∷ []) (ahead ++ list_at g b) cyclic
  opens = record {
    within = h.within;
    stages_width = length-set stages b (Open (length opened)) ∙ h.stages_width;
    marks_width = h.marks_width;
    placed = opens_placed;
    closed = λ a d is arrow. closed_kept d (h.closed a d (was_closed a is) arrow);
    marks = λ a is. h.marks a (was_closed a is);
    ascending = all_pairs_push IsEarlierGroup groups y h.ascending (λ k d lt.
        let inside = opens_inside (get_or groups k d) (Contains-append_left groups (y ∷ []) (get_or groups k d) (Contains-get_or groups k d lt)) in
        ((let le = inside.0 in omega arith), (let le = inside.1 in omega arith)));
    inside = λ x c. let inside = opens_inside x c in
        ((let le = inside.0 in omega (arith, length-append opened (b ∷ []))), (let le = inside.1 in omega (arith, length-append ahead (list_at g b))));
    grouped = opens_grouped;
    joined = opens_joined;
    walked = opens_walked;
    led = opens_led;
    there = λ d c. ⊎_elim (λ old. h.there d (Contains-append_left ahead (b ∷ []) d old)) (λ arrow. h.within b d arrow) (Contains-append_cases ahead (list_at g b) d c);
    coming = λ a lt is. ⊎_elim
        (λ (same : a ≡ b). absurd (open_not_new (length opened) (sym stage_here ∙ ap (stage_at new_stages) (sym same) ∙ is)))
        (λ (other : a ≡ b → ⊥). ⊎_elim (λ there. Contains-append_left ahead (list_at g b) a there) (λ same. absurd (other (sym same)))
        (Contains-push_cases ahead b a (h.coming a lt (sym (stage_kept a other) ∙ is))))
        (cases_eq a b);
  }

  pub meets_new : IsSearch g (set stages b (Open y.first)) (opened ++ b ∷ []) (groups ++ y ∷ []) (ahead ++ list_at g b) cyclic
  meets_new = subst (λ n. IsSearch g (set stages b (Open n)) (opened ++ b ∷ []) (groups ++ y ∷ []) (ahead ++ list_at g b) cyclic) (sym first) opens

-- open numbers have a list
pub opened_there : (g : List (Vec ℕ Global)) (stages : List Stage) (opened : List ℕ) (groups : List Group) (ahead : List ℕ) (cyclic : List Bool)
    → IsSearch g stages opened groups ahead cyclic → (a : ℕ) → Contains opened a → a < length g
opened_there g stages opened groups ahead cyclic h a (i, lt, e) = ⊎_elim (λ low. low)
    (λ past. absurd (open_not_new i (sym ((h.placed a i).1 (lt, get_or_default opened i 0 a lt ∙ e)) ∙ get_or_past stages a New (let w = h.stages_width in omega arith))))
    (cases_lt a (length g))

all_new : (n a : ℕ) → stage_at (replicate n New) a ≡ New
all_new zero a = refl
all_new (suc n) zero = refl
all_new (suc n) (suc a) = all_new n a

-- at the beginning each number is new and ahead
pub search_begins : (g : List (Vec ℕ Global)) (n : ℕ) (ahead : List ℕ) → StaysWithin g → length g ≡ n → ((a : ℕ) → Contains ahead a ↔ (a < n))
    → IsSearch g (replicate n New) [] [] ahead (replicate n false)
search_begins g n ahead within width are = record {
  within = within;
  stages_width = length-replicate n New ∙ sym width;
  marks_width = length-replicate n false ∙ sym width;
  placed = λ a i. (λ is. absurd (open_not_new i (sym is ∙ all_new n a)), λ w. absurd (let lt = w.0 in omega arith));
  closed = λ a b is arrow. absurd (new_not_closed (sym (all_new n a) ∙ is));
  marks = λ a is. absurd (new_not_closed (sym (all_new n a) ∙ is));
  ascending = λ i j d lt low. absurd (omega arith);
  inside = λ x c. absurd (let lt = c.1 in omega arith);
  grouped = λ i lt. absurd (omega arith);
  joined = λ i j lti ltj apart. absurd (omega arith);
  walked = λ x c a b from arrow. absurd (let lt = c.1 in omega arith);
  led = λ t lt x c le. absurd (let none = c.1 in omega arith);
  there = λ b c. subst (λ k. b < k) (sym width) ((are b).0 c);
  coming = λ a lt is. (are a).1 (subst (λ k. a < k) width lt);
}

-- where nothing is ahead and no group is open, each number is closed
all_closed : (g : List (Vec ℕ Global)) (stages : List Stage) (opened : List ℕ) (groups : List Group) (ahead : List ℕ) (cyclic : List Bool)
    → IsSearch g stages opened groups ahead cyclic → length ahead ≤ 0 → length groups ≤ 0 → (a : ℕ) → a < length g → (stage : Stage) → stage_at stages a ≡ stage → stage ≡ Closed
all_closed g stages opened groups ahead cyclic h none over a lt New is = absurd (let c = h.coming a lt is in let low = c.1 in omega arith)
all_closed g stages opened groups ahead cyclic h none over a lt (Open i) is = absurd (let own = h.grouped i ((h.placed a i).0 is).0 in let low = own.1.1 in omega arith)
all_closed g stages opened groups ahead cyclic h none over a lt Closed is = refl

-- at the end the marks are right
pub search_ends : (g : List (Vec ℕ Global)) (stages : List Stage) (opened : List ℕ) (groups : List Group) (ahead : List ℕ) (cyclic : List Bool)
    → IsSearch g stages opened groups ahead cyclic → length ahead ≤ 0 → length groups ≤ 0 → (a : ℕ) → (get_or cyclic a false ≡ true) ↔ GoesRound g a
search_ends g stages opened groups ahead cyclic h none over a = ⊎_elim
    (λ (lt : a < length g). h.marks a (all_closed g stages opened groups ahead cyclic h none over a lt (stage_at stages a) refl))
    (λ (past : length g ≤ a). (
      λ m. absurd (false≢true (sym (get_or_past cyclic a false (let w = h.marks_width in omega arith)) ∙ m)),
      λ round. absurd (let lt = reached_within h.within (λ b arrow. h.within a b arrow) a round in omega arith),
    ))
    (cases_lt a (length g))
