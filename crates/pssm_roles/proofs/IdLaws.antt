-- The numbers of elements by their ids.
use Rattle.std.proofs.Common.{◌≡◌, ◌≢◌, ◌==◌, ◌<◌, ◌≤◌, ℕ, zero, suc, ◌+◌, Bool, true, false, cond, List, [], ◌∷◌, length, drop, Option, Some, None, refl, sym, ap, subst, ◌∙◌, arith, ⊎_elim}
use Rattle.std.specs.Prelude.{slice_get, codes}
use Rattle.std.specs.Option.{option_and_then, option_map_or}
use Rattle.std.specs.List.{position_from}
use Rattle.std.specs.Str.{bytes_eq}
use Rattle.std.specs.Ordering.{is_eq, nat_cmp}
use Rattle.std.specs.Cmp.{eq_by_cmp_equiv}
use Rattle.std.specs.Cmp.Lexicographic.{slice_cmp, nat_list_cmp_total, nat_list_eq_equiv, bytes_decides}
use Rattle.std.specs.BTreeMap.{UpdatesBy, is_at}
use Rattle.std.specs.Map.{lookup, IsKeyTest, AreApart, KeepsOthers}
use Rattle.std.proofs.lemmas.Bool.{cases_Bool, cond-true, cond-false}
use Rattle.std.proofs.lemmas.Map.Text.{is_eq-slice_cmp}
use Rattle.std.proofs.lemmas.Iterator.Adapters.{position_from-zero}
use Rattle.std.proofs.lemmas.Option.{same_Some}
use Rattle.pssm_xml.specs.Documents.{Element}
use Rattle.pssm_xml.specs.Elements.{attribute_value, HasValue, HasNoValue}
use Rattle.pssm_roles.specs.Ids.{has_id, meant_by, RepeatsId}
use Rattle.pssm_roles.specs.inner.Numbers.{Numbers, number_in, number_before, IsLess}

-- ---- a map with one more id

apart : (bs cs ks : List ℕ) → bytes_eq bs cs ≡ false → bytes_eq bs ks ≡ true → bytes_eq cs ks ≡ false
apart bs cs ks n y = nat_list_eq_equiv.symm cs ks ∙ sym (nat_list_eq_equiv.congr bs ks cs y) ∙ n

apart_in_order : (bs cs ks : List ℕ) → bytes_eq bs cs ≡ false → is_eq (slice_cmp nat_cmp bs ks) ≡ true → is_eq (slice_cmp nat_cmp cs ks) ≡ false
apart_in_order bs cs ks n y = is_eq-slice_cmp cs ks ∙ apart bs cs ks n (sym (is_eq-slice_cmp bs ks) ∙ y)

other_entries : {K X : Type 0} (eq : K → K → Bool) (test : K → Bool) (old new : List (K × X)) → KeepsOthers eq test old new → (other : K → Bool) → IsKeyTest eq other → AreApart test other → lookup other new ≡ lookup other old
unfolding KeepsOthers
other_entries eq test old new h = h

-- the number of any id after a change at one
pub number_updates : (bs : List ℕ) (m n : Numbers) (w : Option ℕ) → UpdatesBy (λ x y. slice_cmp nat_cmp x.items y.items) (λ k. slice_cmp nat_cmp bs k.items) m n w
    → (cs : List ℕ) → number_in n cs ≡ cond (bytes_eq bs cs) w (number_in m cs)
number_updates bs m n w h cs =
    ⊎_elim
    (λ y. subst (λ l. number_in n l ≡ w) ((bytes_decides bs cs).0 y) h.1 ∙ sym (cond-true (bytes_eq bs cs) w (number_in m cs) y))
    (λ e. other_entries _ _ _ _ h.3 _ (λ x y. (eq_by_cmp_equiv nat_list_cmp_total).congr cs x.items y.items) (λ k. apart_in_order bs cs k.items e) ∙ sym (cond-false (bytes_eq bs cs) w (number_in m cs) e))
    (cases_Bool (bytes_eq bs cs))

-- a map without ids
pub no_number : (numbers : Numbers) (id : List ℕ) → numbers.entries ≡ [] → number_in numbers id ≡ None
no_number numbers id empty = ap (λ es. lookup (is_at (λ key. slice_cmp nat_cmp id key.items)) es) empty

-- ---- one element more

-- An element with an id takes the place of what was kept for it.
pub with_id : (doc : List Element) (n : ℕ) (own id : List ℕ) (old new : Option ℕ) → HasValue doc n (codes "xmi:id") own → new ≡ cond (bytes_eq own id) (Some n) old → new ≡ number_before doc n id old
with_id doc n own id old new has is = by_element (slice_get doc n) refl where
  by_element : (o : Option Element) → slice_get doc n ≡ o → new ≡ number_before doc n id old
  by_element None none = let e : None ≡ Some own = sym (ap (option_and_then (attribute_value (codes "xmi:id"))) none) ∙ has in absurd cc
  by_element (Some e) at =
      let value : attribute_value (codes "xmi:id") e ≡ Some own = sym (ap (option_and_then (attribute_value (codes "xmi:id"))) at) ∙ has in
      is ∙ ap (λ (v : Option (List ℕ)). cond (option_map_or (λ (x : List ℕ). bytes_eq x id) v false) (Some n) old) (sym value)
      ∙ ap (λ (o : Option Element). option_map_or (λ (x : Element). cond (has_id id x) (Some n) old) o old) (sym at)

-- An element without an id changes nothing.
pub without_id : (doc : List Element) (n : ℕ) (id : List ℕ) (old : Option ℕ) → HasNoValue doc n (codes "xmi:id") → old ≡ number_before doc n id old
without_id doc n id old has =
    ap (λ (v : Option (List ℕ)). cond (option_map_or (λ (x : List ℕ). bytes_eq x id) v false) (Some n) old) (sym has.2)
    ∙ ap (λ (o : Option Element). option_map_or (λ (x : Element). cond (has_id id x) (Some n) old) o old) (sym has.1)

-- ---- all elements from one on

-- There is an element with such a number.
pub element_there : {X : Type 0} (xs : List X) (n : ℕ) → n < length xs → (x : X) × (slice_get xs n ≡ Some x)
element_there [] n within = absurd (omega (arith, within))
element_there (x ∷ xs) zero within = (x, refl)
element_there (x ∷ xs) (suc n) within = element_there xs n (omega (arith, within))

-- the elements from this one on
pub drop_at : {X : Type 0} (xs : List X) (n : ℕ) (x : X) → slice_get xs n ≡ Some x → drop n xs ≡ x ∷ drop (suc n) xs
drop_at [] n x at = absurd cc
drop_at (y ∷ ys) zero x at = ap (λ z. z ∷ ys) (same_Some y x at)
drop_at (y ∷ ys) (suc n) x at = drop_at ys n x at

pub all_dropped : {X : Type 0} (xs : List X) (n : ℕ) → n ≡ length xs → drop n xs ≡ []
all_dropped [] zero is = refl
all_dropped [] (suc n) is = refl
all_dropped (x ∷ xs) zero is = absurd (omega (arith, is))
all_dropped (x ∷ xs) (suc n) is = all_dropped xs n (omega (arith, is))

pub numbers_more : (doc : List Element) (n next : ℕ) (id : List ℕ) (old new : Option ℕ) → next ≡ n + 1 → n < length doc → old ≡ position_from (has_id id) next (drop next doc)
    → new ≡ number_before doc n id old → new ≡ position_from (has_id id) n (drop n doc)
numbers_more doc n next id old new follows within before is =
    let there = element_there doc n within in
    let e = there.0 in
    let step : suc n ≡ n + 1 = omega arith in
    is ∙ ap (λ (o : Option Element). option_map_or (λ (x : Element). cond (has_id id x) (Some n) old) o old) there.1
    ∙ ap (λ (o : Option ℕ). cond (has_id id e) (Some n) o) (before ∙ ap (λ k. position_from (has_id id) k (drop k doc)) follows)
    ∙ ap (λ k. position_from (has_id id) n (e ∷ drop k doc)) (sym step)
    ∙ sym (ap (λ ys. position_from (has_id id) n ys) (drop_at doc n e there.1))

pub numbers_start : (doc : List Element) (n : ℕ) (id : List ℕ) (numbers : Numbers) → n ≡ length doc → numbers.entries ≡ [] → number_in numbers id ≡ position_from (has_id id) n (drop n doc)
numbers_start doc n id numbers all empty = no_number numbers id empty ∙ sym (ap (λ ys. position_from (has_id id) n ys) (all_dropped doc n all))

pub numbers_end : (doc : List Element) (n : ℕ) (id : List ℕ) (o : Option ℕ) → n ≡ 0 → o ≡ position_from (has_id id) n (drop n doc) → o ≡ meant_by doc id
numbers_end doc n id o none is = is ∙ ap (λ k. position_from (has_id id) k (drop k doc)) none ∙ sym (position_from-zero (has_id id) doc)

-- ---- what repeats an id

-- what is found from a place on, and what stands before it
pub found_from : {X : Type 0} (t : X → Bool) (i : ℕ) (xs : List X) (m : ℕ) → position_from t i xs ≡ Some m → (k : ℕ) × (x : X) × (m ≡ i + k) × (slice_get xs k ≡ Some x) × (t x ≡ true)
found_from t i [] m is = absurd cc
found_from {X = X} t i (x ∷ xs) m is = by_head (found_from t (i + 1) xs m) (t x) refl is where
  by_head : (position_from t (i + 1) xs ≡ Some m → (k : ℕ) × (y : X) × (m ≡ i + 1 + k) × (slice_get xs k ≡ Some y) × (t y ≡ true)) → (b : Bool) → t x ≡ b
      → cond b (Some i) (position_from t (i + 1) xs) ≡ Some m → (k : ℕ) × (y : X) × (m ≡ i + k) × (slice_get (x ∷ xs) k ≡ Some y) × (t y ≡ true)
  by_head further true here is = let same : i ≡ m = same_Some i m is in (0, x, omega (arith, same), refl, here)
  by_head further false here is = let more = further is in (suc more.0, more.1, (let e = more.2 in omega (arith, e)), more.3, more.4)

first_from : {X : Type 0} (t : X → Bool) (i : ℕ) (xs : List X) (k : ℕ) (x : X) → slice_get xs k ≡ Some x → t x ≡ true → (m : ℕ) × (position_from t i xs ≡ Some m) × (m ≤ i + k)
first_from t i [] k x at is = absurd cc
first_from t i (y ∷ ys) zero x at is = (i, ap (λ b. cond b (Some i) (position_from t (i + 1) ys)) (ap t (same_Some y x at) ∙ is), omega arith)
first_from t i (y ∷ ys) (suc k) x at is = by_head (first_from t (i + 1) ys k x at is) (t y) where
  by_head : (m : ℕ) × (position_from t (i + 1) ys ≡ Some m) × (m ≤ i + 1 + k) → (b : Bool) → (m : ℕ) × (cond b (Some i) (position_from t (i + 1) ys) ≡ Some m) × (m ≤ i + suc k)
  by_head more true = (i, refl, omega arith)
  by_head more false = (more.0, more.1, (let e = more.2 in omega (arith, e)))

-- An element with this value of its id has the id.
has_it : (doc : List Element) (n : ℕ) (id : List ℕ) → HasValue doc n (codes "xmi:id") id → (e : Element) × (slice_get doc n ≡ Some e) × (has_id id e ≡ true)
has_it doc n id has = by_element (slice_get doc n) refl where
  by_element : (o : Option Element) → slice_get doc n ≡ o → (e : Element) × (slice_get doc n ≡ Some e) × (has_id id e ≡ true)
  by_element None none = let e : None ≡ Some id = sym (ap (option_and_then (attribute_value (codes "xmi:id"))) none) ∙ has in absurd cc
  by_element (Some e) at =
      let value : attribute_value (codes "xmi:id") e ≡ Some id = sym (ap (option_and_then (attribute_value (codes "xmi:id"))) at) ∙ has in
      (e, at, ap (λ (v : Option (List ℕ)). option_map_or (λ (x : List ℕ). bytes_eq x id) v false) value ∙ (bytes_decides id id).1 refl)

value_of_it : (doc : List Element) (n : ℕ) (id : List ℕ) (e : Element) → slice_get doc n ≡ Some e → has_id id e ≡ true → HasValue doc n (codes "xmi:id") id
value_of_it doc n id e at has = by_value (attribute_value (codes "xmi:id") e) refl where
  by_value : (v : Option (List ℕ)) → attribute_value (codes "xmi:id") e ≡ v → HasValue doc n (codes "xmi:id") id
  by_value None none = let e : false ≡ true = sym (ap (λ (v : Option (List ℕ)). option_map_or (λ (x : List ℕ). bytes_eq x id) v false) none) ∙ has in absurd cc
  by_value (Some own) is =
      let same : own ≡ id = (bytes_decides own id).0 (sym (ap (λ (v : Option (List ℕ)). option_map_or (λ (x : List ℕ). bytes_eq x id) v false) is) ∙ has) in
      ap (option_and_then (attribute_value (codes "xmi:id"))) at ∙ is ∙ ap (λ x. Some x) same

-- An element before this one has the id exactly where the id is not empty and means one before it.
pub repeats_where : (doc : List Element) (n : ℕ) (id : List ℕ) → HasValue doc n (codes "xmi:id") id → id ≢ [] → IsLess n (meant_by doc id) → RepeatsId doc n
repeats_where doc n id own some less = by_number (meant_by doc id) refl less where
  by_number : (o : Option ℕ) → meant_by doc id ≡ o → IsLess n o → RepeatsId doc n
  by_number None none less = absurd less
  by_number (Some m) is less =
      let found = found_from (has_id id) 0 doc m (sym (position_from-zero (has_id id) doc) ∙ is) in
      let same : found.0 ≡ m = (let e = found.2 in omega (arith, e)) in
      record {
        id = id;
        some = some;
        earlier = m;
        own = own;
        before = less;
        same = value_of_it doc m id found.1 (ap (slice_get doc) (sym same) ∙ found.3) found.4;
      }

pub means_earlier : (doc : List Element) (n : ℕ) (id : List ℕ) → HasValue doc n (codes "xmi:id") id → RepeatsId doc n → IsLess n (meant_by doc id)
means_earlier doc n id own r =
    let same : r.id ≡ id = same_Some r.id id (sym r.own ∙ own) in
    let there = has_it doc r.earlier id (subst (λ (x : List ℕ). HasValue doc r.earlier (codes "xmi:id") x) same r.same) in
    let first = first_from (has_id id) 0 doc r.earlier there.0 there.1 there.2 in
    let least = first.2 in let before = r.before in
    subst (IsLess n) (sym (position_from-zero (has_id id) doc ∙ first.1)) (let lt : first.0 < n = omega (arith, least, before) in lt)

-- what the test for an empty id says
pub not_empty : (id : List ℕ) (b : Bool) → b ≡ (length id == 0) → b ≡ false → id ≢ []
not_empty [] b is other empty = let e : true ≡ false = sym is ∙ other in absurd cc
not_empty (c ∷ cs) b is other empty = absurd cc

pub none_repeated : (doc : List Element) (n : ℕ) → HasNoValue doc n (codes "xmi:id") → RepeatsId doc n → ⊥
none_repeated doc n has r =
    let e : None ≡ Some r.id = sym (ap (option_and_then (attribute_value (codes "xmi:id"))) has.1 ∙ has.2) ∙ r.own in cc
