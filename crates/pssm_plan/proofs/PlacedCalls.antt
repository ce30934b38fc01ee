-- Lists of calls whose places a table keeps.
use Rattle.std.proofs.Common.{◌≡◌, ◌≢◌, ◌↔◌, ◌<◌, ◌≤◌, ◌++◌, ◌∙◌, ℕ, List, [], ◌∷◌, length, get_or, take, Contains, IsTrue, false, arith, refl, sym, subst, ap, ⊎_elim}
use Rattle.std.proofs.lemmas.List.{get_or-take, length-take, get_or_append_left, get_or_push, length-append}
use Rattle.std.proofs.lemmas.Bool.{cases_lt}
use Rattle.std.proofs.lemmas.List.Elements.{Contains-get_or}
use Rattle.std.proofs.lemmas.List.Quantifiers.{all_pairs_push}
use Rattle.pssm_model.specs.declared.steps.Item.{Item}
use Rattle.pssm_plan.specs.declared.roster.Call.{Call}
use Rattle.pssm_plan.specs.declared.places.Row.{Row}
use Rattle.pssm_plan.specs.inner.Marks.{IsListed, IsMarked}
use Rattle.pssm_plan.proofs.StandingItems.{one_call}
use Rattle.pssm_plan.specs.inner.Places.{place_in, looked_through, ArePlaced}

pub placed_none : (rows : List Row) → ArePlaced [] rows
placed_none rows = record { once = λ i j d lt inside. absurd (omega (arith, inside)); placed = λ k d le lt. absurd (omega (arith, lt)) }

-- the first calls of a list
pub placed_take : (calls : List Call) (rows : List Row) (n : ℕ) → ArePlaced calls rows → ArePlaced (take n calls) rows
placed_take calls rows n h = record {
  once = λ i j d lt inside.
      let wide = length-take n calls in
      let few : j < n = omega (arith, wide, inside) in
      let there : j < length calls = omega (arith, wide, inside) in
      let early : i < n = omega (arith, few, lt) in
      rw (get_or-take n calls i d early, get_or-take n calls j d few) (h.once i j d lt there);
  placed = λ k d le lt.
      let wide = length-take n calls in
      let few : k < n = omega (arith, wide, lt) in
      let there : k < length calls = omega (arith, wide, lt) in
      rw (get_or-take n calls k d few) (h.placed k d le there);
}

-- other calls of the same items
pub placed_alike : (calls new : List Call) (rows : List Row) → length new ≡ length calls
    → ((k : ℕ) (d : Call) → k < length calls → (get_or new k d).item ≡ (get_or calls k d).item) → ArePlaced calls rows → ArePlaced new rows
placed_alike calls new rows same items h = record {
  once = λ i j d lt inside e.
      let there : j < length calls = omega (arith, same, inside) in
      let early : i < length calls = omega (arith, there, lt) in
      h.once i j d lt there (sym (items i d early) ∙ e ∙ items j d there);
  placed = λ k d le lt.
      let there : k < length calls = omega (arith, same, lt) in
      ap (place_in rows) (items k d there) ∙ h.placed k d le there;
}

-- one more call, of an item that is not listed
pub placed_push : (calls : List Call) (rows new : List Row) (call : Call) → (IsListed calls call.item → ⊥)
    → ((x : Item) → x ≢ call.item → place_in new x ≡ place_in rows x) → (looked_through ≤ length calls → place_in new call.item ≡ length calls)
    → ArePlaced calls rows → ArePlaced (calls ++ call ∷ []) new
placed_push calls rows new call fresh others noted h = record {
  once = all_pairs_push (λ (a b : Call). a.item ≢ b.item) calls call h.once (λ k d lt e. fresh (get_or calls k d, Contains-get_or calls k d lt, e));
  placed = λ k d le lt. ⊎_elim (early k d le) (late k d le lt) (cases_lt k (length calls));
}
  where
    early : (k : ℕ) (d : Call) → looked_through ≤ k → k < length calls → place_in new (get_or (calls ++ call ∷ []) k d).item ≡ k
    early k d le lt =
        let left = get_or_append_left calls (call ∷ []) d k lt in
        let other : (get_or calls k d).item ≢ call.item = λ e. fresh (get_or calls k d, Contains-get_or calls k d lt, e) in
        ap (λ (c : Call). place_in new c.item) left ∙ others (get_or calls k d).item other ∙ h.placed k d le lt

    late : (k : ℕ) (d : Call) → looked_through ≤ k → k < length (calls ++ call ∷ []) → length calls ≤ k
        → place_in new (get_or (calls ++ call ∷ []) k d).item ≡ k
    late k d le lt behind =
        let wide = length-append calls (call ∷ []) in
        let here : length calls ≡ k = omega (arith, wide, lt, behind) in
        let at_end : looked_through ≤ length calls = omega (arith, here, le) in
        ap (λ (c : Call). place_in new c.item) (get_or_push calls call d k here) ∙ noted at_end ∙ here

-- the place of an item that is listed behind the first few
pub place_there : (calls : List Call) (rows : List Row) (x : Item) (k : ℕ) (d : Call) → ArePlaced calls rows → looked_through ≤ k → k < length calls
    → (get_or calls k d).item ≡ x → place_in rows x ≡ k
place_there calls rows x k d h le lt e = ap (place_in rows) (sym e) ∙ h.placed k d le lt

-- an item is listed that stands at a place
pub listed_there : (calls : List Call) (x : Item) (k : ℕ) → k < length calls → ((d : Call) → (get_or calls k d).item ≡ x) → IsListed calls x
listed_there calls x k lt at =
    let d : Call = record { item = x; ran = false; blocked = false; seen = 0 } in
    (get_or calls k d, Contains-get_or calls k d lt, at d)

-- other places are kept of items that are not listed
pub placed_others : (calls : List Call) (rows new : List Row) (x : Item) → (IsListed calls x → ⊥)
    → ((y : Item) → y ≢ x → place_in new y ≡ place_in rows y) → ArePlaced calls rows → ArePlaced calls new
placed_others calls rows new x fresh others h = record {
  once = h.once;
  placed = λ k d le lt.
      others (get_or calls k d).item (λ e. fresh (get_or calls k d, Contains-get_or calls k d lt, e)) ∙ h.placed k d le lt;
}

-- the one call of an item has run where the item is marked
pub marked_there : (calls : List Call) (rows : List Row) (call : Call) → ArePlaced calls rows → Contains calls call
    → IsTrue call.ran ↔ IsMarked calls call.item
marked_there calls rows call h there = (
  λ ran. (call, there, refl, ran),
  λ mark. subst (λ (c : Call). IsTrue c.ran) (one_call calls h.once mark.0 call mark.1 there mark.2) mark.3,
)
