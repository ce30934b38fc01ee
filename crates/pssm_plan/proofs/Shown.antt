-- The calls of a plan as clauses see them.
use Rattle.std.proofs.Common.{◌≡◌, ◌↔◌, ◌<◌, ◌∷◌, ℕ, List, [], Bool, true, false, cond, length, map, take, get_or, Contains, IsTrue, IfSome, IfNone, Option, Some, None, arith, refl, sym, ap, subst, inr, ⊎_elim, ◌∙◌}
use Rattle.std.specs.List.{filter}
use Rattle.std.proofs.lemmas.Bool.{false≢true}
use Rattle.std.proofs.lemmas.List.{length-map, get_or-map, get_or_default, take-map}
use Rattle.std.proofs.lemmas.List.Elements.{Contains-get_or}
use Rattle.pssm_model.specs.declared.steps.Item.{Item}
use Rattle.pssm_model.specs.declared.elements.DraftMachine.{DraftMachine}
use Rattle.pssm_plan.specs.declared.ways.Way.{Way}
use Rattle.pssm_plan.specs.declared.roster.Call.{Call}
use Rattle.pssm_plan.specs.declared.ready.ReadyItem.{ReadyItem}
use Rattle.pssm_plan.specs.Waiting.{HoldsUp, IsMetBefore, IsExact}
use Rattle.pssm_plan.specs.Standings.{stands_ready, ready_before, IsItemAt, IsNextReady}
use Rattle.pssm_plan.specs.inner.Marks.{IsListed, IsMarked, IsAlike, ArePairwise}
use Rattle.pssm_plan.specs.inner.Sequence.{IsRoster}
use Rattle.pssm_plan.specs.inner.Going.{AreCovered}
use Rattle.pssm_plan.specs.inner.Passes.{IsSure, AreAllSure}
use Rattle.pssm_plan.specs.inner.Views.{shown, shown_among}
use Rattle.pssm_plan.proofs.Rewriting.{AreAlike, alike_back, listed_along, marked_along, roster_along}
use Rattle.pssm_plan.proofs.Settling.{set_or_not, exact_along}

pub shown_length : (calls : List Call) → length (shown calls) ≡ length calls
shown_length calls = length-map calls (shown_among (length calls))

pub shown_at : (calls : List Call) (k : ℕ) (d : Call) → k < length calls → get_or (shown calls) k d ≡ shown_among (length calls) (get_or calls k d)
shown_at calls k d lt = get_or-map (shown_among (length calls)) calls k d d lt

pub shown_contains : (calls : List Call) (call : Call) → Contains calls call → Contains (shown calls) (shown_among (length calls) call)
shown_contains calls call h = (
  h.0,
  (let long = shown_length calls in omega (arith, long, h.1)),
  (let lt : h.0 < length (shown calls) = (let long = shown_length calls in omega (arith, long, h.1)) in
      get_or_default (shown calls) h.0 (shown_among (length calls) call) call lt
      ∙ shown_at calls h.0 call h.1 ∙ ap (shown_among (length calls)) h.2),
)

pub shown_alike : (calls : List Call) → AreAlike calls (shown calls)
shown_alike calls = (
  shown_length calls,
  λ k d lt. (let at = shown_at calls k d lt in (ap (λ (c : Call). c.item) at, ap (λ (c : Call). c.ran) at)),
)

pub shown_pairs : (calls : List Call) → ArePairwise IsAlike calls (shown calls)
shown_pairs calls = (
  shown_length calls,
  λ k d lt. (let at = shown_at calls k d lt in record { item_is = ap (λ (c : Call). c.item) at; ran = ap (λ (c : Call). c.ran) at }),
)

shown_same : (calls : List Call) (k : ℕ) (d : Call) → k < length calls → (get_or (shown calls) k d).item ≡ (get_or calls k d).item
shown_same calls k d lt = ((shown_alike calls).1 k d lt).0

shown_back_same : (calls : List Call) (k : ℕ) (d : Call) → k < length (shown calls) → (get_or calls k d).item ≡ (get_or (shown calls) k d).item
shown_back_same calls k d lt = sym (shown_same calls k d (let long = shown_length calls in omega (arith, long, lt)))

pub shown_listed : (calls : List Call) (x : Item) → IsListed (shown calls) x ↔ IsListed calls x
shown_listed calls x = (
  λ h. listed_along (shown calls) calls x (sym (shown_length calls)) (shown_back_same calls) h,
  λ h. listed_along calls (shown calls) x (shown_length calls) (shown_same calls) h,
)

pub shown_marked : (calls : List Call) (x : Item) → IsMarked (shown calls) x ↔ IsMarked calls x
shown_marked calls x = (
  λ h. marked_along (shown calls) calls x (alike_back calls (shown calls) (shown_alike calls)) h,
  λ h. marked_along calls (shown calls) x (shown_alike calls) h,
)

pub shown_roster : (m : DraftMachine) (calls : List Call) → IsRoster m (shown calls) → IsRoster m calls
shown_roster m calls r = roster_along m (shown calls) calls (sym (shown_length calls)) (shown_back_same calls) r

pub shown_covered : (m : DraftMachine) (ways : List Way) (calls : List Call) → AreCovered m ways (shown calls) → AreCovered m ways calls
shown_covered m ways calls h way x inside none calls_it = (shown_listed calls x).0 (h way x inside none calls_it)

seen_free : (b : Bool) (x n : ℕ) → (IsTrue b → ⊥) → cond b x n ≡ n
seen_free true x n free = absurd (free refl)
seen_free false x n free = refl

pub seen_blocked : (b : Bool) (x n : ℕ) → IsTrue b → cond b x n ≡ x
seen_blocked true x n blocked = refl
seen_blocked false x n blocked = absurd (false≢true blocked)

module _ (Comes : Item → Item → Type 0) (calls : List Call) where
  -- a call that is sure is shown as it is exactly
  shown_one : (place : ℕ) (call : Call) → IsSure Comes calls place call → IsExact Comes calls place (shown_among (length calls) call)
  shown_one place call s = record {
    passed = λ k d met inside up. ⊎_elim
        (λ blocked. s.passed blocked k d (subst (λ (n : ℕ). IsMetBefore place n k) (seen_blocked call.blocked call.seen (length calls) blocked) met) inside up)
        (λ free. s.clear free k d inside inside up)
        (set_or_not call.blocked);
    waits = λ blocked.
        (let is = seen_blocked call.blocked call.seen (length calls) blocked in
        let w = s.waits blocked in (
          omega (arith, is, w.0),
          λ d. subst (λ (n : ℕ). HoldsUp Comes (get_or calls n d) call.item) (sym is) (w.1 d),
        ));
    through = λ free. seen_free call.blocked call.seen (length calls) free;
  }

  pub shown_exact : AreAllSure Comes calls → (k : ℕ) (d : Call) → k < length (shown calls) → IsExact Comes (shown calls) k (get_or (shown calls) k d)
  shown_exact sure k d low =
      let lt : k < length calls = (let long = shown_length calls in omega (arith, long, low)) in
      exact_along Comes calls (shown calls) k (get_or (shown calls) k d) (shown_alike calls)
      (subst (λ (c : Call). IsExact Comes calls k c) (sym (shown_at calls k d lt)) (shown_one k (get_or calls k d) (sure k d lt)))

  -- and one that is shown so is sure
  shown_back : (place : ℕ) (call : Call) → place < length calls → IsExact Comes calls place (shown_among (length calls) call) → IsSure Comes calls place call
  shown_back place call there e = record {
    passed = λ blocked k d met inside.
        e.passed k d (subst (λ (n : ℕ). IsMetBefore place n k) (sym (seen_blocked call.blocked call.seen (length calls) blocked)) met) inside;
    waits = λ blocked.
        (let is = seen_blocked call.blocked call.seen (length calls) blocked in
        let w = e.waits blocked in (
          (let low = w.0 in omega (arith, is, low)),
          λ d. subst (λ (n : ℕ). HoldsUp Comes (get_or calls n d) call.item) is (w.1 d),
        ));
    clear = λ free k d lt inside.
        (let is = seen_free call.blocked call.seen (length calls) free in e.passed k d (inr (omega (arith, is, there), omega (arith, is, inside))) inside);
  }

  pub shown_sure : ((k : ℕ) (d : Call) → k < length (shown calls) → IsExact Comes (shown calls) k (get_or (shown calls) k d)) → AreAllSure Comes calls
  shown_sure exact k d lt =
      let low : k < length (shown calls) = (let long = shown_length calls in omega (arith, long, lt)) in
      shown_back k (get_or calls k d) lt
      (subst (λ (c : Call). IsExact Comes calls k c) (shown_at calls k d lt)
      (exact_along Comes (shown calls) calls k (get_or (shown calls) k d) (alike_back calls (shown calls) (shown_alike calls)) (exact k d low)))

mapped_more : (n : ℕ) (c : Call) (b : Bool) (xs ys : List Call) → xs ≡ map (shown_among n) ys
    → cond b (shown_among n c ∷ xs) xs ≡ map (shown_among n) (cond b (c ∷ ys) ys)
mapped_more n c true xs ys e = ap (λ (l : List Call). shown_among n c ∷ l) e
mapped_more n c false xs ys e = e

-- which of them stand as ready
ready_mapped : (n : ℕ) (calls : List Call) → filter stands_ready (map (shown_among n) calls) ≡ map (shown_among n) (filter stands_ready calls)
ready_mapped n [] = refl
ready_mapped n (c ∷ calls) = mapped_more n c (stands_ready c) (filter stands_ready (map (shown_among n) calls)) (filter stands_ready calls) (ready_mapped n calls)

pub shown_ready : (calls : List Call) → length (filter stands_ready (shown calls)) ≡ length (filter stands_ready calls)
shown_ready calls =
    ap (λ (l : List Call). length l) (ready_mapped (length calls) calls) ∙ length-map (filter stands_ready calls) (shown_among (length calls))

pub shown_before : (calls : List Call) (place : ℕ) → ready_before (shown calls) place ≡ ready_before calls place
shown_before calls place =
    ap (λ (l : List Call). length (filter stands_ready l)) (take-map (shown_among (length calls)) place calls)
    ∙ ap (λ (l : List Call). length l) (ready_mapped (length calls) (take place calls))
    ∙ length-map (filter stands_ready (take place calls)) (shown_among (length calls))

pub shown_item : (calls : List Call) (i : ℕ) (x : Item) → i < length (filter stands_ready calls) → IsItemAt (filter stands_ready calls) i x
    → IsItemAt (filter stands_ready (shown calls)) i x
shown_item calls i x lt at d =
    ap (λ (l : List Call). (get_or l i d).item) (ready_mapped (length calls) calls)
    ∙ ap (λ (c : Call). c.item) (get_or-map (shown_among (length calls)) (filter stands_ready calls) i d d lt) ∙ at d

pub shown_next : (calls : List Call) (place : ℕ) (next : ReadyItem) → IsNextReady calls place next → IsNextReady (shown calls) place next
shown_next calls place next h =
    let before = shown_before calls place in
    let behind = shown_before calls next.behind in
    let all = shown_ready calls in
    let long = shown_length calls in
    let within = h.within in
    let counted = h.counted in
    let listed = h.listed in
    record {
      item = subst (λ (n : ℕ). IsItemAt (filter stands_ready (shown calls)) n next.item) (sym before)
          (shown_item calls (ready_before calls place) next.item h.within h.item);
      within = omega (arith, before, all, within);
      counted = omega (arith, before, behind, counted);
      further = h.further;
      listed = omega (arith, long, listed);
    }

pub shown_found : (calls : List Call) (place : ℕ) (found : Option ReadyItem) → IfSome found (IsNextReady calls place)
    → IfSome found (IsNextReady (shown calls) place)
shown_found calls place None h = h
shown_found calls place (Some next) h = shown_next calls place next h

-- a list that is shown so
module _ (raw calls : List Call) (is : shown raw ≡ calls) where
  pub listed_raw : (x : Item) → IsListed calls x → IsListed raw x
  listed_raw x h = (shown_listed raw x).0 (subst (λ (l : List Call). IsListed l x) (sym is) h)

  pub contains_raw : (call : Call) → Contains raw call → Contains calls (shown_among (length raw) call)
  contains_raw call h = subst (λ (l : List Call). Contains l (shown_among (length raw) call)) is (shown_contains raw call h)

  pub length_raw : length raw ≡ length calls
  length_raw = sym (shown_length raw) ∙ ap (λ (l : List Call). length l) is

  pub at_raw : (call on : Call) → IsTrue call.blocked → call.seen < length raw → get_or raw call.seen on ≡ on
      → get_or calls (shown_among (length raw) call).seen (shown_among (length raw) on) ≡ shown_among (length raw) on
  at_raw call on blocked lt at =
      let n = length raw in
      ap (λ (k : ℕ). get_or calls k (shown_among n on)) (seen_blocked call.blocked call.seen n blocked)
      ∙ ap (λ (l : List Call). get_or l call.seen (shown_among n on)) (sym is)
      ∙ shown_at raw call.seen (shown_among n on) lt
      ∙ ap (shown_among n) (get_or_default raw call.seen (shown_among n on) on lt ∙ at)

  pub all_raw : ((call : Call) → Contains raw call → IsTrue call.ran) ↔ ((call : Call) → Contains calls call → IsTrue call.ran)
  all_raw = (
    λ all call inside.
        (let at = subst (λ (l : List Call). Contains l call) (sym is) inside in
        let lt : at.0 < length raw = (let long = shown_length raw in omega (arith, long, at.1)) in
        subst (λ (c : Call). IsTrue c.ran) (sym (shown_at raw at.0 call lt) ∙ at.2) (all (get_or raw at.0 call) (Contains-get_or raw at.0 call lt))),
    λ all call inside. all (shown_among (length raw) call) (contains_raw call inside),
  )

  pub ready_raw : length (filter stands_ready raw) ≡ length (filter stands_ready calls)
  ready_raw = sym (shown_ready raw) ∙ ap (λ (l : List Call). length (filter stands_ready l)) is

  pub before_raw : (place : ℕ) → ready_before raw place ≡ ready_before calls place
  before_raw place = sym (shown_before raw place) ∙ ap (λ (l : List Call). ready_before l place) is

  pub item_raw : (i : ℕ) (x : Item) → i < length (filter stands_ready raw) → IsItemAt (filter stands_ready raw) i x → IsItemAt (filter stands_ready calls) i x
  item_raw i x lt at = subst (λ (l : List Call). IsItemAt (filter stands_ready l) i x) is (shown_item raw i x lt at)

  pub found_raw : (place : ℕ) (found : Option ReadyItem) → IfSome found (IsNextReady raw place) → IfSome found (IsNextReady calls place)
  found_raw place found h = subst (λ (l : List Call). IfSome found (IsNextReady l place)) is (shown_found raw place found h)

  pub none_raw : (place : ℕ) (found : Option ReadyItem) → IfNone found (ready_before raw place ≡ length (filter stands_ready raw))
      → IfNone found (ready_before calls place ≡ length (filter stands_ready calls))
  none_raw place None h = sym (before_raw place) ∙ h ∙ ready_raw
  none_raw place (Some next) h = h
