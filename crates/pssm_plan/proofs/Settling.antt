-- Calls that look on, each until it comes to one that holds it up.
use Rattle.std.proofs.Common.{◌≡◌, ◌⊎◌, ◌↔◌, ◌<◌, ℕ, List, Bool, true, false, length, get_or, IsTrue, arith, refl, sym, subst, inl, inr, ⊎_elim, ◌∙◌}
use Rattle.std.proofs.lemmas.Bool.{false≢true}
use Rattle.pssm_model.specs.declared.steps.Item.{Item}
use Rattle.pssm_plan.specs.declared.roster.Call.{Call}
use Rattle.pssm_plan.specs.Waiting.{HoldsUp, IsMetBefore, IsExact}
use Rattle.pssm_plan.specs.inner.Marks.{IsTold, IsFreshAt, HasSeen, ArePairwise}
use Rattle.pssm_plan.proofs.Rewriting.{AreAlike}

-- a mark is set or it is not
pub set_or_not : (b : Bool) → IsTrue b ⊎ (IsTrue b → ⊥)
set_or_not true = inl refl
set_or_not false = inr (λ t. false≢true t)

module _ (Comes : Item → Item → Type 0) where
  -- what holds up an item in a list of the same items, of which the same have run
  pub holds_along : (a b : Call) (x y : Item) → b.item ≡ a.item → b.ran ≡ a.ran → y ≡ x → HoldsUp Comes a x → HoldsUp Comes b y
  holds_along a b x y item ran same h = (
    subst (λ (i : Item). Comes i y) (sym item) (subst (λ (i : Item). Comes a.item i) (sym same) h.0),
    λ t. h.1 (subst (λ (v : Bool). IsTrue v) ran t),
  )

  -- a call that has not looked yet
  pub seen_fresh : (calls : List Call) (place : ℕ) (call : Call) → place < length calls → IsFreshAt place call → HasSeen Comes calls place call
  seen_fresh calls place call there h = record {
    within = (let own = h.0 in omega (arith, own, there));
    passed = λ k d met inside up. (let own = h.0 in ⊎_elim
        (λ back. absurd (omega (arith, own, back.0, back.1)))
        (λ on. absurd (omega (arith, own, on.0)))
        met);
    there = λ blocked. absurd (h.1 blocked);
  }

  -- nor does one that has run now hold it up
  pub seen_told : (grown now : List Call) (item : Item) (place : ℕ) (g a : Call) → ArePairwise (IsTold item) grown now → IsTold item g a
      → HasSeen Comes grown place g → HasSeen Comes now place a
  seen_told grown now item place g a told t h = record {
    within = omega (arith, told.0, t.seen, h.within);
    passed = λ k d met inside up.
        (let low : k < length grown = omega (arith, told.0) in
        let before = subst (λ (n : ℕ). IsMetBefore place n k) t.seen met in
        let s = told.1 k d low in
        h.passed k d before low (
          subst (λ (i : Item). Comes i g.item) s.item_is (subst (λ (i : Item). Comes (get_or now k d).item i) t.item_is up.0),
          λ ran. up.1 (s.ran.1 (inl ran)),
        ));
    there = λ blocked d inside.
        (let low : g.seen < length grown = omega (arith, told.0, t.seen) in
        let was = h.there (subst (λ (v : Bool). IsTrue v) t.blocked blocked) d low in
        let s = told.1 g.seen d low in
        let here = subst (λ (i : Item). Comes (get_or now g.seen d).item i) (sym t.item_is) (subst (λ (i : Item). Comes i g.item) (sym s.item_is) was) in
        subst (λ (n : ℕ). Comes (get_or now n d).item a.item) (sym t.seen) here);
  }

  -- the same in a list of the same items, of which the same have run
  pub seen_along : (a b : List Call) (place : ℕ) (call : Call) → AreAlike a b → HasSeen Comes a place call → HasSeen Comes b place call
  seen_along a b place call h s = record {
    within = omega (arith, h.0, s.within);
    passed = λ k d lt inside up.
        (let low : k < length a = omega (arith, h.0) in
        let is = h.1 k d low in
        s.passed k d lt low (holds_along (get_or b k d) (get_or a k d) call.item call.item (sym is.0) (sym is.1) refl up));
    there = λ blocked d inside.
        (let low : call.seen < length a = omega (arith, h.0) in
        subst (λ (i : Item). Comes i call.item) (sym (h.1 call.seen d low).0) (s.there blocked d low));
  }

  pub exact_along : (a b : List Call) (place : ℕ) (call : Call) → AreAlike a b → IsExact Comes a place call → IsExact Comes b place call
  exact_along a b place call h s = record {
    passed = λ k d lt inside up.
        (let low : k < length a = omega (arith, h.0) in
        let is = h.1 k d low in
        s.passed k d lt low (holds_along (get_or b k d) (get_or a k d) call.item call.item (sym is.0) (sym is.1) refl up));
    waits = λ blocked.
        (let was = s.waits blocked in (
          omega (arith, h.0, was.0),
          λ d. (let is = h.1 call.seen d was.0 in holds_along (get_or a call.seen d) (get_or b call.seen d) call.item call.item is.0 is.1 refl (was.1 d)),
        ));
    through = λ free. s.through free ∙ sym h.0;
  }

  -- what is exact in one order is so in another in which the same listed items come before
  pub exact_same : (Other : Item → Item → Type 0) (calls : List Call) (place : ℕ) (call : Call)
      → ((k : ℕ) (d : Call) → k < length calls → Comes (get_or calls k d).item call.item ↔ Other (get_or calls k d).item call.item)
      → IsExact Comes calls place call → IsExact Other calls place call
  exact_same Other calls place call same h = record {
    passed = λ k d lt inside up. h.passed k d lt inside ((same k d inside).1 up.0, up.1);
    waits = λ blocked.
        (let was = h.waits blocked in
        (was.0, λ d. ((same call.seen d was.0).0 (was.1 d).0, (was.1 d).1)));
    through = h.through;
  }
