-- Calls that are told, pass after pass, for which one they wait.
use Rattle.std.proofs.Common.{◌≡◌, ◌≢◌, ◌⊎◌, ◌+◌, ◌<◌, ◌≤◌, ℕ, List, Bool, length, get_or, IsTrue, arith, refl, sym, ap, subst, inl, inr, ⊎_elim, ◌∙◌}
use Rattle.std.proofs.lemmas.Bool.{cases_lt}
use Rattle.std.proofs.lemmas.List.{get_or_default, get_or-set_same, get_or-set_other, length-set}
use Rattle.pssm_model.specs.declared.elements.DraftMachine.{DraftMachine}
use Rattle.pssm_model.specs.declared.steps.Item.{Item}
use Rattle.pssm_plan.specs.declared.ways.Way.{Way}
use Rattle.pssm_plan.specs.declared.roster.Call.{Call}
use Rattle.pssm_plan.specs.declared.waiting.Since.{Since}
use Rattle.pssm_plan.specs.declared.waiting.Wait.{Wait}
use Rattle.pssm_plan.specs.Waiting.{HoldsUp, IsExact}
use Rattle.pssm_plan.specs.inner.Marks.{IsTold, IsPlaceOf, IsAlike, HasSeen, IsSettled, IsSettledSo, IsSettledAt, ArePairwise}
use Rattle.pssm_plan.specs.inner.Sequence.{IsSequence, IsNestedPair, IsOrderedBySome, IsNestedInNone, AreLooseUpTo, AreNewSince}
use Rattle.pssm_plan.specs.inner.Passes.{ArePassed, AreMet, IsSure, IsWaitingLeft, IsFreeLeft, AreSureBut, AreAllSure, NewLeft, WaitingLeft, FreeLeft, IsOrderedBehindNone, AreSureBefore, IsSureBefore, IsPut, told_wait}
use Rattle.pssm_plan.proofs.Rewriting.{AreAlike}
use Rattle.pssm_plan.proofs.Settling.{set_or_not, holds_along, seen_along, seen_told}

pub same_or_not : (k p : ℕ) → (k ≡ p) ⊎ (k ≢ p)
same_or_not k p =
    ⊎_elim
    (λ less. inr (λ e. omega (arith, less, e)))
    (λ le. ⊎_elim (λ more. inr (λ e. omega (arith, more, e))) (λ ge. inl (omega (arith, le, ge))) (cases_lt p k))
    (cases_lt k p)

pub pairs_alike : (a b : List Call) → ArePairwise IsAlike a b → AreAlike a b
pairs_alike a b h = (h.0, λ k d lt. let is = h.1 k d lt in (is.item_is, is.ran))

pub alike_pairs : (a b : List Call) → AreAlike a b → ArePairwise IsAlike a b
alike_pairs a b h = (h.0, λ k d lt. let is = h.1 k d lt in record { item_is = is.0; ran = is.1 })

pub pairs_same : (a : List Call) → ArePairwise IsAlike a a
pairs_same a = (refl, λ k d lt. record { item_is = refl; ran = refl })

pub pairs_further : (a b c : List Call) → ArePairwise IsAlike a b → ArePairwise IsAlike b c → ArePairwise IsAlike a c
pairs_further a b c h g = (
  g.0 ∙ h.0,
  λ k d lt.
      (let first = h.1 k d lt in
      let second = g.1 k d (let long = h.0 in omega (arith, long, lt)) in
      record { item_is = second.item_is ∙ first.item_is; ran = second.ran ∙ first.ran }),
)

module _ (Comes : Item → Item → Type 0) where
  -- over the same items, of which the same have run
  pub passed_along : (a b : List Call) (item : Item) (n : ℕ) → AreAlike a b → ArePassed Comes a item n → ArePassed Comes b item n
  passed_along a b item n h p k d lt inside up =
      let low : k < length a = (let long = h.0 in omega (arith, long, inside)) in
      let is = h.1 k d low in
      p k d lt low (holds_along Comes (get_or b k d) (get_or a k d) item item (sym is.0) (sym is.1) refl up)

  pub met_along : (a b : List Call) (item : Item) (place n : ℕ) → AreAlike a b → AreMet Comes a item place n → AreMet Comes b item place n
  met_along a b item place n h p k d met inside up =
      let low : k < length a = (let long = h.0 in omega (arith, long, inside)) in
      let is = h.1 k d low in
      p k d met low (holds_along Comes (get_or b k d) (get_or a k d) item item (sym is.0) (sym is.1) refl up)

  pub sure_along : (a b : List Call) (place : ℕ) (call : Call) → AreAlike a b → IsSure Comes a place call → IsSure Comes b place call
  sure_along a b place call h s = record {
    passed = λ blocked. met_along a b call.item place call.seen h (s.passed blocked);
    waits = λ blocked.
        (let was = s.waits blocked in (
          (let long = h.0 in omega (arith, long, was.0)),
          λ d. (let is = h.1 call.seen d was.0 in holds_along Comes (get_or a call.seen d) (get_or b call.seen d) call.item call.item is.0 is.1 refl (was.1 d)),
        ));
    clear = λ free k d lt inside.
        passed_along a b call.item (length a) h (s.clear free) k d (let long = h.0 in omega (arith, long, lt)) inside;
  }

  pub sure_exactly : (calls : List Call) (place : ℕ) (call : Call) → place < length calls → IsExact Comes calls place call → IsSure Comes calls place call
  sure_exactly calls place call there h = record {
    passed = λ blocked. h.passed;
    waits = h.waits;
    clear = λ free k d lt inside. h.passed k d (let all = h.through free in inr (omega (arith, all, there), omega (arith, all, inside))) inside;
  }

  -- a blocked call that is sure has seen so much
  pub sure_seen : (calls : List Call) (place : ℕ) (call : Call) → IsTrue call.blocked → IsSure Comes calls place call → HasSeen Comes calls place call
  sure_seen calls place call blocked s = record {
    within = (let low = (s.waits blocked).0 in omega (arith, low));
    passed = s.passed blocked;
    there = λ again d lt. ((s.waits blocked).1 d).0;
  }

  pub waiting_along : (first ran k : ℕ) (a b : List Call) (call : Call) → AreAlike a b → IsWaitingLeft Comes first ran k a call
      → IsWaitingLeft Comes first ran k b call
  waiting_along first ran k a b call h w = record { old = w.old; blocked = w.blocked; on = w.on; seen = seen_along Comes a b k call h w.seen }

  pub free_along : (first k : ℕ) (a b : List Call) (call : Call) → AreAlike a b → IsFreeLeft Comes first k a call → IsFreeLeft Comes first k b call
  free_along first k a b call h f = record { old = f.old; free = f.free; passed = passed_along a b call.item first h f.passed }

  -- a call that is put at a place
  module _ (now new : List Call) (p : ℕ) (s : IsSettledAt Comes now p new) (lt : p < length now) where
    pub put_other : (k : ℕ) (d : Call) → k ≢ p → get_or new k d ≡ get_or now k d
    put_other k d other = ap (λ (l : List Call). get_or l k d) s.put ∙ get_or-set_other now p k s.call d other

    put_here : (d : Call) → get_or new p d ≡ s.call
    put_here d = ap (λ (l : List Call). get_or l p d) s.put ∙ get_or-set_same now p s.call d lt

    pub put_alike : AreAlike now new
    put_alike = (
      ap (λ (l : List Call). length l) s.put ∙ length-set now p s.call,
      λ k d inside. ⊎_elim
          (λ here.
          (let is = s.settled d in
          let at = put_here d in
          subst (λ (n : ℕ). ((get_or new n d).item ≡ (get_or now n d).item) × ((get_or new n d).ran ≡ (get_or now n d).ran)) (sym here)
          (ap (λ (c : Call). c.item) at ∙ is.item_is, ap (λ (c : Call). c.ran) at ∙ is.ran)))
          (λ other. (let at = put_other k d other in (ap (λ (c : Call). c.item) at, ap (λ (c : Call). c.ran) at)))
          (same_or_not k p),
    )

    -- of those that are left it is one no more
    pub put_sure : (Left More : ℕ → List Call → Call → Type 0) → AreSureBut Left Comes now
        → ((k : ℕ) (c : Call) → k ≢ p → Left k now c → More k new c) → AreSureBut More Comes new
    put_sure Left More left on k d inside =
        let low : k < length now = (let long = put_alike.0 in omega (arith, long, inside)) in
        ⊎_elim
        (λ here. inl (subst (λ (n : ℕ). IsSure Comes new n (get_or new n d)) (sym here)
        (subst (λ (c : Call). IsSure Comes new p c) (sym (put_here d))
        (sure_along now new p s.call put_alike (sure_exactly now p s.call lt (s.settled d).exact)))))
        (λ other.
        (let at = put_other k d other in
        ⊎_elim
        (λ sure. inl (subst (λ (c : Call). IsSure Comes new k c) (sym at) (sure_along now new k (get_or now k d) put_alike sure)))
        (λ was. inr (subst (λ (c : Call). More k new c) (sym at) (on k (get_or now k d) other was)))
        (left k d low)))
        (same_or_not k p)

  -- what is left is seen to be sure, or stays
  pub left_less : (Left More : ℕ → List Call → Call → Type 0) (now : List Call) → AreSureBut Left Comes now
      → ((k : ℕ) (d : Call) → k < length now → Left k now (get_or now k d) → IsSure Comes now k (get_or now k d) ⊎ More k now (get_or now k d))
      → AreSureBut More Comes now
  left_less Left More now left on k d lt = ⊎_elim (λ sure. inl sure) (λ was. on k d lt was) (left k d lt)

  -- over the same items, of which the same have run, what is left is left
  pub waiting_more : (first ran p end : ℕ) (now new : List Call) → AreAlike now new → (k : ℕ) (c : Call) → k ≢ p
      → WaitingLeft Comes first ran p end k now c → WaitingLeft Comes first ran (p + 1) end k new c
  waiting_more first ran p end now new alike k c other h =
      ⊎_elim
      (λ new. inl new)
      (λ w. inr (omega (arith, other, w.0), w.1, waiting_along first ran k now new c alike w.2))
      h

  pub free_more : (first ran p : ℕ) (now new : List Call) → AreAlike now new → (k : ℕ) (c : Call) → k ≢ p
      → FreeLeft Comes first ran p k now c → FreeLeft Comes first ran (p + 1) k new c
  free_more first ran p now new alike k c other h =
      ⊎_elim
      (λ new. inl new)
      (λ old. inr (⊎_elim
      (λ w. inl (waiting_along first ran k now new c alike w))
      (λ f. inr (omega (arith, other, f.0), free_along first k now new c alike f.1))
      old))
      h

  -- an old call that is not blocked: none of those before the new ones holds it up
  pub free_passed : (first ran p k : ℕ) (now : List Call) (d : Call) → AreSureBut (FreeLeft Comes first ran p) Comes now → k < first → k < length now
      → (IsTrue (get_or now k d).blocked → ⊥) → first ≤ length now → ArePassed Comes now (get_or now k d).item first
  free_passed first ran p k now d left old lt free within =
      ⊎_elim
      (λ sure j e low inside. sure.clear free j e inside inside)
      (λ is. ⊎_elim
      (λ new. absurd (omega (arith, new, old)))
      (λ was. ⊎_elim
      (λ w. absurd (free w.blocked))
      (λ f. f.1.passed)
      was)
      is)
      (left k d lt)

  -- an old call that may be left waiting has seen what it says, where it is blocked
  pub waiting_seen : (first ran p end k : ℕ) (now : List Call) (d : Call) → AreSureBut (WaitingLeft Comes first ran p end) Comes now → k < first
      → k < length now → IsTrue (get_or now k d).blocked → HasSeen Comes now k (get_or now k d)
  waiting_seen first ran p end k now d left old lt blocked =
      ⊎_elim
      (λ sure. sure_seen now k (get_or now k d) blocked sure)
      (λ is. ⊎_elim
      (λ new. absurd (omega (arith, new, old)))
      (λ w. w.2.seen)
      is)
      (left k d lt)

  -- one that did not wait for the one that has run
  pub waiting_not : (first ran p end : ℕ) (now : List Call) (e : Call) → ((IsTrue (get_or now p e).blocked × ((get_or now p e).seen ≡ ran)) → ⊥)
      → AreSureBut (WaitingLeft Comes first ran p end) Comes now → AreSureBut (WaitingLeft Comes first ran (p + 1) end) Comes now
  waiting_not first ran p end now e not left =
      left_less (WaitingLeft Comes first ran p end) (WaitingLeft Comes first ran (p + 1) end) now left
      (λ k d lt h. ⊎_elim
      (λ new. inr (inl new))
      (λ w. ⊎_elim
      (λ here.
      (let is : get_or now p e ≡ get_or now k d = ap (λ (n : ℕ). get_or now n e) (sym here) ∙ get_or_default now k e d lt in
      let blocked : IsTrue (get_or now p e).blocked = subst (λ (c : Call). IsTrue c.blocked) (sym is) w.2.blocked in
      absurd (not (blocked, ap (λ (c : Call). c.seen) is ∙ w.2.on))))
      (λ other. inr (inr (omega (arith, other, w.0), w.1, w.2)))
      (same_or_not k p))
      h)

  -- none is left before the end
  pub waiting_none : (first ran p end : ℕ) (now : List Call) → end ≤ p → AreSureBut (WaitingLeft Comes first ran p end) Comes now
      → AreSureBut (NewLeft first) Comes now
  waiting_none first ran p end now le left =
      left_less (WaitingLeft Comes first ran p end) (NewLeft first) now left
      (λ k d lt h. ⊎_elim (λ new. inr new) (λ w. absurd (omega (arith, le, w.0, w.1))) h)

  pub free_none : (first ran p : ℕ) (now : List Call) → first ≤ p → AreSureBut (FreeLeft Comes first ran p) Comes now
      → AreSureBut (WaitingLeft Comes first ran 0 first) Comes now
  free_none first ran p now le left =
      left_less (FreeLeft Comes first ran p) (WaitingLeft Comes first ran 0 first) now left
      (λ k d lt h. ⊎_elim
      (λ new. inr (inl new))
      (λ was. ⊎_elim
      (λ w. inr (inr (omega arith, w.old, w)))
      (λ f. (let old = f.1.old in absurd (omega (arith, le, f.0, old))))
      was)
      h)

  pub new_none : (p : ℕ) (now : List Call) → length now ≤ p → AreSureBut (NewLeft p) Comes now → AreAllSure Comes now
  new_none p now le left k d lt = ⊎_elim (λ sure. sure) (λ new. absurd (let from : p ≤ k = new in omega (arith, le, from, lt))) (left k d lt)

  pub new_more : (p : ℕ) (now new : List Call) (k : ℕ) (c : Call) → k ≢ p → NewLeft p k now c → NewLeft (p + 1) k new c
  new_more p now new k c other le = let from : p ≤ k = le in omega (arith, from, other)

  -- those that waited for the one that has run stand in its span
  pub waiting_within : (first ran from end : ℕ) (now : List Call)
      → ((k : ℕ) (d : Call) → k < length now → k < first → IsTrue (get_or now k d).blocked → (get_or now k d).seen ≡ ran → (from ≤ k) × (k < end))
      → AreSureBut (WaitingLeft Comes first ran 0 first) Comes now → AreSureBut (WaitingLeft Comes first ran from end) Comes now
  waiting_within first ran from end now caught left =
      left_less (WaitingLeft Comes first ran 0 first) (WaitingLeft Comes first ran from end) now left
      (λ k d lt h. ⊎_elim
      (λ new. inr (inl new))
      (λ w. (let at = caught k d lt w.2.old w.2.blocked w.2.on in inr (inr (at.0, at.1, w.2))))
      h)

  -- once an item has run, of what each call waits for is sure, but for those that waited for it
  pub told_left : (first ran : ℕ) (item : Item) (grown now : List Call) → ArePairwise (IsTold item) grown now → IsPlaceOf grown item ran
      → AreSureBefore Comes first grown → AreSureBut (FreeLeft Comes first ran 0) Comes now
  told_left first ran item grown now told place before k d lt =
      let low : k < length grown = (let long = told.0 in omega (arith, long, lt)) in
      let g = get_or grown k d in
      let a = get_or now k d in
      let t = told.1 k d low in
      ⊎_elim
      (λ old.
      (let b = before k d old low in
      ⊎_elim
      (λ blocked.
      (let was = subst (λ (v : Bool). IsTrue v) t.blocked blocked in
      let seen = seen_told Comes grown now item k g a told t (b.seen was) in
      ⊎_elim
      (λ on. inr (inr (inl (record { old = old; blocked = blocked; on = on; seen = seen }))))
      (λ other. inl (record {
        passed = λ again. seen.passed;
        waits = λ again. held_on b was blocked seen t other;
        clear = λ free. absurd (free blocked);
      }))
      (same_or_not a.seen ran)))
      (λ free.
      (let was : IsTrue g.blocked → ⊥ = (λ blocked. free (subst (λ (v : Bool). IsTrue v) (sym t.blocked) blocked)) in
      inr (inr (inr (
        omega arith,
        record {
          old = old;
          free = free;
          passed = λ j e less inside up. passed_told (b.free was) t j e less inside up;
        },
      )))))
      (set_or_not a.blocked)))
      (λ new. inr (inl new))
      (cases_lt k first)
    where
      held_on : (b : IsSureBefore Comes first grown k (get_or grown k d)) → (was : IsTrue (get_or grown k d).blocked)
          → IsTrue (get_or now k d).blocked → HasSeen Comes now k (get_or now k d) → IsTold item (get_or grown k d) (get_or now k d)
          → (get_or now k d).seen ≢ ran
          → ((get_or now k d).seen < length now) × ((e : Call) → HoldsUp Comes (get_or now (get_or now k d).seen e) (get_or now k d).item)
      held_on b was blocked seen t other =
          let held = b.held was in
          let at = t.seen in
          let long = told.0 in
          let inside : (get_or now k d).seen < length now = (let low = held.inside in omega (arith, at, long, low)) in (
            inside,
            λ e. (
              seen.there blocked e inside,
              λ ran_now.
                  (let place_low : (get_or now k d).seen < length grown = omega (arith, long, inside) in
                  let s = told.1 (get_or now k d).seen e place_low in
                  ⊎_elim
                  (λ had. held.waiting e (subst (λ (n : ℕ). IsTrue (get_or grown n e).ran) at had))
                  (λ is. other (place (get_or now k d).seen e place_low is))
                  (s.ran.0 ran_now)),
            ),
          )

      passed_told : ArePassed Comes grown (get_or grown k d).item first → IsTold item (get_or grown k d) (get_or now k d)
          → ArePassed Comes now (get_or now k d).item first
      passed_told p t j e less inside up =
          let low : j < length grown = (let long = told.0 in omega (arith, long, inside)) in
          let s = told.1 j e low in
          p j e less low (
            subst (λ (i : Item). Comes i (get_or grown k d).item) s.item_is (subst (λ (i : Item). Comes (get_or now j e).item i) t.item_is up.0),
            λ had. up.1 (s.ran.1 (inl had)),
          )

  -- where none has run
  pub before_left : (first ran : ℕ) (now : List Call) → length now ≤ ran → AreSureBefore Comes first now → AreSureBut (FreeLeft Comes first ran 0) Comes now
  before_left first ran now le before k d lt =
      ⊎_elim
      (λ old.
      (let b = before k d old lt in
      ⊎_elim
      (λ blocked. inl (record {
        passed = λ again. (b.seen blocked).passed;
        waits = λ again. ((b.held blocked).inside, λ e. ((b.seen blocked).there blocked e (b.held blocked).inside, (b.held blocked).waiting e));
        clear = λ free. absurd (free blocked);
      }))
      (λ free. inr (inr (inr (omega arith, record { old = old; free = free; passed = b.free free }))))
      (set_or_not (get_or now k d).blocked)))
      (λ new. inr (inl new))
      (cases_lt k first)

-- an old call that is not blocked waits for none of the new ones, where none of them comes before it by where their States lie
pub free_rests : (m : DraftMachine) (ways : List Way) (now : List Call) (since : Since) (k : ℕ) (d : Call) → AreNewSince m ways now since → k < length now
    → IsFreeLeft (IsSequence m ways) since.calls k now (get_or now k d)
    → ((j : ℕ) (e : Call) → since.calls ≤ j → j < length now → IsNestedPair m (get_or now j e).item (get_or now k d).item → ⊥)
    → IsSure (IsSequence m ways) now k (get_or now k d)
free_rests m ways now since k d new lt f none = record {
  passed = λ blocked. absurd (f.free blocked);
  waits = λ blocked. absurd (f.free blocked);
  clear = λ free j e low inside up. ⊎_elim
      (λ before. f.passed j e before inside up)
      (λ behind. ⊎_elim
      (λ nested. none j e behind inside nested)
      (λ ordered. new.apart k j e f.old behind inside
      (inl (subst (λ (c : Call). IsOrderedBySome m ways (get_or now j e).item c.item) (get_or_default now k d e lt) ordered)))
      up.0)
      (cases_lt j since.calls);
}

-- no way orders one of the new calls before an old one
pub behind_none : (m : DraftMachine) (ways : List Way) (calls : List Call) (since : Since) (p : ℕ) (e : Call) → AreNewSince m ways calls since
    → p < since.calls → p < length calls → IsOrderedBehindNone m ways calls (get_or calls p e).item since.calls
behind_none m ways calls since p e new old lt k d le inside ordered =
    new.apart p k d old le inside
    (inl (subst (λ (c : Call). IsOrderedBySome m ways (get_or calls k d).item c.item) (get_or_default calls p e d lt) ordered))

-- an old call that is blocked, or before which none may come by where their States lie, is not left among those that wait for none
pub free_not : (m : DraftMachine) (ways : List Way) (now : List Call) (since : Since) (ran p : ℕ) (e : Call) → AreNewSince m ways now since
    → ((IsTrue (get_or now p e).blocked → ⊥) → IsNestedInNone m (get_or now p e).item)
    → AreSureBut (FreeLeft (IsSequence m ways) since.calls ran p) (IsSequence m ways) now
    → AreSureBut (FreeLeft (IsSequence m ways) since.calls ran (p + 1)) (IsSequence m ways) now
free_not m ways now since ran p e new none left =
    left_less (IsSequence m ways) (FreeLeft (IsSequence m ways) since.calls ran p) (FreeLeft (IsSequence m ways) since.calls ran (p + 1)) now left
    (λ k d lt h. ⊎_elim
    (λ is. inr (inl is))
    (λ was. ⊎_elim
    (λ w. inr (inr (inl w)))
    (λ f. ⊎_elim
    (λ here.
    (let is : get_or now p e ≡ get_or now k d = ap (λ (n : ℕ). get_or now n e) (sym here) ∙ get_or_default now k e d lt in
    let in_none : IsNestedInNone m (get_or now k d).item =
    subst (λ (c : Call). IsNestedInNone m c.item) is (none (λ blocked. f.1.free (subst (λ (c : Call). IsTrue c.blocked) is blocked))) in
    inl (free_rests m ways now since k d new lt f.1 (λ j y le low nested. in_none (get_or now j y).item nested))))
    (λ other. inr (inr (inr (omega (arith, other, f.0), f.1))))
    (same_or_not k p))
    was)
    h)

-- where no new call may come before others by where their States lie, none is left of those that wait for none
pub free_loose : (m : DraftMachine) (ways : List Way) (now : List Call) (since : Since) (ran nests : ℕ) → AreNewSince m ways now since
    → AreLooseUpTo m now since.calls nests → length now ≤ nests
    → AreSureBut (FreeLeft (IsSequence m ways) since.calls ran 0) (IsSequence m ways) now
    → AreSureBut (WaitingLeft (IsSequence m ways) since.calls ran 0 since.calls) (IsSequence m ways) now
free_loose m ways now since ran nests new loose all left =
    left_less (IsSequence m ways) (FreeLeft (IsSequence m ways) since.calls ran 0) (WaitingLeft (IsSequence m ways) since.calls ran 0 since.calls) now left
    (λ k d lt h. ⊎_elim
    (λ is. inr (inl is))
    (λ was. ⊎_elim
    (λ w. inr (inr (omega arith, w.old, w)))
    (λ f. inl (free_rests m ways now since k d new lt f.1
    (λ j e le low nested. loose j e (get_or now k d).item le (omega (arith, all, low)) low nested)))
    was)
    h)

-- the list with a call at the place that waits so
pub settled_put : (Comes : Item → Item → Type 0) (now new : List Call) (p : ℕ) (wait : Wait) (e : Call) → p < length now → IsPut now p wait new
    → IsSettledSo Comes now p (get_or now p e) wait → IsSettledAt Comes now p new
settled_put Comes now new p wait e lt is settled = record {
  call = told_wait (get_or now p e) wait;
  put = is e;
  settled = λ d. subst (λ (x : Call). IsSettled Comes now p x (told_wait (get_or now p e) wait)) (get_or_default now p e d lt) settled;
}
