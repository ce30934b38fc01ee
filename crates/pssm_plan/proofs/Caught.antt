-- Spans in which those stand that wait for a call.
use Rattle.std.proofs.Common.{◌≡◌, ◌⊎◌, ◌<◌, ◌≤◌, ◌^◌, ℕ, List, [], Bool, length, get_or, Contains, IsTrue, arith, sym, ap, subst, ⊎_elim, ◌∙◌, length-append}
use Rattle.std.proofs.lemmas.Bool.{cases_lt}
use Rattle.std.proofs.lemmas.List.{get_or_default, get_or_append_left}
use Rattle.std.proofs.lemmas.List.Elements.{Contains-get_or}
use Rattle.pssm_model.specs.declared.elements.DraftMachine.{DraftMachine}
use Rattle.pssm_model.specs.declared.steps.Item.{Item}
use Rattle.pssm_plan.specs.declared.roster.Call.{Call}
use Rattle.pssm_plan.specs.declared.waiters.Span.{Span}
use Rattle.pssm_plan.specs.inner.Marks.{IsLonger, IsFresh, IsTold, ArePairwise}
use Rattle.pssm_plan.specs.inner.Sequence.{IsRoster}
use Rattle.pssm_plan.specs.inner.Passes.{IsCaught, AreCaught}

longer_at : {X : Type 0} (old new : List X) → IsLonger old new → (k : ℕ) (d : X) → k < length old → get_or new k d ≡ get_or old k d
longer_at {X} old new h k d lt = ap (λ (l : List X). get_or l k d) h.1 ∙ get_or_append_left old h.0 d k lt

pub longer_long : {X : Type 0} (old new : List X) → IsLonger old new → length old ≤ length new
longer_long {X} old new h = (let e = ap (λ (l : List X). length l) h.1 in omega (arith, e, length-append old h.0))

-- in more spans
caught_more : (spans more : List Span) (k : ℕ) (call : Call) → IsLonger spans more → IsCaught spans k call → IsCaught more k call
caught_more spans more k call longer h blocked =
    let at = h blocked in (
      (let long = longer_long spans more longer in omega (arith, long, at.0)),
      λ d. subst (λ (s : Span). (s.first ≤ k) × (k < s.end)) (sym (longer_at spans more longer call.seen d at.0)) (at.1 d),
    )

pub caught_room : (spans more : List Span) (old calls : List Call) → IsLonger spans more → calls ≡ old → AreCaught spans old → AreCaught more calls
caught_room spans more old calls longer same h = subst (λ (l : List Call). AreCaught more l) (sym same) (record {
  few = h.few;
  room = (let long = longer_long spans more longer in let room = h.room in omega (arith, long, room));
  caught = λ k d lt. caught_more spans more k (get_or old k d) longer (h.caught k d lt);
})

-- where calls are added that have not looked at the others yet
pub caught_grown : (m : DraftMachine) (spans more : List Span) (old grown : List Call) → AreCaught spans old → IsLonger spans more → IsLonger old grown
    → IsRoster m grown → ((call : Call) → Contains grown call → Contains old call ⊎ IsFresh call) → length grown < 2 ^ 32 → length grown ≤ length more
    → AreCaught more grown
caught_grown m spans more old grown h longer grows roster fresh few room = record { few = few; room = room; caught = caught_at }
  where
    new_free : (k : ℕ) (d : Call) → length old ≤ k → k < length grown → IsTrue (get_or grown k d).blocked → ⊥
    new_free k d le lt blocked =
        let call = get_or grown k d in
        ⊎_elim
        (λ was.
        (let low : was.0 < k = (let at = was.1 in omega (arith, at, le)) in
        let same = longer_at old grown grows was.0 call was.1 ∙ was.2 in
        let here : (get_or grown was.0 call).item ≡ (get_or grown k call).item
        = ap (λ (c : Call). c.item) same ∙ ap (λ (c : Call). c.item) (get_or_default grown k d call lt) in
        roster.once was.0 k call low lt here))
        (λ f. f.1 blocked)
        (fresh call (Contains-get_or grown k d lt))

    caught_at : (k : ℕ) (d : Call) → k < length grown → IsCaught more k (get_or grown k d)
    caught_at k d lt = ⊎_elim
        (λ low. subst (λ (c : Call). IsCaught more k c) (sym (longer_at old grown grows k d low)) (caught_more spans more k (get_or old k d) longer (h.caught k d low)))
        (λ high blocked. absurd (new_free k d high lt blocked))
        (cases_lt k (length old))

-- where one has run
pub caught_told : (spans : List Span) (item : Item) (old now : List Call) → ArePairwise (IsTold item) old now → AreCaught spans old → AreCaught spans now
caught_told spans item old now told h = record {
  few = (let long = told.0 in let few = h.few in omega (arith, long, few));
  room = (let long = told.0 in let room = h.room in omega (arith, long, room));
  caught = λ k d lt blocked.
      (let low : k < length old = (let long = told.0 in omega (arith, long, lt)) in
      let t = told.1 k d low in
      let at = h.caught k d low (subst (λ (v : Bool). IsTrue v) t.blocked blocked) in
      subst (λ (n : ℕ). (n < length spans) × ((e : Span) → ((get_or spans n e).first ≤ k) × (k < (get_or spans n e).end))) (sym t.seen) at);
}

-- where there is no call
pub caught_none : (spans : List Span) (calls : List Call) → calls ≡ [] → AreCaught spans calls
caught_none spans calls none = record {
  few = (let long = ap (λ (l : List Call). length l) none in omega (arith, long));
  room = (let long = ap (λ (l : List Call). length l) none in omega (arith, long));
  caught = λ k d lt. (let long = ap (λ (l : List Call). length l) none in absurd (omega (arith, long, lt)));
}
