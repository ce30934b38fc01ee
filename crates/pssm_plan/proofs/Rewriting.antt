-- A list of calls that is gone through, each call in its place becoming another.
use Rattle.std.proofs.Common.{◌≡◌, ◌≢◌, ◌+◌, ◌<◌, ◌≤◌, ℕ, List, length, get_or, set, IsTrue, Bool, arith, sym, subst, ap, refl, ◌∙◌, ⊎_elim}
use Rattle.std.proofs.lemmas.List.{get_or-set_same, get_or-set_other, length-set, get_or_default}
use Rattle.pssm_model.specs.declared.elements.DraftMachine.{DraftMachine}
use Rattle.pssm_model.specs.declared.steps.Item.{Item}
use Rattle.pssm_plan.specs.declared.roster.Call.{Call}
use Rattle.pssm_plan.specs.inner.Marks.{IsListed, IsMarked, ArePairwise}
use Rattle.pssm_plan.specs.inner.Sequence.{IsRoster}
use Rattle.pssm_plan.proofs.Growing.{lower_or_same}

-- the calls below a number are rewritten, and the others are as they were
pub record IsRewritten (Is : Call → Call → Type 0) (old new : List Call) (i : ℕ) : Type 0 where
  pub same_length : length new ≡ length old
  pub done : (k : ℕ) (d : Call) → k < i → Is (get_or old k d) (get_or new k d)
  pub rest : (k : ℕ) (d : Call) → i ≤ k → get_or new k d ≡ get_or old k d

pub rewritten_none : (Is : Call → Call → Type 0) (old : List Call) → IsRewritten Is old old 0
rewritten_none Is old = record { same_length = refl; done = λ k d lt. absurd (omega arith); rest = λ k d le. refl }

module _ (Is : Call → Call → Type 0) (old now : List Call) (i : ℕ) (c e : Call) (h : IsRewritten Is old now i) (lt : i < length now) (is : Is (get_or now i e) c) where
  here_rewritten : (k : ℕ) (d : Call) → k ≡ i → Is (get_or old k d) (get_or (set now i c) k d)
  here_rewritten k d same =
      let first : get_or now i e ≡ get_or old i d = get_or_default now i e d lt ∙ h.rest i d (omega arith) in
      let second : get_or (set now i c) i d ≡ c = get_or-set_same now i c d lt in
      subst (λ (n : ℕ). Is (get_or old n d) (get_or (set now i c) n d)) (sym same)
      (subst (λ (b : Call). Is (get_or old i d) b) (sym second) (subst (λ (a : Call). Is a c) first is))

  pub rewritten_more : IsRewritten Is old (set now i c) (i + 1)
  rewritten_more = record {
    same_length = length-set now i c ∙ h.same_length;
    done = λ k d less. ⊎_elim
        (λ below. let other : k ≢ i = omega arith in
        subst (λ (b : Call). Is (get_or old k d) b) (sym (get_or-set_other now i k c d other)) (h.done k d below))
        (λ same. here_rewritten k d same)
        (lower_or_same k i less);
    rest = λ k d le. let other : k ≢ i = omega arith in get_or-set_other now i k c d other ∙ h.rest k d (omega arith);
  }

pub rewritten_all : (Is : Call → Call → Type 0) (old now : List Call) (i : ℕ) → IsRewritten Is old now i → length old ≤ i → ArePairwise Is old now
rewritten_all Is old now i h le = (h.same_length, λ k d lt. h.done k d (omega arith))

-- lists of the same items, of which the same have run
abbrev pub AreAlike : List Call → List Call → Type 0
AreAlike a b =
    (length b ≡ length a)
    × ((k : ℕ) (d : Call) → k < length a → ((get_or b k d).item ≡ (get_or a k d).item) × ((get_or b k d).ran ≡ (get_or a k d).ran))

pub alike_back : (a b : List Call) → AreAlike a b → AreAlike b a
alike_back a b h = (sym h.0, λ k d lt. let is = h.1 k d (omega (arith, h.0)) in (sym is.0, sym is.1))

pub marked_along : (a b : List Call) (x : Item) → AreAlike a b → IsMarked a x → IsMarked b x
marked_along a b x h marked =
    let k = marked.1.0 in
    let lt : k < length b = omega (arith, h.0, marked.1.1) in
    let at = get_or b k marked.0 in
    let is = h.1 k marked.0 marked.1.1 in (
      at,
      (k, lt, get_or_default b k at marked.0 lt),
      is.0 ∙ ap (λ (c : Call). c.item) marked.1.2 ∙ marked.2,
      subst (λ (v : Bool). IsTrue v) (sym (is.1 ∙ ap (λ (c : Call). c.ran) marked.1.2)) marked.3,
    )

pub listed_along : (a b : List Call) (x : Item) → length b ≡ length a → ((k : ℕ) (d : Call) → k < length a → (get_or b k d).item ≡ (get_or a k d).item)
    → IsListed a x → IsListed b x
listed_along a b x long same listed =
    let k = listed.1.0 in
    let lt : k < length b = omega (arith, long, listed.1.1) in
    let at = get_or b k listed.0 in
    (at, (k, lt, get_or_default b k at listed.0 lt), same k listed.0 listed.1.1 ∙ ap (λ (c : Call). c.item) listed.1.2 ∙ listed.2)

-- a roster of the same items in the same places
pub roster_along : (m : DraftMachine) (a b : List Call) → length b ≡ length a
    → ((k : ℕ) (d : Call) → k < length a → (get_or b k d).item ≡ (get_or a k d).item) → IsRoster m a → IsRoster m b
roster_along m a b long same r = record {
  items = λ x h. r.items x (back x h);
  once = λ i j d lt inside e.
      (let low : i < length a = omega (arith, long) in
      let high : j < length a = omega (arith, long) in
      r.once i j d lt high (sym (same i d low) ∙ e ∙ same j d high));
}
  where
    back : (x : Item) → IsListed b x → IsListed a x
    back x h = listed_along b a x (sym long) (λ k d lt. sym (same k d (omega (arith, long)))) h
