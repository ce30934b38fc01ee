-- A roster that gains items.
use Rattle.std.proofs.Common.{◌≡◌, ◌≢◌, ◌⊎◌, ◌↔◌, List, [], ◌∷◌, ◌++◌, get_or, Contains, AllPairs, IsTrue, false, sym, subst, ap, refl, ◌∙◌, inl, inr, ⊎_elim, Result, Ok, Err, OnOk, OnErr}
use Rattle.std.proofs.lemmas.List.Elements.{Contains-push, Contains-push_cases, Contains-append_left, Contains-get_or}
use Rattle.std.proofs.lemmas.List.Quantifiers.{all_pairs_push}
use Rattle.std.proofs.lemmas.Bool.{false≢true}
use Rattle.pssm_model.specs.declared.elements.DraftMachine.{DraftMachine}
use Rattle.pssm_model.specs.declared.steps.Item.{Item}
use Rattle.pssm_plan.specs.declared.roster.Call.{Call}
use Rattle.pssm_plan.specs.inner.Marks.{IsListed, IsMarked, IsLonger, IsFresh}
use Rattle.pssm_plan.specs.inner.Places.{IsAdded}
use Rattle.pssm_legs.specs.Calls.{IsItemIn}
use Rattle.pssm_plan.specs.inner.Sequence.{IsRoster, IsExtended}
use Rattle.pssm_plan.proofs.Growing.{longer_same}

-- a call that has not run
abbrev pub fresh_call : Item → Call
fresh_call item = record { item = item; ran = false; blocked = false; seen = 0 }

module _ (old : List Call) (item : Item) where
  pub listed_push : (x : Item) → IsListed (old ++ fresh_call item ∷ []) x ↔ (IsListed old x ⊎ (x ≡ item))
  listed_push x = (
    λ h. ⊎_elim
        (λ was. inl (h.0, was, h.2))
        (λ now. inr (sym h.2 ∙ sym (ap (λ (c : Call). c.item) now)))
        (Contains-push_cases old (fresh_call item) h.0 h.1),
    λ h. ⊎_elim
        (λ was. (was.0, Contains-append_left old (fresh_call item ∷ []) was.0 was.1, was.2))
        (λ now. (fresh_call item, Contains-push old (fresh_call item), sym now))
        h,
  )

  pub fresh_push : (call : Call) → Contains (old ++ fresh_call item ∷ []) call → Contains old call ⊎ IsFresh call
  fresh_push call h =
      ⊎_elim
      (λ was. inl was)
      (λ now. inr (subst IsFresh now (refl, λ t. false≢true t)))
      (Contains-push_cases old (fresh_call item) call h)

  pub marked_push : (x : Item) → IsMarked (old ++ fresh_call item ∷ []) x ↔ IsMarked old x
  marked_push x = (
    λ h. ⊎_elim
        (λ was. (h.0, was, h.2, h.3))
        (λ now. absurd (let e : IsTrue false = subst (λ (c : Call). IsTrue c.ran) (sym now) h.3 in cc))
        (Contains-push_cases old (fresh_call item) h.0 h.1),
    λ was. (was.0, Contains-append_left old (fresh_call item ∷ []) was.0 was.1, was.2, was.3),
  )

module _ (m : DraftMachine) (old : List Call) (item : Item) where
  pub roster_push : IsRoster m old → IsItemIn m item → (IsListed old item → ⊥) → IsRoster m (old ++ fresh_call item ∷ [])
  roster_push r there fresh = record { items = items; once = once }
    where
      items : (x : Item) → IsListed (old ++ fresh_call item ∷ []) x → IsItemIn m x
      items x h = ⊎_elim (λ was. r.items x was) (λ now. subst (IsItemIn m) (sym now) there) ((listed_push old item x).0 h)

      once : AllPairs (λ (a b : Call). a.item ≢ b.item) (old ++ fresh_call item ∷ [])
      once = all_pairs_push (λ (a b : Call). a.item ≢ b.item) old (fresh_call item) r.once
          (λ k d lt e. fresh (get_or old k d, Contains-get_or old k d lt, e))

  pub extended_push : IsRoster m old → IsItemIn m item → (IsListed old item → ⊥)
      → IsExtended m old (λ x. x ≡ item) (old ++ fresh_call item ∷ [])
  extended_push r there fresh = record {
    roster = roster_push r there fresh;
    listed = listed_push old item;
    marked = marked_push old item;
    fresh = fresh_push old item;
  }

-- what is added may be said in other words
pub extended_same : (m : DraftMachine) (old new : List Call) (P Q : Item → Type 0) → ((x : Item) → P x ↔ Q x)
    → IsExtended m old P new → IsExtended m old Q new
extended_same m old new P Q same h = record {
  roster = h.roster;
  listed = λ x. (
    λ l. ⊎_elim (λ was. inl was) (λ p. inr ((same x).0 p)) ((h.listed x).0 l),
    λ l. (h.listed x).1 (⊎_elim (λ was. inl was) (λ q. inr ((same x).1 q)) l),
  );
  marked = h.marked;
  fresh = h.fresh;
}

-- nothing is added
pub extended_none : (m : DraftMachine) (calls : List Call) (P : Item → Type 0) → ((x : Item) → P x → IsListed calls x)
    → IsRoster m calls → IsExtended m calls P calls
extended_none m calls P none r = record {
  roster = r;
  listed = λ x. (λ h. inl h, λ h. ⊎_elim (λ was. was) (λ p. none x p) h);
  marked = λ x. (λ h. h, λ h. h);
  fresh = λ call is. inl is;
}

-- something, and then more
pub extended_further : (m : DraftMachine) (a b c : List Call) (P Q : Item → Type 0)
    → IsExtended m a P b → IsExtended m b Q c → IsExtended m a (λ x. P x ⊎ Q x) c
extended_further m a b c P Q h g = record {
  roster = g.roster;
  listed = λ x. (
    λ l. ⊎_elim
        (λ mid. ⊎_elim (λ was. inl was) (λ new. inr (inl new)) ((h.listed x).0 mid))
        (λ new. inr (inr new))
        ((g.listed x).0 l),
    λ l. ⊎_elim
        (λ was. (g.listed x).1 (inl ((h.listed x).1 (inl was))))
        (λ new. ⊎_elim (λ first. (g.listed x).1 (inl ((h.listed x).1 (inr first)))) (λ second. (g.listed x).1 (inr second)) new)
        l,
  );
  marked = λ x. (λ l. (h.marked x).0 ((g.marked x).0 l), λ l. (g.marked x).1 ((h.marked x).1 l));
  fresh = λ call is. ⊎_elim (λ was. h.fresh call was) (λ new. inr new) (g.fresh call is);
}

kept_longer : (old new : List Call) → new ≡ old → IsLonger old new
kept_longer old new same = subst (λ (l : List Call). IsLonger old l) (sym same) (longer_same old)

-- a call that is added where its item is not listed: the list is longer, or as it was
pub added_longer : (old new : List Call) (call : Call) → IsAdded old call new → IsLonger old new
added_longer old new call h = ⊎_elim (λ was. kept_longer old new was.1) (λ more. (call ∷ [], more.1)) h

pub added_or_refused : {E : Type 0} (r : Result Unit E) (old new : List Call) (call : Call) → OnOk r (IsAdded old call new) → OnErr r (new ≡ old)
    → IsLonger old new
added_or_refused (Ok x) old new call added refused = added_longer old new call added
added_or_refused (Err e) old new call added refused = kept_longer old new refused

-- and it is that of a roster with the item
pub extended_added : (m : DraftMachine) (old new : List Call) (item : Item) → IsRoster m old → IsItemIn m item → IsAdded old (fresh_call item) new
    → IsExtended m old (λ x. x ≡ item) new
extended_added m old new item r there h =
    ⊎_elim
    (λ was. subst (IsExtended m old (λ x. x ≡ item)) (sym was.1)
    (extended_none m old (λ x. x ≡ item) (λ x e. subst (IsListed old) (sym e) was.0) r))
    (λ more. subst (IsExtended m old (λ x. x ≡ item)) (sym more.1) (extended_push m old item r there more.0))
    h
