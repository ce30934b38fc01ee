-- The ways that fire, settled one after another.
use Rattle.std.proofs.Common.{◌≡◌, ◌⊎◌, ◌+◌, ◌<◌, ◌++◌, ℕ, List, [], ◌∷◌, length, get_or, take, drop, Contains}
use Rattle.std.proofs.Common.{arith, inl, inr, sym, subst, ap, ⊎_elim, ◌∙◌}
use Rattle.std.proofs.lemmas.List.{take_more, take-append-drop, length-take-le}
use Rattle.std.proofs.lemmas.List.Elements.{Contains-append_left}
use Rattle.pssm_model.specs.declared.elements.DraftMachine.{DraftMachine}
use Rattle.pssm_model.specs.declared.steps.Item.{Item}
use Rattle.pssm_model.specs.Configuration.{Configuration}
use Rattle.pssm_plan.specs.declared.ways.Way.{Way}
use Rattle.pssm_plan.specs.declared.roster.Call.{Call}
use Rattle.pssm_plan.specs.declared.waiting.Since.{Since}
use Rattle.pssm_plan.specs.inner.ByWays.{calls_by}
use Rattle.pssm_plan.specs.inner.Marks.{IsListed, IsLonger, IsAlike, ArePairwise}
use Rattle.pssm_plan.specs.inner.Passes.{AreAllSure, AreSureBefore}
use Rattle.pssm_plan.specs.inner.Sequence.{IsSequence, AreNewSince, IsExtended}
use Rattle.pssm_plan.specs.inner.Calling.{IsOfWays, MayRun}
use Rattle.pssm_plan.specs.inner.Going.{IsMadeOf, KeepsOrder}
use Rattle.pssm_plan.proofs.ApartCalls.{new_from}
use Rattle.pssm_plan.proofs.Firing.{nothing_among}
use Rattle.pssm_plan.proofs.Following.{order_kept, sure_over_ways}
use Rattle.pssm_plan.proofs.Rewriting.{AreAlike, marked_along, listed_along, alike_back, roster_along}
use Rattle.pssm_plan.proofs.Taken.{none_taken, taken_cases, taken_more, taken_here}

-- lists of the same items, of which the same have run
pub all_alike : (a b : List Call) → ArePairwise IsAlike a b → AreAlike a b
all_alike a b h = (h.0, λ k d lt. let is = h.1 k d lt in (is.item_is, is.ran))

same_items : (a b : List Call) → ArePairwise IsAlike a b → (k : ℕ) (d : Call) → k < length a → (get_or b k d).item ≡ (get_or a k d).item
same_items a b h k d lt = (h.1 k d lt).item_is

listed_back : (a b : List Call) (x : Item) → ArePairwise IsAlike a b → IsListed b x → IsListed a x
listed_back a b x h = listed_along b a x (sym h.0) (λ k d lt. sym (same_items a b h k d (omega (arith, h.0, lt))))

-- a roster of items that were listed where nothing was, and then settled
pub made_settled : (m : DraftMachine) (ways : List Way) (Added : Item → Type 0) (old first calls : List Call) → old ≡ [] → IsExtended m old Added first
    → ArePairwise IsAlike first calls → AreAllSure (IsSequence m ways) calls → IsMadeOf m ways Added calls
made_settled m ways Added old first calls none extended alike sure = record {
  roster = roster_along m first calls alike.0 (same_items first calls alike) extended.roster;
  listed = λ x. (
    λ h. ⊎_elim
        (λ was. absurd (nothing_among old was.0 none was.1))
        (λ added. added)
        ((extended.listed x).0 (listed_back first calls x alike h)),
    λ added. listed_along first calls x alike.0 (same_items first calls alike) ((extended.listed x).1 (inr added)),
  );
  marked = λ x h.
      (let was = (extended.marked x).0 (marked_along calls first x (alike_back first calls (all_alike first calls alike)) h) in
      nothing_among old was.0 none was.1);
  sure = sure;
}

-- nothing, by no ways
pub made_of_none : (m : DraftMachine) (now : Configuration) (ways : List Way) (calls : List Call) → calls ≡ []
    → IsMadeOf m (take 0 ways) (IsOfWays m now (take 0 ways)) calls
made_of_none m now ways calls none = record {
  roster = record {
    items = λ x h. absurd (nothing_among calls h.0 none h.1);
    once = λ i j d lt inside e. (let long = ap length none in absurd (omega (arith, long, inside)));
  };
  listed = λ x. (λ h. absurd (nothing_among calls h.0 none h.1), λ h. absurd (none_taken ways h.0 h.1));
  marked = λ x h. nothing_among calls h.0 none h.1;
  sure = λ k d lt. (let long = ap length none in absurd (omega (arith, long, lt)));
}

-- what is among the first elements of a list is among them all
pub inside_taken : {X : Type 0} (n : ℕ) (xs : List X) (y : X) → Contains (take n xs) y → Contains xs y
inside_taken {X} n xs y h =
    subst (λ (l : List X). Contains l y) (take-append-drop n xs) (Contains-append_left (take n xs) (drop n xs) y h)

-- what one more way calls that fires is listed
module _ (m : DraftMachine) (now : Configuration) (ways : List Way) (i : ℕ) (way : Way) (lt : i < length ways) (is : way ≡ get_or ways i way)
    (old grown : List Call) (made : IsMadeOf m (take i ways) (IsOfWays m now (take i ways)) old) (longer : IsLonger old grown)
    (extended : IsExtended m old (λ x. MayRun now x × calls_by m way x) grown) where
  more : take (i + 1) ways ≡ take i ways ++ way ∷ []
  more = take_more ways i way lt ∙ ap (λ (w : Way). take i ways ++ w ∷ []) (sym is)

  further : IsLonger (take i ways) (take (i + 1) ways)
  further = (way ∷ [], more)

  -- none of what was listed is what it calls
  module _ (none : (x : Item) × IsListed old x × calls_by m way x → ⊥) where
    kept : KeepsOrder m old (take i ways) (take (i + 1) ways)
    kept = subst (λ (l : List Way). KeepsOrder m old (take i ways) l) (sym more) (order_kept m old (take i ways) way none)

    pub fired_before : (first : ℕ) → first ≡ length old → AreSureBefore (IsSequence m (take (i + 1) ways)) first grown
    fired_before first is = subst (λ (n : ℕ). AreSureBefore (IsSequence m (take (i + 1) ways)) n grown) (sym is)
        (sure_over_ways m old grown (take i ways) (take (i + 1) ways) longer further kept made.sure)

    pub fired_new : (since : Since) → since.calls ≡ length old → since.ways ≡ i → AreNewSince m (take (i + 1) ways) grown since
    fired_new since first from =
        new_from m (MayRun now) old grown (take i ways) (take (i + 1) ways) longer extended.roster kept
        (λ w x inside may calls. (made.listed x).1 (w, inside, may, calls))
        (λ x listed. ⊎_elim (λ was. inl was) (λ added. inr added.0) ((extended.listed x).0 listed))
        further since first (from ∙ sym (length-take-le i ways (omega (arith, lt))))

  -- and settled
  pub fired_made : (calls : List Call) → ArePairwise IsAlike grown calls
      → AreAllSure (IsSequence m (take (i + 1) ways)) calls → IsMadeOf m (take (i + 1) ways) (IsOfWays m now (take (i + 1) ways)) calls
  fired_made calls alike sure = record {
    roster = roster_along m grown calls alike.0 (same_items grown calls alike) extended.roster;
    listed = λ x. (λ h. down x ((extended.listed x).0 (listed_back grown calls x alike h)), λ h. up x h);
    marked = λ x h. made.marked x ((extended.marked x).0 (marked_along calls grown x (alike_back grown calls (all_alike grown calls alike)) h));
    sure = sure;
  }
    where
      down : (x : Item) → IsListed old x ⊎ (MayRun now x × calls_by m way x) → IsOfWays m now (take (i + 1) ways) x
      down x h =
          ⊎_elim
          (λ was. (let by = (made.listed x).0 was in (by.0, taken_more ways i by.0 lt by.1, by.2, by.3)))
          (λ added. (way, subst (λ (w : Way). Contains (take (i + 1) ways) w) (sym is) (taken_here ways i way lt), added.0, added.1))
          h

      grows : (x : Item) → IsOfWays m now (take (i + 1) ways) x → IsListed old x ⊎ (MayRun now x × calls_by m way x)
      grows x h =
          ⊎_elim
          (λ was. inl ((made.listed x).1 (h.0, was, h.2, h.3)))
          (λ this. inr (h.2, subst (λ (w : Way). calls_by m w x) (sym (is ∙ this)) h.3))
          (taken_cases ways i way h.0 lt h.1)

      up : (x : Item) → IsOfWays m now (take (i + 1) ways) x → IsListed calls x
      up x h = listed_along grown calls x alike.0 (same_items grown calls alike) ((extended.listed x).1 (grows x h))
