-- The progress of a step as an item runs: what is listed is a roster, and what each call has seen.
use Rattle.std.proofs.Common.{◌≡◌, ◌⊎◌, ◌<◌, ◌≤◌, ◌++◌, ℕ, List, [], ◌∷◌, length, get_or, take, Contains, IsTrue, Vec}
use Rattle.std.proofs.Common.{arith, inl, inr, refl, sym, subst, ap, ⊎_elim, ◌∙◌}
use Rattle.std.proofs.lemmas.List.{take_at, get_or_append_left, length-append}
use Rattle.std.proofs.lemmas.List.Elements.{Contains-push_cases, Contains-append_left, Contains-get_or}
use Rattle.std.specs.declared.alloc.Global.{Global}
use Rattle.pssm_model.specs.declared.elements.DraftMachine.{DraftMachine}
use Rattle.pssm_model.specs.declared.steps.How.{How}
use Rattle.pssm_model.specs.declared.steps.How.TheVariants.{By, Restore, Nothing}
use Rattle.pssm_model.specs.declared.steps.Item.{Item}
use Rattle.pssm_plan.specs.declared.ways.Way.{Way}
use Rattle.pssm_plan.specs.declared.roster.Call.{Call}
use Rattle.pssm_plan.specs.declared.progress.Progress.{Progress}
use Rattle.pssm_plan.specs.declared.progress.Restored.{Restored}
use Rattle.pssm_plan.specs.declared.waiters.Span.{Span}
use Rattle.pssm_plan.specs.Waiting.{HoldsUp}
use Rattle.pssm_plan.specs.Ways.{AreWaysIn}
use Rattle.pssm_plan.specs.inner.ByWays.{calls_by, orders_by}
use Rattle.pssm_plan.specs.inner.Marks.{IsListed, IsLonger, IsFresh, IsTold, IsNoted, ArePairwise}
use Rattle.pssm_plan.specs.inner.Passes.{IsSure, IsSureBefore, AreAllSure, AreSureBefore}
use Rattle.pssm_plan.specs.inner.Sequence.{IsSequence, IsOrderedBySome, AreItemsOf, IsRoster, IsExtended}
use Rattle.pssm_plan.specs.inner.Calling.{IsEntered}
use Rattle.pssm_plan.specs.inner.Going.{KeepsOrder, IsLongerProgress, IsFollowedPlainly, IsFollowedSo, IsFinished, IsRunSo, IsUnchanged}
use Rattle.pssm_plan.proofs.Growing.{longer_same}
use Rattle.pssm_plan.proofs.Firing.{one_more_way}
use Rattle.pssm_plan.proofs.NearWays.{way_calls_first, way_calls_second}
use Rattle.pssm_plan.proofs.Rewriting.{listed_along}

-- a way that calls no listed item orders none of them
pub order_kept : (m : DraftMachine) (calls : List Call) (ways : List Way) (way : Way) → ((x : Item) × IsListed calls x × calls_by m way x → ⊥)
    → KeepsOrder m calls ways (ways ++ way ∷ [])
order_kept m calls ways way none x y listed h =
    ⊎_elim
    (λ was. (h.0, was, h.2))
    (λ this. (let orders = subst (λ (w : Way). orders_by m w x y) (sym this) h.2 in
    ⊎_elim
    (λ first. absurd (none (x, first, way_calls_first m way x y orders)))
    (λ second. absurd (none (y, second, way_calls_second m way x y orders)))
    listed))
    (Contains-push_cases ways way h.0 h.1)

pub order_same : (m : DraftMachine) (calls : List Call) (ways more : List Way) → more ≡ ways → KeepsOrder m calls ways more
order_same m calls ways more same x y listed h = subst (λ (l : List Way). IsOrderedBySome m l x y) same h

-- more ways order what the ways so far do
sequence_longer : (m : DraftMachine) (ways more : List Way) (x y : Item) → IsLonger ways more → IsSequence m ways x y → IsSequence m more x y
sequence_longer m ways more x y longer h =
    ⊎_elim
    (λ nested. inl nested)
    (λ ordered. inr (
      ordered.0,
      subst (λ (l : List Way). Contains l ordered.0) (sym longer.1) (Contains-append_left ways longer.0 ordered.0 ordered.1),
      ordered.2,
    ))
    h

module _ (m : DraftMachine) (old grown : List Call) (ways more : List Way) (longer : IsLonger old grown) (further : IsLonger ways more)
    (kept : KeepsOrder m old ways more) where
  -- each call that was sure says for which of the calls before the new ones it waits
  pub sure_over_ways : AreAllSure (IsSequence m ways) old → AreSureBefore (IsSequence m more) (length old) grown
  sure_over_ways sure k d low inside = subst (λ (c : Call). IsSureBefore (IsSequence m more) (length old) grown k c) (sym (same k d low)) (record {
    seen = λ blocked. record {
      within = (let at = (s.waits blocked).0 in omega (arith, at, more_calls));
      passed = λ j e met there up.
          (let less : j < length old = ⊎_elim
          (λ back. let high = back.1 in omega (arith, high, low))
          (λ on. let at = (s.waits blocked).0 in let lt = on.1 in omega (arith, at, lt))
          met in
          s.passed blocked j e met less (up_before j e less up));
      there = λ again e there. sequence_longer m ways more (get_or grown call.seen e).item call.item further
          (subst (λ (c : Call). IsSequence m ways c.item call.item) (sym (same call.seen e (s.waits blocked).0)) ((s.waits blocked).1 e).0);
    };
    held = λ blocked. record {
      inside = (let at = (s.waits blocked).0 in omega (arith, at, more_calls));
      waiting = λ e ran. ((s.waits blocked).1 e).1 (subst (λ (c : Call). IsTrue c.ran) (same call.seen e (s.waits blocked).0) ran);
    };
    free = λ free j e lt there up. s.clear free j e lt lt (up_before j e lt up);
  })
    where
      more_calls : length old ≤ length grown
      more_calls = (let e = ap (λ (l : List Call). length l) longer.1 in omega (arith, e, length-append old longer.0))

      same : (j : ℕ) (e : Call) → j < length old → get_or grown j e ≡ get_or old j e
      same j e lt = ap (λ (l : List Call). get_or l j e) longer.1 ∙ get_or_append_left old longer.0 e j lt

      call : Call
      call = get_or old k d

      s : IsSure (IsSequence m ways) old k call
      s = sure k d low

      up_before : (j : ℕ) (e : Call) → j < length old → HoldsUp (IsSequence m more) (get_or grown j e) call.item → HoldsUp (IsSequence m ways) (get_or old j e) call.item
      up_before j e lt up =
          let at = subst (λ (c : Call). HoldsUp (IsSequence m more) c call.item) (same j e lt) up in (
            ⊎_elim
                (λ nested. inl nested)
                (λ ordered. inr (kept (get_or old j e).item call.item (inr (call, Contains-get_or old k d low, refl)) ordered))
                at.0,
            at.1,
          )

-- what is listed once an item has run in this way
pub followed_roster : (m : DraftMachine) (old : Progress) (item : Item) (how : How) (new : Progress) → IsFollowedSo m old item how new
    → IsRoster m new.roster.calls.items
followed_roster m old item (By p) new h = h.extended.roster
followed_roster m old item (Restore s) new h = h.3.extended.roster
followed_roster m old item Nothing new h = h.extended.roster

pub followed_fresh : (m : DraftMachine) (old : Progress) (item : Item) (how : How) (new : Progress) → IsFollowedSo m old item how new
    → (call : Call) → Contains new.roster.calls.items call → Contains old.roster.calls.items call ⊎ IsFresh call
followed_fresh m old item (By p) new h = h.extended.fresh
followed_fresh m old item (Restore s) new h = h.3.extended.fresh
followed_fresh m old item Nothing new h = h.extended.fresh

pub followed_ways : (m : DraftMachine) (old : Progress) (item : Item) (how : How) (new : Progress) → IsFollowedSo m old item how new
    → AreWaysIn m old.ways.items → AreWaysIn m new.ways.items
followed_ways m old item (By p) new h were = subst (AreWaysIn m) (sym h.ways) (one_more_way m old.ways.items h.way were h.inside)
followed_ways m old item (Restore s) new h were = subst (AreWaysIn m) (sym h.3.ways) were
followed_ways m old item Nothing new h were = subst (AreWaysIn m) (sym h.ways) were

-- and once there is more room
pub followed_room : (m : DraftMachine) (old new : Progress) (item : Item) (how : How) (spans : Vec Span Global) → IsFollowedSo m old item how new
    → IsFollowedSo m old item how (record { roster = new.roster; ways = new.ways; restored = new.restored; spans = spans })
followed_room m old new item (By p) spans h = record {
  way = h.way;
  inside = h.inside;
  route = h.route;
  late = h.late;
  ways = h.ways;
  restored = h.restored;
  extended = h.extended;
}
followed_room m old new item (Restore s) spans h = (
  h.0,
  h.1,
  h.2,
  record { ways = h.3.ways; restored = h.3.restored; extended = h.3.extended },
)
followed_room m old new item Nothing spans h = record { ways = h.ways; restored = h.restored; extended = h.extended }

-- lists of calls that are noted as run
pub told_noted : (item : Item) (a b : List Call) → ArePairwise (IsTold item) a b → ArePairwise (IsNoted item) a b
told_noted item a b h = (h.0, λ k d lt. (let t = h.1 k d lt in record { item_is = t.item_is; ran = t.ran }))

pub noted_items : (m : DraftMachine) (item : Item) (a b : List Call) → ArePairwise (IsNoted item) a b → AreItemsOf m a → AreItemsOf m b
noted_items m item a b h were x listed =
    were x (listed_along b a x (sym h.0) (λ k d lt. sym (h.1 k d (omega (arith, h.0, lt))).item_is) listed)

-- a list that is cut back to its length before it grew
pub cut_back : {X : Type 0} (old new : List X) (n : ℕ) → IsLonger old new → n ≡ length old → take n new ≡ old
cut_back {X} old new n longer same = ap (λ (l : List X). take n l) longer.1 ∙ take_at old longer.0 n (sym same)

-- progress that is cut back to what it was before it grew
pub back_again : (old grown new : Progress) (calls ways restored : ℕ) → IsLongerProgress old grown → calls ≡ length old.roster.calls.items
    → ways ≡ length old.ways.items → restored ≡ length old.restored.items → new.roster.calls.items ≡ take calls grown.roster.calls.items
    → new.ways.items ≡ take ways grown.ways.items → new.restored.items ≡ take restored grown.restored.items
    → new.spans.items ≡ grown.spans.items → IsUnchanged old new
back_again old grown new calls ways restored longer a b c x y z w = record {
  calls = x ∙ cut_back old.roster.calls.items grown.roster.calls.items calls longer.calls a;
  ways = y ∙ cut_back old.ways.items grown.ways.items ways longer.ways b;
  restored = z ∙ cut_back old.restored.items grown.restored.items restored longer.restored c;
  spans = subst (λ (l : List Span). IsLonger old.spans.items l) (sym w) longer.spans;
}

-- the progress once an item has run, from what is followed and what is finished
pub run_so : (m : DraftMachine) (old grown new : Progress) (item : Item) (how : How) (said : List Way) → IsFollowedSo m old item how grown
    → said ≡ grown.ways.items → new.ways.items ≡ grown.ways.items → new.restored.items ≡ grown.restored.items
    → IsFinished m said item grown.roster.calls.items new.roster.calls.items → IsRunSo m old item how new
run_so m old grown new item how said followed same ways restored finished = record {
  grown = grown;
  followed = followed;
  ways = ways;
  restored = restored;
  finished = subst (λ (l : List Way). IsFinished m l item grown.roster.calls.items new.roster.calls.items) (same ∙ sym ways) finished;
}

-- what is longer, list by list
pub longer_progress : (old new : Progress) → IsLonger old.roster.calls.items new.roster.calls.items → IsLonger old.ways.items new.ways.items
    → IsLonger old.restored.items new.restored.items → IsLonger old.spans.items new.spans.items → IsLongerProgress old new
longer_progress old new calls ways restored spans = record { calls = calls; ways = ways; restored = restored; spans = spans }

pub longer_kept : {X : Type 0} (xs ys : List X) → ys ≡ xs → IsLonger xs ys
longer_kept {X} xs ys same = subst (λ (l : List X). IsLonger xs l) (sym same) (longer_same xs)

pub longer_by : {X : Type 0} (xs ys : List X) (x : X) → ys ≡ xs ++ x ∷ [] → IsLonger xs ys
longer_by xs ys x more = (x ∷ [], more)

-- what is listed without a way, from the same ways and restored States
pub plainly_followed : (m : DraftMachine) (old new : Progress) (item : Item) (said : List Way) (back : List Restored) → said ≡ old.ways.items
    → back ≡ old.restored.items → new.ways.items ≡ old.ways.items → new.restored.items ≡ old.restored.items
    → IsExtended m old.roster.calls.items (IsEntered m said back item) new.roster.calls.items → IsFollowedPlainly m old item new
plainly_followed m old new item said back a b ways restored extended = record {
  ways = ways;
  restored = restored;
  extended =
      subst (λ (l : List Restored). IsExtended m old.roster.calls.items (IsEntered m old.ways.items l item) new.roster.calls.items) b
      (subst (λ (l : List Way). IsExtended m old.roster.calls.items (IsEntered m l back item) new.roster.calls.items) a extended);
}
