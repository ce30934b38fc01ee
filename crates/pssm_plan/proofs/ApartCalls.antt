-- Calls before which no way orders those that they have not seen yet.
use Rattle.std.proofs.Common.{◌≡◌, ◌⊎◌, ◌<◌, ◌≤◌, ℕ, Bool, true, false, not, List, length, get_or, take, drop, ◌+◌, ◌-◌}
use Rattle.std.proofs.Common.{Contains, IsTrue, arith, length-append, refl, sym, subst, ap, inl, inr, ⊎_elim, ◌∙◌, ◌↔◌, Some}
use Rattle.std.proofs.lemmas.Bool.{cases_lt}
use Rattle.std.proofs.lemmas.List.{get_or_default, get_or_append_left, get_or-drop, length-drop, take_all}
use Rattle.std.proofs.Math.Seq.{drop-append_seam}
use Rattle.std.proofs.lemmas.List.Elements.{Contains-get_or, Contains-append_cases}
use Rattle.pssm_model.specs.declared.ids.VertexId.{VertexId}
use Rattle.pssm_model.specs.declared.ids.RegionId.{RegionId}
use Rattle.pssm_model.specs.declared.ids.TransId.{TransId}
use Rattle.pssm_model.specs.declared.elements.Owner.TheVariants.{Top, Region, State}
use Rattle.pssm_model.specs.Forest.{owner_of, LiesInState}
use Rattle.pssm_model.proofs.ElementLaws.{top_lies_nowhere}
use Rattle.pssm_model.proofs.Nesting.{under_cases}
use Rattle.pssm_model.specs.declared.elements.DraftMachine.{DraftMachine}
use Rattle.pssm_model.specs.declared.steps.How.{How}
use Rattle.pssm_model.specs.declared.steps.How.TheVariants.{By, Restore, Nothing}
use Rattle.pssm_model.specs.declared.steps.Mode.{Mode}
use Rattle.pssm_model.specs.declared.steps.Item.{Item}
use Rattle.pssm_model.specs.declared.steps.Item.TheVariants as items
use Rattle.pssm_plan.specs.declared.ways.Way.{Way}
use Rattle.pssm_plan.specs.declared.roster.Call.{Call}
use Rattle.pssm_plan.specs.declared.progress.Progress.{Progress}
use Rattle.pssm_plan.specs.declared.progress.Restored.{Restored}
use Rattle.pssm_plan.specs.inner.ByWays.{calls_by}
use Rattle.pssm_plan.specs.inner.Marks.{IsListed, IsLonger, IsNoted, IsSettled, HasSeen, ArePairwise}
use Rattle.pssm_plan.specs.declared.waiting.Since.{Since}
use Rattle.pssm_plan.specs.declared.waiting.Wait.{Wait}
use Rattle.pssm_plan.specs.Waiting.{HoldsUp, IsMetBefore, IsExact}
use Rattle.pssm_plan.specs.inner.Sequence.{IsSequence, IsNestedPair, IsOrderedBySome, AreLooseUpTo, AreApartFrom, AreNewSince, IsNewCall, IsRoster}
use Rattle.pssm_plan.specs.inner.Passes.{ArePassed, AreFreeFrom, IsOrderedBehindNone}
use Rattle.pssm_plan.specs.inner.Calling.{IsNoExit, IsLate, IsOfRestored, IsEntered}
use Rattle.pssm_plan.specs.inner.Going.{KeepsOrder, IsFollowedSo}
use Rattle.pssm_plan.proofs.Growing.{lower_or_same}
use Rattle.pssm_plan.proofs.Looking.{waiting}
use Rattle.pssm_plan.proofs.NearWays.{way_calls_first, way_calls_second}
use Rattle.pssm_plan.proofs.Rewriting.{AreAlike}

-- what none before the new ones holds up, and no way orders behind one of these, waits only for what comes before it by where the States lie
pub free_settled : (m : DraftMachine) (ways : List Way) (calls : List Call) (place : ℕ) (call new : Call) (first : ℕ)
    → ArePassed (IsSequence m ways) calls call.item first → IsOrderedBehindNone m ways calls call.item first
    → IsSettled (IsNestedPair m) calls place call new → IsSettled (IsSequence m ways) calls place call new
free_settled m ways calls place call new first passed apart n = record {
  item_is = n.item_is;
  ran = n.ran;
  exact = record {
    passed = λ k d met inside up. ⊎_elim
        (λ low. passed k d low inside (subst (λ (i : Item). IsSequence m ways (get_or calls k d).item i) n.item_is up.0, up.1))
        (λ high. ⊎_elim
        (λ nested. n.exact.passed k d met inside (nested, up.1))
        (λ ordered. apart k d high inside (subst (λ (i : Item). IsOrderedBySome m ways (get_or calls k d).item i) n.item_is ordered))
        up.0)
        (cases_lt k first);
    waits = λ blocked. (let w = n.exact.waits blocked in (w.0, λ d. (inl (w.1 d).0, (w.1 d).1)));
    through = n.exact.through;
  };
}

-- a new call
pub new_now : (m : DraftMachine) (ways : List Way) (old now : List Call) (since : Since) (i : ℕ) (d : Call) → AreAlike old now
    → AreNewSince m ways old since → i < length old → since.calls ≤ i → IsNewCall m ways now (get_or now i d) since
new_now m ways old now since i d alike h lt le = record {
  within = omega (arith, alike.0, h.within);
  ways_within = h.ways_within;
  apart = λ j e before inside ordered.
      (let low : j < length old = omega (arith, alike.0, inside) in
      let there : i < length now = omega (arith, alike.0, lt) in
      let here : (get_or now i d).item ≡ (get_or old i e).item = ap (λ (c : Call). c.item) (get_or_default now i d e there) ∙ (alike.1 i e lt).0 in
      h.apart j i e before le lt
      (inr (subst (λ (y : Item). IsOrderedBySome m ways (get_or old j e).item y) here
      (subst (λ (x : Item). IsOrderedBySome m ways x (get_or now i d).item) (alike.1 j e low).0 ordered))));
  by = λ way inside calls. h.by i d le lt way inside (subst (calls_by m way) (alike.1 i d lt).0 calls);
}

-- what a region owns that no State owns lies in no State
pub outermost_in_none : (m : DraftMachine) (v : VertexId) (r : RegionId) → owner_of m (State v) ≡ Some (Region r) → owner_of m (Region r) ≡ Some Top
    → (s : VertexId) → LiesInState m v s → ⊥
outermost_in_none m v r owned top s h =
    ⊎_elim
    (λ same. absurd (let e = h.1 in cc (same, e, top)))
    (λ under. ⊎_elim
    (λ is. absurd (cc is))
    (λ beyond. top_lies_nowhere (Region h.0) beyond)
    (under_cases m (Region r) Top (Region h.0) top under))
    (under_cases m (State v) (Region r) (Region h.0) owned h.2)

-- so the entry of no State comes before its entry
pub entry_nested : (m : DraftMachine) (v : VertexId) → ((s : VertexId) → LiesInState m v s → ⊥) → (x : Item) → IsNestedPair m x (items.Enter v) → ⊥
entry_nested m v none (items.Enter s) h = none s h
entry_nested m v none (items.Exit s) h = h
entry_nested m v none (items.Effect t) h = h
entry_nested m v none (items.Opened r mode) h = h
entry_nested m v none (items.Pick c) h = h

pub not_unset : (b : Bool) → (IsTrue (not b) → ⊥) → IsTrue b
not_unset true h = refl
not_unset false h = absurd (h refl)

-- the rest of a list, as a slice from a place on
module _ {X : Type 0} (xs : List X) (first : ℕ) where
  pub rest_is : take (length xs - first) (drop first xs) ≡ drop first xs
  rest_is = let long = length-drop first xs in take_all (length xs - first) (drop first xs) (omega (arith, long))

  pub rest_some : (x : X) → Contains (take (length xs - first) (drop first xs)) x → Contains xs x
  rest_some x h =
      let inside = subst (λ (l : List X). Contains l x) rest_is h in
      let long = length-drop first xs in
      (first + inside.0, omega (arith, long, inside.1), sym (get_or-drop first xs inside.0 x) ∙ inside.2)

-- the new ways are all that call a new call
pub rest_all : (m : DraftMachine) (ways : List Way) (calls : List Call) (call begun : Call) (since : Since) → IsNewCall m ways calls call since
    → begun.item ≡ call.item → (way : Way) → Contains ways way → calls_by m way begun.item
    → Contains (take (length ways - since.ways) (drop since.ways ways)) way
rest_all m ways calls call begun since h same way inside by =
    subst (λ (l : List Way). Contains l way) (sym (rest_is ways since.ways)) (h.by way inside (subst (calls_by m way) same by))

-- only new ways order something before a new call
new_ordered : (m : DraftMachine) (ways : List Way) (calls : List Call) (call : Call) (since : Since) → IsNewCall m ways calls call since
    → (x : Item) → IsSequence m ways x call.item → IsSequence m (take (length ways - since.ways) (drop since.ways ways)) x call.item
new_ordered m ways calls call since h x before =
    ⊎_elim
    (λ nested. inl nested)
    (λ by. inr (by.0, rest_all m ways calls call call since h refl by.0 by.1 (way_calls_second m by.0 x call.item by.2), by.2))
    before

-- a new call has looked at the new ones up to its own place, and at the others down to where one may hold it up by where their States lie
pub begun_seen : (m : DraftMachine) (ways : List Way) (calls : List Call) (place left : ℕ) (call begun : Call) (since : Since)
    → IsNewCall m ways calls call since → since.calls ≤ place → place < length calls
    → AreFreeFrom (IsSequence m (take (length ways - since.ways) (drop since.ways ways))) calls call.item since.calls (place + 1)
    → AreFreeFrom (IsNestedPair m) calls call.item left since.calls → left ≤ since.calls → begun.item ≡ call.item → (IsTrue begun.blocked → ⊥)
    → (left ≡ 0 → begun.seen ≡ place + 1) → (0 < left → begun.seen + 1 ≡ left)
    → HasSeen (IsSequence m ways) calls place begun
begun_seen m ways calls place left call begun since h from there near none low item free first further = record {
  within = ⊎_elim
      (λ some. let is = further some in omega (arith, is, low, from, there))
      (λ zero. let is = first (omega (arith, zero)) in omega (arith, is, there))
      (cases_lt 0 left);
  passed = λ k d met inside up.
      (let is = met_from k met in
      free_from k d is.0 is.1 inside (subst (λ (y : Item). IsSequence m ways (get_or calls k d).item y) item up.0, up.1));
  there = λ blocked. absurd (free blocked);
}
  where
    met_from : (k : ℕ) → IsMetBefore place begun.seen k → (left ≤ k) × (k < place + 1)
    met_from k met =
        ⊎_elim
        (λ some.
        (let is = further some in
        ⊎_elim
        (λ back. (omega (arith, is, back.0), omega (arith, back.1)))
        (λ on. absurd (omega (arith, is, on.0, low, from)))
        met))
        (λ zero.
        (let is = first (omega (arith, zero)) in
        ⊎_elim
        (λ back. absurd (omega (arith, is, back.0, back.1)))
        (λ on. (omega (arith, zero), omega (arith, is, on.1)))
        met))
        (cases_lt 0 left)

    free_from : (k : ℕ) (d : Call) → left ≤ k → k < place + 1 → k < length calls → HoldsUp (IsSequence m ways) (get_or calls k d) call.item → ⊥
    free_from k d le lt inside up =
        ⊎_elim
        (λ old. ⊎_elim
        (λ nested. none k d le old inside (nested, up.1))
        (λ ordered. h.apart k d old inside ordered)
        up.0)
        (λ new. near k d new lt inside (new_ordered m ways calls call since h (get_or calls k d).item up.0, up.1))
        (cases_lt k since.calls)

-- what comes before none by where States lie
pub loose_regions : (m : DraftMachine) (s : VertexId) (rs : List RegionId)
    → ((r : RegionId) → Contains rs r ↔ (owner_of m (Region r) ≡ Some (State s))) → (x : Item) → IsNestedPair m (items.Enter s) x
    → (d : RegionId) → 0 < length rs
loose_regions m s rs all (items.Enter q) h d = let inside = (all h.0).1 h.1 in let lt = inside.1 in omega (arith, lt)
loose_regions m s rs all (items.Exit q) h d = absurd h
loose_regions m s rs all (items.Effect t) h d = absurd h
loose_regions m s rs all (items.Opened r mode) h d = absurd h
loose_regions m s rs all (items.Pick c) h d = absurd h

pub loose_effect : (m : DraftMachine) (t : TransId) (x : Item) → IsNestedPair m (items.Effect t) x → ⊥
loose_effect m t x h = h

pub loose_none : (m : DraftMachine) (calls : List Call) (first : ℕ) → AreLooseUpTo m calls first first
loose_none m calls first k d x le lt = absurd (omega (arith, le, lt))

pub loose_more : (m : DraftMachine) (calls : List Call) (first k : ℕ) (d : Call) → k < length calls
    → ((x : Item) → IsNestedPair m (get_or calls k d).item x → ⊥) → AreLooseUpTo m calls first k → AreLooseUpTo m calls first (k + 1)
loose_more m calls first k d there none h j e x le lt inside nested =
    ⊎_elim
    (λ low. h j e x le low inside nested)
    (λ same. none x (subst (λ (c : Call). IsNestedPair m c.item x) (ap (λ (n : ℕ). get_or calls n e) same ∙ get_or_default calls k e d there) nested))
    (lower_or_same j k lt)

-- a call that none before the new ones holds up has as good as seen those that come before none so
pub raised_seen : (m : DraftMachine) (calls : List Call) (place : ℕ) (call raised : Call) (first nests : ℕ) → place < first → first ≤ nests
    → nests ≤ length calls
    → AreLooseUpTo m calls first nests → (IsTrue call.blocked → ⊥) → ArePassed (IsNestedPair m) calls call.item first
    → raised.item ≡ call.item → raised.blocked ≡ call.blocked → raised.seen ≡ nests → HasSeen (IsNestedPair m) calls place raised
raised_seen m calls place call raised first nests old from within loose free passed item blocked seen = record {
  within = omega (arith, within, seen);
  passed = λ k d met inside up.
      (let here = subst (λ (y : Item). IsNestedPair m (get_or calls k d).item y) item up.0 in
      ⊎_elim
      (λ back. absurd (omega (arith, back.0, back.1, seen, old, from)))
      (λ on. ⊎_elim
      (λ low. passed k d low inside (here, up.1))
      (λ high. loose k d call.item high (let lt = on.1 in omega (arith, lt, seen)) inside here)
      (cases_lt k first))
      met);
  there = λ b. absurd (free (subst (λ (v : Bool). IsTrue v) blocked b));
}

-- what is settled of a call is so of one of the same item
pub settled_begun : (Comes : Item → Item → Type 0) (calls : List Call) (place : ℕ) (begun call : Call) (wait : Wait) → begun.item ≡ call.item
    → begun.ran ≡ call.ran → IsSettled Comes calls place begun (waiting begun wait) → IsSettled Comes calls place call (waiting call wait)
settled_begun Comes calls place begun call wait item ran s = record {
  item_is = refl;
  ran = refl;
  exact =
      subst (λ (c : Call). IsExact Comes calls place c)
      (ap (λ (i : Item). let c : Call = record { item = i; ran = begun.ran; blocked = wait.blocked; seen = wait.seen } in c) item
      ∙ ap (λ (r : Bool). let c : Call = record { item = call.item; ran = r; blocked = wait.blocked; seen = wait.seen } in c) ran)
      s.exact;
}

-- the same calls are new in a list of the same items
new_same : (m : DraftMachine) (ways : List Way) (old now : List Call) (since : Since) → length now ≡ length old
    → ((k : ℕ) (d : Call) → k < length old → (get_or now k d).item ≡ (get_or old k d).item) → AreNewSince m ways old since → AreNewSince m ways now since
new_same m ways old now since long items h = record {
  within = omega (arith, long, h.within);
  ways_within = h.ways_within;
  apart = λ j k d before behind inside ordered.
      (let high : k < length old = omega (arith, long, inside) in
      let low : j < length old = omega (arith, high, before, behind) in
      h.apart j k d before behind high
      (⊎_elim
      (λ second. inl (along k j d high low second))
      (λ first. inr (along j k d low high first))
      ordered));
  by = λ k d le inside way there calls.
      (let high : k < length old = omega (arith, long, inside) in
      h.by k d le high way there (subst (calls_by m way) (items k d high) calls));
}
  where
    along : (i k : ℕ) (d : Call) → i < length old → k < length old → IsOrderedBySome m ways (get_or now i d).item (get_or now k d).item
        → IsOrderedBySome m ways (get_or old i d).item (get_or old k d).item
    along i k d x y ordered =
        subst (λ (z : Item). IsOrderedBySome m ways (get_or old i d).item z) (items k d y)
        (subst (λ (z : Item). IsOrderedBySome m ways z (get_or now k d).item) (items i d x) ordered)

pub new_along : (m : DraftMachine) (ways : List Way) (old now : List Call) (since : Since) → AreAlike old now → AreNewSince m ways old since
    → AreNewSince m ways now since
new_along m ways old now since alike = new_same m ways old now since alike.0 (λ k d lt. (alike.1 k d lt).0)

-- once an item is noted as run
pub noted_new : (m : DraftMachine) (ways : List Way) (item : Item) (old now : List Call) (since : Since) → ArePairwise (IsNoted item) old now
    → AreNewSince m ways old since → AreNewSince m ways now since
noted_new m ways item old now since noted = new_same m ways old now since noted.0 (λ k d lt. (noted.1 k d lt).item_is)

no_exit_opened : (x : Item) (y : Item) → x ≡ y → IsNoExit y → IsNoExit x
no_exit_opened x y same h = subst IsNoExit (sym same) h

entered_no_exit : (m : DraftMachine) (ways : List Way) (restored : List Restored) (item x : Item) → IsEntered m ways restored item x → IsNoExit x
entered_no_exit m ways restored (items.Enter s) x h =
    ⊎_elim
    (λ default. no_exit_opened x (items.Opened default.0 Mode.Plain) default.1 tt)
    (λ back. no_exit_opened x _ back.2.1 tt)
    h
entered_no_exit m ways restored (items.Exit s) x h = absurd h
entered_no_exit m ways restored (items.Effect t) x h = absurd h
entered_no_exit m ways restored (items.Opened r mode) x h = absurd h
entered_no_exit m ways restored (items.Pick c) x h = absurd h

late_no_exit : (m : DraftMachine) (calls : List Call) (way : Way) (x : Item) → IsLate m calls way x → IsNoExit x
late_no_exit m calls way x h = ⊎_elim (λ other. other.0) (λ again. no_exit_opened x _ again.2 tt) h

restored_no_exit : (m : DraftMachine) (calls : List Call) (mode : Mode) (s : VertexId) (x : Item) → IsOfRestored m calls mode s x → IsNoExit x
restored_no_exit m calls mode s x h =
    ⊎_elim (λ entry. no_exit_opened x (items.Enter s) entry tt) (λ opening. no_exit_opened x _ opening.1.1 tt) h

-- what is listed beyond what was is no exit
pub followed_no_exit : (m : DraftMachine) (old : Progress) (item : Item) (how : How) (new : Progress) → IsFollowedSo m old item how new
    → (x : Item) → IsListed new.roster.calls.items x → IsListed old.roster.calls.items x ⊎ IsNoExit x
followed_no_exit m old item (By p) new h x listed =
    ⊎_elim (λ was. inl was) (λ added. inr (late_no_exit m old.roster.calls.items h.way x added)) ((h.extended.listed x).0 listed)
followed_no_exit m old item (Restore s) new h x listed =
    ⊎_elim (λ was. inl was) (λ added. inr (restored_no_exit m old.roster.calls.items h.1 s x added)) ((h.3.extended.listed x).0 listed)
followed_no_exit m old item Nothing new h x listed =
    ⊎_elim (λ was. inl was) (λ added. inr (entered_no_exit m old.ways.items old.restored.items item x added)) ((h.extended.listed x).0 listed)

-- no way orders what has been added before what was there
module _ (m : DraftMachine) (May : Item → Type 0) (old grown : List Call) (ways more : List Way) (longer : IsLonger old grown) (roster : IsRoster m grown)
    (kept : KeepsOrder m old ways more)
    (covered : (way : Way) (x : Item) → Contains ways way → May x → calls_by m way x → IsListed old x)
    (added : (x : Item) → IsListed grown x → IsListed old x ⊎ May x) where
  same : (k : ℕ) (d : Call) → k < length old → get_or grown k d ≡ get_or old k d
  same k d low = ap (λ (l : List Call). get_or l k d) longer.1 ∙ get_or_append_left old longer.0 d k low

  -- what has been added was not listed
  not_listed : (k : ℕ) (d : Call) → length old ≤ k → k < length grown → IsListed old (get_or grown k d).item → ⊥
  not_listed k d le lt listed =
      let i = listed.1.0 in
      let low : i < length old = listed.1.1 in
      let at : get_or grown i d ≡ listed.0 = same i d low ∙ get_or_default old i d listed.0 low ∙ listed.1.2 in
      roster.once i k d (omega (arith, low, le)) lt (ap (λ (c : Call). c.item) at ∙ listed.2)

  -- nor do the ways so far call it
  not_called : (k : ℕ) (d : Call) (way : Way) → length old ≤ k → k < length grown → Contains ways way → calls_by m way (get_or grown k d).item → ⊥
  not_called k d way le lt inside calls =
      ⊎_elim
      (λ was. not_listed k d le lt was)
      (λ may. not_listed k d le lt (covered way (get_or grown k d).item inside may calls))
      (added (get_or grown k d).item (get_or grown k d, Contains-get_or grown k d lt, refl))

  listed_before : (j : ℕ) (d : Call) → j < length old → IsListed old (get_or grown j d).item
  listed_before j d low = (get_or old j d, Contains-get_or old j d low, ap (λ (c : Call). c.item) (sym (same j d low)))

  apart_from : AreApartFrom m more grown (length old)
  apart_from j k d before behind inside h =
      let x = (get_or grown k d).item in
      let y = (get_or grown j d).item in
      ⊎_elim
      (λ ordered.
      (let by = kept x y (inr (listed_before j d before)) ordered in
      not_called k d by.0 behind inside by.1 (way_calls_first m by.0 x y by.2)))
      (λ ordered.
      (let by = kept y x (inl (listed_before j d before)) ordered in
      not_called k d by.0 behind inside by.1 (way_calls_second m by.0 y x by.2)))
      h

  called_by_new : (further : IsLonger ways more) (k : ℕ) (d : Call) → length old ≤ k → k < length grown → (way : Way) → Contains more way
      → calls_by m way (get_or grown k d).item → Contains (drop (length ways) more) way
  called_by_new further k d le lt way inside calls =
      ⊎_elim
      (λ was. absurd (not_called k d way le lt was calls))
      (λ new. subst (λ (l : List Way). Contains l way)
      (sym (ap (λ (l : List Way). drop (length ways) l) further.1 ∙ drop-append_seam ways further.0)) new)
      (Contains-append_cases ways further.0 way (subst (λ (l : List Way). Contains l way) further.1 inside))

  -- they are new since the places behind what was
  pub new_from : IsLonger ways more → (since : Since) → since.calls ≡ length old → since.ways ≡ length ways → AreNewSince m more grown since
  new_from further since first from = record {
    within = (let e = ap length longer.1 in omega (arith, e, first, length-append old longer.0));
    ways_within = (let e = ap length further.1 in omega (arith, e, from, length-append ways further.0));
    apart = subst (λ (n : ℕ). AreApartFrom m more grown n) (sym first) apart_from;
    by = λ k d le lt way inside calls.
        (let behind : length old ≤ k = omega (arith, le, first) in
        subst (λ (n : ℕ). Contains (drop n more) way) (sym from) (called_by_new further k d behind lt way inside calls));
  }
