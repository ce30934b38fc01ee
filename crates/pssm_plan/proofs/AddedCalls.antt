-- What the loops over numbers add to a roster: the items of one kind that a way calls.
use Rattle.std.proofs.Common.{◌≡◌, ◌≤◌, ◌<◌, ◌↔◌, ◌⊎◌, ◌+◌, ℕ, Bool, true, false, IsTrue, Some, List, Contains, length}
use Rattle.std.proofs.Common.{get_or, take, sym, subst, ap, refl, inl, inr, ⊎_elim, arith}
use Rattle.pssm_model.specs.declared.ids.VertexId.{VertexId}
use Rattle.pssm_model.specs.declared.ids.RegionId.{RegionId}
use Rattle.pssm_model.specs.declared.elements.DraftMachine.{DraftMachine}
use Rattle.pssm_model.specs.declared.elements.Owner.TheVariants.{Region, State}
use Rattle.pssm_model.specs.declared.steps.Mode.{Mode}
use Rattle.pssm_model.specs.declared.steps.Mode.TheVariants.{Plain, Shallow, Deep}
use Rattle.pssm_model.specs.declared.steps.Item.{Item}
use Rattle.pssm_model.specs.declared.steps.Item.TheVariants.{Exit, Effect, Enter, Opened, Pick}
use Rattle.pssm_model.specs.Forest.{owner_of}
use Rattle.pssm_model.specs.Items.{restored_mode}
use Rattle.pssm_model.specs.Shapes.{HasShape}
use Rattle.pssm_model.specs.Configuration.{Configuration}
use Rattle.pssm_plan.specs.declared.ways.Way.{Way}
use Rattle.pssm_plan.specs.inner.ByWays.{calls_by, opens_by}
use Rattle.pssm_plan.specs.declared.roster.Call.{Call}
use Rattle.pssm_plan.specs.declared.progress.Restored.{Restored}
use Rattle.pssm_plan.specs.inner.Marks.{IsMarked, IsListed, IsLonger}
use Rattle.pssm_plan.specs.inner.Calling.{IsExitBy, IsEffectBy, IsEntryBy, IsOpeningBy, IsPickBy, IsNoExit, IsOtherBy, IsReopened, IsLate, MayRun}
use Rattle.pssm_plan.specs.inner.Calling.{IsOpeningOf, IsOfRestored, IsRestoredOf, IsDefaultOf}
use Rattle.pssm_plan.specs.inner.Sequence.{IsOpenedBySome, IsExtended}
use Rattle.pssm_plan.proofs.Taken.{taken_cases}
use Rattle.pssm_plan.proofs.Growing.{HasGrown, AddedWhere, AddedBy, grown_by_one}
use Rattle.pssm_plan.proofs.CalledPlaces.{region_owned_there, exit_there, enter_there, opening_there}

-- the items of a number
abbrev pub exit_of : ℕ → Item
exit_of n = let s : VertexId = record { 0 = n } in Exit s

abbrev pub entry_of : ℕ → Item
entry_of n = let s : VertexId = record { 0 = n } in Enter s

abbrev pub opening_of : Mode → ℕ → Item
opening_of mode n = let r : RegionId = record { 0 = n } in Opened r mode

-- those of the lower numbers that a way calls
abbrev pub CalledBelow : DraftMachine → Way → (ℕ → Item) → ℕ → Item → Type 0
CalledBelow m way item n x = AddedWhere item (λ k. calls_by m way (item k)) n x

-- the exits among them of what is active
abbrev pub ExitedBelow : DraftMachine → Configuration → Way → ℕ → Item → Type 0
ExitedBelow m now way n x =
    AddedWhere exit_of (λ k. (let s : VertexId = record { 0 = k } in now.Active s) × calls_by m way (exit_of k)) n x

-- the openings among them that open once more
abbrev pub ReopenedBelow : DraftMachine → List Call → Way → ℕ → Item → Type 0
ReopenedBelow m calls way n x = AddedWhere (opening_of Plain) (λ k. IsReopened m calls way (opening_of Plain k)) n x

-- with all numbers, they are all
module _ (m : DraftMachine) (way : Way) (n : ℕ) (x : Item) where
  pub exits_all : (now : Configuration) → length m.vertices ≤ n → ExitedBelow m now way n x ↔ IsExitBy m now way x
  exits_all now all = (
    λ h. (record { 0 = h.0 }, h.2.0, h.2.1.0, subst (calls_by m way) (sym h.2.0) h.2.1.1),
    λ h. let c = subst (calls_by m way) h.1 h.3 in let there = exit_there m way h.0 c in (h.0.0, omega (arith, there, all), (h.1, (h.2, c))),
  )

  pub entries_all : HasShape m → length m.vertices ≤ n → CalledBelow m way entry_of n x ↔ IsEntryBy m way x
  entries_all shape all = (
    λ h. (record { 0 = h.0 }, h.2.0, subst (calls_by m way) (sym h.2.0) h.2.1),
    λ h. let c = subst (calls_by m way) h.1 h.2 in let there = enter_there m way shape h.0 c in (h.0.0, omega (arith, there, all), (h.1, c)),
  )

  pub openings_all : HasShape m → (mode : Mode) → length m.regions ≤ n → CalledBelow m way (opening_of mode) n x ↔ IsOpeningBy m way mode x
  openings_all shape mode all = (
    λ h. (record { 0 = h.0 }, h.2.0, subst (calls_by m way) (sym h.2.0) h.2.1),
    λ h. let c = subst (calls_by m way) h.1 h.2 in let there = opening_there m way shape mode h.0 c in (h.0.0, omega (arith, there, all), (h.1, c)),
  )

  pub reopened_all : (calls : List Call) → length m.regions ≤ n → ReopenedBelow m calls way n x ↔ IsReopened m calls way x
  reopened_all calls all = (
    λ h. subst (IsReopened m calls way) (sym h.2.0) h.2.1,
    λ h. let there = region_owned_there m h.1 (State h.0) h.3 in (h.1.0, omega (arith, there, all), (h.2, subst (IsReopened m calls way) h.2 h)),
  )

-- what has run is the same
module _ (m : DraftMachine) (was now : List Call) (way : Way) (same : (x : Item) → IsMarked now x ↔ IsMarked was x) (x : Item) where
  pub reopened_same : IsReopened m now way x ↔ IsReopened m was way x
  reopened_same = (
    λ h. (h.0, h.1, h.2, h.3, (same (Enter h.0)).0 h.4, h.5),
    λ h. (h.0, h.1, h.2, h.3, (same (Enter h.0)).1 h.4, h.5),
  )

  pub late_same : (IsOtherBy m way x ⊎ IsReopened m now way x) ↔ IsLate m was way x
  late_same = (
    λ h. ⊎_elim (λ other. inl other) (λ again. inr (reopened_same.0 again)) h,
    λ h. ⊎_elim (λ other. inl other) (λ again. inr (reopened_same.1 again)) h,
  )

-- the opening of a region of which this is the owner opens once more
module _ (m : DraftMachine) (calls : List Call) (way : Way) (r : RegionId) (s : VertexId) (e : owner_of m (Region r) ≡ Some (State s)) where
  pub reopened_here : IsReopened m calls way (Opened r Plain) ↔ (opens_by m way s r × IsMarked calls (Enter s))
  reopened_here = (
    λ h. let same : h.1 ≡ r = (let is = h.2 in cc) in
        let there : owner_of m (Region r) ≡ Some (State h.0) = subst (λ (k : RegionId). owner_of m (Region k) ≡ Some (State h.0)) same h.3 in
        let one : h.0 ≡ s = cc (there, e) in (
          subst (λ (q : VertexId). opens_by m way q r) one (subst (λ (k : RegionId). opens_by m way h.0 k) same h.5),
          subst (λ (q : VertexId). IsMarked calls (Enter q)) one h.4,
        ),
    λ h. (s, r, refl, e, h.1, h.0),
  )

-- the kinds of items together
module _ (m : DraftMachine) (way : Way) where
  abbrev pub OneOfOthers : Item → Type 0
  OneOfOthers x =
      ((((IsEffectBy m way x ⊎ IsEntryBy m way x) ⊎ IsOpeningBy m way Plain x) ⊎ IsOpeningBy m way Shallow x) ⊎ IsOpeningBy m way Deep x)
      ⊎ IsPickBy m way x

  is_one_of : (x : Item) → IsOtherBy m way x → OneOfOthers x
  is_one_of (Exit s) h = absurd h.0
  is_one_of (Effect t) h = inl (inl (inl (inl (inl (t, refl, h.1)))))
  is_one_of (Enter s) h = inl (inl (inl (inl (inr (s, refl, h.1)))))
  is_one_of (Opened r Plain) h = inl (inl (inl (inr (r, refl, h.1))))
  is_one_of (Opened r Shallow) h = inl (inl (inr (r, refl, h.1)))
  is_one_of (Opened r Deep) h = inl (inr (r, refl, h.1))
  is_one_of (Pick c) h = inr (c, refl, h.1)

  pub others_are : (x : Item) → OneOfOthers x ↔ IsOtherBy m way x
  others_are x = (
    λ h. ⊎_elim (λ h4. ⊎_elim (λ h3. ⊎_elim (λ h2. ⊎_elim (λ h1. ⊎_elim
        (λ effect. (subst IsNoExit (sym effect.1) tt, effect.2))
        (λ entry. (subst IsNoExit (sym entry.1) tt, entry.2)) h1)
        (λ plain. (subst IsNoExit (sym plain.1) tt, plain.2)) h2)
        (λ shallow. (subst IsNoExit (sym shallow.1) tt, shallow.2)) h3)
        (λ deep. (subst IsNoExit (sym deep.1) tt, deep.2)) h4)
        (λ pick. (subst IsNoExit (sym pick.1) tt, pick.2)) h,
    is_one_of x,
  )

  may_run : (now : Configuration) (x : Item) → IsNoExit x → MayRun now x
  may_run now (Exit s) h = absurd h
  may_run now (Effect t) h = tt
  may_run now (Enter s) h = tt
  may_run now (Opened r mode) h = tt
  may_run now (Pick c) h = tt

  exit_or_other : (now : Configuration) (x : Item) → MayRun now x → calls_by m way x → IsExitBy m now way x ⊎ IsOtherBy m way x
  exit_or_other now (Exit s) h c = inl (s, refl, h, c)
  exit_or_other now (Effect t) h c = inr (tt, c)
  exit_or_other now (Enter s) h c = inr (tt, c)
  exit_or_other now (Opened r mode) h c = inr (tt, c)
  exit_or_other now (Pick c) h d = inr (tt, d)

  pub fired_are : (now : Configuration) (x : Item) → (IsExitBy m now way x ⊎ IsOtherBy m way x) ↔ (MayRun now x × calls_by m way x)
  fired_are now x = (
    λ h. ⊎_elim (λ exit. (subst (MayRun now) (sym exit.1) exit.2, exit.3)) (λ other. (may_run now x other.0, other.1)) h,
    λ h. exit_or_other now x h.0 h.1,
  )

-- the opening of the region, where this holds
abbrev pub OpenedIf : Mode → Type 0 → RegionId → Item → Type 0
OpenedIf mode Wanted r x = Wanted × (x ≡ Opened r mode)

-- its default opening by one of the ways
abbrev pub OpenedBySome : DraftMachine → List Way → VertexId → RegionId → Item → Type 0
OpenedBySome m ways s r x = (x ≡ Opened r Plain) × IsOpenedBySome m ways s r

-- what the regions of a State add
module _ (m : DraftMachine) (s : VertexId) (rs : List RegionId) (all : (r : RegionId) → Contains rs r ↔ (owner_of m (Region r) ≡ Some (State s))) where
  pub regions_all : (mode : Mode) (Wanted : Type 0) (x : Item) → AddedBy (OpenedIf mode Wanted) rs x ↔ (Wanted × IsOpeningOf m s mode x)
  regions_all mode Wanted x = (
    λ h. (h.2.0, (h.0, h.2.1, (all h.0).0 h.1)),
    λ h. (h.1.0, (all h.1.0).1 h.1.2, (h.0, h.1.1)),
  )

  pub defaults_all : (ways : List Way) (x : Item) → AddedBy (OpenedBySome m ways s) rs x ↔ IsDefaultOf m ways s x
  defaults_all ways x = (
    λ h. (h.0, h.2.0, (all h.0).0 h.1, h.2.1),
    λ h. (h.0, (all h.0).1 h.2, (h.1, h.3)),
  )

-- the openings of the regions of a State, where this is the one that was restored
abbrev pub OpenedAs : DraftMachine → VertexId → Restored → Item → Type 0
OpenedAs m s one x = (one.state ≡ s) × IsOpeningOf m s (restored_mode one.mode) x

-- what restored States call
module _ (m : DraftMachine) (s : VertexId) where
  pub of_restored : (was now : List Call) (mode opens : Mode) (first ran : Bool) → IsTrue first → ((x : Item) → IsMarked now x ↔ IsMarked was x)
      → opens ≡ restored_mode mode → (IsTrue ran ↔ IsMarked now (Enter s)) → (x : Item)
      → ((IsTrue first × (x ≡ Enter s)) ⊎ (IsTrue ran × IsOpeningOf m s opens x)) ↔ IsOfRestored m was mode s x
  of_restored was now mode opens first ran sure same e has x = (
    λ h. ⊎_elim
        (λ enter. inl enter.1)
        (λ it. inr ((same (Enter s)).0 (has.0 it.0), subst (λ (k : Mode). IsOpeningOf m s k x) e it.1))
        h,
    λ h. ⊎_elim
        (λ enter. inl (sure, enter))
        (λ it. inr (has.1 ((same (Enter s)).1 it.0), subst (λ (k : Mode). IsOpeningOf m s k x) (sym e) it.1))
        h,
  )

  same_one : (one : Restored) → one.state ≡ s → one ≡ record { mode = one.mode; state = s }
  same_one one e = ap (λ (q : VertexId). let r : Restored = record { mode = one.mode; state = q } in r) e

  pub restored_all : (restored : List Restored) (x : Item) → AddedBy (OpenedAs m s) restored x ↔ IsRestoredOf m restored s x
  restored_all restored x = (
    λ h. (h.0.mode, subst (Contains restored) (same_one h.0 h.2.0) h.1, h.2.1),
    λ h. (record { mode = h.0; state = s }, h.1, (refl, h.2)),
  )

  -- one more of them
  pub one_more_restored : (old : List Call) (restored : List Restored) (i : ℕ) (d : Restored) (calls new : List Call) (wanted : Bool) (opens : Mode)
      → i < length restored → (IsTrue wanted ↔ ((get_or restored i d).state ≡ s)) → opens ≡ restored_mode (get_or restored i d).mode
      → HasGrown m old (AddedBy (OpenedAs m s) (take i restored)) calls → IsLonger calls new
      → IsExtended m calls (λ x. IsTrue wanted × IsOpeningOf m s opens x) new
      → HasGrown m old (AddedBy (OpenedAs m s) (take (i + 1) restored)) new
  one_more_restored old restored i d calls new wanted opens lt same e h more g =
      grown_by_one m old (OpenedAs m s) (λ (x : Item). IsTrue wanted × IsOpeningOf m s opens x) restored i d calls new lt
      (λ x. (
        λ q. (same.1 q.0, subst (λ (k : Mode). IsOpeningOf m s k x) (sym e) q.1),
        λ w. (same.0 w.0, subst (λ (k : Mode). IsOpeningOf m s k x) e w.1),
      ))
      h more g

-- none of the listed items is one that the way calls
abbrev pub MeetsNone : DraftMachine → Way → List Call → Type 0
MeetsNone m way calls = (x : Item) → IsListed calls x → calls_by m way x → ⊥

pub none_met_more : (m : DraftMachine) (way : Way) (calls : List Call) (i : ℕ) (d : Call) (found : Bool) → i < length calls
    → (calls_by m way (get_or calls i d).item → IsTrue found) → found ≡ false → MeetsNone m way (take i calls) → MeetsNone m way (take (i + 1) calls)
none_met_more m way calls i d found lt same missed h x listed called =
    ⊎_elim
    (λ was. h x (listed.0, was, listed.2) called)
    (λ now. let is : x ≡ (get_or calls i d).item = (let e = listed.2 in cc (now, e)) in
    let met : found ≡ true = same (subst (calls_by m way) is called) in
    absurd (cc (met, missed)))
    (taken_cases calls i d listed.0 lt listed.1)
