-- In a step that has begun well a called item that has not run has a ready item at or before it.
use Rattle.std.proofs.Common.{◌⊎◌, ◌<◌, ℕ, zero, suc, List, subst, ⊎_elim, arith}
use Rattle.pssm_model.specs.declared.elements.DraftMachine.{DraftMachine}
use Rattle.pssm_model.specs.declared.steps.How.{How}
use Rattle.pssm_model.specs.declared.steps.Item.{Item}
use Rattle.pssm_model.specs.Shapes.{HasShape}
use Rattle.pssm_model.specs.WellFormed.{KeepsModelRules}
use Rattle.pssm_model.specs.Configuration.{Configuration}
use Rattle.pssm_model.specs.Course.{Head, Course, Leg}
use Rattle.pssm_model.specs.Items.{Before, IsWaiting, IsCleared, HasRunOut}
use Rattle.pssm_model.specs.Order.{HasGone, IsReady, IsAtOrBefore, course_by}
use Rattle.pssm_model.specs.Order.IsAtOrBefore.{at as here, before as further_on}
use Rattle.pssm_plan.specs.Steadiness.{BeginsWell}
use Rattle.pssm_plan.proofs.KnownRuns.{run_known}
use Rattle.pssm_plan.proofs.RouteRanks.{HasRank, strong_before, rank_of_earlier, placed}

module _ {m : DraftMachine} (shape : HasShape m) (rules : KeepsModelRules m) (head : Head) (now : Configuration)
    (begins : BeginsWell m head now) (ran : List (Item × How)) (gone : HasGone m head now ran) where
  abbrev this : Course
  this = course_by head now ran

  -- A chain of waiting items, followed back from the last one to what waits before each, ends.
  module _ (Goal : Type 0) (last : Item)
      (turn : (y : Item) → IsWaiting m this y → IsAtOrBefore m this y last
      → ((x : Item) → IsWaiting m this x → Before m this x y → Goal) → Goal) where
    abbrev ReachedAt : ℕ → ℕ → Type 0
    ReachedAt l j = (leg : Leg) (y : Item) → HasRank m this leg y l j → IsWaiting m this y → IsAtOrBefore m this y last → Goal

    -- with as many legs before it
    in_height : (l : ℕ) → ((k i : ℕ) → k < l → ReachedAt k i) → (n j : ℕ) → j < n → ReachedAt l j
    in_height l lower zero j lt leg y rank waits chain = absurd (omega arith)
    in_height l lower (suc n) j lt leg y rank waits chain =
        turn y waits chain (λ x on h. (
        let earlier = rank_of_earlier shape rules head now begins ran gone x y h on waits leg l j rank in
        let longer = further_on on.called h chain in
        ⊎_elim
        (λ less. lower earlier.fewer earlier.place less earlier.leg x earlier.rank on longer)
        (λ same. (
        let nearer = same.1 in
        let below : earlier.place < n = omega (arith, nearer, lt) in
        in_height l lower n earlier.place below earlier.leg x (subst (λ k. HasRank m this earlier.leg x k earlier.place) same.0 earlier.rank) on longer
        ))
        earlier.less
        ))

    in_any : (n k j : ℕ) → k < n → ReachedAt k j
    in_any zero k j lt leg y rank waits chain = absurd (omega arith)
    in_any (suc n) k j lt leg y rank waits chain =
        in_height k
        (λ l i less. in_any n l i (omega (arith, less, lt)))
        (suc j) j (omega arith) leg y rank waits chain

    back_from : (y : Item) → IsWaiting m this y → IsAtOrBefore m this y last → Goal
    back_from y waits chain =
        turn y waits chain (λ x on h. (
        let longer = further_on on.called h chain in
        ⊎_elim
        (λ rank. in_any (suc rank.1) rank.1 rank.2 (omega arith) rank.0 x rank.3 on longer)
        (λ first. turn x on longer (λ z z_on before. absurd (first z z_on before)))
        (placed shape rules head now begins ran gone x on (strong_before m this x y h))
        ))

  -- a called item that has not run does not lack a ready item at or before it
  not_stuck : (last : Item) → ((x : Item) → IsReady m this x → IsAtOrBefore m this x last → ⊥) → (y : Item) → IsWaiting m this y → IsAtOrBefore m this y last
      → ((x : Item) → IsWaiting m this x → Before m this x y → ⊥) → ⊥
  not_stuck last none y waits chain down =
      let cleared : IsCleared m this y = (λ x called h. ⊎_elim
      (λ has. has)
      (λ not. absurd (down x (record { called = called; not_run = not }) h))
      (run_known this x)) in
      none y (record { waiting = waits; cleared = cleared }) chain

  pub never_stuck : (item : Item) → IsWaiting m this item → ((x : Item) → IsReady m this x → IsAtOrBefore m this x item → ⊥) → ⊥
  never_stuck item waits none = back_from ⊥ item (not_stuck item none) item waits here

  -- where nothing is ready, everything called has run
  pub nothing_ready : ((x : Item) → IsReady m this x → ⊥) → HasRunOut m this
  nothing_ready none item called =
      ⊎_elim
      (λ has. has)
      (λ not. absurd (never_stuck item (record { called = called; not_run = not }) (λ x ready chain. none x ready)))
      (run_known this item)

  -- where it is known of each waiting item whether it is cleared or on which it waits, a ready one is found at or before each
  abbrev HasReady : Item → Type 0
  HasReady last = (x : Item) × IsReady m this x × IsAtOrBefore m this x last

  abbrev IsKnownOn : Item → Type 0
  IsKnownOn x = IsCleared m this x ⊎ ((y : Item) × IsWaiting m this y × Before m this y x)

  found_at : (last : Item) → ((x : Item) → IsWaiting m this x → IsKnownOn x) → (y : Item) → IsWaiting m this y → IsAtOrBefore m this y last
      → ((x : Item) → IsWaiting m this x → Before m this x y → HasReady last) → HasReady last
  found_at last known y waits chain down =
      ⊎_elim
      (λ cleared. (y, record { waiting = waits; cleared = cleared }, chain))
      (λ on. down on.0 on.1 on.2)
      (known y waits)

  pub ready_at_or_before : ((x : Item) → IsWaiting m this x → IsKnownOn x) → (item : Item) → IsWaiting m this item → HasReady item
  ready_at_or_before known item waits = back_from (HasReady item) item (found_at item known) item waits here
