-- Walking along extended machines, and noting their totals from the last one back.
use Rattle.std.specs.Prelude.{◌≡◌, ◌≢◌, ◌⊎◌, ◌<◌, ◌+◌, ℕ, List, [], ◌∷◌, ◌++◌, length, min, sum_by, AllPairs, Contains, Option, Some, None, IfSome, slice_index_or, slice_set}
use Rattle.std.specs.Option.{option_map_or}
use Rattle.pssm_totals.specs.Totals.{extended, count_at, IsTotal}
use Rattle.pssm_model.specs.DraftSettings.{most_elements}
use Rattle.pssm_totals.specs.declared.marks.Mark.{Mark}
use Rattle.pssm_totals.specs.declared.marks.Mark.TheVariants.{Unknown, Passed, Total}

-- what is noted of a machine
abbrev pub mark_at : List Mark → ℕ → Mark
mark_at marks m = slice_index_or marks m Unknown

-- the total in a note, or 0
abbrev pub total_in : Mark → ℕ
total_in (Total total) = total
total_in _ = 0

-- one where nothing is noted
abbrev pub one_if_unknown : Mark → ℕ
one_if_unknown Unknown = 1
one_if_unknown _ = 0

-- A total is noted of the machine.
abbrev pub IsDone : List Mark → ℕ → Type 0
IsDone marks m = (total : ℕ) × (mark_at marks m ≡ Total total)

-- the first of these machines, or else what comes behind them
abbrev pub first_or : List ℕ → Option ℕ → Option ℕ
first_or [] next = next
first_or (m ∷ path) next = Some m

-- Each machine extends the one behind it, and the last one the next, if there is one.
abbrev pub IsWay : List (Option ℕ) → List ℕ → Option ℕ → Type 0
IsWay extends [] next = Unit {0}
IsWay extends (m ∷ path) next = (extended extends m ≡ first_or path next) × IsWay extends path next

-- The machines of the path are those that were passed, and what a machine with a total extends has a total.
pub record AreMarks (extends : List (Option ℕ)) (marks : List Mark) (path : List ℕ) : Type 0 where
  pub width : length marks ≡ length extends
  pub passed : (m : ℕ) → Contains path m → mark_at marks m ≡ Passed
  pub on_path : (m : ℕ) → mark_at marks m ≡ Passed → Contains path m
  pub different : AllPairs (λ a b. a ≢ b) path
  pub closed : (m base : ℕ) → IsDone marks m → extended extends m ≡ Some base → IsDone marks base

-- The totals that are noted are right.
pub record AreRight (extends : List (Option ℕ)) (own : List ℕ) (marks : List Mark) : Type 0 where
  pub right : (m total : ℕ) → mark_at marks m ≡ Total total → IsTotal extends own m total

-- Totals that were noted stay.
pub record KeepsTotals (old new : List Mark) : Type 0 where
  pub kept : (m total : ℕ) → mark_at old m ≡ Total total → mark_at new m ≡ Total total

-- Of the next machine nothing is noted; or there is none such.
abbrev pub IsNextUnknown : List Mark → Option ℕ → Option ℕ → Type 0
IsNextUnknown marks next None = IfSome next (λ at. mark_at marks at ≢ Unknown)
IsNextUnknown marks next (Some at) = (next ≡ Some at) × (mark_at marks at ≡ Unknown)

-- what is known on the way from a machine
pub record IsWalking (extends : List (Option ℕ)) (old marks : List Mark) (m : ℕ) (path : List ℕ) (next : Option ℕ) : Type 0 where
  pub noted : AreMarks extends marks path
  pub way : IsWay extends path next
  pub within : IfSome next (λ at. at < length extends)
  pub start : Contains path m ⊎ (next ≡ Some m)
  pub kept : KeepsTotals old marks
  pub no_more : KeepsTotals marks old

-- The path is a way, and something is noted of the machine where it leads, if there is one.
pub record IsOpenWay (extends : List (Option ℕ)) (marks : List Mark) (path : List ℕ) (next : Option ℕ) : Type 0 where
  pub noted : AreMarks extends marks path
  pub way : IsWay extends path next
  pub known : IfSome next (λ at. mark_at marks at ≢ Unknown)

-- The way from a machine was walked to its end, or to a machine of which something is noted.
pub record HasWalked (extends : List (Option ℕ)) (old marks : List Mark) (m : ℕ) (path : List ℕ) (next : Option ℕ) : Type 0 where
  pub open_way : IsOpenWay extends marks path next
  pub start : Contains path m ⊎ IsDone marks m
  pub kept : KeepsTotals old marks
  pub no_more : KeepsTotals marks old

-- where the way came back to one of its own machines
abbrev pub IsCircleAt : List Mark → Option ℕ → Option ℕ → Type 0
IsCircleAt marks next None = IfSome next (λ at. mark_at marks at ≢ Passed)
IsCircleAt marks next (Some at) = (next ≡ Some at) × (mark_at marks at ≡ Passed)

-- the total of the machine that a machine extends, or 0
abbrev pub above : List (Option ℕ) → List Mark → ℕ → ℕ
above extends marks m = option_map_or (λ base. total_in (mark_at marks base)) (extended extends m) 0

-- the notes with the total of one machine more
abbrev pub with_total : List (Option ℕ) → List ℕ → List Mark → ℕ → List Mark
with_total extends own marks m = slice_set marks m (Total (min (most_elements + 1) (count_at own m + above extends marks m)))

-- The path leads to no machine, or to one with a total.
pub record LeadsToDone (extends : List (Option ℕ)) (marks : List Mark) (path : List ℕ) : Type 0 where
  pub next : Option ℕ
  pub way : IsWay extends path next
  pub done : IfSome next (IsDone marks)

-- what is known while totals are noted, where the path is still open
pub record IsSettling (extends : List (Option ℕ)) (own : List ℕ) (marks : List Mark) (path : List ℕ) : Type 0 where
  pub noted : AreMarks extends marks path
  pub right : AreRight extends own marks
  pub leads : LeadsToDone extends marks path

-- Each machine of the path is still open or has a total.
pub record AreOpenOrDone (marks : List Mark) (path open_path : List ℕ) : Type 0 where
  pub either : (m : ℕ) → Contains path m → Contains open_path m ⊎ IsDone marks m

-- The machines have this note, and the others have their old ones.
pub record IsFilled (old new : List Mark) (machines : List ℕ) (mark : Mark) : Type 0 where
  pub width : length new ≡ length old
  pub inside : (m : ℕ) → Contains machines m → mark_at new m ≡ mark
  pub outside : (m : ℕ) → (Contains machines m → ⊥) → mark_at new m ≡ mark_at old m

-- The part of the path from a machine on was taken off, and its machines have its sum.
pub record HasClosed (own : List ℕ) (old new : List Mark) (path : List ℕ) (m : ℕ) (rest : List ℕ) : Type 0 where
  pub others : List ℕ
  pub cut : path ≡ rest ++ m ∷ others
  pub filled : IsFilled old new (m ∷ others) (Total (min (most_elements + 1) (sum_by (count_at own) (m ∷ others))))
