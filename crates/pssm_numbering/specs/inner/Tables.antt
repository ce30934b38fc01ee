-- The tables of a numbering, as far as they are filled: with what is known of the first elements.
use Rattle.std.specs.Prelude.{◌≡◌, ◌<◌, ◌≤◌, ℕ, Bool, ◌&&◌, List, length, filter, map, Option, Some, None, get_or, unwrap_or, option_map, if◌then◌else◌}
use Rattle.std.specs.List.{range_with_len}
use Rattle.std.specs.Option.{option_and_then}
use Rattle.pssm_roles.specs.declared.role.Role.{Role}
use Rattle.pssm_roles.specs.inner.Seen.{IsChildOf}
use Rattle.pssm_numbering.specs.inner.Children.{is_child_with}
use Rattle.pssm_numbering.specs.Numbering.{ModelFile, role_at, is_number, is_machine, machines, machine_within, machine_of, place_in}

-- ---- the machine of each element

-- The table has the machine of each of the first elements, in however many steps more than its number it is sought.
pub record AreMachines (file : ModelFile) (n : ℕ) (table : List (Option ℕ)) : Type 0 where
  pub count : length table ≡ n
  pub each : (m steps : ℕ) → m < n → m < steps → get_or table m None ≡ machine_within steps file m

-- ---- lists

-- the numbers that pass among the first ones
abbrev pub first_with : (ℕ → Bool) → ℕ → List ℕ
first_with passes n = filter passes (range_with_len 0 n)

-- the place of a number among those that pass, where it passes: as many as pass before it
abbrev pub spot : (ℕ → Bool) → ℕ → Option ℕ
spot passes n = if passes n then Some (length (first_with passes n)) else None

-- The numbers that pass among the first ones, and the place of each of these.
pub record AreListed (passes : ℕ → Bool) (n : ℕ) (listed : List ℕ) (noted : List (Option ℕ)) : Type 0 where
  pub list : listed ≡ first_with passes n
  pub places : noted ≡ map (spot passes) (range_with_len 0 n)

-- The element has such a role.
abbrev pub has_role : (Role → Bool) → ModelFile → ℕ → Bool
has_role is file n = is (role_at file n)

-- Of the children of an element with such a role those before the next child are listed; all where there is no next one.
pub record AreChildrenTo (file : ModelFile) (is : Role → Bool) (p : ℕ) (next : Option ℕ) (listed : List ℕ) : Type 0 where
  pub child : IsChildOf file.doc p next
  pub list : listed ≡ first_with (is_child_with is file p) (unwrap_or next (length file.doc))

-- ---- groups

-- The element has such a role, and its machine is this one.
abbrev pub is_own : (Role → Bool) → ModelFile → ℕ → ℕ → Bool
is_own is file m n = is (role_at file n) && is_number m (machine_of file n)

-- the elements of a machine with such a role among the first ones
abbrev pub first_own : (Role → Bool) → ModelFile → ℕ → ℕ → List ℕ
first_own is file n m = first_with (is_own is file m) n

-- the place of an element in the list of its machine, where it has such a role
abbrev pub own_spot : (Role → Bool) → ModelFile → ℕ → Option ℕ
own_spot is file n = option_and_then (λ m. spot (is_own is file m) n) (machine_of file n)

-- For each machine those of the first elements that have such a role, and the place of each of the first elements.
pub record AreGroups (file : ModelFile) (is : Role → Bool) (n : ℕ) (lists : List (List ℕ)) (noted : List (Option ℕ)) : Type 0 where
  pub rows : lists ≡ map (first_own is file n) (machines file)
  pub places : noted ≡ map (own_spot is file) (range_with_len 0 n)

-- the place that is kept; past the end of the list where none is
abbrev pub found_place : List ℕ → List (Option ℕ) → ℕ → ℕ
found_place list places n = unwrap_or (get_or places n None) (length list)

-- the place of the machine of an element that has such a role
abbrev pub row_of : (Role → Bool) → ModelFile → ℕ → Option ℕ
row_of is file n = if is (role_at file n) then option_map (place_in (machines file)) (machine_of file n) else None

-- ---- whole tables

-- The numbers that pass, of a whole file.
pub record HoldsList (file : ModelFile) (is : Role → Bool) (listed : List ℕ) (noted : List (Option ℕ)) : Type 0 where
  pub lists : AreListed (has_role is file) (length file.doc) listed noted
  pub roles : length file.roles ≡ length file.doc
  pub few : length file.doc ≤ 16777216

-- The machine of each element, and the list of machines.
pub record HoldsMachines (file : ModelFile) (table : List (Option ℕ)) (listed : List ℕ) (noted : List (Option ℕ)) : Type 0 where
  pub each : AreMachines file (length file.doc) table
  pub all : HoldsList file is_machine listed noted
