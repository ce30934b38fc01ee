-- The first fault of the references that were asked so far.
use Rattle.std.specs.Prelude.{◌+◌, ◌*◌, ℕ, zero, suc, Bool, true, false, List, Option, Some, None, fold, ltb, if◌then◌else◌}
use Rattle.pssm_roles.specs.References.{references}
use Rattle.pssm_numbering.specs.Numbering.{ModelFile, role_at}
use Rattle.pssm_numbering.specs.Meanings.{at_of}
use Rattle.pssm_unmet.specs.declared.following.Target.{Target}
use Rattle.pssm_unmet.specs.declared.following.Followed as stored
use Rattle.pssm_unmet.specs.declared.unmet.Unmet.{Unmet}
use Rattle.pssm_unmet.specs.declared.unmet.Unmet.TheVariants as unmet
use Rattle.pssm_unmet.specs.References.{Followed, followed, followed_of, is_known, means_other_event}
use Rattle.pssm_unmet.specs.Unmet.{byte_of, place_of}

-- what is stored so
abbrev pub named : stored.Followed → Followed
named f = followed f.name.now f.target

-- the fault of this kind at this byte
abbrev pub fault_at : Bool → ℕ → Unmet
fault_at true byte = unmet.Event byte
fault_at false byte = unmet.Unknown byte

-- what is wrong with a reference of an element; none where it means what it may mean
abbrev pub unmet_at : ModelFile → Target → ℕ → ℕ × List ℕ → Option Unmet
unmet_at file target n r =
    if is_known file target n r.1 then None else Some (fault_at (means_other_event file target r.1) (at_of file r.0))

-- by bytes, and at one byte by place
abbrev pub order : Unmet → ℕ
order u = 2 * byte_of u + place_of u

-- the earlier of two; the first where they are at one place
abbrev pub earlier : Option Unmet → Option Unmet → Option Unmet
earlier None other = other
earlier (Some one) None = Some one
earlier (Some one) (Some other) = if ltb (order other) (order one) then Some other else Some one

-- with one more reference of an element
abbrev pub with_reference : ModelFile → Target → ℕ → Option Unmet → ℕ × List ℕ → Option Unmet
with_reference file target n so_far r = earlier so_far (unmet_at file target n r)

-- with those that an element has under one more name
abbrev pub with_name : ModelFile → ℕ → Option Unmet → Followed → Option Unmet
with_name file n so_far f = fold (with_reference file f.target n) so_far (references file.doc n f.name)

-- with those of one more element
abbrev pub with_element : ModelFile → Option Unmet → ℕ → Option Unmet
with_element file so_far n = fold (with_name file n) so_far (followed_of (role_at file n))

-- the first of the elements before this one
abbrev pub first_before : ModelFile → ℕ → Option Unmet
first_before file zero = None
first_before file (suc n) = with_element file (first_before file n) n
