-- The kinds of elements that a machine has lists of, and the place of an element in them.
use Rattle.std.specs.Prelude.{ℕ, Bool, length}
use Rattle.std.specs.Option.{option_map_or}
use Rattle.pssm_model.specs.declared.draft_setting.ElementRef.{ElementRef}
use Rattle.pssm_roles.specs.declared.role.Role.{Role}
use Rattle.pssm_numbering.specs.declared.groups.ListKind.{ListKind}
use Rattle.pssm_numbering.specs.declared.groups.ListKind.TheVariants as list
use Rattle.pssm_numbering.specs.Numbering.{ModelFile, machines, machine_of, own_place, place_in, is_region, is_vertex, is_transition}

-- An element with this role is of the kind.
abbrev pub is_listed : ListKind → Role → Bool
is_listed list.Region = is_region
is_listed list.Vertex = is_vertex
is_listed list.Transition = is_transition

-- the place of an element of a kind: that of its machine, and its own in the machine's list
abbrev pub ref_of : (Role → Bool) → ModelFile → ℕ → ElementRef
ref_of is file n = record { machine = option_map_or (place_in (machines file)) (machine_of file n) (length (machines file)); element = own_place is file n }
