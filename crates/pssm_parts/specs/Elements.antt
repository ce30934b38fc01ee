-- The elements of a machine: regions, vertices and transitions, field by field. Each is computed of any file, and says what the file means where it has no fault.
use Rattle.std.specs.Prelude.{ℕ, Bool, true, false, List, [], length, filter, map, Option, Some, None, unwrap_or, codes, if◌then◌else◌}
use Rattle.std.specs.Option.{option_map_or, option_and_then}
use Rattle.pssm_model.specs.declared.ids.SignalId.{SignalId}
use Rattle.pssm_model.specs.declared.ids.RegionId.{RegionId}
use Rattle.pssm_model.specs.declared.ids.VertexId.{VertexId}
use Rattle.pssm_model.specs.declared.elements.Owner.{Owner}
use Rattle.pssm_model.specs.declared.elements.Owner.TheVariants as owners
use Rattle.pssm_model.specs.declared.elements.VertexKind.{VertexKind}
use Rattle.pssm_model.specs.declared.elements.VertexKind.TheVariants as kinds
use Rattle.pssm_model.specs.declared.draft_setting.ElementRef.{ElementRef}
use Rattle.pssm_model.specs.declared.draft_setting.PartRegion.{PartRegion}
use Rattle.pssm_model.specs.declared.draft_setting.PartVertex.{PartVertex}
use Rattle.pssm_model.specs.declared.draft_setting.PartTransition.{PartTransition}
use Rattle.pssm_model.specs.declared.draft_setting.PartGuard.TheVariants as guards
use Rattle.pssm_model.specs.declared.draft_setting.End.{End}
use Rattle.pssm_model.specs.declared.draft_setting.End.TheVariants as ends
use Rattle.pssm_roles.specs.declared.role.Role.{Role}
use Rattle.pssm_roles.specs.declared.role.Role.TheVariants as role
use Rattle.pssm_values.specs.Kinds.{pseudostate_said, transition_spelled}
use Rattle.pssm_values.specs.Labels.{label_said}
use Rattle.pssm_numbering.specs.Numbering.{ModelFile, role_at, parent_of, child_with, place_in, own_place, signals, is_region, is_vertex, is_transition, is_guard}
use Rattle.pssm_numbering.specs.Kinds.{is_any_state}
use Rattle.pssm_numbering.specs.Lists.{ref_of}
use Rattle.pssm_numbering.specs.Meanings.{value, id_of, at_of, is_true, meant, redefined_vertex, waits_for}
use Rattle.pssm_parts.specs.Texts.{behaviour_named, guard_of}

-- ---- places

-- what owns the regions and vertices that stand in this element: it itself where it is a region or a vertex, and otherwise the machine
abbrev pub owner_at : ModelFile → ℕ → Owner
owner_at file p =
    let r : RegionId = record { 0 = own_place is_region file p } in
    let v : VertexId = record { 0 = own_place is_vertex file p } in
    if is_region (role_at file p) then owners.Region r else if is_vertex (role_at file p) then owners.State v else owners.Top

-- what owns a region or a vertex: the region or the vertex in which it stands, and the machine for a region of its own (UML 2.5.1 14.5.8 and 14.5.14)
abbrev pub owner_of : ModelFile → ℕ → Owner
owner_of file n = option_map_or (owner_at file) (parent_of file n) owners.Top

-- the place of an element that may be absent, where it is of the kind
abbrev pub ref_if : (Role → Bool) → ModelFile → Option ℕ → Option ElementRef
ref_if is file found = option_and_then (λ n. if is (role_at file n) then Some (ref_of is file n) else None) found

-- the signals, ascending and each once, for which triggers of this name wait
abbrev pub signals_at : List ℕ → ModelFile → ℕ → List SignalId
signals_at name file n = map (λ s. let g : SignalId = record { 0 = place_in (signals file) s } in g) (filter (waits_for name file n) (signals file))

-- ---- regions

-- a region (UML 2.5.1 14.5.8)
abbrev pub region_at : ModelFile → ℕ → PartRegion
region_at file n =
    record { id = id_of file n; at = at_of file n; owner = owner_of file n; extends = ref_if is_region file (meant (codes "extendedRegion") file n) }

-- ---- vertices

-- the kind of a vertex: that of a pseudostate and of a connection point is said by `kind` (UML 2.5.1 14.5.6, 14.5.7 and 14.5.9)
abbrev pub kind_of : ModelFile → ℕ → VertexKind
kind_of file n = by_role (role_at file n) where
  by_role : Role → VertexKind
  by_role role.State = kinds.State
  by_role role.FinalState = kinds.Final
  by_role _ = unwrap_or (pseudostate_said (value (codes "kind") file n)) kinds.Initial

-- a State, not a final one
abbrev pub is_state : Role → Bool
is_state role.State = true
is_state _ = false

-- the label of a State; only a State that is not final has one (this profile's choice)
abbrev pub label_of : ModelFile → ℕ → Option (List ℕ)
label_of file n = if is_state (role_at file n) then label_said (value (codes "name") file n) else None

-- a State or a final State (UML 2.5.1 14.5.9)
abbrev pub state_at : ModelFile → ℕ → PartVertex
state_at file n =
    record {
      id = id_of file n;
      at = at_of file n;
      owner = owner_of file n;
      kind = kind_of file n;
      label = label_of file n;
      entry = behaviour_named (codes "entry") file n;
      exit = behaviour_named (codes "exit") file n;
      steps = behaviour_named (codes "doActivity") file n;
      defers = signals_at (codes "deferrableTrigger") file n;
      redefines = ref_if is_vertex file (redefined_vertex file n);
      leaf = is_true (codes "isLeaf") file n;
      submachine = None;
      connections = [];
    }

-- a pseudostate or a connection point (UML 2.5.1 14.5.6)
abbrev pub pseudostate_at : ModelFile → ℕ → PartVertex
pseudostate_at file n =
    record {
      id = id_of file n;
      at = at_of file n;
      owner = owner_of file n;
      kind = kind_of file n;
      label = None;
      entry = None;
      exit = None;
      steps = None;
      defers = [];
      redefines = None;
      leaf = false;
      submachine = None;
      connections = [];
    }

-- a vertex
abbrev pub vertex_at : ModelFile → ℕ → PartVertex
vertex_at file n = if is_any_state (role_at file n) then state_at file n else pseudostate_at file n

-- ---- transitions

-- an end of a transition (UML 2.5.1 14.5.11, source and target)
abbrev pub end_at : List ℕ → ModelFile → ℕ → End
end_at name file n = ends.Vertex (ref_of is_vertex file (unwrap_or (meant name file n) (length file.doc)))

-- a transition (UML 2.5.1 14.5.11)
abbrev pub transition_at : ModelFile → ℕ → PartTransition
transition_at file n =
    record {
      id = id_of file n;
      at = at_of file n;
      source = end_at (codes "source") file n;
      target = end_at (codes "target") file n;
      kind = option_and_then transition_spelled (value (codes "kind") file n);
      triggers = signals_at (codes "trigger") file n;
      guard = option_map_or (guard_of file) (child_with is_guard file n) guards.Missing;
      effect = behaviour_named (codes "effect") file n;
      redefines = ref_if is_transition file (meant (codes "redefinedTransition") file n);
      leaf = is_true (codes "isLeaf") file n;
    }
