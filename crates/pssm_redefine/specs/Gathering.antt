-- What is gathered of a machine and of those that it extends, by the numbers of the flattened machine.
use Rattle.std.specs.Prelude.{◌≡◌, ℕ, ◌-◌, List, map, length, Option, Some, None, option_map, option_and_then, slice_get, nat_lt, if◌then◌else◌}
use Rattle.std.specs.List.{filter_map, flat_map}
use Rattle.std.specs.Option.{option_map_or}
use Rattle.pssm_model.specs.declared.ids.VertexId.{VertexId}
use Rattle.pssm_model.specs.declared.elements.Owner.{Owner}
use Rattle.pssm_model.specs.declared.elements.Owner.TheVariants as owners
use Rattle.pssm_model.specs.declared.draft_setting.ElementRef.{ElementRef}
use Rattle.pssm_model.specs.declared.draft_setting.Draft.{Draft}
use Rattle.pssm_model.specs.declared.draft_setting.PartRegion.{PartRegion}
use Rattle.pssm_model.specs.declared.draft_setting.PartVertex.{PartVertex}
use Rattle.pssm_model.specs.declared.draft_setting.PartTransition.{PartTransition}
use Rattle.pssm_model.specs.declared.draft_setting.End.{End}
use Rattle.pssm_model.specs.declared.draft_setting.End.TheVariants as ends
use Rattle.pssm_model.specs.DraftSettings.{region_of, vertex_of, transition_of}
use Rattle.pssm_heritage.specs.declared.kinds.ElementKind.{ElementKind}
use Rattle.pssm_heritage.specs.declared.kinds.ElementKind.TheVariants as kinds
use Rattle.pssm_heritage.specs.Numbers.{own_elements}
use Rattle.pssm_heritage.specs.Heritages.{Numbering, number_in, Lineage, IsLineage}
use Rattle.pssm_redefine.specs.declared.groups.Numbered.{Numbered}
use Rattle.pssm_redefine.specs.declared.parts.Ends.{Ends}
use Rattle.pssm_redefine.specs.declared.parts.Gathered.{Gathered}
use Rattle.pssm_redefine.specs.Merging.{IsMerged}
use Rattle.pssm_model.specs.declared.draft_setting.DraftClass.{DraftClass}
use Rattle.pssm_model.specs.declared.draft_setting.FlatDraft.{FlatDraft}
use Rattle.pssm_redefine.specs.Groups.{AreGroups}

-- ---- where elements stand

-- the number, and 65,535 where there is none: numbers are 0 to 65,534 (this profile's choice)
abbrev pub number_or_none : Option ℕ → ℕ
number_or_none None = 65535
number_or_none (Some n) = if nat_lt n 65535 then n else 65535

-- an owner in this machine, in numbers of the flattened machine
abbrev pub owner_in : Lineage → ℕ → Owner → Owner
owner_in lineage m owners.Top = owners.Top
owner_in lineage m (owners.Region r) = owners.Region (record { 0 = number_or_none (number_in lineage.regions (record { machine = m; element = r.0 })) })
owner_in lineage m (owners.State v) = owners.State (record { 0 = number_or_none (number_in lineage.vertices (record { machine = m; element = v.0 })) })

-- the owner of a region, that of its first form
abbrev pub region_owner : Draft → Lineage → ElementRef → Owner
region_owner draft lineage first = option_map_or (λ (r : PartRegion). owner_in lineage first.machine r.owner) (region_of draft first) owners.Top

-- the owner of a vertex
abbrev pub vertex_owner : Draft → Lineage → ElementRef → Owner
vertex_owner draft lineage first = option_map_or (λ (v : PartVertex). owner_in lineage first.machine v.owner) (vertex_of draft first) owners.Top

-- the number that no vertex has
abbrev pub no_vertex : VertexId
no_vertex = record { 0 = 65535 }

-- an end of a transition; one outside of the machines is no vertex
abbrev pub end_in : Lineage → End → VertexId
end_in lineage (ends.Vertex ref) = record { 0 = number_or_none (number_in lineage.vertices ref) }
end_in lineage (ends.Connection of_state index) = no_vertex

-- the source of the first form, and the target of the last one (UML 2.5.1 14.3.3)
abbrev pub ends_in : Draft → Lineage → List ElementRef → Ends
ends_in draft lineage forms = record {
  source = option_map_or (λ (t : PartTransition). end_in lineage t.source) (option_and_then (transition_of draft) (slice_get forms 0)) no_vertex;
  target = option_map_or (λ (t : PartTransition). end_in lineage t.target) (option_and_then (transition_of draft) (slice_get forms (length forms - 1))) no_vertex;
}

-- ---- forms

-- an element with its number, where it has one
abbrev pub with_number : Numbering → ElementRef → Option Numbered
with_number numbering e = option_map (λ n. let one : Numbered = record { element = e; number = n } in one) (number_in numbering e)

-- the elements of the machines of a chain, each with its number
abbrev pub numbered_of : Draft → ElementKind → Numbering → List ℕ → List Numbered
numbered_of draft kind numbering machines = flat_map (λ m. filter_map (with_number numbering) (own_elements draft kind m)) machines

-- ---- the whole

-- what is gathered of a machine and of those that it extends
pub record IsGathered (draft : Draft) (lineage : Lineage) (gathered : Gathered) : Type 0 where
  pub machines : gathered.machines ≡ lineage.machines
  pub regions : gathered.regions ≡ map (region_owner draft lineage) lineage.regions.firsts
  pub owners : gathered.owners ≡ map (vertex_owner draft lineage) lineage.vertices.firsts
  pub vertices : AreGroups (length lineage.vertices.firsts) (numbered_of draft kinds.Vertex lineage.vertices lineage.machines) gathered.vertices
  pub ends : gathered.ends ≡ map (ends_in draft lineage) gathered.transitions
  pub transitions : AreGroups (length lineage.transitions.firsts) (numbered_of draft kinds.Transition lineage.transitions lineage.machines) gathered.transitions

-- The flat draft of a class: its machine with all that it inherits, as one machine (UML 2.5.1 14.3.3).
pub record IsFlattened (draft : Draft) (class : DraftClass) (flat : FlatDraft) : Type 0 where
  pub lineage : Lineage
  pub inherits : IsLineage draft class.machine lineage
  pub gathered : Gathered
  pub gathers : IsGathered draft lineage gathered
  pub merged : IsMerged draft class gathered flat
