-- A class has a flat draft or a fault.
use Rattle.std.proofs.Common.{◌<◌, ℕ, List, [], length, map, refl, ⊎_elim, zero-add}
use Rattle.std.specs.List.{range_with_len}
use Rattle.std.proofs.lemmas.List.FromFn.{get_or-map-range_with_len, length-map-range_with_len}
use Rattle.pssm_model.specs.declared.draft_setting.Draft.{Draft}
use Rattle.pssm_model.specs.declared.draft_setting.DraftClass.{DraftClass}
use Rattle.pssm_model.specs.declared.draft_setting.FlatDraft.{FlatDraft}
use Rattle.pssm_model.specs.declared.draft_setting.ElementRef.{ElementRef}
use Rattle.pssm_model.specs.DraftSettings.{IsInRange, ClassInRange}
use Rattle.pssm_model.proofs.ElementLaws.{some_at}
use Rattle.pssm_heritage.specs.declared.kinds.ElementKind.TheVariants.{Vertex, Transition}
use Rattle.pssm_heritage.specs.declared.fault.RedefFault.{RedefFault}
use Rattle.pssm_heritage.specs.Heritages.{Lineage, IsLineage}
use Rattle.pssm_heritage.proofs.WalkLaws.{all_at}
use Rattle.pssm_heritage.proofs.SomeLineage.{lineage_or_circle}
use Rattle.pssm_breaches.proofs.SomeFault.{keeps_all}
use Rattle.pssm_redefine.specs.declared.groups.Numbered.{Numbered}
use Rattle.pssm_redefine.specs.declared.parts.Gathered.{Gathered}
use Rattle.pssm_redefine.specs.Groups.{AreGroups, forms_of}
use Rattle.pssm_redefine.specs.Gathering.{region_owner, vertex_owner, ends_in, numbered_of, IsGathered, IsFlattened}
use Rattle.pssm_redefine.specs.Flattening.{Flattens, IsFaultOfClass}
use Rattle.pssm_redefine.proofs.OneLaws.{circle_fault}
use Rattle.pssm_redefine.proofs.SomeMerged.{some_merged}

-- the forms of each number
some_groups : (count : ℕ) (numbered : List Numbered) → (groups : List (List ElementRef)) × AreGroups count numbered groups
some_groups count numbered = (
  map (forms_of numbered) (range_with_len 0 count),
  record {
    all = length-map-range_with_len (forms_of numbered) 0 count;
    forms = λ k lt. get_or-map-range_with_len (forms_of numbered) 0 count k k [] lt (zero-add k);
  },
)

some_gathered : (draft : Draft) (lineage : Lineage) → (gathered : Gathered) × IsGathered draft lineage gathered
some_gathered draft lineage =
    let vertices = some_groups (length lineage.vertices.firsts) (numbered_of draft Vertex lineage.vertices lineage.machines) in
    let transitions = some_groups (length lineage.transitions.firsts) (numbered_of draft Transition lineage.transitions lineage.machines) in (
      record {
        machines = lineage.machines;
        regions = map (region_owner draft lineage) lineage.regions.firsts;
        owners = map (vertex_owner draft lineage) lineage.vertices.firsts;
        vertices = vertices.0;
        ends = map (ends_in draft lineage) transitions.0;
        transitions = transitions.0;
      },
      record {
        machines = refl;
        regions = refl;
        owners = refl;
        vertices = vertices.1;
        ends = refl;
        transitions = transitions.1;
      },
    )

some_flattened : (draft : Draft) (class : DraftClass) (lineage : Lineage) → IsLineage draft class.machine lineage → (flat : FlatDraft) × IsFlattened draft class flat
some_flattened draft class lineage inherits =
    let gathered = some_gathered draft lineage in
    let merged = some_merged draft class gathered.0 in
    (merged.0, record { lineage = lineage; inherits = inherits; gathered = gathered.0; gathers = gathered.1; merged = merged.1 })

pub some_flat : (draft : Draft) (class : ℕ) → IsInRange draft → class < length draft.classes → ((flat : FlatDraft) → Flattens draft class flat → ⊥)
    → ((fault : RedefFault) → IsFaultOfClass draft class fault → ⊥) → ⊥
some_flat draft class range lt none_flat none_fault =
    let of = some_at draft.classes class lt in
    let in_range = all_at (ClassInRange draft) draft.classes class of.0 range.classes of.1 in
    ⊎_elim
    (λ known.
    let flat = some_flattened draft of.0 known.0 known.1 in
    none_flat flat.0 (record {
      of = of.0;
      is = of.1;
      keeps = keeps_all draft of.0.machine known.0.machines known.1.chain (λ fault has. none_fault fault (record { of = of.0; is = of.1; has = has }));
      flattened = flat.1;
    }))
    (λ told. none_fault told.0 (record { of = of.0; is = of.1; has = circle_fault draft of.0.machine told.0 told.1 }))
    (lineage_or_circle draft of.0.machine range in_range.machine)
