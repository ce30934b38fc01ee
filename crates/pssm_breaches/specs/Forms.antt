-- The forms of an element: what is asked of each, and which comes last above a machine.
use Rattle.std.specs.Prelude.{◌≡◌, ◌<◌, ◌⊎◌, ℕ, Bool, false, List, []}
use Rattle.std.specs.Option.{option_map_or}
use Rattle.pssm_model.specs.declared.draft_setting.ElementRef.{ElementRef}
use Rattle.pssm_model.specs.declared.draft_setting.Draft.{Draft}
use Rattle.pssm_model.specs.declared.draft_setting.PartRegion.{PartRegion}
use Rattle.pssm_model.specs.declared.draft_setting.PartVertex.{PartVertex}
use Rattle.pssm_model.specs.declared.draft_setting.PartTransition.{PartTransition}
use Rattle.pssm_model.specs.DraftSettings.{region_of, vertex_of, transition_of, ExtendsFar}
use Rattle.pssm_heritage.specs.declared.kinds.ElementKind.{ElementKind}
use Rattle.pssm_heritage.specs.declared.kinds.ElementKind.TheVariants.{Region, Vertex, Transition}
use Rattle.pssm_heritage.specs.Becoming.{Became}

-- Whether it may not be redefined further (UML 2.5.1 9.2.3, isLeaf); of a region that is not asked.
abbrev pub is_leaf : Draft → ElementKind → ElementRef → Bool
is_leaf draft Region e = false
is_leaf draft Vertex e = option_map_or (λ (v : PartVertex). v.leaf) (vertex_of draft e) false
is_leaf draft Transition e = option_map_or (λ (t : PartTransition). t.leaf) (transition_of draft e) false

-- the id of an element
abbrev pub id_of : Draft → ElementKind → ElementRef → List ℕ
id_of draft Region e = option_map_or (λ (r : PartRegion). r.id) (region_of draft e) []
id_of draft Vertex e = option_map_or (λ (v : PartVertex). v.id) (vertex_of draft e) []
id_of draft Transition e = option_map_or (λ (t : PartTransition). t.id) (transition_of draft e) []

-- the byte where an element begins
abbrev pub begins_at : Draft → ElementKind → ElementRef → ℕ
begins_at draft Region e = option_map_or (λ (r : PartRegion). r.at) (region_of draft e) 0
begins_at draft Vertex e = option_map_or (λ (v : PartVertex). v.at) (vertex_of draft e) 0
begins_at draft Transition e = option_map_or (λ (t : PartTransition). t.at) (transition_of draft e) 0

-- Two elements are one in the flattened machine.
abbrev pub BecameSame : Draft → ElementKind → ElementRef → ElementRef → Type 0
BecameSame draft kind e f = (o : ElementRef) × Became draft kind e o × Became draft kind f o

-- Of two elements of a machine and those that it extends the first comes before the second: it stands in an extended machine, or earlier in the same list.
abbrev pub ComesBefore : Draft → ElementRef → ElementRef → Type 0
ComesBefore draft d e = ExtendsFar draft e.machine d.machine ⊎ ((d.machine ≡ e.machine) × (d.element < e.element))

-- Of the elements of machines that the machine extends, this is the last one that became the first form.
pub record IsLastAbove (draft : Draft) (kind : ElementKind) (m : ℕ) (first last : ElementRef) : Type 0 where
  pub above : ExtendsFar draft m last.machine
  pub became : Became draft kind last first
  pub no_later : (other : ElementRef) → ExtendsFar draft m other.machine → Became draft kind other first → ComesBefore draft last other → ⊥
