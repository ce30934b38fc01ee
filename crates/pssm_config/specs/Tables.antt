-- The tables of a configuration, which configuration they hold, and when they fit a machine.
use Rattle.std.specs.Prelude.{◌≡◌, ◌↔◌, ◌<◌, ◌≤◌, ℕ, List, length, Bool, false, IsTrue, Option, Some, None, slice_index, slice_index_or}
use Rattle.pssm_model.specs.declared.ids.VertexId.{VertexId}
use Rattle.pssm_model.specs.declared.ids.RegionId.{RegionId}
use Rattle.pssm_model.specs.declared.elements.DraftMachine.{DraftMachine}
use Rattle.pssm_model.specs.Forest.{IsStateOrFinal}
use Rattle.pssm_model.specs.Shapes.{HasShape}
use Rattle.pssm_model.specs.Configuration.{Configuration, IsDirect, HasActiveFinal, do_steps_of}

-- the tables: by vertex whether it is active and how many do steps it has done since it was entered, and by region its active direct vertex, whether
-- that is a final state, the vertex that it remembers, and whether it is left empty (this profile's choice)
pub record Tables : Type 0 where
  pub active : List Bool
  pub steps : List ℕ
  pub held : List (Option VertexId)
  pub ended : List Bool
  pub remembered : List (Option VertexId)
  pub empty : List Bool

-- the direct vertex that the table of a region names as active, if it names one (UML 2.5.1 14.2.3.4, State configurations)
abbrev pub held_in : Tables → RegionId → Option VertexId
held_in tables r = slice_index_or tables.held r.0 None

-- the configuration that the tables hold (UML 2.5.1 14.2.3.4, State configurations)
abbrev pub configuration_of : Tables → Configuration
configuration_of tables = record {
  Active = λ s. IsTrue (slice_index_or tables.active s.0 false);
  Remembers = λ r s. slice_index_or tables.remembered r.0 None ≡ Some s;
  HasDoneStep = λ s k. k < slice_index tables.steps s.0;
  LeftEmpty = λ r. IsTrue (slice_index_or tables.empty r.0 false);
}

-- The tables have a place for each vertex and for each region of the machine (this profile's choice).
pub record AreAsWide (m : DraftMachine) (tables : Tables) : Type 0 where
  pub active : length tables.active ≡ length m.vertices
  pub steps : length tables.steps ≡ length m.vertices
  pub held : length tables.held ≡ length m.regions
  pub ended : length tables.ended ≡ length m.regions
  pub remembered : length tables.remembered ≡ length m.regions
  pub empty : length tables.empty ≡ length m.regions

-- The tables fit the machine: they have a place for each of its vertices and regions, what is active is a State or final state, each region names exactly
-- its active direct vertex, so that it has one at most, says exactly whether that is a final state, and remembers a direct vertex, and no State has done more
-- do steps than it has (UML 2.5.1 14.2.3.4, State configurations and State history)
pub record Fits (m : DraftMachine) (tables : Tables) : Type 0 where
  pub shape : HasShape m
  pub wide : AreAsWide m tables
  pub states : (s : VertexId) → (configuration_of tables).Active s → IsStateOrFinal m s
  pub held : (r : RegionId) (s : VertexId) → (held_in tables r ≡ Some s) ↔ (IsDirect m s r × (configuration_of tables).Active s)
  pub ended : (r : RegionId) → IsTrue (slice_index_or tables.ended r.0 false) ↔ HasActiveFinal m (configuration_of tables) r
  pub remembered : (r : RegionId) (s : VertexId) → (configuration_of tables).Remembers r s → IsDirect m s r
  pub steps : (s : VertexId) → slice_index tables.steps s.0 ≤ do_steps_of m s

-- The State or final state may become active: the region that it lies in directly has no active direct vertex
-- (UML 2.5.1 14.2.3.4, State configurations: at most one direct substate of a region is active).
pub record CanEnter (m : DraftMachine) (now : Configuration) (s : VertexId) : Type 0 where
  pub state : IsStateOrFinal m s
  pub vacant : (r : RegionId) (v : VertexId) → IsDirect m s r → IsDirect m v r → now.Active v → ⊥
