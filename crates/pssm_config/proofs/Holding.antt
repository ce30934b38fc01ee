-- What tables that fit a machine say.
use Rattle.std.proofs.Common.{◌≡◌, ◌<◌, Some, length, sym, ◌∙◌}
use Rattle.pssm_model.specs.declared.ids.VertexId.{VertexId}
use Rattle.pssm_model.specs.declared.ids.RegionId.{RegionId}
use Rattle.pssm_model.specs.declared.elements.DraftMachine.{DraftMachine}
use Rattle.pssm_model.specs.declared.elements.Owner.TheVariants.{Region, State}
use Rattle.pssm_model.specs.Forest.{owner_of, IsStateOrFinal}
use Rattle.pssm_model.specs.Configuration.{IsDirect}
use Rattle.pssm_config.specs.Tables.{Tables, Fits, configuration_of, held_in}
use Rattle.pssm_config.proofs.Putting.{in_table, state_within}

-- A vertex lies directly in one region.
pub same_owner : (m : DraftMachine) (s : VertexId) (r q : RegionId) → owner_of m (State s) ≡ Some (Region r) → owner_of m (State s) ≡ Some (Region q) → q ≡ r
same_owner m s r q a b = let same : Some (Region q) ≡ Some (Region r) = sym b ∙ a in cc

-- A region has one active direct vertex at most.
pub sole : (m : DraftMachine) (t : Tables) → Fits m t → (r : RegionId) (v s : VertexId) → IsDirect m v r → (configuration_of t).Active v
    → IsDirect m s r → (configuration_of t).Active s → v ≡ s
sole m t fits r v s dv av ds as_ =
    let one : held_in t r ≡ Some v = (fits.held r v).1 (dv, av) in
    let two : held_in t r ≡ Some s = (fits.held r s).1 (ds, as_) in
    let same : Some v ≡ Some s = sym one ∙ two in
    cc

-- A State has its place in the tables.
pub has_place : (m : DraftMachine) (t : Tables) → Fits m t → (s : VertexId) → IsStateOrFinal m s → s.0 < length t.active
has_place m t fits s state = in_table t.active (length m.vertices) s.0 fits.wide.active (state_within m s state)
