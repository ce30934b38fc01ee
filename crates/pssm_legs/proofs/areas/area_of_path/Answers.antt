-- where the leg exits and enters, by its first transition
use Rattle.pssm_legs.proofs.NoneSoFar.{refuted}
use Rattle.pssm_legs.proofs.AreasOfLegs.{internal_scope, local_scope, path_scope}
use Rattle.pssm_legs.proofs.areas.area_of_path.Goals as goal

pub returns-then-is_internal-clause-area : goal.returns-then-is_internal-clause-area
returns-then-is_internal-clause-area c p step begins chain =
    internal_scope c.regions-shaped.ensures.shaped c.requires.rules p step c.args.first begins c.args.further.now c.args.last chain c.source-source.result c.source-source.ensures.leaves
    (c.is_internal.ensures.0 c.if-is_internal.true)

pub returns-then-is_local_from-clause-area : goal.returns-then-is_local_from-clause-area
returns-then-is_local_from-clause-area c p step begins chain =
    let h = c.is_local_from.ensures.0 c.if-is_local_from.true in
    local_scope c.regions-shaped.ensures.shaped c.requires.rules p step c.args.first begins c.args.further.now c.args.last chain c.source-source.result c.source-source.ensures.leaves
    h.0 h.1

pub returns-else-is_local_from-clause-area : goal.returns-else-is_local_from-clause-area
returns-else-is_local_from-clause-area c p step begins chain =
    path_scope c.regions-shaped.ensures.shaped c.requires.rules p step c.args.first begins c.args.further.now c.args.last chain c.source-source.result c.source-source.ensures.leaves
    c.region_of_path.result (refuted _ c.if-is_internal.false c.is_internal.ensures)
    (λ goes k. refuted _ c.if-is_local_from.false c.is_local_from.ensures (goes, k)) c.region_of_path.ensures.region
