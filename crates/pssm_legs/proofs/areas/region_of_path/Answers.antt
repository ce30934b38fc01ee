-- the point at which the path begins or ends tells the State, and else all vertices are asked
use Rattle.std.proofs.Common.{inl, inr}
use Rattle.pssm_model_laws.proofs.Through.{source_there, target_there, entry_inside}
use Rattle.pssm_legs.proofs.NoneSoFar.{refuted}
use Rattle.pssm_legs.proofs.PathRegions.{leaves_there, enters_there, path_ends, path_enters, path_shares, exit_begins_inside}
use Rattle.pssm_legs.proofs.areas.region_of_path.Goals as goal

pub has_kind-entry-requires : goal.has_kind-entry-requires
has_kind-entry-requires c = source_there c.regions-shaped.ensures.shaped c.args.first c.args.source c.requires.source

pub has_kind-exit-requires : goal.has_kind-exit-requires
has_kind-exit-requires c =
    let end = path_ends c.args.machine.now c.args.first c.args.further.now c.args.last c.requires.path in
    target_there c.regions-shaped.ensures.shaped end.0 c.args.last end.2

pub target-target-requires : goal.target-target-requires
target-target-requires c = leaves_there c.args.machine.now c.args.first c.args.source c.requires.source

pub region_at-requires-clause-point : goal.region_at-requires-clause-point
region_at-requires-clause-point c = inl (c.has_kind-entry.ensures.0 c.if-entry.true)

pub region_at-requires-clause-inside : goal.region_at-requires-clause-inside
region_at-requires-clause-inside c s own =
    entry_inside c.requires.rules c.regions-shaped.ensures.shaped c.args.source s c.target-target.result c.args.first (c.has_kind-entry.ensures.0 c.if-entry.true) own
    c.requires.source c.target-target.ensures.enters

pub region_at-requires-then-exit-clause-point : goal.region_at-requires-then-exit-clause-point
region_at-requires-then-exit-clause-point c = inr (c.has_kind-exit.ensures.0 c.if-exit.true)

pub region_at-requires-then-exit-clause-vertex : goal.region_at-requires-then-exit-clause-vertex
region_at-requires-then-exit-clause-vertex c = source_there c.regions-shaped.ensures.shaped c.args.first c.args.source c.requires.source

pub region_at-requires-then-exit-clause-inside : goal.region_at-requires-then-exit-clause-inside
region_at-requires-then-exit-clause-inside c s own =
    exit_begins_inside c.regions-shaped.ensures.shaped c.requires.rules c.args.first c.args.further.now c.args.source c.args.last s
    (c.has_kind-exit.ensures.0 c.if-exit.true) own c.requires.source c.requires.path

pub common_region-requires-clause-path : goal.common_region-requires-clause-path
common_region-requires-clause-path c t h =
    let end = path_enters c.args.machine.now c.args.first t c.args.further.now c.args.last c.requires.path h in
    enters_there c.args.machine.now t end.0 end.1

pub common_region-requires-clause-shared : goal.common_region-requires-clause-shared
common_region-requires-clause-shared c t v h e =
    path_shares c.regions-shaped.ensures.shaped c.requires.rules c.args.first t c.args.further.now c.args.source c.args.last v c.requires.source c.requires.path h e

pub returns-then-entry-clause-region : goal.returns-then-entry-clause-region
returns-then-entry-clause-region c =
    inl (c.has_kind-entry.ensures.0 c.if-entry.true, (c.target-target.result, c.target-target.ensures.enters, c.region_at.ensures.region))

pub returns-then-exit-clause-region : goal.returns-then-exit-clause-region
returns-then-exit-clause-region c =
    inr (inl (refuted _ c.if-entry.false c.has_kind-entry.ensures, c.has_kind-exit.ensures.0 c.if-exit.true, c.region_at-then-exit.ensures.region))

pub returns-else-exit-clause-region : goal.returns-else-exit-clause-region
returns-else-exit-clause-region c =
    inr (inr (refuted _ c.if-entry.false c.has_kind-entry.ensures, refuted _ c.if-exit.false c.has_kind-exit.ensures, c.common_region.ensures.scope))
