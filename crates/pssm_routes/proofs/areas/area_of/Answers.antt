-- by the kind of the start
use Rattle.pssm_model.specs.declared.elements.TransKind.TheVariants.{External, Local, Internal}
use Rattle.pssm_routes.proofs.Spans.{goes_by}
use Rattle.pssm_enabled.proofs.StartLaws.{start_there}
use Rattle.pssm_routes.proofs.areas.area_of.Goals as goal

pub transition-requires : goal.transition-requires
transition-requires c = start_there c.args.machine.now c.args.route.now c.args.start c.requires.route.0 c.requires.start

pub returns-in-Internal-clause-area : goal.returns-in-Internal-clause-area
returns-in-Internal-clause-area c =
    (c.args.start, c.requires.start, goes_by c.args.machine.now c.args.start _ Internal c.transition.ensures c.in-Internal.is)

pub source-requires : goal.source-requires
source-requires c = start_there c.args.machine.now c.args.route.now c.args.start c.requires.route.0 c.requires.start

pub returns-in-Local-clause-area : goal.returns-in-Local-clause-area
returns-in-Local-clause-area c = (
  (c.args.start, c.requires.start, goes_by c.args.machine.now c.args.start _ Local c.transition.ensures c.in-Local.is),
  (c.args.start, c.requires.start, c.source.ensures.leaves),
)

pub region_of-requires-clause-external : goal.region_of-requires-clause-external
region_of-requires-clause-external c =
    (c.args.start, c.requires.start, goes_by c.args.machine.now c.args.start _ External c.transition.ensures c.in-External.is)
