-- each start tells the anchor
use Rattle.pssm_routes.proofs.AnchorLaws.{anchor_made}
use Rattle.pssm_enabled.proofs.StartLaws.{start_there}
use Rattle.pssm_routes.proofs.areas.footprint_from.Goals as goal

pub anchor_of-source-requires-clause-there : goal.anchor_of-source-requires-clause-there
anchor_of-source-requires-clause-there c =
    start_there c.args.machine.now c.args.route.now c.args.start c.requires.route.0 c.requires.start

pub returns-clause-footprint : goal.returns-clause-footprint
returns-clause-footprint c = record {
  anchor = anchor_made c.regions-shaped.ensures.shaped c.requires.rules c.args.route.now c.requires.route c.args.start c.anchor_of-source.result
      c.requires.start c.anchor_of-source.ensures.anchor;
  area = c.area_of-area.ensures.area;
}
