-- each turn climbs to the next State around
use Rattle.pssm_enabled.proofs.ListPlaces.{refuted}
use Rattle.pssm_routes.proofs.Spans.{nearing_begins, nearing_home, nearing_further, nearing_more, nearing_end}
use Rattle.pssm_routes.proofs.areas.state_beside.Goals as goal

pub loop-left-init : goal.loop-left-init
loop-left-init c = nearing_begins c.regions-shaped.ensures.shaped c.args.home c.args.v c.depth-left.result c.requires.there c.depth-left.ensures.depth

pub returns-then-is_home-clause-beside : goal.returns-then-is_home-clause-beside
returns-then-is_home-clause-beside c =
    nearing_home c.regions-shaped.ensures.shaped c.args.home c.args.v c.loop-left.at c.loop-left.left c.loop-left.invariant c.requires.beside
    (c.is_home.ensures.0 c.if-is_home.true)

pub outer_state-at-requires-clause-inside : goal.outer_state-at-requires-clause-inside
outer_state-at-requires-clause-inside c =
    nearing_further c.regions-shaped.ensures.shaped c.args.home c.args.v c.loop-left.at c.loop-left.left c.loop-left.invariant c.requires.beside
    (refuted c.is_home.result c.if-is_home.false c.is_home.ensures)

pub loop-left-preserved : goal.loop-left-preserved
loop-left-preserved c =
    nearing_more c.regions-shaped.ensures.shaped c.args.home c.args.v c.loop-left.at c.loop-left.left c.loop-left.invariant c.requires.beside
    (refuted c.is_home.result c.if-is_home.false c.is_home.ensures) c.outer_state-at.result c.outer_state-at.ensures.there c.outer_state-at.ensures.around
    c.outer_state-at.ensures.innermost

pub returns-clause-beside : goal.returns-clause-beside
returns-clause-beside c =
    nearing_end c.regions-shaped.ensures.shaped c.args.home c.args.v c.loop-left.at c.loop-left.left c.loop-left.invariant c.requires.beside
    c.loop-left-test.false
