-- one step is a way where it ends on no junction or exit point; otherwise the search tells it
use Rattle.pssm_enabled.proofs.OneSearch.{first_found}
use Rattle.pssm_enabled.proofs.seeking.find_way.Goals as goal

pub returns-then-ends_inside-clause-found : goal.returns-then-ends_inside-clause-found
returns-then-ends_inside-clause-found g c values tells =
    first_found c.args.machine.now values c.args.within c.args.start c.args.search.now c.find_way_over.new.search c.find_way_over.result
    (c.requires.room (c.ends_inside.ensures.0 c.if-ends_inside.true)) (c.find_way_over.ensures.found values tells)
