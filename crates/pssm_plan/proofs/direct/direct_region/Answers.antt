use Rattle.pssm_plan.proofs.NearItems.{first_in}
use Rattle.pssm_plan.proofs.direct.direct_region.Goals as goal

pub vertex-requires : goal.vertex-requires
vertex-requires c = (first_in c.args.way.now c.requires.way).last
