use Rattle.pssm_drafting.proofs.OwnLaws.{past_vertex}
use Rattle.pssm_drafting.proofs.places.no_place.Goals as goal

pub returns : goal.returns
returns c = past_vertex c.args.file.now c.known_roles.ensures.counted c.machine_count.result c.machine_count.ensures
