use Rattle.pssm_values.proofs.BodyLaws.{seen_more}
use Rattle.pssm_values.proofs.bodies.BodyChoice.with_language.Goals as goal

pub returns : goal.returns
returns c languages bodies seen = seen_more c.args.self languages bodies c.args.language.now c.is_pssm.result c.first_place.result c.is_pssm.ensures c.first_place.ensures seen
