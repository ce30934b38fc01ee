use Rattle.pssm_numbering.specs.Lists.{is_listed}
use Rattle.pssm_drafting.proofs.OwnLaws.{own_fits}
use Rattle.pssm_drafting.proofs.places.number_of.Goals as goal

pub overflow_cast-result : goal.overflow_cast-result
overflow_cast-result c =
    own_fits (is_listed c.args.kind) c.args.file.now c.known_roles.ensures.counted c.requires.few
    c.args.numbering.now c.args.n c.own_place.result c.requires.same c.own_place.ensures
