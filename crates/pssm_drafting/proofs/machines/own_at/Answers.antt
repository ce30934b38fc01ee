use Rattle.std.specs.Prelude.{get_or}
use Rattle.std.proofs.lemmas.Option.{slice_get-get_or}
use Rattle.pssm_numbering.specs.Numbering.{machines}
use Rattle.pssm_drafting.proofs.machines.own_at.Goals as goal

pub returns-clause-list : goal.returns-clause-list
returns-clause-list c =
    c.own.ensures.list (get_or (machines c.args.numbering.now) c.args.k 0)
    (slice_get-get_or (machines c.args.numbering.now) c.args.k 0 c.requires)
