use Rattle.std.proofs.Common.{length, sym, ◌∙◌}
use Rattle.std.proofs.lemmas.Bool.{eqb-true}
use Rattle.pssm_judge.proofs.RoomLaws.{no_items}
use Rattle.pssm_judge.proofs.room.start_route.Goals as goal

pub returns-clause-rest : goal.returns-clause-rest
returns-clause-rest c = λ yes.
    sym c.as_slice.ensures ∙ no_items c.as_slice.result.now (eqb-true (length c.as_slice.result.now) 0 (sym c.is_empty.ensures ∙ c.if-not-is_empty.false))
