use Rattle.pssm_plan.proofs.apart.enters_join.Goals as goal

pub returns : goal.returns
returns c = λ ok. (c.target.result, c.has_kind.ensures.0 ok, c.target.ensures.enters)
