use Rattle.pssm_plan.proofs.apart.leaves_fork.Goals as goal

pub returns : goal.returns
returns c = λ ok. (c.source.result, c.has_kind.ensures.0 ok, c.source.ensures.leaves)
