use Rattle.std.proofs.Common.{subst}
use Rattle.pssm_heritage.specs.inner.Walks.{IsLeast}
use Rattle.pssm_heritage.proofs.WalkLaws.{first_of_round}
use Rattle.pssm_heritage.proofs.chain.first_cyclic.Goals as goal

pub returns : goal.returns
returns c =
    first_of_round _ _ c.args.back c.least_of.result c.in_ok-round.round.path.items c.in_ok-round.round.back c.requires.reached c.requires.cyclic c.in_ok-round.ensures
    (subst (λ xs. IsLeast c.args.back xs c.least_of.result) c.as_slice.ensures.value c.least_of.ensures)
