use Rattle.std.proofs.Common.{◌↔◌, IsTrue, List, subst}
use Rattle.pssm_plan.specs.declared.ways.Way.{Way}
use Rattle.pssm_plan.specs.inner.Sequence.{IsSomeLong}
use Rattle.pssm_plan.proofs.ApartCalls.{rest_is}
use Rattle.pssm_plan.proofs.waiting.some_new_is_long.Goals as goal

pub returns : goal.returns
returns c =
    subst (λ (l : List Way). IsTrue c.some_is_long.result ↔ IsSomeLong l) (rest_is c.args.ways.now c.args.since.ways) c.some_is_long.ensures
