-- the item is the exit
use Rattle.std.proofs.Common.{sym, subst}
use Rattle.pssm_legs.specs.inner.Callers.{TellsOrder}
use Rattle.pssm_legs.proofs.callers.is_before_one.Goals as goal

pub returns-in-Exit : goal.returns-in-Exit
returns-in-Exit c =
    subst (λ x. TellsOrder c.args.machine.now c.args.legs.now c.args.fires x c.args.second c.is_exited_before_one.result) (sym c.in-Exit.is)
    c.is_exited_before_one.ensures
