-- where the signal does not wait, the take has none
use Rattle.std.proofs.Common.{ap, ◌∙◌}
use Rattle.std.specs.Option.{option_copied}
use Rattle.pssm_system.proofs.Pools.{taken-none}
use Rattle.pssm_system.proofs.pooling.taken_signal.Goals as goal

pub returns-in_err-slot-in-Take : goal.returns-in_err-slot-in-Take
returns-in_err-slot-in-Take c =
    let said = c.in_err-slot-in-Take.ensures in
    ap option_copied c.from_residual.ensures
    ∙ taken-none c.args.pools.now.waiting c.args.entry.now c.in-Take.object c.in-Take.number c.in-Take.firing c.in-Take.is said.none
