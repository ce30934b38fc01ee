-- a take comes with the first signal that is not deferred, if it has the number
use Rattle.std.proofs.Common.{sym, subst}
use Rattle.std.specs.Option.{option_copied}
use Rattle.pssm_system.specs.inner.Deferring.{ComesWith}
use Rattle.pssm_system.proofs.situation.Situation.signal_for.Goals as goal

pub returns-in-Take : goal.returns-in-Take
returns-in-Take c =
    subst (λ e. ComesWith c.args.setting.now c.args.self.now e (option_copied c.if_numbered.result)) (sym c.in-Take.is)
    (option_copied c.first_for.result, c.first_for.ensures, c.if_numbered.ensures)
