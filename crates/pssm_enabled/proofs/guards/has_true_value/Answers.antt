use Rattle.pssm_enabled.proofs.guards.has_true_value.Goals as goal
use Rattle.pssm_enabled.proofs.Guarded.{guard_of_when}

-- src/guards.rt:19:31
pub truth-requires : goal.truth-requires
truth-requires g c =
    c.requires.askable c.in-When.guard
    (guard_of_when c.args.machine.now c.args.t c.transition.result.now c.in-When.guard c.transition.ensures c.in-When.is)
