use Rattle.pssm_model.proofs.machine.Machine.scope.Goals as goal

pub returns-clause-none : goal.returns-clause-none
returns-clause-none c = rw (← c.self.view_is) c.scope.ensures.none
