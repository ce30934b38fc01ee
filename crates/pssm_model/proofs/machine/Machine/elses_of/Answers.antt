use Rattle.pssm_model.proofs.machine.Machine.elses_of.Goals as goal

pub returns-clause-items : goal.returns-clause-items
returns-clause-items c = rw (← c.self.view_is) c.list_of.ensures.items

pub returns-clause-there : goal.returns-clause-there
returns-clause-there c = rw (← c.self.view_is) c.list_of.ensures.there
