use Rattle.std.proofs.Common.{refl}
use Rattle.pssm_model.proofs.machine.Machine.top_regions.Goals as goal

pub returns-clause-items : goal.returns-clause-items
returns-clause-items c = rw (← c.self.view_is) (λ r. let h = c.list_of.ensures.items r in (λ in_it. (h.0 in_it).1, λ top. h.1 (refl, top)))

pub returns-clause-there : goal.returns-clause-there
returns-clause-there c = rw (← c.self.view_is) c.list_of.ensures.there
