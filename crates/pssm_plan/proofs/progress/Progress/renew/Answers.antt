use Rattle.pssm_plan.proofs.progress.Progress.renew.Goals as goal

pub fire_all-requires-clause-ways : goal.fire_all-requires-clause-ways
fire_all-requires-clause-ways c = rw c.as_slice-ways.ensures.value c.in_ok-add_ways.ensures.fired.inside

pub fire_all-requires-clause-none : goal.fire_all-requires-clause-none
fire_all-requires-clause-none c = c.clear.ensures.items
