-- each value has a slot of its own
use Rattle.pssm_pool.proofs.Linking.{have-slots, have-own}
use Rattle.pssm_pool.proofs.pools.Pools.own_slots.Goals as goal

pub returns-clause-each : goal.returns-clause-each
returns-clause-each c = have-slots c.self.inside.chains c.args.self.now c.self.view_is

pub returns-clause-own : goal.returns-clause-own
returns-clause-own c = have-own c.self.inside.chains c.args.self.now c.self.view_is c.own_slots.ensures.own
