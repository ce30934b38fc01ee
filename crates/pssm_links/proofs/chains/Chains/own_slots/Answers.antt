-- a slot stands in at most one row, once
use Rattle.std.proofs.Common.{◌+◌}
use Rattle.pssm_links.proofs.Finding.{own-slots, short-list}
use Rattle.pssm_links.proofs.chains.Chains.own_slots.Goals as goal

pub returns-clause-own : goal.returns-clause-own
returns-clause-own g c = own-slots c.self.inside.slots.items c.self.inside.lists c.self.inside.unused (c.self.inside.unused + c.self.inside.fresh) c.args.self.now c.self.view_is (c.self.invariant.0, c.self.invariant.1)

pub returns-clause-short : goal.returns-clause-short
returns-clause-short g c = short-list c.self.inside.slots.items c.self.inside.lists c.self.inside.unused (c.self.inside.unused + c.self.inside.fresh) c.args.self.now c.self.view_is (c.self.invariant.0, c.self.invariant.1)
