-- the first slot is read off the end of the list
use Rattle.std.proofs.Common.{◌+◌}
use Rattle.pssm_links.proofs.Finding.{first-found}
use Rattle.pssm_links.proofs.chains.Chains.first.Goals as goal

pub returns : goal.returns
returns g c =
    first-found c.self.inside.slots.items c.self.inside.lists c.self.inside.unused (c.self.inside.unused + c.self.inside.fresh) c.args.self.now c.self.view_is (c.self.invariant.0, c.self.invariant.1) c.args.list
    c.index.result.now c.slot_or_end.result c.requires c.index.ensures c.slot_or_end.ensures.end c.slot_or_end.ensures.slot
