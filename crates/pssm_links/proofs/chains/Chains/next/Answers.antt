-- the next slot is read off the slot
use Rattle.std.proofs.Common.{◌+◌, refl, arith}
use Rattle.pssm_links.proofs.Finding.{next-found}
use Rattle.pssm_links.proofs.Leaving.{slot-there}
use Rattle.pssm_links.proofs.chains.Chains.next.Goals as goal

pub index-requires : goal.index-requires
index-requires g c =
    let there = slot-there c.self.inside.slots.items c.self.inside.lists c.self.inside.unused (c.self.inside.unused + c.self.inside.fresh) c.args.self.now c.self.view_is (c.self.invariant.0, c.self.invariant.1)
    c.self.inside.slots.items refl c.args.slot c.requires.0 c.requires.1 c.requires.2 in
    omega (arith, there, c.self.inside.slots.ok.0)

pub returns : goal.returns
returns g c =
    next-found c.self.inside.slots.items c.self.inside.lists c.self.inside.unused (c.self.inside.unused + c.self.inside.fresh) c.args.self.now c.self.view_is (c.self.invariant.0, c.self.invariant.1) c.args.slot
    c.index.result.now c.slot_or_end.result c.index.ensures c.slot_or_end.ensures.end c.slot_or_end.ensures.slot
