-- the value is read off the slot
use Rattle.std.proofs.Common.{◌+◌, IsSome, refl, sym, subst, ◌∙◌, arith}
use Rattle.pssm_links.proofs.Finding.{value-found}
use Rattle.pssm_links.proofs.Leaving.{take-some, take-is, slot-there}
use Rattle.pssm_links.proofs.chains.Chains.get.Goals as goal

pub index-requires : goal.index-requires
index-requires g c =
    let there = slot-there c.self.inside.slots.items c.self.inside.lists c.self.inside.unused (c.self.inside.unused + c.self.inside.fresh) c.args.self.now c.self.view_is (c.self.invariant.0, c.self.invariant.1)
    c.self.inside.slots.items refl c.args.slot c.requires.0 c.requires.1 c.requires.2 in
    omega (arith, there, c.self.inside.slots.ok.0)

pub unreachable-requires : goal.unreachable-requires
unreachable-requires g c =
    let is = value-found c.self.inside.slots.items c.self.inside.lists c.self.inside.unused (c.self.inside.unused + c.self.inside.fresh) c.args.self.now c.self.view_is (c.self.invariant.0, c.self.invariant.1) c.args.slot
    c.index.result.now c.index.ensures c.requires.0 c.requires.1 c.requires.2 in
    let held = take-is c.self.inside.slots.items c.self.inside.lists c.self.inside.unused (c.self.inside.unused + c.self.inside.fresh) c.args.self.now c.self.view_is (c.self.invariant.0, c.self.invariant.1)
    c.self.inside.slots.items refl c.args.slot c.requires.0 c.requires.1 c.requires.2 in
    let some = take-some c.self.inside.slots.items c.self.inside.lists c.self.inside.unused (c.self.inside.unused + c.self.inside.fresh) c.args.self.now c.self.view_is (c.self.invariant.0, c.self.invariant.1)
    c.self.inside.slots.items refl c.args.slot c.requires.0 c.requires.1 c.requires.2 in
    let none = subst (λ o. IsSome o) (held ∙ sym is ∙ c.in-None.is) some in
    absurd (cc (none))

pub returns : goal.returns
returns g c l k at =
    sym (value-found c.self.inside.slots.items c.self.inside.lists c.self.inside.unused (c.self.inside.unused + c.self.inside.fresh) c.args.self.now c.self.view_is (c.self.invariant.0, c.self.invariant.1) c.args.slot
    c.index.result.now c.index.ensures l k at)
    ∙ c.in-Some.is
