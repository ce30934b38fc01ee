-- empty lists
use Rattle.std.proofs.Common.{◌+◌, arith, List, [], sym}
use Rattle.std.proofs.lemmas.List.{length-replicate}
use Rattle.pssm_links.specs.Chained.{Linked}
use Rattle.pssm_links.specs.inner.Rings.{AreEnds}
use Rattle.pssm_links.proofs.Holding.{hold-none, shown, shows}
use Rattle.pssm_links.proofs.chains.Chains.new.Goals as goal

pub invariant_of-result : goal.invariant_of-result
invariant_of-result g c =
    let base = shows c.in_ok-slots.slots.items _ 0 c.args.lists (sym (length-replicate c.args.lists (let none : List (Linked g.row.T.Denot) = [] in none)))
    (hold-none c.in_ok-slots.slots.items c.args.lists c.in_ok-slots.ensures) in
    let ends : AreEnds c.in_ok-slots.slots.items (c.args.lists + 1) = c.in_ok-slots.ensures in
    let size = ends.size in
    let few = ends.few in
    (base.0, base.1, omega (arith, c.in_ok-slots.slots.ok.0, c.in_ok-slots.slots.ok.1), omega (arith, size, few))

pub returns : goal.returns
returns g c =
    shown c.in_ok-slots.slots.items _ 0 c.args.lists (sym (length-replicate c.args.lists (let none : List (Linked g.row.T.Denot) = [] in none)))
    (hold-none c.in_ok-slots.slots.items c.args.lists c.in_ok-slots.ensures)
