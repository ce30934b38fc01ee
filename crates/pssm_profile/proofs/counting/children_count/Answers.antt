use Rattle.std.proofs.Common.{ℕ, ◌+◌, Option, subst, sym, arith}
use Rattle.pssm_profile.specs.inner.Counting.{IsCountedTo}
use Rattle.pssm_profile.proofs.CountingLaws.{counts_one, counted_at_first, counted_on}
use Rattle.pssm_profile.proofs.counting.children_count.Goals as goal

pub loop-turn-init : goal.loop-turn-init
loop-turn-init c = (counted_at_first c.args.elements.now c.args.p c.args.name.now c.first_child-next.result c.first_child-next.ensures, omega arith)

pub loop-turn-preserved : goal.loop-turn-preserved
loop-turn-preserved c =
    let far = subst (λ (o : Option ℕ). IsCountedTo c.args.elements.now c.args.p c.args.name.now c.loop-turn.turn c.loop-turn.count o) c.in-Some.is c.loop-turn.invariant.0 in
    let goes = c.next_sibling-next.ensures.next c.args.p far.2 in
    let counted = counted_on c.args.elements.now c.args.p c.args.name.now c.loop-turn.turn c.loop-turn.count c.in-Some.child c.is_called.result c.next_sibling-next.result far c.is_called.ensures goes in (
      subst (λ (k : ℕ). IsCountedTo c.args.elements.now c.args.p c.args.name.now (c.loop-turn.turn + 1) (c.loop-turn.count + k) c.next_sibling-next.result) (sym c.one_if-count.ensures) counted,
      (let few = counts_one c.is_called.result in let before = c.loop-turn.invariant.1 in let is = c.one_if-count.ensures in omega (arith, few, before, is)),
    )
