use Rattle.std.proofs.Common.{ℕ, ◌+◌, subst, sym}
use Rattle.pssm_tally.specs.inner.Parameters.{IsCountedBelow}
use Rattle.pssm_tally.proofs.ParameterLaws.{at_first, is_parent, at_element, at_end, one_on}
use Rattle.pssm_tally.proofs.parameters.parameters_before.Goals as goal

pub children-init : goal.children-init
children-init c = at_first c.args.elements.now c.args.signal c.args.n c.first_child-next.result c.first_child-next.ensures

pub returns-then-child-n : goal.returns-then-child-n
returns-then-child-n c =
    let far = subst (IsCountedBelow c.args.elements.now c.args.signal c.args.n c.children.count) c.in-Some.is c.children.invariant in
    at_element c.args.elements.now c.args.signal c.args.n c.children.count c.in-Some.child far c.if-child-n.true

pub returns : goal.returns
returns c =
    at_end c.args.elements.now c.args.signal c.args.n c.children.count
    (subst (IsCountedBelow c.args.elements.now c.args.signal c.args.n c.children.count) c.in_default.is c.children.invariant)

pub children-preserved : goal.children-preserved
children-preserved c =
    let doc = c.args.elements.now in let p = c.args.signal in let n = c.args.n in let child = c.in-Some.child in let next = c.next_sibling-next.result in
    let far = subst (IsCountedBelow doc p n c.children.count) c.in-Some.is c.children.invariant in
    let goes = c.next_sibling-next.ensures.next p (is_parent doc p n c.children.count child far) in
    subst (λ (k : ℕ). IsCountedBelow doc p n (c.children.count + k) next) (sym c.one_if-count.ensures)
    (one_on doc p n c.children.count child c.is_parameter.result next far c.if-child-n.false c.is_parameter.ensures goes)
