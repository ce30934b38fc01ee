use Rattle.std.proofs.Common.{◌≡◌, ◌<◌, ap, sym, subst, map, length, ℕ, Option, Some, List}
use Rattle.std.specs.Prelude.{sum}
use Rattle.pssm_xml.specs.Documents.{Element}
use Rattle.pssm_xml.specs.Elements.{IsParent}
use Rattle.pssm_roles.specs.inner.Seen.{IsChildOf, left_from}
use Rattle.pssm_profile.specs.inner.Numbers.{number_of as number_for}
use Rattle.pssm_profile.specs.inner.Children.{before, named_child, weight}
use Rattle.pssm_profile.proofs.CountingLaws.{in_range}
use Rattle.pssm_profile.proofs.ChildLaws.{is_child, fewer_left, at_first, at_next, counts_on}
use Rattle.pssm_profile.proofs.referring.children_number.Goals as goal

pub children-init : goal.children-init
children-init c =
    let doc = c.args.elements.now in
    record {
      child = is_child doc c.args.p 0 c.first_child-next.result c.first_child-next.ensures;
      counted = ap (λ (l : List Element). number_for (sum (map (weight c.args.as_guard) l))) (sym (at_first doc c.args.p c.args.name.now c.first_child-next.result c.first_child-next.ensures));
    }

pub child_number-requires : goal.child_number-requires
child_number-requires c =
    in_range c.args.p c.args.name.now c.args.elements.now c.in-Some.child (subst (IsChildOf c.args.elements.now c.args.p) c.in-Some.is c.children.invariant.child)

pub next_sibling-next-requires : goal.next_sibling-next-requires
next_sibling-next-requires c =
    in_range c.args.p c.args.name.now c.args.elements.now c.in-Some.child (subst (IsChildOf c.args.elements.now c.args.p) c.in-Some.is c.children.invariant.child)

pub children-smaller : goal.children-smaller
children-smaller c =
    let doc = c.args.elements.now in let p = c.args.p in
    let child : IsParent doc p c.in-Some.child = subst (IsChildOf doc p) c.in-Some.is c.children.invariant.child in
    subst (λ (o : Option ℕ). left_from (length doc) c.next_sibling-next.result < left_from (length doc) o) (sym c.in-Some.is)
    (fewer_left doc p c.in-Some.child c.next_sibling-next.result child (c.next_sibling-next.ensures.next p child))

pub children-preserved : goal.children-preserved
children-preserved c =
    let doc = c.args.elements.now in let p = c.args.p in let m = c.in-Some.child in let name = c.args.name.now in let o = c.next_sibling-next.result in
    let child : IsParent doc p m = subst (IsChildOf doc p) c.in-Some.is c.children.invariant.child in
    let next = c.next_sibling-next.ensures.next p child in
    let has = subst (λ (k : Option ℕ). c.children.number ≡ number_for (sum (map (weight c.args.as_guard) (before doc p name k)))) c.in-Some.is c.children.invariant.counted in
    record {
      child = is_child doc p _ o next;
      counted = counts_on (weight c.args.as_guard) (before doc p name o) (before doc p name (Some m)) (named_child doc name m) c.children.number c.child_number.result c.and-number.result c.and-number.ensures (at_next doc p m name o child next) has c.child_number.ensures;
    }
