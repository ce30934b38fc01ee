use Rattle.std.proofs.Common.{◌≡◌, ◌<◌, ap, sym, subst, length, ℕ, Option, Some}
use Rattle.std.specs.Prelude.{codes}
use Rattle.std.specs.List.{list_all}
use Rattle.pssm_xml.specs.Elements.{IsParent}
use Rattle.pssm_roles.specs.Roles.{is_typed}
use Rattle.pssm_roles.specs.inner.Seen.{IsChildOf, left_from}
use Rattle.pssm_profile.specs.inner.Children.{before, named_child}
use Rattle.pssm_profile.proofs.CountingLaws.{in_range}
use Rattle.pssm_profile.proofs.ChildLaws.{is_child, fewer_left, at_first, at_next}
use Rattle.pssm_profile.proofs.VariableLaws.{all_on}
use Rattle.pssm_profile.proofs.variables.all_integers.Goals as goal

pub children-init : goal.children-init
children-init c =
    let doc = c.args.elements.now in
    record {
      child = is_child doc c.args.p 0 c.first_child-next.result c.first_child-next.ensures;
      asked = sym (ap (list_all (is_typed (codes "uml:LiteralInteger"))) (at_first doc c.args.p (codes "defaultValue") c.first_child-next.result c.first_child-next.ensures));
    }

pub is_integer_child-requires : goal.is_integer_child-requires
is_integer_child-requires c =
    in_range c.args.p (codes "defaultValue") c.args.elements.now c.in-Some.child (subst (IsChildOf c.args.elements.now c.args.p) c.in-Some.is c.children.invariant.child)

pub next_sibling-next-requires : goal.next_sibling-next-requires
next_sibling-next-requires c =
    in_range c.args.p (codes "defaultValue") c.args.elements.now c.in-Some.child (subst (IsChildOf c.args.elements.now c.args.p) c.in-Some.is c.children.invariant.child)

pub children-smaller : goal.children-smaller
children-smaller c =
    let doc = c.args.elements.now in let p = c.args.p in
    let child : IsParent doc p c.in-Some.child = subst (IsChildOf doc p) c.in-Some.is c.children.invariant.child in
    subst (λ (o : Option ℕ). left_from (length doc) c.next_sibling-next.result < left_from (length doc) o) (sym c.in-Some.is)
    (fewer_left doc p c.in-Some.child c.next_sibling-next.result child (c.next_sibling-next.ensures.next p child))

pub children-preserved : goal.children-preserved
children-preserved c =
    let doc = c.args.elements.now in let p = c.args.p in let m = c.in-Some.child in let name = codes "defaultValue" in let o = c.next_sibling-next.result in
    let t = is_typed (codes "uml:LiteralInteger") in
    let child : IsParent doc p m = subst (IsChildOf doc p) c.in-Some.is c.children.invariant.child in
    let next = c.next_sibling-next.ensures.next p child in
    let has = subst (λ (k : Option ℕ). c.children.all ≡ list_all t (before doc p name k)) c.in-Some.is c.children.invariant.asked in
    record {
      child = is_child doc p _ o next;
      asked = all_on t (before doc p name o) (before doc p name (Some m)) (named_child doc name m) c.children.all c.is_integer_child.result c.are_both-all.result c.are_both-all.ensures (at_next doc p m name o child next) has c.is_integer_child.ensures;
    }
