use Rattle.std.proofs.Common.{rules, ◌≡◌, ◌∙◌, ◌<◌, ◌++◌, ap, sym, subst, map, length, ℕ, Option, append_assoc}
use Rattle.pssm_xml.specs.Elements.{IsParent, value_or_empty}
use Rattle.pssm_values.specs.Ids.{ids_in}
use Rattle.pssm_roles.specs.References.{refers_at, of_children}
use Rattle.pssm_roles.specs.inner.Seen.{seen, of_child, of_rest, IsChildOf, left_from}
use Rattle.pssm_roles.proofs.ReferenceLaws.{there, within, at_first, is_child, at_next, fewer_left}
use Rattle.pssm_roles.proofs.references.references_of.Goals as goal

pub children-init : goal.children-init
children-init c =
    let doc = c.args.elements.now in
    let own : map seen c.in_ok-found.found.items ≡ refers_at c.args.n (ids_in (value_or_empty doc c.args.n c.args.name.now)) = search rules in
    record {
      child = is_child doc c.args.n 0 c.first_child-child.result c.first_child-child.ensures;
      parts = ap (λ r. map seen c.in_ok-found.found.items ++ r) (sym (at_first doc c.args.n c.args.name.now c.first_child-child.result c.first_child-child.ensures))
          ∙ ap (λ r. r ++ of_children c.args.n c.args.name.now 0 doc) own;
    }

pub with_child-requires : goal.with_child-requires
with_child-requires c =
    let child : IsParent c.args.elements.now c.args.n c.in-Some.m = subst (IsChildOf c.args.elements.now c.args.n) c.in-Some.is c.children.invariant.child in
    let e = there c.args.elements.now c.args.n c.in-Some.m child in within c.args.elements.now c.in-Some.m e.0 e.1

pub next_sibling-child-requires : goal.next_sibling-child-requires
next_sibling-child-requires c =
    let child : IsParent c.args.elements.now c.args.n c.in-Some.m = subst (IsChildOf c.args.elements.now c.args.n) c.in-Some.is c.children.invariant.child in
    let e = there c.args.elements.now c.args.n c.in-Some.m child in within c.args.elements.now c.in-Some.m e.0 e.1

pub children-smaller : goal.children-smaller
children-smaller c =
    let doc = c.args.elements.now in
    let child : IsParent doc c.args.n c.in-Some.m = subst (IsChildOf doc c.args.n) c.in-Some.is c.children.invariant.child in
    subst (λ (o : Option ℕ). left_from (length doc) c.next_sibling-child.result < left_from (length doc) o) (sym c.in-Some.is)
    (fewer_left doc c.args.n c.in-Some.m c.next_sibling-child.result child (c.next_sibling-child.ensures.next c.args.n child))

pub children-preserved : goal.children-preserved
children-preserved c =
    let doc = c.args.elements.now in let n = c.args.n in let m = c.in-Some.m in let name = c.args.name.now in let o = c.next_sibling-child.result in
    let child : IsParent doc n m = subst (IsChildOf doc n) c.in-Some.is c.children.invariant.child in
    let next = c.next_sibling-child.ensures.next n child in
    record {
      child = is_child doc n _ o next;
      parts = ap (λ r. r ++ of_rest doc n name o) c.in_ok-more.ensures ∙ append_assoc (map seen c.children.found.items) (of_child doc name m) (of_rest doc n name o)
          ∙ ap (λ r. map seen c.children.found.items ++ r) (sym (at_next doc n m name o child next))
          ∙ ap (λ (k : Option ℕ). map seen c.children.found.items ++ of_rest doc n name k) (sym c.in-Some.is)
          ∙ c.children.invariant.parts;
    }
