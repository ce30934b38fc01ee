use Rattle.std.proofs.Common.{◌<◌, ◌∙◌, sym, subst, length, ℕ, Option}
use Rattle.pssm_xml.specs.Elements.{is_child_of}
use Rattle.pssm_roles.specs.inner.Seen.{left_from}
use Rattle.pssm_numbering.specs.inner.Children.{is_named_child, IsNamedTo}
use Rattle.pssm_numbering.proofs.ChildLaws.{at_first, at_next, within, fewer, found, not_found, not_named}
use Rattle.pssm_numbering.proofs.file.File.child_named.Goals as goal

pub children-init : goal.children-init
children-init c =
    let doc = c.args.self.now.doc in let p = c.args.p in let name = c.args.name.now in let test = is_named_child doc p name in
    at_first doc p test (not_named doc p name) c.first_child-next.result c.first_child-next.ensures

pub returns-then-is_named-clause-first : goal.returns-then-is_named-clause-first
returns-then-is_named-clause-first c =
    let doc = c.args.self.now.doc in let p = c.args.p in let name = c.args.name.now in let test = is_named_child doc p name in
    let asked = subst (IsNamedTo doc p name) c.in-Some.is c.children.invariant in
    sym (found (is_child_of p name) doc c.in-Some.child (sym c.is_named.ensures ∙ c.if-is_named.true) asked.none)

pub returns-then-is_named-clause-within : goal.returns-then-is_named-clause-within
returns-then-is_named-clause-within c =
    let doc = c.args.self.now.doc in let p = c.args.p in let name = c.args.name.now in let test = is_named_child doc p name in
    let asked = subst (IsNamedTo doc p name) c.in-Some.is c.children.invariant in
    within doc p c.in-Some.child test asked

pub is_named-requires : goal.is_named-requires
is_named-requires c =
    let doc = c.args.self.now.doc in let p = c.args.p in let name = c.args.name.now in let test = is_named_child doc p name in
    let asked = subst (IsNamedTo doc p name) c.in-Some.is c.children.invariant in
    within doc p c.in-Some.child test asked

pub next_sibling-next-requires : goal.next_sibling-next-requires
next_sibling-next-requires c =
    let doc = c.args.self.now.doc in let p = c.args.p in let name = c.args.name.now in let test = is_named_child doc p name in
    let asked = subst (IsNamedTo doc p name) c.in-Some.is c.children.invariant in
    within doc p c.in-Some.child test asked

pub children-smaller : goal.children-smaller
children-smaller c =
    let doc = c.args.self.now.doc in let p = c.args.p in let name = c.args.name.now in let test = is_named_child doc p name in
    let asked = subst (IsNamedTo doc p name) c.in-Some.is c.children.invariant in
    let o = c.next_sibling-next.result in
    subst (λ (k : Option ℕ). left_from (length doc) o < left_from (length doc) k) (sym c.in-Some.is)
    (fewer doc p c.in-Some.child test o asked (c.next_sibling-next.ensures p asked.child))

pub children-preserved : goal.children-preserved
children-preserved c =
    let doc = c.args.self.now.doc in let p = c.args.p in let name = c.args.name.now in let test = is_named_child doc p name in
    let asked = subst (IsNamedTo doc p name) c.in-Some.is c.children.invariant in
    let o = c.next_sibling-next.result in
    at_next doc p test (not_named doc p name) c.in-Some.child o asked (sym c.is_named.ensures ∙ c.if-is_named.false)
    (c.next_sibling-next.ensures p asked.child)

pub returns-clause-first : goal.returns-clause-first
returns-clause-first c =
    let doc = c.args.self.now.doc in let p = c.args.p in let name = c.args.name.now in let test = is_named_child doc p name in
    let asked = subst (IsNamedTo doc p name) c.in_default.is c.children.invariant in
    sym (not_found (is_child_of p name) doc asked.none)
