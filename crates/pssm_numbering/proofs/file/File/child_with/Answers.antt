use Rattle.std.proofs.Common.{◌<◌, ◌∙◌, sym, subst, length, ℕ, Option}
use Rattle.pssm_roles.specs.inner.Seen.{left_from}
use Rattle.pssm_numbering.specs.Kinds.{is_of}
use Rattle.pssm_numbering.specs.inner.Children.{is_child_with, IsWithTo}
use Rattle.pssm_numbering.proofs.ChildLaws.{at_first, at_next, within, fewer, number_found, number_not_found, not_with}
use Rattle.pssm_numbering.proofs.file.File.child_with.Goals as goal

pub children-init : goal.children-init
children-init c =
    let file = c.args.self.now in let doc = file.doc in let p = c.args.p in let is = is_of c.args.kind in let test = is_child_with is file p in
    at_first doc p test (not_with is file p) c.first_child-next.result c.first_child-next.ensures

pub returns-then-is_in-clause-first : goal.returns-then-is_in-clause-first
returns-then-is_in-clause-first c =
    let file = c.args.self.now in let doc = file.doc in let p = c.args.p in let is = is_of c.args.kind in let test = is_child_with is file p in
    let asked = subst (IsWithTo is file p) c.in-Some.is c.children.invariant in
    sym (number_found test (length doc) c.in-Some.child (within doc p c.in-Some.child test asked) (sym c.is_in.ensures ∙ c.if-is_in.true) asked.none)

pub returns-then-is_in-clause-within : goal.returns-then-is_in-clause-within
returns-then-is_in-clause-within c =
    let file = c.args.self.now in let doc = file.doc in let p = c.args.p in let is = is_of c.args.kind in let test = is_child_with is file p in
    let asked = subst (IsWithTo is file p) c.in-Some.is c.children.invariant in
    within doc p c.in-Some.child test asked

pub is_in-requires : goal.is_in-requires
is_in-requires c =
    let file = c.args.self.now in let doc = file.doc in let p = c.args.p in let is = is_of c.args.kind in let test = is_child_with is file p in
    let asked = subst (IsWithTo is file p) c.in-Some.is c.children.invariant in
    within doc p c.in-Some.child test asked

pub next_sibling-next-requires : goal.next_sibling-next-requires
next_sibling-next-requires c =
    let file = c.args.self.now in let doc = file.doc in let p = c.args.p in let is = is_of c.args.kind in let test = is_child_with is file p in
    let asked = subst (IsWithTo is file p) c.in-Some.is c.children.invariant in
    within doc p c.in-Some.child test asked

pub children-smaller : goal.children-smaller
children-smaller c =
    let file = c.args.self.now in let doc = file.doc in let p = c.args.p in let is = is_of c.args.kind in let test = is_child_with is file p in
    let asked = subst (IsWithTo is file p) c.in-Some.is c.children.invariant in
    let o = c.next_sibling-next.result in
    subst (λ (k : Option ℕ). left_from (length doc) o < left_from (length doc) k) (sym c.in-Some.is)
    (fewer doc p c.in-Some.child test o asked (c.next_sibling-next.ensures p asked.child))

pub children-preserved : goal.children-preserved
children-preserved c =
    let file = c.args.self.now in let doc = file.doc in let p = c.args.p in let is = is_of c.args.kind in let test = is_child_with is file p in
    let asked = subst (IsWithTo is file p) c.in-Some.is c.children.invariant in
    let o = c.next_sibling-next.result in
    at_next doc p test (not_with is file p) c.in-Some.child o asked (sym c.is_in.ensures ∙ c.if-is_in.false)
    (c.next_sibling-next.ensures p asked.child)

pub returns-clause-first : goal.returns-clause-first
returns-clause-first c =
    let file = c.args.self.now in let doc = file.doc in let p = c.args.p in let is = is_of c.args.kind in let test = is_child_with is file p in
    let asked = subst (IsWithTo is file p) c.in_default.is c.children.invariant in
    sym (number_not_found test (length doc) asked.none)
