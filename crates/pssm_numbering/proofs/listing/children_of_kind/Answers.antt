use Rattle.std.proofs.Common.{◌<◌, ◌∙◌, ◌++◌, ◌∷◌, [], cond, sym, ap, subst, length, ℕ, Option}
use Rattle.pssm_roles.specs.inner.Seen.{left_from}
use Rattle.pssm_numbering.specs.Kinds.{is_of}
use Rattle.pssm_numbering.specs.inner.Tables.{AreChildrenTo}
use Rattle.pssm_numbering.proofs.SiblingLaws.{children_start, child_within, fewer, children_more, children_end}
use Rattle.pssm_numbering.proofs.listing.children_of_kind.Goals as goal

pub children-init : goal.children-init
children-init c =
    subst (AreChildrenTo c.args.file.now (is_of c.args.kind) c.args.p c.first_child-next.result) (sym c.new-list.ensures.items)
    (children_start c.args.file.now (is_of c.args.kind) c.args.p c.first_child-next.result c.first_child-next.ensures)

pub role-requires : goal.role-requires
role-requires c =
    let so_far = subst (λ o. AreChildrenTo c.args.file.now (is_of c.args.kind) c.args.p o c.children.list.items) c.in-Some.is c.children.invariant in
    child_within c.args.file.now (is_of c.args.kind) c.args.p c.in-Some.child c.children.list.items so_far

pub next_sibling-next-requires : goal.next_sibling-next-requires
next_sibling-next-requires c =
    let so_far = subst (λ o. AreChildrenTo c.args.file.now (is_of c.args.kind) c.args.p o c.children.list.items) c.in-Some.is c.children.invariant in
    child_within c.args.file.now (is_of c.args.kind) c.args.p c.in-Some.child c.children.list.items so_far

pub children-smaller : goal.children-smaller
children-smaller c =
    let so_far = subst (λ o. AreChildrenTo c.args.file.now (is_of c.args.kind) c.args.p o c.children.list.items) c.in-Some.is c.children.invariant in
    subst
    (λ (o : Option ℕ). left_from (length c.args.file.now.doc) c.next_sibling-next.result < left_from (length c.args.file.now.doc) o)
    (sym c.in-Some.is)
    (fewer _ _ _ c.in-Some.child c.next_sibling-next.result c.children.list.items so_far (c.next_sibling-next.ensures c.args.p so_far.child))

pub children-preserved : goal.children-preserved
children-preserved c =
    let so_far = subst (λ o. AreChildrenTo c.args.file.now (is_of c.args.kind) c.args.p o c.children.list.items) c.in-Some.is c.children.invariant in
    subst (AreChildrenTo c.args.file.now (is_of c.args.kind) c.args.p c.next_sibling-next.result)
    (sym (c.in_ok-list.ensures
    ∙ ap (λ b. c.children.list.items ++ cond b (c.in-Some.child ∷ []) []) (c.is_of.ensures ∙ ap (is_of c.args.kind) c.role.ensures.at)))
    (children_more _ _ _ c.in-Some.child c.next_sibling-next.result c.children.list.items so_far (c.next_sibling-next.ensures c.args.p so_far.child))

pub returns : goal.returns
returns c =
    children_end c.args.file.now (is_of c.args.kind) c.args.p c.children.list.items
    (subst (λ o. AreChildrenTo c.args.file.now (is_of c.args.kind) c.args.p o c.children.list.items) c.in_default.is c.children.invariant)
