-- The element passes, and is added, or it does not, and the list stays.
use Rattle.std.proofs.Common.{◌≡◌, ◌∙◌, ◌+◌, sym, ap, subst, true, false}
use Rattle.pssm_numbering.specs.Kinds.{is_of}
use Rattle.pssm_numbering.specs.inner.Tables.{AreListed, has_role}
use Rattle.pssm_numbering.proofs.ListLaws.{if_ok_both, listed_taken, listed_passed, listed_length}
use Rattle.pssm_numbering.proofs.listing.with_next.Goals as goal

pub with_taken-requires : goal.with_taken-requires
with_taken-requires c =
    listed_length (has_role (is_of c.args.kind) c.args.file.now) c.args.n c.args.listing.list.items c.args.listing.places.items c.requires.so_far

pub returns-then-is_of : goal.returns-then-is_of
returns-then-is_of c =
    let here : has_role (is_of c.args.kind) c.args.file.now c.args.n ≡ true =
    ap (is_of c.args.kind) (sym c.role.ensures.at) ∙ sym c.is_of.ensures ∙ c.if-is_of.true in
    if_ok_both
    c.with_taken.result
    (λ more list places. subst (λ xs. AreListed (has_role (is_of c.args.kind) c.args.file.now) (c.args.n + 1) xs more.places.items) (sym list)
    (subst (AreListed (has_role (is_of c.args.kind) c.args.file.now) (c.args.n + 1) _) (sym places)
    (listed_taken (has_role (is_of c.args.kind) c.args.file.now) c.args.n c.args.listing.list.items c.args.listing.places.items c.requires.so_far here)))
    c.with_taken.ensures.list
    c.with_taken.ensures.places

pub returns-else-is_of : goal.returns-else-is_of
returns-else-is_of c =
    let here : has_role (is_of c.args.kind) c.args.file.now c.args.n ≡ false =
    ap (is_of c.args.kind) (sym c.role.ensures.at) ∙ sym c.is_of.ensures ∙ c.if-is_of.false in
    if_ok_both
    c.with_passed.result
    (λ more list places. subst (λ xs. AreListed (has_role (is_of c.args.kind) c.args.file.now) (c.args.n + 1) xs more.places.items) (sym list)
    (subst (AreListed (has_role (is_of c.args.kind) c.args.file.now) (c.args.n + 1) c.args.listing.list.items) (sym places)
    (listed_passed (has_role (is_of c.args.kind) c.args.file.now) c.args.n c.args.listing.list.items c.args.listing.places.items c.requires.so_far here)))
    c.with_passed.ensures.list
    c.with_passed.ensures.places
