use Rattle.std.proofs.Common.{◌<◌, ◌∙◌, ◌+◌, sym, subst, ℕ}
use Rattle.pssm_numbering.specs.Kinds.{is_of}
use Rattle.pssm_numbering.specs.inner.Tables.{AreGroups}
use Rattle.pssm_numbering.proofs.ListLaws.{if_ok_both}
use Rattle.pssm_numbering.proofs.GroupLaws.{rows_count, row_short, groups_passed, groups_taken}
use Rattle.pssm_numbering.proofs.groups.with_next.Goals as goal

pub with_listed-requires-clause-there : goal.with_listed-requires-clause-there
with_listed-requires-clause-there c =
    subst (λ (l : ℕ). c.in-Some.k < l) (sym (rows_count _ _ _ _ _ c.requires.so_far)) c.in-Some.ensures.there

pub with_listed-requires-clause-short : goal.with_listed-requires-clause-short
with_listed-requires-clause-short c = row_short _ _ _ _ _ c.requires.so_far c.in-Some.k c.in-Some.ensures.there

pub returns-in-None : goal.returns-in-None
returns-in-None c =
    if_ok_both
    c.with_unlisted.result
    (λ more rows places. subst (λ xs. AreGroups c.args.file.now (is_of c.args.kind) (c.args.n + 1) xs more.places.items) (sym rows)
    (subst (AreGroups c.args.file.now (is_of c.args.kind) (c.args.n + 1) c.args.groups.rows.items) (sym places)
    (groups_passed _ _ _ _ _ c.requires.so_far (sym c.row_of.ensures.row ∙ c.in-None.is))))
    c.with_unlisted.ensures.rows
    c.with_unlisted.ensures.places

pub returns-in-Some : goal.returns-in-Some
returns-in-Some c =
    if_ok_both
    c.with_listed.result
    (λ more rows places. subst (λ xs. AreGroups c.args.file.now (is_of c.args.kind) (c.args.n + 1) xs more.places.items) (sym rows)
    (subst (AreGroups c.args.file.now (is_of c.args.kind) (c.args.n + 1) _) (sym places)
    (groups_taken _ _ _ _ _ c.requires.so_far c.in-Some.k (sym c.row_of.ensures.row ∙ c.in-Some.is) c.in-Some.ensures.there)))
    c.with_listed.ensures.rows
    c.with_listed.ensures.places
