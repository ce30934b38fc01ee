use Rattle.std.proofs.Common.{◌<◌, ◌∙◌, sym, subst, length, ℕ}
use Rattle.pssm_numbering.specs.Numbering.{machines}
use Rattle.std.specs.List.{All}
use Rattle.std.proofs.lemmas.Option.{get_or_from_slice_get}
use Rattle.pssm_numbering.proofs.GroupLaws.{rows_count, row_all, row_within}
use Rattle.pssm_numbering.proofs.numbering.Numbering.own.Goals as goal

pub row_at-requires : goal.row_at-requires
row_at-requires c =
    subst (λ (l : ℕ). c.args.k < l)
    (sym (rows_count _ _ _ _ _ c.groups.ensures))
    c.requires

pub returns-clause-list : goal.returns-clause-list
returns-clause-list c = λ m at.
    c.row_at.ensures
    ∙ row_all _ _ _ _ c.groups.ensures c.args.k m c.requires
    (get_or_from_slice_get (machines c.args.self.now) c.args.k m 0 at)

pub returns-clause-within : goal.returns-clause-within
returns-clause-within c =
    subst (All (λ n. n < length c.args.self.now.doc)) (sym c.row_at.ensures)
    (row_within _ _ _ _ c.groups.ensures c.args.k c.requires)
