use Rattle.std.proofs.Common.{◌<◌, sym, subst, length}
use Rattle.pssm_numbering.specs.Numbering.{ModelFile}
use Rattle.std.specs.List.{All}
use Rattle.pssm_numbering.proofs.MachineLaws.{list_within}
use Rattle.pssm_numbering.proofs.numbering.Numbering.signals.Goals as goal

pub returns-clause-within : goal.returns-clause-within
returns-clause-within c =
    subst (All (λ n. n < length c.args.self.now.doc)) (sym c.as_slice.ensures.value)
    (subst (λ (f : ModelFile). All (λ n. n < length f.doc) c.self.inside.signals.list.items) c.self.view_is
    (list_within _ _ _ _ c.self.invariant.1))
