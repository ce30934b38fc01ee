use Rattle.std.proofs.Common.{◌<◌, subst, length, IfSome}
use Rattle.pssm_numbering.specs.Numbering.{ModelFile, machines}
use Rattle.pssm_numbering.proofs.groups.row_of.Goals as goal

pub returns-then-is_of-clause-there : goal.returns-then-is_of-clause-there
returns-then-is_of-clause-there c =
    subst (λ (f : ModelFile). IfSome c.place_above.result (λ k. k < length (machines f))) c.requires.same c.place_above.ensures.within
