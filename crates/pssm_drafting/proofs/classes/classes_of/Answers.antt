use Rattle.std.proofs.Common.{◌∙◌, ap}
use Rattle.pssm_numbering.specs.Numbering.{ModelFile, classes}
use Rattle.pssm_drafting.specs.Fitting.{HasIntegerFirsts}
use Rattle.pssm_drafting.proofs.IndexLaws.{all_there}
use Rattle.pssm_drafting.proofs.classes.classes_of.Goals as goal

pub class_at-requires-clause-integers : goal.class_at-requires-clause-integers
class_at-requires-clause-integers c =
    all_there (HasIntegerFirsts c.args.file.now) (classes c.args.file.now) c.classes-c-items.result.now c.loop-c.c-index 0
    c.requires.fits.integers (c.classes-c-items.ensures.list ∙ ap (λ (f : ModelFile). classes f) c.requires.same) c.loop-c-test.true
