use Rattle.std.proofs.Common.{◌∙◌}
use Rattle.pssm_numbering.specs.Meanings.{variables}
use Rattle.pssm_drafting.specs.Fitting.{HasIntegerFirst}
use Rattle.pssm_drafting.proofs.IndexLaws.{all_there}
use Rattle.pssm_drafting.proofs.classes.variables_of.Goals as goal

pub variable_at-requires-clause-integer : goal.variable_at-requires-clause-integer
variable_at-requires-clause-integer c =
    all_there (HasIntegerFirst c.args.file.now) (variables c.args.file.now c.args.c) c.as_slice-n-items.result.now c.loop-n.n-index 0
    c.requires.integers (c.as_slice-n-items.ensures.value ∙ c.in_ok-list.ensures.list) c.loop-n-test.true
