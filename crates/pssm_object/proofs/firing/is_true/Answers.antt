-- a guard has the same value on the parameters as on these continued by zeros
use Rattle.std.proofs.Common.{◌∙◌}
use Rattle.pssm_object.proofs.Guards.{guard_continued}
use Rattle.pssm_object.proofs.firing.is_true.Goals as goal

pub returns-in-Some-clause-continued : goal.returns-in-Some-clause-continued
returns-in-Some-clause-continued c =
    c.truth.ensures
    ∙ guard_continued c.args.class.now c.args.store.now c.args.params.now c.args.guard c.in-Some.cond.now
    c.as_slice-at_most_eight.ensures.at_most_eight c.in-Some.ensures
