use Rattle.std.proofs.Common.{◌∙◌, ap}
use Rattle.std.specs.List.{count_by}
use Rattle.pssm_bodies.specs.inner.Counts.{has_statements}
use Rattle.pssm_bodies.proofs.CountLaws.{says_acts}
use Rattle.pssm_bodies.proofs.texts.steps_count.Goals as goal

pub returns-clause-says : goal.returns-clause-says
returns-clause-says c =
    says_acts c.args.names.now c.args.marks.now c.args.text.now c.in_ok-acts.acts.items c.read_steps_noting.new.marks c.count.result
    c.in_ok-acts.ensures.spelled
    (c.count.ensures ∙ ap (count_by has_statements) c.as_slice.ensures.value)
