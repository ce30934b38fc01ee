-- No vertex from the number on has a do step.
use Rattle.std.proofs.Common.{◌∙◌, arith}
use Rattle.pssm_object.proofs.Doers.{all_counted}
use Rattle.pssm_object.proofs.doing.count_do_tasks.Goals as goal

pub returns : goal.returns
returns c =
    let past = c.loop-v-test.false in
    c.loop-v.invariant.0 ∙ all_counted c.args.machine.now c.args.config.now c.args.doers c.loop-v.v c.requires.doers (omega (arith, past))
