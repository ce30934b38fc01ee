use Rattle.pssm_redefine.specs.Forms.{given_guard}
use Rattle.pssm_redefine.proofs.FormLaws.{last_step}
use Rattle.pssm_redefine.proofs.forms.last_guard.Goals as goal

pub loop-form-preserved : goal.loop-form-preserved
loop-form-preserved c =
    last_step (given_guard c.args.draft.now) c.args.forms.now c.loop-form.form-index (record { machine = 0; element = 0 }) c.guard_at.result c.loop-form.last c.or-last.result
    c.loop-form-test.true c.guard_at.ensures c.or-last.ensures c.loop-form.invariant
