use Rattle.std.proofs.Common.{◌≡◌, take}
use Rattle.std.specs.Option.{option_copied}
use Rattle.pssm_redefine.specs.Forms.{last_given}
use Rattle.pssm_redefine.specs.inner.Gathered.{given_body}
use Rattle.pssm_redefine.proofs.forms.last_body.Given as goal

abbrev pub invariant-loop-form : goal.invariant-loop-form
invariant-loop-form l = option_copied l.last ≡ last_given (given_body l.draft l.field) (take l.form-index l.forms)
