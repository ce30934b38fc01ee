use Rattle.std.proofs.Common.{◌≡◌, take}
use Rattle.std.specs.Option.{option_copied}
use Rattle.pssm_redefine.specs.Forms.{last_given, given_guard}
use Rattle.pssm_redefine.proofs.forms.last_guard.Given as goal

abbrev pub invariant-loop-form : goal.invariant-loop-form
invariant-loop-form l = option_copied l.last ≡ last_given (given_guard l.draft) (take l.form-index l.forms)
