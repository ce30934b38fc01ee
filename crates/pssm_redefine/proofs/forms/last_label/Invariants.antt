use Rattle.std.proofs.Common.{◌≡◌, take}
use Rattle.std.specs.Option.{option_copied}
use Rattle.pssm_redefine.specs.Forms.{last_given, given_label}
use Rattle.pssm_redefine.proofs.forms.last_label.Given as goal

abbrev pub invariant-loop-form : goal.invariant-loop-form
invariant-loop-form l = option_copied l.last ≡ last_given (given_label l.draft) (take l.form-index l.forms)
