use Rattle.std.proofs.Common.{◌≡◌, take}
use Rattle.pssm_redefine.specs.Forms.{last_given, given_kind}
use Rattle.pssm_redefine.proofs.forms.last_kind.Given as goal

abbrev pub invariant-loop-form : goal.invariant-loop-form
invariant-loop-form l = l.last ≡ last_given (given_kind l.draft) (take l.form-index l.forms)
