use Rattle.std.proofs.Common.{◌≡◌, take}
use Rattle.std.specs.List.{flat_map}
use Rattle.pssm_redefine.specs.Forms.{deferred}
use Rattle.pssm_redefine.proofs.defers.all_defers.Given as goal

abbrev pub invariant-loop-form : goal.invariant-loop-form
invariant-loop-form l = l.all.items ≡ flat_map (deferred l.draft) (take l.form-index l.forms)
