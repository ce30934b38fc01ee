-- a draft with the shape of a machine has no fault
use Rattle.std.proofs.Common.{⊎_elim}
use Rattle.std.proofs.lemmas.Result.{err_from_is_err_and}
use Rattle.pssm_model.proofs.FirstFault.{shape_has_no_fault}
use Rattle.pssm_model.proofs.machine.Machine.new.Goals as goal

pub returns-in_err-forest-clause-only_misshapen : goal.returns-in_err-forest-clause-only_misshapen
returns-in_err-forest-clause-only_misshapen c shape =
    let p = err_from_is_err_and c.from_residual.result c.from_residual.ensures.1 in
    rw (p.1, p.2)
    (⊎_elim (λ none. none) (λ wrong. absurd (shape_has_no_fault _ shape _ wrong)) c.in_err-forest.ensures.fault)
