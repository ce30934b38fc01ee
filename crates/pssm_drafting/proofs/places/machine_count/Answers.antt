use Rattle.std.proofs.Common.{◌≤◌, ℕ, subst}
use Rattle.pssm_drafting.proofs.ListLaws.{machines_fit}
use Rattle.pssm_drafting.proofs.places.machine_count.Goals as goal

pub overflow_cast-result : goal.overflow_cast-result
overflow_cast-result c =
    machines_fit c.args.file.now c.args.numbering.now c.machines.result.now c.requires
    (subst (λ (k : ℕ). k ≤ 16777216) c.len.ensures.count c.len.ensures.few)
    c.machines.ensures.list
