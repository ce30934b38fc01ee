use Rattle.std.proofs.Common.{◌*◌, ℕ, length, get_or, refl}
use Rattle.pssm_redefine.proofs.WholeLaws.{whole_machine}
use Rattle.pssm_redefine.proofs.machine.merged_machine.Goals as goal

pub returns : goal.returns
returns c =
    let number : ℕ → ℕ = λ slot. get_or c.args.numbers.now slot 0 in
    whole_machine c.args.draft.now number c.args.gathered.now c.as_slice-owners.result.now c.as_slice-forms.result.now c.as_slice-ends.result.now
    c.as_slice-steps.result.now (3 * length c.as_slice-forms.result.now) c.in_ok-duplicate.field-0 c.in_ok-vertices.vertices.items c.from_vec.result
    c.in_ok-transitions.transitions.items c.from_vec-2.result c.as_slice-owners.ensures c.as_slice-forms.ensures c.as_slice-ends.ensures c.as_slice-steps.ensures
    refl c.in_ok-duplicate.ensures c.in_ok-vertices.ensures c.in_ok-transitions.ensures c.from_vec.ensures c.from_vec-2.ensures
