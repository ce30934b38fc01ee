use Rattle.std.proofs.Common.{◌≡◌, ◌+◌, true, false, Some, Ok, ◌++◌, ◌∷◌, [], length, sym, subst, ◌∙◌, refl, ap}
use Rattle.std.specs.Prelude.{◌==◌}
use Rattle.pssm_semantics.specs.declared.setting.Class.{Class}
use Rattle.pssm_model.specs.Shapes.{HasShape}
use Rattle.pssm_flat.specs.inner.Outlines.{ends_block, behind_blocks, AreShaped, IsShaped}
use Rattle.pssm_flat.proofs.Closings.{no_region_ends, shaped_behind, misshapen, if_ok_so}
use Rattle.pssm_flat.proofs.closing.after_block.Goals as goal

pub returns-then-is_empty-clause-stuck : goal.returns-then-is_empty-clause-stuck
returns-then-is_empty-clause-stuck c =
    let none : true ≡ (length c.args.block.regions == 0) = c.if-is_empty.ensures ∙ ap (λ t. length t == 0) c.as_slice.ensures in
    rw c.refused.ensures (refl, ap Ok (no_region_ends c.args.head c.args.done c.args.block c.args.line none))

pub returns-in-Ok-clause-shaped : goal.returns-in-Ok-clause-shaped
returns-in-Ok-clause-shaped c =
    let made = c.in-Ok.ensures.made in
    let shape : HasShape c.in-Ok.class.machine = subst (λ (x : Class). HasShape x.machine) (sym made) c.in-Ok.ensures.shaped in
    let not_false = c.if-not-may_end.false in let ends = c.may_end.ensures in let row = c.as_slice-2.ensures in
    let may : ends_block c.args.head (length c.args.done + 1) c.args.line ≡ true = cc in
    if_ok_so c.next_block.result (λ next. behind_blocks c.args.head (c.args.done ++ c.in-Ok.class ∷ []) c.args.line ≡ Some next) (λ next. AreShaped c.args.done → IsShaped next) c.next_block.ensures.read
    (λ next read shaped. shaped_behind c.args.head c.args.done c.in-Ok.class c.args.line next may read shape shaped)

pub returns-in-Err-clause-stuck : goal.returns-in-Err-clause-stuck
returns-in-Err-clause-stuck c =
    let bad = c.in-Err.ensures.fault in
    let some : false ≡ (length c.args.block.regions == 0) = c.if-is_empty.ensures ∙ ap (λ t. length t == 0) c.as_slice.ensures in
    let not_false = c.if-not-may_end.false in let ends = c.may_end.ensures in let row = c.as_slice-2.ensures in
    let may : ends_block c.args.head (length c.args.done + 1) c.args.line ≡ true = cc in
    rw c.refused-in-Err.ensures (misshapen c.args.head c.args.done c.args.block c.args.line c.args.number c.in-Err.fault some may bad)
