-- no leg exits a State before what lies in it
use Rattle.std.proofs.Common.{◌≡◌, true, false, ⊎_elim}
use Rattle.pssm_legs.proofs.CoveringLegs.{inner_not_over, inner_not_further}
use Rattle.pssm_legs.proofs.ordering.may_be_ordered_outward.Goals as goal

pub returns-then-is_inner_exit : goal.returns-then-is_inner_exit
returns-then-is_inner_exit c =
    let inner = c.is_inner_exit.ensures.0 c.if-is_inner_exit.true in (
      λ f. absurd (let e : false ≡ true = f in cc),
      λ h. absurd (⊎_elim
          (λ over. inner_not_over c.args.machine.now c.args.legs.now c.args.fires c.args.first c.args.second inner over)
          (λ more. inner_not_further c.args.machine.now c.args.legs.now c.args.fires c.args.first c.args.second inner more)
          h),
    )
