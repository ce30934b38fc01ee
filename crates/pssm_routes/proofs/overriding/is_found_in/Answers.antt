-- a vertex was found or none
use Rattle.std.proofs.Common.{◌≡◌, Some, sym, subst, ◌∙◌}
use Rattle.pssm_model.specs.Forest.{IsOrLiesIn}
use Rattle.pssm_routes.proofs.overriding.is_found_in.Goals as goal

pub returns-in-Some : goal.returns-in-Some
returns-in-Some c = (
  λ h. (c.in-Some.s, c.in-Some.is, c.is_or_lies_in.ensures.0 h),
  λ (s, at, inside). c.is_or_lies_in.ensures.1
      (let e : Some c.in-Some.s ≡ Some s = sym c.in-Some.is ∙ at in let same : c.in-Some.s ≡ s = cc in
      subst (λ v. IsOrLiesIn c.args.machine.now v c.args.state) (sym same) inside),
)
