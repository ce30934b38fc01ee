-- with no other transitions
use Rattle.std.proofs.Common.{◌∙◌, length, sym, subst, eqb-true}
use Rattle.std.proofs.lemmas.List.{nil_from_length}
use Rattle.pssm_enabled.specs.Fitting.{route_with}
use Rattle.pssm_enabled.specs.inner.Fitting.{FitsTogether}
use Rattle.pssm_enabled.proofs.route.fit_together.Goals as goal

pub returns-then-is_empty : goal.returns-then-is_empty
returns-then-is_empty c =
    let nothing = nil_from_length c.args.rest.now (eqb-true (length c.args.rest.now) 0 (sym c.is_empty.ensures ∙ c.if-is_empty.true)) in (
      λ h. subst (λ ts. FitsTogether c.args.machine.now (route_with c.args.starts.now ts)) (sym nothing) (c.end_alone.ensures.0 h),
      λ h. c.end_alone.ensures.1 (subst (λ ts. FitsTogether c.args.machine.now (route_with c.args.starts.now ts)) nothing h),
    )
