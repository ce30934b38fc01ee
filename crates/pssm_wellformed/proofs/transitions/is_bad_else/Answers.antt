use Rattle.std.proofs.Common.{◌≡◌, refl, subst, sym, inr, ⊎_elim}
use Rattle.pssm_model.specs.Legs.{Leaves}
use Rattle.pssm_model.specs.WellFormed.{IsBranch}
use Rattle.pssm_wellformed.specs.declared.ends.End.TheVariants.{Source}
use Rattle.pssm_wellformed.proofs.Places.{end_only}
use Rattle.pssm_wellformed.proofs.transitions.is_bad_else.Goals as goal

pub returns-else-not-is_branch : goal.returns-else-not-is_branch
returns-else-not-is_branch c =
    let m = c.args.machine.now in
    let source = c.end_of-source.result in
    let is = c.elses_of.ensures.items in (
      λ t. let some = c.some_earlier.ensures.0 t in
          let one = (is some.0).0 some.1 in
          (c.if-has_else.ensures.0 refl, (source, c.end_of-source.ensures.is, inr (some.0, some.2, one.0, one.1))),
      λ h.
          let same : h.1.0 ≡ source = end_only m Source c.args.transition h.1.0 source h.1.1 c.end_of-source.ensures.is in
          ⊎_elim (λ none. absurd (none (subst (IsBranch m) (sym same) (c.if-not-is_branch.ensures.0 refl))))
          (λ some. c.some_earlier.ensures.1 (some.0, (is some.0).1 (subst (Leaves m some.0) same some.2, some.3), some.1)) h.1.2,
    )
