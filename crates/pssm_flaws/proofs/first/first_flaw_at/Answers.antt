use Rattle.std.proofs.Common.{ℕ, subst, sym}
use Rattle.pssm_flaws.proofs.FlawLaws.{NoFlawBefore, none_further, none_at_all, told_so, told_not}
use Rattle.pssm_flaws.proofs.first.first_flaw_at.Goals as goal

pub returns-then-has_flaw : goal.returns-then-has_flaw
returns-then-has_flaw c = (
  told_so c.has_flaw.result c.if-has_flaw.true c.has_flaw.ensures,
  subst (λ (place : ℕ). NoFlawBefore c.args.elements.now c.args.n place) (sym c.flaw_with-flaw.ensures) c.loop-place.invariant,
)

pub loop-place-preserved : goal.loop-place-preserved
loop-place-preserved c =
    none_further c.args.elements.now c.args.n c.loop-place.place c.flaw_with-flaw.result c.loop-place.invariant c.flaw_with-flaw.ensures
    (told_not c.has_flaw.result c.if-has_flaw.false c.has_flaw.ensures)

pub returns : goal.returns
returns c = none_at_all c.args.elements.now c.args.n c.loop-place.place c.loop-place-test.false c.loop-place.invariant
