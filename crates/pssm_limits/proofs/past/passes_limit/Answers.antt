use Rattle.std.proofs.Common.{◌∙◌, ◌↔◌, refl, sym}
use Rattle.std.specs.Prelude.{IsTrue}
use Rattle.std.proofs.lemmas.Result.{IfOk-weaker}
use Rattle.pssm_limits.specs.Limits.{PassesLimit}
use Rattle.pssm_limits.specs.inner.Past.{IsWideClass}
use Rattle.pssm_limits.proofs.PastLaws.{large_passes, wide_or_not}
use Rattle.pssm_limits.proofs.past.passes_limit.Goals as goal

pub returns-then-is_large_machine : goal.returns-then-is_large_machine
returns-then-is_large_machine c = (
  λ is. large_passes c.args.file.now c.args.tables.now c.requires.tables c.args.n c.requires.within (sym c.is_large_machine.ensures ∙ c.if-is_large_machine.true),
  λ passes. refl,
)

pub returns : goal.returns
returns c =
    let either = wide_or_not c.args.file.now c.args.tables.now c.requires.tables c.args.n c.requires.within
    (sym c.is_large_machine.ensures ∙ c.if-is_large_machine.false) in
    IfOk-weaker c.is_wide_class.result
    (λ wide. IsTrue wide ↔ IsWideClass c.args.file.now c.args.n)
    (λ wide. IsTrue wide ↔ PassesLimit c.args.file.now c.args.n)
    (λ wide is. (λ yes. either.1 (is.0 yes), λ passes. is.1 (either.0 passes)))
    c.is_wide_class.ensures
