use Rattle.std.proofs.Common.{◌≡◌, ◌∙◌, ◌+◌, true, not, sym, ap, subst}
use Rattle.pssm_numbering.specs.Meanings.{is_variable}
use Rattle.pssm_numbering.proofs.ListLaws.{by_test}
use Rattle.pssm_limits.specs.inner.Variables.{AreVariables}
use Rattle.pssm_limits.proofs.ClassLaws.{variable_taken}
use Rattle.pssm_limits.proofs.classes.with_next.Goals as goal

pub returns : goal.returns
returns c =
    let is = c.if-not-is_variable.false in
    let variable : is_variable c.args.file.now c.args.n ≡ true =
    by_test (is_variable c.args.file.now c.args.n)
    (λ here. here)
    (λ none. let r = c.is_variable.ensures ∙ none in let n = ap not r in absurd (cc)) in
    subst (AreVariables c.args.file.now (c.args.n + 1)) (sym c.in_ok-push.ensures.items)
    (variable_taken c.args.file.now c.args.n c.args.variables.items c.requires.so_far c.requires.within variable)
