use Rattle.std.proofs.Common.{◌+◌, sym, subst}
use Rattle.pssm_xml.specs.Elements.{BeginsAt}
use Rattle.pssm_limits.specs.inner.Past.{IsFirstTo}
use Rattle.pssm_limits.proofs.PastLaws.{begins_at, below_passed, below_taken}
use Rattle.pssm_limits.proofs.past.with_next.Goals as goal

pub returns-then-not-branch : goal.returns-then-not-branch
returns-then-not-branch c =
    below_passed c.args.file.now c.args.n c.args.found c.requires.so_far
    (λ passes. let no = c.if-not-branch.true in let is = c.in_ok-passes_limit.ensures.1 passes in cc)

pub returns : goal.returns
returns c =
    subst (IsFirstTo c.args.file.now (c.args.n + 1)) (sym c.earlier.ensures)
    (below_taken c.args.file.now c.args.n c.args.found c.at.result c.requires.so_far
    (c.in_ok-passes_limit.ensures.0 c.if-not-branch.false)
    (subst (BeginsAt c.args.file.now.doc c.args.n) (sym c.at.ensures) (begins_at c.args.file.now c.args.n c.requires.within)))
