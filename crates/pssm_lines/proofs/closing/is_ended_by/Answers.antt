use Rattle.std.proofs.Common.{◌++◌, List, ℕ, arith, subst, below_more, sym}
use Rattle.pssm_lines.specs.inner.Lines.{IsWholeLine}
use Rattle.pssm_lines.proofs.ClosingLaws.{no_cut}
use Rattle.pssm_lines.proofs.closing.is_ended_by.Goals as goal

pub loop-cut-preserved : goal.loop-cut-preserved
loop-cut-preserved c = below_more _ _ c.loop-cut.invariant (λ whole. absurd (cc (c.if-branch.false, c.in_ok-is_whole.ensures.1 (subst (λ (t : List ℕ). IsWholeLine (c.args.front.now ++ t)) (sym c.split_at.ensures.back) whole))))

pub returns : goal.returns
returns c = (λ no. absurd (cc no), λ ended. absurd (no_cut c.args.front.now c.args.sample.now c.loop-cut.cut (omega arith) c.loop-cut.invariant ended))
