use Rattle.std.proofs.Common.{◌≡◌, true, ℕ, List, arith, below_more, sym, subst, ◌∙◌}
use Rattle.pssm_lines.specs.inner.Lines.{IsEndedBy, are_alike}
use Rattle.pssm_lines.proofs.ClosingLaws.{no_sample}
use Rattle.pssm_lines.proofs.closing.begins_line.Goals as goal
use Rattle.pssm_lines.proofs.closing.begins_line.Goals.{else-begin_alike-via-then-begin_alike+in_ok-is_ended_by+else-branch, else-begin_alike-via-else-begin_alike}

pub loop-number-preserved : goal.loop-number-preserved
loop-number-preserved c = below_more _ _ c.loop-number.invariant (λ alike ended.
    let here : are_alike c.args.bytes.now c.sample_line-sample.result.now ≡ true = subst (λ (t : List ℕ). are_alike c.args.bytes.now t ≡ true) (sym c.sample_line-sample.ensures) alike in
    elim c.else-begin_alike.branch [
      | else-begin_alike-via-then-begin_alike+in_ok-is_ended_by+else-branch w ↦
          let yes = w.in_ok-is_ended_by.ensures.1 (subst (λ (t : List ℕ). IsEndedBy c.args.bytes.now t) (sym c.sample_line-sample.ensures) ended) in
          absurd (cc (sym yes ∙ w.if-branch.false))
      | else-begin_alike-via-else-begin_alike w ↦ absurd (cc (sym here ∙ sym c.begin_alike.ensures ∙ w.if-begin_alike.false))
    ])

pub returns : goal.returns
returns c = (λ no. absurd (cc no), λ begun. absurd (no_sample c.args.bytes.now c.loop-number.number (omega arith) c.loop-number.invariant begun))
