use Rattle.std.proofs.Common.{◌+◌, refl, arith, inl, inr}
use Rattle.pssm_bodies.specs.inner.Counts.{FailsOn}
use Rattle.pssm_bodies.proofs.CountLaws.{text_fails, past_limits, counts_on}
use Rattle.pssm_bodies.proofs.ThroughLaws.{passed_on}
use Rattle.pssm_bodies.proofs.texts.counted_on.Goals as goal
use Rattle.pssm_bodies.proofs.texts.counted_on.Goals.{then-more-gt-MOST_NUMBERS-via-then-more-gt-MOST_NUMBERS, then-more-gt-MOST_NUMBERS-via-else-more-gt-MOST_NUMBERS+then-len-gt-MOST_NUMBERS}

pub returns-in_err-said-clause-fault : goal.returns-in_err-said-clause-fault
returns-in_err-said-clause-fault c =
    passed_on (FailsOn c.args.names.now c.args.text.now c.args.reading c.args.count c.args.marks.now) c.in_err-said.field-0.0 c.from_residual.result
    c.from_residual.ensures.1
    (text_fails c.args.names.now c.args.text.now c.args.reading c.args.count c.args.marks.now c.in_err-said.field-0.0 c.in_err-said.ensures.fault)

pub returns-then-more-gt-MOST_NUMBERS-clause-fault : goal.returns-then-more-gt-MOST_NUMBERS-clause-fault
returns-then-more-gt-MOST_NUMBERS-clause-fault c =
    let past = past_limits c.args.names.now c.args.text.now c.args.reading c.args.count c.in_ok-said.said (c.args.count + c.in_ok-said.said)
    c.args.marks.now c.text_count.new.marks refl c.in_ok-said.ensures.says in
    elim c.then-more-gt-MOST_NUMBERS.branch [
      | then-more-gt-MOST_NUMBERS-via-then-more-gt-MOST_NUMBERS w ↦ past (inl w.if-more-gt-MOST_NUMBERS.true)
      | then-more-gt-MOST_NUMBERS-via-else-more-gt-MOST_NUMBERS+then-len-gt-MOST_NUMBERS w ↦ past
          (inr (omega (arith, w.len.ensures, w.if-len-gt-MOST_NUMBERS.true)))
    ]

pub returns-clause-counts : goal.returns-clause-counts
returns-clause-counts c =
    counts_on c.args.names.now c.args.text.now c.args.reading c.args.count c.in_ok-said.said (c.args.count + c.in_ok-said.said) c.args.marks.now
    c.text_count.new.marks refl c.in_ok-said.ensures.says
    c.if-more-gt-MOST_NUMBERS.false (omega (arith, c.len.ensures, c.if-len-gt-MOST_NUMBERS.false))
