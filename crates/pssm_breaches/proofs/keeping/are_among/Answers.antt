use Rattle.std.proofs.Common.{false, IsTrue}
use Rattle.pssm_breaches.proofs.KeepLaws.{among_more, not_among}
use Rattle.pssm_breaches.proofs.keeping.are_among.Goals as goal

pub returns-then-not-has_signal : goal.returns-then-not-has_signal
returns-then-not-has_signal c = (
  λ (t : IsTrue false). absurd (cc),
  λ h. absurd (not_among c.args.some.now c.args.others.now c.loop-signal.signal-index (record { 0 = 0 }) c.has_signal.result c.loop-signal-test.true c.has_signal.ensures
      c.if-not-has_signal.true h),
)

pub loop-signal-preserved : goal.loop-signal-preserved
loop-signal-preserved c =
    among_more c.args.some.now c.args.others.now c.loop-signal.signal-index (record { 0 = 0 }) c.loop-signal-test.true c.loop-signal.invariant
    (c.has_signal.ensures.0 c.if-not-has_signal.false)
