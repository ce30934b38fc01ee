use Rattle.std.proofs.Common.{false, IsTrue}
use Rattle.pssm_breaches.proofs.KeepLaws.{signals_iff}
use Rattle.pssm_breaches.proofs.keeping.same_signals.Goals as goal

pub returns-then-are_among : goal.returns-then-are_among
returns-then-are_among c =
    signals_iff c.args.some.now c.args.others.now c.are_among-then-are_among.result (c.are_among.ensures.0 c.if-are_among.true) c.are_among-then-are_among.ensures

pub returns-else-are_among : goal.returns-else-are_among
returns-else-are_among c = (
  λ (t : IsTrue false). absurd (cc),
  λ s. let t = c.are_among.ensures.1 (λ g. (s g).0) in let f = c.if-are_among.false in absurd (cc),
)
