use Rattle.std.proofs.Common.{rules}
use Rattle.pssm_enabled.proofs.OrderLaws.{put_keeps, put_ascends}
use Rattle.pssm_enabled.proofs.tracing.put_in_order.Goals as goal

pub returns-clause-same : goal.returns-clause-same
returns-clause-same c =
    put_keeps c.args.transitions.now.items c.sort_by_key.new.self.items c.dedup.new.self.items c.sort_by_key.ensures.permutation c.dedup.ensures.filtered

pub returns-clause-ascending : goal.returns-clause-ascending
returns-clause-ascending c =
    put_ascends c.sort_by_key.new.self.items c.dedup.new.self.items c.in_ok-sort_by_key.ensures.sorted (λ a r q k. search rules) c.dedup.ensures.filtered
