-- the legs are those of the way's route
use Rattle.std.proofs.Common.{◌≡◌, true}
use Rattle.pssm_plan.proofs.ways.way_orders.Goals as goal

pub returns-then-may_come_first : goal.returns-then-may_come_first
returns-then-may_come_first c = c.orders.ensures c.args.way.now.route.value c.requires.way

pub returns-else-may_come_first : goal.returns-else-may_come_first
returns-else-may_come_first c = (
  λ t. absurd (let no = c.if-may_come_first.false in cc (no, t)),
  λ h. absurd (let yes : c.may_come_first.result ≡ true = c.may_come_first.ensures h in let no = c.if-may_come_first.false in cc (yes, no)),
)
