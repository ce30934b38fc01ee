use Rattle.std.proofs.Common.{refl}
use Rattle.pssm_wellformed.proofs.apart.is_bad_entry_point.Goals as goal

pub returns-then-has_kind : goal.returns-then-has_kind
returns-then-has_kind c = (
  λ t. ((rw c.marked.view_is at c.if-has_kind.ensures).0 refl, c.entries_lie_together.ensures.0 t),
  λ h. c.entries_lie_together.ensures.1 h.1,
)
