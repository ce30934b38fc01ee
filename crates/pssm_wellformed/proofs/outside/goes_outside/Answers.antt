use Rattle.std.proofs.Common.{refl}
use Rattle.pssm_wellformed.proofs.Places.{owner_at}
use Rattle.pssm_wellformed.proofs.Straying.{outside_iff}
use Rattle.pssm_wellformed.proofs.outside.goes_outside.Goals as goal

pub returns : goal.returns
returns c =
    let m = c.args.marked.now in
    let v = c.args.vertex in
    let p = c.vertex.result.now.owner in
    let is = rw c.marked.view_is at c.meeting.ensures.items in
    let iff = outside_iff m (rw (← c.marked.view_is) c.marked.invariant.shape) v p (owner_at m v c.vertex.result.now p (rw (← c.marked.view_is) c.vertex.ensures) refl) in
    let says = c.some_stray_from.ensures in (
      λ t. let some = says.0 t in iff.0 ((rw c.marked.view_is at c.if-not-is_bound.ensures).0 refl, (some.0, (is some.0).0 some.1, some.2)),
      λ bad. let w = (iff.1 bad).1 in says.1 (w.0, (is w.0).1 w.1, w.2),
    )
