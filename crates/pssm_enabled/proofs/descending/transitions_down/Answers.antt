-- a route goes on over all transitions out of the last
use Rattle.std.proofs.Common.{sym, subst}
use Rattle.pssm_enabled.specs.Behind.{GoesOnFrom}
use Rattle.pssm_enabled.proofs.GoingDown.{goes_branch}
use Rattle.pssm_enabled.proofs.descending.transitions_down.Goals as goal

pub returns : goal.returns
returns c values on =
    let all = c.outgoing.result.now in
    let was = c.in_ok-over.ensures.down values on in
    let goes = goes_branch c.requires.rules values c.in_ok-over.field-0.to (c.goes_down.ensures.0 c.if-not-goes_down.false) was.0.0 all
    c.outgoing.ensures.items (c.all_end_alone.ensures c.if-not-all_end_alone.false) in
    subst (GoesOnFrom c.args.machine.now values c.args.v) (sym c.in_ok-extend_from_slice.ensures.items) (was.1 all goes)
