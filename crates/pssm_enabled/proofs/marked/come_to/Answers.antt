-- to a marked vertex again, to another for the first time
use Rattle.pssm_enabled.specs.inner.Fitting.ComesTo.{again, first}
use Rattle.pssm_enabled.proofs.marked.come_to.Goals as goal

pub returns-then-not-mark_vertex : goal.returns-then-not-mark_vertex
returns-then-not-mark_vertex c =
    let old = c.mark_vertex.ensures.old c.if-not-mark_vertex.true in again c.target-v.ensures.enters old.0 old.1

pub returns : goal.returns
returns c = first c.target-v.ensures.enters (c.mark_vertex.ensures.set c.if-not-mark_vertex.false) c.passes.ensures
