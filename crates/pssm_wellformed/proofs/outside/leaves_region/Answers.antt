use Rattle.pssm_wellformed.specs.inner.Marks.{MarkStrays}
use Rattle.pssm_wellformed.proofs.Straying.{leaves_iff}
use Rattle.pssm_wellformed.proofs.outside.leaves_region.Goals as goal

pub strays-requires-clause-room : goal.strays-requires-clause-room
strays-requires-clause-room c = rw c.as_slice.ensures.value c.marked.invariant.inner.room

pub returns : goal.returns
returns c =
    let m = c.marked.inside.machine.now in
    let inner = c.marked.invariant.inner in
    let marks : MarkStrays m inner.onward c.as_slice.result.now = rw c.as_slice.ensures.value inner.marks in
    let says = c.strays.ensures inner.onward marks in
    let iff = leaves_iff m inner.onward inner.arrows c.args.transition c.end_of-target.result c.end_of-target.ensures.is c.args.region in
    rw (← c.marked.view_is) (λ t. iff.0 (says.0 t), λ l. says.1 (iff.1 l))
