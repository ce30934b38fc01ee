use Rattle.std.proofs.Common.{refl, ⊎_elim, rules}
use Rattle.pssm_model.specs.declared.elements.Owner.TheVariants.{State}
use Rattle.pssm_wellformed.specs.inner.Marks.{MarkStrays}
use Rattle.pssm_wellformed.proofs.Places.{owner_may}
use Rattle.pssm_wellformed.proofs.Straying.{local_iff}
use Rattle.pssm_wellformed.proofs.local.is_bad_local.Goals as goal

pub strays-requires-clause-room : goal.strays-requires-clause-room
strays-requires-clause-room c = rw c.as_slice.ensures.value c.marked.invariant.junctions.room

pub strays-requires-clause-place : goal.strays-requires-clause-place
strays-requires-clause-place c =
    ⊎_elim (λ s. s.1) (λ p. (owner_may c.marked.inside.machine.now c.marked.invariant.shape p.0 (State c.in-Some.state) p.3).1) c.in-Some.ensures

pub returns-in-Some : goal.returns-in-Some
returns-in-Some c =
    let m = c.marked.inside.machine.now in
    let junctions = c.marked.invariant.junctions in
    let marks : MarkStrays m junctions.onward c.as_slice.result.now = rw c.as_slice.ensures.value junctions.marks in
    let says = c.strays.ensures junctions.onward marks in
    let iff = local_iff m c.marked.invariant.shape junctions.onward junctions.arrows c.args.transition c.end_of-target.result c.in-Some.state c.end_of-target.ensures.is
    (c.if-not-goes.ensures.0 refl) c.in-Some.ensures in
    rw (← c.marked.view_is) (λ t. iff.0 (says.0 t), λ l. says.1 (iff.1 l))

pub returns-in-None : goal.returns-in-None
returns-in-None c = rw (← c.marked.view_is) (search rules)
