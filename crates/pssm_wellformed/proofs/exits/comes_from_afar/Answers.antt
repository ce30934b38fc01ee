use Rattle.std.proofs.Common.{◌≡◌, refl, ap}
use Rattle.std.proofs.lemmas.Option.{slice_get_within}
use Rattle.pssm_model.specs.declared.ids.VertexId.{VertexId}
use Rattle.pssm_model.specs.declared.elements.Owner.TheVariants.{State}
use Rattle.pssm_model.proofs.ElementLaws.{same_vertex}
use Rattle.pssm_wellformed.specs.inner.Marks.{MarkStrays}
use Rattle.pssm_wellformed.proofs.Listing.{empty_iff}
use Rattle.pssm_wellformed.proofs.Straying.{afar_itself, afar_outside, afar_iff, point_aside}
use Rattle.pssm_wellformed.proofs.exits.comes_from_afar.Goals as goal

pub returns-then-source-vertex : goal.returns-then-source-vertex
returns-then-source-vertex c =
    let m = c.marked.inside.machine.now in
    let x = c.end_of-source.result in
    let same : x ≡ c.args.vertex = same_vertex x c.args.vertex c.if-source-vertex.true in
    let iff = afar_itself m c.marked.invariant.back.onward c.marked.invariant.back.arrows c.args.transition x c.args.vertex c.args.state c.end_of-source.ensures.is (rw c.marked.view_is c.requires.enters) same (rw c.marked.view_is c.requires.point) in
    let is = c.regions_of.ensures.items in
    let empty = empty_iff c.regions_of.result.now c.is_empty.result c.is_empty.ensures in rw (← c.marked.view_is) (
      λ t. iff.0 (λ r owner. empty.0 t r ((is r).1 owner)),
      λ far. empty.1 (λ r h. iff.1 far r ((is r).0 h)),
    )

pub strays-requires-clause-room : goal.strays-requires-clause-room
strays-requires-clause-room c = rw c.as_slice.ensures.value c.marked.invariant.back.room

pub strays-requires-clause-place : goal.strays-requires-clause-place
strays-requires-clause-place c = slice_get_within c.marked.inside.machine.now.regions c.in-Some.region.0 (State c.args.state) c.in-Some.ensures.0

pub returns-in-Some : goal.returns-in-Some
returns-in-Some c =
    let m = c.marked.inside.machine.now in
    let x = c.end_of-source.result in
    let v = c.args.vertex in
    let r = c.in-Some.region in
    let back = c.marked.invariant.back in
    let marks : MarkStrays m back.onward c.as_slice.result.now = rw c.as_slice.ensures.value back.marks in
    let says = c.strays.ensures back.onward marks in
    let other : x ≡ v → ⊥ = λ e. c.if-source-vertex.false (ap (λ (w : VertexId). w.0) e) in
    let aside = point_aside back.arrows x v c.args.state r other (rw c.marked.view_is c.requires.point) (rw c.marked.view_is c.requires.owner) c.in-Some.ensures.0 (rw c.marked.view_is c.requires.leaves) in
    rw (← c.marked.view_is) (afar_iff m c.marked.invariant.shape back.onward back.arrows c.args.transition x v c.args.state r c.end_of-source.ensures.is (rw c.marked.view_is c.requires.enters) other (rw c.marked.view_is c.requires.point)
    c.in-Some.ensures.0 c.in-Some.ensures.1 c.strays.result (λ t. aside.0 (says.0 t), λ s. says.1 (aside.1 s)))

pub returns-in-None : goal.returns-in-None
returns-in-None c = rw (← c.marked.view_is) (
  λ t. afar_outside c.marked.inside.machine.now c.args.transition c.end_of-source.result c.args.vertex c.args.state c.end_of-source.ensures.is (rw c.marked.view_is c.requires.enters)
      (λ e. c.if-source-vertex.false (ap (λ (v : VertexId). v.0) e)) c.in-None.ensures,
  λ far. refl,
)
