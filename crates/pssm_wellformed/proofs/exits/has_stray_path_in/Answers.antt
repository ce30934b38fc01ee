use Rattle.std.proofs.Common.{subst}
use Rattle.pssm_model.specs.declared.ids.VertexId.{VertexId}
use Rattle.pssm_model.specs.declared.elements.Owner.TheVariants.{State}
use Rattle.pssm_model.specs.WellFormed.{KeepsToOneRegion}
use Rattle.pssm_wellformed.proofs.Places.{owner_at, one_state}
use Rattle.pssm_wellformed.proofs.Straying.{last_enters}
use Rattle.pssm_wellformed.proofs.exits.has_stray_path_in.Goals as goal

pub returns-in-State : goal.returns-in-State
returns-in-State c =
    let m = c.args.marked.now in
    let v = c.args.vertex in
    let s = c.in-State.state in
    let is = rw c.marked.view_is at c.meeting.ensures.items in
    let owner = owner_at m v c.vertex.result.now (State s) (rw (← c.marked.view_is) c.vertex.ensures) c.in-State.is in
    let says = c.some_come_from_afar.ensures in (
      λ t. let some = says.0 t in (s, some.2.0, owner, some.2.2, λ keeps. some.2.3 keeps.0 keeps.1 keeps.2),
      λ far.
          let same = one_state m (State v) far.0 s far.2 owner in
          let last = last_enters m far.1 v far.3 in
          says.1 (
            last.0,
            (is last.0).1 last.2,
            (
              far.1,
              last.1,
              far.3,
              λ r own holds. subst (λ (q : VertexId). KeepsToOneRegion m far.1 v q → ⊥) same far.4 (r, own, holds),
            ),
          ),
    )
