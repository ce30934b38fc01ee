-- the active direct vertex of a region is one alone
use Rattle.std.proofs.Common.{◌≡◌, subst}
use Rattle.pssm_model.specs.declared.ids.VertexId.{VertexId}
use Rattle.pssm_object.specs.inner.Firing.{StateDefers}
use Rattle.pssm_object.proofs.firing.region_defers.Goals as goal

pub returns-in-Some : goal.returns-in-Some
returns-in-Some c =
    let active = λ (s : VertexId). c.active_in.ensures c.args.class.now.machine s c.requires.fits in
    let here = (active c.in-Some.state).0 c.in-Some.is in (
      λ yes. (c.in-Some.state, here.0, c.state_defers.ensures.0 yes),
      λ h.
          let held = (active h.0).1 (h.1, h.2.0) in
          let is = c.in-Some.is in
          let same : h.0 ≡ c.in-Some.state = cc in
          c.state_defers.ensures.1
          (subst (λ (s : VertexId). StateDefers c.args.class.now c.args.config.now c.args.store.now c.args.signal.now s) same h.2),
    )
