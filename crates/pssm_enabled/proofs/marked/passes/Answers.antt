-- as the kind of the vertex asks
use Rattle.std.proofs.Common.{refl}
use Rattle.pssm_enabled.specs.inner.Fitting.{IsMarkedTransition}
use Rattle.pssm_enabled.proofs.ListPlaces.{refuted}
use Rattle.pssm_enabled.proofs.Fitting.{junction_passes, cut_passes, other_passes}
use Rattle.pssm_enabled.proofs.marked.passes.Goals as goal

pub returns-then-is_junction : goal.returns-then-is_junction
returns-then-is_junction c =
    let is = junction_passes c.args.machine.now (IsMarkedTransition c.args.on.now) c.args.v (c.is_junction.ensures.0 c.if-is_junction.true) in
    (λ h. is.0 (c.has_one.ensures.0 h), λ h. c.has_one.ensures.1 (is.1 h))

pub returns-then-is_cut : goal.returns-then-is_cut
returns-then-is_cut c =
    let is = cut_passes c.args.machine.now (IsMarkedTransition c.args.on.now) c.args.v (c.is_cut.ensures.0 c.if-is_cut.true) in
    (λ h. is.0 (c.has_every.ensures.0 h), λ h. c.has_every.ensures.1 (is.1 h))

pub returns : goal.returns
returns c = (
  λ h. other_passes c.args.machine.now (IsMarkedTransition c.args.on.now) c.args.v (refuted c.is_junction.result c.if-is_junction.false c.is_junction.ensures)
      (refuted c.is_cut.result c.if-is_cut.false c.is_cut.ensures),
  λ h. refl,
)
