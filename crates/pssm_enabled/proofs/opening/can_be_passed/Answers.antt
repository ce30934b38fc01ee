-- the target is the one vertex that the transition enters
use Rattle.std.proofs.Common.{refl, sym, subst}
use Rattle.pssm_model.specs.declared.elements.VertexKind.TheVariants as kinds
use Rattle.pssm_model.specs.Forest.{HasKind}
use Rattle.pssm_model.proofs.ElementLaws.{enters_one}
use Rattle.pssm_enabled.specs.Ways.{HasWay}
use Rattle.pssm_enabled.proofs.ListPlaces.{refuted}
use Rattle.pssm_enabled.proofs.opening.can_be_passed.Goals as goal

pub returns-then-not-is_entry_point : goal.returns-then-not-is_entry_point
returns-then-not-is_entry_point g c values tells = (
  λ h v enters entry.
      let same = enters_one c.args.machine.now c.args.t v c.target-v.result enters c.target-v.ensures.enters in
      absurd (refuted c.is_entry_point.result c.if-not-is_entry_point.true c.is_entry_point.ensures
      (subst (λ x. HasKind c.args.machine.now x kinds.EntryPoint) same entry)),
  λ pass. refl,
)

pub passes_entry-requires-clause-entry : goal.passes_entry-requires-clause-entry
passes_entry-requires-clause-entry g c = c.is_entry_point.ensures.0 c.if-not-is_entry_point.false

pub returns : goal.returns
returns g c values tells =
    let is = c.passes_entry.ensures values tells in (
      λ h v enters entry.
          let same = enters_one c.args.machine.now c.args.t v c.target-v.result enters c.target-v.ensures.enters in
          subst (HasWay c.args.machine.now values) (sym same) (is.0 h),
      λ pass. is.1 (pass c.target-v.result c.target-v.ensures.enters (c.is_entry_point.ensures.0 c.if-not-is_entry_point.false)),
    )
