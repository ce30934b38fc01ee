use Rattle.std.proofs.Common.{subst}
use Rattle.pssm_model.specs.declared.ids.VertexId.{VertexId}
use Rattle.pssm_model.specs.Forest.{LiesInRegion}
use Rattle.pssm_model.specs.WellFormed.{LeavesRegion}
use Rattle.pssm_wellformed.specs.declared.ends.End.TheVariants.{Target}
use Rattle.pssm_wellformed.proofs.Chains.{one_region_inside}
use Rattle.pssm_wellformed.proofs.Places.{end_only}
use Rattle.pssm_wellformed.proofs.outside.leaves_its_region.Goals as goal

pub returns-in-Some : goal.returns-in-Some
returns-in-Some c =
    let m = c.args.marked.now in
    let shape = rw c.marked.view_is at c.marked.invariant.shape in
    let ends = rw c.marked.view_is at c.end_of-target.ensures.is in
    let lies = rw c.marked.view_is at c.in-Some.ensures in
    let t = c.args.transition in
    let v = c.end_of-target.result in
    let r = c.in-Some.region in
    let says = c.leaves_region.ensures in (
      λ e. (v, r, ends, lies.0, lies.1, says.0 e),
      λ l. says.1 (subst (LeavesRegion m t) (one_region_inside m shape v c.args.state l.1 r l.3 lies.0
          (subst (λ (w : VertexId). LiesInRegion m w l.1) (end_only m Target t l.0 v l.2 ends) l.4) lies.1) l.5),
    )
