use Rattle.std.proofs.Common.{◌≡◌, Some, option_map, ap, ◌∙◌}
use Rattle.pssm_model.specs.declared.elements.Owner.TheVariants.{Top, Region, State}
use Rattle.pssm_model.specs.declared.elements.Vertex.{Vertex}
use Rattle.pssm_model.specs.Forest.{owner_of}
use Rattle.pssm_plan.proofs.ApartCalls.{outermost_in_none}
use Rattle.pssm_plan.proofs.waiting.is_outermost.Goals as goal

pub returns-in-Region : goal.returns-in-Region
returns-in-Region c = λ sure.
    let m = c.args.machine.now in
    let is : c.vertex.result.now.owner ≡ Region c.in-Region.r = (let i = c.in-Region.is in cc) in
    let owned : owner_of c.args.machine.now (State c.args.v) ≡ Some (Region c.in-Region.r) =
    ap (option_map (λ (x : Vertex). x.owner)) c.vertex.ensures ∙ ap Some is in
    let top : owner_of c.args.machine.now (Region c.in-Region.r) ≡ Some Top =
    (let at = c.region_owner.ensures in let e = c.is_top.ensures sure in cc) in
    outermost_in_none m c.args.v c.in-Region.r owned top
