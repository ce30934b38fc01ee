use Rattle.std.proofs.Common.{◌≡◌, Some, IsTrue, not, ap, ◌∙◌, ⊎_elim}
use Rattle.std.specs.Option.{option_map}
use Rattle.pssm_model.specs.declared.elements.Vertex.{Vertex}
use Rattle.pssm_model.specs.declared.elements.Owner.{Owner}
use Rattle.std.proofs.lemmas.Bool.{cases_Bool}
use Rattle.pssm_model.specs.declared.elements.Owner.TheVariants.{Region, State}
use Rattle.pssm_model.specs.Forest.{owner_of}
use Rattle.pssm_plan.proofs.QuietRegions.{not_in_sibling}
use Rattle.pssm_plan.proofs.direct.may_lie_in.Goals as goal

pub returns-in-Region : goal.returns-in-Region
returns-in-Region c = λ lies.
    let home : owner_of c.args.machine.now (State c.args.s) ≡ Some (Region c.in-Region.q) = ap (option_map (λ (x : Vertex). x.owner)) c.vertex.ensures ∙ ap (λ (o : Owner). Some o) c.in-Region.is in
    ⊎_elim
    (λ yes. let two = c.are_siblings.ensures.owner yes in
    absurd (not_in_sibling c.regions-shaped.ensures.shaped c.args.s c.in-Region.q c.args.r two.0 home (c.are_siblings.ensures.apart yes) two.1 two.2 lies))
    (λ no. let free : IsTrue (not c.are_siblings.result) = cc (no) in free)
    (cases_Bool c.are_siblings.result)
