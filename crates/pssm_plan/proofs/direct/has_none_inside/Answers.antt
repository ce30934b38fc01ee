use Rattle.std.proofs.Common.{◌≡◌, Some, List, Contains, arith, sym, subst, ⊎_elim}
use Rattle.std.proofs.lemmas.List.{take_all}
use Rattle.pssm_model.specs.declared.ids.VertexId.{VertexId}
use Rattle.pssm_model.specs.declared.elements.Owner.TheVariants.{Region, State}
use Rattle.pssm_model.specs.Forest.{owner_of}
use Rattle.pssm_plan.proofs.Taken.{taken_cases}
use Rattle.pssm_plan.proofs.direct.has_none_inside.Goals as goal

pub loop-s-preserved : goal.loop-s-preserved
loop-s-preserved c = λ w q inside owned.
    let d : VertexId = record { 0 = 0 } in
    ⊎_elim
    (λ was. c.loop-s.invariant w q was owned)
    (λ now. c.has_no_region.ensures (let yes = c.if-not-has_no_region.false in yes) q
    (subst (λ (v : VertexId). owner_of c.args.machine.now (Region q) ≡ Some (State v)) (sym now) owned))
    (taken_cases c.states_of-s-items.result.now c.loop-s.s-index d w c.loop-s-test.true inside)

pub returns : goal.returns
returns c = λ t q w owned home.
    let whole = take_all c.loop-s.s-index c.states_of-s-items.result.now (omega (arith, c.loop-s-test.false)) in
    let kind = (c.regions-shaped.ensures.shaped.regions q (State w) owned).0 in
    let one = (c.states_of-s-items.ensures.items w).1 (kind, home) in
    c.loop-s.invariant w q (subst (λ (l : List VertexId). Contains l w) (sym whole) one) owned
