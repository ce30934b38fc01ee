use Rattle.std.proofs.Common.{◌<◌, ◌-◌, List, length, take, Contains, sym, subst, arith}
use Rattle.pssm_legs.specs.declared.legs.Leg.{Leg}
use Rattle.pssm_legs.specs.LegsOf.{IsLegIn}
use Rattle.pssm_plan.proofs.NearItems.{first_in}
use Rattle.pssm_plan.proofs.LeadingLegs.{leading_in, near_or_leads}
use Rattle.pssm_plan.proofs.near.leads_on_near.Goals as goal

pub ends_near-requires-clause-leg : goal.ends_near-requires-clause-leg
ends_near-requires-clause-leg c = first_in c.args.way.now c.requires.way

pub some_ends_near-requires-clause-legs : goal.some_ends_near-requires-clause-legs
some_ends_near-requires-clause-legs c =
    let some : 0 < length c.as_slice-more.result.now = (let no = c.if-more-eq0.false in omega (arith, no)) in
    let there = subst (λ (l : List Leg). 0 < length l) c.as_slice-more.ensures.value some in
    subst (λ (l : List Leg). (leg : Leg) → Contains (take (length l - 1) l) leg → IsLegIn c.args.machine.now leg) (sym c.as_slice-more.ensures.value)
    (leading_in c.args.way.now c.requires.way there)

pub returns-else-ends_near : goal.returns-else-ends_near
returns-else-ends_near c =
    let some : 0 < length c.as_slice-more.result.now = (let no = c.if-more-eq0.false in omega (arith, no)) in
    let there = subst (λ (l : List Leg). 0 < length l) c.as_slice-more.ensures.value some in
    near_or_leads c.args.machine.now c.args.way.now c.args.s c.as_slice-more.result.now c.ends_near.result c.some_ends_near.result
    c.as_slice-more.ensures.value there c.ends_near.ensures c.if-ends_near.false c.some_ends_near.ensures
