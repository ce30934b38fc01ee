use Rattle.std.proofs.Common.{◌≡◌, [], List, sym, subst}
use Rattle.pssm_model.specs.declared.ids.ActId.{ActId}
use Rattle.pssm_bodies.specs.Programs.{NumbersSteps, without}
use Rattle.pssm_bodies.proofs.ActLaws.{none_first, one_first, step_stops}
use Rattle.pssm_bodies.proofs.numbered.steps_added.Goals as goal

pub returns-in-None-clause-numbers : goal.returns-in-None-clause-numbers
returns-in-None-clause-numbers c =
    let names = c.args.names.now in
    let bodies = c.args.bodies.now in
    let p = c.args.program in
    let none : c.args.from.now ≡ [] = none_first c.args.from.now c.in-None.ensures.value in
    subst (λ (to : List ActId). NumbersSteps names bodies p c.args.from.now to p) (sym c.new.ensures.items)
    (subst (λ (from : List ActId). NumbersSteps names bodies p from [] p) (sym none) without)

pub returns-in-Some-clause-fault : goal.returns-in-Some-clause-fault
returns-in-Some-clause-fault c =
    step_stops c.args.names.now c.args.bodies.now c.args.program c.args.from.now c.in-Some.body.now c.steps_kept.result
    (one_first c.args.from.now c.in-Some.body.now c.in-Some.ensures.value c.requires.one) c.steps_kept.ensures.fault
