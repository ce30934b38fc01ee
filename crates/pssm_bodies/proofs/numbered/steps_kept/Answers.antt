use Rattle.pssm_acts.specs.Answers.{Faults}
use Rattle.pssm_bodies.specs.declared.slot.Reading.TheVariants as readings
use Rattle.pssm_bodies.specs.Slots.{text_at}
use Rattle.pssm_bodies.specs.Faults.{Fails}
use Rattle.pssm_bodies.proofs.ActLaws.{steps_past, text_fails}
use Rattle.pssm_bodies.proofs.ThroughLaws.{passed_on}
use Rattle.pssm_bodies.proofs.numbered.steps_kept.Goals as goal

pub returns-in_err-numbers-clause-fault : goal.returns-in_err-numbers-clause-fault
returns-in_err-numbers-clause-fault c =
    passed_on (Faults (Fails c.args.names.now (text_at c.args.bodies.now c.args.from.0) readings.Steps c.args.program))
    c.in_err-numbers.field-0.0 c.from_residual.result c.from_residual.ensures.1
    (text_fails c.args.names.now c.args.bodies.now c.args.program c.args.from.0 readings.Steps c.in_err-numbers.field-0.0 c.in_err-numbers.ensures.fault)

pub returns-else-keeps_limits-clause-fault : goal.returns-else-keeps_limits-clause-fault
returns-else-keeps_limits-clause-fault c =
    steps_past c.args.names.now c.args.bodies.now c.args.program c.args.from c.in_ok-numbers.numbers.items c.in_ok-numbers.behind
    c.in_ok-numbers.ensures.numbers
    (λ keeps. let is = c.keeps_limits.ensures.1 keeps in let not = c.if-keeps_limits.false in cc)
