use Rattle.std.proofs.Common.{◌≡◌, List, Ok, sym, subst}
use Rattle.pssm_semantics.specs.declared.tree.Act.{Act}
use Rattle.pssm_acts.specs.inner.ActReading.{steps_reading}
use Rattle.pssm_acts.proofs.ActLaws.{steps_answers_spelled, steps_answers_fit, steps_known, steps_refused}
use Rattle.pssm_acts.proofs.TextFaultLaws.{steps_answers_fault, steps_refused_first, steps_read_first}
use Rattle.pssm_acts.proofs.reading.read_steps_noting.Goals as goal

pub returns-in-Ok-clause-spelled : goal.returns-in-Ok-clause-spelled
returns-in-Ok-clause-spelled c =
    let due = subst (λ (x : List Act). steps_reading c.args.names.now c.args.marks.now c.args.text.now ≡ Ok (x, c.steps_in.new.marks)) (sym c.into_vec.ensures) c.in-Ok.ensures.gives in
    steps_answers_spelled c.args.names.now c.args.marks.now c.args.text.now (Ok c.into_vec.result) c.steps_in.new.marks due

pub returns-in-Ok-clause-known : goal.returns-in-Ok-clause-known
returns-in-Ok-clause-known c =
    let due = subst (λ (x : List Act). steps_reading c.args.names.now c.args.marks.now c.args.text.now ≡ Ok (x, c.steps_in.new.marks)) (sym c.into_vec.ensures) c.in-Ok.ensures.gives in
    steps_known c.args.names.now c.args.marks.now c.args.text.now (Ok c.into_vec.result.items) c.steps_in.new.marks due

pub returns-in-Ok-clause-fits : goal.returns-in-Ok-clause-fits
returns-in-Ok-clause-fits c =
    let due = subst (λ (x : List Act). steps_reading c.args.names.now c.args.marks.now c.args.text.now ≡ Ok (x, c.steps_in.new.marks)) (sym c.into_vec.ensures) c.in-Ok.ensures.gives in
    steps_answers_fit c.args.names.now c.args.marks.now c.args.text.now (Ok c.into_vec.result) c.steps_in.new.marks due

pub returns-in-Err-clause-known : goal.returns-in-Err-clause-known
returns-in-Err-clause-known c = steps_refused c.args.names.now c.args.marks.now c.args.text.now c.in-Err.fault c.steps_in.new.marks c.truncate.new.self c.in-Err.ensures.gives

pub returns-in-Err-clause-fault : goal.returns-in-Err-clause-fault
returns-in-Err-clause-fault c = steps_answers_fault c.args.names.now c.args.marks.now c.args.text.now c.in-Err.fault c.steps_in.new.marks c.in-Err.ensures.gives

pub returns-in-Ok-clause-first : goal.returns-in-Ok-clause-first
returns-in-Ok-clause-first c =
    let due = subst (λ (x : List Act). steps_reading c.args.names.now c.args.marks.now c.args.text.now ≡ Ok (x, c.steps_in.new.marks)) (sym c.into_vec.ensures) c.in-Ok.ensures.gives in
    λ fault is. absurd (steps_read_first c.args.names.now c.args.marks.now c.args.text.now c.into_vec.result c.steps_in.new.marks due fault is)

pub returns-in-Err-clause-first : goal.returns-in-Err-clause-first
returns-in-Err-clause-first c = steps_refused_first c.args.names.now c.args.marks.now c.args.text.now c.in-Err.fault c.steps_in.new.marks c.in-Err.ensures.gives
