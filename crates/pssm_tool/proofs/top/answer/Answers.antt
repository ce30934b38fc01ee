use Rattle.std.proofs.Common.{IfSome, refl, subst}
use Rattle.pssm_base.specs.Reading.{Given, given, ReadsNothing}
use Rattle.pssm_tool.specs.Words.{texts, Means, Judges, Checks, Prints, Generates}
use Rattle.pssm_tool.specs.inner.Commands.{meaning_of, meaning_of_run, lent}
use Rattle.pssm_tool.specs.Due.{IsOwed}
use Rattle.pssm_tool.specs.inner.Failures.{GoesOn}
use Rattle.pssm_tool.proofs.DueLaws.{at_words, at_any, at_nothing, no_memory_failed}
use Rattle.pssm_tool.proofs.WordLaws.{limit_low, workers_few, gen_in_range}
use Rattle.pssm_tool.proofs.top.answer.Goals as goal

pub returns-in-Some-Judge-clause-owed : goal.returns-in-Some-Judge-clause-owed
returns-in-Some-Judge-clause-owed g c =
    at_words c.judge_journal.result (λ w a. IsOwed w (given (g.I.Inputs.content c.args.inputs.now) (g.I.Inputs.history c.args.inputs.now) (g.I.Inputs.history c.judge_journal.new.inputs)) a) (texts c.args.words.now) (Judges c.in-Some-Judge.model.now c.in-Some-Judge.journal.now) c.judge_journal.ensures.owed
    (subst (λ command. Means (texts c.args.words.now) (meaning_of command)) c.in-Some-Judge.field-0-is (subst (λ o. IfSome o (λ command. Means (texts c.args.words.now) (meaning_of command))) c.in-Some-Judge.is c.in_ok-command.ensures.reads))

pub returns-in-Some-Run-clause-owed : goal.returns-in-Some-Run-clause-owed
returns-in-Some-Run-clause-owed g c =
    at_words c.run_model.result (λ w a. IsOwed w (given (g.I.Inputs.content c.args.inputs.now) (g.I.Inputs.history c.args.inputs.now) (g.I.Inputs.history c.run_model.new.inputs)) a) (texts c.args.words.now) (meaning_of_run c.in-Some-Run.asked) c.run_model.ensures.owed
    (subst (λ command. Means (texts c.args.words.now) (meaning_of command)) c.in-Some-Run.field-0-is (subst (λ o. IfSome o (λ command. Means (texts c.args.words.now) (meaning_of command))) c.in-Some-Run.is c.in_ok-command.ensures.reads))

-- The limit that the words choose is in its range.
pub run_model-requires-clause-limit : goal.run_model-requires-clause-limit
run_model-requires-clause-limit g c κs within =
    limit_low (texts c.args.words.now) c.in-Some-Run.asked.options c.in-Some-Run.asked.model.now (lent c.in-Some-Run.asked.stimuli.items)
    (subst (λ command. Means (texts c.args.words.now) (meaning_of command)) c.in-Some-Run.field-0-is (subst (λ o. IfSome o (λ command. Means (texts c.args.words.now) (meaning_of command))) c.in-Some-Run.is c.in_ok-command.ensures.reads))

-- So is the number of workers.
pub run_model-requires-clause-workers : goal.run_model-requires-clause-workers
run_model-requires-clause-workers g c κs within =
    workers_few (texts c.args.words.now) c.in-Some-Run.asked.options c.in-Some-Run.asked.model.now (lent c.in-Some-Run.asked.stimuli.items)
    (subst (λ command. Means (texts c.args.words.now) (meaning_of command)) c.in-Some-Run.field-0-is (subst (λ o. IfSome o (λ command. Means (texts c.args.words.now) (meaning_of command))) c.in-Some-Run.is c.in_ok-command.ensures.reads))

pub returns-in-Some-Check-clause-owed : goal.returns-in-Some-Check-clause-owed
returns-in-Some-Check-clause-owed g c =
    at_words c.check_model.result (λ w a. IsOwed w (given (g.I.Inputs.content c.args.inputs.now) (g.I.Inputs.history c.args.inputs.now) (g.I.Inputs.history c.check_model.new.inputs)) a) (texts c.args.words.now) (Checks c.in-Some-Check.model.now) c.check_model.ensures.owed
    (subst (λ command. Means (texts c.args.words.now) (meaning_of command)) c.in-Some-Check.field-0-is (subst (λ o. IfSome o (λ command. Means (texts c.args.words.now) (meaning_of command))) c.in-Some-Check.is c.in_ok-command.ensures.reads))

pub returns-in-Some-Flat-clause-owed : goal.returns-in-Some-Flat-clause-owed
returns-in-Some-Flat-clause-owed g c =
    at_words c.print_model.result (λ w a. IsOwed w (given (g.I.Inputs.content c.args.inputs.now) (g.I.Inputs.history c.args.inputs.now) (g.I.Inputs.history c.print_model.new.inputs)) a) (texts c.args.words.now) (Prints c.in-Some-Flat.model.now) c.print_model.ensures.owed
    (subst (λ command. Means (texts c.args.words.now) (meaning_of command)) c.in-Some-Flat.field-0-is (subst (λ o. IfSome o (λ command. Means (texts c.args.words.now) (meaning_of command))) c.in-Some-Flat.is c.in_ok-command.ensures.reads))

-- The number is in its range.
pub generate_and_run-requires-clause-some : goal.generate_and_run-requires-clause-some
generate_and_run-requires-clause-some g c = (gen_in_range (texts c.args.words.now) c.in-Some-Generate.number
    (subst (λ command. Means (texts c.args.words.now) (meaning_of command)) c.in-Some-Generate.field-0-is (subst (λ o. IfSome o (λ command. Means (texts c.args.words.now) (meaning_of command))) c.in-Some-Generate.is c.in_ok-command.ensures.reads))).0

pub generate_and_run-requires-clause-few : goal.generate_and_run-requires-clause-few
generate_and_run-requires-clause-few g c = (gen_in_range (texts c.args.words.now) c.in-Some-Generate.number
    (subst (λ command. Means (texts c.args.words.now) (meaning_of command)) c.in-Some-Generate.field-0-is (subst (λ o. IfSome o (λ command. Means (texts c.args.words.now) (meaning_of command))) c.in-Some-Generate.is c.in_ok-command.ensures.reads))).1

pub returns-in-Some-Generate-clause-owed : goal.returns-in-Some-Generate-clause-owed
returns-in-Some-Generate-clause-owed g c =
    at_nothing c.generate_and_run.result (λ x a. IsOwed (texts c.args.words.now) x a) (given (g.I.Inputs.content c.args.inputs.now) (g.I.Inputs.history c.args.inputs.now) (g.I.Inputs.history c.args.inputs.now)) refl
    (at_words c.generate_and_run.result (λ w a. (x : Given) → ReadsNothing x → IsOwed w x a) (texts c.args.words.now) (Generates c.in-Some-Generate.number) c.generate_and_run.ensures.owed
    (subst (λ command. Means (texts c.args.words.now) (meaning_of command)) c.in-Some-Generate.field-0-is (subst (λ o. IfSome o (λ command. Means (texts c.args.words.now) (meaning_of command))) c.in-Some-Generate.is c.in_ok-command.ensures.reads)))

pub returns-in-Some-Generate-clause-goes_on : goal.returns-in-Some-Generate-clause-goes_on
returns-in-Some-Generate-clause-goes_on g c =
    at_any c.generate_and_run.result (λ x a. GoesOn (texts c.args.words.now) x a) (given (g.I.Inputs.content c.args.inputs.now) (g.I.Inputs.history c.args.inputs.now) (g.I.Inputs.history c.args.inputs.now))
    (at_any c.generate_and_run.result (λ w a. (x : Given) → GoesOn w x a) (texts c.args.words.now) c.generate_and_run.ensures.goes_on)

pub returns-in-Some-Generate-clause-failed : goal.returns-in-Some-Generate-clause-failed
returns-in-Some-Generate-clause-failed g c = no_memory_failed c.generate_and_run.result (texts c.args.words.now) _ _ c.generate_and_run.ensures.failed
