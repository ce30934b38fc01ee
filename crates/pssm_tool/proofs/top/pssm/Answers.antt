use Rattle.std.proofs.Common.{None, sym, ◌∙◌, inl, inr, arith}
use Rattle.pssm_base.specs.Reading.{given}
use Rattle.pssm_tool.specs.Words.{texts}
use Rattle.pssm_tool.proofs.AnswerLaws.{gives_good, gives_refuse, gives_usage, gives_bad_model, gives_bad_journal, gives_limit, gives_too_large, run_accepted, accepted_goes_on, exactly_owed, exactly_read, runs_owed, runs_read}
use Rattle.pssm_tool.proofs.DueOnce.{HasOneLoad}
use Rattle.pssm_tool.proofs.HeadlineLaws.{accepts_prefixes, accepts_prefixes_read}
use Rattle.pssm_tool.proofs.top.pssm.Goals as goal

pub returns-in-Ok-clause-accepted : goal.returns-in-Ok-clause-accepted
returns-in-Ok-clause-accepted g c is =
    let told = c.tell.ensures.told (λ e. omega arith) (λ e. omega arith) in
    gives_good (texts c.args.words.now) (given (g.I.Inputs.content c.args.inputs.now) (g.I.Inputs.history c.args.inputs.now) (g.I.Inputs.history c.answer.new.inputs)) (g.S.Sink.taken c.args.out.now) (g.S.Sink.taken c.tell.new.out) c.in-Ok.answer
    c.in-Ok.ensures.owed told.1 (sym told.0 ∙ is)

pub returns-in-Ok-clause-refused : goal.returns-in-Ok-clause-refused
returns-in-Ok-clause-refused g c is =
    let told = c.tell.ensures.told (λ e. omega arith) (λ e. omega arith) in
    gives_refuse (texts c.args.words.now) (given (g.I.Inputs.content c.args.inputs.now) (g.I.Inputs.history c.args.inputs.now) (g.I.Inputs.history c.answer.new.inputs)) (g.S.Sink.taken c.args.out.now) (g.S.Sink.taken c.tell.new.out) c.in-Ok.answer
    c.in-Ok.ensures.owed told.1 (sym told.0 ∙ is)

pub returns-in-Ok-clause-usage : goal.returns-in-Ok-clause-usage
returns-in-Ok-clause-usage g c is =
    let told = c.tell.ensures.told (λ e. omega arith) (λ e. omega arith) in
    gives_usage (texts c.args.words.now) (given (g.I.Inputs.content c.args.inputs.now) (g.I.Inputs.history c.args.inputs.now) (g.I.Inputs.history c.answer.new.inputs)) (g.S.Sink.taken c.args.out.now) (g.S.Sink.taken c.tell.new.out) c.in-Ok.answer
    c.in-Ok.ensures.owed told.1 (sym told.0 ∙ is)

pub returns-in-Ok-clause-bad_model : goal.returns-in-Ok-clause-bad_model
returns-in-Ok-clause-bad_model g c is =
    let told = c.tell.ensures.told (λ e. omega arith) (λ e. omega arith) in
    gives_bad_model (texts c.args.words.now) (given (g.I.Inputs.content c.args.inputs.now) (g.I.Inputs.history c.args.inputs.now) (g.I.Inputs.history c.answer.new.inputs)) (g.S.Sink.taken c.args.out.now) (g.S.Sink.taken c.tell.new.out) c.in-Ok.answer
    c.in-Ok.ensures.owed told.1 (sym told.0 ∙ is)

pub returns-in-Ok-clause-bad_journal : goal.returns-in-Ok-clause-bad_journal
returns-in-Ok-clause-bad_journal g c is =
    let told = c.tell.ensures.told (λ e. omega arith) (λ e. omega arith) in
    gives_bad_journal (texts c.args.words.now) (given (g.I.Inputs.content c.args.inputs.now) (g.I.Inputs.history c.args.inputs.now) (g.I.Inputs.history c.answer.new.inputs)) (g.S.Sink.taken c.args.out.now) (g.S.Sink.taken c.tell.new.out) c.in-Ok.answer
    c.in-Ok.ensures.owed told.1 (sym told.0 ∙ is)

pub returns-in-Ok-clause-limited : goal.returns-in-Ok-clause-limited
returns-in-Ok-clause-limited g c is =
    let told = c.tell.ensures.told (λ e. omega arith) (λ e. omega arith) in
    gives_limit (texts c.args.words.now) (given (g.I.Inputs.content c.args.inputs.now) (g.I.Inputs.history c.args.inputs.now) (g.I.Inputs.history c.answer.new.inputs)) (g.S.Sink.taken c.args.out.now) (g.S.Sink.taken c.tell.new.out) c.in-Ok.answer
    c.in-Ok.ensures.owed told.1 (sym told.0 ∙ is)

pub returns-in-Ok-clause-too_large : goal.returns-in-Ok-clause-too_large
returns-in-Ok-clause-too_large g c is =
    let told = c.tell.ensures.told (λ e. omega arith) (λ e. omega arith) in
    gives_too_large (texts c.args.words.now) (given (g.I.Inputs.content c.args.inputs.now) (g.I.Inputs.history c.args.inputs.now) (g.I.Inputs.history c.answer.new.inputs)) (g.S.Sink.taken c.args.out.now) (g.S.Sink.taken c.tell.new.out) c.in-Ok.answer
    c.in-Ok.ensures.owed told.1 (sym told.0 ∙ is)

-- What a run wrote is accepted.
pub returns-in-Ok-clause-accepts_runs : goal.returns-in-Ok-clause-accepts_runs
returns-in-Ok-clause-accepts_runs g c options model stimuli is code = elim code [
  | inl zero ↦
      let told = c.tell.ensures.told (λ e. omega arith) (λ e. omega arith) in
      run_accepted (texts c.args.words.now) (given (g.I.Inputs.content c.args.inputs.now) (g.I.Inputs.history c.args.inputs.now) (g.I.Inputs.history c.answer.new.inputs)) (g.S.Sink.taken c.args.out.now) (g.S.Sink.taken c.tell.new.out) c.in-Ok.answer
      options model stimuli c.in-Ok.ensures.owed told.1 is (inl (sym told.0 ∙ zero))
  | inr eight ↦
      let told = c.tell.ensures.told (λ e. omega arith) (λ e. omega arith) in
      run_accepted (texts c.args.words.now) (given (g.I.Inputs.content c.args.inputs.now) (g.I.Inputs.history c.args.inputs.now) (g.I.Inputs.history c.answer.new.inputs)) (g.S.Sink.taken c.args.out.now) (g.S.Sink.taken c.tell.new.out) c.in-Ok.answer
      options model stimuli c.in-Ok.ensures.owed told.1 is (inr (sym told.0 ∙ eight))
]

-- The answer that is owed is the one that comes.
pub returns-in-Ok-clause-exactly : goal.returns-in-Ok-clause-exactly
returns-in-Ok-clause-exactly g c answer known due =
    let law : HasOneLoad = record { setting = c.one_load.ensures.setting; apart = c.one_load.ensures.apart } in
    exactly_owed law (texts c.args.words.now) (g.I.Inputs.content c.args.inputs.now) (g.I.Inputs.history c.args.inputs.now) (g.I.Inputs.history c.answer.new.inputs) None None c.tell.result.code c.in-Ok.answer answer known c.in-Ok.ensures.owed c.tell.ensures.told due

-- So is it of what was read.
pub returns-in-Ok-clause-exactly_read : goal.returns-in-Ok-clause-exactly_read
returns-in-Ok-clause-exactly_read g c answer kept due =
    let law : HasOneLoad = record { setting = c.one_load.ensures.setting; apart = c.one_load.ensures.apart } in
    exactly_read law (texts c.args.words.now) (g.I.Inputs.content c.args.inputs.now) (g.I.Inputs.history c.args.inputs.now) (g.I.Inputs.history c.answer.new.inputs) c.tell.result.code c.in-Ok.answer answer kept c.in-Ok.ensures.owed c.tell.ensures.told due

-- The run that is owed comes.
pub returns-in-Ok-clause-runs : goal.returns-in-Ok-clause-runs
returns-in-Ok-clause-runs g c setting stimuli known run =
    let law : HasOneLoad = record { setting = c.one_load.ensures.setting; apart = c.one_load.ensures.apart } in
    runs_owed law (texts c.args.words.now) (g.I.Inputs.content c.args.inputs.now) (g.I.Inputs.history c.args.inputs.now) (g.I.Inputs.history c.answer.new.inputs) None None c.tell.result.code c.in-Ok.answer setting stimuli known c.in-Ok.ensures.owed c.tell.ensures.told run

-- The journal that was accepted goes on to a complete run.
pub returns-in-Ok-clause-continued : goal.returns-in-Ok-clause-continued
returns-in-Ok-clause-continued g c zero model journal is =
    let told = c.tell.ensures.told (λ e. omega arith) (λ e. omega arith) in
    accepted_goes_on (texts c.args.words.now) (given (g.I.Inputs.content c.args.inputs.now) (g.I.Inputs.history c.args.inputs.now) (g.I.Inputs.history c.answer.new.inputs)) c.in-Ok.answer model journal c.in-Ok.ensures.owed c.in-Ok.ensures.goes_on (sym told.0 ∙ zero) is

-- Accepted, and a prefix of a complete run.
pub returns-in-Ok-clause-headline : goal.returns-in-Ok-clause-headline
returns-in-Ok-clause-headline g c known =
    let law : HasOneLoad = record { setting = c.one_load.ensures.setting; apart = c.one_load.ensures.apart } in
    accepts_prefixes law (texts c.args.words.now) (g.I.Inputs.content c.args.inputs.now) (g.I.Inputs.history c.args.inputs.now) (g.I.Inputs.history c.answer.new.inputs) c.tell.result.code c.in-Ok.answer known c.in-Ok.ensures.owed c.tell.ensures.told
    (λ zero model journal is.
    let told = c.tell.ensures.told (λ e. omega arith) (λ e. omega arith) in
    accepted_goes_on (texts c.args.words.now) (given (g.I.Inputs.content c.args.inputs.now) (g.I.Inputs.history c.args.inputs.now) (g.I.Inputs.history c.answer.new.inputs)) c.in-Ok.answer model journal c.in-Ok.ensures.owed c.in-Ok.ensures.goes_on (sym told.0 ∙ zero) is)

-- So is it of what was read.
pub returns-in-Ok-clause-headline_read : goal.returns-in-Ok-clause-headline_read
returns-in-Ok-clause-headline_read g c kept =
    let law : HasOneLoad = record { setting = c.one_load.ensures.setting; apart = c.one_load.ensures.apart } in
    accepts_prefixes_read law (texts c.args.words.now) (g.I.Inputs.content c.args.inputs.now) (g.I.Inputs.history c.args.inputs.now) (g.I.Inputs.history c.answer.new.inputs) c.tell.result.code c.in-Ok.answer kept c.in-Ok.ensures.owed c.tell.ensures.told
    (λ zero model journal is.
    let told = c.tell.ensures.told (λ e. omega arith) (λ e. omega arith) in
    accepted_goes_on (texts c.args.words.now) (given (g.I.Inputs.content c.args.inputs.now) (g.I.Inputs.history c.args.inputs.now) (g.I.Inputs.history c.answer.new.inputs)) c.in-Ok.answer model journal c.in-Ok.ensures.owed c.in-Ok.ensures.goes_on (sym told.0 ∙ zero) is)

pub returns-in-Ok-clause-runs_read : goal.returns-in-Ok-clause-runs_read
returns-in-Ok-clause-runs_read g c setting stimuli kept run =
    let law : HasOneLoad = record { setting = c.one_load.ensures.setting; apart = c.one_load.ensures.apart } in
    runs_read law (texts c.args.words.now) (g.I.Inputs.content c.args.inputs.now) (g.I.Inputs.history c.args.inputs.now) (g.I.Inputs.history c.answer.new.inputs) c.tell.result.code c.in-Ok.answer setting stimuli kept c.in-Ok.ensures.owed c.tell.ensures.told run
