use Rattle.std.proofs.Common.{length, refl, subst}
use Rattle.pssm_acts.specs.inner.ActReading.{acts_steps_in, acts_value, acts_worth, text_acts}
use Rattle.pssm_acts.specs.inner.ExprReading.{token_of}
use Rattle.pssm_acts.specs.inner.PhraseReading.{AnswersWith}
use Rattle.pssm_acts.specs.inner.TextLeft.{left}
use Rattle.pssm_acts.proofs.AnswerLaws.{beside_answers}
use Rattle.pssm_acts.proofs.ActTextLaws.{start, token_passed, fault_alone, handed_on}
use Rattle.pssm_acts.proofs.Readers.{refused, ended}
use Rattle.pssm_acts.proofs.reading.acts_of.Goals as goal

pub loop-piece-init : goal.loop-piece-init
loop-piece-init c =
    start c.args.names.now c.args.stepped c.args.text.now c.args.marks.now c.new_acts-reader.result c.of-tokens.result c.new_acts-reader.ensures c.of-tokens.ensures.all c.of-tokens.ensures.short

pub returns-in_err-reader-clause-gives : goal.returns-in_err-reader-clause-gives
returns-in_err-reader-clause-gives c =
    let names = c.args.names.now in
    let fault = c.in_err-reader.field-0.0 in
    let due = text_acts names c.args.stepped c.args.marks.now c.args.text.now in
    let step = acts_steps_in names c.args.stepped (c.loop-piece.reader, c.loop-piece.marks) (token_of c.in-Some.piece) in
    handed_on due c.from_residual.result fault c.acts_next.new.marks c.from_residual.ensures.1
    (refused (acts_steps_in names c.args.stepped) (acts_worth (length c.args.text.now)) due (c.loop-piece.reader, c.loop-piece.marks) (token_of c.in-Some.piece) (left c.next.new.self) (left c.loop-piece.tokens) fault c.in-Some.ensures.first c.loop-piece.invariant.same
    (fault_alone step fault c.acts_next.new.marks c.in_err-reader.ensures.gives))

pub loop-piece-preserved : goal.loop-piece-preserved
loop-piece-preserved c =
    token_passed c.args.names.now c.args.stepped c.args.text.now c.args.marks.now c.loop-piece.marks c.acts_next.new.marks c.loop-piece.reader c.in_ok-reader.reader c.loop-piece.tokens c.next.new.self (token_of c.in-Some.piece)
    c.in-Some.ensures.first c.next.ensures.short c.loop-piece.invariant c.in_ok-reader.ensures.gives

pub returns-clause-gives : goal.returns-clause-gives
returns-clause-gives c =
    let whole = ended (acts_steps_in c.args.names.now c.args.stepped) (acts_worth (length c.args.text.now)) (text_acts c.args.names.now c.args.stepped c.args.marks.now c.args.text.now) (c.loop-piece.reader, c.loop-piece.marks) (left c.loop-piece.tokens)
    c.in_default.ensures.first c.loop-piece.invariant.same in
    subst (λ due. AnswersWith due c.acts_end.result c.loop-piece.marks) whole
    (beside_answers (acts_value c.loop-piece.reader (length c.args.text.now)) c.acts_end.result c.loop-piece.marks c.loop-piece.marks c.acts_end.ensures refl)
