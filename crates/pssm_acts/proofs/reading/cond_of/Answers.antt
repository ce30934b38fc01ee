use Rattle.std.proofs.Common.{length, subst}
use Rattle.pssm_acts.specs.Answers.{Answers}
use Rattle.pssm_acts.specs.inner.ExprReading.{token_of}
use Rattle.pssm_acts.specs.inner.GuardReading.{guard_step, guard_value, text_reading}
use Rattle.pssm_acts.specs.inner.TextLeft.{left}
use Rattle.pssm_acts.proofs.Readers.{refused, ended, handed_on}
use Rattle.pssm_acts.proofs.TextLaws.{start, token_passed}
use Rattle.pssm_acts.proofs.reading.cond_of.Goals as goal

pub loop-piece-init : goal.loop-piece-init
loop-piece-init c = start c.args.names.now c.args.text.now c.new_guard-reader.result c.of-tokens.result c.new_guard-reader.ensures c.of-tokens.ensures.all c.of-tokens.ensures.short

pub returns-in_err-reader : goal.returns-in_err-reader
returns-in_err-reader c =
    let fault = c.in_err-reader.field-0.0 in
    let due = text_reading c.args.names.now c.args.text.now in
    handed_on due c.from_residual.result fault c.from_residual.ensures.1
    (refused (guard_step c.args.names.now 16) (λ r. guard_value r (length c.args.text.now)) due c.loop-piece.reader (token_of c.in-Some.piece) (left c.next.new.self) (left c.loop-piece.tokens) fault c.in-Some.ensures.first c.loop-piece.invariant.same c.in_err-reader.ensures)

pub loop-piece-preserved : goal.loop-piece-preserved
loop-piece-preserved c =
    token_passed c.args.names.now c.args.text.now c.loop-piece.reader c.in_ok-reader.reader c.loop-piece.tokens c.next.new.self (token_of c.in-Some.piece) c.in-Some.ensures.first c.next.ensures.short c.loop-piece.invariant c.in_ok-reader.ensures

pub returns : goal.returns
returns c =
    let worth = ended (guard_step c.args.names.now 16) (λ r. guard_value r (length c.args.text.now)) (text_reading c.args.names.now c.args.text.now) c.loop-piece.reader (left c.loop-piece.tokens) c.in_default.ensures.first c.loop-piece.invariant.same in
    subst (λ due. Answers due c.guard_end.result) worth c.guard_end.ensures
