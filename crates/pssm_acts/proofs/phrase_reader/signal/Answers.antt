use Rattle.std.proofs.Common.{◌≡◌, position, bytes_eq, None, Some}
use Rattle.pssm_acts.specs.inner.ExprReading.{token_of}
use Rattle.pssm_acts.specs.inner.PhraseReading.{signal_found}
use Rattle.pssm_acts.proofs.ReaderLaws.{signal_step}
use Rattle.pssm_acts.proofs.phrase_reader.signal.Goals as goal

pub returns-in-Some : goal.returns-in-Some
returns-in-Some c =
    let found : signal_found c.args.names.now.signals (position (λ d. bytes_eq d.name c.args.piece.word.now) c.args.names.now.signals) ≡ Some (c.in-Some.signal, c.in-Some.count) = cc in
    signal_step c.args.names.now c.args.object (token_of c.args.piece) (Some (c.in-Some.signal, c.in-Some.count)) c.in-Name.is found

pub returns-in-None : goal.returns-in-None
returns-in-None c =
    let found : signal_found c.args.names.now.signals (position (λ d. bytes_eq d.name c.args.piece.word.now) c.args.names.now.signals) ≡ None = cc in
    signal_step c.args.names.now c.args.object (token_of c.args.piece) None c.in-Name.is found
