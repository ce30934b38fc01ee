use Rattle.std.proofs.Common.{◌≡◌, position, bytes_eq, None}
use Rattle.pssm_acts.specs.inner.ExprReading.{token_of}
use Rattle.pssm_acts.proofs.ReaderLaws.{receiver_unknown}
use Rattle.pssm_acts.proofs.phrase_reader.receiver.Goals as goal

pub returns-in-None : goal.returns-in-None
returns-in-None c =
    let none : position (λ n. bytes_eq n c.args.piece.word.now) c.args.names.now.objects ≡ None = cc in
    receiver_unknown c.args.names.now (token_of c.args.piece) c.in-Name.is none
