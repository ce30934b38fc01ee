use Rattle.std.proofs.Common.{◌≡◌, position, bytes_eq, None}
use Rattle.pssm_acts.specs.inner.ExprReading.{token_of}
use Rattle.pssm_acts.proofs.ReaderLaws.{phrase_unknown}
use Rattle.pssm_acts.proofs.phrase_reader.new_phrase.Goals as goal

pub returns-in-None : goal.returns-in-None
returns-in-None c =
    let none : position (λ n. bytes_eq n c.args.piece.word.now) c.args.names.now.vars ≡ None = cc in
    phrase_unknown c.args.names.now (token_of c.args.piece) c.in-Name.is none
