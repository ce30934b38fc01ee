use Rattle.std.proofs.Common.{arith}
use Rattle.pssm_judge.proofs.PieceLaws.{adds_read, ends_read}
use Rattle.pssm_judge.proofs.judging.read_piece.Goals as goal

pub returns-in-Ok-clause-more : goal.returns-in-Ok-clause-more
returns-in-Ok-clause-more g c = adds_read _ c.args.from c.in-Ok.count c.read_at.new.into (omega (arith, c.read_at.auto.into, c.in-Ok.ensures.within)) c.in-Ok.ensures.front

pub returns-in-Ok-clause-end : goal.returns-in-Ok-clause-end
returns-in-Ok-clause-end g c = λ none. ends_read _ c.args.from c.in-Ok.count c.read_at.new.into c.in-Ok.ensures.front none
