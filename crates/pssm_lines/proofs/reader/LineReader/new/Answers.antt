use Rattle.std.proofs.Common.{false, subst, sym}
use Rattle.pssm_lines.specs.Faults.{IsOpen}
use Rattle.pssm_lines.proofs.Streams.{open_nothing}
use Rattle.pssm_lines.proofs.reader.LineReader.new.Goals as goal

pub invariant_of-result : goal.invariant_of-result
invariant_of-result c = subst (λ t. IsOpen false t) (sym c.new.ensures.items) open_nothing
