use Rattle.std.proofs.Common.{length, drop}
use Rattle.pssm_xml.specs.inner.Frames.{state_of, HasFrames}
use Rattle.pssm_xml.specs.inner.Reads.{IsBefore}
use Rattle.pssm_xml.proofs.document.read.Given as goal

abbrev pub invariant-pieces : goal.invariant-pieces
invariant-pieces l = IsBefore l.bytes l.text (drop (length l.text) l.bytes) l.rest l.at (state_of l.progress) × HasFrames (state_of l.progress)

abbrev pub decreases-pieces : goal.decreases-pieces
decreases-pieces l = length l.rest
