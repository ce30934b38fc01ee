use Rattle.std.proofs.Common.{◌≡◌, ◌≤◌, inr, sym, arith, None, length}
use Rattle.pssm_xml.specs.inner.Cuts.{piece_of}
use Rattle.pssm_xml.specs.inner.Frames.{state_of, frames_of}
use Rattle.pssm_xml.specs.inner.Growth.{behind_piece}
use Rattle.pssm_xml.specs.inner.Reads.{StopsAt}
use Rattle.pssm_xml.proofs.document.step.Goals as goal

pub returns-then-begins_element-clause-stops : goal.returns-then-begins_element-clause-stops
returns-then-begins_element-clause-stops c =
    let element = c.begins_element.ensures.0 c.if-begins_element.true in
    let many = c.if-depth_of-ge-MOST_OPEN.true in
    let depth = c.depth_of.ensures in
    let deep : 128 ≤ length (frames_of c.args.progress.place) = omega (arith, many, depth) in
    inr (StopsAt.too_deep element deep)

pub returns-in-None-clause-stops : goal.returns-in-None-clause-stops
returns-in-None-clause-stops c =
    let none : None ≡ behind_piece (state_of c.args.progress) c.args.at (piece_of c.args.cut) = rw c.in-None.is at c.in_ok-next.ensures in
    inr (StopsAt.wrong (sym none))
