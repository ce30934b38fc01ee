use Rattle.std.proofs.Common.{◌≡◌, ◌∙◌, ◌+◌, ap, arith, Some, None, List, drop, length, length-append, ℕ, []}
use Rattle.pssm_xml.specs.Pieces.{Piece}
use Rattle.pssm_xml.specs.Documents.{Element}
use Rattle.pssm_xml.specs.inner.Cuts.{piece_of}
use Rattle.pssm_xml.specs.inner.Frames.{state_of}
use Rattle.pssm_xml.specs.inner.Growth.{State}
use Rattle.pssm_xml.specs.inner.Reading.{piece_taken}
use Rattle.pssm_xml.proofs.DocumentLaws.{before_start, before_turn, stop_told, before_end, before_count, taken_shorter, before_room, frames_turn}
use Rattle.pssm_xml.proofs.document.read.Goals as goal

pub pieces-init : goal.pieces-init
pieces-init c =
    let start = ap (λ (es : List Element). let s : State = record { frames = []; elements = es } in s) c.new.ensures in
    (before_start c.args.bytes.now c.args.text.now (drop (length c.args.text.now) c.args.bytes.now) _ _ _ c.requires.good c.start_of-start.ensures start, record { within = tt })

pub finished-requires-clause-end : goal.finished-requires-clause-end
finished-requires-clause-end c =
    let none : None ≡ piece_taken c.pieces.rest.now = rw c.in_default.is at c.in_ok-cut.ensures in
    before_end c.args.bytes.now c.args.text.now (drop (length c.args.text.now) c.args.bytes.now) c.pieces.rest.now c.pieces.at (state_of c.pieces.progress) c.pieces.invariant.0 none

pub step-requires-clause-room : goal.step-requires-clause-room
step-requires-clause-room c =
    let found : Some (let z : Piece × List ℕ = (piece_of c.in-Some.cut, c.in-Some.more.now) in z) ≡ piece_taken c.pieces.rest.now = rw c.in-Some.is at c.in_ok-cut.ensures in
    before_room c.args.bytes.now c.args.text.now (drop (length c.args.text.now) c.args.bytes.now) c.pieces.rest.now c.in-Some.more.now c.pieces.at (state_of c.pieces.progress) (piece_of c.in-Some.cut)
    c.pieces.invariant.0 found c.requires.few

pub step-requires-clause-frames : goal.step-requires-clause-frames
step-requires-clause-frames c = c.pieces.invariant.1

pub returns-in-Err-clause-fault : goal.returns-in-Err-clause-fault
returns-in-Err-clause-fault c =
    let found : Some (let z : Piece × List ℕ = (piece_of c.in-Some.cut, c.in-Some.more.now) in z) ≡ piece_taken c.pieces.rest.now = rw c.in-Some.is at c.in_ok-cut.ensures in
    stop_told c.args.bytes.now c.args.text.now (drop (length c.args.text.now) c.args.bytes.now) c.pieces.rest.now c.in-Some.more.now c.pieces.at (state_of c.pieces.progress) (piece_of c.in-Some.cut)
    c.in-Err.fault c.requires.utf8 c.pieces.invariant.0 found c.in-Err.ensures.stops

pub place_of-at-requires-clause-shorter : goal.place_of-at-requires-clause-shorter
place_of-at-requires-clause-shorter c =
    let found : Some (let z : Piece × List ℕ = (piece_of c.in-Some.cut, c.in-Some.more.now) in z) ≡ piece_taken c.pieces.rest.now = rw c.in-Some.is at c.in_ok-cut.ensures in
    let bad = drop (length c.args.text.now) c.args.bytes.now in
    let shorter = taken_shorter c.args.bytes.now c.args.text.now bad c.pieces.rest.now c.in-Some.more.now c.pieces.at (state_of c.pieces.progress) (piece_of c.in-Some.cut) c.pieces.invariant.0 found in
    let count = before_count c.args.bytes.now c.args.text.now bad c.pieces.rest.now c.pieces.at (state_of c.pieces.progress) c.pieces.invariant.0 in
    omega (arith, shorter, count)

pub place_of-at-requires-clause-few : goal.place_of-at-requires-clause-few
place_of-at-requires-clause-few c =
    let parts = c.requires.good.parts in
    let long : length c.args.bytes.now ≡ length c.args.text.now + length (drop (length c.args.text.now) c.args.bytes.now) = ap length parts ∙ length-append c.args.text.now (drop (length c.args.text.now) c.args.bytes.now) in
    let few = c.requires.few in omega (arith, long, few)

pub pieces-preserved : goal.pieces-preserved
pieces-preserved c =
    let found : Some (let z : Piece × List ℕ = (piece_of c.in-Some.cut, c.in-Some.more.now) in z) ≡ piece_taken c.pieces.rest.now = rw c.in-Some.is at c.in_ok-cut.ensures in
    let bad = drop (length c.args.text.now) c.args.bytes.now in
    let count = before_count c.args.bytes.now c.args.text.now bad c.pieces.rest.now c.pieces.at (state_of c.pieces.progress) c.pieces.invariant.0 in
    let placed = c.place_of-at.ensures in
    let goes = c.in-Ok.ensures.goes in (
      before_turn c.args.bytes.now c.args.text.now bad c.pieces.rest.now c.in-Some.more.now c.pieces.at c.place_of-at.result (state_of c.pieces.progress) (state_of c.in-Ok.next) (piece_of c.in-Some.cut)
          c.pieces.invariant.0 found goes (omega (arith, placed, count)),
      frames_turn (state_of c.pieces.progress) (state_of c.in-Ok.next) c.pieces.at (piece_of c.in-Some.cut) c.pieces.invariant.1 goes,
    )

pub pieces-smaller : goal.pieces-smaller
pieces-smaller c =
    let found : Some (let z : Piece × List ℕ = (piece_of c.in-Some.cut, c.in-Some.more.now) in z) ≡ piece_taken c.pieces.rest.now = rw c.in-Some.is at c.in_ok-cut.ensures in
    taken_shorter c.args.bytes.now c.args.text.now (drop (length c.args.text.now) c.args.bytes.now) c.pieces.rest.now c.in-Some.more.now c.pieces.at (state_of c.pieces.progress) (piece_of c.in-Some.cut)
    c.pieces.invariant.0 found
