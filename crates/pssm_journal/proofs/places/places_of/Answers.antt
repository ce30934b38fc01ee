use Rattle.std.proofs.Common.{◌<◌, length, arith}
use Rattle.pssm_journal.proofs.PlaceLaws.{places_none, places_more, places_all}
use Rattle.pssm_journal.proofs.places.places_of.Goals as goal

-- One thing more has its place.
pub loop-place-preserved : goal.loop-place-preserved
loop-place-preserved g c =
    let within : c.loop-place.place < length c.args.named.now = omega (arith, c.loop-place-test.true) in
    places_more g.T.Named.name_of c.args.named.now c.loop-place.place c.index-named-place.result c.loop-place.places c.note.new.places c.name.result.now
    within c.index-named-place.is c.name.ensures c.in_ok-note.ensures c.loop-place.invariant

-- All have.
pub returns : goal.returns
returns g c = places_all g.T.Named.name_of c.args.named.now c.loop-place.place c.before.loop-place.places (omega (arith, c.loop-place-test.false)) c.loop-place.invariant

pub loop-place-init : goal.loop-place-init
loop-place-init g c = places_none g.T.Named.name_of c.args.named.now c.in_ok-places.places c.in_ok-places.ensures.empty
