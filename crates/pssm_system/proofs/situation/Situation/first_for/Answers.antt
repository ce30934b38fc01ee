-- the object is the one that stands there
use Rattle.std.specs.Option.{option_copied}
use Rattle.pssm_pool.specs.Waits.{waiting_for}
use Rattle.pssm_system.specs.inner.Deferring.{IsFirstFree}
use Rattle.pssm_system.proofs.Members.{member, of_member, stands_somewhere}
use Rattle.pssm_system.proofs.situation.Situation.first_for.Goals as goal

pub first_free-requires-clause-class : goal.first_free-requires-clause-class
first_free-requires-clause-class c =
    (member c.requires.well_formed c.requires.stands.1.objects c.args.own c.class_of.result.now c.index-object.result.now c.from.result c.class_of.ensures
    c.from.ensures c.index-object.ensures).well_formed

pub first_free-requires-clause-stands : goal.first_free-requires-clause-stands
first_free-requires-clause-stands c =
    stands_somewhere (member c.requires.well_formed c.requires.stands.1.objects c.args.own c.class_of.result.now c.index-object.result.now c.from.result
    c.class_of.ensures c.from.ensures c.index-object.ensures)

pub returns : goal.returns
returns c = λ class x is at.
    let stands = c.requires.stands.1 in
    let m = member c.requires.well_formed stands.objects c.args.own c.class_of.result.now c.index-object.result.now c.from.result c.class_of.ensures
    c.from.ensures c.index-object.ensures in
    let first = option_copied c.first_free.result in
    of_member m (λ k y. IsFirstFree k y (waiting_for c.args.self.now.pools.waiting c.args.own) first) c.first_free.ensures class x is at
