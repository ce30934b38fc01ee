-- what was found for the object may follow in the setting
use Rattle.std.specs.Option.{option_copied}
use Rattle.pssm_system.proofs.Members.{member, stands_somewhere}
use Rattle.pssm_system.proofs.Found.{awaited_found}
use Rattle.pssm_system.proofs.situation.Situation.choose_of.Goals as goal

pub next_of-requires-clause-class : goal.next_of-requires-clause-class
next_of-requires-clause-class c =
    (member c.requires.well_formed c.requires.stands.1.objects c.args.own c.class_of-class.result.now c.index-object.result.now c.from.result
    c.class_of-class.ensures c.from.ensures c.index-object.ensures).well_formed

pub next_of-requires-clause-stands : goal.next_of-requires-clause-stands
next_of-requires-clause-stands c =
    stands_somewhere (member c.requires.well_formed c.requires.stands.1.objects c.args.own c.class_of-class.result.now c.index-object.result.now c.from.result
    c.class_of-class.ensures c.from.ensures c.index-object.ensures)

pub returns : goal.returns
returns c =
    let stands = c.requires.stands.1 in
    let m = member c.requires.well_formed stands.objects c.args.own c.class_of-class.result.now c.index-object.result.now c.from.result c.class_of-class.ensures
    c.from.ensures c.index-object.ensures in
    awaited_found c.requires.well_formed c.args.self.now m (option_copied c.awaited-signal.result) c.awaited-signal.ensures c.args.wanted c.next_of.result
    c.next_of.ensures
