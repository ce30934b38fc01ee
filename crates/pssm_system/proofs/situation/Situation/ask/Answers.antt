-- the object is one that stands, and what it says is known
use Rattle.std.proofs.Common.{sym, ◌∙◌}
use Rattle.std.specs.Option.{option_copied}
use Rattle.pssm_system.proofs.Members.{member, stands_somewhere}
use Rattle.pssm_system.proofs.Views.{says, says_of_member}
use Rattle.pssm_system.proofs.situation.Situation.ask.Goals as goal

pub allows-requires-clause-class : goal.allows-requires-clause-class
allows-requires-clause-class c =
    (member c.requires.well_formed c.requires.stands.1.objects c.object_of-own.result c.class_of.result.now c.index-object.result.now c.from.result
    c.class_of.ensures c.from.ensures c.index-object.ensures).well_formed

pub allows-requires-clause-stands : goal.allows-requires-clause-stands
allows-requires-clause-stands c =
    stands_somewhere (member c.requires.well_formed c.requires.stands.1.objects c.object_of-own.result c.class_of.result.now c.index-object.result.now c.from.result
    c.class_of.ensures c.from.ensures c.index-object.ensures)

pub allows-requires-clause-own : goal.allows-requires-clause-own
allows-requires-clause-own c =
    let m = member c.requires.well_formed c.requires.stands.1.objects c.object_of-own.result c.class_of.result.now c.index-object.result.now c.from.result
    c.class_of.ensures c.from.ensures c.index-object.ensures in
    sym c.object_of-own.ensures ∙ sym m.object.own

pub returns : goal.returns
returns c =
    let m = member c.requires.well_formed c.requires.stands.1.objects c.object_of-own.result c.class_of.result.now c.index-object.result.now c.from.result
    c.class_of.ensures c.from.ensures c.index-object.ensures in
    says_of_member m (option_copied c.args.signal) c.args.entry.now c.object_of-own.ensures c.allows.result
    (says c.class_of.result.now c.index-object.result.now (option_copied c.args.signal) c.args.entry.now c.allows.result c.allows.ensures.keeps
    c.allows.ensures.breaks)
