-- the object of the entry goes on by it
use Rattle.std.proofs.Common.{get_or, ap, ◌∙◌}
use Rattle.pssm_semantics.specs.declared.entry.ObjectId.{ObjectId}
use Rattle.pssm_semantics.specs.Journal.{object_of}
use Rattle.pssm_system.proofs.Members.{member, member_at}
use Rattle.pssm_system.proofs.Views.{can_come, stepped}
use Rattle.pssm_system.proofs.stepping.settle.Goals as goal

pub settle-requires-clause-class : goal.settle-requires-clause-class
settle-requires-clause-class c =
    (member c.requires.well_formed c.requires.can.are c.object_of-own.result c.class_of.result.now c.index-objects-from.result c.from.result c.class_of.ensures
    c.from.ensures c.index-objects-from.is).well_formed

pub settle-requires-clause-can : goal.settle-requires-clause-can
settle-requires-clause-can c =
    let x = get_or c.args.objects.now c.from.result c.index-objects-from.result in
    let m = member_at c.requires.well_formed c.requires.can.are (object_of c.args.entry.now) c.class_of.result.now c.from.result c.index-objects-from.result
    (rw c.object_of-own.ensures at c.class_of.ensures) (c.from.ensures ∙ ap (λ (o : ObjectId). o.0) c.object_of-own.ensures) in
    can_come c.requires.well_formed c.requires.can c.class_of.result.now x x m

pub returns-clause-ok : goal.returns-clause-ok
returns-clause-ok c =
    let x = get_or c.args.objects.now c.from.result c.index-objects-from.result in
    let at = c.from.ensures ∙ ap (λ (o : ObjectId). o.0) c.object_of-own.ensures in
    let m = member_at c.requires.well_formed c.requires.can.are (object_of c.args.entry.now) c.class_of.result.now c.from.result c.index-objects-from.result
    (rw c.object_of-own.ensures at c.class_of.ensures) at in
    stepped c.requires.well_formed c.requires.can c.class_of.result.now x c.settle.new.self m c.from.result at c.settle.result c.settle.ensures.own c.settle.ensures.ok

pub settle-requires-clause-made : goal.settle-requires-clause-made
settle-requires-clause-made c =
    let m = member_at c.requires.well_formed c.requires.can.are (object_of c.args.entry.now) c.class_of.result.now c.from.result c.index-objects-from.result
    (rw c.object_of-own.ensures at c.class_of.ensures) (c.from.ensures ∙ ap (λ (o : ObjectId). o.0) c.object_of-own.ensures) in
    c.requires.made c.class_of.result.now (get_or c.args.objects.now c.from.result c.index-objects-from.result) m.class_is m.there
