-- the object names it
use Rattle.std.proofs.Common.{◌<◌, List, length, slice_get, sym, ap, subst, ◌∙◌, arith}
use Rattle.std.proofs.lemmas.Bool.{false≢true}
use Rattle.pssm_semantics.specs.declared.stimulus.Task.{Task}
use Rattle.pssm_system.proofs.Members.{member, stands_somewhere}
use Rattle.pssm_system.proofs.OwnTasks.{own_none, own_ready}
use Rattle.pssm_system.proofs.situation.Situation.task_of.Goals as goal

pub unreachable-requires : goal.unreachable-requires
unreachable-requires c =
    let none = ap (λ (ts : List Task). length ts) (own_none c.requires.well_formed c.requires.stands.1.objects c.args.own (λ lt. false≢true (sym c.if-not-has.true ∙ c.has.ensures.1 lt))) in
    let there = c.requires.there in
    omega (arith, none, there)

pub task_at-requires-clause-stands : goal.task_at-requires-clause-stands
task_at-requires-clause-stands c =
    stands_somewhere (member c.requires.well_formed c.requires.stands.1.objects c.args.own c.class_of.result.now c.index-object.result.now c.from.result
    c.class_of.ensures c.from.ensures c.index-object.ensures)

pub task_at-requires-clause-there : goal.task_at-requires-clause-there
task_at-requires-clause-there c =
    let m = member c.requires.well_formed c.requires.stands.1.objects c.args.own c.class_of.result.now c.index-object.result.now c.from.result
    c.class_of.ensures c.from.ensures c.index-object.ensures in
    subst (λ (ts : List Task). c.args.i < length ts)
    (own_ready c.requires.well_formed c.requires.stands.1.objects c.args.own c.class_of.result.now c.index-object.result.now m) c.requires.there

pub returns : goal.returns
returns c =
    let m = member c.requires.well_formed c.requires.stands.1.objects c.args.own c.class_of.result.now c.index-object.result.now c.from.result
    c.class_of.ensures c.from.ensures c.index-object.ensures in
    ap (λ (ts : List Task). slice_get ts c.args.i)
    (own_ready c.requires.well_formed c.requires.stands.1.objects c.args.own c.class_of.result.now c.index-object.result.now m) ∙ c.task_at.ensures
