-- the object names it, where there is one
use Rattle.std.proofs.Common.{◌≡◌, ◌<◌, List, Option, None, length, slice_get, sym, ap, subst, ◌∙◌, arith}
use Rattle.std.proofs.lemmas.Bool.{false≢true}
use Rattle.pssm_semantics.specs.declared.stimulus.Task.{Task}
use Rattle.pssm_system.proofs.Members.{member, stands_somewhere}
use Rattle.pssm_system.proofs.OwnTasks.{own_none, own_ready}
use Rattle.pssm_system.proofs.situation.Situation.find_task_of.Goals as goal

pub returns-then-not-has-clause-task : goal.returns-then-not-has-clause-task
returns-then-not-has-clause-task c =
    sym (ap (λ (ts : List Task). slice_get ts c.args.i)
    (own_none c.requires.well_formed c.requires.stands.1.objects c.args.own (λ lt. false≢true (sym c.if-not-has.true ∙ c.has.ensures.1 lt))))

pub returns-then-not-has-clause-few : goal.returns-then-not-has-clause-few
returns-then-not-has-clause-few c =
    let none = ap (λ (ts : List Task). length ts)
    (own_none c.requires.well_formed c.requires.stands.1.objects c.args.own (λ lt. false≢true (sym c.if-not-has.true ∙ c.has.ensures.1 lt))) in
    omega (arith, none)

pub find_task-requires : goal.find_task-requires
find_task-requires c =
    let m = member c.requires.well_formed c.requires.stands.1.objects c.args.own c.class_of.result.now c.index-object.result.now c.from.result
    c.class_of.ensures c.from.ensures c.index-object.ensures in
    record { class = m.well_formed; stands = stands_somewhere m }

pub returns-clause-task : goal.returns-clause-task
returns-clause-task c =
    let m = member c.requires.well_formed c.requires.stands.1.objects c.args.own c.class_of.result.now c.index-object.result.now c.from.result
    c.class_of.ensures c.from.ensures c.index-object.ensures in
    c.find_task.ensures.task
    ∙ sym (ap (λ (ts : List Task). slice_get ts c.args.i)
    (own_ready c.requires.well_formed c.requires.stands.1.objects c.args.own c.class_of.result.now c.index-object.result.now m))

pub returns-clause-few : goal.returns-clause-few
returns-clause-few c =
    let m = member c.requires.well_formed c.requires.stands.1.objects c.args.own c.class_of.result.now c.index-object.result.now c.from.result
    c.class_of.ensures c.from.ensures c.index-object.ensures in
    subst (λ (ts : List Task). length ts < 4294967296)
    (sym (own_ready c.requires.well_formed c.requires.stands.1.objects c.args.own c.class_of.result.now c.index-object.result.now m)) c.find_task.ensures.few
