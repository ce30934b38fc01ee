-- the object counts them, where there is one
use Rattle.std.proofs.Common.{List, length, sym, ap, ◌∙◌}
use Rattle.std.proofs.lemmas.Bool.{false≢true}
use Rattle.pssm_semantics.specs.declared.stimulus.Task.{Task}
use Rattle.pssm_system.proofs.Members.{member, stands_somewhere}
use Rattle.pssm_system.proofs.OwnTasks.{own_none, own_ready}
use Rattle.pssm_system.proofs.situation.Situation.task_count_of.Goals as goal

pub returns-then-not-has : goal.returns-then-not-has
returns-then-not-has c =
    sym (ap (λ (ts : List Task). length ts) (own_none c.requires.well_formed c.requires.stands.1.objects c.args.own (λ lt. false≢true (sym c.if-not-has.true ∙ c.has.ensures.1 lt))))

pub task_count-requires : goal.task_count-requires
task_count-requires c =
    let m = member c.requires.well_formed c.requires.stands.1.objects c.args.own c.class_of.result.now c.index-object.result.now c.from.result
    c.class_of.ensures c.from.ensures c.index-object.ensures in
    record { class = m.well_formed; stands = stands_somewhere m }

pub returns : goal.returns
returns c =
    let m = member c.requires.well_formed c.requires.stands.1.objects c.args.own c.class_of.result.now c.index-object.result.now c.from.result
    c.class_of.ensures c.from.ensures c.index-object.ensures in
    c.task_count.ensures.count
    ∙ sym (ap (λ (ts : List Task). length ts)
    (own_ready c.requires.well_formed c.requires.stands.1.objects c.args.own c.class_of.result.now c.index-object.result.now m))
