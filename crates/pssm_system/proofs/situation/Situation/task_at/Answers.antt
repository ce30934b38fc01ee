-- the tasks of the objects before stand before those of this one
use Rattle.std.proofs.Common.{Some, slice_get, sym, ap, ◌∙◌, arith}
use Rattle.pssm_semantics.specs.Settings.{class_of}
use Rattle.pssm_system.specs.inner.Keeping.{tasks_of}
use Rattle.pssm_system.proofs.Members.{member, stands_somewhere}
use Rattle.pssm_system.proofs.AllTasks.{tasks-as, count_on, task_found}
use Rattle.pssm_system.proofs.situation.Situation.task_at.Goals as goal

pub task_count-count-requires : goal.task_count-count-requires
task_count-count-requires c =
    let m = member c.requires.well_formed c.requires.stands.1.objects (record { 0 = c.loop-k.k }) c.class_of-class.result.now c.index-object.result.now c.from.result
    c.class_of-class.ensures c.from.ensures c.index-object.ensures in
    record { class = m.well_formed; stands = stands_somewhere m }

pub task_at-requires-clause-stands : goal.task_at-requires-clause-stands
task_at-requires-clause-stands c =
    stands_somewhere (member c.requires.well_formed c.requires.stands.1.objects (record { 0 = c.loop-k.k }) c.class_of-class.result.now c.index-object.result.now
    c.from.result c.class_of-class.ensures c.from.ensures c.index-object.ensures)

pub returns-then-rest-count : goal.returns-then-rest-count
returns-then-rest-count c =
    let m = member c.requires.well_formed c.requires.stands.1.objects (record { 0 = c.loop-k.k }) c.class_of-class.result.now c.index-object.result.now c.from.result
    c.class_of-class.ensures c.from.ensures c.index-object.ensures in
    let same = tasks-as c.args.setting.now c.class_of-class.result.now c.index-object.result.now (ap (class_of c.args.setting.now) m.object.own ∙ m.class_is) in
    ap (slice_get (tasks_of c.args.setting.now c.args.self.now.objects.items)) (sym c.loop-k.invariant)
    ∙ task_found c.args.setting.now c.args.self.now.objects.items c.loop-k.k c.index-object.result.now c.loop-k.rest c.task_at.result m.there
    (ap (λ ts. slice_get ts c.loop-k.rest) same ∙ c.task_at.ensures)
    ∙ ap (λ o. Some (o, c.task_at.result)) m.object.own

pub loop-k-preserved : goal.loop-k-preserved
loop-k-preserved c =
    let m = member c.requires.well_formed c.requires.stands.1.objects (record { 0 = c.loop-k.k }) c.class_of-class.result.now c.index-object.result.now c.from.result
    c.class_of-class.ensures c.from.ensures c.index-object.ensures in
    let more = count_on c.requires.well_formed c.requires.stands.1.objects c.loop-k.k c.class_of-class.result.now c.index-object.result.now m.there
    (ap (class_of c.args.setting.now) m.object.own ∙ m.class_is) in
    let was = c.loop-k.invariant in
    let here = c.task_count-count.ensures.count in
    let past = c.if-rest-count.false in
    omega (arith, more, was, here, past)
