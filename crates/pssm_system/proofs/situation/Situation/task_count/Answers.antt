-- an object has few tasks
use Rattle.std.proofs.Common.{◌+◌, ap, ◌∙◌, arith}
use Rattle.std.proofs.lemmas.Option.{slice_get_within}
use Rattle.pssm_semantics.specs.Settings.{class_of}
use Rattle.pssm_system.proofs.Members.{member, stands_somewhere}
use Rattle.pssm_system.proofs.AllTasks.{count_on, few_below}
use Rattle.pssm_system.proofs.situation.Situation.task_count.Goals as goal

pub task_count-count-requires : goal.task_count-count-requires
task_count-count-requires c =
    let m = member c.requires.well_formed c.requires.stands.1.objects (record { 0 = c.loop-k.k }) c.class_of.result.now c.index-object.result.now c.from.result
    c.class_of.ensures c.from.ensures c.index-object.ensures in
    record { class = m.well_formed; stands = stands_somewhere m }

pub overflow_add-count : goal.overflow_add-count
overflow_add-count c =
    let m = member c.requires.well_formed c.requires.stands.1.objects (record { 0 = c.loop-k.k }) c.class_of.result.now c.index-object.result.now c.from.result
    c.class_of.ensures c.from.ensures c.index-object.ensures in
    let more = count_on c.requires.well_formed c.requires.stands.1.objects c.loop-k.k c.class_of.result.now c.index-object.result.now m.there
    (ap (class_of c.args.setting.now) m.object.own ∙ m.class_is) in
    let lt = slice_get_within c.args.self.now.objects.items c.loop-k.k c.index-object.result.now m.there in
    let few = few_below c.requires.well_formed c.requires.stands.1.objects (c.loop-k.k + 1) (omega arith) in
    let count = c.requires.stands.1.objects.count in
    let limit = c.requires.well_formed.proper.limits.1 in
    let was = c.loop-k.invariant in
    let here = c.task_count-count.ensures.count in
    omega (arith, more, few, count, limit, was, here, lt)

pub loop-k-preserved : goal.loop-k-preserved
loop-k-preserved c =
    let m = member c.requires.well_formed c.requires.stands.1.objects (record { 0 = c.loop-k.k }) c.class_of.result.now c.index-object.result.now c.from.result
    c.class_of.ensures c.from.ensures c.index-object.ensures in
    let more = count_on c.requires.well_formed c.requires.stands.1.objects c.loop-k.k c.class_of.result.now c.index-object.result.now m.there
    (ap (class_of c.args.setting.now) m.object.own ∙ m.class_is) in
    let was = c.loop-k.invariant in
    let here = c.task_count-count.ensures.count in
    omega (arith, more, was, here)
