use Rattle.std.proofs.Common.{List, Option, length, sym, subst}
use Rattle.pssm_semantics.specs.declared.entry.Entry.{Entry}
use Rattle.pssm_semantics.specs.declared.stimulus.Stimulus.{Stimulus}
use Rattle.pssm_book.specs.Counts.{IsFullAt}
use Rattle.pssm_book.specs.inner.Nexts.{IsNext}
use Rattle.pssm_book.proofs.RunLaws.{got, got_known, running_more, limits_more}
use Rattle.pssm_workers.specs.inner.Finishing.{IsOver}
use Rattle.pssm_workers.proofs.EndLaws.{true_and_false, ends_full, ends_quietly, from_further}
use Rattle.pssm_workers.proofs.finishing.go_on.Goals as goal

pub next-requires : goal.next-requires
next-requires c =
    got_known c.args.course.system.setting c.loop-alloc.system.setting c.args.stimuli.now c.loop-alloc.posted c.get.result c.loop-alloc.invariant.0.setting_is
    (got _ c.args.stimuli.now c.loop-alloc.posted c.get.result c.get.ensures.lookup.1 c.get.ensures.lookup.3) c.requires.known

-- No stimulus waits, and the run is quiet.
pub returns-in_default-clause-ends : goal.returns-in_default-clause-ends
returns-in_default-clause-ends c =
    let is = got _ c.args.stimuli.now c.loop-alloc.posted c.get.result c.get.ensures.lookup.1 c.get.ensures.lookup.3 in
    let over = rw c.in_default.is at c.in_ok-entry.ensures.over in
    let room : IsFullAt c.args.limit (length c.loop-alloc.system.journal) c.loop-alloc.outputs → ⊥ =
    λ full. true_and_false c.is_full.result (c.is_full.ensures.1 (subst (λ (J : List Entry). IsFullAt c.args.limit (length J) c.loop-alloc.outputs) (sym c.entries.ensures.journal) full)) c.loop-alloc-test.true in
    ends_quietly c.args.course.system.setting c.args.stimuli.now c.args.limit c.loop-alloc.system c.loop-alloc.posted c.loop-alloc.outputs c.loop-alloc.invariant.0 room
    (subst (λ (o : Option Stimulus). IsOver c.loop-alloc.system o) is over)

pub apply-requires-clause-limits : goal.apply-requires-clause-limits
apply-requires-clause-limits c =
    let is = got _ c.args.stimuli.now c.loop-alloc.posted c.get.result c.get.ensures.lookup.1 c.get.ensures.lookup.3 in
    let next = rw c.in-Some.is at c.in_ok-entry.ensures.next in
    let room : IsFullAt c.args.limit (length c.loop-alloc.system.journal) c.loop-alloc.outputs → ⊥ =
    λ full. true_and_false c.is_full.result (c.is_full.ensures.1 (subst (λ (J : List Entry). IsFullAt c.args.limit (length J) c.loop-alloc.outputs) (sym c.entries.ensures.journal) full)) c.loop-alloc-test.true in
    limits_more c.args.course.system.setting c.args.stimuli.now c.args.limit c.loop-alloc.system c.loop-alloc.posted c.loop-alloc.outputs c.loop-alloc.invariant.0 room c.in-Some.entry
    (subst (λ (o : Option Stimulus). IsNext c.loop-alloc.system o c.in-Some.entry) is next) c.requires.well_formed c.requires.limit

pub loop-alloc-preserved : goal.loop-alloc-preserved
loop-alloc-preserved c =
    let is = got _ c.args.stimuli.now c.loop-alloc.posted c.get.result c.get.ensures.lookup.1 c.get.ensures.lookup.3 in
    let next = rw c.in-Some.is at c.in_ok-entry.ensures.next in
    let room : IsFullAt c.args.limit (length c.loop-alloc.system.journal) c.loop-alloc.outputs → ⊥ =
    λ full. true_and_false c.is_full.result (c.is_full.ensures.1 (subst (λ (J : List Entry). IsFullAt c.args.limit (length J) c.loop-alloc.outputs) (sym c.entries.ensures.journal) full)) c.loop-alloc-test.true in (
      running_more c.args.course.system.setting c.args.stimuli.now c.args.limit c.loop-alloc.system c.loop-alloc.posted c.loop-alloc.outputs c.loop-alloc.invariant.0 room c.in-Some.entry
          (subst (λ (o : Option Stimulus). IsNext c.loop-alloc.system o c.in-Some.entry) is next) c.apply.new.self c.post_count-posted.result c.post_count.result c.out_count.result
          c.apply.ensures.setting c.in_ok-apply.ensures.ok c.post_count-posted.ensures c.post_count.ensures c.out_count.ensures,
      from_further c.args.course.system.journal c.loop-alloc.system.journal c.apply.new.self.journal c.in-Some.entry c.loop-alloc.invariant.1 c.in_ok-apply.ensures.ok,
    )

-- The journal is full.
pub returns-clause-ends : goal.returns-clause-ends
returns-clause-ends c =
    ends_full c.args.course.system.setting c.args.stimuli.now c.args.limit c.loop-alloc.system c.loop-alloc.posted c.loop-alloc.outputs c.loop-alloc.invariant.0
    (subst (λ (J : List Entry). IsFullAt c.args.limit (length J) c.loop-alloc.outputs) c.entries.ensures.journal (c.is_full.ensures.0 c.loop-alloc-test.false))
