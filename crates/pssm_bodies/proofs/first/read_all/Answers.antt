use Rattle.std.proofs.Common.{List, length, sym, ap, subst, arith}
use Rattle.pssm_model.specs.declared.draft_setting.Body.{Body}
use Rattle.pssm_bodies.specs.Faults.{IsDueFault}
use Rattle.pssm_bodies.proofs.CountLaws.{IsReadTo, start}
use Rattle.pssm_bodies.proofs.FirstLaws.{none_missing, read_on, first_fault}
use Rattle.pssm_bodies.proofs.first.read_all.Goals as goal

pub loop-number-init : goal.loop-number-init
loop-number-init c = subst (λ marks. IsReadTo c.args.names.now c.args.flat.now 1 1 marks) (sym c.new-marks.ensures)
    (start c.args.names.now c.args.flat.now)

pub unreachable-requires : goal.unreachable-requires
unreachable-requires c =
    none_missing c.args.names.now c.args.flat.now c.requires.once c.args.table.now c.requires.width c.requires.slots
    c.loop-number.number c.loop-number.auto.number
    (omega (arith, c.loop-number-test.true, ap (λ (xs : List Body). length xs) c.as_slice-bodies.ensures)) c.in_default.not-Some

pub returns-in-Err-clause-fault : goal.returns-in-Err-clause-fault
returns-in-Err-clause-fault c =
    subst (λ f. IsDueFault c.args.names.now c.args.flat.now f) (sym c.fault_at.ensures)
    (first_fault c.args.names.now c.args.flat.now c.requires.once c.args.table.now c.requires.width c.requires.slots
    c.as_slice-bodies.result.now c.as_slice-bodies.ensures c.loop-number.number c.loop-number-test.true c.in-Some.slot c.in-Some.is
    c.index-bodies-number.result c.index-bodies-number.is c.as_slice-text.result.now c.as_slice-text.ensures
    c.loop-number.count c.loop-number.marks c.in-Err.fault c.loop-number.invariant c.in-Err.ensures.fault)

pub loop-number-preserved : goal.loop-number-preserved
loop-number-preserved c =
    read_on c.args.names.now c.args.flat.now c.requires.once c.args.table.now c.requires.width c.requires.slots
    c.as_slice-bodies.result.now c.as_slice-bodies.ensures c.loop-number.number c.loop-number-test.true c.in-Some.slot c.in-Some.is
    c.index-bodies-number.result c.index-bodies-number.is c.as_slice-text.result.now c.as_slice-text.ensures
    c.loop-number.count c.in-Ok.more c.loop-number.marks c.counted_on.new.marks c.loop-number.invariant
    c.in-Ok.ensures.counts c.in-Ok.ensures.limits c.in-Ok.ensures.marks
