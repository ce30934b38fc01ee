use Rattle.std.proofs.Common.{subst, sym, refl}
use Rattle.pssm_totals.specs.inner.Ways.{IsSettling, KeepsTotals, AreOpenOrDone}
use Rattle.pssm_totals.proofs.MarkLaws.{last_below, settle_more, settle_keeps, settle_done}
use Rattle.pssm_totals.proofs.settling.settle.Goals as goal

pub note_total-requires-clause-there : goal.note_total-requires-clause-there
note_total-requires-clause-there c =
    last_below c.pop.new.self.items c.in-Some.m
    (subst (IsSettling c.args.extends.now c.args.own.now c.back.marks) c.in-Some.ensures.items c.back.invariant.settling)

pub back-preserved : goal.back-preserved
back-preserved c =
    let settling = subst (IsSettling c.args.extends.now c.args.own.now c.back.marks) c.in-Some.ensures.items c.back.invariant.settling in
    let open_or_done = subst (AreOpenOrDone c.back.marks c.args.path.items) c.in-Some.ensures.items c.back.invariant.done in
    record {
      settling = subst (λ marks. IsSettling c.args.extends.now c.args.own.now marks c.pop.new.self.items) (sym c.note_total.ensures)
          (settle_more c.args.extends.now c.args.own.now c.back.marks c.pop.new.self.items c.in-Some.m _ settling refl);
      kept = subst (KeepsTotals c.args.marks.now) (sym c.note_total.ensures)
          (settle_keeps c.args.extends.now c.args.own.now c.args.marks.now c.back.marks c.pop.new.self.items c.in-Some.m _ settling c.back.invariant.kept);
      done = subst (λ marks. AreOpenOrDone marks c.args.path.items c.pop.new.self.items) (sym c.note_total.ensures)
          (settle_done c.args.extends.now c.args.own.now c.back.marks c.pop.new.self.items c.args.path.items c.in-Some.m _ settling open_or_done);
    }
