use Rattle.std.proofs.Common.{◌≡◌, subst, sym, ⊎_elim, arith}
use Rattle.std.proofs.lemmas.Bool.{cases_lt}
use Rattle.pssm_totals.specs.inner.Ways.{IsDone}
use Rattle.pssm_totals.proofs.totals.visit_all.Goals as goal

pub loop-m-preserved : goal.loop-m-preserved
loop-m-preserved c = record {
  settling = c.in_ok-visit.ensures.settled;
  done = λ k lt. ⊎_elim
      (λ below. let before = c.loop-m.invariant.done k below in (before.0, c.in_ok-visit.ensures.kept.kept k before.0 before.1))
      (λ above. let same : k ≡ c.loop-m.m = omega arith in subst (IsDone c.visit.new.marks) (sym same) c.in_ok-visit.ensures.done)
      (cases_lt k c.loop-m.m);
}
