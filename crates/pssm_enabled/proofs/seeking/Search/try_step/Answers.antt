-- the transition is open or not
use Rattle.std.proofs.Common.{refl, sym, subst}
use Rattle.pssm_enabled.specs.inner.Seeking.{Tries}
use Rattle.pssm_enabled.specs.inner.Seeking.Tries.{closed, comes}
use Rattle.pssm_enabled.proofs.seeking.Search.try_step.Goals as goal

pub returns-then-is_open-clause-tries : goal.returns-then-is_open-clause-tries
returns-then-is_open-clause-tries g c = λ values told. comes ((c.is_open.ensures values told).0 c.if-is_open.true) c.comes_out.ensures.comes

pub returns-else-is_open-clause-tries : goal.returns-else-is_open-clause-tries
returns-else-is_open-clause-tries g c = λ values told.
    subst (Tries c.args.machine.now values c.args.within c.args.self.now c.args.step c.args.self.now) (sym c.if-is_open.false)
    (closed (λ opened. let is = (c.is_open.ensures values told).1 opened in let not = c.if-is_open.false in cc) refl)
