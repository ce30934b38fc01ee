-- no end without a way on, and no transition that leaves another vertex
use Rattle.pssm_enabled.proofs.Fitting.{dead_fits_not, seen_fits}
use Rattle.pssm_model_laws.proofs.RouteOrder.{of_rest}
use Rattle.pssm_enabled.specs.Fitting.{route_with}
use Rattle.pssm_enabled.proofs.marked.fit_seen.Goals as goal

pub returns-then-not-come_to_all : goal.returns-then-not-come_to_all
returns-then-not-come_to_all c starts begun = (
  λ wrong. absurd (cc),
  λ fits. absurd (dead_fits_not c.args.machine.now c.args.on.now starts c.args.rest.now begun.marked c.args.rest.now
      (λ t is. of_rest c.args.machine.now (route_with starts c.args.rest.now) t is) (c.come_to_all.ensures.dead c.if-not-come_to_all.true) fits),
)

pub returns : goal.returns
returns c starts begun =
    let is = seen_fits c.args.machine.now c.args.on.now starts c.args.rest.now begun.marked begun.none c.args.seen.now c.come_to_all.new.seen begun.unseen
    begun.come (c.come_to_all.ensures.all c.if-not-come_to_all.false) in
    (λ h. is.0 (c.leave_seen.ensures.0 h), λ fits. c.leave_seen.ensures.1 (is.1 fits))
