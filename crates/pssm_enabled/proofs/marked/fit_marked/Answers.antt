-- at first no vertex is marked
use Rattle.std.proofs.Common.{false, replicate}
use Rattle.pssm_enabled.proofs.ListPlaces.{none_is_true}
use Rattle.pssm_enabled.proofs.Fitting.{dead_fits_not}
use Rattle.pssm_model_laws.proofs.RouteOrder.{of_start}
use Rattle.pssm_enabled.specs.Fitting.{route_with}
use Rattle.pssm_enabled.proofs.marked.fit_marked.Goals as goal

pub returns-then-not-come_to_all : goal.returns-then-not-come_to_all
returns-then-not-come_to_all c = (
  λ wrong. absurd (cc),
  λ fits. absurd (dead_fits_not c.args.machine.now c.args.on.now c.args.starts.now c.args.rest.now c.requires.on c.args.starts.now
      (λ t is. of_start c.args.machine.now (route_with c.args.starts.now c.args.rest.now) t is)
      (c.come_to_all.ensures.dead c.if-not-come_to_all.true) fits),
)

pub returns : goal.returns
returns c =
    c.fit_seen.ensures c.args.starts.now (record {
      marked = c.requires.on;
      none = replicate 4096 false;
      unseen = λ n marked. none_is_true 4096 n marked;
      come = c.come_to_all.ensures.all c.if-not-come_to_all.false;
    })
