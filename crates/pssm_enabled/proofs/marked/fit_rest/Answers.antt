-- the other transitions are marked as well
use Rattle.pssm_enabled.proofs.Fitting.{route_marked}
use Rattle.pssm_enabled.proofs.marked.fit_rest.Goals as goal

pub fit_marked-requires-clause-on : goal.fit_marked-requires-clause-on
fit_marked-requires-clause-on c =
    route_marked c.args.machine.now c.args.on.now c.mark.new.on c.args.starts.now c.args.rest.now c.requires.on c.mark.ensures
