-- at first no transition is marked
use Rattle.std.proofs.Common.{false, replicate}
use Rattle.pssm_enabled.proofs.ListPlaces.{none_is_true}
use Rattle.pssm_enabled.proofs.Fitting.{starts_marked}
use Rattle.pssm_enabled.proofs.marked.fit_over.Goals as goal

pub fit_rest-requires-clause-on : goal.fit_rest-requires-clause-on
fit_rest-requires-clause-on c =
    starts_marked (replicate 8192 false) c.mark.new.on c.args.starts.now (λ n marked. none_is_true 8192 n marked) c.mark.ensures
