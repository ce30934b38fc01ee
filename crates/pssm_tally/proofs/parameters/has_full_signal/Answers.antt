use Rattle.pssm_tally.proofs.ParameterLaws.{full_where}
use Rattle.pssm_tally.proofs.parameters.has_full_signal.Goals as goal

pub returns-in-Some : goal.returns-in-Some
returns-in-Some c =
    full_where c.args.elements.now c.args.n c.in-Some.signal c.parameters_before.result c.requires.own c.in-Some.ensures.parent c.parameters_before.ensures
