-- a State that the region remembers is of the machine; a final state is not restored
use Rattle.pssm_object.proofs.OpeningWays.{remembered_there, remembered_if, remembers_none}
use Rattle.pssm_object.proofs.opening.remembered.Goals as goal

pub only_state-requires : goal.only_state-requires
only_state-requires c = remembered_there c.requires.fits c.args.r c.in-Some.s ((c.memory.ensures c.in-Some.s).0 c.in-Some.is)

pub returns-in-Some : goal.returns-in-Some
returns-in-Some c =
    remembered_if c.args.machine.now c.args.config.now c.args.r c.in-Some.s ((c.memory.ensures c.in-Some.s).0 c.in-Some.is) c.only_state.result
    c.only_state.ensures

pub returns-in-None : goal.returns-in-None
returns-in-None c = remembers_none c.args.machine.now c.args.config.now c.args.r c.memory.result c.in-None.is c.memory.ensures
