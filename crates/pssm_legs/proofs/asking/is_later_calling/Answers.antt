-- the legs stand behind lower ones
use Rattle.pssm_legs.proofs.asking.is_later_calling.Goals as goal

pub is_later-requires-clause-before : goal.is_later-requires-clause-before
is_later-requires-clause-before c = c.requires.legs.before
