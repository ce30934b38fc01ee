-- the States around the vertices so far are marked
use Rattle.pssm_routes.proofs.Around.{AreAround}
use Rattle.pssm_routes.proofs.candidates.states_around.Given as goal

abbrev pub invariant-loop-s : goal.invariant-loop-s
invariant-loop-s l = AreAround l.machine l.inner l.s-index l.marks.items
