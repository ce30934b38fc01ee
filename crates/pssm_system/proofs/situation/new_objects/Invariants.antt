-- the objects so far stand before their starts
use Rattle.pssm_system.proofs.Fresh.{AreFresh}
use Rattle.pssm_system.proofs.situation.new_objects.Given as goal

abbrev pub invariant-loop-k : goal.invariant-loop-k
invariant-loop-k l = AreFresh l.setting l.k l.objects.items
