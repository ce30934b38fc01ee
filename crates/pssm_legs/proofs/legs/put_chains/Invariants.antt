use Rattle.pssm_legs.specs.inner.Chained.{IsAmongFirst, ArePut}
use Rattle.pssm_legs.proofs.legs.put_chains.Given as goal

-- the legs that begin with the transitions so far have been put
abbrev pub invariant-loop-t : goal.invariant-loop-t
invariant-loop-t l = ArePut l.fn.machine l.fn.route l.legs l.fn.place l.fn.end (IsAmongFirst l.outgoing l.t-index)
