use Rattle.std.proofs.Common.{◌≡◌, take}
use Rattle.std.specs.Prelude.{map}
use Rattle.pssm_drafting.specs.inner.Waiting.{waited_by}
use Rattle.pssm_drafting.proofs.waiting.all_waited.Given as goal

abbrev pub invariant-loop-t : goal.invariant-loop-t
invariant-loop-t l = l.waited.items ≡ map (waited_by l.name l.file l.n) (take l.t-index l.t-items)
