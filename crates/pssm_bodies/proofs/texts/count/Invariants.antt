use Rattle.std.proofs.Common.{◌≡◌, take}
use Rattle.std.specs.List.{count_by}
use Rattle.pssm_bodies.specs.inner.Counts.{has_statements}
use Rattle.pssm_bodies.proofs.texts.count.Given as goal

abbrev pub invariant-loop-act : goal.invariant-loop-act
invariant-loop-act l = l.count ≡ count_by has_statements (take l.act-index l.acts)
