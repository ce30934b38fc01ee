use Rattle.std.proofs.Common.{◌≡◌, drop}
use Rattle.pssm_flat.specs.inner.Lines.{kind_among}
use Rattle.pssm_flat.proofs.words.first_named.Given as goal

abbrev pub invariant-loop-kind : goal.invariant-loop-kind
invariant-loop-kind l = kind_among (drop l.kind-index l.kinds) l.word ≡ kind_among l.kinds l.word
