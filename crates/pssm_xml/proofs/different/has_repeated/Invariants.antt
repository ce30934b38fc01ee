use Rattle.std.proofs.Common.{◌≡◌, ◌∷◌, map, drop}
use Rattle.pssm_xml.specs.inner.Cuts.{lent, repeats}
use Rattle.pssm_xml.proofs.different.has_repeated.Given as goal

abbrev pub invariant-loop-name : goal.invariant-loop-name
invariant-loop-name l = repeats (map lent l.names) ≡ repeats (l.previous ∷ map lent (drop l.name-index l.others))
