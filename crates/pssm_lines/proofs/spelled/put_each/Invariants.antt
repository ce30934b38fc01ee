-- what is written so far
use Rattle.std.proofs.Common.{◌≡◌, ◌∷◌, ◌++◌, take}
use Rattle.std.specs.List.{flat_map}
use Rattle.pssm_lines.proofs.spelled.put_each.Given as goal

abbrev pub invariant-loop-part : goal.invariant-loop-part
invariant-loop-part g l = l.text.items ≡ l.fn.text.items ++ flat_map (λ x. l.before ∷ g.T.Spelled.spelling x) (take l.part-index l.parts)
