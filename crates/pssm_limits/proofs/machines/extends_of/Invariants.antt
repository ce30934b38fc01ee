use Rattle.std.proofs.Common.{◌≡◌, ◌<◌, length, take, map, IfSome}
use Rattle.std.specs.List.{All}
use Rattle.pssm_numbering.specs.Numbering.{machines}
use Rattle.pssm_drafting.specs.Drafts.{parts_at}
use Rattle.pssm_limits.proofs.machines.extends_of.Given as goal

abbrev pub invariant-loop-m : goal.invariant-loop-m
invariant-loop-m l =
    (l.extends.items ≡ map (λ m. (parts_at l.file m).extends) (take l.m-index (machines l.file)))
    × All (λ base. IfSome base (λ k. k < length (machines l.file))) l.extends.items
