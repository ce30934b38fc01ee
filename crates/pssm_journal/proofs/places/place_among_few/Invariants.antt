use Rattle.std.proofs.Common.{◌≡◌}
use Rattle.std.specs.Str.{bytes_eq}
use Rattle.std.specs.Map.{lookup}
use Rattle.pssm_journal.specs.inner.Places.{place_in}
use Rattle.pssm_journal.proofs.places.place_among_few.Given as goal

-- The name is among those that are left, if it is among all.
abbrev pub invariant-loop-kept : goal.invariant-loop-kept
invariant-loop-kept l =
    (goal.iterator-loop-kept).can_next l.kept-iterator × (goal.iterator-loop-kept).is_finite l.kept-iterator
    × (place_in l.places l.name ≡ lookup (bytes_eq l.name) l.kept-iterator)
