-- What one more name does to a tally.
use Rattle.std.specs.Prelude.{◌≡◌, ◌≢◌, ℕ, List, [], ◌∷◌, ◌++◌}
use Rattle.pssm_tally.specs.declared.counted_kind.CountedKind.{CountedKind}
use Rattle.pssm_tally.specs.declared.tally.Tally.{Tally}
use Rattle.pssm_tally.specs.Tallies.{names_held}

-- The other tally has one more name of this kind, behind the others.
pub record IsWithName (tally : Tally) (kind : CountedKind) (name : List ℕ) (more : Tally) : Type 0 where
  pub own : names_held more kind ≡ names_held tally kind ++ name ∷ []
  pub others : (other : CountedKind) → other ≢ kind → names_held more other ≡ names_held tally other
