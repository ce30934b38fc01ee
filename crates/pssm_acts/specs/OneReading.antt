-- What it is that a text is read in one way (this profile's choice).
use Rattle.std.specs.Prelude.{◌≡◌, ◌⊎◌}
use Rattle.pssm_acts.specs.declared.act_fault.ActFault.{ActFault}

-- A text spells one thing or has one fault, always one of them and never both.
pub record HasOneReading {A : Type 0} (Spells : A → Type 0) (IsFault : ActFault → Type 0) : Type 0 where
  pub one_tree : (a b : A) → Spells a → Spells b → a ≡ b
  pub one_fault : (f g : ActFault) → IsFault f → IsFault g → f ≡ g
  pub not_both : (a : A) (f : ActFault) → Spells a → IsFault f → ⊥
  pub some : ((a : A) × Spells a) ⊎ ((f : ActFault) × IsFault f)
