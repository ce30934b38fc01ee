-- None, one or several: as far as numbers are asked where one can be.
use Rattle.std.specs.Prelude.{ℕ, zero, suc}
use Rattle.pssm_profile.specs.declared.number.Number.{Number}
use Rattle.pssm_profile.specs.declared.number.Number.TheVariants.{Nothing, One, Several}

-- so many are none, one or several
abbrev pub number_of : ℕ → Number
number_of zero = Nothing
number_of (suc zero) = One
number_of (suc (suc more)) = Several

-- these and those together
abbrev pub together : Number → Number → Number
together Nothing other = other
together One Nothing = One
together One One = Several
together One Several = Several
together Several other = Several
