-- The fault that comes of the first of the references and the first of the counts.
use Rattle.std.specs.Prelude.{ℕ, nat_lt, Option, Some, None, if◌then◌else◌}
use Rattle.pssm_profile.specs.declared.fault.XmiFault.{XmiFault}
use Rattle.pssm_profile.specs.declared.fault.XmiFault.TheVariants as faults
use Rattle.pssm_profile.specs.declared.flaw.Unread.TheVariants as unread
use Rattle.pssm_unmet.specs.declared.unmet.Unmet.{Unmet}
use Rattle.pssm_unmet.specs.Unmet.{byte_of}
use Rattle.pssm_xmi.specs.Faults.{of_unmet}

-- a count that passes a limit, at the element that begins at this byte
abbrev pub too_many : ℕ → XmiFault
too_many byte = faults.Unsupported byte unread.TooMany

-- the one that comes, of a reference and a count: at one byte the reference
abbrev pub earlier : Unmet → ℕ → XmiFault
earlier one many = if nat_lt many (byte_of one) then too_many many else of_unmet one

-- the one that comes of those that there are
abbrev pub first_of : Option Unmet → Option ℕ → Option XmiFault
first_of None None = None
first_of None (Some many) = Some (too_many many)
first_of (Some one) None = Some (of_unmet one)
first_of (Some one) (Some many) = Some (earlier one many)
