-- The one fault that is told of a text.
use Rattle.std.specs.Prelude.{◌<◌, ℕ, List}
use Rattle.std.specs.Str.{IsUtf8}
use Rattle.pssm_xml.specs.declared.fault.TextFault.{TextFault}
use Rattle.pssm_xml.specs.declared.fault.TextFault.TheVariants as faults
use Rattle.pssm_xml.specs.TextFaults.{HasByteFault, HasTextFault}

-- where a fault stands
abbrev pub byte_of : TextFault → ℕ
byte_of (faults.Malformed at) = at
byte_of (faults.NotUtf8 at) = at
byte_of (faults.Doctype at) = at
byte_of (faults.TooDeep at) = at
byte_of faults.NoMemory = 0

-- the fault at the least byte: no other stands before it (this profile's choice)
pub record IsFirstOf (Has : TextFault → Type 0) (fault : TextFault) : Type 0 where
  pub has : Has fault
  pub first : (other : TextFault) → Has other → byte_of other < byte_of fault → ⊥

-- the fault of a text: that of its bytes, and otherwise the first of its pieces (this profile's choice of the order)
pub data IsTextFault (bytes : List ℕ) (fault : TextFault) : Type 0 where
  no_text : IsFirstOf (HasByteFault bytes) fault → IsTextFault bytes fault
  text : IsUtf8 bytes → IsFirstOf (HasTextFault bytes) fault → IsTextFault bytes fault
