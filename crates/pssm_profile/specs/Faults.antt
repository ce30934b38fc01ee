-- The fault of a file that comes before references are followed: the first by the byte of the element, then by the number of the fault, then by its part (this profile's
-- choice).
use Rattle.std.specs.Prelude.{◌≡◌, ◌<◌, ◌+◌, ℕ, List, codes}
use Rattle.pssm_xml.specs.declared.fault.TextFault.{TextFault}
use Rattle.pssm_xml.specs.declared.fault.TextFault.TheVariants as text_faults
use Rattle.pssm_xml.specs.Documents.{Element}
use Rattle.pssm_xml.specs.Elements.{BeginsAt}
use Rattle.pssm_profile.specs.declared.fault.XmiFault.{XmiFault}
use Rattle.pssm_profile.specs.declared.fault.XmiFault.TheVariants as faults
use Rattle.pssm_profile.specs.declared.flaw.Flaw.{Flaw}
use Rattle.pssm_profile.specs.declared.flaw.Flaw.TheVariants as flaws
use Rattle.pssm_profile.specs.declared.flaw.Unread.{Unread}
use Rattle.pssm_profile.specs.declared.flaw.Unread.TheVariants as unread
use Rattle.pssm_profile.specs.declared.flaw.Owed.{Owed}
use Rattle.pssm_profile.specs.declared.flaw.Owed.TheVariants as owed
use Rattle.pssm_profile.specs.Flaws.{HasFlaw}

-- ---- the order

-- the place of a reason among the reasons
abbrev pub place_of_unread : Unread → ℕ
place_of_unread unread.Root = 0
place_of_unread unread.Href = 1
place_of_unread unread.Submachine = 2
place_of_unread unread.Event = 3
place_of_unread unread.OtherType = 4
place_of_unread unread.Several = 5
place_of_unread unread.Language = 6
place_of_unread unread.DoubleName = 7
place_of_unread unread.LongName = 8
place_of_unread unread.Value = 9
place_of_unread unread.TooMany = 10

-- the place of what is lacking
abbrev pub place_of_owed : Owed → ℕ
place_of_owed owed.Type = 0
place_of_owed owed.Source = 1
place_of_owed owed.Target = 2
place_of_owed owed.Event = 3
place_of_owed owed.Signal = 4
place_of_owed owed.Id = 5

-- the place of a flaw among those of one element: a doubled id first, then what is not read, then what is lacking
abbrev pub place_of : Flaw → ℕ
place_of flaws.DoubleId = 0
place_of (flaws.Unsupported kind) = 1 + place_of_unread kind
place_of (flaws.Missing what) = 12 + place_of_owed what

-- The flaw comes: no element before this one has any, and this one has none that comes before it.
pub record IsFirstFlaw (doc : List Element) (n : ℕ) (flaw : Flaw) : Type 0 where
  pub has : HasFlaw doc n flaw
  pub first : (m : ℕ) (other : Flaw) → HasFlaw doc m other → m < n → ⊥
  pub least : (other : Flaw) → HasFlaw doc n other → place_of other < place_of flaw → ⊥

-- ---- the fault

-- what is lacking, by its name
abbrev pub owed_name : Owed → List ℕ
owed_name owed.Type = codes "xmi:type"
owed_name owed.Source = codes "source"
owed_name owed.Target = codes "target"
owed_name owed.Event = codes "event"
owed_name owed.Signal = codes "signal"
owed_name owed.Id = codes "xmi:id"

-- a flaw of an element that begins at this byte, as a fault
abbrev pub fault_at : ℕ → Flaw → XmiFault
fault_at at flaws.DoubleId = faults.DoubleId at
fault_at at (flaws.Unsupported kind) = faults.Unsupported at kind
fault_at at (flaws.Missing what) = faults.Missing at (owed_name what)

-- a fault of the text
abbrev pub of_text : TextFault → XmiFault
of_text (text_faults.Malformed at) = faults.Malformed at
of_text (text_faults.NotUtf8 at) = faults.NotUtf8 at
of_text (text_faults.Doctype at) = faults.Doctype at
of_text (text_faults.TooDeep at) = faults.TooDeep at
of_text text_faults.NoMemory = faults.NoMemory

-- The fault that comes of the elements, before references are followed.
pub record IsProfileFault (doc : List Element) (fault : XmiFault) : Type 0 where
  pub element : ℕ
  pub flaw : Flaw
  pub first : IsFirstFlaw doc element flaw
  pub at : ℕ
  pub begins : BeginsAt doc element at
  pub told : fault ≡ fault_at at flaw

-- The elements have no fault of this kind.
abbrev pub HasNoProfileFault : List Element → Type 0
HasNoProfileFault doc = (n : ℕ) (flaw : Flaw) → HasFlaw doc n flaw → ⊥
