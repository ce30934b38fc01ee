-- What the pass says of one element.
use Rattle.std.specs.Prelude.{◌≡◌, ◌<◌, ℕ, List}
use Rattle.pssm_xml.specs.Documents.{Element}
use Rattle.pssm_xml.specs.Elements.{BeginsAt}
use Rattle.pssm_profile.specs.declared.fault.XmiFault.{XmiFault}
use Rattle.pssm_profile.specs.declared.flaw.Flaw.{Flaw}
use Rattle.pssm_profile.specs.Flaws.{HasFlaw}
use Rattle.pssm_profile.specs.Faults.{fault_at, place_of}

-- The element has no flaw.
abbrev pub HasNoFlaw : List Element → ℕ → Type 0
HasNoFlaw doc n = (flaw : Flaw) → HasFlaw doc n flaw → ⊥

-- The fault is the flaw of the element that comes before all others that it has.
pub record IsFaultAt (doc : List Element) (n : ℕ) (fault : XmiFault) : Type 0 where
  pub flaw : Flaw
  pub has : HasFlaw doc n flaw
  pub least : (other : Flaw) → HasFlaw doc n other → place_of other < place_of flaw → ⊥
  pub at : ℕ
  pub begins : BeginsAt doc n at
  pub told : fault ≡ fault_at at flaw

-- No element before this one has a flaw.
abbrev pub NoneBefore : List Element → ℕ → Type 0
NoneBefore doc n = (m : ℕ) (flaw : Flaw) → HasFlaw doc m flaw → m < n → ⊥
