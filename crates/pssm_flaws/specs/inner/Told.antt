-- What is told of an element by who counts: whether its name and its number are flaws of it.
use Rattle.std.specs.Prelude.{◌↔◌, ◌<◌, ℕ, List, length, IsTrue}
use Rattle.pssm_xml.specs.Documents.{Element}
use Rattle.pssm_profile.specs.Kinds.{Kind, IsOfKind, name_of}
use Rattle.pssm_profile.specs.Flaws.{PassesLimit, RepeatsName}
use Rattle.pssm_flaws.specs.declared.counted.Counted.{Counted}

-- Its name is too long: it is of a kind whose names are asked, and its name has more than 64 bytes.
abbrev pub HasLongName : List Element → ℕ → Type 0
HasLongName doc n = (kind : Kind) × IsOfKind doc kind n × (64 < length (name_of doc n))

-- What is told is so.
pub record AreCounted (doc : List Element) (n : ℕ) (counted : Counted) : Type 0 where
  pub doubled : IsTrue counted.doubled ↔ RepeatsName doc n
  pub long : IsTrue counted.long ↔ HasLongName doc n
  pub many : IsTrue counted.many ↔ PassesLimit doc n
