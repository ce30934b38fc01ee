-- How far the children of an element are counted.
use Rattle.std.specs.Prelude.{◌≡◌, ◌≤◌, ◌<◌, ℕ, List, filter, length, take, Option, MatchOption}
use Rattle.pssm_xml.specs.Documents.{Element}
use Rattle.pssm_xml.specs.Elements.{is_child_of, IsParent, children}

-- After so many turns so many are counted, and this child is the next; where there is none, all are counted.
abbrev pub IsCountedTo : List Element → ℕ → List ℕ → (turn count : ℕ) → Option ℕ → Type 0
IsCountedTo doc p name turn count next =
    MatchOption next (count ≡ length (children doc p name)) (λ child. (child < length doc) × (turn ≤ child) × IsParent doc p child × (count ≡ length (filter (is_child_of p name) (take child doc))))
