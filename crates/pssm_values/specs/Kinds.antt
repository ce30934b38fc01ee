-- What the attribute `kind` of a pseudostate and of a transition says.
use Rattle.std.specs.Prelude.{ℕ, List, Option, Some, None, bytes_eq, codes, if◌then◌else◌}
use Rattle.pssm_model.specs.declared.elements.VertexKind.{VertexKind}
use Rattle.pssm_model.specs.declared.elements.VertexKind.TheVariants.{Initial, DeepHistory, ShallowHistory, Join, Fork, Junction, Choice, EntryPoint, ExitPoint, Terminate}
use Rattle.pssm_model.specs.declared.elements.TransKind.{TransKind}
use Rattle.pssm_model.specs.declared.elements.TransKind.TheVariants.{External, Local, Internal}

-- the kind of pseudostate that a word spells, as UML has its words (UML 2.5.1 14.5.7, PseudostateKind)
abbrev pub pseudostate_spelled : List ℕ → Option VertexKind
pseudostate_spelled word =
    if bytes_eq word (codes "initial") then Some Initial else
    if bytes_eq word (codes "deepHistory") then Some DeepHistory else
    if bytes_eq word (codes "shallowHistory") then Some ShallowHistory else
    if bytes_eq word (codes "join") then Some Join else
    if bytes_eq word (codes "fork") then Some Fork else
    if bytes_eq word (codes "junction") then Some Junction else
    if bytes_eq word (codes "choice") then Some Choice else
    if bytes_eq word (codes "entryPoint") then Some EntryPoint else
    if bytes_eq word (codes "exitPoint") then Some ExitPoint else
    if bytes_eq word (codes "terminate") then Some Terminate else None

-- the same of an attribute that may be missing: then the kind is `initial` (UML 2.5.1 14.5.6, Pseudostate)
abbrev pub pseudostate_said : Option (List ℕ) → Option VertexKind
pseudostate_said None = Some Initial
pseudostate_said (Some word) = pseudostate_spelled word

-- the kind of transition that a word spells (UML 2.5.1 14.5.12, TransitionKind)
abbrev pub transition_spelled : List ℕ → Option TransKind
transition_spelled word =
    if bytes_eq word (codes "external") then Some External else
    if bytes_eq word (codes "local") then Some Local else
    if bytes_eq word (codes "internal") then Some Internal else None

-- the same of an attribute that may be missing: then the kind is `external` (UML 2.5.1 14.5.11, Transition)
abbrev pub transition_said : Option (List ℕ) → Option TransKind
transition_said None = Some External
transition_said (Some word) = transition_spelled word
