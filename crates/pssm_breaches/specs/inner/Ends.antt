-- Ends and triggers of a transition beside those of its first form.
use Rattle.std.specs.Prelude.{◌≡◌, ◌⊎◌, List, Contains}
use Rattle.pssm_model.specs.declared.ids.SignalId.{SignalId}
use Rattle.pssm_model.specs.declared.draft_setting.End.{End}
use Rattle.pssm_model.specs.declared.draft_setting.End.TheVariants as ends
use Rattle.pssm_heritage.specs.declared.kinds.ElementKind.TheVariants.{Vertex}
use Rattle.pssm_heritage.specs.Heritages.{Lineage, numbering_of}
use Rattle.pssm_breaches.specs.inner.Firsts.{HaveSameFirst}

-- Both are one vertex, or the same first form stands by their numbers.
abbrev pub EndsMeet : Lineage → End → End → Type 0
EndsMeet lineage (ends.Vertex a) (ends.Vertex b) = (a ≡ b) ⊎ HaveSameFirst (numbering_of Vertex lineage) a b
EndsMeet lineage _ _ = ⊥

-- Each signal of the first list is in the second one.
abbrev pub AreAmong : List SignalId → List SignalId → Type 0
AreAmong some others = (g : SignalId) → Contains some g → Contains others g
