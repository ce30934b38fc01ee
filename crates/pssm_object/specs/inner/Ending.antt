-- What ends an object, by the item that it has just run.
use Rattle.std.specs.Prelude.{◌≡◌, Some}
use Rattle.pssm_model.specs.declared.ids.VertexId.{VertexId}
use Rattle.pssm_model.specs.declared.ids.RegionId.{RegionId}
use Rattle.pssm_model.specs.declared.ids.TransId.{TransId}
use Rattle.pssm_model.specs.declared.elements.DraftMachine.{DraftMachine}
use Rattle.pssm_model.specs.declared.elements.VertexKind.TheVariants as kinds
use Rattle.pssm_model.specs.declared.elements.Owner.TheVariants.{Top, Region, State}
use Rattle.pssm_model.specs.declared.steps.Item.{Item}
use Rattle.pssm_model.specs.declared.steps.Item.TheVariants as items
use Rattle.pssm_model.specs.Forest.{HasKind, owner_of}
use Rattle.pssm_model.specs.Legs.{Enters}
use Rattle.pssm_model.specs.Configuration.{Configuration, AllTopsAreFinal}

-- The transition ends on a terminate vertex.
abbrev pub Terminates : DraftMachine → TransId → Type 0
Terminates m t = (v : VertexId) × Enters m t v × HasKind m v kinds.Terminate

-- a final state of a top region
abbrev pub IsTopFinal : DraftMachine → VertexId → Type 0
IsTopFinal m s =
    HasKind m s kinds.Final × ((r : RegionId) × (owner_of m (State s) ≡ Some (Region r)) × (owner_of m (Region r) ≡ Some Top))

-- The item ends an object that had not ended before it, where this is the configuration after it: the effect of a transition
-- into a terminate vertex, or the entry of a final state of a top region after which every top region has an active one.
abbrev pub Ends : DraftMachine → Configuration → Item → Type 0
Ends m after (items.Effect t) = Terminates m t
Ends m after (items.Enter s) = IsTopFinal m s × AllTopsAreFinal m after
Ends m after _ = ⊥
