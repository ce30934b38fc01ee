-- What a step does to a configuration, and when a configuration is consistent.
use Rattle.std.specs.Prelude.{◌≡◌, ◌⊎◌, List, [], ◌∷◌, Some}
use Rattle.pssm_model.specs.declared.ids.VertexId.{VertexId}
use Rattle.pssm_model.specs.declared.ids.RegionId.{RegionId}
use Rattle.pssm_model.specs.declared.elements.DraftMachine.{DraftMachine}
use Rattle.pssm_model.specs.declared.elements.Owner.TheVariants.{Top, Region, State}
use Rattle.pssm_model.specs.declared.steps.Route.{Route}
use Rattle.pssm_model.specs.declared.steps.How.{How}
use Rattle.pssm_model.specs.declared.steps.How.TheVariants.{Nothing}
use Rattle.pssm_model.specs.declared.steps.Item.{Item}
use Rattle.pssm_model.specs.declared.steps.Item.TheVariants as items
use Rattle.pssm_model.specs.Forest.{IsStateOrFinal, owner_of}
use Rattle.pssm_model.specs.Routes.{IsSource, Conflict}
use Rattle.pssm_model.specs.Configuration.{Configuration, IsDirect}
use Rattle.pssm_model.specs.Changes.{entered, exited, opened_none, opened_way}
use Rattle.pssm_model.specs.Course.{Head, FiresBy}
use Rattle.pssm_model.specs.Course.Head.{Starts}

-- What is active is a State or final state, of each region at most one direct vertex is, and with it the State that
-- owns the region (UML 2.5.1 14.2.3.4, State configurations).
pub record IsConsistent (m : DraftMachine) (now : Configuration) : Type 0 where
  pub states : (s : VertexId) → now.Active s → IsStateOrFinal m s
  pub one_each : (r : RegionId) (s q : VertexId) → IsDirect m s r → IsDirect m q r → now.Active s → now.Active q → s ≡ q
  pub owners : (r : RegionId) (s : VertexId) → IsDirect m s r → now.Active s
      → (owner_of m (Region r) ≡ Some Top) ⊎ ((q : VertexId) × (owner_of m (Region r) ≡ Some (State q)) × now.Active q)

-- A step begins so: with a start where nothing is active, or with routes that fire, no two of which conflict, and whose sources are active; and
-- what a region remembers is a direct vertex of it (UML 2.5.1 14.2.3.9, run to completion and conflicting transitions; 14.2.3.4, State history;
-- PSSM 1.0 8.5, the initial run-to-completion step).
pub record BeginsWell (m : DraftMachine) (head : Head) (now : Configuration) : Type 0 where
  pub consistent : IsConsistent m now
  pub start : head ≡ Starts → (s : VertexId) → now.Active s → ⊥
  pub agree : (p q : Route) → FiresBy head p → FiresBy head q → Conflict m now.Active p q → ⊥
  pub from_active : (p : Route) (s : VertexId) → FiresBy head p → IsSource m p s → now.Active s
  pub remembers : (r : RegionId) (s : VertexId) → now.Remembers r s → IsDirect m s r

-- the configuration once the item has run in this way: an entry, an exit and an opening change it, an effect and a
-- pick do not (UML 2.5.1 14.2.3.4, entering and exiting a State; openings are this profile's choice)
abbrev pub changed_by_item : DraftMachine → Configuration → Item → How → Configuration
changed_by_item m now (items.Enter s) how = entered m now s
changed_by_item m now (items.Exit s) how = exited m now s
changed_by_item m now (items.Opened r mode) Nothing = opened_none now r
changed_by_item m now (items.Opened r mode) how = opened_way now r
changed_by_item m now item how = now

-- the configuration once these items have run in their ways, one after another
-- (UML 2.5.1 14.2.3.9, transition execution sequence)
abbrev pub changed_along : DraftMachine → Configuration → List (Item × How) → Configuration
changed_along m now [] = now
changed_along m now (x ∷ xs) = changed_along m (changed_by_item m now x.0 x.1) xs
