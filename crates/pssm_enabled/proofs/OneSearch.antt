-- A search at the head of a list: what holds of it holds of the list, and the other way round.
use Rattle.std.proofs.Common.{◌<◌, List, [], ◌∷◌, length, Bool, true, false, IsTrue, IsFalse, Option, IfSome, slice_set, refl, arith}
use Rattle.pssm_model.specs.declared.ids.RegionId.{RegionId}
use Rattle.pssm_model.specs.declared.ids.TransId.{TransId}
use Rattle.pssm_model.specs.declared.elements.DraftMachine.{DraftMachine}
use Rattle.pssm_model.specs.Routes.{Truth}
use Rattle.pssm_enabled.specs.declared.seeking.Search.{Search}
use Rattle.pssm_enabled.specs.declared.seeking.Step.{Step}
use Rattle.pssm_enabled.specs.Steps.{IsFound, SeesDeadEnds, KnowsDeadEnds, steps_of}

module _ (m : DraftMachine) (truth : Truth) (within : Option RegionId) where
  pub first_found : (start : TransId) (search : List Search) (made : Search) (last : Option Step) → 0 < length search
      → IfSome last (IsFound m truth within made.steps start) → IfSome last (IsFound m truth within (steps_of (slice_set search 0 made)) start)
  first_found start [] made last lt h = absurd (omega (arith, lt))
  first_found start (old ∷ more) made last lt h = h

  pub new_knows : (search : List Search) (made : Search) → SeesDeadEnds m truth within made → KnowsDeadEnds m truth within (slice_set search 0 made)
  new_knows [] made h = tt
  new_knows (old ∷ more) made h = h

-- what is made where it is wanted is there, if it cannot be unwanted
pub where_wanted : (wanted : Bool) (There : Type 0) → (IsFalse wanted → ⊥) → (IsTrue wanted → There) → There
where_wanted true There none made = made refl
where_wanted false There none made = absurd (none refl)
