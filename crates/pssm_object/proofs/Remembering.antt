-- What an object's step remembers is what the journal does, so the ways of an item are those that the rules ask for.
use Rattle.std.proofs.Common.{◌↔◌, List, sym, subst, inl, inr, ⊎_elim}
use Rattle.pssm_model.specs.declared.ids.VertexId.{VertexId}
use Rattle.pssm_model.specs.declared.ids.RegionId.{RegionId}
use Rattle.pssm_model.specs.declared.elements.DraftMachine.{DraftMachine}
use Rattle.pssm_model.specs.declared.steps.How.{How}
use Rattle.pssm_model.specs.declared.steps.Item.{Item}
use Rattle.pssm_model.specs.Configuration.{Configuration}
use Rattle.pssm_model.specs.Course.{Head, RemembersSoFar}
use Rattle.pssm_model.specs.Order.{course_by, IsWayNow}
use Rattle.pssm_model.specs.Routes.{Truth}
use Rattle.pssm_model.specs.Ways.{Memory, IsWay}
use Rattle.pssm_model_laws.proofs.Known.{Known, known_as}
use Rattle.pssm_semantics.specs.declared.entry.ObjectId.{ObjectId}
use Rattle.pssm_semantics.specs.declared.entry.Entry.{Entry}
use Rattle.pssm_semantics.specs.Journal.{IsMemory, configuration_after}
use Rattle.pssm_semantics.specs.Steps.{course_of}
use Rattle.pssm_object.proofs.Memories.{memory_remembered, remembered_memory, way_same, way_now}
use Rattle.pssm_object.specs.Standing.{IsUnderWay}
use Rattle.pssm_object.proofs.KnownMemories.{known_so_far}

-- steps in configurations that remember the same remember the same so far
pub so_far_same : (m : DraftMachine) (first second : Head) (a b : Configuration) → ((r : RegionId) (s : VertexId) → a.Remembers r s → b.Remembers r s)
    → (ran : List (Item × How)) (r : RegionId) (s : VertexId) → RemembersSoFar m (course_by first a ran) r s → RemembersSoFar m (course_by second b ran) r s
so_far_same m first second a b same ran r s h = ⊎_elim (λ last. inl last) (λ was. inr (same r s was.0, was.1)) h

-- the same ways are open under memories that remember the same
pub ways_alike : (m : DraftMachine) (truth : Truth) (a b : Memory) (item : Item) (how : How) → ((r : RegionId) (s : VertexId) → a r s ↔ b r s)
    → IsWay m truth a item how → IsWay m truth b item how
ways_alike m truth a b item how same = way_same m truth a b item how (λ r s. (λ h. ((same r s).0 h.0, h.1), λ h. ((same r s).1 h.0, h.1)))

module _ {m : DraftMachine} {J : List Entry} {o : ObjectId} {head : Head} {at_head : Configuration} {ran : List (Item × How)} (u : IsUnderWay m J o head at_head ran) where
  abbrev now : Memory
  now = RemembersSoFar m (course_by head at_head ran)

  abbrev shown : Memory
  shown = RemembersSoFar m (course_of m o u.step)

  -- what the step as it is known remembers is what the step that the journal shows does
  so_far_shown : (r : RegionId) (s : VertexId) → now r s → shown r s
  so_far_shown r s h =
      so_far_same m head (course_of m o u.step).head at_head (configuration_after m u.step.before o) (λ q v. (u.at_head_is.remembered q v).0)
      (course_of m o u.step).ran r s (subst (λ xs. RemembersSoFar m (course_by head at_head xs) r s) u.ran_is h)

  shown_so_far : (r : RegionId) (s : VertexId) → shown r s → now r s
  shown_so_far r s h =
      subst (λ xs. RemembersSoFar m (course_by head at_head xs) r s) (sym u.ran_is)
      (so_far_same m (course_of m o u.step).head head (configuration_after m u.step.before o) at_head (λ q v. (u.at_head_is.remembered q v).1)
      (course_of m o u.step).ran r s h)

  -- whether the journal remembers a vertex is known
  pub known_memory : (r : RegionId) (s : VertexId) → Known (IsMemory m J o r s)
  known_memory r s =
      known_as
      (λ h. remembered_memory m o r s J u.step u.last (so_far_shown r s h))
      (λ h. shown_so_far r s (memory_remembered m o r s J u.step u.last h))
      (known_so_far m head at_head u.memory_known ran r s)

  -- a way by what the journal remembers is one by what the step does
  pub way_in_step : (truth : Truth) (item : Item) (how : How) → IsWay m truth (IsMemory m J o) item how
      → IsWayNow m truth (course_by head at_head ran) item how
  way_in_step truth item how h =
      ways_alike m truth shown now item how (λ r s. (shown_so_far r s, so_far_shown r s)) ((way_now m o J u.step u.last truth item how).1 h)
