-- What is asked of each of some regions, and when a State is complete.
use Rattle.std.proofs.Common.{◌≡◌, ◌↔◌, ◌<◌, ◌≤◌, ◌+◌, ℕ, List, [], length, get_or, take, Contains, Some, inl, inr, ⊎_elim, subst, arith}
use Rattle.std.proofs.lemmas.Bool.{cases_order}
use Rattle.std.proofs.lemmas.List.{take_more}
use Rattle.std.proofs.lemmas.List.Elements.{Contains-push_cases}
use Rattle.pssm_model.specs.declared.ids.VertexId.{VertexId}
use Rattle.pssm_model.specs.declared.ids.RegionId.{RegionId}
use Rattle.pssm_model.specs.declared.elements.DraftMachine.{DraftMachine}
use Rattle.pssm_model.specs.declared.elements.Owner.TheVariants.{Region, State}
use Rattle.pssm_model.specs.Forest.{owner_of}
use Rattle.pssm_model.specs.Configuration.{IsFinished, IsComplete, do_steps_of}
use Rattle.pssm_config.specs.Tables.{Tables, configuration_of}
use Rattle.pssm_config.specs.inner.Finishing.{IsDone}

pub each_none : (P : RegionId → Type 0) (r : RegionId) → Contains [] r → P r
each_none P r c = absurd (omega (arith, c.1))

-- what holds of the first few regions and of the next one holds of one more
pub each_more : (P : RegionId → Type 0) (regions : List RegionId) (n : ℕ) (d : RegionId) → n < length regions
    → ((r : RegionId) → Contains (take n regions) r → P r) → P (get_or regions n d) → (r : RegionId) → Contains (take (n + 1) regions) r → P r
each_more P regions n d lt few next r c =
    let Within : List RegionId → Type 0 = λ rs. Contains rs r in
    ⊎_elim (few r) (λ same. subst P same next)
    (Contains-push_cases (take n regions) (get_or regions n d) r (subst Within (take_more regions n d lt) c))

-- the regions of a State that are listed
abbrev pub ListsRegions : DraftMachine → VertexId → List RegionId → Type 0
ListsRegions m s regions = (r : RegionId) → Contains regions r ↔ (owner_of m (Region r) ≡ Some (State s))

module _ (m : DraftMachine) (t : Tables) (s : VertexId) (regions : List RegionId) (lists : ListsRegions m s regions) where
  -- a complete State has done as many do steps as it has
  pub done_of : IsComplete m (configuration_of t) s → IsDone m t s
  done_of complete = record { state = complete.state; active = complete.active; steps = suffice } where
    suffice : do_steps_of m s ≤ get_or t.steps s.0 0
    suffice = elim (cases_order (get_or t.steps s.0 0) (do_steps_of m s)) [
      | inl same ↦ omega arith
      | inr (inl fewer) ↦ let itself = complete.stepped (get_or t.steps s.0 0) fewer in absurd (omega (arith, itself))
      | inr (inr more) ↦ omega arith
    ]

  -- and its regions are finished
  pub finished_of : IsComplete m (configuration_of t) s → (r : RegionId) → Contains regions r → IsFinished m (configuration_of t) r
  finished_of complete r c = complete.finished r ((lists r).0 c)

  -- both together make it complete
  pub complete_of : IsDone m t s → ((r : RegionId) → Contains regions r → IsFinished m (configuration_of t) r) → IsComplete m (configuration_of t) s
  complete_of done each = record {
    state = done.state;
    active = done.active;
    stepped = λ k lt. let steps = done.steps in omega (arith, lt, steps);
    finished = λ r owner. each r ((lists r).1 owner);
  }
