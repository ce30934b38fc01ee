-- Whether a State is complete is known where tables hold the configuration.
use Rattle.std.proofs.Common.{◌≡◌, ◌<◌, ℕ, length, false, Some, slice_index, slice_index_or, inl, inr, ⊎_elim, arith}
use Rattle.std.proofs.lemmas.Bool.{cases_lt}
use Rattle.std.proofs.lemmas.Option.{slice_get_within}
use Rattle.pssm_model.specs.declared.ids.VertexId.{VertexId}
use Rattle.pssm_model.specs.declared.ids.RegionId.{RegionId}
use Rattle.pssm_model.specs.declared.elements.DraftMachine.{DraftMachine}
use Rattle.pssm_model.specs.declared.elements.VertexKind.TheVariants as kinds
use Rattle.pssm_model.specs.declared.elements.Owner.TheVariants.{Region, State}
use Rattle.pssm_model.specs.inner.Listed.{region_number}
use Rattle.pssm_model.specs.Forest.{owner_of}
use Rattle.pssm_model.specs.Configuration.{Configuration, IsFinished, IsComplete, do_steps_of}
use Rattle.pssm_config.specs.Tables.{Tables, configuration_of}
use Rattle.pssm_model_laws.proofs.Known.{Known, known_as, known_both, known_either, known_not, known_below}
use Rattle.pssm_model_laws.proofs.KnownPlaces.{known_owner, known_vertex_kind}
use Rattle.pssm_plan.proofs.KnownItems.{known_true}
use Rattle.pssm_object.proofs.KnownEnds.{known_final}

module _ (m : DraftMachine) (tables : Tables) where
  abbrev now : Configuration
  now = configuration_of tables

  known_active : (s : VertexId) → Known (now.Active s)
  known_active s = known_true (slice_index_or tables.active s.0 false)

  known_finished : (r : RegionId) → Known (IsFinished m now r)
  known_finished r = known_either (known_final m now known_active r) (known_true (slice_index_or tables.empty r.0 false))

  -- A region of the State is not finished.
  abbrev IsUnfinished : VertexId → RegionId → Type 0
  IsUnfinished s r = (owner_of m (Region r) ≡ Some (State s)) × (IsFinished m now r → ⊥)

  known_regions : (s : VertexId) → Known ((r : RegionId) → owner_of m (Region r) ≡ Some (State s) → IsFinished m now r)
  known_regions s =
      ⊎_elim
      (λ lacks. inr (λ all. lacks.2.1 (all (region_number lacks.0) lacks.2.0)))
      (λ none. inl (λ r owns.
      ⊎_elim
      (λ finished. finished)
      (λ not. absurd (none (r.0, slice_get_within m.regions r.0 (State s) owns, (owns, not))))
      (known_finished r)))
      (known_below
      (λ k. IsUnfinished s (region_number k))
      (λ k. known_both (known_owner m (Region (region_number k)) (State s)) (known_not (known_finished (region_number k))))
      (length m.regions))

  -- whether the do steps of a State are done
  abbrev done_by : VertexId → ℕ
  done_by s = slice_index tables.steps s.0

  known_stepped : (s : VertexId) → Known ((k : ℕ) → k < do_steps_of m s → now.HasDoneStep s k)
  known_stepped s =
      ⊎_elim
      (λ fewer. inr (λ all. absurd (let more : done_by s < done_by s = all (done_by s) fewer in omega (arith, more))))
      (λ each. inl (λ k lt. (let less : k < done_by s = omega (arith, lt, each) in less)))
      (cases_lt (done_by s) (do_steps_of m s))

  pub known_complete : (s : VertexId) → Known (IsComplete m now s)
  known_complete s =
      known_as
      (λ h. record { state = h.0; active = h.1.0; stepped = h.1.1.0; finished = h.1.1.1 })
      (λ h. (h.state, (h.active, (h.stepped, h.finished))))
      (known_both
      (known_vertex_kind m s kinds.State)
      (known_both (known_active s) (known_both (known_stepped s) (known_regions s))))
