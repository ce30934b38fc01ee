-- The behaviours of do steps, what they make where an object stands, and the verdict on a do step.
use Rattle.std.specs.Prelude.{◌≡◌, ℕ, List, Option, Some, None, option_and_then, slice_get}
use Rattle.std.specs.Option.{option_map_or}
use Rattle.pssm_model.specs.declared.ids.VertexId.{VertexId}
use Rattle.pssm_model.specs.declared.elements.DraftMachine.{DraftMachine}
use Rattle.pssm_model.specs.Forest.{vertex_at}
use Rattle.pssm_model.specs.Configuration.{IsNextDoStep}
use Rattle.pssm_model.specs.Changes.{Agree, did_step}
use Rattle.pssm_config.specs.Tables.{Tables, Fits, configuration_of}
use Rattle.pssm_semantics.specs.declared.entry.Out.{Out}
use Rattle.pssm_semantics.specs.declared.entry.Rule.{Rule}
use Rattle.pssm_semantics.specs.declared.entry.Rule.TheVariants.{A11, A12}
use Rattle.pssm_semantics.specs.declared.tree.Act.{Act}
use Rattle.pssm_semantics.specs.declared.setting.Class.{Class}
use Rattle.pssm_semantics.specs.declared.setting.Outcome.{Outcome}
use Rattle.pssm_semantics.specs.Values.{outcome_of, no_params}
use Rattle.pssm_semantics.specs.Behaviours.{act_at}
use Rattle.pssm_object.specs.Standing.{Standing}
use Rattle.pssm_object.specs.inner.Working.{nothing_from}

-- the behaviour of a do step of a vertex
abbrev pub step_act : Class → VertexId → ℕ → Option Act
step_act class s k = option_and_then (act_at class) (option_and_then (λ x. slice_get x.steps k) (vertex_at class.machine s))

-- what a do step makes where an object stands: its parameters are zeros
abbrev pub step_outcome : Class → Standing → VertexId → ℕ → Outcome
step_outcome class x s k = option_map_or (λ act. outcome_of act x.own x.store no_params) (step_act class s k) (nothing_from x.store)

-- These are the outputs that the do step makes.
abbrev pub MakesInStep : Class → Standing → VertexId → ℕ → List Out → Type 0
MakesInStep class x s k outs = outs ≡ (step_outcome class x s k).outs

-- The do step makes nothing, wherever an object stands.
abbrev pub IsIdleStep : Class → VertexId → ℕ → Type 0
IsIdleStep class s k = (x : Standing) → step_outcome class x s k ≡ nothing_from x.store

-- These are the outputs that the behaviour makes in a do step there.
abbrev pub MakesInStepBy : Act → Standing → List Out → Type 0
MakesInStepBy act x outs = outs ≡ (outcome_of act x.own x.store no_params).outs

-- The do step is the next one of the vertex.
abbrev pub IsNextHere : DraftMachine → Tables → VertexId → ℕ → Type 0
IsNextHere m tables s k = IsNextDoStep m (configuration_of tables) s k

-- the verdict on a do step with its outputs
abbrev pub JudgesDoStep : Class → Standing → VertexId → ℕ → List Out → Option Rule → Type 0
JudgesDoStep class x s k outs None = IsNextHere class.machine x.config s k × MakesInStep class x s k outs
JudgesDoStep class x s k outs (Some A11) = IsNextHere class.machine x.config s k → ⊥
JudgesDoStep class x s k outs (Some A12) = IsNextHere class.machine x.config s k × (MakesInStep class x s k outs → ⊥)
JudgesDoStep class x s k outs (Some _) = ⊥

-- The do step is done and its behaviour has changed the variables, and nothing else has changed.
pub record DoesStep (class : Class) (old : Standing) (s : VertexId) (k : ℕ) (new : Standing) : Type 0 where
  pub own : new.own ≡ old.own
  pub plan : new.plan ≡ old.plan
  pub fits : Fits class.machine new.config
  pub changed : Agree (configuration_of new.config) (did_step (configuration_of old.config) s k)
  pub store : new.store ≡ (step_outcome class old s k).store
  pub params : new.params ≡ old.params
  pub queue : new.queue ≡ old.queue
  pub ended : new.ended ≡ old.ended
  pub doers : new.doers ≡ old.doers
