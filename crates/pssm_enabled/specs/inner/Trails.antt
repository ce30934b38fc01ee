-- The steps that lead to a step, one before another.
use Rattle.std.specs.Prelude.{ℕ, List, Option, Some, None, slice_get}
use Rattle.pssm_enabled.specs.declared.seeking.Step.{Step}

-- the step with this place, if there is one
abbrev pub step_at : List Step → Option ℕ → Option Step
step_at steps None = None
step_at steps (Some k) = slice_get steps k

-- the step before this one, if there is one
abbrev pub step_before : List Step → Step → Option Step
step_before steps step = step_at steps step.before
