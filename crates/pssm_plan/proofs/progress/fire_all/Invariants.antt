use Rattle.std.proofs.Common.{take}
use Rattle.pssm_config.specs.Tables.{configuration_of}
use Rattle.pssm_plan.specs.inner.Calling.{IsOfWays}
use Rattle.pssm_plan.specs.inner.Going.{IsMadeOf}
use Rattle.pssm_plan.specs.inner.Passes.{AreCaught}
use Rattle.pssm_plan.proofs.progress.fire_all.Given as goal

-- what the ways so far call is listed and settled
abbrev pub invariant-loop-place : goal.invariant-loop-place
invariant-loop-place l =
    AreCaught l.spans.items l.roster.calls.items
    × IsMadeOf l.machine (take l.place l.ways) (IsOfWays l.machine (configuration_of l.config) (take l.place l.ways)) l.roster.calls.items
