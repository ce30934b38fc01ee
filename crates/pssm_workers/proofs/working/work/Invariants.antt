-- the task to go on with can be run, and carries its behaviour
use Rattle.std.specs.Prelude.{IfSome}
use Rattle.pssm_workers.specs.inner.Jobs.{IsJobIn}
use Rattle.pssm_workers.proofs.working.work.Given as goal

abbrev pub invariant-loop : goal.invariant-loop
invariant-loop g l = IfSome l.next (IsJobIn g.V.Scene.setting)
