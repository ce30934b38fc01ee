-- When two claims are one and the same, as a value.
use Rattle.std.specs.Prelude.{◌==◌, ◌&&◌, Bool, false}
use Rattle.pssm_semantics.specs.declared.entry.ObjectId.{ObjectId}
use Rattle.pssm_semantics.specs.declared.stimulus.Task.{Task}
use Rattle.pssm_semantics.specs.declared.stimulus.Task.TheVariants.{Exit, Effect, Enter, DoStep}

-- whether the two tasks are one and the same
abbrev pub is_task : Task → Task → Bool
is_task (Exit s) (Exit t) = s.0 == t.0
is_task (Effect s) (Effect t) = s.0 == t.0
is_task (Enter s) (Enter t) = s.0 == t.0
is_task (DoStep s k) (DoStep t n) = (s.0 == t.0) && (k == n)
is_task _ _ = false

-- whether the two claims are one and the same
abbrev pub is_claim : ObjectId × Task → ObjectId × Task → Bool
is_claim a b = (a.0.0 == b.0.0) && is_task a.1 b.1
