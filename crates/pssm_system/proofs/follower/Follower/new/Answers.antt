-- without entries a run is kept
use Rattle.std.proofs.Common.{ap, List}
use Rattle.pssm_system.specs.declared.follower.Told.{Told}
use Rattle.pssm_system.specs.inner.Telling.{entries_of}
use Rattle.pssm_system.proofs.Histories.{keeps_new}
use Rattle.pssm_system.proofs.follower.Follower.new.Goals as goal

pub invariant_of-result : goal.invariant_of-result
invariant_of-result c =
    keeps_new c.args.setting (entries_of c.new-2.result.items) c.in_ok-situation.situation c.requires
    (ap (λ (l : List Told). entries_of l) c.new-2.ensures.items) c.in_ok-situation.ensures
