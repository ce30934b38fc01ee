use Rattle.std.proofs.lemmas.List.{get_or_default}
use Rattle.pssm_model.specs.declared.ids.TransId.{TransId}
use Rattle.pssm_model.specs.Legs.{Leaves}
use Rattle.pssm_legs.proofs.NoneSoFar.{none_at_all}
use Rattle.pssm_legs.proofs.path.one_out.Goals as goal

pub source-requires : goal.source-requires
source-requires c =
    c.requires _ (c.loop-t.t-index, c.loop-t-test.true, get_or_default c.args.transitions.now c.loop-t.t-index _ _ c.loop-t-test.true)

pub returns-clause-none : goal.returns-clause-none
returns-clause-none c =
    none_at_all (λ (t : TransId). Leaves c.args.machine.now t c.args.v) c.args.transitions.now c.loop-t.t-index c.loop-t.invariant c.loop-t-test.false
