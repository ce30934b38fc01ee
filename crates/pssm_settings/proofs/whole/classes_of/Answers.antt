use Rattle.std.proofs.Common.{◌<◌, length, List, subst}
use Rattle.pssm_model.specs.declared.draft_setting.DraftClass.{DraftClass}
use Rattle.pssm_settings.proofs.ListingLaws.{more_loaded, next_fails}
use Rattle.pssm_settings.proofs.whole.classes_of.Goals as goal

-- One class more is loaded.
pub loop-number-preserved : goal.loop-number-preserved
loop-number-preserved c =
    more_loaded c.args.draft.now c.loop-number.classes.items c.in-Ok.class c.loop-number.number c.in_ok-classes.classes.items c.loop-number.invariant.0 c.loop-number.invariant.1
    (c.in-Ok.ensures {u = tt}).class (c.in_ok-classes.ensures {u = tt})

-- The next class fails.
pub returns-in-Err-clause-fault : goal.returns-in-Err-clause-fault
returns-in-Err-clause-fault c =
    let within : c.loop-number.number < length c.args.draft.now.classes =
    subst (λ (cs : List DraftClass). c.loop-number.number < length cs) c.as_slice-number-end.ensures c.loop-number-test.true in
    next_fails c.args.draft.now c.loop-number.classes.items c.loop-number.number c.in-Err.fault c.loop-number.invariant.0 c.loop-number.invariant.1 within (c.in-Err.ensures {u = tt}).fault
