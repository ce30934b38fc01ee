use Rattle.std.proofs.Common.{false, get_or}
use Rattle.pssm_model.specs.declared.steps.Item.TheVariants.{Exit}
use Rattle.pssm_plan.specs.declared.roster.Call.{Call}
use Rattle.pssm_plan.proofs.ApartCalls.{not_unset}
use Rattle.pssm_plan.proofs.Around.{ran_there}
use Rattle.pssm_plan.proofs.ClearCalls.{done_ran}
use Rattle.pssm_plan.proofs.Telling.{one_place}
use Rattle.pssm_plan.proofs.clear.is_left.Goals as goal

pub returns-in-Some : goal.returns-in-Some
returns-in-Some c = λ no.
    let d : Call = record { item = Exit (record { 0 = 0 }); ran = false; blocked = false; seen = 0 } in
    let calls = c.args.calls.now in
    let k = c.in-Some.k in
    done_ran calls c.args.item k (one_place calls c.args.item k c.requires.placed.once c.in-Some.ensures.0 c.in-Some.ensures.1)
    (ran_there calls k d c.in-Some.ensures.0 (not_unset (get_or calls k d).ran no))
