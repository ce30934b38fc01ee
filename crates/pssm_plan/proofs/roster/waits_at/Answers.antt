use Rattle.std.proofs.Common.{false, get_or}
use Rattle.std.proofs.lemmas.List.Elements.{Contains-get_or}
use Rattle.pssm_model.specs.declared.steps.Item.TheVariants.{Exit}
use Rattle.pssm_plan.specs.declared.roster.Call.{Call}
use Rattle.pssm_plan.proofs.StandingItems.{is_not}
use Rattle.pssm_plan.proofs.ApartCalls.{not_unset}
use Rattle.pssm_plan.proofs.Around.{ran_there}
use Rattle.pssm_plan.proofs.roster.waits_at.Goals as goal

pub returns-clause-waits : goal.returns-clause-waits
returns-clause-waits c = λ t all.
    let d : Call = record { item = Exit (record { 0 = 0 }); ran = false; blocked = false; seen = 0 } in
    is_not (get_or c.args.calls.now c.args.place d).ran t
    (all (get_or c.args.calls.now c.args.place d) (Contains-get_or c.args.calls.now c.args.place d c.requires))

pub returns-clause-ran : goal.returns-clause-ran
returns-clause-ran c = λ not.
    let d : Call = record { item = Exit (record { 0 = 0 }); ran = false; blocked = false; seen = 0 } in
    ran_there c.args.calls.now c.args.place d c.requires (not_unset (get_or c.args.calls.now c.args.place d).ran not)
