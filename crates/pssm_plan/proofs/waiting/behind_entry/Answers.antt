use Rattle.std.proofs.Common.{false, get_or, inl, inr, ⊎_elim}
use Rattle.std.proofs.lemmas.List.Elements.{Contains-get_or}
use Rattle.pssm_model.specs.declared.steps.Item.TheVariants.{Exit, Enter}
use Rattle.pssm_plan.specs.declared.roster.Call.{Call}
use Rattle.pssm_plan.proofs.Around.{entry_outside, entry_ran, ran_there}
use Rattle.pssm_plan.proofs.Telling.{one_place}
use Rattle.pssm_plan.proofs.waiting.behind_entry.Goals as goal

pub returns-in-Some-clause-none : goal.returns-in-Some-clause-none
returns-in-Some-clause-none c =
    let d : Call = record { item = Exit (record { 0 = 0 }); ran = false; blocked = false; seen = 0 } in
    let calls = c.args.calls.now in
    let at = one_place calls (Enter c.args.s) c.in-Some.place c.requires.placed.once c.in-Some.ensures.0 c.in-Some.ensures.1 in
    ⊎_elim
    (λ ran. entry_ran calls c.args.s c.in-Some.place c.behind_call.result c.args.end at (ran_there calls c.in-Some.place d c.in-Some.ensures.0 ran))
    (λ out. entry_outside calls c.args.s c.in-Some.place c.behind_call.result c.args.end (⊎_elim (λ past. inr past) (λ before. inl before) out) at)
    c.behind_call.ensures.behind

pub returns-in-None-clause-none : goal.returns-in-None-clause-none
returns-in-None-clause-none c = λ k d low high inside is waits.
    c.in-None.ensures (get_or c.args.calls.now k d, Contains-get_or c.args.calls.now k d inside, is)
