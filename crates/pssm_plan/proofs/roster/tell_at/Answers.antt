use Rattle.std.proofs.Common.{false}
use Rattle.pssm_model.specs.declared.steps.Item.TheVariants.{Exit}
use Rattle.pssm_plan.specs.declared.roster.Call.{Call}
use Rattle.pssm_plan.proofs.Telling.{told_at, one_place}
use Rattle.pssm_plan.proofs.roster.tell_at.Goals as goal

pub returns-in-Some : goal.returns-in-Some
returns-in-Some c =
    let at = rw c.in-Some.is at c.requires.place in
    let d : Call = record { item = Exit (record { 0 = 0 }); ran = false; blocked = false; seen = 0 } in
    record {
      told = told_at c.args.calls.now c.args.item c.in-Some.k d c.requires.once at.0 (at.1 d);
      place = one_place c.args.calls.now c.args.item c.in-Some.k c.requires.once at.0 at.1;
    }
