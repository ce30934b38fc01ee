use Rattle.std.proofs.Common.{OnOk, sym, subst}
use Rattle.pssm_model.specs.declared.steps.Item.{Item}
use Rattle.pssm_plan.specs.inner.Sequence.{IsExtended}
use Rattle.pssm_plan.specs.inner.Calling.{IsEntered}
use Rattle.pssm_plan.proofs.roster.Roster.list_entered.Goals as goal

pub returns-in-Enter-clause-added : goal.returns-in-Enter-clause-added
returns-in-Enter-clause-added c =
    let m = c.args.machine.now in
    subst
    (λ (x : Item). OnOk c.list_opened.result
    (IsExtended m c.args.self.now.calls.items (IsEntered m c.args.ways.now c.args.restored.now x) c.list_opened.new.self.calls.items))
    (sym c.in-Enter.is) c.list_opened.ensures.added
