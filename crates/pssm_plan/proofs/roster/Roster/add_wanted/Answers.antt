use Rattle.std.proofs.lemmas.Result.{on_ok_weaker}
use Rattle.pssm_plan.proofs.Extending.{added_or_refused, extended_added}
use Rattle.pssm_plan.proofs.roster.Roster.add_wanted.Goals as goal

pub returns-clause-calls : goal.returns-clause-calls
returns-clause-calls c = added_or_refused c.add.result c.args.self.now.calls.items _ _ c.add.ensures.added c.add.ensures.refused

pub returns-clause-added : goal.returns-clause-added
returns-clause-added c =
    on_ok_weaker c.add.result
    (λ added. extended_added c.args.machine.now c.args.self.now.calls.items _ c.args.item c.requires.roster c.requires.item added)
    c.add.ensures.added
