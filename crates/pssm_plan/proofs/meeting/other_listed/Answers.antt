use Rattle.std.proofs.Common.{IsTrue}
use Rattle.pssm_plan.proofs.MetItems.{met_kinds}
use Rattle.pssm_plan.proofs.meeting.other_listed.Goals as goal

pub returns-else-own_listed : goal.returns-else-own_listed
returns-else-own_listed c = λ x listed other may.
    let no = c.if-own_listed.false in
    met_kinds c.args.calls.now.items c.args.way.now c.args.r (IsTrue c.history_listed.result)
    (λ h. let yes = c.own_listed.ensures.named h in absurd (cc (yes, no)))
    (λ t inside h. let yes = c.own_listed.ensures.further t inside h in absurd (cc (yes, no)))
    (λ h. let yes = c.own_listed.ensures.entry h in absurd (cc (yes, no)))
    (λ h. let yes = c.own_listed.ensures.pick h in absurd (cc (yes, no)))
    c.history_listed.ensures.shallow c.history_listed.ensures.deep x listed other may
