-- the object's verdict is the setting's; a take of another signal breaks A6 where it breaks no rule before
use Rattle.std.proofs.Common.{inl, inr, sym, ap, subst}
use Rattle.std.specs.Option.{option_copied}
use Rattle.pssm_semantics.specs.Verdict.{IsFirstBroken}
use Rattle.pssm_semantics.specs.Rules.{Holds}
use Rattle.pssm_system.proofs.Judged.{not_take}
use Rattle.pssm_system.proofs.Nexts.{judged, judged_alone}
use Rattle.pssm_system.proofs.situation.Situation.judge.Goals as goal

pub returns-in-Take-None : goal.returns-in-Take-None
returns-in-Take-None c = λ J stands.
    subst (IsFirstBroken (Holds c.args.setting.now) J c.args.entry.now) (sym c.unwrap_or.ensures)
    (judged_alone c.requires.well_formed stands c.args.entry.now c.requires.known c.in_ok-answer.answer (option_copied c.signal_for-signal.result)
    c.signal_for-signal.ensures c.in_ok-answer.ensures c.in-Take-None.object-0 c.in-Take-None.number-0 c.in-Take-None.firing-0 c.in-Take-None.is-0
    (ap option_copied c.in-Take-None.is-1))

pub returns-in_default : goal.returns-in_default
returns-in_default c = λ J stands.
    judged c.requires.well_formed stands c.args.entry.now c.requires.known c.in_ok-answer.answer (option_copied c.signal_for-signal.result)
    c.signal_for-signal.ensures c.in_ok-answer.ensures (inr (c.in_default.field-0-1.now, ap option_copied c.in_default.is-1))

pub returns-in_default-2 : goal.returns-in_default-2
returns-in_default-2 c = λ J stands.
    judged c.requires.well_formed stands c.args.entry.now c.requires.known c.in_ok-answer.answer (option_copied c.signal_for-signal.result)
    c.signal_for-signal.ensures c.in_ok-answer.ensures (inl (not_take c.args.entry.now c.in_default.not-Take-0))
