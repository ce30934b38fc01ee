-- each rule under its number
use Rattle.pssm_wellformed.proofs.Numbered.{transition_iff_10, transition_iff_13, transition_iff_14, transition_iff_17, transition_iff_21}
use Rattle.pssm_wellformed.proofs.rules.transition_breaks.Goals as goal

pub returns-in-10 : goal.returns-in-10
returns-in-10 c = rw (← c.marked.view_is) (transition_iff_10 c.marked.inside.machine.now c.args.transition c.args.rule c.is_triggered_wrongly.result c.in-10.is c.is_triggered_wrongly.ensures)

pub returns-in-13 : goal.returns-in-13
returns-in-13 c = rw (← c.marked.view_is) (transition_iff_13 c.marked.inside.machine.now c.args.transition c.args.rule c.is_bad_internal.result c.in-13.is c.is_bad_internal.ensures)

pub returns-in-14 : goal.returns-in-14
returns-in-14 c = transition_iff_14 c.args.marked.now c.args.transition c.args.rule c.is_bad_local.result c.in-14.is c.is_bad_local.ensures

pub returns-in-17 : goal.returns-in-17
returns-in-17 c = rw (← c.marked.view_is) (transition_iff_17 c.marked.inside.machine.now c.args.transition c.args.rule c.is_bad_else.result c.in-17.is c.is_bad_else.ensures)

pub returns-in-21 : goal.returns-in-21
returns-in-21 c = rw (← c.marked.view_is) (transition_iff_21 c.marked.inside.machine.now c.args.transition c.args.rule c.connects_badly.result c.in-21.is c.connects_badly.ensures)
