-- each rule under its number
use Rattle.pssm_wellformed.proofs.Numbered.{vertex_iff_3, vertex_iff_4, vertex_iff_5, vertex_iff_6, vertex_iff_7, vertex_iff_8, vertex_iff_9, vertex_iff_11, vertex_iff_12, vertex_iff_15, vertex_iff_16, vertex_iff_18, vertex_iff_19, vertex_iff_20}
use Rattle.pssm_wellformed.proofs.rules.vertex_breaks.Goals as goal

pub returns-in-3 : goal.returns-in-3
returns-in-3 c = rw (← c.marked.view_is) (vertex_iff_3 c.marked.inside.machine.now c.args.vertex c.args.rule c.is_bad_initial.result c.in-3.is c.is_bad_initial.ensures)

pub returns-in-4 : goal.returns-in-4
returns-in-4 c = rw (← c.marked.view_is) (vertex_iff_4 c.marked.inside.machine.now c.args.vertex c.args.rule c.is_bad_history.result c.in-4.is c.is_bad_history.ensures)

pub returns-in-5 : goal.returns-in-5
returns-in-5 c = rw (← c.marked.view_is) (vertex_iff_5 c.marked.inside.machine.now c.args.vertex c.args.rule c.is_bad_join.result c.in-5.is c.is_bad_join.ensures)

pub returns-in-6 : goal.returns-in-6
returns-in-6 c = rw (← c.marked.view_is) (vertex_iff_6 c.marked.inside.machine.now c.args.vertex c.args.rule c.is_bad_fork.result c.in-6.is c.is_bad_fork.ensures)

pub returns-in-7 : goal.returns-in-7
returns-in-7 c = vertex_iff_7 c.args.marked.now c.args.vertex c.args.rule c.joins_badly.result c.in-7.is c.joins_badly.ensures

pub returns-in-8 : goal.returns-in-8
returns-in-8 c = vertex_iff_8 c.args.marked.now c.args.vertex c.args.rule c.forks_badly.result c.in-8.is c.forks_badly.ensures

pub returns-in-9 : goal.returns-in-9
returns-in-9 c = rw (← c.marked.view_is) (vertex_iff_9 c.marked.inside.machine.now c.args.vertex c.args.rule c.is_open_ended.result c.in-9.is c.is_open_ended.ensures)

pub returns-in-11 : goal.returns-in-11
returns-in-11 c = rw (← c.marked.view_is) (vertex_iff_11 c.marked.inside.machine.now c.args.vertex c.args.rule c.is_bad_final.result c.in-11.is c.is_bad_final.ensures)

pub returns-in-12 : goal.returns-in-12
returns-in-12 c = rw (← c.marked.view_is) (vertex_iff_12 c.marked.inside.machine.now c.args.vertex c.args.rule c.is_bad_terminate.result c.in-12.is c.is_bad_terminate.ensures)

pub returns-in-15 : goal.returns-in-15
returns-in-15 c = vertex_iff_15 c.args.marked.now c.args.vertex c.args.rule c.is_bad_entry_point.result c.in-15.is c.is_bad_entry_point.ensures

pub returns-in-16 : goal.returns-in-16
returns-in-16 c = vertex_iff_16 c.args.marked.now c.args.vertex c.args.rule c.is_bad_exit_point.result c.in-16.is c.is_bad_exit_point.ensures

pub returns-in-18 : goal.returns-in-18
returns-in-18 c = vertex_iff_18 c.args.marked.now c.args.vertex c.args.rule c.may_find_no_branch.result c.in-18.is c.may_find_no_branch.ensures

pub returns-in-19 : goal.returns-in-19
returns-in-19 c = vertex_iff_19 c.args.marked.now c.args.vertex c.args.rule c.is_on_cycle.result c.in-19.is c.is_on_cycle.ensures

pub returns-in-20 : goal.returns-in-20
returns-in-20 c = vertex_iff_20 c.args.marked.now c.args.vertex c.args.rule c.goes_outside.result c.in-20.is c.goes_outside.ensures
