-- Statements that are made otherwise are other ones.
use Rattle.pssm_semantics.proofs.Views.{made_otherwise}
use Rattle.pssm_semantics.proofs.trees.+stmts.Goals as goal

pub same_stmt-returns-in_default : goal.same_stmt-returns-in_default
same_stmt-returns-in_default t c = made_otherwise c.in_default.is-0 (c.in_default.not-Assign-1 c.in_default.field-0-0 c.in_default.field-1-0)

pub same_stmt-returns-in_default-3 : goal.same_stmt-returns-in_default-3
same_stmt-returns-in_default-3 t c = made_otherwise c.in_default.is-0 (c.in_default.not-Choose-1 c.in_default.field-0-0 c.in_default.field-1-0 c.in_default.field-2-0)

pub same_stmt-returns-in_default-5 : goal.same_stmt-returns-in_default-5
same_stmt-returns-in_default-5 t c = made_otherwise c.in_default.is-0 (c.in_default.not-Choose-1 c.in_default.field-0-0 c.in_default.field-1-0 c.in_default.field-2-0)

pub same_stmt-returns-in_default-6 : goal.same_stmt-returns-in_default-6
same_stmt-returns-in_default-6 t c = made_otherwise c.in_default.is-0 (c.in_default.not-Send-1 c.in_default.field-0-0 c.in_default.field-1-0 c.in_default.field-2-0)

pub same_stmt-returns-in_default-7 : goal.same_stmt-returns-in_default-7
same_stmt-returns-in_default-7 t c = made_otherwise c.in_default.is-0 (c.in_default.not-Mark-1 c.in_default.field-0-0 c.in_default.field-1-0)
