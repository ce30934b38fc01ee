-- How far the run of a behaviour has come.
use Rattle.std.specs.Prelude.{◌≡◌, ℤ, List}
use Rattle.pssm_semantics.specs.declared.entry.ObjectId.{ObjectId}
use Rattle.pssm_semantics.specs.declared.entry.Out.{Out}
use Rattle.pssm_semantics.specs.declared.setting.Outcome.{Outcome}
use Rattle.pssm_semantics.specs.declared.tree.Stmt.{Stmt}
use Rattle.pssm_semantics.specs.Values.{Store, Params, after_stmt, after_stmts}

-- the values of the variables and the outputs after some statements (UML 2.5.1 13.2.3, executions of behaviours)
abbrev pub so_far : List ℤ → List Out → Outcome
so_far store outs = record { store = store; outs = outs }

-- The statement leaves these values of the variables, whichever object runs it and whatever it made before (UML 2.5.1 13.2.3, executions of behaviours).
abbrev pub IsChangedBy : Stmt → Params → Store → Store → Type 0
IsChangedBy stmt params before after = (own : ObjectId) (outs : List Out) → (after_stmt stmt own params (so_far before outs)).store ≡ after

-- The statements in order leave these values of the variables (UML 2.5.1 13.2.3, executions of behaviours).
abbrev pub IsChangedByAll : List Stmt → Params → Store → Store → Type 0
IsChangedByAll stmts params before after = (own : ObjectId) (outs : List Out) → (after_stmts stmts own params (so_far before outs)).store ≡ after
