-- What behaviours and guards mean, on a store and parameters.
use Rattle.std.specs.Prelude.{◌-◌, ℤ, pos, ◌+ℤ◌, ◌-ℤ◌, ◌*ℤ◌, List, [], ◌∷◌, ◌++◌, map, Bool, true, false, not, ◌&&◌, ◌||◌, int_lt, int_le, if◌then◌else◌, unwrap_or, take, replicate, slice_set}
use Rattle.std.specs.List.{slice_index_or}
use Rattle.std.specs.Ordering.{int_eq}
use Rattle.std.specs.Int.{int_wrap, w64}
use Rattle.pssm_semantics.specs.declared.entry.ObjectId.{ObjectId}
use Rattle.pssm_semantics.specs.declared.entry.Out.{Out}
use Rattle.pssm_semantics.specs.declared.entry.Out.TheVariants as outs
use Rattle.pssm_semantics.specs.declared.tree.Act.{Act}
use Rattle.pssm_semantics.specs.declared.tree.Expr.{Expr, end_of-Expr, more_of-Expr}
use Rattle.pssm_semantics.specs.declared.tree.Expr.TheVariants.{Num, Var, Param, Sum', Diff', Prod'}
use Rattle.pssm_semantics.specs.declared.tree.Rel.{Rel}
use Rattle.pssm_semantics.specs.declared.tree.Rel.TheVariants.{Eq, Ne, Lt, Le, Gt, Ge}
use Rattle.pssm_semantics.specs.declared.tree.Cond.{Cond, end_of-Cond, more_of-Cond}
use Rattle.pssm_semantics.specs.declared.tree.Cond.TheVariants.{True, False, Compare, Not', And', Or'}
use Rattle.pssm_semantics.specs.declared.tree.Stmt.{Stmt, Assign, Choose', Send, Mark, Row_of-Stmt, end_of-Stmt, more_of-Stmt, Held-Stmt-Choose-2, None', Some'}
use Rattle.pssm_semantics.specs.declared.setting.Outcome.{Outcome}

-- the values of an object's variables (UML 2.5.1 9.5.3, properties)
abbrev pub Store : Type 0
Store = List ℤ

-- the parameters of a step (UML 2.5.1 13.3.3, the data of a signal event)
abbrev pub Params : Type 0
Params = List ℤ

-- the arguments of a signal, continued by zeros to eight (this profile's choice)
abbrev pub eight_of : List ℤ → Params
eight_of args = take 8 (args ++ replicate 8 (pos 0))

-- eight zeros (this profile's choice)
abbrev pub no_params : Params
no_params = replicate 8 (pos 0)

-- the value of an expression; sums, differences and products are those of 64 bits, which wrap (this profile's choice)
abbrev pub value_of : Expr → Store → Params → ℤ
value_of (Num n) store params = n
value_of (Var x) store params = slice_index_or store x (pos 0)
value_of (Param k) store params = slice_index_or params (k - 1) (pos 0)
value_of (Sum' p (more_of-Expr a end_of-Expr) q (more_of-Expr b end_of-Expr)) store params = int_wrap w64 (value_of a store params +ℤ value_of b store params)
value_of (Diff' p (more_of-Expr a end_of-Expr) q (more_of-Expr b end_of-Expr)) store params = int_wrap w64 (value_of a store params -ℤ value_of b store params)
value_of (Prod' p (more_of-Expr a end_of-Expr) q (more_of-Expr b end_of-Expr)) store params = int_wrap w64 (value_of a store params *ℤ value_of b store params)

-- the value of a relation (this profile's choice)
abbrev pub compares : Rel → ℤ → ℤ → Bool
compares Eq x y = int_eq x y
compares Ne x y = not (int_eq x y)
compares Lt x y = int_lt x y
compares Le x y = int_le x y
compares Gt x y = int_lt y x
compares Ge x y = int_le y x

-- the value of a guard (UML 2.5.1 14.2.3.8, guards; the language is this profile's choice)
abbrev pub truth_of : Cond → Store → Params → Bool
truth_of True store params = true
truth_of False store params = false
truth_of (Compare rel a b) store params = compares rel (value_of a store params) (value_of b store params)
truth_of (Not' p (more_of-Cond c end_of-Cond)) store params = not (truth_of c store params)
truth_of (And' p (more_of-Cond c end_of-Cond) q (more_of-Cond d end_of-Cond)) store params = truth_of c store params && truth_of d store params
truth_of (Or' p (more_of-Cond c end_of-Cond) q (more_of-Cond d end_of-Cond)) store params = truth_of c store params || truth_of d store params

-- the arguments of a send or a mark (this profile's choice)
abbrev pub values_of : List Expr → Store → Params → List ℤ
values_of es store params = map (λ e. value_of e store params) es

-- the same outputs with another store (this profile's choice)
abbrev pub with_store : Outcome → Store → Outcome
with_store was store = record { store = store; outs = was.outs }

-- the same store with one output more (this profile's choice)
abbrev pub with_out : Outcome → Out → Outcome
with_out was out = record { store = was.store; outs = was.outs ++ out ∷ [] }

-- what a statement of the object leaves of the store and the outputs so far; an `if` runs one of its blocks (this profile's choice)
abbrev mutual
  pub after_stmt : Stmt → ObjectId → Params → Outcome → Outcome
  after_stmt (Assign x e) own params was = with_store was (slice_set was.store x (value_of e was.store params))
  after_stmt (Choose' c shape body otherwise) own params was =
      if truth_of c was.store params then after_block body own params was else after_otherwise otherwise own params was
  after_stmt (Send to signal args) own params was = with_out was (outs.Send (unwrap_or to own) signal (values_of args was.store params))
  after_stmt (Mark mark args) own params was = with_out was (outs.Mark mark (values_of args was.store params))

  pub after_block : {n : _} → Row_of-Stmt n → ObjectId → Params → Outcome → Outcome
  after_block end_of-Stmt own params was = was
  after_block (more_of-Stmt stmt rest) own params was = after_block rest own params (after_stmt stmt own params was)

  pub after_otherwise : Held-Stmt-Choose-2 → ObjectId → Params → Outcome → Outcome
  after_otherwise None' own params was = was
  after_otherwise (Some' shape block) own params was = after_block block own params was

-- the statements of a behaviour in order (this profile's choice)
abbrev pub after_stmts : List Stmt → ObjectId → Params → Outcome → Outcome
after_stmts [] own params was = was
after_stmts (stmt ∷ rest) own params was = after_stmts rest own params (after_stmt stmt own params was)

-- the value of a behaviour: a store and a list of outputs (UML 2.5.1 13.2.3, opaque behaviours; the language is this profile's choice)
abbrev pub outcome_of : Act → ObjectId → Store → Params → Outcome
outcome_of act own store params = after_stmts act.stmts own params (record { store = store; outs = [] })
