-- A behaviour leaves as many values as there were, so an object always has as many as its class has variables.
use Rattle.std.proofs.Common.{◌≡◌, ◌≤◌, ◌==◌, ◌++◌, List, [], ◌∷◌, length, Bool, true, false, if◌then◌else◌, Option, Some, None, refl, ◌∙◌, arith}
use Rattle.std.specs.Option.{option_map_or}
use Rattle.std.proofs.lemmas.List.{length-map, length-set}
use Rattle.pssm_semantics.specs.declared.entry.ObjectId.{ObjectId}
use Rattle.pssm_semantics.specs.declared.entry.Entry.{Entry}
use Rattle.pssm_semantics.specs.declared.tree.Act.{Act}
use Rattle.pssm_semantics.specs.declared.tree.Stmt.{Stmt, Assign, Choose', Send, Mark, Row_of-Stmt, end_of-Stmt, more_of-Stmt, Held-Stmt-Choose-2, None', Some'}
use Rattle.pssm_semantics.specs.declared.setting.Class.{Class}
use Rattle.pssm_semantics.specs.declared.setting.Outcome.{Outcome}
use Rattle.pssm_semantics.specs.declared.setting.Setting.{Setting}
use Rattle.pssm_semantics.specs.Settings.{class_of}
use Rattle.pssm_semantics.specs.Proper.{IsWellFormed}
use Rattle.pssm_semantics_laws.proofs.SettingClasses.{class_of_object}
use Rattle.pssm_semantics.specs.Journal.{object_of}
use Rattle.pssm_semantics.specs.Values.{Store, Params, truth_of, value_of, after_stmt, after_block, after_otherwise, after_stmts, outcome_of}
use Rattle.pssm_semantics.specs.Pool.{KnownSignals}
use Rattle.pssm_semantics.specs.Behaviours.{act_of, params_at, outcome_at, first_store, store_after, store_through, store_of}

-- what is so of both is so of either
either : {X : Type 0} (P : X → Type 0) (b : Bool) (x y : X) → P x → P y → P (if b then x else y)
either P true x y p q = p
either P false x y p q = q

mutual
  stmt_size : (stmt : Stmt) (own : ObjectId) (params : Params) (was : Outcome) → length (after_stmt stmt own params was).store ≡ length was.store
  stmt_size (Assign x e) own params was = length-set was.store x (value_of e was.store params)
  stmt_size (Choose' c shape body otherwise) own params was =
      either (λ (o : Outcome). length o.store ≡ length was.store) (truth_of c was.store params) (after_block body own params was)
      (after_otherwise otherwise own params was) (block_size body own params was) (otherwise_size otherwise own params was)
  stmt_size (Send to signal args) own params was = refl
  stmt_size (Mark mark args) own params was = refl

  block_size : {n : _} (block : Row_of-Stmt n) (own : ObjectId) (params : Params) (was : Outcome)
      → length (after_block block own params was).store ≡ length was.store
  block_size end_of-Stmt own params was = refl
  block_size (more_of-Stmt stmt rest) own params was = block_size rest own params (after_stmt stmt own params was) ∙ stmt_size stmt own params was

  otherwise_size : (otherwise : Held-Stmt-Choose-2) (own : ObjectId) (params : Params) (was : Outcome)
      → length (after_otherwise otherwise own params was).store ≡ length was.store
  otherwise_size None' own params was = refl
  otherwise_size (Some' shape block) own params was = block_size block own params was

stmts_size : (stmts : List Stmt) (own : ObjectId) (params : Params) (was : Outcome) → length (after_stmts stmts own params was).store ≡ length was.store
stmts_size [] own params was = refl
stmts_size (stmt ∷ rest) own params was = stmts_size rest own params (after_stmt stmt own params was) ∙ stmt_size stmt own params was

-- A behaviour leaves as many values as there were.
pub outcome_size : (act : Act) (own : ObjectId) (store : Store) (params : Params) → length (outcome_of act own store params).store ≡ length store
outcome_size act own store params = stmts_size act.stmts own params (record { store = store; outs = [] })

module _ (class : Class) (told : KnownSignals) where
  entry_size : (J : List Entry) (e : Entry) (store : Store) → length (outcome_at class told J e store).store ≡ length store
  entry_size J e store = by (act_of class e) where
    by : (found : Option Act)
        → length (option_map_or (λ act. outcome_of act (object_of e) store (params_at told J e)) found (record { store = store; outs = [] })).store ≡ length store
    by None = refl
    by (Some act) = outcome_size act (object_of e) store (params_at told J e)

  after_size : (o : ObjectId) (J : List Entry) (e : Entry) (store : Store) → length (store_after class told o J e store) ≡ length store
  after_size o J e store =
      either (λ (xs : Store). length xs ≡ length store) ((object_of e).0 == o.0) (outcome_at class told J e store).store store (entry_size J e store) refl

  through_size : (o : ObjectId) (before rest : List Entry) (store : Store) → length (store_through class told o before rest store) ≡ length store
  through_size o before [] store = refl
  through_size o before (e ∷ rest) store =
      through_size o (before ++ e ∷ []) rest (store_after class told o before e store) ∙ after_size o before e store

  pub store_size : (J : List Entry) (o : ObjectId) → length (store_of class told J o) ≡ length class.vars
  store_size J o = through_size o [] J (first_store class) ∙ length-map class.vars (λ x. x.first)

-- Of a well-formed setting it has 64 at most.
pub few_values : {setting : Setting} → IsWellFormed setting → (o : ObjectId) (class : Class) → class_of setting o ≡ Some class → (told : KnownSignals) (J : List Entry)
    → length (store_of class told J o) ≤ 64
few_values {setting = setting} b o class is told J =
    let few = (class_of_object setting b o class is).1.program.limits.0 in
    let size = store_size class told J o in
    omega (arith, few, size)
