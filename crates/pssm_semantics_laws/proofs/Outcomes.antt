-- What a behaviour makes: no more outputs than it has statements, as many values as there were, and outputs that the setting knows.
use Rattle.std.proofs.Common.{◌≡◌, ◌≤◌, ◌<◌, ◌+◌, ◌++◌, ℕ, List, [], ◌∷◌, length, All, Bool, true, false, if◌then◌else◌, Option, Some, None, IfSome, unwrap_or, slice_get, refl, sym, ap, subst, ◌∙◌, arith, length-append}
use Rattle.std.specs.Option.{option_and_then, option_map_or}
use Rattle.std.proofs.lemmas.List.{length-map}
use Rattle.std.proofs.lemmas.List.Elements.{All-nil, All-head, All-tail, All-push}
use Rattle.pssm_model.specs.declared.elements.Vertex.{Vertex}
use Rattle.pssm_model.specs.declared.elements.Transition.{Transition}
use Rattle.pssm_model.specs.Forest.{vertex_at, transition_at}
use Rattle.pssm_semantics.specs.declared.entry.ObjectId.{ObjectId}
use Rattle.pssm_semantics.specs.declared.entry.Out.{Out}
use Rattle.pssm_semantics.specs.declared.entry.Out.TheVariants as outs
use Rattle.pssm_semantics.specs.declared.entry.Entry.{Entry}
use Rattle.pssm_semantics.specs.declared.entry.Entry.TheVariants as entries
use Rattle.pssm_semantics.specs.declared.tree.Act.{Act}
use Rattle.pssm_semantics.specs.declared.tree.Stmt.{Stmt, Assign, Choose', Send, Mark, Row_of-Stmt, end_of-Stmt, more_of-Stmt, Held-Stmt-Choose-2, None', Some'}
use Rattle.pssm_semantics.specs.declared.setting.Class.{Class}
use Rattle.pssm_semantics.specs.declared.setting.Outcome.{Outcome}
use Rattle.pssm_semantics.specs.declared.setting.Setting.{Setting}
use Rattle.pssm_semantics.specs.Settings.{HasCount}
use Rattle.pssm_semantics.specs.Journal.{object_of}
use Rattle.pssm_semantics.specs.Fits.{Vocabulary, StmtFits, BlockFits, OtherwiseFits, stmt_count, block_count, otherwise_count, stmts_count, ActFits}
use Rattle.pssm_semantics.specs.Values.{Store, Params, truth_of, value_of, values_of, after_stmt, after_block, after_otherwise, after_stmts, outcome_of}
use Rattle.pssm_semantics.specs.Pool.{KnownSignals, outs_of}
use Rattle.pssm_semantics.specs.Behaviours.{act_at, act_of, params_at, outcome_at, store_of}
use Rattle.pssm_semantics.specs.Known.{IsOutOf}
use Rattle.pssm_semantics.specs.Proper.{CanSend, ClassFits}
use Rattle.pssm_semantics.specs.Rules.{KeepsOuts}
use Rattle.pssm_semantics.specs.Classes.{IsProperClass}
use Rattle.pssm_semantics_laws.proofs.SettingClasses.{all_there}

-- what is so of both is so of either
either : (P : Outcome → Type 0) (b : Bool) (x y : Outcome) → P x → P y → P (if b then x else y)
either P true x y p q = p
either P false x y p q = q

mutual
  stmt_outs : (stmt : Stmt) (own : ObjectId) (params : Params) (was : Outcome)
      → length (after_stmt stmt own params was).outs ≤ length was.outs + stmt_count stmt
  stmt_outs (Assign x e) own params was = omega arith
  stmt_outs (Choose' c shape body otherwise) own params was =
      either (λ o. length o.outs ≤ length was.outs + (1 + block_count body + otherwise_count otherwise)) (truth_of c was.store params)
      (after_block body own params was) (after_otherwise otherwise own params was)
      (omega (arith, block_outs body own params was)) (omega (arith, otherwise_outs otherwise own params was))
  stmt_outs (Send to signal args) own params was =
      omega (arith, length-append was.outs (outs.Send (unwrap_or to own) signal (values_of args was.store params) ∷ []))
  stmt_outs (Mark mark args) own params was = omega (arith, length-append was.outs (outs.Mark mark (values_of args was.store params) ∷ []))

  block_outs : {n : _} (block : Row_of-Stmt n) (own : ObjectId) (params : Params) (was : Outcome)
      → length (after_block block own params was).outs ≤ length was.outs + block_count block
  block_outs end_of-Stmt own params was = omega arith
  block_outs (more_of-Stmt stmt rest) own params was =
      omega (arith, stmt_outs stmt own params was, block_outs rest own params (after_stmt stmt own params was))

  otherwise_outs : (otherwise : Held-Stmt-Choose-2) (own : ObjectId) (params : Params) (was : Outcome)
      → length (after_otherwise otherwise own params was).outs ≤ length was.outs + otherwise_count otherwise
  otherwise_outs None' own params was = omega arith
  otherwise_outs (Some' shape block) own params was = block_outs block own params was

stmts_outs : (stmts : List Stmt) (own : ObjectId) (params : Params) (was : Outcome)
    → length (after_stmts stmts own params was).outs ≤ length was.outs + stmts_count stmts
stmts_outs [] own params was = omega arith
stmts_outs (stmt ∷ rest) own params was =
    omega (arith, stmt_outs stmt own params was, stmts_outs rest own params (after_stmt stmt own params was))

-- A behaviour makes no more outputs than it has statements.
pub outcome_of-few : (act : Act) (own : ObjectId) (store : Store) (params : Params) → length (outcome_of act own store params).outs ≤ stmts_count act.stmts
outcome_of-few act own store params = omega (arith, stmts_outs act.stmts own params (record { store = store; outs = [] }))

-- what the sends and marks of a class that fits in a setting make is of the setting
module _ (setting : Setting) (class : Class) (own : ObjectId) (there : own.0 < length setting.objects) where
  abbrev words : Vocabulary
  words = record { vars = length class.vars; marks = length class.program.marks; Sends = CanSend setting }

  abbrev AreKnown : Outcome → Type 0
  AreKnown o = All (IsOutOf setting class) o.outs

  sent_there : (to : Option ObjectId) → IfSome to (λ o. o.0 < length setting.objects) → (unwrap_or to own).0 < length setting.objects
  sent_there None h = there
  sent_there (Some o) h = h

  mutual
    stmt_known : (stmt : Stmt) (params : Params) (was : Outcome) → StmtFits words stmt → AreKnown was → AreKnown (after_stmt stmt own params was)
    stmt_known (Assign x e) params was fits all = all
    stmt_known (Choose' c shape body otherwise) params was fits all =
        either AreKnown (truth_of c was.store params) (after_block body own params was) (after_otherwise otherwise own params was)
        (block_known body params was fits.1 all) (otherwise_known otherwise params was fits.2 all)
    stmt_known (Send to signal args) params was fits all =
        All-push (IsOutOf setting class) was.outs (outs.Send (unwrap_or to own) signal (values_of args was.store params)) all
        (sent_there to fits.0.0, subst (HasCount setting signal) (sym (length-map args (λ e. value_of e was.store params))) fits.0.1)
    stmt_known (Mark mark args) params was fits all =
        All-push (IsOutOf setting class) was.outs (outs.Mark mark (values_of args was.store params)) all fits.0

    block_known : {n : _} (block : Row_of-Stmt n) (params : Params) (was : Outcome) → BlockFits words block → AreKnown was
        → AreKnown (after_block block own params was)
    block_known end_of-Stmt params was fits all = all
    block_known (more_of-Stmt stmt rest) params was fits all =
        block_known rest params (after_stmt stmt own params was) fits.1 (stmt_known stmt params was fits.0 all)

    otherwise_known : (otherwise : Held-Stmt-Choose-2) (params : Params) (was : Outcome) → OtherwiseFits words otherwise → AreKnown was
        → AreKnown (after_otherwise otherwise own params was)
    otherwise_known None' params was fits all = all
    otherwise_known (Some' shape block) params was fits all = block_known block params was fits all

  stmts_known : (stmts : List Stmt) (params : Params) (was : Outcome) → All (StmtFits words) stmts → AreKnown was → AreKnown (after_stmts stmts own params was)
  stmts_known [] params was fits all = all
  stmts_known (stmt ∷ rest) params was fits all =
      stmts_known rest params (after_stmt stmt own params was) (All-tail (StmtFits words) stmt rest fits)
      (stmt_known stmt params was (All-head (StmtFits words) stmt rest fits) all)

  pub outcome_of-known : (act : Act) (store : Store) (params : Params) → ActFits words act → AreKnown (outcome_of act own store params)
  outcome_of-known act store params fits = stmts_known act.stmts params (record { store = store; outs = [] }) fits.0 (All-nil (IsOutOf setting class))

-- the behaviour of an entry is one of the class
and_then_some : {X Y : Type 0} (f : X → Option Y) (o : Option X) (y : Y) → option_and_then f o ≡ Some y → (x : X) × (o ≡ Some x) × (f x ≡ Some y)
and_then_some f None y e = absurd (cc)
and_then_some f (Some x) y e = (x, refl, e)

pub act_found : (c : Class) (e : Entry) (a : Act) → act_of c e ≡ Some a → (n : ℕ) × (slice_get c.program.acts n ≡ Some a)
act_found c (entries.Exit o s outs) a h =
    let found = and_then_some (λ (x : Vertex). act_at c x.exit) (vertex_at c.machine s) a h in (found.0.exit.0, found.2)
act_found c (entries.Enter o s outs) a h =
    let found = and_then_some (λ (x : Vertex). act_at c x.entry) (vertex_at c.machine s) a h in (found.0.entry.0, found.2)
act_found c (entries.Effect o t outs) a h =
    let found = and_then_some (λ (x : Transition). act_at c x.effect) (transition_at c.machine t) a h in (found.0.effect.0, found.2)
act_found c (entries.DoStep o s k outs) a h =
    let found = and_then_some (act_at c) (option_and_then (λ (x : Vertex). slice_get x.steps k) (vertex_at c.machine s)) a h in (found.0.0, found.2)
act_found c (entries.Post o signal args) a h = absurd (let clash : None ≡ Some a = h in cc)
act_found c (entries.Start o) a h = absurd (let clash : None ≡ Some a = h in cc)
act_found c (entries.Take o n firing) a h = absurd (let clash : None ≡ Some a = h in cc)
act_found c (entries.Done o s firing) a h = absurd (let clash : None ≡ Some a = h in cc)
act_found c (entries.Opened o r mode how) a h = absurd (let clash : None ≡ Some a = h in cc)
act_found c (entries.Pick o s route) a h = absurd (let clash : None ≡ Some a = h in cc)

-- what is so of no outputs and of those of each behaviour of the class is so of those of an entry that keeps the rule of outputs
module _ (class : Class) (o : ObjectId) (P : List Out → Type 0) (none : P [])
    (each : (act : Act) (n : ℕ) (store : Store) (params : Params) → slice_get class.program.acts n ≡ Some act → P (outcome_of act o store params).outs) where
  by_act : (found : Option Act) (store : Store) (params : Params) → ((a : Act) → found ≡ Some a → (n : ℕ) × (slice_get class.program.acts n ≡ Some a))
      → P (option_map_or (λ act. outcome_of act o store params) found (record { store = store; outs = [] })).outs
  by_act None store params there = none
  by_act (Some act) store params there = let at = there act refl in each act at.0 store params at.1

  outs_so : (told : KnownSignals) (J : List Entry) (e : Entry) → object_of e ≡ o → KeepsOuts class told J e → P (outs_of e)
  outs_so told J e own keeps =
      let store = store_of class told J (object_of e) in
      let params = params_at told J e in
      let made = subst (λ q. P (option_map_or (λ act. outcome_of act q store params) (act_of class e) (record { store = store; outs = [] })).outs) (sym own)
      (by_act (act_of class e) store params (act_found class e)) in
      subst P (sym keeps) made

-- An entry that keeps the rule of outputs has at most 64.
pub few_outs : (class : Class) → IsProperClass class → (told : KnownSignals) (J : List Entry) (e : Entry) → KeepsOuts class told J e → length (outs_of e) ≤ 64
few_outs class proper told J e =
    let few = outs_so class (object_of e) (λ xs. length xs ≤ 64) (omega arith)
    (λ act n store params there.
    let fits = all_there (ActFits (record { vars = length class.vars; marks = length class.program.marks; Sends = λ to signal k. k ≤ 8 })) class.program.acts n act
    proper.acts there in
    omega (arith, outcome_of-few act (object_of e) store params, fits.1)) in
    few told J e refl

-- All of them are of the setting, where the object is one of the setting and the class fits in it.
pub known_outs : (setting : Setting) (class : Class) → ClassFits setting class → (o : ObjectId) → o.0 < length setting.objects → (told : KnownSignals) (J : List Entry)
    (e : Entry) → object_of e ≡ o → KeepsOuts class told J e → All (IsOutOf setting class) (outs_of e)
known_outs setting class fits o there =
    outs_so class o (All (IsOutOf setting class)) (All-nil (IsOutOf setting class))
    (λ act n store params at.
    outcome_of-known setting class o there act store params (all_there (ActFits (words setting class o there)) class.program.acts n act fits.program.acts at))
