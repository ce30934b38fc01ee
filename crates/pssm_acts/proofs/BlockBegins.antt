-- Whatever has been read of behaviours begins such, also with a token that is refused for another reason than its place.
use Rattle.std.proofs.Common.{◌≡◌, ◌⊎◌, inl, inr, ◌-◌, ℕ, suc, Bool, true, false, List, [], ◌∷◌, ◌++◌, length, Option, Some, None, Ok, Err, refl, sym, ap, ◌∙◌, subst, append_assoc}
use Rattle.std.proofs.lemmas.List.{append-nil}
use Rattle.pssm_acts.specs.declared.act_fault.ActFault.{ActFault}
use Rattle.pssm_acts.specs.declared.act_fault.ActFault.TheVariants.{Syntax}
use Rattle.pssm_acts.specs.declared.acts_reader.ActsReader.{ActsReader}
use Rattle.pssm_acts.specs.declared.read_blocks.Blocks.{Blocks}
use Rattle.pssm_acts.specs.declared.read_blocks.OpenIf.{OpenIf}
use Rattle.pssm_acts.specs.declared.acts_reader.Turn.{Turn}
use Rattle.pssm_acts.specs.declared.acts_reader.Turn.TheVariants.{Within, Condition, Chosen, Else}
use Rattle.pssm_acts.specs.declared.acts_reader.Turn.TheVariants as turns
use Rattle.pssm_acts.specs.declared.guard_reader.GuardReader.{GuardReader}
use Rattle.pssm_semantics.specs.declared.setting.Names.{Names}
use Rattle.pssm_acts.specs.declared.token.Kind.{Kind}
use Rattle.pssm_acts.specs.declared.token.Kind.TheVariants as kinds
use Rattle.pssm_semantics.specs.declared.tree.Act.{Act}
use Rattle.pssm_semantics.specs.declared.tree.Cond.{Cond}
use Rattle.pssm_semantics.specs.declared.tree.Stmt.{Stmt}
use Rattle.pssm_acts.specs.Tokens.{Token}
use Rattle.pssm_acts.specs.inner.ExprReading.{and_then}
use Rattle.pssm_acts.specs.inner.GuardReading.{guard_step, guard_value}
use Rattle.pssm_acts.specs.inner.PhraseReading.{phrase_begun, phrase_step}
use Rattle.pssm_acts.specs.inner.ActReading.{at_turn, without_else, phrased, block_opened, block_closed_in, block_closed, next_act_in, next_act, begun_at, after_choice, else_opened, condition_read, phrase_read, step_taken, acts_step}
use Rattle.pssm_acts.specs.Grammar.{Either}
use Rattle.pssm_acts.specs.Shapes.{GuardShape, truth, lone_unit, lone_conjunction, PhraseShape, StmtsShape, nothing, phrase, choice, alternative, StepsShape, first, step, Begins}
use Rattle.pssm_acts.proofs.AnswerLaws.{never_refused}
use Rattle.pssm_acts.proofs.ExprHeld.{token_as}
use Rattle.pssm_acts.proofs.GuardHeld.{held_whole}
use Rattle.pssm_acts.proofs.BlockHeld.{ChosenHeld, ElseHeld, IfHeld, OpenHeld, BlocksHeld, blocks_whole}
use Rattle.pssm_acts.proofs.BlockCounts.{IsLone}
use Rattle.pssm_acts.proofs.StepsHeld.{EarlierHeld, BehaviourHeld, StateHeld, ReaderHeld}
use Rattle.pssm_acts.proofs.ActsHeld.{no_else}
use Rattle.pssm_acts.proofs.EndLaws.{guard_ends}
use Rattle.pssm_acts.proofs.Fares.{IsOther, place_no_other}
use Rattle.pssm_acts.proofs.ShapeLaws.{ShapeOf, guard_shape, stmts_shape, steps_shape, begins_shorter, begins_same}
use Rattle.pssm_acts.proofs.GuardBegins.{guard_begins, guard_other, failed_first}
use Rattle.pssm_acts.proofs.PhraseBegins.{sign, assigns_begins, send_begins, mark_begins, phrase_begins, phrase_other}

-- ---- blocks

-- the tokens of an `if` up to its open block, with that block and the brace behind it
if_shape : (names : Names) (noted : List (List ℕ)) (l : ℕ) (c : Cond) (body : Option (List Stmt)) (us vs ts : List Token) (marks : List (List ℕ)) → IfHeld names noted l c body vs marks → StmtsShape us → StmtsShape ts
    → StmtsShape (us ++ (vs ++ (ts ++ sign kinds.CloseBrace ∷ [])))
if_shape names noted l c None us vs ts marks h before inner =
    let head = h.0 in
    let same : vs ++ (ts ++ sign kinds.CloseBrace ∷ []) ≡ head.if' ∷ (head.cs ++ head.opening ∷ (ts ++ sign kinds.CloseBrace ∷ [])) = ap (λ x. x ++ (ts ++ sign kinds.CloseBrace ∷ [])) head.whole ∙ ap (λ x. head.if' ∷ x) (append_assoc head.cs (head.opening ∷ []) (ts ++ sign kinds.CloseBrace ∷ [])) in
    subst (λ x. StmtsShape (us ++ x)) (sym same) (choice head.if' head.opening (sign kinds.CloseBrace) before head.is (guard_shape head.spelled) head.opens inner refl)
if_shape names noted l c (Some body) us vs ts marks h before inner =
    let e = h.first in
    let chosen = e.chosen in
    let head = chosen.head in
    let tail = ts ++ sign kinds.CloseBrace ∷ [] in
    let tokens = head.if' ∷ (head.cs ++ head.opening ∷ (chosen.us ++ chosen.closing ∷ e.else' ∷ h.opening ∷ tail)) in
    let whole : vs ≡ (((head.if' ∷ (head.cs ++ head.opening ∷ [])) ++ (chosen.us ++ chosen.closing ∷ [])) ++ e.else' ∷ []) ++ h.opening ∷ [] =
    h.whole ∙ ap (λ x. x ++ h.opening ∷ []) (e.whole ∙ ap (λ x. x ++ e.else' ∷ []) (chosen.whole ∙ ap (λ x. x ++ (chosen.us ++ chosen.closing ∷ [])) head.whole)) in
    let same : vs ++ tail ≡ tokens = ap (λ x. x ++ tail) whole ∙ simp append_assoc in
    subst (λ x. StmtsShape (us ++ x)) (sym same)
    (alternative head.if' head.opening chosen.closing e.else' h.opening (sign kinds.CloseBrace) before head.is (guard_shape head.spelled) head.opens (stmts_shape chosen.spelled) chosen.closes e.is h.opens inner refl)

blocks_close : (names : Names) (start : List (List ℕ)) (outer : List OpenIf) (l : ℕ) (front ts : List Token) (marks : List (List ℕ)) → OpenHeld names start outer l front marks → StmtsShape ts → Begins StmtsShape (front ++ ts)
blocks_close names start [] l front ts marks h shape = record { more = []; shape = subst StmtsShape (sym (append-nil (front ++ ts) ∙ ap (λ x. x ++ ts) h.1)) shape }
blocks_close names start (open' ∷ outer) l front ts marks h shape =
    let brace = sign kinds.CloseBrace in
    let tokens = h.2 ++ (h.4 ++ (ts ++ brace ∷ [])) in
    let inner : StmtsShape tokens = if_shape names h.3 l open'.condition open'.body h.2 h.4 ts marks h.7 (stmts_shape h.6) shape in
    let rest : Begins StmtsShape (h.0 ++ tokens) = blocks_close names start outer (suc l) h.0 tokens h.1 h.5 inner in
    let same : (h.0 ++ tokens) ++ rest.more ≡ (front ++ ts) ++ (brace ∷ rest.more) = sym (ap (λ x. (x ++ ts) ++ (brace ∷ rest.more)) h.8 ∙ simp append_assoc) in
    record { more = brace ∷ rest.more; shape = subst StmtsShape same rest.shape }

-- The tokens go on with statements, with some tokens behind them.
record Extends (e : List Token) : Type 0 where
  more : List Token
  extends : (us : List Token) → StmtsShape us → StmtsShape (us ++ (e ++ more))

block_begins : (names : Names) (start : List (List ℕ)) (outer : List OpenIf) (block : List Stmt) (xs e : List Token) (noted : List (List ℕ)) → BlocksHeld names start outer block xs noted → Extends e → Begins StmtsShape (xs ++ e)
block_begins names start outer block xs e noted h extends =
    let tokens = h.us ++ (e ++ extends.more) in
    let all : Begins StmtsShape (h.front ++ tokens) = blocks_close names start outer h.l h.front tokens h.start h.outside (extends.extends h.us (stmts_shape h.here)) in
    let same : h.front ++ tokens ≡ (xs ++ e) ++ extends.more = sym (ap (λ x. (x ++ e) ++ extends.more) h.whole ∙ simp append_assoc) in
    begins_shorter (xs ++ e) extends.more (begins_same same all)

-- ---- the statement that has begun

phrase_extends : (e : List Token) → Begins PhraseShape e → Extends e
phrase_extends e b = record { more = b.more; extends = λ us shape. phrase shape b.shape }

if_extends : (if' : Token) (cs : List Token) → if'.kind ≡ kinds.If → Begins (GuardShape Either) cs → Extends (if' ∷ cs)
if_extends if' cs is b =
    let tail = sign kinds.OpenBrace ∷ sign kinds.CloseBrace ∷ [] in
    record {
      more = b.more ++ tail;
      extends = λ us shape. subst (λ x. StmtsShape (us ++ if' ∷ x)) (append_assoc cs b.more tail) (choice if' (sign kinds.OpenBrace) (sign kinds.CloseBrace) shape is b.shape refl nothing refl);
    }

-- the brace that opens the first block
first_extends : (if' t : Token) (cs : List Token) → if'.kind ≡ kinds.If → GuardShape Either cs → t.kind ≡ kinds.OpenBrace → Extends (if' ∷ (cs ++ t ∷ []))
first_extends if' t cs is guard opens = record {
  more = sign kinds.CloseBrace ∷ [];
  extends = λ us shape. subst (λ x. StmtsShape (us ++ if' ∷ x)) (sym (append_assoc cs (t ∷ []) (sign kinds.CloseBrace ∷ []))) (choice if' t (sign kinds.CloseBrace) shape is guard opens nothing refl);
}

chosen_extends : (names : Names) (noted : List (List ℕ)) (l : ℕ) (c : Cond) (body : List Stmt) (vs : List Token) (marks : List (List ℕ)) → ChosenHeld names noted l c body vs marks → Extends vs
chosen_extends names noted l c body vs marks h =
    let head = h.head in
    let tokens = head.if' ∷ (head.cs ++ head.opening ∷ (h.us ++ h.closing ∷ [])) in
    let same : vs ≡ tokens = h.whole ∙ ap (λ x. x ++ (h.us ++ h.closing ∷ [])) head.whole ∙ ap (λ x. head.if' ∷ x) (append_assoc head.cs (head.opening ∷ []) (h.us ++ h.closing ∷ [])) in
    record {
      more = [];
      extends = λ us shape. subst (λ x. StmtsShape (us ++ x)) (sym (append-nil vs ∙ same)) (choice head.if' head.opening h.closing shape head.is (guard_shape head.spelled) head.opens (stmts_shape h.spelled) h.closes);
    }

-- the brace that opens the second block
other_extends : (names : Names) (noted : List (List ℕ)) (l : ℕ) (c : Cond) (body : List Stmt) (vs : List Token) (t : Token) (marks : List (List ℕ)) → ElseHeld names noted l c body vs marks → t.kind ≡ kinds.OpenBrace → Extends (vs ++ t ∷ [])
other_extends names noted l c body vs t marks e opens =
    let chosen = e.chosen in
    let head = chosen.head in
    let brace = sign kinds.CloseBrace in
    let tokens = head.if' ∷ (head.cs ++ head.opening ∷ (chosen.us ++ chosen.closing ∷ e.else' ∷ t ∷ ([] ++ brace ∷ []))) in
    let whole : vs ≡ ((head.if' ∷ (head.cs ++ head.opening ∷ [])) ++ (chosen.us ++ chosen.closing ∷ [])) ++ e.else' ∷ [] =
    e.whole ∙ ap (λ x. x ++ e.else' ∷ []) (chosen.whole ∙ ap (λ x. x ++ (chosen.us ++ chosen.closing ∷ [])) head.whole) in
    let same : (vs ++ t ∷ []) ++ brace ∷ [] ≡ tokens = ap (λ x. (x ++ t ∷ []) ++ brace ∷ []) whole ∙ simp append_assoc in
    record {
      more = brace ∷ [];
      extends = λ us shape. subst (λ x. StmtsShape (us ++ x)) (sym same)
          (alternative head.if' head.opening chosen.closing e.else' t brace shape head.is (guard_shape head.spelled) head.opens (stmts_shape chosen.spelled) chosen.closes e.is opens nothing refl);
    }

-- ---- behaviours and steps

joined : (names : Names) (stepped : Bool) (start began : List (List ℕ)) (earlier : List Act) (ts us : List Token) → EarlierHeld names start earlier ts began → IsLone stepped earlier → StmtsShape us → ShapeOf stepped (ts ++ us)
joined names true start began [] ts us h lone shape = subst (λ x. StepsShape (x ++ us)) (sym h.0) (first shape)
joined names true start began (act ∷ acts) ts us h lone shape =
    let same : ts ++ us ≡ h.front ++ h.step' ∷ h.semicolon ∷ us = ap (λ x. x ++ us) h.whole ∙ append_assoc h.front (h.step' ∷ h.semicolon ∷ []) us in
    subst StepsShape (sym same) (step h.step' h.semicolon (steps_shape h.spelled) h.is h.ends shape)
joined names false start began [] ts us h lone shape = subst (λ x. StmtsShape (x ++ us)) (sym h.0) shape
joined names false start began (act ∷ acts) ts us h lone shape = absurd cc

module _ (names : Names) (stepped : Bool) (start : List (List ℕ)) where
  -- behaviours up to a statement that goes on so
  behaviour_begins : (blocks : Blocks) (turn : Turn) (ts e : List Token) (marks : List (List ℕ)) (h : BehaviourHeld names stepped start blocks turn ts marks) → Extends (h.vs ++ e) → Begins (ShapeOf stepped) (ts ++ e)
  behaviour_begins blocks turn ts e marks h extends =
      let b : Begins StmtsShape (h.xs ++ (h.vs ++ e)) = block_begins names h.began blocks.outer blocks.stmts h.xs (h.vs ++ e) h.noted h.block extends in
      let same : h.steps ++ ((h.xs ++ (h.vs ++ e)) ++ b.more) ≡ (ts ++ e) ++ b.more = sym (ap (λ x. (x ++ e) ++ b.more) h.whole ∙ simp append_assoc) in
      record { more = b.more; shape = subst (λ x. ShapeOf stepped x) same (joined names stepped start h.began blocks.earlier h.steps ((h.xs ++ (h.vs ++ e)) ++ b.more) h.done h.counts.lone b.shape) }

  -- the same where nothing follows
  behaviour_alone : (blocks : Blocks) (turn : Turn) (ts : List Token) (marks : List (List ℕ)) (h : BehaviourHeld names stepped start blocks turn ts marks) → Extends h.vs → Begins (ShapeOf stepped) ts
  behaviour_alone blocks turn ts marks h extends = begins_shorter ts [] (behaviour_begins blocks turn ts [] marks h (subst Extends (sym (append-nil h.vs)) extends))

  state_begins : (blocks : Blocks) (turn : Turn) (ts : List Token) (marks : List (List ℕ)) → StateHeld names stepped start blocks turn ts marks → Begins (ShapeOf stepped) ts
  state_begins blocks turns.Begins ts marks h =
      behaviour_alone blocks turns.Begins ts marks h (subst Extends (sym h.here.0) (record { more = []; extends = λ us shape. subst StmtsShape (sym (append-nil us)) shape }))
  state_begins blocks (Within phrase') ts marks h = behaviour_alone blocks (Within phrase') ts marks h (phrase_extends h.vs (phrase_begins names h.noted (16 - length blocks.outer) phrase' h.vs marks h.here))
  state_begins blocks (Condition guard) ts marks h =
      let w = h.here.0 in
      behaviour_alone blocks (Condition guard) ts marks h (subst Extends (sym w.whole) (if_extends w.if' w.cs w.is (guard_begins names (16 - length blocks.outer) guard w.cs w.held)))
  state_begins blocks (Chosen c body) ts marks h = behaviour_alone blocks (Chosen c body) ts marks h (chosen_extends names h.noted (15 - length blocks.outer) c body h.vs marks h.here.1)
  state_begins blocks (Else c body) ts marks h =
      begins_shorter ts (sign kinds.OpenBrace ∷ [])
      (behaviour_begins blocks (Else c body) ts (sign kinds.OpenBrace ∷ []) marks h (other_extends names h.noted (15 - length blocks.outer) c body h.vs (sign kinds.OpenBrace) marks h.here.1 refl))
  state_begins blocks turns.Step ts marks h =
      let semicolon = sign kinds.Semicolon in
      let all : ShapeOf stepped ((ts ++ semicolon ∷ []) ++ []) = joined names stepped start marks blocks.earlier (ts ++ semicolon ∷ []) [] (h.done semicolon refl) h.counts.lone nothing in
      record { more = semicolon ∷ []; shape = subst (λ x. ShapeOf stepped x) (append-nil (ts ++ semicolon ∷ [])) all }

  -- Whatever has been read begins a text of the shape.
  pub reader_begins : (reader : ActsReader) (ts : List Token) (marks : List (List ℕ)) → ReaderHeld names stepped start reader ts marks → Begins (ShapeOf stepped) ts
  reader_begins reader ts marks h = state_begins reader.blocks reader.turn ts marks h

  -- ---- a token that is refused

  -- a token that goes on with statements
  statement_begins : (blocks : Blocks) (ts : List Token) (t : Token) (marks : List (List ℕ)) → Extends (t ∷ []) → BehaviourHeld names stepped start blocks turns.Begins ts marks → Begins (ShapeOf stepped) (ts ++ t ∷ [])
  statement_begins blocks ts t marks extends h = behaviour_begins blocks turns.Begins ts (t ∷ []) marks h (subst (λ x. Extends (x ++ t ∷ [])) (sym h.here.0) extends)

  -- `step` behind a behaviour
  step_other : (steps : Bool) (blocks : Blocks) (outer : List OpenIf) (at : ℕ) (word : List ℕ) (ts : List Token) (marks : List (List ℕ)) (fault : ActFault) → steps ≡ stepped → outer ≡ blocks.outer → next_act_in steps outer blocks at ≡ Err fault → IsOther fault
      → BehaviourHeld names stepped start blocks turns.Begins ts marks → Begins (ShapeOf stepped) (ts ++ token_as at kinds.Step word ∷ [])
  step_other true blocks [] at word ts marks fault all bare e other h =
      let t = token_as at kinds.Step word in
      let semicolon = sign kinds.Semicolon in
      let block : BlocksHeld names h.began [] blocks.stmts h.xs h.noted = subst (λ o. BlocksHeld names h.began o blocks.stmts h.xs h.noted) (sym bare) h.block in
      let last : StmtsShape h.xs = stmts_shape (blocks_whole names h.began blocks.stmts h.xs h.noted block) in
      let lone : IsLone true blocks.earlier = tt in
      let before : StepsShape (h.steps ++ h.xs) = joined names true start h.began blocks.earlier h.steps h.xs h.done lone last in
      let whole : StepsShape ((h.steps ++ h.xs) ++ t ∷ semicolon ∷ []) = step t semicolon before refl refl nothing in
      let same : (h.steps ++ h.xs) ++ t ∷ semicolon ∷ [] ≡ (ts ++ t ∷ []) ++ semicolon ∷ [] =
      sym (append_assoc ts (t ∷ []) (semicolon ∷ []) ∙ ap (λ x. x ++ t ∷ semicolon ∷ []) (h.whole ∙ ap (λ x. h.steps ++ (h.xs ++ x)) h.here.0 ∙ ap (λ x. h.steps ++ x) (append-nil h.xs))) in
      record { more = semicolon ∷ []; shape = subst (λ b. ShapeOf b ((ts ++ t ∷ []) ++ semicolon ∷ [])) all (subst StepsShape same whole) }
  step_other true blocks (open' ∷ outer) at word ts marks fault all bare e other h = absurd (place_no_other at fault e other)
  step_other false blocks outer at word ts marks fault all bare e other h = absurd (place_no_other at fault e other)

  brace_other : (outer : List OpenIf) (blocks : Blocks) (at : ℕ) (fault : ActFault) → block_closed_in outer blocks at ≡ Err fault → IsOther fault → ⊥
  brace_other [] blocks at fault e other = place_no_other at fault e other
  brace_other (open' ∷ outer) blocks at fault e other = absurd (never_refused _ fault e)

  begun_other : (blocks : Blocks) (ts : List Token) (kind : Kind) (at : ℕ) (word : List ℕ) (marks : List (List ℕ)) (fault : ActFault) → begun_at names stepped blocks (token_as at kind word) ≡ Err fault → IsOther fault
      → BehaviourHeld names stepped start blocks turns.Begins ts marks → Begins (ShapeOf stepped) (ts ++ token_as at kind word ∷ [])
  unfolding begun_at block_closed next_act phrase_begun
  begun_other blocks ts kinds.CloseBrace at word marks fault e other h = absurd (brace_other blocks.outer blocks at fault e other)
  begun_other blocks ts kinds.Step at word marks fault e other h = step_other stepped blocks blocks.outer at word ts marks fault refl refl e other h
  begun_other blocks ts kinds.If at word marks fault e other h =
      let t = token_as at kinds.If word in
      let guard : GuardShape Either (sign kinds.True ∷ []) = lone_conjunction (lone_unit (truth refl)) in
      statement_begins blocks ts t marks (if_extends t [] refl (record { more = sign kinds.True ∷ []; shape = guard })) h
  begun_other blocks ts kinds.Name at word marks fault e other h = let t = token_as at kinds.Name word in statement_begins blocks ts t marks (phrase_extends (t ∷ []) (assigns_begins t refl)) h
  begun_other blocks ts kinds.Send at word marks fault e other h = let t = token_as at kinds.Send word in statement_begins blocks ts t marks (phrase_extends (t ∷ []) (send_begins t refl)) h
  begun_other blocks ts kinds.Mark at word marks fault e other h = let t = token_as at kinds.Mark word in statement_begins blocks ts t marks (phrase_extends (t ∷ []) (mark_begins t refl)) h
  begun_other blocks ts kind at word marks fault e other h = absurd (place_no_other at fault e other)

  condition_other : (blocks : Blocks) (guard : GuardReader) (ts : List Token) (kind : Kind) (at : ℕ) (word : List ℕ) (marks : List (List ℕ)) (fault : ActFault) → condition_read names blocks guard (token_as at kind word) ≡ Err fault → IsOther fault
      → BehaviourHeld names stepped start blocks (Condition guard) ts marks → Begins (ShapeOf stepped) (ts ++ token_as at kind word ∷ [])
  unfolding condition_read
  condition_other blocks guard ts kinds.OpenBrace at word marks fault e other h = go (guard_ends guard) where
    t : Token
    t = token_as at kinds.OpenBrace word

    go : (((c : Cond) × ((k : ℕ) → guard_value guard k ≡ Ok c)) ⊎ ((k : ℕ) → guard_value guard k ≡ Err (Syntax k))) → Begins (ShapeOf stepped) (ts ++ t ∷ [])
    go (inl ends) =
        let w = h.here.0 in
        let shape : GuardShape Either w.cs = guard_shape (held_whole names (16 - length blocks.outer) guard at w.cs ends.0 (ends.1 at) w.held) in
        behaviour_begins blocks (Condition guard) ts (t ∷ []) marks h (subst (λ x. Extends (x ++ t ∷ [])) (sym w.whole) (first_extends w.if' t w.cs w.is shape refl))
    go (inr stops) = let is = ap (λ x. and_then x (λ c. block_opened blocks c None at)) (stops at) in let same : Syntax at ≡ fault = cc in absurd (subst IsOther (sym same) other)
  condition_other blocks guard ts kind at word marks fault e other h =
      let t = token_as at kind word in
      let w = h.here.0 in
      let inner = failed_first (λ more. at_turn blocks (Condition more)) (guard_step names (16 - length blocks.outer) guard t) fault e in
      behaviour_begins blocks (Condition guard) ts (t ∷ []) marks h (subst (λ x. Extends (x ++ t ∷ [])) (sym w.whole) (if_extends w.if' (w.cs ++ t ∷ []) w.is (guard_other names (16 - length blocks.outer) guard w.cs t fault inner other w.held)))

  choice_other : (blocks : Blocks) (c : Cond) (body : List Stmt) (ts : List Token) (kind : Kind) (at : ℕ) (word : List ℕ) (marks : List (List ℕ)) (fault : ActFault) → after_choice names stepped blocks c body (token_as at kind word) ≡ Err fault → IsOther fault
      → BehaviourHeld names stepped start blocks (Chosen c body) ts marks → Begins (ShapeOf stepped) (ts ++ token_as at kind word ∷ [])
  unfolding after_choice
  choice_other blocks c body ts kinds.Else at word marks fault e other h = absurd (never_refused _ fault e)
  choice_other blocks c body ts kind at word marks fault e other h = begun_other (without_else blocks c body) ts kind at word marks fault e other (no_else names stepped start blocks c body ts marks h)

  else_other : (blocks : Blocks) (c : Cond) (body : List Stmt) (ts : List Token) (kind : Kind) (at : ℕ) (word : List ℕ) (marks : List (List ℕ)) (fault : ActFault) → else_opened blocks c body (token_as at kind word) ≡ Err fault → IsOther fault
      → BehaviourHeld names stepped start blocks (Else c body) ts marks → Begins (ShapeOf stepped) (ts ++ token_as at kind word ∷ [])
  unfolding else_opened
  else_other blocks c body ts kinds.OpenBrace at word marks fault e other h =
      let t = token_as at kinds.OpenBrace word in
      behaviour_begins blocks (Else c body) ts (t ∷ []) marks h (other_extends names h.noted (15 - length blocks.outer) c body h.vs t marks h.here.1 refl)
  else_other blocks c body ts kind at word marks fault e other h = absurd (place_no_other at fault e other)

  taken_other : (blocks : Blocks) (kind : Kind) (at : ℕ) (word : List ℕ) (fault : ActFault) → step_taken blocks (token_as at kind word) ≡ Err fault → IsOther fault → ⊥
  unfolding step_taken
  taken_other blocks kinds.Semicolon at word fault e other = absurd (never_refused _ fault e)
  taken_other blocks kind at word fault e other = place_no_other at fault e other

  turn_other : (blocks : Blocks) (turn : Turn) (ts : List Token) (t : Token) (marks : List (List ℕ)) (fault : ActFault) → acts_step names stepped marks (at_turn blocks turn) t ≡ Err fault → IsOther fault
      → StateHeld names stepped start blocks turn ts marks → Begins (ShapeOf stepped) (ts ++ t ∷ [])
  unfolding acts_step phrase_read
  turn_other blocks turns.Begins ts t marks fault e other h = begun_other blocks ts t.kind t.at t.word marks fault (failed_first (λ x. (x, marks)) (begun_at names stepped blocks t) fault e) other h
  turn_other blocks (Within phrase') ts t marks fault e other h =
      let inner = failed_first (λ next. (phrased blocks next.0, next.1)) (phrase_step names (16 - length blocks.outer) marks phrase' t) fault e in
      behaviour_begins blocks (Within phrase') ts (t ∷ []) marks h (phrase_extends (h.vs ++ t ∷ []) (phrase_other names h.noted (16 - length blocks.outer) marks phrase' h.vs t fault inner other h.here))
  turn_other blocks (Condition guard) ts t marks fault e other h = condition_other blocks guard ts t.kind t.at t.word marks fault (failed_first (λ x. (x, marks)) (condition_read names blocks guard t) fault e) other h
  turn_other blocks (Chosen c body) ts t marks fault e other h = choice_other blocks c body ts t.kind t.at t.word marks fault (failed_first (λ x. (x, marks)) (after_choice names stepped blocks c body t) fault e) other h
  turn_other blocks (Else c body) ts t marks fault e other h = else_other blocks c body ts t.kind t.at t.word marks fault (failed_first (λ x. (x, marks)) (else_opened blocks c body t) fault e) other h
  turn_other blocks turns.Step ts t marks fault e other h = absurd (taken_other blocks t.kind t.at t.word fault (failed_first (λ x. (x, marks)) (step_taken blocks t) fault e) other)

  -- With a token that is refused for another reason than its place the tokens can go on.
  pub reader_other : (reader : ActsReader) (ts : List Token) (t : Token) (marks : List (List ℕ)) (fault : ActFault) → acts_step names stepped marks reader t ≡ Err fault → IsOther fault → ReaderHeld names stepped start reader ts marks
      → Begins (ShapeOf stepped) (ts ++ t ∷ [])
  reader_other reader ts t marks fault e other h = turn_other reader.blocks reader.turn ts t marks fault e other h
