-- What is read as a guard is spelled so: what a reader holds, the tokens before it spell.
use Rattle.std.proofs.Common.{◌≡◌, ◌+◌, ◌-◌, ℕ, suc, zero, ltb, List, [], ◌∷◌, ◌++◌, length, Option, Some, None, Ok, refl, sym, ap, ◌∙◌, subst, append_assoc, add-one, arith}
use Rattle.std.proofs.lemmas.List.{append-nil}
use Rattle.std.proofs.lemmas.Bool.{ltb-true}
use Rattle.pssm_acts.specs.declared.act_fault.ActFault.TheVariants.{TooLong}
use Rattle.pssm_semantics.specs.declared.setting.Names.{Names}
use Rattle.pssm_acts.specs.declared.token.Kind.{Kind}
use Rattle.pssm_acts.specs.declared.token.Kind.TheVariants as kinds
use Rattle.pssm_semantics.specs.declared.tree.Expr.{Expr}
use Rattle.pssm_semantics.specs.declared.tree.Rel.{Rel}
use Rattle.pssm_semantics.specs.declared.tree.Cond.{Cond}
use Rattle.pssm_semantics.specs.declared.tree.Cond.TheVariants.{True, False, Compare}
use Rattle.pssm_acts.specs.declared.expr_reader.ExprReader.{ExprReader}
use Rattle.pssm_acts.specs.declared.guard_reader.Before.{Before}
use Rattle.pssm_acts.specs.declared.guard_reader.Bracket.{Bracket}
use Rattle.pssm_acts.specs.declared.guard_reader.Half.{Half}
use Rattle.pssm_acts.specs.declared.guard_reader.Stage.{Stage}
use Rattle.pssm_acts.specs.declared.guard_reader.Stage.TheVariants.{Wants, First, Second, Has}
use Rattle.pssm_acts.specs.declared.guard_reader.GuardReader.{GuardReader}
use Rattle.pssm_acts.specs.Tokens.{Token}
use Rattle.pssm_acts.specs.inner.ExprReading.{and_then, expr_step, expr_value, fresh_expr}
use Rattle.pssm_acts.specs.inner.GuardReading.{nothing_before, fresh_guard, nots_of, conjunction_of, disjunction_of, unit_of, bracket_opened, side_begun, unit_wanted, in_first, compared, bracket_closed, after_unit, in_second, guard_step, whole_guard, guard_value, guard_read}
use Rattle.pssm_acts.specs.Grammar.{Sum, SpellsExpr, Unit', Both, Either, SpellsGuard, truth, falsity, negation, brackets, relation, lone_unit, conjoined, lone_conjunction, disjoined}
use Rattle.pssm_acts.proofs.AnswerLaws.{read, never_read, read_same, passed, room_for}
use Rattle.pssm_acts.proofs.ExprHeld.{ExprHeld, token_as, expr_more, expr_whole, expr_start}
use Rattle.pssm_acts.proofs.GuardRead.{guard_steps_in, guard_at}
use Rattle.pssm_acts.proofs.Nesting.{Waits, Nests, Outside, Holds, chain_with, chain_of, starts, level_left, same, goes_on, chains, opens, closes, all_read}
use Rattle.pssm_acts.proofs.Nesting as nesting
use Rattle.pssm_acts.proofs.Readers.{kept, to_the_end}

abbrev pub EitherHeld : Names → ℕ → List Token → Option Cond → Type 0
EitherHeld names l us either = Waits (SpellsGuard names Either l) kinds.Or us either

abbrev pub BothHeld : Names → ℕ → List Token → Option Cond → Type 0
BothHeld names l us both = Waits (SpellsGuard names Both l) kinds.And us both

-- so many `!`
abbrev pub NotsHeld : ℕ → List Token → Type 0
NotsHeld zero ns = ns ≡ []
NotsHeld (suc n) ns = (t : Token) × (rest : List Token) × (t.kind ≡ kinds.Not) × NotsHeld n rest × (ns ≡ t ∷ rest)

pub record BeforeHeld (names : Names) (l : ℕ) (vs : List Token) (before : Before) : Type 0 where
  pub bs : List Token
  pub ns : List Token
  pub both : BothHeld names l bs before.both
  pub nots : NotsHeld before.nots ns
  pub whole : vs ≡ bs ++ ns

pub record SideHeld (names : Names) (l : ℕ) (vs : List Token) (before : Before) (side : ExprReader) : Type 0 where
  pub front : List Token
  pub ws : List Token
  pub ahead : BeforeHeld names l front before
  pub held : ExprHeld names l side ws
  pub whole : vs ≡ front ++ ws

pub record HalfHeld (names : Names) (l : ℕ) (vs : List Token) (half : Half) : Type 0 where
  pub front : List Token
  pub more : List Token
  pub t : Token
  pub ws : List Token
  pub before : BeforeHeld names l front half.before
  pub left : SpellsExpr names Sum l more half.left
  pub is : t.kind ≡ kinds.Relation half.rel
  pub held : ExprHeld names l half.side ws
  pub whole : vs ≡ front ++ (more ++ t ∷ ws)

abbrev pub StageHeld : Names → ℕ → List Token → Stage → Type 0
StageHeld names l vs (Wants before) = BeforeHeld names l vs before
StageHeld names l vs (First before side) = SideHeld names l vs before side
StageHeld names l vs (Second half) = HalfHeld names l vs half
StageHeld names l vs (Has c) = SpellsGuard names Both l vs c

-- how guards nest: in brackets
abbrev pub guard_nests : Names → Nests Bracket
guard_nests names = record { Ahead = λ l us bracket. EitherHeld names l us bracket.either; Begun = λ l vs bracket. BeforeHeld names l vs bracket.before; sign = kinds.OpenBracket }

-- the tokens before and with an opening bracket
abbrev pub OutsideHeld : Names → ℕ → List Bracket → ℕ → List Token → Type 0
OutsideHeld names room outer l ts = Outside (guard_nests names) room outer l ts

abbrev pub GuardHeld : Names → ℕ → List Bracket → Option Cond → Stage → List Token → Type 0
GuardHeld names room outer either stage ts = Holds (guard_nests names) room outer (λ l us. EitherHeld names l us either) (λ l vs. StageHeld names l vs stage) ts

-- ---- what parts make together

nots_held : (names : Names) (l : ℕ) (n : ℕ) (ns us : List Token) (c : Cond) → NotsHeld n ns → SpellsGuard names Unit' l us c → SpellsGuard names Unit' l (ns ++ us) (nots_of n c)
nots_held names l zero ns us c h spelled = subst (λ x. SpellsGuard names Unit' l (x ++ us) c) (sym h) spelled
nots_held names l (suc n) ns us c h spelled = subst (λ x. SpellsGuard names Unit' l (x ++ us) (nots_of (suc n) c)) (sym h.4) (negation h.2 (nots_held names l n h.1 us c h.3 spelled))

not_more : (n : ℕ) (ns : List Token) (t : Token) → NotsHeld n ns → t.kind ≡ kinds.Not → NotsHeld (suc n) (ns ++ t ∷ [])
not_more zero ns t h is = (t, [], is, refl, ap (λ x. x ++ t ∷ []) h)
not_more (suc n) ns t h is = (h.0, h.1 ++ t ∷ [], h.2, not_more n h.1 t h.3 is, ap (λ x. x ++ t ∷ []) h.4)

unit_held : (names : Names) (l : ℕ) (vs us : List Token) (before : Before) (c : Cond) → BeforeHeld names l vs before → SpellsGuard names Unit' l us c → SpellsGuard names Both l (vs ++ us) (unit_of before c)
unit_held names l vs us before c h spelled = subst (λ x. SpellsGuard names Both l x (unit_of before c)) (sym (ap (λ x. x ++ us) h.whole ∙ append_assoc h.bs h.ns us)) (go before.both h.both) where
  unit : SpellsGuard names Unit' l (h.ns ++ us) (nots_of before.nots c)
  unit = nots_held names l before.nots h.ns us c h.nots spelled

  go : (both' : Option Cond) → BothHeld names l h.bs both' → SpellsGuard names Both l (h.bs ++ (h.ns ++ us)) (conjunction_of both' (nots_of before.nots c))
  go None b = nesting.nothing_before (λ x. SpellsGuard names Both l x (nots_of before.nots c)) h.bs (h.ns ++ us) b (lone_unit unit)
  go (Some a) b = chain_with (λ x. SpellsGuard names Both l x (conjunction_of (Some a) (nots_of before.nots c))) (h.ns ++ us) b (λ ts t front is. conjoined t front is unit)

either_held : (names : Names) (l : ℕ) (us vs : List Token) (either' : Option Cond) (c : Cond) → EitherHeld names l us either' → SpellsGuard names Both l vs c → SpellsGuard names Either l (us ++ vs) (disjunction_of either' c)
either_held names l us vs None c h spelled = nesting.nothing_before (λ x. SpellsGuard names Either l x c) us vs h (lone_conjunction spelled)
either_held names l us vs (Some a) c h spelled = chain_with (λ x. SpellsGuard names Either l x (disjunction_of (Some a) c)) vs h (λ ts t front is. disjoined t front is spelled)

half_held : (names : Names) (l : ℕ) (vs : List Token) (half : Half) (at : ℕ) (c : Cond) → compared half at ≡ Ok c → HalfHeld names l vs half → SpellsGuard names Both l vs c
unfolding compared
half_held names l vs half at c is h =
    let it = passed (expr_value half.side at) _ c is in
    let right : SpellsExpr names Sum l h.ws it.0 = expr_whole names l half.side at h.ws it.0 it.1 h.held in
    let spelled = unit_held names l h.front (h.more ++ h.t ∷ h.ws) half.before (Compare half.rel half.left it.0) h.before (relation h.t h.left h.is right) in
    subst (λ x. SpellsGuard names Both l vs x) (read_same (unit_of half.before (Compare half.rel half.left it.0)) c it.2) (subst (λ x. SpellsGuard names Both l x (unit_of half.before (Compare half.rel half.left it.0))) (sym h.whole) spelled)

nothing_held : (names : Names) (l : ℕ) → BeforeHeld names l [] nothing_before
nothing_held names l = record { bs = []; ns = []; both = refl; nots = refl; whole = refl }

-- ---- one token more

module _ (names : Names) (room : ℕ) (outer : List Bracket) (either' : Option Cond) where
  -- the levels of parentheses that are left within the brackets
  deep : {before here : ℕ → List Token → Type 0} {ts : List Token} (h : Holds (guard_nests names) room outer before here ts) → room - length outer ≡ h.l
  deep h = let e = level_left (guard_nests names) room outer h in omega (arith, e)

  not_read : (before : Before) (ts : List Token) (t : Token) → GuardHeld names room outer either' (Wants before) ts → t.kind ≡ kinds.Not → GuardHeld names room outer either' (Wants (record { both = before.both; nots = before.nots + 1 })) (ts ++ t ∷ [])
  not_read before ts t h is =
      let b = h.here in
      let more = subst (λ n. NotsHeld n (b.ns ++ t ∷ [])) (sym (add-one before.nots)) (not_more before.nots b.ns t b.nots is) in
      goes_on (guard_nests names) room outer h (t ∷ []) (record { bs = b.bs; ns = b.ns ++ t ∷ []; both = b.both; nots = more; whole = ap (λ x. x ++ t ∷ []) b.whole ∙ append_assoc b.bs b.ns (t ∷ []) })

  begun : (before : Before) (n : ExprReader) (ts : List Token) (kind : Kind) (at : ℕ) (word : List ℕ) → expr_step names (room - length outer) fresh_expr (token_as at kind word) ≡ Ok n → GuardHeld names room outer either' (Wants before) ts
      → GuardHeld names room outer either' (First before n) (ts ++ token_as at kind word ∷ [])
  begun before n ts kind at word step h =
      let side : ExprHeld names h.l n (token_as at kind word ∷ []) =
      expr_more names h.l [] fresh_expr.left fresh_expr.place n [] kind at word (subst (λ x. expr_step names x fresh_expr (token_as at kind word) ≡ Ok n) (deep h) step) (expr_start names h.l) in
      goes_on (guard_nests names) room outer h (token_as at kind word ∷ []) (record { front = h.vs; ws = token_as at kind word ∷ []; ahead = h.here; held = side; whole = refl })

  first_more : (before : Before) (side n : ExprReader) (ts : List Token) (kind : Kind) (at : ℕ) (word : List ℕ) → expr_step names (room - length outer) side (token_as at kind word) ≡ Ok n → GuardHeld names room outer either' (First before side) ts
      → GuardHeld names room outer either' (First before n) (ts ++ token_as at kind word ∷ [])
  first_more before side n ts kind at word step h =
      let s = h.here in
      let t = token_as at kind word in
      let more = expr_more names h.l side.outer side.left side.place n s.ws kind at word (subst (λ x. expr_step names x side t ≡ Ok n) (deep h) step) s.held in
      goes_on (guard_nests names) room outer h (t ∷ []) (record { front = s.front; ws = s.ws ++ t ∷ []; ahead = s.ahead; held = more; whole = ap (λ x. x ++ t ∷ []) s.whole ∙ append_assoc s.front s.ws (t ∷ []) })

  first_ended : (before : Before) (side : ExprReader) (a : Expr) (rel : Rel) (at : ℕ) (ts : List Token) (t : Token) → expr_value side at ≡ Ok a → t.kind ≡ kinds.Relation rel → GuardHeld names room outer either' (First before side) ts
      → GuardHeld names room outer either' (Second (record { before = before; rel = rel; left = a; side = fresh_expr })) (ts ++ t ∷ [])
  first_ended before side a rel at ts t value is h =
      let s = h.here in
      goes_on (guard_nests names) room outer h (t ∷ [])
      (record { front = s.front; more = s.ws; t = t; ws = []; before = s.ahead; left = expr_whole names h.l side at s.ws a value s.held; is = is; held = expr_start names h.l; whole = ap (λ x. x ++ t ∷ []) s.whole ∙ append_assoc s.front s.ws (t ∷ []) })

  second_more : (half : Half) (n : ExprReader) (ts : List Token) (kind : Kind) (at : ℕ) (word : List ℕ) → expr_step names (room - length outer) half.side (token_as at kind word) ≡ Ok n → GuardHeld names room outer either' (Second half) ts
      → GuardHeld names room outer either' (Second (record { before = half.before; rel = half.rel; left = half.left; side = n })) (ts ++ token_as at kind word ∷ [])
  second_more half n ts kind at word step h =
      let s = h.here in
      let side = half.side in
      let t = token_as at kind word in
      let more = expr_more names h.l side.outer side.left side.place n s.ws kind at word (subst (λ x. expr_step names x side t ≡ Ok n) (deep h) step) s.held in
      goes_on (guard_nests names) room outer h (t ∷ [])
      (record { front = s.front; more = s.more; t = s.t; ws = s.ws ++ t ∷ []; before = s.before; left = s.left; is = s.is; held = more; whole = ap (λ x. x ++ t ∷ []) s.whole ∙ simp append_assoc })

  second_ended : (half : Half) (c : Cond) (at : ℕ) (ts : List Token) → compared half at ≡ Ok c → GuardHeld names room outer either' (Second half) ts → GuardHeld names room outer either' (Has c) ts
  second_ended half c at ts is h = same (guard_nests names) room outer h (half_held names h.l h.vs half at c is h.here)

abbrev pub Held : Names → ℕ → GuardReader → List Token → Type 0
Held names room r ts = GuardHeld names room r.outer r.either r.stage ts

after_held : (names : Names) (room : ℕ) (outer : List Bracket) (either' : Option Cond) (c : Cond) (n : GuardReader) (ts : List Token) (kind : Kind) (at : ℕ) (word : List ℕ)
    → after_unit outer either' c (token_as at kind word) ≡ Ok n → GuardHeld names room outer either' (Has c) ts → Held names room n (ts ++ token_as at kind word ∷ [])
unfolding after_unit bracket_closed
after_held names room outer either' c n ts kinds.And at word step h =
    let t = token_as at kinds.And word in
    subst (λ x. Held names room x (ts ++ t ∷ [])) (read_same (guard_at outer either' (Wants (record { both = Some c; nots = 0 }))) n step)
    (goes_on (guard_nests names) room outer h (t ∷ []) (record { bs = h.vs ++ t ∷ []; ns = []; both = chain_of h.vs t h.here refl; nots = refl; whole = sym (append-nil (h.vs ++ t ∷ [])) }))
after_held names room outer either' c n ts kinds.Or at word step h =
    let t = token_as at kinds.Or word in
    subst (λ x. Held names room x (ts ++ t ∷ [])) (read_same (guard_at outer (Some (disjunction_of either' c)) (Wants nothing_before)) n step)
    (chains (guard_nests names) room outer h t (chain_of (h.us ++ h.vs) t (either_held names h.l h.us h.vs either' c h.before h.here) refl) (nothing_held names h.l))
after_held names room [] either' c n ts kinds.CloseBracket at word step h = absurd (never_read _ _ step)
after_held names room (bracket ∷ outer) either' c n ts kinds.CloseBracket at word step h =
    let t = token_as at kinds.CloseBracket word in
    subst (λ x. Held names room x (ts ++ t ∷ [])) (read_same (guard_at outer bracket.either (Has (unit_of bracket.before (disjunction_of either' c)))) n step)
    (closes (guard_nests names) room outer bracket t h
    (λ opening vs opened began. unit_held names (suc h.l) vs (opening ∷ ((h.us ++ h.vs) ++ t ∷ [])) bracket.before (disjunction_of either' c) began (brackets t opened (either_held names h.l h.us h.vs either' c h.before h.here) refl)))
after_held names room outer either' c n ts kind at word step h = absurd (never_read _ _ step)

-- a unit of one token
unit_read : (names : Names) (room : ℕ) (outer : List Bracket) (either' : Option Cond) (before : Before) (c : Cond) (n : GuardReader) (ts : List Token) (t : Token) → read (guard_at outer either' (Has (unit_of before c))) ≡ Ok n
    → GuardHeld names room outer either' (Wants before) ts → ((l : ℕ) → SpellsGuard names Unit' l (t ∷ []) c) → Held names room n (ts ++ t ∷ [])
unit_read names room outer either' before c n ts t step h spelled =
    subst (λ x. Held names room x (ts ++ t ∷ [])) (read_same (guard_at outer either' (Has (unit_of before c))) n step) (goes_on (guard_nests names) room outer h (t ∷ []) (unit_held names h.l h.vs (t ∷ []) before c h.here (spelled h.l)))

wants_held : (names : Names) (room : ℕ) (outer : List Bracket) (either' : Option Cond) (before : Before) (n : GuardReader) (ts : List Token) (kind : Kind) (at : ℕ) (word : List ℕ)
    → unit_wanted names room outer either' before (token_as at kind word) ≡ Ok n → GuardHeld names room outer either' (Wants before) ts → Held names room n (ts ++ token_as at kind word ∷ [])
unfolding unit_wanted bracket_opened side_begun
wants_held names room outer either' before n ts kinds.OpenBracket at word step h =
    let bracket : Bracket = record { either = either'; before = before } in
    let opened = guard_at (bracket ∷ outer) None (Wants nothing_before) in
    let it = room_for (ltb (length outer) room) (Ok opened) (TooLong at) n step in
    subst (λ x. Held names room x (ts ++ token_as at kinds.OpenBracket word ∷ [])) (read_same opened n it.1)
    (opens (guard_nests names) room outer bracket (token_as at kinds.OpenBracket word) h refl (ltb-true (length outer) room it.0) (λ l. refl) (λ l. nothing_held names l))
wants_held names room outer either' before n ts kinds.Not at word step h =
    let t = token_as at kinds.Not word in
    subst (λ x. Held names room x (ts ++ t ∷ [])) (read_same (guard_at outer either' (Wants (record { both = before.both; nots = before.nots + 1 }))) n step) (not_read names room outer either' before ts t h refl)
wants_held names room outer either' before n ts kinds.True at word step h = unit_read names room outer either' before True n ts (token_as at kinds.True word) step h (λ l. truth refl)
wants_held names room outer either' before n ts kinds.False at word step h = unit_read names room outer either' before False n ts (token_as at kinds.False word) step h (λ l. falsity refl)
wants_held names room outer either' before n ts kind at word step h =
    let it = passed (expr_step names (room - length outer) fresh_expr (token_as at kind word)) _ n step in
    subst (λ x. Held names room x (ts ++ token_as at kind word ∷ [])) (read_same (guard_at outer either' (First before it.0)) n it.2) (begun names room outer either' before it.0 ts kind at word it.1 h)

first_held : (names : Names) (room : ℕ) (outer : List Bracket) (either' : Option Cond) (before : Before) (side : ExprReader) (n : GuardReader) (ts : List Token) (kind : Kind) (at : ℕ) (word : List ℕ)
    → and_then (in_first names (room - length outer) before side (token_as at kind word)) (λ stage. Ok (guard_at outer either' stage)) ≡ Ok n → GuardHeld names room outer either' (First before side) ts → Held names room n (ts ++ token_as at kind word ∷ [])
unfolding in_first
first_held names room outer either' before side n ts kind at word step h =
    let it = passed (in_first names (room - length outer) before side (token_as at kind word)) _ n step in
    subst (λ x. Held names room x (ts ++ token_as at kind word ∷ [])) (read_same (guard_at outer either' it.0) n it.2) (go kind it.0 it.1) where
      go : (kind : Kind) (stage : Stage) → in_first names (room - length outer) before side (token_as at kind word) ≡ Ok stage → GuardHeld names room outer either' stage (ts ++ token_as at kind word ∷ [])
      go (kinds.Relation rel) stage is =
          let it = passed (expr_value side at) _ stage is in
          subst (λ x. GuardHeld names room outer either' x (ts ++ token_as at (kinds.Relation rel) word ∷ [])) (read_same (Second (record { before = before; rel = rel; left = it.0; side = fresh_expr })) stage it.2)
          (first_ended names room outer either' before side it.0 rel at ts (token_as at (kinds.Relation rel) word) it.1 refl h)
      go kind stage is =
          let it = passed (expr_step names (room - length outer) side (token_as at kind word)) _ stage is in
          subst (λ x. GuardHeld names room outer either' x (ts ++ token_as at kind word ∷ [])) (read_same (First before it.0) stage it.2) (first_more names room outer either' before side it.0 ts kind at word it.1 h)

compared_held : (names : Names) (room : ℕ) (outer : List Bracket) (either' : Option Cond) (half : Half) (n : GuardReader) (ts : List Token) (kind : Kind) (at : ℕ) (word : List ℕ)
    → and_then (compared half at) (λ c. after_unit outer either' c (token_as at kind word)) ≡ Ok n → GuardHeld names room outer either' (Second half) ts → Held names room n (ts ++ token_as at kind word ∷ [])
compared_held names room outer either' half n ts kind at word step h =
    let it = passed (compared half at) _ n step in
    after_held names room outer either' it.0 n ts kind at word it.2 (second_ended names room outer either' half it.0 at ts it.1 h)

second_held : (names : Names) (room : ℕ) (outer : List Bracket) (either' : Option Cond) (half : Half) (n : GuardReader) (ts : List Token) (kind : Kind) (at : ℕ) (word : List ℕ)
    → in_second names room outer either' half (token_as at kind word) ≡ Ok n → GuardHeld names room outer either' (Second half) ts → Held names room n (ts ++ token_as at kind word ∷ [])
unfolding in_second
second_held names room outer either' half n ts kinds.And at word step h = compared_held names room outer either' half n ts kinds.And at word step h
second_held names room outer either' half n ts kinds.Or at word step h = compared_held names room outer either' half n ts kinds.Or at word step h
second_held names room outer either' half n ts kinds.CloseBracket at word step h = compared_held names room outer either' half n ts kinds.CloseBracket at word step h
second_held names room outer either' half n ts kind at word step h =
    let it = passed (expr_step names (room - length outer) half.side (token_as at kind word)) _ n step in
    subst (λ x. Held names room x (ts ++ token_as at kind word ∷ [])) (read_same (guard_at outer either' (Second (record { before = half.before; rel = half.rel; left = half.left; side = it.0 }))) n it.2)
    (second_more names room outer either' half it.0 ts kind at word it.1 h)

step_held : (names : Names) (room : ℕ) (outer : List Bracket) (either' : Option Cond) (stage : Stage) (n : GuardReader) (ts : List Token) (t : Token)
    → guard_step names room (guard_at outer either' stage) t ≡ Ok n → GuardHeld names room outer either' stage ts → Held names room n (ts ++ t ∷ [])
unfolding guard_step
step_held names room outer either' (Wants before) n ts t step h = wants_held names room outer either' before n ts t.kind t.at t.word step h
step_held names room outer either' (First before side) n ts t step h = first_held names room outer either' before side n ts t.kind t.at t.word step h
step_held names room outer either' (Second half) n ts t step h = second_held names room outer either' half n ts t.kind t.at t.word step h
step_held names room outer either' (Has c) n ts t step h = after_held names room outer either' c n ts t.kind t.at t.word step h

-- one token more
pub held_more : (names : Names) (room : ℕ) (r n : GuardReader) (ts : List Token) (t : Token) → guard_step names room r t ≡ Ok n → Held names room r ts → Held names room n (ts ++ t ∷ [])
held_more names room r n ts t step h = step_held names room r.outer r.either r.stage n ts t step h

-- the whole guard
whole_held : (names : Names) (room : ℕ) (outer : List Bracket) (either' : Option Cond) (c d : Cond) (end : ℕ) (ts : List Token) → whole_guard outer either' c end ≡ Ok d → GuardHeld names room outer either' (Has c) ts → SpellsGuard names Either room ts d
whole_held names room [] either' c d end ts is h =
    subst (λ x. SpellsGuard names Either room ts x) (read_same (disjunction_of either' c) d is)
    (all_read (guard_nests names) room (λ l us. SpellsGuard names Either l us (disjunction_of either' c)) h (either_held names h.l h.us h.vs either' c h.before h.here))
whole_held names room (bracket ∷ outer) either' c d end ts is h = absurd (never_read _ _ is)

value_held : (names : Names) (room : ℕ) (outer : List Bracket) (either' : Option Cond) (stage : Stage) (d : Cond) (end : ℕ) (ts : List Token) → guard_value (guard_at outer either' stage) end ≡ Ok d → GuardHeld names room outer either' stage ts → SpellsGuard names Either room ts d
unfolding guard_value
value_held names room outer either' (Wants before) d end ts is h = absurd (never_read _ _ is)
value_held names room outer either' (First before side) d end ts is h = absurd (never_read _ _ is)
value_held names room outer either' (Second half) d end ts is h =
    let it = passed (compared half end) _ d is in
    whole_held names room outer either' it.0 d end ts it.2 (second_ended names room outer either' half it.0 end ts it.1 h)
value_held names room outer either' (Has c) d end ts is h = whole_held names room outer either' c d end ts is h

pub held_whole : (names : Names) (room : ℕ) (r : GuardReader) (end : ℕ) (ts : List Token) (c : Cond) → guard_value r end ≡ Ok c → Held names room r ts → SpellsGuard names Either room ts c
held_whole names room r end ts c is h = value_held names room r.outer r.either r.stage c end ts is h

pub held_start : (names : Names) (room : ℕ) → Held names room fresh_guard []
held_start names room = starts (guard_nests names) room refl (nothing_held names room)

-- What is read as a guard is spelled so.
pub spelled_guard : (names : Names) (end : ℕ) (ts : List Token) (c : Cond) → guard_read names end fresh_guard ts ≡ Ok c → SpellsGuard names Either 16 ts c
spelled_guard names end ts c is =
    let all = to_the_end (guard_steps_in names 16) (λ r. guard_value r end) fresh_guard ts c is in
    let held : Held names 16 all.0 ts = kept (Held names 16) (λ s n us t step h. held_more names 16 s n us t step h) [] all.1 (held_start names 16) in
    held_whole names 16 all.0 end ts c all.2 held
