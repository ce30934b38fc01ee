-- Tokens of the shape of a guard are not refused for their shape.
use Rattle.std.proofs.Common.{◌≡◌, ◌+◌, ◌-◌, ℕ, Bool, true, false, ltb, List, [], ◌∷◌, ◌++◌, length, Option, Some, None, Ok, Err, refl, sym, ap, subst}
use Rattle.std.proofs.lemmas.Bool.{ltb-true}
use Rattle.pssm_acts.specs.declared.act_fault.ActFault.{ActFault}
use Rattle.pssm_acts.specs.declared.act_fault.ActFault.TheVariants.{Syntax, TooLong}
use Rattle.pssm_semantics.specs.declared.setting.Names.{Names}
use Rattle.pssm_acts.specs.declared.token.Kind.{Kind}
use Rattle.pssm_acts.specs.declared.token.Kind.TheVariants as kinds
use Rattle.pssm_semantics.specs.declared.tree.Expr.{Expr}
use Rattle.pssm_semantics.specs.declared.tree.Rel.{Rel}
use Rattle.pssm_semantics.specs.declared.tree.Cond.{Cond}
use Rattle.pssm_semantics.specs.declared.tree.Cond.TheVariants.{Compare}
use Rattle.pssm_acts.specs.declared.expr_reader.Left.{Left}
use Rattle.pssm_acts.specs.declared.expr_reader.Level.{Level}
use Rattle.pssm_acts.specs.declared.expr_reader.Place.{Place}
use Rattle.pssm_acts.specs.declared.expr_reader.Place.TheVariants as places
use Rattle.pssm_acts.specs.declared.guard_reader.Before.{Before}
use Rattle.pssm_acts.specs.declared.guard_reader.Bracket.{Bracket}
use Rattle.pssm_acts.specs.declared.guard_reader.Stage.{Stage}
use Rattle.pssm_acts.specs.declared.guard_reader.Stage.TheVariants.{Wants, First, Second}
use Rattle.pssm_acts.specs.declared.guard_reader.GuardReader.{GuardReader}
use Rattle.pssm_acts.specs.Tokens.{Token}
use Rattle.pssm_acts.specs.inner.ExprReading.{and_then, sum_of, at_atom, atom_of, after_atom, expr_step, fresh_expr}
use Rattle.pssm_acts.specs.inner.GuardReading.{nothing_before, unit_of, disjunction_of, bracket_opened, side_begun, unit_wanted, in_first, in_second, at_stage, guard_step}
use Rattle.pssm_acts.specs.Grammar.{GuardPart, Sum, Unit', Both, Either}
use Rattle.pssm_acts.specs.Shapes.{ExprShape, GuardShape, truth, falsity, negation, brackets, relation, lone_unit, conjoined, lone_conjunction, disjoined}
use Rattle.pssm_acts.proofs.ExprRead.{reader_at}
use Rattle.pssm_acts.proofs.GuardRead.{guard_steps_in, guard_at, step_first, step_second, step_begun, Stands, has, half, behind_and, behind_or, behind_bracket, begins_bracket, begins_not, begins_true, begins_false, ends_first}
use Rattle.pssm_acts.proofs.Fares.{IsOther, Fares, arrives, goes, stops, Among, fares_to, fares_as, fares_part, fares_begun, sum_read, expr_fares}

-- ---- the sides of a comparison

first_refuses : (names : Names) (room : ℕ) (before : Before) (outer : List Level) (left : Left) (place : Place) (fault : ActFault) (kind : Kind) (at : ℕ) (word : List ℕ)
    → expr_step names room (reader_at outer left place) (record { at = at; kind = kind; word = word }) ≡ Err fault → IsOther fault
    → in_first names room before (reader_at outer left place) (record { at = at; kind = kind; word = word }) ≡ Err fault
unfolding expr_step at_atom atom_of after_atom in_first
first_refuses names room before outer left (places.Wants factor) fault (kinds.Relation rel) at word step other = let same : Syntax at ≡ fault = cc in absurd (subst IsOther (sym same) other)
first_refuses names room before outer left (places.Has term) fault (kinds.Relation rel) at word step other = let same : Syntax at ≡ fault = cc in absurd (subst IsOther (sym same) other)
first_refuses names room before outer left place fault kind at word step other = ap (λ x. and_then x (λ more. Ok (First before more))) step

second_refuses : (names : Names) (room : ℕ) (outside : List Bracket) (either : Option Cond) (before : Before) (rel : Rel) (a : Expr) (outer : List Level) (left : Left) (place : Place) (fault : ActFault) (kind : Kind) (at : ℕ) (word : List ℕ)
    → expr_step names (room - length outside) (reader_at outer left place) (record { at = at; kind = kind; word = word }) ≡ Err fault → IsOther fault
    → in_second names room outside either (record { before = before; rel = rel; left = a; side = reader_at outer left place }) (record { at = at; kind = kind; word = word }) ≡ Err fault
unfolding expr_step at_atom atom_of after_atom in_second
second_refuses names room outside either before rel a outer left (places.Wants factor) fault kinds.And at word step other = let same : Syntax at ≡ fault = cc in absurd (subst IsOther (sym same) other)
second_refuses names room outside either before rel a outer left (places.Has term) fault kinds.And at word step other = let same : Syntax at ≡ fault = cc in absurd (subst IsOther (sym same) other)
second_refuses names room outside either before rel a outer left (places.Wants factor) fault kinds.Or at word step other = let same : Syntax at ≡ fault = cc in absurd (subst IsOther (sym same) other)
second_refuses names room outside either before rel a outer left (places.Has term) fault kinds.Or at word step other = let same : Syntax at ≡ fault = cc in absurd (subst IsOther (sym same) other)
second_refuses names room outside either before rel a outer left (places.Wants factor) fault kinds.CloseBracket at word step other = let same : Syntax at ≡ fault = cc in absurd (subst IsOther (sym same) other)
second_refuses names room outside either before rel a outer left (places.Has term) fault kinds.CloseBracket at word step other = let same : Syntax at ≡ fault = cc in absurd (subst IsOther (sym same) other)
second_refuses names room outside either before rel a outer left place fault kind at word step other =
    ap (λ x. and_then x (λ more. Ok (guard_at outside either (Second (record { before = before; rel = rel; left = a; side = more }))))) step

begun_refuses : (names : Names) (room : ℕ) (outer : List Bracket) (either : Option Cond) (before : Before) (fault : ActFault) (kind : Kind) (at : ℕ) (word : List ℕ)
    → expr_step names (room - length outer) fresh_expr (record { at = at; kind = kind; word = word }) ≡ Err fault → IsOther fault
    → unit_wanted names room outer either before (record { at = at; kind = kind; word = word }) ≡ Err fault
unfolding expr_step at_atom atom_of unit_wanted side_begun
begun_refuses names room outer either before fault kinds.OpenBracket at word step other = let same : Syntax at ≡ fault = cc in absurd (subst IsOther (sym same) other)
begun_refuses names room outer either before fault kinds.Not at word step other = let same : Syntax at ≡ fault = cc in absurd (subst IsOther (sym same) other)
begun_refuses names room outer either before fault kinds.True at word step other = let same : Syntax at ≡ fault = cc in absurd (subst IsOther (sym same) other)
begun_refuses names room outer either before fault kinds.False at word step other = let same : Syntax at ≡ fault = cc in absurd (subst IsOther (sym same) other)
begun_refuses names room outer either before fault kind at word step other = ap (λ x. and_then x (λ side. Ok (guard_at outer either (First before side)))) step

pub fresh_is_none : (p : Left × Expr) → fresh_expr ≡ sum_read [] p → ⊥
fresh_is_none p same = let place : places.Wants None ≡ places.Has p.1 = ap (λ r. r.place) same in cc

module _ (names : Names) (room : ℕ) (outer : List Bracket) (either : Option Cond) (before : Before) where
  -- the left side of a comparison, from its first token on
  left_fares : {ts : List Token} → ExprShape Sum ts → Fares (guard_steps_in names room) (Among (λ p. guard_at outer either (First before (sum_read [] p)))) (guard_at outer either (Wants before)) ts
  unfolding guard_step
  left_fares shape =
      fares_begun (λ side. guard_at outer either (First before side)) (sum_read []) (guard_at outer either (Wants before))
      (λ n t step. step_begun names room outer either before n t.kind t.at t.word step)
      (λ t fault step other. begun_refuses names room outer either before fault t.kind t.at t.word step other)
      fresh_is_none
      (λ s n t step. ap (λ x. and_then x (λ stage. Ok (at_stage outer either stage))) (step_first names (room - length outer) before s.outer s.left s.place n t.kind t.at t.word step))
      (λ s t fault step other. ap (λ x. and_then x (λ stage. Ok (at_stage outer either stage))) (first_refuses names (room - length outer) before s.outer s.left s.place fault t.kind t.at t.word step other))
      (expr_fares names (room - length outer) [] shape)

  -- its right side
  right_fares : {ts : List Token} (rel : Rel) (a : Expr) → ExprShape Sum ts
      → Fares (guard_steps_in names room) (Among (λ p. guard_at outer either (Second (record { before = before; rel = rel; left = a; side = sum_read [] p })))) (guard_at outer either (Second (record { before = before; rel = rel; left = a; side = fresh_expr }))) ts
  unfolding guard_step
  right_fares rel a shape =
      fares_part (λ side. guard_at outer either (Second (record { before = before; rel = rel; left = a; side = side }))) (sum_read [])
      (λ s n t step. step_second names room outer either before rel a s.outer s.left s.place n t.kind t.at t.word step)
      (λ s t fault step other. second_refuses names room outer either before rel a s.outer s.left s.place fault t.kind t.at t.word step other)
      (expr_fares names (room - length outer) [] shape)

-- ---- units and chains

-- units joined by `&&` have been read
pub record UnitsRead : Type 0 where
  pub stage : Stage
  pub cond : Cond
  pub stands : Stands stage cond

abbrev pub units_read : List Bracket → Option Cond → UnitsRead → GuardReader
units_read outer either u = guard_at outer either u.stage

-- conjunctions joined by `||` have been read
abbrev pub chain_read : List Bracket → Option Cond × UnitsRead → GuardReader
chain_read outer p = guard_at outer p.0 p.1.stage

abbrev lone : (stage : Stage) (cond : Cond) → Stands stage cond → UnitsRead
lone stage cond stands = record { stage = stage; cond = cond; stands = stands }

abbrev pub GuardFares : Names → ℕ → List Bracket → GuardPart → List Token → Type 0
GuardFares names room outer Unit' ts = (either : Option Cond) (before : Before) → Fares (guard_steps_in names room) (Among (units_read outer either)) (guard_at outer either (Wants before)) ts
GuardFares names room outer Both ts = (either : Option Cond) → Fares (guard_steps_in names room) (Among (units_read outer either)) (guard_at outer either (Wants nothing_before)) ts
GuardFares names room outer Either ts = Fares (guard_steps_in names room) (Among (chain_read outer)) (guard_at outer None (Wants nothing_before)) ts

module _ (names : Names) (room : ℕ) (outer : List Bracket) (either : Option Cond) (before : Before) where
  refuses_bracket : (t : Token) → t.kind ≡ kinds.OpenBracket → ltb (length outer) room ≡ false → guard_step names room (guard_at outer either (Wants before)) t ≡ Err (TooLong t.at)
  unfolding guard_step unit_wanted bracket_opened
  refuses_bracket t is deep = simp (is, deep) refl

  bracket_fares : {Goal : GuardReader → Type 0} (t : Token) (rest : List Token) → t.kind ≡ kinds.OpenBracket
      → Fares (guard_steps_in names room) Goal (guard_at (record { either = either; before = before } ∷ outer) None (Wants nothing_before)) rest → Fares (guard_steps_in names room) Goal (guard_at outer either (Wants before)) (t ∷ rest)
  bracket_fares {Goal} t rest is inner = go (ltb (length outer) room) refl where
    go : (b : Bool) → ltb (length outer) room ≡ b → Fares (guard_steps_in names room) Goal (guard_at outer either (Wants before)) (t ∷ rest)
    go true e = goes (begins_bracket names room outer either t before is (ltb-true (length outer) room e)) inner
    go false e = stops (TooLong t.at) (refuses_bracket t is e) tt

  relation_fares : (t : Token) {ts us : List Token} (rel : Rel) → ExprShape Sum ts → t.kind ≡ kinds.Relation rel → ExprShape Sum us
      → Fares (guard_steps_in names room) (Among (units_read outer either)) (guard_at outer either (Wants before)) (ts ++ t ∷ us)
  relation_fares t rel left is right =
      fares_to (λ p. guard_at outer either (First before (sum_read [] p))) (left_fares names room outer either before left)
      (λ p. goes (ends_first names room outer either t before p.0 p.1 rel is)
      (fares_as (right_fares names room outer either before rel (sum_of p.0 p.1) right)
      (λ n goal. (record { stage = Second (record { before = before; rel = rel; left = sum_of p.0 p.1; side = sum_read [] goal.0 }); cond = unit_of before (Compare rel (sum_of p.0 p.1) (sum_of goal.0.0 goal.0.1)); stands = half }, goal.1))))

pub guard_fares : {part : GuardPart} {ts : List Token} (names : Names) (room : ℕ) (outer : List Bracket) → GuardShape part ts → GuardFares names room outer part ts
guard_fares names room outer (truth {t} is) = λ either before. goes (begins_true names room outer either t before is) (arrives (lone _ _ has, refl))
guard_fares names room outer (falsity {t} is) = λ either before. goes (begins_false names room outer either t before is) (arrives (lone _ _ has, refl))
guard_fares names room outer (negation {t} {ts} is inner) = λ either before.
    let body : GuardFares names room outer Unit' ts = guard_fares names room outer inner in
    goes (begins_not names room outer either t before is) (body either (record { both = before.both; nots = before.nots + 1 }))
guard_fares names room outer (brackets {opening} closing {ts} opens inner closes) = λ either before.
    let bracket : Bracket = record { either = either; before = before } in
    let body : GuardFares names room (bracket ∷ outer) Either ts = guard_fares names room (bracket ∷ outer) inner in
    bracket_fares names room outer either before opening (ts ++ closing ∷ []) opens
    (fares_to (chain_read (bracket ∷ outer)) body (λ p. goes (behind_bracket names room outer p.0 closing bracket p.1.stage p.1.cond p.1.stands closes) (arrives (lone _ _ has, refl))))
guard_fares names room outer (relation t rel left is right) = λ either before. relation_fares names room outer either before t rel left is right
guard_fares names room outer (lone_unit {ts} u) = λ either. let only : GuardFares names room outer Unit' ts = guard_fares names room outer u in only either nothing_before
guard_fares names room outer (conjoined t {ts} {us} front is back) = λ either.
    let first : GuardFares names room outer Both ts = guard_fares names room outer front in
    let second : GuardFares names room outer Unit' us = guard_fares names room outer back in
    fares_to (units_read outer either) (first either) (λ u. goes (behind_and names room outer either t u.stage u.cond u.stands is) (second either (record { both = Some u.cond; nots = 0 })))
guard_fares names room outer (lone_conjunction {ts} b) =
    let only : GuardFares names room outer Both ts = guard_fares names room outer b in
    fares_as (only None) (λ n goal. ((None, goal.0), goal.1))
guard_fares names room outer (disjoined t {ts} {us} front is back) =
    let first : GuardFares names room outer Either ts = guard_fares names room outer front in
    let second : GuardFares names room outer Both us = guard_fares names room outer back in
    fares_to (chain_read outer) first
    (λ p. goes (behind_or names room outer p.0 t p.1.stage p.1.cond p.1.stands is) (fares_as (second (Some (disjunction_of p.0 p.1.cond))) (λ n goal. ((Some (disjunction_of p.0 p.1.cond), goal.0), goal.1))))
