-- Whatever has been read of an expression or a guard begins one, also with a token that is refused for another reason than its place.
use Rattle.std.proofs.Common.{◌≡◌, ◌⊎◌, inl, inr, ◌-◌, ℕ, suc, zero, ℤ, List, [], ◌∷◌, ◌++◌, length, Option, Some, None, Result, Ok, Err, refl, sym, ap, ◌∙◌, subst, append_assoc}
use Rattle.std.proofs.lemmas.List.{append-nil}
use Rattle.pssm_acts.specs.declared.act_fault.ActFault.{ActFault}
use Rattle.pssm_acts.specs.declared.act_fault.ActFault.TheVariants.{Syntax}
use Rattle.pssm_semantics.specs.declared.setting.Names.{Names}
use Rattle.pssm_acts.specs.declared.token.Kind.{Kind}
use Rattle.pssm_acts.specs.declared.token.Kind.TheVariants as kinds
use Rattle.pssm_semantics.specs.declared.tree.Cond.{Cond}
use Rattle.pssm_semantics.specs.declared.tree.Cond.TheVariants.{Compare}
use Rattle.pssm_semantics.specs.declared.tree.Expr.{Expr}
use Rattle.pssm_semantics.specs.declared.tree.Rel.TheVariants.{Lt}
use Rattle.pssm_acts.specs.declared.expr_reader.Left.{Left}
use Rattle.pssm_acts.specs.declared.expr_reader.Left.TheVariants.{Nothing, Plus, Minus}
use Rattle.pssm_acts.specs.declared.expr_reader.Level.{Level}
use Rattle.pssm_acts.specs.declared.expr_reader.Place.{Place}
use Rattle.pssm_acts.specs.declared.expr_reader.Place.TheVariants as places
use Rattle.pssm_acts.specs.declared.expr_reader.ExprReader.{ExprReader}
use Rattle.pssm_acts.specs.declared.guard_reader.Before.{Before}
use Rattle.pssm_acts.specs.declared.guard_reader.Bracket.{Bracket}
use Rattle.pssm_acts.specs.declared.guard_reader.Half.{Half}
use Rattle.pssm_acts.specs.declared.guard_reader.Stage.{Stage}
use Rattle.pssm_acts.specs.declared.guard_reader.Stage.TheVariants.{Wants, First, Second, Has}
use Rattle.pssm_acts.specs.declared.guard_reader.GuardReader.{GuardReader}
use Rattle.pssm_acts.specs.Tokens.{Token}
use Rattle.pssm_acts.specs.inner.NumberReading.{number_read}
use Rattle.pssm_semantics.specs.declared.tree.Expr.TheVariants.{Num}
use Rattle.pssm_acts.specs.inner.ExprReading.{and_then, product_of, at_atom, atom_of, after_atom, closed, expr_step, expr_value, fresh_expr}
use Rattle.pssm_acts.specs.inner.GuardReading.{unit_of, bracket_opened, bracket_closed, side_begun, unit_wanted, in_first, compared, after_unit, in_second, guard_step}
use Rattle.pssm_acts.specs.Grammar.{Atom, Product, Sum, Unit', Both, Either}
use Rattle.pssm_acts.specs.Shapes.{natural, ExprShape, number, name, parentheses, atom, times, product, plus, minus, GuardShape, truth, negation, brackets, relation, lone_unit, conjoined, lone_conjunction, disjoined, Begins}
use Rattle.pssm_acts.proofs.AnswerLaws.{never_refused}
use Rattle.pssm_acts.proofs.ExprRead.{reader_at}
use Rattle.pssm_acts.proofs.ExprHeld.{LeftHeld, FactorHeld, PlaceHeld, expr_nests, OuterHeld, ExprHeld, token_as}
use Rattle.pssm_acts.proofs.GuardHeld.{EitherHeld, BothHeld, NotsHeld, BeforeHeld, guard_nests, OutsideHeld, GuardHeld, Held}
use Rattle.pssm_acts.proofs.Nesting.{nothing_before, chain_with, same, closed_up}
use Rattle.pssm_acts.proofs.GuardRead.{guard_at}
use Rattle.pssm_acts.proofs.NumberFaults.{NumberFault, unwritten, too_wide, number_fault}
use Rattle.pssm_acts.proofs.EndLaws.{expr_ends}
use Rattle.pssm_acts.proofs.Fares.{IsOther, place_no_other}
use Rattle.pssm_acts.proofs.ShapeLaws.{expr_shape, guard_shape, begins_shorter, begins_same}

-- ---- expressions

left_shape : (names : Names) (l : ℕ) (us ts : List Token) (left : Left) → LeftHeld names l us left → ExprShape Product ts → ExprShape Sum (us ++ ts)
left_shape names l us ts Nothing h shape = nothing_before (ExprShape Sum) us ts h (product shape)
left_shape names l us ts (Plus a) h shape = chain_with (ExprShape Sum) ts h (λ xs t front is. plus t (expr_shape front) is shape)
left_shape names l us ts (Minus a) h shape = chain_with (ExprShape Sum) ts h (λ xs t front is. minus t (expr_shape front) is shape)

factor_shape : (names : Names) (l : ℕ) (vs ts : List Token) (factor : Option Expr) → FactorHeld names l vs factor → ExprShape Atom ts → ExprShape Product (vs ++ ts)
factor_shape names l vs ts None h shape = nothing_before (ExprShape Product) vs ts h (atom shape)
factor_shape names l vs ts (Some a) h shape = chain_with (ExprShape Product) ts h (λ xs t front is. times t (expr_shape front) is shape)

abbrev closing : Token
closing = token_as 0 kinds.Close []

-- the parentheses that are open are closed
parentheses_close : (names : Names) (room : ℕ) (outer : List Level) (l : ℕ) (front ts : List Token) → OuterHeld names room outer l front → ExprShape Sum ts → Begins (ExprShape Sum) (front ++ ts)
parentheses_close names room outer l front ts h shape =
    closed_up (expr_nests names) (ExprShape Sum) closing
    (λ level l us vs ts opening ahead begun is shape.
    let group = opening ∷ (ts ++ closing ∷ []) in
    left_shape names l us (vs ++ group) level.left ahead (factor_shape names l vs group level.factor begun (parentheses closing is shape refl)))
    room outer l front ts h shape

-- an operand at its end
pub atom_begins : {names : Names} {room : ℕ} (outer : List Level) (left : Left) (factor : Option Expr) (us ts : List Token) → ExprHeld names room (reader_at outer left (places.Wants factor)) us → ExprShape Atom ts → Begins (ExprShape Sum) (us ++ ts)
atom_begins {names} {room} outer left factor us ts h shape =
    let sum = left_shape names h.l h.us (h.vs ++ ts) left h.before (factor_shape names h.l h.vs ts factor h.here shape) in
    begins_same (sym (ap (λ x. x ++ ts) h.whole ∙ simp append_assoc)) (parentheses_close names room outer h.l h.front (h.us ++ (h.vs ++ ts)) h.outside sum)

pub zero_shape : (at : ℕ) → ExprShape Atom (token_as at kinds.Number (48 ∷ []) ∷ [])
zero_shape at = number refl (natural refl)

pub expr_begins : {names : Names} {room : ℕ} (side : ExprReader) (us : List Token) → ExprHeld names room side us → Begins (ExprShape Sum) us
expr_begins {names} {room} side us h = go side.place h.here where
  go : (place : Place) → PlaceHeld names h.l h.vs place → Begins (ExprShape Sum) us
  go (places.Has e) here =
      begins_same (sym h.whole) (parentheses_close names room side.outer h.l h.front (h.us ++ h.vs) h.outside (left_shape names h.l h.us h.vs side.left h.before (expr_shape here)))
  go (places.Wants factor) here =
      begins_shorter us (token_as 0 kinds.Number (48 ∷ []) ∷ []) (atom_begins {room = room} side.outer side.left factor us (token_as 0 kinds.Number (48 ∷ []) ∷ []) (same (expr_nests names) room side.outer h here) (zero_shape 0))

-- The token begins an operand.
pub data BeginsAtom (t : Token) : Type 0 where
  lone : ExprShape Atom (t ∷ []) → BeginsAtom t
  opening : t.kind ≡ kinds.Open → BeginsAtom t

-- A token that an expression refuses for another reason than its place begins an operand where one may stand.
pub expr_other : (names : Names) (room : ℕ) (outer : List Level) (left : Left) (place : Place) (kind : Kind) (at : ℕ) (word : List ℕ) (fault : ActFault) → expr_step names room (reader_at outer left place) (token_as at kind word) ≡ Err fault → IsOther fault
    → (factor : Option Expr) × (place ≡ places.Wants factor) × BeginsAtom (token_as at kind word)
unfolding expr_step at_atom atom_of after_atom closed
expr_other names room outer left (places.Wants factor) kinds.Open at word fault e other = (factor, refl, opening refl)
expr_other names room outer left (places.Wants factor) kinds.Name at word fault e other = (factor, refl, lone (name refl))
expr_other names room outer left (places.Wants factor) kinds.Number at word fault e other = go (number_read at word) refl e where
  from : (f : ActFault) → f ≡ fault → NumberFault at word f → (g : Option Expr) × (places.Wants factor ≡ places.Wants g) × BeginsAtom (token_as at kinds.Number word)
  from f same (unwritten none) = absurd (subst IsOther (sym same) other)
  from f same (too_wide written) = (factor, refl, lone (number refl written))

  go : (r : Result ℤ ActFault) → number_read at word ≡ r → and_then (and_then r (λ v. Ok (Num v))) (λ a. Ok (reader_at outer left (places.Has (product_of factor a)))) ≡ Err fault
      → (g : Option Expr) × (places.Wants factor ≡ places.Wants g) × BeginsAtom (token_as at kinds.Number word)
  go (Ok v) read is = absurd cc
  go (Err f) read is = let same : f ≡ fault = cc in from f same (number_fault at word f read)
expr_other names room outer left (places.Wants factor) (kinds.Param k) at word fault e other = absurd (never_refused _ fault e)
expr_other names room outer left (places.Wants factor) kind at word fault e other = absurd (place_no_other at fault e other)
expr_other names room outer left (places.Has term) kinds.Times at word fault e other = absurd (never_refused _ fault e)
expr_other names room outer left (places.Has term) kinds.Plus at word fault e other = absurd (never_refused _ fault e)
expr_other names room outer left (places.Has term) kinds.Minus at word fault e other = absurd (never_refused _ fault e)
expr_other names room [] left (places.Has term) kinds.Close at word fault e other = absurd (place_no_other at fault e other)
expr_other names room (level ∷ outer) left (places.Has term) kinds.Close at word fault e other = absurd (never_refused _ fault e)
expr_other names room outer left (places.Has term) kind at word fault e other = absurd (place_no_other at fault e other)

begun_atom : {names : Names} {room : ℕ} (outer : List Level) (left : Left) (factor : Option Expr) (us : List Token) (t : Token) → BeginsAtom t → ExprHeld names room (reader_at outer left (places.Wants factor)) us → Begins (ExprShape Sum) (us ++ t ∷ [])
begun_atom {room = room} outer left factor us t (lone shape) h = atom_begins {room = room} outer left factor us (t ∷ []) h shape
begun_atom {room = room} outer left factor us t (opening is) h =
    let zero' = token_as 0 kinds.Number (48 ∷ []) in
    let group = t ∷ (zero' ∷ [] ++ closing ∷ []) in
    begins_shorter (us ++ t ∷ []) (zero' ∷ closing ∷ [])
    (begins_same (sym (append_assoc us (t ∷ []) (zero' ∷ closing ∷ []))) (atom_begins {room = room} outer left factor us group h (parentheses closing is (product (atom (zero_shape 0))) refl)))

-- With such a token an expression can go on.
pub other_begins : {names : Names} {held : ℕ} (others : Names) (room : ℕ) (side : ExprReader) (us : List Token) (t : Token) (fault : ActFault) → expr_step others room side t ≡ Err fault → IsOther fault → ExprHeld names held side us → Begins (ExprShape Sum) (us ++ t ∷ [])
other_begins {names} {held} others room side us t fault e other h =
    let found = expr_other others room side.outer side.left side.place t.kind t.at t.word fault e other in
    let h' : ExprHeld names held (reader_at side.outer side.left (places.Wants found.0)) us = subst (λ p. ExprHeld names held (reader_at side.outer side.left p) us) found.1 h in
    begun_atom {room = held} side.outer side.left found.0 us t found.2 h'

-- ---- guards

nots_shape : (n : ℕ) (ns ts : List Token) → NotsHeld n ns → GuardShape Unit' ts → GuardShape Unit' (ns ++ ts)
nots_shape zero ns ts h shape = subst (λ x. GuardShape Unit' (x ++ ts)) (sym h) shape
nots_shape (suc n) ns ts h shape = subst (λ x. GuardShape Unit' (x ++ ts)) (sym h.4) (negation h.2 (nots_shape n h.1 ts h.3 shape))

unit_shape : {names : Names} {l : ℕ} (vs ts : List Token) (before : Before) → BeforeHeld names l vs before → GuardShape Unit' ts → GuardShape Both (vs ++ ts)
unit_shape {names} {l} vs ts before h shape = subst (GuardShape Both) (sym (ap (λ x. x ++ ts) h.whole ∙ append_assoc h.bs h.ns ts)) (go before.both h.both) where
  unit : GuardShape Unit' (h.ns ++ ts)
  unit = nots_shape before.nots h.ns ts h.nots shape

  go : (both : Option Cond) → BothHeld names l h.bs both → GuardShape Both (h.bs ++ (h.ns ++ ts))
  go None b = nothing_before (GuardShape Both) h.bs (h.ns ++ ts) b (lone_unit unit)
  go (Some a) b = chain_with (GuardShape Both) (h.ns ++ ts) b (λ xs t front is. conjoined t (guard_shape front) is unit)

either_shape : (names : Names) (l : ℕ) (us ts : List Token) (either : Option Cond) → EitherHeld names l us either → GuardShape Both ts → GuardShape Either (us ++ ts)
either_shape names l us ts None h shape = nothing_before (GuardShape Either) us ts h (lone_conjunction shape)
either_shape names l us ts (Some a) h shape = chain_with (GuardShape Either) ts h (λ xs t front is. disjoined t (guard_shape front) is shape)

abbrev bracket : Token
bracket = token_as 0 kinds.CloseBracket []

-- the brackets that are open are closed
brackets_close : (names : Names) (room : ℕ) (outer : List Bracket) (l : ℕ) (front ts : List Token) → OutsideHeld names room outer l front → GuardShape Either ts → Begins (GuardShape Either) (front ++ ts)
brackets_close names room outer l front ts h shape =
    closed_up (guard_nests names) (GuardShape Either) bracket
    (λ open' l us vs ts opening ahead begun is shape.
    let group = opening ∷ (ts ++ bracket ∷ []) in
    either_shape names l us (vs ++ group) open'.either ahead (unit_shape vs group open'.before begun (brackets bracket is shape refl)))
    room outer l front ts h shape

less : Token
less = token_as 0 (kinds.Relation Lt) []

nil : Token
nil = token_as 0 kinds.Number (48 ∷ [])

module _ (names : Names) (room : ℕ) (outer : List Bracket) (either : Option Cond) (xs : List Token) where
  -- units at the end
  units_begin : (stage : Stage) (h : GuardHeld names room outer either stage xs) (extra : List Token) → GuardShape Both (h.vs ++ extra) → Begins (GuardShape Either) (xs ++ extra)
  units_begin stage h extra shape =
      begins_same (sym (ap (λ x. x ++ extra) h.whole ∙ simp append_assoc)) (brackets_close names room outer h.l h.front (h.us ++ (h.vs ++ extra)) h.outside (either_shape names h.l h.us (h.vs ++ extra) either h.before shape))

  unit_begins : (before : Before) (extra : List Token) → GuardHeld names room outer either (Wants before) xs → GuardShape Unit' extra → Begins (GuardShape Either) (xs ++ extra)
  unit_begins before extra h shape = units_begin (Wants before) h extra (unit_shape h.vs extra before h.here shape)

  -- the left side of a comparison at the end
  left_begins : (before : Before) (side : ExprReader) (h : GuardHeld names room outer either (First before side) xs) (extra : List Token) → Begins (ExprShape Sum) (h.here.ws ++ extra) → Begins (GuardShape Either) (xs ++ extra)
  unfolding less nil
  left_begins before side h extra b =
      let s = h.here in
      let tail = b.more ++ less ∷ nil ∷ [] in
      let unit : GuardShape Unit' (((s.ws ++ extra) ++ b.more) ++ less ∷ nil ∷ []) = relation less Lt b.shape refl (product (atom (zero_shape 0))) in
      let both = unit_shape s.front (((s.ws ++ extra) ++ b.more) ++ less ∷ nil ∷ []) before s.ahead unit in
      let same : s.front ++ (((s.ws ++ extra) ++ b.more) ++ less ∷ nil ∷ []) ≡ h.vs ++ (extra ++ tail) = sym (ap (λ x. x ++ (extra ++ tail)) s.whole ∙ simp append_assoc) in
      begins_shorter (xs ++ extra) tail (begins_same (sym (append_assoc xs extra tail)) (units_begin (First before side) h (extra ++ tail) (subst (λ x. GuardShape Both x) same both)))

  -- the right side of a comparison at the end
  right_begins : (half : Half) (h : GuardHeld names room outer either (Second half) xs) (extra : List Token) → Begins (ExprShape Sum) (h.here.ws ++ extra) → Begins (GuardShape Either) (xs ++ extra)
  right_begins half h extra b =
      let s = h.here in
      let unit : GuardShape Unit' (s.more ++ s.t ∷ ((s.ws ++ extra) ++ b.more)) = relation s.t half.rel (expr_shape s.left) s.is b.shape in
      let both = unit_shape s.front (s.more ++ s.t ∷ ((s.ws ++ extra) ++ b.more)) half.before s.before unit in
      let same : s.front ++ (s.more ++ s.t ∷ ((s.ws ++ extra) ++ b.more)) ≡ h.vs ++ (extra ++ b.more) = sym (ap (λ x. x ++ (extra ++ b.more)) s.whole ∙ simp append_assoc) in
      begins_shorter (xs ++ extra) b.more (begins_same (sym (append_assoc xs extra b.more)) (units_begin (Second half) h (extra ++ b.more) (subst (λ x. GuardShape Both x) same both)))

  stage_begins : (stage : Stage) → GuardHeld names room outer either stage xs → Begins (GuardShape Either) xs
  stage_begins (Wants before) h = begins_shorter xs (token_as 0 kinds.True [] ∷ []) (unit_begins before (token_as 0 kinds.True [] ∷ []) h (truth refl))
  stage_begins (First before side) h =
      begins_shorter xs [] (left_begins before side h [] (begins_same (sym (append-nil h.here.ws)) (expr_begins {room = h.l} side h.here.ws h.here.held)))
  stage_begins (Second half) h =
      begins_shorter xs [] (right_begins half h [] (begins_same (sym (append-nil h.here.ws)) (expr_begins {room = h.l} half.side h.here.ws h.here.held)))
  stage_begins (Has c) h = begins_shorter xs [] (units_begin (Has c) h [] (subst (λ x. GuardShape Both x) (sym (append-nil h.vs)) (guard_shape h.here)))

-- Whatever has been read of a guard begins one.
pub guard_begins : (names : Names) (room : ℕ) (guard : GuardReader) (xs : List Token) → Held names room guard xs → Begins (GuardShape Either) xs
guard_begins names room guard xs h = stage_begins names room guard.outer guard.either xs guard.stage h

-- ---- a guard with a token that it refuses for another reason than its place

pub failed_first : {A B : Type 0} (f : A → B) (x : Result A ActFault) (fault : ActFault) → and_then x (λ a. Ok (f a)) ≡ Err fault → x ≡ Err fault
failed_first f (Ok a) fault e = absurd cc
failed_first f (Err other) fault e = let same : other ≡ fault = cc in ap (λ z. Err z) same

module _ (names others : Names) (held room : ℕ) (outer : List Bracket) (either : Option Cond) (xs : List Token) where
  wants_other : (before : Before) (kind : Kind) (at : ℕ) (word : List ℕ) (fault : ActFault) → unit_wanted others room outer either before (token_as at kind word) ≡ Err fault → IsOther fault
      → GuardHeld names held outer either (Wants before) xs → Begins (GuardShape Either) (xs ++ token_as at kind word ∷ [])
  unfolding unit_wanted bracket_opened side_begun less nil
  wants_other before kinds.OpenBracket at word fault e other h =
      let t = token_as at kinds.OpenBracket word in
      let true' = token_as 0 kinds.True [] in
      let unit : GuardShape Unit' (t ∷ (true' ∷ [] ++ bracket ∷ [])) = brackets bracket refl (lone_conjunction (lone_unit (truth refl))) refl in
      begins_shorter (xs ++ t ∷ []) (true' ∷ bracket ∷ []) (begins_same (sym (append_assoc xs (t ∷ []) (true' ∷ bracket ∷ []))) (unit_begins names held outer either xs before (t ∷ (true' ∷ [] ++ bracket ∷ [])) h unit))
  wants_other before kinds.Not at word fault e other h = absurd (never_refused _ fault e)
  wants_other before kinds.True at word fault e other h = absurd (never_refused _ fault e)
  wants_other before kinds.False at word fault e other h = absurd (never_refused _ fault e)
  wants_other before kind at word fault e other h =
      let t = token_as at kind word in
      let found = expr_other others (room - length outer) [] Nothing (places.Wants None) kind at word fault (failed_first (λ side. guard_at outer either (First before side)) (expr_step others (room - length outer) fresh_expr t) fault e) other in
      begun t found.2 where
        begun : (t : Token) → BeginsAtom t → Begins (GuardShape Either) (xs ++ t ∷ [])
        begun t (lone shape) =
            begins_shorter (xs ++ t ∷ []) (less ∷ nil ∷ [])
            (begins_same (sym (append_assoc xs (t ∷ []) (less ∷ nil ∷ []))) (unit_begins names held outer either xs before ((t ∷ []) ++ less ∷ nil ∷ []) h (relation less Lt (product (atom shape)) refl (product (atom (zero_shape 0))))))
        begun t (opening is) =
            let group = t ∷ (nil ∷ [] ++ closing ∷ []) in
            begins_shorter (xs ++ t ∷ []) (nil ∷ closing ∷ less ∷ nil ∷ [])
            (begins_same (sym (append_assoc xs (t ∷ []) (nil ∷ closing ∷ less ∷ nil ∷ [])))
            (unit_begins names held outer either xs before (group ++ less ∷ nil ∷ []) h (relation less Lt (product (atom (parentheses closing is (product (atom (zero_shape 0))) refl))) refl (product (atom (zero_shape 0))))))

  first_other : (before : Before) (side : ExprReader) (kind : Kind) (at : ℕ) (word : List ℕ) (fault : ActFault) → and_then (in_first others (room - length outer) before side (token_as at kind word)) (λ stage. Ok (guard_at outer either stage)) ≡ Err fault
      → IsOther fault → GuardHeld names held outer either (First before side) xs → Begins (GuardShape Either) (xs ++ token_as at kind word ∷ [])
  unfolding in_first
  first_other before side (kinds.Relation rel) at word fault e other h = go (expr_ends side) where
    go : (((v : Expr) × ((k : ℕ) → expr_value side k ≡ Ok v)) ⊎ ((k : ℕ) → expr_value side k ≡ Err (Syntax k))) → Begins (GuardShape Either) (xs ++ token_as at (kinds.Relation rel) word ∷ [])
    go (inl ends) =
        let is = ap (λ x. and_then (and_then x (λ left. Ok (Second (record { before = before; rel = rel; left = left; side = fresh_expr })))) (λ stage. Ok (guard_at outer either stage))) (ends.1 at) in
        absurd cc
    go (inr stops) =
        let is = ap (λ x. and_then (and_then x (λ left. Ok (Second (record { before = before; rel = rel; left = left; side = fresh_expr })))) (λ stage. Ok (guard_at outer either stage))) (stops at) in
        let same : Syntax at ≡ fault = cc in
        absurd (subst IsOther (sym same) other)
  first_other before side kind at word fault e other h =
      let t = token_as at kind word in
      let inner = failed_first (λ more. First before more) (expr_step others (room - length outer) side t) fault (failed_first (λ stage. guard_at outer either stage) (and_then (expr_step others (room - length outer) side t) (λ more. Ok (First before more))) fault e) in
      left_begins names held outer either xs before side h (t ∷ []) (other_begins others (room - length outer) side h.here.ws t fault inner other h.here.held)

  after_other : (c : Cond) (kind : Kind) (at : ℕ) (word : List ℕ) (fault : ActFault) → after_unit outer either c (token_as at kind word) ≡ Err fault → IsOther fault → ⊥
  unfolding after_unit bracket_closed
  after_other c kinds.And at word fault e other = absurd (never_refused _ fault e)
  after_other c kinds.Or at word fault e other = absurd (never_refused _ fault e)
  after_other c kinds.CloseBracket at word fault e other = go outer e where
    go : (open' : List Bracket) → bracket_closed open' either c at ≡ Err fault → ⊥
    go [] is = let same : Syntax at ≡ fault = cc in subst IsOther (sym same) other
    go (first ∷ rest) is = absurd cc
  after_other c kind at word fault e other = place_no_other at fault e other

  compared_other : (half : Half) (kind : Kind) (at : ℕ) (word : List ℕ) (fault : ActFault) → and_then (compared half at) (λ c. after_unit outer either c (token_as at kind word)) ≡ Err fault → IsOther fault → ⊥
  unfolding compared
  compared_other half kind at word fault e other = go (expr_ends half.side) where
    go : (((v : Expr) × ((k : ℕ) → expr_value half.side k ≡ Ok v)) ⊎ ((k : ℕ) → expr_value half.side k ≡ Err (Syntax k))) → ⊥
    go (inl ends) =
        let is = ap (λ x. and_then (and_then x (λ right. Ok (unit_of half.before (Compare half.rel half.left right)))) (λ c. after_unit outer either c (token_as at kind word))) (ends.1 at) in
        after_other (unit_of half.before (Compare half.rel half.left ends.0)) kind at word fault (sym is ∙ e) other
    go (inr stops) =
        let is = ap (λ x. and_then (and_then x (λ right. Ok (unit_of half.before (Compare half.rel half.left right)))) (λ c. after_unit outer either c (token_as at kind word))) (stops at) in
        let same : Syntax at ≡ fault = cc in
        subst IsOther (sym same) other

  second_other : (half : Half) (kind : Kind) (at : ℕ) (word : List ℕ) (fault : ActFault) → in_second others room outer either half (token_as at kind word) ≡ Err fault → IsOther fault
      → GuardHeld names held outer either (Second half) xs → Begins (GuardShape Either) (xs ++ token_as at kind word ∷ [])
  unfolding in_second
  second_other half kinds.And at word fault e other h = absurd (compared_other half kinds.And at word fault e other)
  second_other half kinds.Or at word fault e other h = absurd (compared_other half kinds.Or at word fault e other)
  second_other half kinds.CloseBracket at word fault e other h = absurd (compared_other half kinds.CloseBracket at word fault e other)
  second_other half kind at word fault e other h =
      let t = token_as at kind word in
      let side = half.side in
      let inner = failed_first (λ more. guard_at outer either (Second (record { before = half.before; rel = half.rel; left = half.left; side = more }))) (expr_step others (room - length outer) side t) fault e in
      right_begins names held outer either xs half h (t ∷ []) (other_begins others (room - length outer) side h.here.ws t fault inner other h.here.held)

  stage_other : (stage : Stage) (t : Token) (fault : ActFault) → guard_step others room (guard_at outer either stage) t ≡ Err fault → IsOther fault → GuardHeld names held outer either stage xs → Begins (GuardShape Either) (xs ++ t ∷ [])
  unfolding guard_step
  stage_other (Wants before) t fault e other h = wants_other before t.kind t.at t.word fault e other h
  stage_other (First before side) t fault e other h = first_other before side t.kind t.at t.word fault e other h
  stage_other (Second half) t fault e other h = second_other half t.kind t.at t.word fault e other h
  stage_other (Has c) t fault e other h = absurd (after_other c t.kind t.at t.word fault e other)

-- With a token that it refuses for another reason than its place a guard can go on.
pub guard_other : (names : Names) (room : ℕ) (guard : GuardReader) (xs : List Token) (t : Token) (fault : ActFault) → guard_step names room guard t ≡ Err fault → IsOther fault → Held names room guard xs → Begins (GuardShape Either) (xs ++ t ∷ [])
guard_other names room guard xs t fault e other h = stage_other names names room room guard.outer guard.either xs guard.stage t fault e other h
