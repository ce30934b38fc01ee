-- How tokens of a shape fare with a reader: it takes them all, or stops at one with a fault that is no fault of the shape.
use Rattle.std.proofs.Common.{◌≡◌, ℕ, ℤ, Bool, true, false, ltb, List, [], ◌∷◌, ◌++◌, length, Option, Some, None, Result, Ok, Err, refl, sym, ap, ◌∙◌, subst, position, bytes_eq}
use Rattle.std.proofs.lemmas.Bool.{ltb-true}
use Rattle.pssm_acts.specs.declared.act_fault.ActFault.{ActFault}
use Rattle.pssm_acts.specs.declared.act_fault.ActFault.TheVariants.{Syntax, UnknownName, WideNumber, TooLong}
use Rattle.pssm_semantics.specs.declared.setting.Names.{Names}
use Rattle.pssm_acts.specs.declared.token.Kind.TheVariants as kinds
use Rattle.pssm_semantics.specs.declared.tree.Expr.{Expr}
use Rattle.pssm_semantics.specs.declared.tree.Expr.TheVariants.{Num, Var, Param}
use Rattle.pssm_acts.specs.declared.expr_reader.Left.{Left}
use Rattle.pssm_acts.specs.declared.expr_reader.Left.TheVariants.{Nothing, Plus, Minus}
use Rattle.pssm_acts.specs.declared.expr_reader.Level.{Level}
use Rattle.pssm_acts.specs.declared.expr_reader.Place.TheVariants.{Wants, Has}
use Rattle.pssm_acts.specs.declared.expr_reader.ExprReader.{ExprReader}
use Rattle.pssm_acts.specs.Tokens.{Token}
use Rattle.pssm_acts.specs.inner.NumberReading.{number_read}
use Rattle.pssm_acts.specs.inner.ExprReading.{product_of, sum_of, at_atom, atom_of, level_opened, expr_step}
use Rattle.pssm_acts.specs.Grammar.{Part, Atom, Product, Sum}
use Rattle.pssm_acts.specs.Shapes.{IsWritten, ExprShape, number, name, parameter, parentheses, atom, times, product, plus, minus}
use Rattle.pssm_acts.proofs.ExprRead.{expr_steps_in, reader_at, step_number, step_name, step_parameter, step_open, step_close, step_times, step_plus, step_minus}
use Rattle.pssm_acts.proofs.NumberFaults.{NumberFault, unwritten, too_wide, number_fault}

-- The fault is no fault of the shape.
abbrev pub IsOther : ActFault → Type 0
IsOther (Syntax at) = ⊥
IsOther fault = Unit {0}

abbrev refusal : {A : Type 0} → ActFault → Result A ActFault
refusal fault = Err fault

pub place_no_other : {A : Type 0} (at : ℕ) (fault : ActFault) → refusal {A = A} (Syntax at) ≡ refusal fault → IsOther fault → ⊥
place_no_other at fault is other = let same : Syntax at ≡ fault = cc in subst IsOther (sym same) other

-- The tokens are taken one after another and lead to the goal; or one of them is refused, by a fault that is not `Syntax`.
pub data Fares {S : Type 0} (step : S → Token → Result S ActFault) (Goal : S → Type 0) : S → List Token → Type 0 where
  arrives : {s : S} → Goal s → Fares step Goal s []
  goes : {s n : S} {t : Token} {ts : List Token} → step s t ≡ Ok n → Fares step Goal n ts → Fares step Goal s (t ∷ ts)
  stops : {s : S} {t : Token} {ts : List Token} (fault : ActFault) → step s t ≡ Err fault → IsOther fault → Fares step Goal s (t ∷ ts)

-- The state is one of these.
abbrev pub Among : {S X : Type 0} → (X → S) → S → Type 0
Among {X = X} f s = (x : X) × (s ≡ f x)

pub fares_on : {S : Type 0} {step : S → Token → Result S ActFault} {Goal Next : S → Type 0} {s : S} {ts us : List Token} → Fares step Goal s ts → ((n : S) → Goal n → Fares step Next n us) → Fares step Next s (ts ++ us)
fares_on (arrives {s} goal) further = further s goal
fares_on (goes taken rest) further = goes taken (fares_on rest further)
fares_on (stops fault refused other) further = stops fault refused other

pub fares_to : {S X : Type 0} {step : S → Token → Result S ActFault} {Next : S → Type 0} {s : S} {ts us : List Token} (f : X → S) → Fares step (Among f) s ts → ((x : X) → Fares step Next (f x) us) → Fares step Next s (ts ++ us)
fares_to {step = step} {Next = Next} {us = us} f fares further = fares_on fares (λ n goal. subst (λ m. Fares step Next m us) (sym goal.1) (further goal.0))

-- the same with another goal
pub fares_as : {S : Type 0} {step : S → Token → Result S ActFault} {Goal Next : S → Type 0} {s : S} {ts : List Token} → Fares step Goal s ts → ((n : S) → Goal n → Next n) → Fares step Next s ts
fares_as (arrives {s} goal) change = arrives (change s goal)
fares_as (goes taken rest) change = goes taken (fares_as rest change)
fares_as (stops fault refused other) change = stops fault refused other

-- the same within a whole
fares_within : {S W : Type 0} {step : S → Token → Result S ActFault} {whole : W → Token → Result W ActFault} {Goal : S → Type 0} {s : S} {ts : List Token} (f : S → W)
    → ((s n : S) (t : Token) → step s t ≡ Ok n → whole (f s) t ≡ Ok (f n)) → ((s : S) (t : Token) (fault : ActFault) → step s t ≡ Err fault → IsOther fault → whole (f s) t ≡ Err fault)
    → Fares step Goal s ts → Fares whole (λ w. (n : S) × Goal n × (w ≡ f n)) (f s) ts
fares_within f takes refuses (arrives {s} goal) = arrives (s, goal, refl)
fares_within f takes refuses (goes {s} {n} {t} taken rest) = goes (takes s n t taken) (fares_within f takes refuses rest)
fares_within f takes refuses (stops {s} {t} fault refused other) = stops fault (refuses s t fault refused other) other

-- the same within a whole that leads to some of its states
pub fares_part : {S W X : Type 0} {step : S → Token → Result S ActFault} {whole : W → Token → Result W ActFault} {s : S} {ts : List Token} (f : S → W) (h : X → S)
    → ((s n : S) (t : Token) → step s t ≡ Ok n → whole (f s) t ≡ Ok (f n)) → ((s : S) (t : Token) (fault : ActFault) → step s t ≡ Err fault → IsOther fault → whole (f s) t ≡ Err fault)
    → Fares step (Among h) s ts → Fares whole (Among (λ x. f (h x))) (f s) ts
fares_part f h takes refuses fares = fares_as (fares_within f takes refuses fares) (λ w goal. (goal.1.0, goal.2 ∙ ap f goal.1.1))

-- the same where the whole begins with the first token of the part
pub fares_begun : {S W X : Type 0} {step : S → Token → Result S ActFault} {whole : W → Token → Result W ActFault} {s : S} {ts : List Token} (f : S → W) (h : X → S) (start : W)
    → ((n : S) (t : Token) → step s t ≡ Ok n → whole start t ≡ Ok (f n)) → ((t : Token) (fault : ActFault) → step s t ≡ Err fault → IsOther fault → whole start t ≡ Err fault) → ((x : X) → s ≡ h x → ⊥)
    → ((s n : S) (t : Token) → step s t ≡ Ok n → whole (f s) t ≡ Ok (f n)) → ((s : S) (t : Token) (fault : ActFault) → step s t ≡ Err fault → IsOther fault → whole (f s) t ≡ Err fault)
    → Fares step (Among h) s ts → Fares whole (Among (λ x. f (h x))) start ts
fares_begun f h start begins fails never takes refuses (arrives goal) = absurd (never goal.0 goal.1)
fares_begun f h start begins fails never takes refuses (goes {s} {n} {t} taken rest) = goes (begins n t taken) (fares_part f h takes refuses rest)
fares_begun f h start begins fails never takes refuses (stops {s} {t} fault refused other) = stops fault (fails t fault refused other) other

-- ---- expressions

-- an operand has been read
abbrev pub has_read : List Level → Left → Expr → ExprReader
has_read outer left e = reader_at outer left (Has e)

-- a sum has been read
abbrev pub sum_read : List Level → Left × Expr → ExprReader
sum_read outer p = reader_at outer p.0 (Has p.1)

module _ (names : Names) (room : ℕ) (outer : List Level) (left : Left) (factor : Option Expr) (t : Token) where
  refuses_number : t.kind ≡ kinds.Number → number_read t.at t.word ≡ Err (WideNumber t.at) → expr_step names room (reader_at outer left (Wants factor)) t ≡ Err (WideNumber t.at)
  unfolding expr_step at_atom atom_of
  refuses_number is read = simp (is, read) refl

  refuses_name : t.kind ≡ kinds.Name → position (λ n. bytes_eq n t.word) names.vars ≡ None → expr_step names room (reader_at outer left (Wants factor)) t ≡ Err (UnknownName t.at)
  unfolding expr_step at_atom atom_of
  refuses_name is none = simp (is, none) refl

  refuses_open : t.kind ≡ kinds.Open → ltb (length outer) room ≡ false → expr_step names room (reader_at outer left (Wants factor)) t ≡ Err (TooLong t.at)
  unfolding expr_step at_atom level_opened
  refuses_open is deep = simp (is, deep) refl

  number_fares : t.kind ≡ kinds.Number → IsWritten t.word → Fares (expr_steps_in names room) (Among (has_read outer left)) (reader_at outer left (Wants factor)) (t ∷ [])
  number_fares is written = go (number_read t.at t.word) refl where
    wide : (fault : ActFault) → number_read t.at t.word ≡ Err fault → NumberFault t.at t.word fault → number_read t.at t.word ≡ Err (WideNumber t.at)
    wide fault read (unwritten none) = absurd (none written)
    wide fault read (too_wide written') = read

    go : (r : Result ℤ ActFault) → number_read t.at t.word ≡ r → Fares (expr_steps_in names room) (Among (has_read outer left)) (reader_at outer left (Wants factor)) (t ∷ [])
    go (Ok v) read = goes (step_number names room outer left factor t v is read) (arrives (product_of factor (Num v), refl))
    go (Err fault) read = stops (WideNumber t.at) (refuses_number is (wide fault read (number_fault t.at t.word fault read))) tt

  name_fares : t.kind ≡ kinds.Name → Fares (expr_steps_in names room) (Among (has_read outer left)) (reader_at outer left (Wants factor)) (t ∷ [])
  name_fares is = go (position (λ n. bytes_eq n t.word) names.vars) refl where
    go : (found : Option ℕ) → position (λ n. bytes_eq n t.word) names.vars ≡ found → Fares (expr_steps_in names room) (Among (has_read outer left)) (reader_at outer left (Wants factor)) (t ∷ [])
    go (Some x) found = goes (step_name names room outer left factor t x is found) (arrives (product_of factor (Var x), refl))
    go None found = stops (UnknownName t.at) (refuses_name is found) tt

  open_fares : (rest : List Token) → t.kind ≡ kinds.Open → Fares (expr_steps_in names room) (Among (has_read outer left)) (reader_at (record { left = left; factor = factor } ∷ outer) Nothing (Wants None)) rest
      → Fares (expr_steps_in names room) (Among (has_read outer left)) (reader_at outer left (Wants factor)) (t ∷ rest)
  open_fares rest is inner = go (ltb (length outer) room) refl where
    go : (b : Bool) → ltb (length outer) room ≡ b → Fares (expr_steps_in names room) (Among (has_read outer left)) (reader_at outer left (Wants factor)) (t ∷ rest)
    go true e = goes (step_open names room outer left factor t is (ltb-true (length outer) room e)) inner
    go false e = stops (TooLong t.at) (refuses_open is e) tt

abbrev pub ExprFares : Names → ℕ → List Level → Part → List Token → Type 0
ExprFares names room outer Atom ts = (left : Left) (factor : Option Expr) → Fares (expr_steps_in names room) (Among (has_read outer left)) (reader_at outer left (Wants factor)) ts
ExprFares names room outer Product ts = (left : Left) → Fares (expr_steps_in names room) (Among (has_read outer left)) (reader_at outer left (Wants None)) ts
ExprFares names room outer Sum ts = Fares (expr_steps_in names room) (Among (sum_read outer)) (reader_at outer Nothing (Wants None)) ts

-- Tokens of the shape of an expression are not refused for their shape.
pub expr_fares : {part : Part} {ts : List Token} (names : Names) (room : ℕ) (outer : List Level) → ExprShape part ts → ExprFares names room outer part ts
expr_fares names room outer (number {t} is written) = λ left factor. number_fares names room outer left factor t is written
expr_fares names room outer (name {t} is) = λ left factor. name_fares names room outer left factor t is
expr_fares names room outer (parameter {t} {k} is) = λ left factor. goes (step_parameter names room outer left factor t k is) (arrives (product_of factor (Param k), refl))
expr_fares names room outer (parentheses {opening} closing {ts} opens inner closes) = λ left factor.
    let level : Level = record { left = left; factor = factor } in
    let body : ExprFares names room (level ∷ outer) Sum ts = expr_fares names room (level ∷ outer) inner in
    open_fares names room outer left factor opening (ts ++ closing ∷ []) opens
    (fares_to (sum_read (level ∷ outer)) body (λ p. goes (step_close names room outer p.0 level p.1 closing closes) (arrives (product_of factor (sum_of p.0 p.1), refl))))
expr_fares names room outer (atom a) = λ left. expr_fares names room outer a left None
expr_fares names room outer (times t {ts} {us} front is back) = λ left.
    let first : ExprFares names room outer Product ts = expr_fares names room outer front in
    let second : ExprFares names room outer Atom us = expr_fares names room outer back in
    fares_to (has_read outer left) (first left) (λ e. goes (step_times names room outer left e t is) (second left (Some e)))
expr_fares names room outer (product {ts} p) =
    let only : ExprFares names room outer Product ts = expr_fares names room outer p in
    fares_as (only Nothing) (λ n goal. ((Nothing, goal.0), goal.1))
expr_fares names room outer (plus t {ts} {us} front is back) =
    let first : ExprFares names room outer Sum ts = expr_fares names room outer front in
    let second : ExprFares names room outer Product us = expr_fares names room outer back in
    fares_to (sum_read outer) first (λ p. goes (step_plus names room outer p.0 p.1 t is) (fares_as (second (Plus (sum_of p.0 p.1))) (λ n goal. ((Plus (sum_of p.0 p.1), goal.0), goal.1))))
expr_fares names room outer (minus t {ts} {us} front is back) =
    let first : ExprFares names room outer Sum ts = expr_fares names room outer front in
    let second : ExprFares names room outer Product us = expr_fares names room outer back in
    fares_to (sum_read outer) first (λ p. goes (step_minus names room outer p.0 p.1 t is) (fares_as (second (Minus (sum_of p.0 p.1))) (λ n goal. ((Minus (sum_of p.0 p.1), goal.0), goal.1))))
