-- What the tokens so far come to, what a token fits or breaks there, and what a step says of both.
use Rattle.std.proofs.Common.{◌≡◌, ◌≤◌, ◌<◌, ◌+◌, ◌-◌, ℕ, suc, ℤ, Bool, true, false, List, [], ◌∷◌, ◌++◌, length, None, Result, Ok, Err, refl, sym, ap, ◌∙◌, arith, position, bytes_eq, if◌then◌else◌}
use Rattle.std.proofs.lemmas.List.Sums.{fold-append}
use Rattle.pssm_acts.specs.declared.act_fault.ActFault.{ActFault}
use Rattle.pssm_acts.specs.declared.act_fault.ActFault.TheVariants.{Syntax, UnknownName, WideNumber, Arity, TooLong, NoMemory}
use Rattle.pssm_semantics.specs.declared.setting.Names.{Names}
use Rattle.pssm_acts.specs.declared.token.Kind.{Kind}
use Rattle.pssm_acts.specs.declared.token.Kind.TheVariants as kinds
use Rattle.pssm_acts.specs.inner.ExprReading.{and_then}
use Rattle.pssm_spelling.specs.Numbers.{SpellsNumber}
use Rattle.pssm_acts.specs.TextFaults.{Place, Statement, Operand, place_behind, place, IsUnknown, IsOpening, levels_behind, open_levels, begun_behind, statements_begun, BeginsStatement, steps_behind, steps_ended}
use Rattle.pssm_acts.specs.Tokens.{Token}

-- what tokens come to: the place behind them, the levels that are open, the statements that have begun, and the steps that have ended
pub record Tally : Type 0 where
  pub place : Place
  pub levels : ℕ
  pub begun : ℕ
  pub steps : ℕ

abbrev pub tally : List Token → Tally
tally ts = record { place = place ts; levels = open_levels ts; begun = statements_begun ts; steps = steps_ended ts }

abbrev pub tally_behind : Kind → Tally → Tally
tally_behind kind c = record { place = place_behind kind; levels = levels_behind kind c.levels; begun = begun_behind kind c.begun; steps = steps_behind kind c.steps }

-- so many levels, and one for each of a list
abbrev pub over : {A : Type 0} → List A → ℕ → ℕ
over [] base = base
over (x ∷ xs) base = suc (over xs base)

pub over_is : {A : Type 0} (xs : List A) (base : ℕ) → over xs base ≡ length xs + base
over_is [] base = omega arith
over_is (x ∷ xs) base = omega (arith, over_is xs base)

-- an operand may stand behind them
abbrev pub operand : ℕ → ℕ → ℕ → Tally
operand levels begun steps = record { place = Operand; levels = levels; begun = begun; steps = steps }

pub same_tally : {p : Place} {k l b c m n : ℕ} → k ≡ l → b ≡ c → m ≡ n → (let it : Tally = record { place = p; levels = k; begun = b; steps = m } in it) ≡ record { place = p; levels = l; begun = c; steps = n }
same_tally {p} {k} {l} {b} {c} {m} {n} levels begun steps =
    ap (λ x. let it : Tally = record { place = p; levels = x; begun = b; steps = m } in it) levels
    ∙ ap (λ x. let it : Tally = record { place = p; levels = l; begun = x; steps = m } in it) begun
    ∙ ap (λ x. let it : Tally = record { place = p; levels = l; begun = c; steps = x } in it) steps

-- no token, and one more
pub tally_none : tally [] ≡ record { place = Statement; levels = 0; begun = 0; steps = 0 }
unfolding place open_levels statements_begun steps_ended
tally_none = refl

pub tally_more : (ts : List Token) (t : Token) → tally (ts ++ t ∷ []) ≡ tally_behind t.kind (tally ts)
unfolding place open_levels statements_begun steps_ended
tally_more ts t =
    ap (λ x. let it : Tally = record { place = x; levels = open_levels (ts ++ t ∷ []); begun = statements_begun (ts ++ t ∷ []); steps = steps_ended (ts ++ t ∷ []) } in it) (fold-append (λ p u. place_behind u.kind) Statement ts (t ∷ []))
    ∙ same_tally (fold-append (λ n u. levels_behind u.kind n) 0 ts (t ∷ [])) (fold-append (λ n u. begun_behind u.kind n) 0 ts (t ∷ [])) (fold-append (λ n u. steps_behind u.kind n) 0 ts (t ∷ []))

-- ---- what a token fits

-- The token breaks no rule behind such tokens, but perhaps that of the number of arguments.
abbrev pub Fits : Kind → Names → List ℕ → Tally → Type 0
Fits kinds.Name names word c = (IsUnknown c.place names word → ⊥) × (c.place ≡ Statement → c.begun < 64)
Fits kinds.Number names word c = (n : ℤ) × SpellsNumber word n
Fits kinds.Open names word c = c.levels < 16
Fits kinds.OpenBracket names word c = c.levels < 16
Fits kinds.OpenBrace names word c = c.levels < 16
Fits kinds.If names word c = c.begun < 64
Fits kinds.Send names word c = c.begun < 64
Fits kinds.Mark names word c = c.begun < 64
Fits kinds.Step names word c = c.steps < 63
Fits kind names word c = Unit {0}

-- The token of an expression, of a guard or of arguments fits where so many levels are open, and leaves so many open.
abbrev pub Taken : Kind → Names → List ℕ → ℕ → ℕ → Type 0
Taken kinds.Name names word l m = (m ≡ l) × (position (λ name. bytes_eq name word) names.vars ≡ None → ⊥)
Taken kinds.Number names word l m = (m ≡ l) × ((n : ℤ) × SpellsNumber word n)
Taken kinds.Open names word l m = (m ≡ suc l) × (l < 16)
Taken kinds.OpenBracket names word l m = (m ≡ suc l) × (l < 16)
Taken kinds.Close names word l m = m ≡ l - 1
Taken kinds.CloseBracket names word l m = m ≡ l - 1
Taken (kinds.Param k) names word l m = m ≡ l
Taken kinds.True names word l m = m ≡ l
Taken kinds.False names word l m = m ≡ l
Taken (kinds.Relation rel) names word l m = m ≡ l
Taken kinds.Plus names word l m = m ≡ l
Taken kinds.Minus names word l m = m ≡ l
Taken kinds.Times names word l m = m ≡ l
Taken kinds.Not names word l m = m ≡ l
Taken kinds.And names word l m = m ≡ l
Taken kinds.Or names word l m = m ≡ l
Taken kinds.Comma names word l m = m ≡ l
Taken kind names word l m = ⊥

-- the same in a whole
pub taken_fits : (names : Names) (word : List ℕ) (l m b s : ℕ) (kind : Kind) → Taken kind names word l m → Fits kind names word (operand l b s) × (tally_behind kind (operand l b s) ≡ operand m b s)
taken_fits names word l m b s kinds.Name h = ((h.1, λ e. absurd cc), ap (λ x. operand x b s) (sym h.0))
taken_fits names word l m b s kinds.Number h = (h.1, ap (λ x. operand x b s) (sym h.0))
taken_fits names word l m b s kinds.Open h = (h.1, ap (λ x. operand x b s) (sym h.0))
taken_fits names word l m b s kinds.OpenBracket h = (h.1, ap (λ x. operand x b s) (sym h.0))
taken_fits names word l m b s kinds.Close h = (tt, ap (λ x. operand x b s) (sym h))
taken_fits names word l m b s kinds.CloseBracket h = (tt, ap (λ x. operand x b s) (sym h))
taken_fits names word l m b s (kinds.Param k) h = (tt, ap (λ x. operand x b s) (sym h))
taken_fits names word l m b s kinds.True h = (tt, ap (λ x. operand x b s) (sym h))
taken_fits names word l m b s kinds.False h = (tt, ap (λ x. operand x b s) (sym h))
taken_fits names word l m b s (kinds.Relation rel) h = (tt, ap (λ x. operand x b s) (sym h))
taken_fits names word l m b s kinds.Plus h = (tt, ap (λ x. operand x b s) (sym h))
taken_fits names word l m b s kinds.Minus h = (tt, ap (λ x. operand x b s) (sym h))
taken_fits names word l m b s kinds.Times h = (tt, ap (λ x. operand x b s) (sym h))
taken_fits names word l m b s kinds.Not h = (tt, ap (λ x. operand x b s) (sym h))
taken_fits names word l m b s kinds.And h = (tt, ap (λ x. operand x b s) (sym h))
taken_fits names word l m b s kinds.Or h = (tt, ap (λ x. operand x b s) (sym h))
taken_fits names word l m b s kinds.Comma h = (tt, ap (λ x. operand x b s) (sym h))
taken_fits names word l m b s kind h = absurd h

-- ---- what a token breaks

-- The token is past a limit.
pub data Exceeds (names : Names) (t : Token) (c : Tally) : Type 0 where
  level : IsOpening t.kind → 16 ≤ c.levels → Exceeds names t c
  statement : BeginsStatement t.kind c.place names t.word → 64 ≤ c.begun → Exceeds names t c
  step : t.kind ≡ kinds.Step → 63 ≤ c.steps → Exceeds names t c

-- The fault stands at the token, which breaks that rule, or is misplaced; the number of arguments may be wrong only where that is given.
abbrev pub IsFaultOf : ActFault → Type 0 → Names → Token → Tally → Type 0
IsFaultOf (Syntax k) Wrong names t c = k ≡ t.at
IsFaultOf (UnknownName k) Wrong names t c = (k ≡ t.at) × (t.kind ≡ kinds.Name) × IsUnknown c.place names t.word
IsFaultOf (WideNumber k) Wrong names t c = (k ≡ t.at) × (t.kind ≡ kinds.Number) × ((n : ℤ) → SpellsNumber t.word n → ⊥)
IsFaultOf (Arity k) Wrong names t c = (k ≡ t.at) × Wrong
IsFaultOf (TooLong k) Wrong names t c = (k ≡ t.at) × Exceeds names t c
IsFaultOf NoMemory Wrong names t c = ⊥

-- ---- what a step says

-- The step leads to such a state, or its fault is one of the token.
abbrev pub KnownSignals : {A : Type 0} → (A → Type 0) → Type 0 → Names → Token → Tally → Result A ActFault → Type 0
KnownSignals IsNext Wrong names t c (Ok a) = IsNext a
KnownSignals IsNext Wrong names t c (Err fault) = IsFaultOf fault Wrong names t c

module _ (Wrong : Type 0) (names : Names) (t : Token) (c : Tally) where
  pub told_then : {A B : Type 0} (IsNext : A → Type 0) (IsLast : B → Type 0) (x : Result A ActFault) (f : A → Result B ActFault) → KnownSignals IsNext Wrong names t c x → ((a : A) → IsNext a → KnownSignals IsLast Wrong names t c (f a))
      → KnownSignals IsLast Wrong names t c (and_then x f)
  told_then IsNext IsLast (Ok a) f first after = after a first
  told_then IsNext IsLast (Err fault) f first after = first

  pub told_from : {A B : Type 0} (IsNext : A → Type 0) (IsLast : B → Type 0) (x : Result A ActFault) (f : A → Result B ActFault) → KnownSignals IsNext Wrong names t c x → ((a : A) → x ≡ Ok a → IsNext a → KnownSignals IsLast Wrong names t c (f a))
      → KnownSignals IsLast Wrong names t c (and_then x f)
  told_from IsNext IsLast (Ok a) f first after = after a refl first
  told_from IsNext IsLast (Err fault) f first after = first

  pub told_if : {A : Type 0} (IsNext : A → Type 0) (b : Bool) (x y : Result A ActFault) → (b ≡ true → KnownSignals IsNext Wrong names t c x) → (b ≡ false → KnownSignals IsNext Wrong names t c y) → KnownSignals IsNext Wrong names t c (if b then x else y)
  told_if IsNext true x y first second = first refl
  told_if IsNext false x y first second = second refl
