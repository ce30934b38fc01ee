-- Parameters in texts are `$1` to `$8`, so the numbers in what is read are in range.
use Rattle.std.proofs.Common.{◌≡◌, ◌≤◌, ◌-◌, ℕ, suc, zero, Bool, true, false, leb, eqb, ◌&&◌, List, [], ◌∷◌, ◌++◌, length, take, Option, Some, None, refl, sym, subst, arith, bytes_eq, if◌then◌else◌, min, nat_lt, slice_index_or, codes}
use Rattle.std.specs.List.{prefix_len}
use Rattle.pssm_spelling.specs.Spelling.{continues_name}
use Rattle.std.proofs.lemmas.Bool.{and_parts, leb-true}
use Rattle.std.proofs.lemmas.List.Quantifiers.{position-Some}
use Rattle.pssm_semantics.specs.declared.setting.Names.{Names}
use Rattle.pssm_acts.specs.declared.token.Kind.{Kind}
use Rattle.pssm_acts.specs.declared.token.Kind.TheVariants as kinds
use Rattle.pssm_semantics.specs.declared.tree.Rel.TheVariants.{Eq, Ne, Lt, Le, Gt, Ge}
use Rattle.pssm_semantics.specs.declared.tree.Expr.{Expr}
use Rattle.pssm_semantics.specs.declared.tree.Cond.{Cond}
use Rattle.pssm_semantics.specs.Fits.{ExprFits, CondFits}
use Rattle.pssm_spelling.specs.SpellingReading.{starts_name}
use Rattle.pssm_acts.specs.Tokens.{Token, is_blank, word_kind, double_sign, single_sign, longest_sign, sign_front, number_or_sign, number_len, front, ends_operand, cut, tokens_of}
use Rattle.pssm_acts.specs.Grammar.{Part, SpellsExpr, number, variable, parameter, parentheses, atom, times, product, plus, minus, GuardPart, Either, SpellsGuard, truth, falsity, negation, brackets, relation, lone_unit, conjoined, lone_conjunction, disjoined}
use Rattle.pssm_semantics.proofs.Views.{Sum-is, Diff-is, Prod-is, Not-is, And-is, Or-is}

-- A parameter has a number from 1 to 8.
abbrev pub IsInRange : Kind → Type 0
IsInRange (kinds.Param k) = (1 ≤ k) × (k ≤ 8)
IsInRange kind = Unit {0}

abbrev IsInRangeSome : Option Kind → Type 0
IsInRangeSome (Some kind) = IsInRange kind
IsInRangeSome None = Unit {0}

words : (b0 b1 b2 b3 b4 b5 b6 b7 : Bool) → IsInRange (if b0 then kinds.If else if b1 then kinds.Else else if b2 then kinds.Send else if b3 then kinds.Mark else if b4 then kinds.Step else if b5 then kinds.True else if b6 then kinds.False else if b7 then kinds.Own else kinds.Name)
words true b1 b2 b3 b4 b5 b6 b7 = tt
words false true b2 b3 b4 b5 b6 b7 = tt
words false false true b3 b4 b5 b6 b7 = tt
words false false false true b4 b5 b6 b7 = tt
words false false false false true b5 b6 b7 = tt
words false false false false false true b6 b7 = tt
words false false false false false false true b7 = tt
words false false false false false false false true = tt
words false false false false false false false false = tt

word_in_range : (w : List ℕ) → IsInRange (word_kind w)
word_in_range w = words (bytes_eq w (codes "if")) (bytes_eq w (codes "else")) (bytes_eq w (codes "send")) (bytes_eq w (codes "mark")) (bytes_eq w (codes "step")) (bytes_eq w (codes "true")) (bytes_eq w (codes "false")) (bytes_eq w (codes "self"))

doubles : (b0 b1 b2 b3 b4 b5 b6 : Bool) → IsInRangeSome (if b0 then Some kinds.And else if b1 then Some kinds.Or else if b2 then Some (kinds.Relation Eq) else if b3 then Some (kinds.Relation Ne) else if b4 then Some (kinds.Relation Le) else if b5 then Some (kinds.Relation Ge) else if b6 then Some kinds.Becomes else None)
doubles true b1 b2 b3 b4 b5 b6 = tt
doubles false true b2 b3 b4 b5 b6 = tt
doubles false false true b3 b4 b5 b6 = tt
doubles false false false true b4 b5 b6 = tt
doubles false false false false true b5 b6 = tt
doubles false false false false false true b6 = tt
doubles false false false false false false true = tt
doubles false false false false false false false = tt

double_in_range : (c d : ℕ) → IsInRangeSome (double_sign c d)
double_in_range c d = doubles (eqb c 38 && eqb d 38) (eqb c 124 && eqb d 124) (eqb c 61 && eqb d 61) (eqb c 33 && eqb d 61) (eqb c 60 && eqb d 61) (eqb c 62 && eqb d 61) (eqb c 58 && eqb d 61)

singles : (b0 b1 b2 b3 b4 b5 b6 b7 b8 b9 b10 b11 b12 b13 b14 : Bool) → IsInRange (if b0 then kinds.Plus else if b1 then kinds.Minus else if b2 then kinds.Times else if b3 then kinds.Open else if b4 then kinds.Close else if b5 then kinds.OpenBracket else if b6 then kinds.CloseBracket else if b7 then kinds.OpenBrace else if b8 then kinds.CloseBrace else if b9 then kinds.Not else if b10 then kinds.Relation Lt else if b11 then kinds.Relation Gt else if b12 then kinds.Semicolon else if b13 then kinds.Comma else if b14 then kinds.Dot else kinds.Unknown)
singles true b1 b2 b3 b4 b5 b6 b7 b8 b9 b10 b11 b12 b13 b14 = tt
singles false true b2 b3 b4 b5 b6 b7 b8 b9 b10 b11 b12 b13 b14 = tt
singles false false true b3 b4 b5 b6 b7 b8 b9 b10 b11 b12 b13 b14 = tt
singles false false false true b4 b5 b6 b7 b8 b9 b10 b11 b12 b13 b14 = tt
singles false false false false true b5 b6 b7 b8 b9 b10 b11 b12 b13 b14 = tt
singles false false false false false true b6 b7 b8 b9 b10 b11 b12 b13 b14 = tt
singles false false false false false false true b7 b8 b9 b10 b11 b12 b13 b14 = tt
singles false false false false false false false true b8 b9 b10 b11 b12 b13 b14 = tt
singles false false false false false false false false true b9 b10 b11 b12 b13 b14 = tt
singles false false false false false false false false false true b10 b11 b12 b13 b14 = tt
singles false false false false false false false false false false true b11 b12 b13 b14 = tt
singles false false false false false false false false false false false true b12 b13 b14 = tt
singles false false false false false false false false false false false false true b13 b14 = tt
singles false false false false false false false false false false false false false true b14 = tt
singles false false false false false false false false false false false false false false true = tt
singles false false false false false false false false false false false false false false false = tt

single_in_range : (c : ℕ) → IsInRange (single_sign c)
single_in_range c = singles (eqb c 43) (eqb c 45) (eqb c 42) (eqb c 40) (eqb c 41) (eqb c 91) (eqb c 93) (eqb c 123) (eqb c 125) (eqb c 33) (eqb c 60) (eqb c 62) (eqb c 59) (eqb c 44) (eqb c 46)

longest_in_range : (found : Option Kind) (c : ℕ) → IsInRangeSome found → IsInRange (longest_sign found c).0
longest_in_range (Some kind) c h = h
longest_in_range None c h = single_in_range c

sign_in_range : (c d : ℕ) → IsInRange (sign_front c d).0
unfolding sign_front
sign_in_range c d = go ((eqb c 36 && leb 49 d) && leb d 56) refl where
  go : (b : Bool) → ((eqb c 36 && leb 49 d) && leb d 56) ≡ b → IsInRange (if b then (kinds.Param (d - 48), 2) else longest_sign (double_sign c d) c).0
  go true e =
      let parts = and_parts (eqb c 36 && leb 49 d) (leb d 56) e in
      let low : 49 ≤ d = leb-true 49 d (and_parts (eqb c 36) (leb 49 d) parts.0).1 in
      let high : d ≤ 56 = leb-true d 56 parts.1 in
      (omega arith, omega arith)
  go false e = longest_in_range (double_sign c d) c (double_in_range c d)

front_in_range : (a : Bool) (bytes : List ℕ) → IsInRange (front a bytes).0
unfolding front
front_in_range a bytes = go (starts_name bytes) where
  rest : (b : Bool) → IsInRange (if b then (kinds.Number, number_len a bytes) else sign_front (slice_index_or bytes 0 0) (slice_index_or bytes 1 0)).0
  rest true = tt
  rest false = sign_in_range (slice_index_or bytes 0 0) (slice_index_or bytes 1 0)

  go : (b : Bool) → IsInRange (if b then (word_kind (take (min (prefix_len continues_name bytes) 64) bytes), min (prefix_len continues_name bytes) 64) else number_or_sign (number_len a bytes) bytes).0
  go true = word_in_range (take (min (prefix_len continues_name bytes) 64) bytes)
  go false = rest (nat_lt 0 (number_len a bytes))

-- all tokens are in range
abbrev pub AreInRange : List Token → Type 0
AreInRange [] = Unit {0}
AreInRange (t ∷ ts) = IsInRange t.kind × AreInRange ts

pub cut_in_range : (end : ℕ) (a : Bool) (used : ℕ) (bytes : List ℕ) → AreInRange (cut end a used bytes)
unfolding cut
cut_in_range end a used [] = tt
cut_in_range end a (suc used) (c ∷ cs) = cut_in_range end a used cs
cut_in_range end a zero (c ∷ cs) = go (is_blank c) (cut_in_range end a zero cs) (cut_in_range end (ends_operand (front a (c ∷ cs)).0) ((front a (c ∷ cs)).1 - 1) cs) where
  go : (b : Bool) → AreInRange (cut end a zero cs) → AreInRange (cut end (ends_operand (front a (c ∷ cs)).0) ((front a (c ∷ cs)).1 - 1) cs)
      → AreInRange (if b then cut end a zero cs else record { at = end - length (c ∷ cs); kind = (front a (c ∷ cs)).0; word = take (front a (c ∷ cs)).1 (c ∷ cs) } ∷ cut end (ends_operand (front a (c ∷ cs)).0) ((front a (c ∷ cs)).1 - 1) cs)
  go true p q = p
  go false p q = (front_in_range a (c ∷ cs), q)

pub range_parts : (ts us : List Token) → AreInRange (ts ++ us) → AreInRange ts × AreInRange us
range_parts [] us h = (tt, h)
range_parts (t ∷ ts) us h = let rest = range_parts ts us h.1 in ((h.0, rest.0), rest.1)

pub expr_fits : {names : Names} {part : Part} {l : ℕ} {ts : List Token} {e : Expr} → SpellsExpr names part l ts e → AreInRange ts → ExprFits (length names.vars) e
expr_fits (number is spelled) h = tt
expr_fits {names} (variable {l} {t} {x} is found) h = (position-Some (λ name. bytes_eq name t.word) names.vars x [] found).0
expr_fits (parameter {l} {t} {k} is) h = subst IsInRange is h.0
expr_fits (parentheses {l} {opening} closing {ts} opens inner closes) h = expr_fits inner (range_parts ts (closing ∷ []) h.1).0
expr_fits (atom a) h = expr_fits a h
expr_fits {names} (times {l} t {ts} {us} {a} {b} front' is back) h =
    let parts = range_parts ts (t ∷ us) h in subst (ExprFits (length names.vars)) (sym (Prod-is a b)) (expr_fits front' parts.0, expr_fits back parts.1.1)
expr_fits (product p) h = expr_fits p h
expr_fits {names} (plus {l} t {ts} {us} {a} {b} front' is back) h =
    let parts = range_parts ts (t ∷ us) h in subst (ExprFits (length names.vars)) (sym (Sum-is a b)) (expr_fits front' parts.0, expr_fits back parts.1.1)
expr_fits {names} (minus {l} t {ts} {us} {a} {b} front' is back) h =
    let parts = range_parts ts (t ∷ us) h in subst (ExprFits (length names.vars)) (sym (Diff-is a b)) (expr_fits front' parts.0, expr_fits back parts.1.1)

pub guard_fits : {names : Names} {part : GuardPart} {l : ℕ} {ts : List Token} {c : Cond} → SpellsGuard names part l ts c → AreInRange ts → CondFits (length names.vars) c
guard_fits (truth is) h = tt
guard_fits (falsity is) h = tt
guard_fits {names} (negation {l} {t} {ts} {c} is inner) h = subst (CondFits (length names.vars)) (sym (Not-is c)) (guard_fits inner h.1)
guard_fits (brackets {l} {opening} closing {ts} opens inner closes) h = guard_fits inner (range_parts ts (closing ∷ []) h.1).0
guard_fits (relation {l} t {ts} {us} left is right) h = let parts = range_parts ts (t ∷ us) h in (expr_fits left parts.0, expr_fits right parts.1.1)
guard_fits (lone_unit u) h = guard_fits u h
guard_fits {names} (conjoined {l} t {ts} {us} {c} {d} front' is back) h =
    let parts = range_parts ts (t ∷ us) h in subst (CondFits (length names.vars)) (sym (And-is c d)) (guard_fits front' parts.0, guard_fits back parts.1.1)
guard_fits (lone_conjunction b) h = guard_fits b h
guard_fits {names} (disjoined {l} t {ts} {us} {c} {d} front' is back) h =
    let parts = range_parts ts (t ∷ us) h in subst (CondFits (length names.vars)) (sym (Or-is c d)) (guard_fits front' parts.0, guard_fits back parts.1.1)

-- The numbers in a guard that a text spells are in range.
pub spelled_fits : (names : Names) (text : List ℕ) (c : Cond) → SpellsGuard names Either 16 (tokens_of text) c → CondFits (length names.vars) c
spelled_fits names text c spelled = guard_fits spelled (cut_in_range (length text) false 0 text)
