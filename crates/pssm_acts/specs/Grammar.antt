-- The grammar of guards, over the tokens of a text, with the names and limits that it obeys (this profile's choice).
use Rattle.std.specs.Prelude.{◌≡◌, ◌≤◌, ℕ, suc, ℤ, List, [], ◌∷◌, ◌++◌, length, Some, position, bytes_eq}
use Rattle.pssm_semantics.specs.declared.setting.Names.{Names}
use Rattle.pssm_acts.specs.declared.token.Kind.TheVariants as kinds
use Rattle.pssm_semantics.specs.declared.tree.Expr.{Expr}
use Rattle.pssm_semantics.specs.declared.tree.Expr.TheVariants.{Num, Var, Param}
use Rattle.pssm_semantics.specs.declared.tree.Expr.TheViews as views
use Rattle.pssm_semantics.specs.declared.tree.Rel.{Rel}
use Rattle.pssm_semantics.specs.declared.tree.Cond.{Cond}
use Rattle.pssm_semantics.specs.declared.tree.Cond.TheVariants.{True, False, Compare}
use Rattle.pssm_semantics.specs.declared.tree.Cond.TheViews as guards
use Rattle.pssm_spelling.specs.Numbers.{SpellsNumber}
use Rattle.pssm_acts.specs.Tokens.{Token, tokens_of}

-- The parts of an expression: an atom, atoms joined by `*`, and such products joined by `+` and `-`.
pub data Part : Type 0 where
  Atom : Part
  Product : Part
  Sum : Part

-- The tokens spell the expression as such a part, with at most so many levels of parentheses open at once; chains group from the left.
pub data SpellsExpr (names : Names) : Part → ℕ → List Token → Expr → Type 0 where
  -- a number, a variable of the class, or a parameter
  number : {l : ℕ} {t : Token} {n : ℤ} → t.kind ≡ kinds.Number → SpellsNumber t.word n → SpellsExpr names Atom l (t ∷ []) (Num n)
  variable : {l : ℕ} {t : Token} {x : ℕ} → t.kind ≡ kinds.Name → position (λ name. bytes_eq name t.word) names.vars ≡ Some x → SpellsExpr names Atom l (t ∷ []) (Var x)
  parameter : {l : ℕ} {t : Token} {k : ℕ} → t.kind ≡ kinds.Param k → SpellsExpr names Atom l (t ∷ []) (Param k)
  -- an expression in parentheses
  parentheses : {l : ℕ} {opening : Token} (closing : Token) {ts : List Token} {e : Expr} → opening.kind ≡ kinds.Open → SpellsExpr names Sum l ts e → closing.kind ≡ kinds.Close
      → SpellsExpr names Atom (suc l) (opening ∷ (ts ++ closing ∷ [])) e
  -- products
  atom : {l : ℕ} {ts : List Token} {e : Expr} → SpellsExpr names Atom l ts e → SpellsExpr names Product l ts e
  times : {l : ℕ} (t : Token) {ts us : List Token} {a b : Expr} → SpellsExpr names Product l ts a → t.kind ≡ kinds.Times → SpellsExpr names Atom l us b
      → SpellsExpr names Product l (ts ++ t ∷ us) (views.Prod a b)
  -- sums and differences
  product : {l : ℕ} {ts : List Token} {e : Expr} → SpellsExpr names Product l ts e → SpellsExpr names Sum l ts e
  plus : {l : ℕ} (t : Token) {ts us : List Token} {a b : Expr} → SpellsExpr names Sum l ts a → t.kind ≡ kinds.Plus → SpellsExpr names Product l us b
      → SpellsExpr names Sum l (ts ++ t ∷ us) (views.Sum a b)
  minus : {l : ℕ} (t : Token) {ts us : List Token} {a b : Expr} → SpellsExpr names Sum l ts a → t.kind ≡ kinds.Minus → SpellsExpr names Product l us b
      → SpellsExpr names Sum l (ts ++ t ∷ us) (views.Diff a b)

-- The parts of a guard: a unit, units joined by `&&`, and such conjunctions joined by `||`.
pub data GuardPart : Type 0 where
  Unit' : GuardPart
  Both : GuardPart
  Either : GuardPart

-- The tokens spell the guard as such a part, with at most so many levels of brackets and parentheses open at once; chains group from the left.
pub data SpellsGuard (names : Names) : GuardPart → ℕ → List Token → Cond → Type 0 where
  -- `true`, `false`, `!` and a unit, a guard in brackets, two expressions in a relation
  truth : {l : ℕ} {t : Token} → t.kind ≡ kinds.True → SpellsGuard names Unit' l (t ∷ []) True
  falsity : {l : ℕ} {t : Token} → t.kind ≡ kinds.False → SpellsGuard names Unit' l (t ∷ []) False
  negation : {l : ℕ} {t : Token} {ts : List Token} {c : Cond} → t.kind ≡ kinds.Not → SpellsGuard names Unit' l ts c → SpellsGuard names Unit' l (t ∷ ts) (guards.Not c)
  brackets : {l : ℕ} {opening : Token} (closing : Token) {ts : List Token} {c : Cond} → opening.kind ≡ kinds.OpenBracket → SpellsGuard names Either l ts c → closing.kind ≡ kinds.CloseBracket
      → SpellsGuard names Unit' (suc l) (opening ∷ (ts ++ closing ∷ [])) c
  relation : {l : ℕ} (t : Token) {ts us : List Token} {rel : Rel} {a b : Expr} → SpellsExpr names Sum l ts a → t.kind ≡ kinds.Relation rel → SpellsExpr names Sum l us b
      → SpellsGuard names Unit' l (ts ++ t ∷ us) (Compare rel a b)
  -- units joined by `&&`
  lone_unit : {l : ℕ} {ts : List Token} {c : Cond} → SpellsGuard names Unit' l ts c → SpellsGuard names Both l ts c
  conjoined : {l : ℕ} (t : Token) {ts us : List Token} {c d : Cond} → SpellsGuard names Both l ts c → t.kind ≡ kinds.And → SpellsGuard names Unit' l us d
      → SpellsGuard names Both l (ts ++ t ∷ us) (guards.And c d)
  -- conjunctions joined by `||`
  lone_conjunction : {l : ℕ} {ts : List Token} {c : Cond} → SpellsGuard names Both l ts c → SpellsGuard names Either l ts c
  disjoined : {l : ℕ} (t : Token) {ts us : List Token} {c d : Cond} → SpellsGuard names Either l ts c → t.kind ≡ kinds.Or → SpellsGuard names Both l us d
      → SpellsGuard names Either l (ts ++ t ∷ us) (guards.Or c d)

-- The text spells the guard: it has at most 4,096 bytes, and nests at most 16 levels deep.
pub record SpellsCond (names : Names) (text : List ℕ) (cond : Cond) : Type 0 where
  pub short : length text ≤ 4096
  pub spelled : SpellsGuard names Either 16 (tokens_of text) cond
