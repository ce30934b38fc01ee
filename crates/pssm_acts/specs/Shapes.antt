-- The shapes of texts: the grammar of behaviours, steps and guards without names, widths, numbers of arguments and limits (this profile's choice).
use Rattle.std.specs.Prelude.{◌≡◌, ◌⊎◌, ℕ, suc, IsTrue, List, [], ◌∷◌, ◌++◌}
use Rattle.pssm_acts.specs.declared.token.Kind.TheVariants as kinds
use Rattle.pssm_semantics.specs.declared.tree.Rel.{Rel}
use Rattle.std.specs.Str.Parse.{digits_value}
use Rattle.pssm_acts.specs.Grammar.{Part, Atom, Product, Sum, GuardPart, Unit', Both, Either}
use Rattle.pssm_spelling.specs.Numbers.{is_natural}
use Rattle.pssm_acts.specs.Tokens.{Token}

-- The word is written as a number is, however wide: digits without leading zeros, or `-` and such digits that are not 0.
pub data IsWritten : List ℕ → Type 0 where
  natural : {digits : List ℕ} → IsTrue (is_natural digits) → IsWritten digits
  negative : {digits : List ℕ} {below : ℕ} → IsTrue (is_natural digits) → digits_value 10 digits ≡ suc below → IsWritten (45 ∷ digits)

-- The tokens have the shape of such a part of an expression.
pub data ExprShape : Part → List Token → Type 0 where
  number : {t : Token} → t.kind ≡ kinds.Number → IsWritten t.word → ExprShape Atom (t ∷ [])
  name : {t : Token} → t.kind ≡ kinds.Name → ExprShape Atom (t ∷ [])
  parameter : {t : Token} {k : ℕ} → t.kind ≡ kinds.Param k → ExprShape Atom (t ∷ [])
  parentheses : {opening : Token} (closing : Token) {ts : List Token} → opening.kind ≡ kinds.Open → ExprShape Sum ts → closing.kind ≡ kinds.Close → ExprShape Atom (opening ∷ (ts ++ closing ∷ []))
  atom : {ts : List Token} → ExprShape Atom ts → ExprShape Product ts
  times : (t : Token) {ts us : List Token} → ExprShape Product ts → t.kind ≡ kinds.Times → ExprShape Atom us → ExprShape Product (ts ++ t ∷ us)
  product : {ts : List Token} → ExprShape Product ts → ExprShape Sum ts
  plus : (t : Token) {ts us : List Token} → ExprShape Sum ts → t.kind ≡ kinds.Plus → ExprShape Product us → ExprShape Sum (ts ++ t ∷ us)
  minus : (t : Token) {ts us : List Token} → ExprShape Sum ts → t.kind ≡ kinds.Minus → ExprShape Product us → ExprShape Sum (ts ++ t ∷ us)

-- The tokens have the shape of such a part of a guard.
pub data GuardShape : GuardPart → List Token → Type 0 where
  truth : {t : Token} → t.kind ≡ kinds.True → GuardShape Unit' (t ∷ [])
  falsity : {t : Token} → t.kind ≡ kinds.False → GuardShape Unit' (t ∷ [])
  negation : {t : Token} {ts : List Token} → t.kind ≡ kinds.Not → GuardShape Unit' ts → GuardShape Unit' (t ∷ ts)
  brackets : {opening : Token} (closing : Token) {ts : List Token} → opening.kind ≡ kinds.OpenBracket → GuardShape Either ts → closing.kind ≡ kinds.CloseBracket → GuardShape Unit' (opening ∷ (ts ++ closing ∷ []))
  relation : (t : Token) {ts us : List Token} (rel : Rel) → ExprShape Sum ts → t.kind ≡ kinds.Relation rel → ExprShape Sum us → GuardShape Unit' (ts ++ t ∷ us)
  lone_unit : {ts : List Token} → GuardShape Unit' ts → GuardShape Both ts
  conjoined : (t : Token) {ts us : List Token} → GuardShape Both ts → t.kind ≡ kinds.And → GuardShape Unit' us → GuardShape Both (ts ++ t ∷ us)
  lone_conjunction : {ts : List Token} → GuardShape Both ts → GuardShape Either ts
  disjoined : (t : Token) {ts us : List Token} → GuardShape Either ts → t.kind ≡ kinds.Or → GuardShape Both us → GuardShape Either (ts ++ t ∷ us)

-- The tokens have the shape of expressions that are separated by commas.
pub data ListShape : List Token → Type 0 where
  one : {ts : List Token} → ExprShape Sum ts → ListShape ts
  further : (comma : Token) {ts us : List Token} → ListShape ts → comma.kind ≡ kinds.Comma → ExprShape Sum us → ListShape (ts ++ comma ∷ us)

-- The tokens have the shape of arguments in parentheses.
pub data ArgumentsShape : List Token → Type 0 where
  none : {opening closing : Token} → opening.kind ≡ kinds.Open → closing.kind ≡ kinds.Close → ArgumentsShape (opening ∷ closing ∷ [])
  some : {opening : Token} (closing : Token) {ts : List Token} → opening.kind ≡ kinds.Open → ListShape ts → closing.kind ≡ kinds.Close → ArgumentsShape (opening ∷ (ts ++ closing ∷ []))

-- The tokens have the shape of an assignment, a send or a mark.
pub data PhraseShape : List Token → Type 0 where
  assignment : {variable becomes : Token} (semicolon : Token) {ts : List Token} → variable.kind ≡ kinds.Name → becomes.kind ≡ kinds.Becomes → ExprShape Sum ts → semicolon.kind ≡ kinds.Semicolon
      → PhraseShape (variable ∷ becomes ∷ (ts ++ semicolon ∷ []))
  sending : {send receiver dot name : Token} (semicolon : Token) {ts : List Token} → send.kind ≡ kinds.Send → (receiver.kind ≡ kinds.Name) ⊎ (receiver.kind ≡ kinds.Own) → dot.kind ≡ kinds.Dot
      → name.kind ≡ kinds.Name → ArgumentsShape ts → semicolon.kind ≡ kinds.Semicolon → PhraseShape (send ∷ receiver ∷ dot ∷ name ∷ (ts ++ semicolon ∷ []))
  bare_mark : {mark name semicolon : Token} → mark.kind ≡ kinds.Mark → name.kind ≡ kinds.Name → semicolon.kind ≡ kinds.Semicolon → PhraseShape (mark ∷ name ∷ semicolon ∷ [])
  marking : {mark name : Token} (semicolon : Token) {ts : List Token} → mark.kind ≡ kinds.Mark → name.kind ≡ kinds.Name → ArgumentsShape ts → semicolon.kind ≡ kinds.Semicolon
      → PhraseShape (mark ∷ name ∷ (ts ++ semicolon ∷ []))

-- The tokens have the shape of statements one after another.
pub data StmtsShape : List Token → Type 0 where
  nothing : StmtsShape []
  phrase : {ts us : List Token} → StmtsShape ts → PhraseShape us → StmtsShape (ts ++ us)
  choice : {ts cs us : List Token} (if' opening closing : Token) → StmtsShape ts → if'.kind ≡ kinds.If → GuardShape Either cs → opening.kind ≡ kinds.OpenBrace → StmtsShape us → closing.kind ≡ kinds.CloseBrace
      → StmtsShape (ts ++ if' ∷ (cs ++ opening ∷ (us ++ closing ∷ [])))
  alternative : {ts cs us vs : List Token} (if' opening closing else' opening' closing' : Token) → StmtsShape ts → if'.kind ≡ kinds.If → GuardShape Either cs → opening.kind ≡ kinds.OpenBrace → StmtsShape us
      → closing.kind ≡ kinds.CloseBrace → else'.kind ≡ kinds.Else → opening'.kind ≡ kinds.OpenBrace → StmtsShape vs → closing'.kind ≡ kinds.CloseBrace
      → StmtsShape (ts ++ if' ∷ (cs ++ opening ∷ (us ++ closing ∷ else' ∷ opening' ∷ (vs ++ closing' ∷ []))))

-- The tokens have the shape of behaviours that are separated by `step;`.
pub data StepsShape : List Token → Type 0 where
  first : {ts : List Token} → StmtsShape ts → StepsShape ts
  step : {ts us : List Token} (step' semicolon : Token) → StepsShape ts → step'.kind ≡ kinds.Step → semicolon.kind ≡ kinds.Semicolon → StmtsShape us → StepsShape (ts ++ step' ∷ semicolon ∷ us)

-- With some tokens behind them the tokens have the shape.
pub record Begins (Shape : List Token → Type 0) (ts : List Token) : Type 0 where
  pub more : List Token
  pub shape : Shape (ts ++ more)
