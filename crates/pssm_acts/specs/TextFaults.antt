-- The fault of a text, told by its tokens: the first that is misplaced, or that breaks a rule of names, numbers, arguments or limits (this profile's choice).
use Rattle.std.specs.Prelude.{◌≡◌, ◌≤◌, ◌<◌, ◌-◌, ℕ, suc, ℤ, List, [], ◌∷◌, ◌++◌, length, Some, None, position, bytes_eq}
use Rattle.std.specs.List.{fold}
use Rattle.pssm_acts.specs.declared.act_fault.ActFault.{ActFault}
use Rattle.pssm_acts.specs.declared.act_fault.ActFault.TheVariants.{Syntax, UnknownName, WideNumber, Arity, TooLong}
use Rattle.pssm_semantics.specs.declared.setting.Names.{Names}
use Rattle.pssm_acts.specs.declared.token.Kind.{Kind}
use Rattle.pssm_acts.specs.declared.token.Kind.TheVariants as kinds
use Rattle.pssm_semantics.specs.declared.tree.Expr.{Expr}
use Rattle.pssm_acts.specs.ActGrammar.{SpellsArguments}
use Rattle.pssm_spelling.specs.Numbers.{SpellsNumber}
use Rattle.pssm_acts.specs.Shapes.{Begins}
use Rattle.pssm_acts.specs.Tokens.{Token, tokens_of}
use Rattle.pssm_acts.specs.Vocabularies.{signal_count}

-- What a name would name at a place: the variable that begins a statement, an object, a signal, a mark, or a variable elsewhere.
pub data Place : Type 0 where
  Statement : Place
  Receiver : Place
  Signal : Place
  Mark : Place
  Operand : Place

-- the place behind a token: behind `;`, `{` and `}` a statement may begin
abbrev pub place_behind : Kind → Place
place_behind kinds.Semicolon = Statement
place_behind kinds.OpenBrace = Statement
place_behind kinds.CloseBrace = Statement
place_behind kinds.Send = Receiver
place_behind kinds.Dot = Signal
place_behind kinds.Mark = Mark
place_behind kind = Operand

-- the place behind these tokens; a text begins with a statement too
unfoldable pub place : List Token → Place
place ts = fold (λ p t. place_behind t.kind) Statement ts

-- The name is not known there; a mark may have any name.
abbrev pub IsUnknown : Place → Names → List ℕ → Type 0
IsUnknown Receiver names word = position (λ name. bytes_eq name word) names.objects ≡ None
IsUnknown Signal names word = position (λ d. bytes_eq d.name word) names.signals ≡ None
IsUnknown Mark names word = ⊥
IsUnknown p names word = position (λ name. bytes_eq name word) names.vars ≡ None

-- Parentheses, brackets and blocks open a level.
abbrev pub IsOpening : Kind → Type 0
IsOpening kinds.Open = Unit {0}
IsOpening kinds.OpenBracket = Unit {0}
IsOpening kinds.OpenBrace = Unit {0}
IsOpening kind = ⊥

-- how many levels are open behind a token, and behind these tokens
abbrev pub levels_behind : Kind → ℕ → ℕ
levels_behind kinds.Open n = suc n
levels_behind kinds.OpenBracket n = suc n
levels_behind kinds.OpenBrace n = suc n
levels_behind kinds.Close n = n - 1
levels_behind kinds.CloseBracket n = n - 1
levels_behind kinds.CloseBrace n = n - 1
levels_behind kind n = n

unfoldable pub open_levels : List Token → ℕ
open_levels ts = fold (λ n t. levels_behind t.kind n) 0 ts

-- how many statements of the behaviour have begun: `if`, `send`, `mark` and `:=` behind the last `step`
abbrev pub begun_behind : Kind → ℕ → ℕ
begun_behind kinds.If n = suc n
begun_behind kinds.Send n = suc n
begun_behind kinds.Mark n = suc n
begun_behind kinds.Becomes n = suc n
begun_behind kinds.Step n = 0
begun_behind kind n = n

unfoldable pub statements_begun : List Token → ℕ
statements_begun ts = fold (λ n t. begun_behind t.kind n) 0 ts

-- A statement begins with `if`, `send` or `mark`, or with a variable.
abbrev pub BeginsStatement : Kind → Place → Names → List ℕ → Type 0
BeginsStatement kinds.If p names word = Unit {0}
BeginsStatement kinds.Send p names word = Unit {0}
BeginsStatement kinds.Mark p names word = Unit {0}
BeginsStatement kinds.Name Statement names word = IsUnknown Statement names word → ⊥
BeginsStatement kind p names word = ⊥

-- how many steps have ended
abbrev pub steps_behind : Kind → ℕ → ℕ
steps_behind kinds.Step n = suc n
steps_behind kind n = n

unfoldable pub steps_ended : List Token → ℕ
steps_ended ts = fold (λ n t. steps_behind t.kind n) 0 ts

-- The token breaks a rule behind those before it, and this is its fault.
pub data Breaks (names : Names) (before : List Token) (t : Token) : ActFault → Type 0 where
  -- a name that is not known, and a number that is too wide
  unknown : t.kind ≡ kinds.Name → IsUnknown (place before) names t.word → Breaks names before t (UnknownName t.at)
  wide : t.kind ≡ kinds.Number → ((n : ℤ) → SpellsNumber t.word n → ⊥) → Breaks names before t (WideNumber t.at)
  -- the parenthesis behind the arguments of a send, which are not as many as the signal has parameters, or of a mark, where they are more than eight
  sent : (earlier us : List Token) (dot name : Token) {s l : ℕ} {args : List Expr} → before ++ t ∷ [] ≡ earlier ++ dot ∷ name ∷ us → dot.kind ≡ kinds.Dot
      → name.kind ≡ kinds.Name → position (λ d. bytes_eq d.name name.word) names.signals ≡ Some s → SpellsArguments names l us args → (length args ≡ signal_count names.signals s → ⊥) → Breaks names before t (Arity t.at)
  marked : (earlier us : List Token) (mark name : Token) {l : ℕ} {args : List Expr} → before ++ t ∷ [] ≡ earlier ++ mark ∷ name ∷ us → mark.kind ≡ kinds.Mark
      → name.kind ≡ kinds.Name → SpellsArguments names l us args → 8 < length args → Breaks names before t (Arity t.at)
  -- a 17th level, a 65th statement, and the end of a 64th step where a 65th would begin
  level : IsOpening t.kind → 16 ≤ open_levels before → Breaks names before t (TooLong t.at)
  statement : BeginsStatement t.kind (place before) names t.word → 64 ≤ statements_begun before → Breaks names before t (TooLong t.at)
  step : t.kind ≡ kinds.Step → 63 ≤ steps_ended before → Breaks names before t (TooLong t.at)

-- None of the tokens breaks a rule behind those before it.
abbrev pub Obeys : Names → List Token → Type 0
Obeys names ts = (before after : List Token) (t : Token) (fault : ActFault) → ts ≡ before ++ t ∷ after → Breaks names before t fault → ⊥

-- The fault of a text that is to have the shape; there is one at most.
pub data TextFault (Shape : List Token → Type 0) (names : Names) (text : List ℕ) : ActFault → Type 0 where
  -- it is too long, before all else
  long : 4096 < length text → TextFault Shape names text (TooLong 0)
  -- the tokens before this one can go on and break no rule; with it they cannot go on
  misplaced : (before after : List Token) (t : Token) → length text ≤ 4096 → tokens_of text ≡ before ++ t ∷ after → Obeys names before → Begins Shape before → (Begins Shape (before ++ t ∷ []) → ⊥)
      → TextFault Shape names text (Syntax t.at)
  -- with it they can go on, but it breaks a rule
  broken : (before after : List Token) (t : Token) {fault : ActFault} → length text ≤ 4096 → tokens_of text ≡ before ++ t ∷ after → Obeys names before → Begins Shape (before ++ t ∷ []) → Breaks names before t fault
      → TextFault Shape names text fault
  -- all tokens can go on and break no rule, but the text ends there and has not the shape
  early : length text ≤ 4096 → Obeys names (tokens_of text) → Begins Shape (tokens_of text) → (Shape (tokens_of text) → ⊥) → TextFault Shape names text (Syntax (length text))
