-- The grammar of behaviours and steps, over the tokens of a text, with the names, marks and limits that it obeys (this profile's choice).
use Rattle.std.specs.Prelude.{◌≡◌, ◌≤◌, ℕ, suc, List, [], ◌∷◌, ◌++◌, length, Option, Some, None, position, bytes_eq}
use Rattle.pssm_model.specs.declared.ids.SignalId.{SignalId}
use Rattle.pssm_semantics.specs.declared.entry.ObjectId.{ObjectId}
use Rattle.pssm_semantics.specs.declared.setting.Names.{Names}
use Rattle.pssm_acts.specs.declared.token.Kind.TheVariants as kinds
use Rattle.pssm_semantics.specs.declared.tree.Act.{Act}
use Rattle.pssm_semantics.specs.declared.tree.Cond.{Cond}
use Rattle.pssm_semantics.specs.declared.tree.Expr.{Expr}
use Rattle.pssm_semantics.specs.declared.tree.Stmt.{Stmt, Assign, Send, Mark}
use Rattle.pssm_semantics.specs.declared.tree.Stmt.TheViews as stmts
use Rattle.pssm_semantics.specs.Fits.{stmts_count}
use Rattle.pssm_acts.specs.Grammar.{Sum, SpellsExpr, Either, SpellsGuard}
use Rattle.pssm_acts.specs.Marks.{mark_of, with_mark}
use Rattle.pssm_acts.specs.Tokens.{Token, tokens_of}
use Rattle.pssm_acts.specs.Vocabularies.{signal_count}

-- The tokens spell expressions, separated by commas.
pub data SpellsList (names : Names) : ℕ → List Token → List Expr → Type 0 where
  one : {l : ℕ} {ts : List Token} {e : Expr} → SpellsExpr names Sum l ts e → SpellsList names l ts (e ∷ [])
  further : {l : ℕ} (comma : Token) {ts us : List Token} {es : List Expr} {e : Expr} → SpellsList names l ts es → comma.kind ≡ kinds.Comma → SpellsExpr names Sum l us e
      → SpellsList names l (ts ++ comma ∷ us) (es ++ e ∷ [])

-- The tokens spell arguments in parentheses, with at most so many levels open at once; there may be none.
pub data SpellsArguments (names : Names) : ℕ → List Token → List Expr → Type 0 where
  none : {l : ℕ} {opening closing : Token} → opening.kind ≡ kinds.Open → closing.kind ≡ kinds.Close → SpellsArguments names (suc l) (opening ∷ closing ∷ []) []
  some : {l : ℕ} {opening : Token} (closing : Token) {ts : List Token} {es : List Expr} → opening.kind ≡ kinds.Open → SpellsList names l ts es → closing.kind ≡ kinds.Close
      → SpellsArguments names (suc l) (opening ∷ (ts ++ closing ∷ [])) es

-- The token names an object, or is `self`.
pub data NamesReceiver (names : Names) (t : Token) : Option ObjectId → Type 0 where
  object : {o : ObjectId} → t.kind ≡ kinds.Name → position (λ name. bytes_eq name t.word) names.objects ≡ Some o.0 → NamesReceiver names t (Some o)
  running : t.kind ≡ kinds.Own → NamesReceiver names t None

-- The tokens spell an assignment, a send or a mark; a mark that is named for the first time is noted behind the others.
pub data SpellsPhrase (names : Names) (marks : List (List ℕ)) : ℕ → List Token → Stmt → List (List ℕ) → Type 0 where
  -- `x := 1;`
  assignment : {l : ℕ} {variable becomes : Token} (semicolon : Token) {ts : List Token} {x : ℕ} {e : Expr}
      → variable.kind ≡ kinds.Name → position (λ name. bytes_eq name variable.word) names.vars ≡ Some x → becomes.kind ≡ kinds.Becomes
      → SpellsExpr names Sum l ts e → semicolon.kind ≡ kinds.Semicolon
      → SpellsPhrase names marks l (variable ∷ becomes ∷ (ts ++ semicolon ∷ [])) (Assign x e) marks
  -- `send b.Go(1, x);`, with as many arguments as the signal has parameters
  sending : {l : ℕ} {send receiver dot name : Token} (semicolon : Token) {ts : List Token} {to : Option ObjectId} {signal : SignalId} {args : List Expr}
      → send.kind ≡ kinds.Send → NamesReceiver names receiver to → dot.kind ≡ kinds.Dot
      → name.kind ≡ kinds.Name → position (λ d. bytes_eq d.name name.word) names.signals ≡ Some signal.0
      → SpellsArguments names l ts args → length args ≡ signal_count names.signals signal.0 → semicolon.kind ≡ kinds.Semicolon
      → SpellsPhrase names marks l (send ∷ receiver ∷ dot ∷ name ∷ (ts ++ semicolon ∷ [])) (Send to signal args) marks
  -- `mark m;`
  bare_mark : {l : ℕ} {mark name semicolon : Token} → mark.kind ≡ kinds.Mark → name.kind ≡ kinds.Name → semicolon.kind ≡ kinds.Semicolon
      → SpellsPhrase names marks l (mark ∷ name ∷ semicolon ∷ []) (Mark (mark_of marks name.word) []) (with_mark marks name.word)
  -- `mark m(1, x);`, with at most eight arguments
  marking : {l : ℕ} {mark name : Token} (semicolon : Token) {ts : List Token} {args : List Expr} → mark.kind ≡ kinds.Mark → name.kind ≡ kinds.Name
      → SpellsArguments names l ts args → length args ≤ 8 → semicolon.kind ≡ kinds.Semicolon
      → SpellsPhrase names marks l (mark ∷ name ∷ (ts ++ semicolon ∷ [])) (Mark (mark_of marks name.word) args) (with_mark marks name.word)

-- The tokens spell statements one after another, with at most so many levels of blocks, brackets and parentheses open at once;
-- these are the marks before them and behind them.
pub data SpellsStmts (names : Names) : List (List ℕ) → ℕ → List Token → List Stmt → List (List ℕ) → Type 0 where
  nothing : {marks : List (List ℕ)} {l : ℕ} → SpellsStmts names marks l [] [] marks
  phrase : {l : ℕ} {ts us : List Token} {block : List Stmt} {s : Stmt} {marks noted more : List (List ℕ)} → SpellsStmts names marks l ts block noted
      → SpellsPhrase names noted l us s more → SpellsStmts names marks l (ts ++ us) (block ++ s ∷ []) more
  -- `if x < 1 { x := 1; }`
  choice : {l : ℕ} {ts cs us : List Token} (if' opening closing : Token) {block body : List Stmt} {c : Cond} {marks noted more : List (List ℕ)} → SpellsStmts names marks (suc l) ts block noted
      → if'.kind ≡ kinds.If → SpellsGuard names Either (suc l) cs c → opening.kind ≡ kinds.OpenBrace → SpellsStmts names noted l us body more → closing.kind ≡ kinds.CloseBrace
      → SpellsStmts names marks (suc l) (ts ++ if' ∷ (cs ++ opening ∷ (us ++ closing ∷ []))) (block ++ stmts.Choose c body None ∷ []) more
  -- `if x < 1 { x := 1; } else { x := 2; }`
  alternative : {l : ℕ} {ts cs us vs : List Token} (if' opening closing else' opening' closing' : Token) {block body otherwise : List Stmt} {c : Cond} {marks noted more last : List (List ℕ)}
      → SpellsStmts names marks (suc l) ts block noted
      → if'.kind ≡ kinds.If → SpellsGuard names Either (suc l) cs c → opening.kind ≡ kinds.OpenBrace → SpellsStmts names noted l us body more → closing.kind ≡ kinds.CloseBrace
      → else'.kind ≡ kinds.Else → opening'.kind ≡ kinds.OpenBrace → SpellsStmts names more l vs otherwise last → closing'.kind ≡ kinds.CloseBrace
      → SpellsStmts names marks (suc l) (ts ++ if' ∷ (cs ++ opening ∷ (us ++ closing ∷ else' ∷ opening' ∷ (vs ++ closing' ∷ [])))) (block ++ stmts.Choose c body (Some otherwise) ∷ []) last

-- The tokens spell a behaviour of at most 64 statements, those in blocks counted, nested at most 16 levels deep.
pub record SpellsBehaviour (names : Names) (marks : List (List ℕ)) (ts : List Token) (act : Act) (noted : List (List ℕ)) : Type 0 where
  pub spelled : SpellsStmts names marks 16 ts act.stmts noted
  pub few : stmts_count act.stmts ≤ 64

-- The tokens spell behaviours separated by `step;`.
pub data SpellsBehaviours (names : Names) : List (List ℕ) → List Token → List Act → List (List ℕ) → Type 0 where
  first : {ts : List Token} {act : Act} {marks noted : List (List ℕ)} → SpellsBehaviour names marks ts act noted → SpellsBehaviours names marks ts (act ∷ []) noted
  step : {ts us : List Token} (step' semicolon : Token) {acts : List Act} {act : Act} {marks noted more : List (List ℕ)} → SpellsBehaviours names marks ts acts noted
      → step'.kind ≡ kinds.Step → semicolon.kind ≡ kinds.Semicolon → SpellsBehaviour names noted us act more
      → SpellsBehaviours names marks (ts ++ step' ∷ semicolon ∷ us) (acts ++ act ∷ []) more

-- The text, of at most 4,096 bytes, spells the behaviour.
pub record SpellsAct (names : Names) (marks : List (List ℕ)) (text : List ℕ) (act : Act) (noted : List (List ℕ)) : Type 0 where
  pub short : length text ≤ 4096
  pub spelled : SpellsBehaviour names marks (tokens_of text) act noted

-- The text, of at most 4,096 bytes, spells the steps, which are at most 64.
pub record SpellsSteps (names : Names) (marks : List (List ℕ)) (text : List ℕ) (steps : List Act) (noted : List (List ℕ)) : Type 0 where
  pub short : length text ≤ 4096
  pub spelled : SpellsBehaviours names marks (tokens_of text) steps noted
  pub few : length steps ≤ 64
