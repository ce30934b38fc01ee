-- What is read as the arguments of a send or a mark is spelled so.
use Rattle.std.proofs.Common.{◌≡◌, ℕ, suc, List, [], ◌∷◌, ◌++◌, Result, Ok, Err, refl, sym, ap, ◌∙◌, subst, append_assoc}
use Rattle.std.proofs.lemmas.List.{append-nil}
use Rattle.pssm_acts.specs.declared.act_fault.ActFault.{ActFault}
use Rattle.pssm_acts.specs.declared.argument_reader.Arguments.{Arguments}
use Rattle.pssm_acts.specs.declared.argument_reader.Arguments.TheVariants.{Opened, Listed}
use Rattle.pssm_acts.specs.declared.argument_reader.Argued.{Argued}
use Rattle.pssm_acts.specs.declared.argument_reader.Argued.TheVariants.{Goes, Ends}
use Rattle.pssm_acts.specs.declared.expr_reader.ExprReader.{ExprReader}
use Rattle.pssm_acts.specs.declared.expr_reader.Level.{Level}
use Rattle.pssm_semantics.specs.declared.setting.Names.{Names}
use Rattle.pssm_acts.specs.declared.token.Kind.{Kind}
use Rattle.pssm_acts.specs.declared.token.Kind.TheVariants as kinds
use Rattle.pssm_semantics.specs.declared.tree.Expr.{Expr}
use Rattle.pssm_acts.specs.ActGrammar.{SpellsList, one, further, SpellsArguments, none, some}
use Rattle.pssm_acts.specs.inner.ArgumentReading.{argument_ended, argument_more, argument_closed_in, argument_closed, listed_step, opened_step_by, arguments_step}
use Rattle.pssm_acts.specs.inner.ExprReading.{and_then, expr_step, expr_value, fresh_expr}
use Rattle.pssm_acts.specs.Grammar.{Sum, SpellsExpr}
use Rattle.pssm_acts.specs.Tokens.{Token}
use Rattle.pssm_acts.proofs.AnswerLaws.{read_same, passed}
use Rattle.pssm_acts.proofs.ExprHeld.{ExprHeld, token_as, expr_more, expr_whole, expr_start}

-- the tokens of arguments with the comma behind them
pub record Commas (names : Names) (l : ℕ) (us : List Token) (args : List Expr) : Type 0 where
  pub tokens : List Token
  pub comma : Token
  pub spelled : SpellsList names l tokens args
  pub is : comma.kind ≡ kinds.Comma
  pub whole : us ≡ tokens ++ comma ∷ []

abbrev pub EarlierHeld : Names → ℕ → List Token → List Expr → Type 0
EarlierHeld names l us [] = us ≡ []
EarlierHeld names l us (e ∷ es) = Commas names l us (e ∷ es)

pub record ListHeld (names : Names) (l : ℕ) (args : List Expr) (last : ExprReader) (ts : List Token) : Type 0 where
  pub us : List Token
  pub vs : List Token
  pub before : EarlierHeld names l us args
  pub here : ExprHeld names l last vs
  pub whole : ts ≡ us ++ vs

-- the tokens behind the opening parenthesis
abbrev pub ArgumentsHeld : Names → ℕ → Arguments → List Token → Type 0
ArgumentsHeld names l Opened ts = ts ≡ []
ArgumentsHeld names l (Listed args last) ts = ListHeld names l args last ts

abbrev pub ArguedHeld : Names → ℕ → Argued → List Token → Type 0
ArguedHeld names l (Goes args) ts = ArgumentsHeld names l args ts
ArguedHeld names l (Ends args) ts = (opening : Token) → opening.kind ≡ kinds.Open → SpellsArguments names (suc l) (opening ∷ ts) args

-- one argument more
with_argument : (names : Names) (l : ℕ) (us vs : List Token) (args : List Expr) (e : Expr) → EarlierHeld names l us args → SpellsExpr names Sum l vs e → SpellsList names l (us ++ vs) (args ++ e ∷ [])
with_argument names l us vs [] e h spelled = subst (λ x. SpellsList names l (x ++ vs) (e ∷ [])) (sym h) (one spelled)
with_argument names l us vs (a ∷ rest) e h spelled =
    subst (λ x. SpellsList names l x ((a ∷ rest) ++ e ∷ [])) (sym (ap (λ x. x ++ vs) h.whole ∙ append_assoc h.tokens (h.comma ∷ []) vs)) (further h.comma h.spelled h.is spelled)

with_comma : (names : Names) (l : ℕ) (ts : List Token) (t : Token) (args : List Expr) (e : Expr) → SpellsList names l ts (args ++ e ∷ []) → t.kind ≡ kinds.Comma → EarlierHeld names l (ts ++ t ∷ []) (args ++ e ∷ [])
with_comma names l ts t [] e spelled is = record { tokens = ts; comma = t; spelled = spelled; is = is; whole = refl }
with_comma names l ts t (a ∷ rest) e spelled is = record { tokens = ts; comma = t; spelled = spelled; is = is; whole = refl }

-- the list with the last argument, where it may end
list_held : (names : Names) (l : ℕ) (args : List Expr) (last : ExprReader) (ts : List Token) (at : ℕ) (e : Expr) → expr_value last at ≡ Ok e → ListHeld names l args last ts → SpellsList names l ts (args ++ e ∷ [])
list_held names l args last ts at e value h =
    subst (λ x. SpellsList names l x (args ++ e ∷ [])) (sym h.whole) (with_argument names l h.us h.vs args e h.before (expr_whole names l last at h.vs e value h.here))

comma_held : (names : Names) (l : ℕ) (args : List Expr) (last : ExprReader) (n : Argued) (ts : List Token) (at : ℕ) (word : List ℕ)
    → and_then (argument_ended args last at) (λ all. Ok (Goes (Listed all fresh_expr))) ≡ Ok n → ListHeld names l args last ts → ArguedHeld names l n (ts ++ token_as at kinds.Comma word ∷ [])
unfolding argument_ended
comma_held names l args last n ts at word step h = go (expr_value last at) refl step where
  go : (r : Result Expr ActFault) → expr_value last at ≡ r → and_then (and_then r (λ e. Ok (args ++ e ∷ []))) (λ all. Ok (Goes (Listed all fresh_expr))) ≡ Ok n → ArguedHeld names l n (ts ++ token_as at kinds.Comma word ∷ [])
  go (Ok e) value is =
      let same : Goes (Listed (args ++ e ∷ []) fresh_expr) ≡ n = cc in
      let t = token_as at kinds.Comma word in
      let held : ListHeld names l (args ++ e ∷ []) fresh_expr (ts ++ t ∷ []) = record {
        us = ts ++ t ∷ [];
        vs = [];
        before = with_comma names l ts t args e (list_held names l args last ts at e value h) refl;
        here = expr_start names l;
        whole = sym (append-nil (ts ++ t ∷ []));
      } in
      subst (λ x. ArguedHeld names l x (ts ++ t ∷ [])) same held
  go (Err fault) value is = absurd cc

ended_held : (names : Names) (l : ℕ) (args : List Expr) (last : ExprReader) (n : Argued) (ts : List Token) (at : ℕ) (word : List ℕ)
    → and_then (argument_ended args last at) (λ all. Ok (Ends all)) ≡ Ok n → ListHeld names l args last ts → ArguedHeld names l n (ts ++ token_as at kinds.Close word ∷ [])
unfolding argument_ended
ended_held names l args last n ts at word step h = go (expr_value last at) refl step where
  go : (r : Result Expr ActFault) → expr_value last at ≡ r → and_then (and_then r (λ e. Ok (args ++ e ∷ []))) (λ all. Ok (Ends all)) ≡ Ok n → ArguedHeld names l n (ts ++ token_as at kinds.Close word ∷ [])
  go (Ok e) value is =
      let same : Ends (args ++ e ∷ []) ≡ n = cc in
      let t = token_as at kinds.Close word in
      let held : ArguedHeld names l (Ends (args ++ e ∷ [])) (ts ++ t ∷ []) = λ opening opens. some t opens (list_held names l args last ts at e value h) refl in
      subst (λ x. ArguedHeld names l x (ts ++ t ∷ [])) same held
  go (Err fault) value is = absurd cc

-- a token that belongs to the last argument
more_held : (names : Names) (l : ℕ) (args : List Expr) (last : ExprReader) (n : Argued) (ts : List Token) (t : Token)
    → argument_more names l args last t ≡ Ok n → ListHeld names l args last ts → ArguedHeld names l n (ts ++ t ∷ [])
unfolding argument_more
more_held names l args last n ts t step h =
    let it = passed (expr_step names l last t) (λ more. Ok (Goes (Listed args more))) n step in
    let same = read_same (Goes (Listed args it.0)) n it.2 in
    let held : ListHeld names l args it.0 (ts ++ t ∷ []) = record {
      us = h.us;
      vs = h.vs ++ t ∷ [];
      before = h.before;
      here = expr_more names l last.outer last.left last.place it.0 h.vs t.kind t.at t.word it.1 h.here;
      whole = ap (λ x. x ++ t ∷ []) h.whole ∙ append_assoc h.us h.vs (t ∷ []);
    } in
    subst (λ x. ArguedHeld names l x (ts ++ t ∷ [])) same held

closed_held : (names : Names) (l : ℕ) (args : List Expr) (last : ExprReader) (n : Argued) (ts : List Token) (at : ℕ) (word : List ℕ)
    → argument_closed names l args last (token_as at kinds.Close word) ≡ Ok n → ListHeld names l args last ts → ArguedHeld names l n (ts ++ token_as at kinds.Close word ∷ [])
unfolding argument_closed
closed_held names l args last n ts at word step h = go last.outer step where
  go : (outer : List Level) → argument_closed_in outer names l args last (token_as at kinds.Close word) ≡ Ok n → ArguedHeld names l n (ts ++ token_as at kinds.Close word ∷ [])
  go [] is = ended_held names l args last n ts at word is h
  go (level ∷ outer) is = more_held names l args last n ts (token_as at kinds.Close word) is h

listed_held : (names : Names) (l : ℕ) (args : List Expr) (last : ExprReader) (n : Argued) (ts : List Token) (kind : Kind) (at : ℕ) (word : List ℕ)
    → listed_step names l args last (token_as at kind word) ≡ Ok n → ListHeld names l args last ts → ArguedHeld names l n (ts ++ token_as at kind word ∷ [])
unfolding listed_step
listed_held names l args last n ts kinds.Comma at word step h = comma_held names l args last n ts at word step h
listed_held names l args last n ts kinds.Close at word step h = closed_held names l args last n ts at word step h
listed_held names l args last n ts kind at word step h = more_held names l args last n ts (token_as at kind word) step h

-- the token behind the opening parenthesis
opened_held : (names : Names) (l : ℕ) (n : Argued) (kind : Kind) (at : ℕ) (word : List ℕ) → opened_step_by kind names l (token_as at kind word) ≡ Ok n → ArguedHeld names l n (token_as at kind word ∷ [])
opened_held names l n kinds.Close at word step =
    let same : Ends [] ≡ n = cc in
    let held : ArguedHeld names l (Ends []) (token_as at kinds.Close word ∷ []) = λ opening opens. none opens refl in
    subst (λ x. ArguedHeld names l x (token_as at kinds.Close word ∷ [])) same held
opened_held names l n kind at word step =
    listed_held names l [] fresh_expr n [] kind at word step (record { us = []; vs = []; before = refl; here = expr_start names l; whole = refl })

-- one token more
pub arguments_held : (names : Names) (l : ℕ) (args : Arguments) (n : Argued) (ts : List Token) (t : Token) → arguments_step names l args t ≡ Ok n → ArgumentsHeld names l args ts → ArguedHeld names l n (ts ++ t ∷ [])
unfolding arguments_step
arguments_held names l Opened n ts t step h = subst (λ x. ArguedHeld names l n (x ++ t ∷ [])) (sym h) (opened_held names l n t.kind t.at t.word step)
arguments_held names l (Listed args last) n ts t step h = listed_held names l args last n ts t.kind t.at t.word step h
