-- What is read as an expression is spelled so: what a reader holds, the tokens before it spell.
use Rattle.std.proofs.Common.{◌≡◌, ℕ, suc, ltb, List, [], ◌∷◌, ◌++◌, length, Option, Some, None, Ok, Err, refl, ap, ◌∙◌, subst, position, bytes_eq, if◌then◌else◌}
use Rattle.std.proofs.lemmas.Bool.{ltb-true}
use Rattle.pssm_acts.specs.declared.act_fault.ActFault.TheVariants.{TooLong}
use Rattle.pssm_semantics.specs.declared.setting.Names.{Names}
use Rattle.pssm_acts.specs.declared.token.Kind.{Kind}
use Rattle.pssm_acts.specs.declared.token.Kind.TheVariants as kinds
use Rattle.pssm_semantics.specs.declared.tree.Expr.{Expr}
use Rattle.pssm_semantics.specs.declared.tree.Expr.TheVariants.{Num, Var, Param}
use Rattle.pssm_acts.specs.declared.expr_reader.Left.{Left}
use Rattle.pssm_acts.specs.declared.expr_reader.Left.TheVariants.{Nothing, Plus, Minus}
use Rattle.pssm_acts.specs.declared.expr_reader.Level.{Level}
use Rattle.pssm_acts.specs.declared.expr_reader.Place.{Place}
use Rattle.pssm_acts.specs.declared.expr_reader.Place.TheVariants.{Wants, Has}
use Rattle.pssm_acts.specs.declared.expr_reader.ExprReader.{ExprReader}
use Rattle.pssm_acts.specs.inner.NumberReading.{number_read}
use Rattle.pssm_acts.specs.Tokens.{Token}
use Rattle.pssm_acts.specs.inner.ExprReading.{product_of, sum_of, variable_read, atom_by, atom_of, level_opened, at_atom, closed, after_atom, expr_step, expr_value}
use Rattle.pssm_acts.specs.Grammar.{Atom, Product, Sum, SpellsExpr, number, variable, parameter, parentheses, atom, times, product, plus, minus}
use Rattle.pssm_acts.proofs.AnswerLaws.{never_read, read_same, passed, room_for}
use Rattle.pssm_acts.proofs.ExprRead.{reader_at}
use Rattle.pssm_acts.proofs.Nesting.{Chain, Waits, Nests, Outside, Holds, chain_with, chain_of, nothing_before, starts, goes_on, chains, opens, closes, all_read}
use Rattle.pssm_acts.proofs.NumberSpelled.{spelled_number}

-- the left side of a `+` or a `-`, and the factors before a `*`
abbrev pub LeftHeld : Names → ℕ → List Token → Left → Type 0
LeftHeld names l us Nothing = us ≡ []
LeftHeld names l us (Plus a) = Chain (SpellsExpr names Sum l) kinds.Plus us a
LeftHeld names l us (Minus a) = Chain (SpellsExpr names Sum l) kinds.Minus us a

abbrev pub FactorHeld : Names → ℕ → List Token → Option Expr → Type 0
FactorHeld names l vs factor = Waits (SpellsExpr names Product l) kinds.Times vs factor

abbrev pub PlaceHeld : Names → ℕ → List Token → Place → Type 0
PlaceHeld names l vs (Wants factor) = FactorHeld names l vs factor
PlaceHeld names l vs (Has e) = SpellsExpr names Product l vs e

-- how expressions nest: in parentheses
abbrev pub expr_nests : Names → Nests Level
expr_nests names = record { Ahead = λ l us level. LeftHeld names l us level.left; Begun = λ l vs level. FactorHeld names l vs level.factor; sign = kinds.Open }

-- the tokens before and with an opening parenthesis
abbrev pub OuterHeld : Names → ℕ → List Level → ℕ → List Token → Type 0
OuterHeld names room outer l ts = Outside (expr_nests names) room outer l ts

abbrev pub ExprHeld : Names → ℕ → ExprReader → List Token → Type 0
ExprHeld names room r ts = Holds (expr_nests names) room r.outer (λ l us. LeftHeld names l us r.left) (λ l vs. PlaceHeld names l vs r.place) ts

product_held : (names : Names) (l : ℕ) (vs more : List Token) (a : Expr) (factor : Option Expr) → FactorHeld names l vs factor → SpellsExpr names Atom l more a → SpellsExpr names Product l (vs ++ more) (product_of factor a)
product_held names l vs more a None h spelled = nothing_before (λ x. SpellsExpr names Product l x a) vs more h (atom spelled)
product_held names l vs more a (Some b) h spelled = chain_with (λ x. SpellsExpr names Product l x (product_of (Some b) a)) more h (λ ts t front is. times t front is spelled)

sum_held : (names : Names) (l : ℕ) (us vs : List Token) (e : Expr) (left : Left) → LeftHeld names l us left → SpellsExpr names Product l vs e → SpellsExpr names Sum l (us ++ vs) (sum_of left e)
sum_held names l us vs e Nothing h spelled = nothing_before (λ x. SpellsExpr names Sum l x e) us vs h (product spelled)
sum_held names l us vs e (Plus a) h spelled = chain_with (λ x. SpellsExpr names Sum l x (sum_of (Plus a) e)) vs h (λ ts t front is. plus t front is spelled)
sum_held names l us vs e (Minus a) h spelled = chain_with (λ x. SpellsExpr names Sum l x (sum_of (Minus a) e)) vs h (λ ts t front is. minus t front is spelled)

abbrev pub token_as : ℕ → Kind → List ℕ → Token
token_as at kind word = record { at = at; kind = kind; word = word }

atom_spelled : (names : Names) (l : ℕ) (kind : Kind) (at : ℕ) (word : List ℕ) (a : Expr) → atom_by names kind at word ≡ Ok a → SpellsExpr names Atom l (token_as at kind word ∷ []) a
atom_spelled names l kinds.Number at word a read =
    let it = passed (number_read at word) (λ n. Ok (Num n)) a read in
    let same = read_same (Num it.0) a it.2 in subst (λ x. SpellsExpr names Atom l (token_as at kinds.Number word ∷ []) x) same (number refl (spelled_number at word it.0 it.1))
atom_spelled names l kinds.Name at word a read = go (position (λ n. bytes_eq n word) names.vars) refl read where
  go : (r : Option ℕ) → position (λ n. bytes_eq n word) names.vars ≡ r → variable_read at r ≡ Ok a → SpellsExpr names Atom l (token_as at kinds.Name word ∷ []) a
  go (Some x) e is = let same = read_same (Var x) a is in subst (λ x. SpellsExpr names Atom l (token_as at kinds.Name word ∷ []) x) same (variable refl e)
  go None e is = absurd (never_read _ _ is)
atom_spelled names l (kinds.Param k) at word a read = let same = read_same (Param k) a read in subst (λ x. SpellsExpr names Atom l (token_as at (kinds.Param k) word ∷ []) x) same (parameter refl)
atom_spelled names l kind at word a read = absurd (never_read _ _ read)

-- one token more
pub expr_more : (names : Names) (room : ℕ) (outer : List Level) (left : Left) (place : Place) (n : ExprReader) (ts : List Token) (kind : Kind) (at : ℕ) (word : List ℕ)
    → expr_step names room (reader_at outer left place) (token_as at kind word) ≡ Ok n → ExprHeld names room (reader_at outer left place) ts → ExprHeld names room n (ts ++ token_as at kind word ∷ [])
unfolding expr_step at_atom atom_of after_atom level_opened closed
expr_more names room outer left (Wants factor) n ts kinds.Open at word step h =
    let level : Level = record { left = left; factor = factor } in
    let it = passed (if ltb (length outer) room then Ok (level ∷ outer) else Err (TooLong at)) (λ levels. Ok (reader_at levels Nothing (Wants None))) n step in
    let room' = room_for (ltb (length outer) room) (Ok (level ∷ outer)) (TooLong at) it.0 it.1 in
    let more : List Level = level ∷ outer in
    subst (λ x. ExprHeld names room x (ts ++ token_as at kinds.Open word ∷ [])) (ap (λ levels. reader_at levels Nothing (Wants None)) (read_same more it.0 room'.1) ∙ read_same (reader_at it.0 Nothing (Wants None)) n it.2)
    (opens (expr_nests names) room outer level (token_as at kinds.Open word) h refl (ltb-true (length outer) room room'.0) (λ l. refl) (λ l. refl))
expr_more names room outer left (Wants factor) n ts kind at word step h =
    let it = passed (atom_by names kind at word) (λ a. Ok (reader_at outer left (Has (product_of factor a)))) n step in
    subst (λ x. ExprHeld names room x (ts ++ token_as at kind word ∷ [])) (read_same (reader_at outer left (Has (product_of factor it.0))) n it.2)
    (goes_on (expr_nests names) room outer h (token_as at kind word ∷ []) (product_held names h.l h.vs (token_as at kind word ∷ []) it.0 factor h.here (atom_spelled names h.l kind at word it.0 it.1)))
expr_more names room outer left (Has term) n ts kinds.Times at word step h =
    subst (λ x. ExprHeld names room x (ts ++ token_as at kinds.Times word ∷ [])) (read_same (reader_at outer left (Wants (Some term))) n step)
    (goes_on (expr_nests names) room outer h (token_as at kinds.Times word ∷ []) (chain_of h.vs (token_as at kinds.Times word) h.here refl))
expr_more names room outer left (Has term) n ts kinds.Plus at word step h =
    subst (λ x. ExprHeld names room x (ts ++ token_as at kinds.Plus word ∷ [])) (read_same (reader_at outer (Plus (sum_of left term)) (Wants None)) n step)
    (chains (expr_nests names) room outer h (token_as at kinds.Plus word) (chain_of (h.us ++ h.vs) (token_as at kinds.Plus word) (sum_held names h.l h.us h.vs term left h.before h.here) refl) refl)
expr_more names room outer left (Has term) n ts kinds.Minus at word step h =
    subst (λ x. ExprHeld names room x (ts ++ token_as at kinds.Minus word ∷ [])) (read_same (reader_at outer (Minus (sum_of left term)) (Wants None)) n step)
    (chains (expr_nests names) room outer h (token_as at kinds.Minus word) (chain_of (h.us ++ h.vs) (token_as at kinds.Minus word) (sum_held names h.l h.us h.vs term left h.before h.here) refl) refl)
expr_more names room [] left (Has term) n ts kinds.Close at word step h = absurd (never_read _ _ step)
expr_more names room (level ∷ outer) left (Has term) n ts kinds.Close at word step h =
    let t = token_as at kinds.Close word in
    subst (λ x. ExprHeld names room x (ts ++ t ∷ [])) (read_same (reader_at outer level.left (Has (product_of level.factor (sum_of left term)))) n step)
    (closes (expr_nests names) room outer level t h
    (λ opening vs opened begun. product_held names (suc h.l) vs (opening ∷ ((h.us ++ h.vs) ++ t ∷ [])) (sum_of left term) level.factor begun (parentheses t opened (sum_held names h.l h.us h.vs term left h.before h.here) refl)))
expr_more names room outer left (Has term) n ts kind at word step h = absurd (never_read _ _ step)

-- the whole expression
pub expr_whole : (names : Names) (room : ℕ) (r : ExprReader) (at : ℕ) (ts : List Token) (e : Expr) → expr_value r at ≡ Ok e → ExprHeld names room r ts → SpellsExpr names Sum room ts e
unfolding expr_value
expr_whole names room r at ts e value h = go r.outer r.place value h where
  go : (outer : List Level) (place : Place) → expr_value (reader_at outer r.left place) at ≡ Ok e → ExprHeld names room (reader_at outer r.left place) ts → SpellsExpr names Sum room ts e
  go [] (Has term) is h =
      subst (λ x. SpellsExpr names Sum room ts x) (read_same (sum_of r.left term) e is)
      (all_read (expr_nests names) room (λ l us. SpellsExpr names Sum l us (sum_of r.left term)) h (sum_held names h.l h.us h.vs term r.left h.before h.here))
  go [] (Wants factor) is h = absurd (never_read _ _ is)
  go (level ∷ outer) (Has term) is h = absurd (never_read _ _ is)
  go (level ∷ outer) (Wants factor) is h = absurd (never_read _ _ is)

pub expr_start : (names : Names) (room : ℕ) → ExprHeld names room (reader_at [] Nothing (Wants None)) []
expr_start names room = starts (expr_nests names) room refl refl
