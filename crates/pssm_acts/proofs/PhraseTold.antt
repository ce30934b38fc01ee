-- What a step of arguments, an assignment, a send or a mark says of its token.
use Rattle.std.proofs.Common.{◌≡◌, ◌≤◌, ◌-◌, ℕ, suc, ltb, eqb, List, [], ◌∷◌, length, Option, Some, None, Result, Ok, Err, refl, sym, ap, ◌∙◌, subst, arith, position, bytes_eq, if◌then◌else◌}
use Rattle.std.proofs.lemmas.Bool.{ltb-true, ltb-false}
use Rattle.pssm_acts.specs.declared.act_fault.ActFault.{ActFault}
use Rattle.pssm_acts.specs.declared.act_fault.ActFault.TheVariants.{Arity}
use Rattle.pssm_acts.specs.declared.argument_reader.Arguments.{Arguments}
use Rattle.pssm_acts.specs.declared.argument_reader.Arguments.TheVariants.{Opened, Listed}
use Rattle.pssm_acts.specs.declared.argument_reader.Argued.{Argued}
use Rattle.pssm_acts.specs.declared.argument_reader.Argued.TheVariants as arguments
use Rattle.pssm_semantics.specs.declared.entry.ObjectId.{ObjectId}
use Rattle.pssm_acts.specs.declared.expr_reader.ExprReader.{ExprReader}
use Rattle.pssm_acts.specs.declared.expr_reader.Left.{Left}
use Rattle.pssm_acts.specs.declared.expr_reader.Left.TheVariants.{Nothing}
use Rattle.pssm_acts.specs.declared.expr_reader.Level.{Level}
use Rattle.pssm_acts.specs.declared.expr_reader.Place as readers
use Rattle.pssm_acts.specs.declared.expr_reader.Place.TheVariants.{Wants}
use Rattle.pssm_acts.specs.declared.phrase_reader.Call.{Call}
use Rattle.pssm_acts.specs.declared.phrase_reader.Call.TheVariants as calls
use Rattle.pssm_acts.specs.declared.phrase_reader.Phrase.{Phrase}
use Rattle.pssm_acts.specs.declared.phrase_reader.Phrase.TheVariants.{Variable, Value, Receiver, Dotted, Named, Called, Whole}
use Rattle.pssm_acts.specs.declared.phrase_reader.Phrase.TheVariants as phrases
use Rattle.pssm_acts.specs.declared.phrase_reader.Phrased.{Phrased}
use Rattle.pssm_acts.specs.declared.phrase_reader.Phrased.TheVariants.{Goes, Ends}
use Rattle.pssm_semantics.specs.declared.setting.Names.{Names}
use Rattle.pssm_acts.specs.declared.token.Kind.{Kind}
use Rattle.pssm_acts.specs.declared.token.Kind.TheVariants as kinds
use Rattle.pssm_semantics.specs.declared.tree.Expr.{Expr}
use Rattle.pssm_semantics.specs.declared.tree.Stmt.{Stmt, Send, Mark}
use Rattle.pssm_acts.specs.inner.ArgumentReading.{argument_ended, argument_more, argument_closed_in, argument_closed, listed_step_by, listed_step, opened_step_by, arguments_step}
use Rattle.pssm_acts.specs.inner.ExprReading.{and_then, expr_step, expr_value}
use Rattle.pssm_acts.specs.inner.PhraseReading.{beside, became_by, became, value_read_by, value_read, object_read, receiver_read_by, receiver_read, dotted_by, dotted, signal_found, signal_named, signal_read_by, signal_read, mark_read_by, mark_read, named_by, named, call_made, argued, argument_read, called_ended_by, called_ended, phrase_step}
use Rattle.pssm_acts.specs.TextFaults.{Place, Statement, Signal, Operand}
use Rattle.pssm_acts.specs.TextFaults as places
use Rattle.pssm_acts.specs.Tokens.{Token}
use Rattle.pssm_acts.proofs.ExprRead.{reader_at}
use Rattle.pssm_acts.proofs.ExprHeld.{token_as}
use Rattle.pssm_acts.proofs.ExprTold.{expr_told, ends_told}
use Rattle.pssm_acts.proofs.Tallies.{Tally, over, tally_behind, operand, same_tally, Fits, Taken, taken_fits, level, KnownSignals, told_then, told_from, told_if}

-- ---- arguments

-- how many levels are open in arguments, where so many are open with their own parenthesis
abbrev pub argument_levels : Arguments → ℕ → ℕ
argument_levels Opened base = base
argument_levels (Listed args last) base = over last.outer base

abbrev argued_levels : Argued → ℕ → ℕ
argued_levels (arguments.Goes args) base = argument_levels args base
argued_levels (arguments.Ends args) base = base - 1

module _ (Wrong : Type 0) (names : Names) (room base b s : ℕ) (rest : room ≡ 16 - base) where
  last_told : (t : Token) (c : Tally) (args : List Expr) (last : ExprReader) → KnownSignals (λ (all : List Expr). (base : ℕ) → over last.outer base ≡ base) Wrong names t c (argument_ended args last t.at)
  unfolding argument_ended
  last_told t c args last = told_then Wrong names t c _ _ (expr_value last t.at) _ (ends_told Wrong names t c last) (λ e h. h)

  more_told : (args : List Expr) (outer : List Level) (left : Left) (place : readers.Place) (kind : Kind) (at : ℕ) (word : List ℕ)
      → KnownSignals (λ a. Taken kind names word (over outer base) (argued_levels a base)) Wrong names (token_as at kind word) (operand (over outer base) b s) (argument_more names room args (reader_at outer left place) (token_as at kind word))
  unfolding argument_more
  more_told args outer left place kind at word =
      told_then Wrong names (token_as at kind word) (operand (over outer base) b s) _ _ (expr_step names room (reader_at outer left place) (token_as at kind word)) _ (expr_told Wrong names room base b s rest outer left place kind at word) (λ more h. h)

  closes_told : (args : List Expr) (outer : List Level) (left : Left) (place : readers.Place) (at : ℕ) (word : List ℕ)
      → KnownSignals (λ a. Taken kinds.Close names word (over outer base) (argued_levels a base)) Wrong names (token_as at kinds.Close word) (operand (over outer base) b s)
      (argument_closed_in outer names room args (reader_at outer left place) (token_as at kinds.Close word))
  closes_told args [] left place at word =
      told_then Wrong names (token_as at kinds.Close word) (operand base b s) _ _ (argument_ended args (reader_at [] left place) at) _ (last_told (token_as at kinds.Close word) (operand base b s) args (reader_at [] left place)) (λ all h. refl)
  closes_told args (first ∷ outer) left place at word = more_told args (first ∷ outer) left place kinds.Close at word

  listed_told : (args : List Expr) (outer : List Level) (left : Left) (place : readers.Place) (kind : Kind) (at : ℕ) (word : List ℕ)
      → KnownSignals (λ a. Taken kind names word (over outer base) (argued_levels a base)) Wrong names (token_as at kind word) (operand (over outer base) b s) (listed_step_by kind names room args (reader_at outer left place) (token_as at kind word))
  unfolding argument_closed
  listed_told args outer left place kinds.Comma at word =
      told_then Wrong names (token_as at kinds.Comma word) (operand (over outer base) b s) _ _ (argument_ended args (reader_at outer left place) at) _
      (last_told (token_as at kinds.Comma word) (operand (over outer base) b s) args (reader_at outer left place)) (λ all h. sym (h base))
  listed_told args outer left place kinds.Close at word = closes_told args outer left place at word
  listed_told args outer left place kind at word = more_told args outer left place kind at word

  opened_told : (kind : Kind) (at : ℕ) (word : List ℕ) → KnownSignals (λ a. Taken kind names word base (argued_levels a base)) Wrong names (token_as at kind word) (operand base b s) (opened_step_by kind names room (token_as at kind word))
  unfolding listed_step
  opened_told kinds.Close at word = refl
  opened_told kind at word = listed_told [] [] Nothing (Wants None) kind at word

  arguments_told : (args : Arguments) (kind : Kind) (at : ℕ) (word : List ℕ)
      → KnownSignals (λ a. Taken kind names word (argument_levels args base) (argued_levels a base)) Wrong names (token_as at kind word) (operand (argument_levels args base) b s) (arguments_step names room args (token_as at kind word))
  unfolding arguments_step listed_step
  arguments_told Opened kind at word = opened_told kind at word
  arguments_told (Listed args last) kind at word = listed_told args last.outer last.left last.place kind at word

-- ---- an assignment, a send or a mark

abbrev pub phrase_place : Phrase → Place
phrase_place phrases.Send = places.Receiver
phrase_place (Dotted to) = Signal
phrase_place phrases.Mark = places.Mark
phrase_place phrase = Operand

abbrev pub phrase_levels : Phrase → ℕ → ℕ
phrase_levels (Value x reader) base = over reader.outer base
phrase_levels (Called call args) base = argument_levels args (suc base)
phrase_levels phrase base = base

-- the statement of a variable has begun only with its `:=`
abbrev pub begun_in : Phrase → ℕ → ℕ
begun_in (Variable x) begun = begun - 1
begun_in phrase begun = begun

abbrev pub IsProper : Phrase → ℕ → Type 0
IsProper (Variable x) begun = 1 ≤ begun
IsProper phrase begun = Unit {0}

-- what the tokens come to that have been read of a phrase, in so many blocks, with so many statements begun and behind so many steps
abbrev pub phrase_tally : Phrase → ℕ → ℕ → ℕ → Tally
phrase_tally phrase base b s = record { place = phrase_place phrase; levels = phrase_levels phrase base; begun = begun_in phrase b; steps = s }

abbrev pub PhraseNext : Kind → Names → List ℕ → Tally → ℕ → ℕ → ℕ → Phrased → Type 0
PhraseNext kind names word c base b s (Goes phrase) = Fits kind names word c × (tally_behind kind c ≡ phrase_tally phrase base b s) × IsProper phrase b
PhraseNext kind names word c base b s (Ends stmt) = Fits kind names word c × (tally_behind kind c ≡ record { place = Statement; levels = base; begun = b; steps = s })

module _ (Wrong : Type 0) (names : Names) (base b s : ℕ) where
  became_told : (x : ℕ) → 1 ≤ b → (kind : Kind) (at : ℕ) (word : List ℕ) → KnownSignals (PhraseNext kind names word (operand base (b - 1) s) base b s) Wrong names (token_as at kind word) (operand base (b - 1) s) (became_by kind x at)
  became_told x some kinds.Becomes at word = (tt, same_tally refl (omega (arith, some)) refl, tt)
  became_told x some kind at word = refl

  value_told : (x : ℕ) (reader : ExprReader) (kind : Kind) (at : ℕ) (word : List ℕ)
      → KnownSignals (PhraseNext kind names word (operand (over reader.outer base) b s) base b s) Wrong names (token_as at kind word) (operand (over reader.outer base) b s) (value_read_by kind names (16 - base) x reader (token_as at kind word))
  value_told x reader kinds.Semicolon at word =
      told_then Wrong names (token_as at kinds.Semicolon word) (operand (over reader.outer base) b s) _ _ (expr_value reader at) _ (ends_told Wrong names (token_as at kinds.Semicolon word) (operand (over reader.outer base) b s) reader)
      (λ e h. (tt, same_tally (h base) refl refl))
  value_told x reader kind at word =
      told_then Wrong names (token_as at kind word) (operand (over reader.outer base) b s) _ _ (expr_step names (16 - base) reader (token_as at kind word)) _
      (expr_told Wrong names (16 - base) base b s refl reader.outer reader.left reader.place kind at word)
      (λ more h. let fits = taken_fits names word (over reader.outer base) (over more.outer base) b s kind h in (fits.0, fits.1, tt))

  receiver_told : (kind : Kind) (at : ℕ) (word : List ℕ) → KnownSignals (PhraseNext kind names word (phrase_tally phrases.Send base b s) base b s) Wrong names (token_as at kind word) (phrase_tally phrases.Send base b s) (receiver_read_by kind names (token_as at kind word))
  receiver_told kinds.Own at word = (tt, refl, tt)
  receiver_told kinds.Name at word = go (position (λ n. bytes_eq n word) names.objects) refl where
    go : (found : Option ℕ) → position (λ n. bytes_eq n word) names.objects ≡ found
        → KnownSignals (PhraseNext kinds.Name names word (phrase_tally phrases.Send base b s) base b s) Wrong names (token_as at kinds.Name word) (phrase_tally phrases.Send base b s) (object_read at found)
    go (Some o) e = (((λ none. absurd cc), λ is. absurd cc), refl, tt)
    go None e = (refl, refl, e)
  receiver_told kind at word = refl

  dotted_told : (to : Option ObjectId) (kind : Kind) (at : ℕ) (word : List ℕ) → KnownSignals (PhraseNext kind names word (operand base b s) base b s) Wrong names (token_as at kind word) (operand base b s) (dotted_by kind to at)
  dotted_told to kinds.Dot at word = (tt, refl, tt)
  dotted_told to kind at word = refl

  signal_told : (to : Option ObjectId) (kind : Kind) (at : ℕ) (word : List ℕ) → KnownSignals (PhraseNext kind names word (phrase_tally (Dotted to) base b s) base b s) Wrong names (token_as at kind word) (phrase_tally (Dotted to) base b s) (signal_read_by kind names to (token_as at kind word))
  signal_told to kinds.Name at word = go (position (λ d. bytes_eq d.name word) names.signals) refl where
    go : (found : Option ℕ) → position (λ d. bytes_eq d.name word) names.signals ≡ found
        → KnownSignals (PhraseNext kinds.Name names word (phrase_tally (Dotted to) base b s) base b s) Wrong names (token_as at kinds.Name word) (phrase_tally (Dotted to) base b s) (signal_named at to (signal_found names.signals found))
    go (Some k) e = (((λ none. absurd cc), λ is. absurd cc), refl, tt)
    go None e = (refl, refl, e)
  signal_told to kind at word = refl

  mark_told : (marks : List (List ℕ)) (kind : Kind) (at : ℕ) (word : List ℕ)
      → KnownSignals (λ (n : Phrased × List (List ℕ)). PhraseNext kind names word (phrase_tally phrases.Mark base b s) base b s n.0) Wrong names (token_as at kind word) (phrase_tally phrases.Mark base b s) (mark_read_by kind marks (token_as at kind word))
  mark_told marks kinds.Name at word = (((λ none. none), λ is. absurd cc), refl, tt)
  mark_told marks kind at word = refl

  named_told : (call : Call) (kind : Kind) (at : ℕ) (word : List ℕ) → KnownSignals (PhraseNext kind names word (operand base b s) base b s) Wrong names (token_as at kind word) (operand base b s) (named_by kind (16 - base) call at)
  named_told call kinds.Open at word =
      told_if Wrong names (token_as at kinds.Open word) (operand base b s) _ (ltb 0 (16 - base)) _ _
      (λ e. (omega (arith, ltb-true 0 (16 - base) e), refl, tt)) (λ e. (refl, level tt (omega (arith, ltb-false 0 (16 - base) e))))
  named_told (calls.Mark mark) kinds.Semicolon at word = (tt, refl)
  named_told (calls.Send to signal count) kinds.Semicolon at word = refl
  named_told call kind at word = refl

  made_told : (t : Token) (c : Tally) (call : Call) (args : List Expr) → (call_made call args t.at ≡ Err (Arity t.at) → Wrong) → KnownSignals (λ (stmt : Stmt). Unit {0}) Wrong names t c (call_made call args t.at)
  unfolding call_made
  made_told t c (calls.Send to signal count) args wrong =
      told_if Wrong names t c _ (eqb (length args) count) _ _ (λ e. tt) (λ e. (refl, wrong (ap (λ q. if q then Ok (Send to signal args) else Err (Arity t.at)) e)))
  made_told t c (calls.Mark mark) args wrong =
      told_if Wrong names t c _ (ltb 8 (length args)) _ _ (λ e. (refl, wrong (ap (λ q. if q then Err (Arity t.at) else Ok (Mark mark args)) e))) (λ e. tt)

  argued_told : (call : Call) (l : ℕ) (kind : Kind) (at : ℕ) (word : List ℕ) (a : Argued) → ((es : List Expr) → a ≡ arguments.Ends es → call_made call es at ≡ Err (Arity at) → Wrong) → Taken kind names word l (argued_levels a (suc base))
      → KnownSignals (PhraseNext kind names word (operand l b s) base b s) Wrong names (token_as at kind word) (operand l b s) (argued call a at)
  argued_told call l kind at word (arguments.Goes args) wrong h = let fits = taken_fits names word l (argument_levels args (suc base)) b s kind h in (fits.0, fits.1, tt)
  argued_told call l kind at word (arguments.Ends args) wrong h =
      let level : suc base - 1 ≡ base = omega arith in
      let fits = taken_fits names word l base b s kind (subst (λ x. Taken kind names word l x) level h) in
      told_then Wrong names (token_as at kind word) (operand l b s) _ _ (call_made call args at) _ (made_told (token_as at kind word) (operand l b s) call args (wrong args refl)) (λ stmt u. (fits.0, fits.1, tt))

  ended_told : (stmt : Stmt) (kind : Kind) (at : ℕ) (word : List ℕ) → KnownSignals (PhraseNext kind names word (operand base b s) base b s) Wrong names (token_as at kind word) (operand base b s) (called_ended_by kind stmt at)
  ended_told stmt kinds.Semicolon at word = (tt, refl)
  ended_told stmt kind at word = refl

  aside : (kind : Kind) (at : ℕ) (word : List ℕ) (c : Tally) (marks : List (List ℕ)) (x : Result Phrased ActFault) → KnownSignals (PhraseNext kind names word c base b s) Wrong names (token_as at kind word) c x
      → KnownSignals (λ (n : Phrased × List (List ℕ)). PhraseNext kind names word c base b s n.0) Wrong names (token_as at kind word) c (beside marks x)
  aside kind at word c marks x h = told_then Wrong names (token_as at kind word) c _ _ x (λ next. Ok (next, marks)) h (λ next is. is)

-- The arguments of a send or a mark end with the token, and are not as many as they should be.
abbrev pub Miscounts : Phrase → Names → ℕ → Token → Type 0
Miscounts (Called call args) names base t = (es : List Expr) × (arguments_step names (16 - base - 1) args t ≡ Ok (arguments.Ends es)) × (call_made call es t.at ≡ Err (Arity t.at))
Miscounts phrase names base t = ⊥

-- What a step of a phrase says.
pub phrase_told : (names : Names) (base b s : ℕ) (marks : List (List ℕ)) (phrase : Phrase) → IsProper phrase b → (kind : Kind) (at : ℕ) (word : List ℕ)
    → KnownSignals (λ (n : Phrased × List (List ℕ)). PhraseNext kind names word (phrase_tally phrase base b s) base b s n.0) (Miscounts phrase names base (token_as at kind word)) names (token_as at kind word) (phrase_tally phrase base b s)
    (phrase_step names (16 - base) marks phrase (token_as at kind word))
unfolding phrase_step became value_read receiver_read dotted signal_read mark_read named argument_read called_ended
phrase_told names base b s marks (Variable x) some kind at word = aside ⊥ names base b s kind at word (operand base (b - 1) s) marks (became_by kind x at) (became_told ⊥ names base b s x some kind at word)
phrase_told names base b s marks (Value x reader) some kind at word =
    aside ⊥ names base b s kind at word (operand (over reader.outer base) b s) marks (value_read_by kind names (16 - base) x reader (token_as at kind word)) (value_told ⊥ names base b s x reader kind at word)
phrase_told names base b s marks phrases.Send some kind at word = aside ⊥ names base b s kind at word (phrase_tally phrases.Send base b s) marks (receiver_read_by kind names (token_as at kind word)) (receiver_told ⊥ names base b s kind at word)
phrase_told names base b s marks (Receiver to) some kind at word = aside ⊥ names base b s kind at word (operand base b s) marks (dotted_by kind to at) (dotted_told ⊥ names base b s to kind at word)
phrase_told names base b s marks (Dotted to) some kind at word = aside ⊥ names base b s kind at word (phrase_tally (Dotted to) base b s) marks (signal_read_by kind names to (token_as at kind word)) (signal_told ⊥ names base b s to kind at word)
phrase_told names base b s marks phrases.Mark some kind at word = mark_told ⊥ names base b s marks kind at word
phrase_told names base b s marks (Named call) some kind at word = aside ⊥ names base b s kind at word (operand base b s) marks (named_by kind (16 - base) call at) (named_told ⊥ names base b s call kind at word)
phrase_told names base b s marks (Called call args) some kind at word =
    let t = token_as at kind word in
    let Wrong = Miscounts (Called call args) names base t in
    let c = operand (argument_levels args (suc base)) b s in
    aside Wrong names base b s kind at word c marks (and_then (arguments_step names (16 - base - 1) args t) (λ a. argued call a at))
    (told_from Wrong names t c _ _ (arguments_step names (16 - base - 1) args t) _ (arguments_told Wrong names (16 - base - 1) (suc base) b s (omega arith) args kind at word)
    (λ a e h. argued_told Wrong names base b s call (argument_levels args (suc base)) kind at word a (λ es is made. (es, e ∙ ap (λ x. Ok x) is, made)) h))
phrase_told names base b s marks (Whole stmt) some kind at word = aside ⊥ names base b s kind at word (operand base b s) marks (called_ended_by kind stmt at) (ended_told ⊥ names base b s stmt kind at word)
