-- Tokens of the shape of arguments are not refused for their shape.
use Rattle.std.proofs.Common.{◌≡◌, ◌-◌, ℕ, Bool, true, false, ltb, eqb, List, [], ◌∷◌, ◌++◌, length, Result, Ok, Err, refl, sym, ap, ◌∙◌, subst, if◌then◌else◌}
use Rattle.std.proofs.lemmas.Bool.{ltb-true}
use Rattle.pssm_acts.specs.declared.act_fault.ActFault.{ActFault}
use Rattle.pssm_acts.specs.declared.act_fault.ActFault.TheVariants.{Syntax, Arity, TooLong}
use Rattle.pssm_acts.specs.declared.read_blocks.Blocks.{Blocks}
use Rattle.pssm_acts.specs.declared.argument_reader.Arguments.{Arguments}
use Rattle.pssm_acts.specs.declared.argument_reader.Arguments.TheVariants.{Opened, Listed}
use Rattle.pssm_acts.specs.declared.argument_reader.Argued.TheVariants.{Goes, Ends}
use Rattle.pssm_acts.specs.declared.expr_reader.ExprReader.{ExprReader}
use Rattle.pssm_acts.specs.declared.expr_reader.Left.{Left}
use Rattle.pssm_acts.specs.declared.expr_reader.Level.{Level}
use Rattle.pssm_acts.specs.declared.expr_reader.Place.{Place}
use Rattle.pssm_acts.specs.declared.expr_reader.Place.TheVariants.{Wants, Has}
use Rattle.pssm_acts.specs.declared.phrase_reader.Call.{Call}
use Rattle.pssm_acts.specs.declared.phrase_reader.Call.TheVariants as calls
use Rattle.pssm_acts.specs.declared.phrase_reader.Phrase.TheVariants.{Named, Called, Whole}
use Rattle.pssm_acts.specs.declared.phrase_reader.Phrased.TheVariants as phrased_as
use Rattle.pssm_semantics.specs.declared.setting.Names.{Names}
use Rattle.pssm_acts.specs.declared.token.Kind.{Kind}
use Rattle.pssm_acts.specs.declared.token.Kind.TheVariants as kinds
use Rattle.pssm_semantics.specs.declared.tree.Expr.{Expr}
use Rattle.pssm_semantics.specs.declared.tree.Stmt.{Stmt, Send, Mark}
use Rattle.pssm_acts.specs.Tokens.{Token}
use Rattle.pssm_acts.specs.inner.ExprReading.{and_then, sum_of, closed, at_atom, atom_of, after_atom, expr_step, fresh_expr}
use Rattle.pssm_acts.specs.inner.ArgumentReading.{argument_more, argument_closed, listed_step, arguments_step}
use Rattle.pssm_acts.specs.inner.PhraseReading.{beside, argued, argument_read, call_made, named, phrase_step}
use Rattle.pssm_acts.specs.inner.ActReading.{ActsState, acts_steps_in, phrased, phrase_read, acts_step}
use Rattle.pssm_acts.specs.Grammar.{Sum}
use Rattle.pssm_acts.specs.Shapes.{ExprShape, ListShape, one, further, ArgumentsShape, none, some}
use Rattle.pssm_acts.proofs.ExprRead.{reader_at}
use Rattle.pssm_acts.proofs.ArgumentRead.{argument_goes, argument_begins, behind_comma, behind_last, behind_none, within, room_in, takes_goes, takes_ends, takes_open}
use Rattle.pssm_acts.proofs.Fares.{IsOther, Fares, arrives, goes, stops, Among, fares_to, fares_as, fares_part, fares_begun, sum_read, expr_fares}
use Rattle.pssm_acts.proofs.GuardFares.{fresh_is_none}

-- ---- one token in arguments

argument_refuses : (names : Names) (room : ℕ) (args : List Expr) (outer : List Level) (left : Left) (place : Place) (fault : ActFault) (kind : Kind) (at : ℕ) (word : List ℕ)
    → expr_step names room (reader_at outer left place) (record { at = at; kind = kind; word = word }) ≡ Err fault → IsOther fault
    → arguments_step names room (Listed args (reader_at outer left place)) (record { at = at; kind = kind; word = word }) ≡ Err fault
unfolding expr_step at_atom atom_of after_atom closed arguments_step listed_step argument_closed argument_more
argument_refuses names room args outer left (Wants factor) fault kinds.Comma at word step other = let same : Syntax at ≡ fault = cc in absurd (subst IsOther (sym same) other)
argument_refuses names room args outer left (Has term) fault kinds.Comma at word step other = let same : Syntax at ≡ fault = cc in absurd (subst IsOther (sym same) other)
argument_refuses names room args [] left (Wants factor) fault kinds.Close at word step other = let same : Syntax at ≡ fault = cc in absurd (subst IsOther (sym same) other)
argument_refuses names room args [] left (Has term) fault kinds.Close at word step other = let same : Syntax at ≡ fault = cc in absurd (subst IsOther (sym same) other)
argument_refuses names room args (level ∷ outer) left place fault kinds.Close at word step other = ap (λ x. and_then x (λ more. Ok (Goes (Listed args more)))) step
argument_refuses names room args outer left place fault kind at word step other = ap (λ x. and_then x (λ more. Ok (Goes (Listed args more)))) step

opening_refuses : (names : Names) (room : ℕ) (fault : ActFault) (kind : Kind) (at : ℕ) (word : List ℕ)
    → expr_step names room fresh_expr (record { at = at; kind = kind; word = word }) ≡ Err fault → IsOther fault
    → arguments_step names room Opened (record { at = at; kind = kind; word = word }) ≡ Err fault
unfolding expr_step at_atom atom_of arguments_step listed_step argument_more
opening_refuses names room fault kinds.Comma at word step other = let same : Syntax at ≡ fault = cc in absurd (subst IsOther (sym same) other)
opening_refuses names room fault kinds.Close at word step other = let same : Syntax at ≡ fault = cc in absurd (subst IsOther (sym same) other)
opening_refuses names room fault kind at word step other = ap (λ x. and_then x (λ more. Ok (Goes (Listed [] more)))) step

pub made_refuses : (call : Call) (args : List Expr) (at : ℕ) (fault : ActFault) → call_made call args at ≡ Err fault → IsOther fault
unfolding call_made
made_refuses (calls.Send to signal count) args at fault is = go (eqb (length args) count) is where
  go : (b : Bool) → (if b then Ok (Send to signal args) else Err (Arity at)) ≡ Err fault → IsOther fault
  go true is = absurd cc
  go false is = let same : Arity at ≡ fault = cc in subst IsOther same tt
made_refuses (calls.Mark mark) args at fault is = go (ltb 8 (length args)) is where
  go : (b : Bool) → (if b then Err (Arity at) else Ok (Mark mark args)) ≡ Err fault → IsOther fault
  go true is = let same : Arity at ≡ fault = cc in subst IsOther same tt
  go false is = absurd cc

-- ---- the same in the whole

module _ (names : Names) (stepped : Bool) (marks : List (List ℕ)) (blocks : Blocks) (call : Call) where
  pub call_refuses : (args : Arguments) (t : Token) (fault : ActFault) → arguments_step names (room_in blocks) args t ≡ Err fault → acts_step names stepped marks (within blocks (Called call args)) t ≡ Err fault
  unfolding acts_step phrase_read phrase_step argument_read
  call_refuses args t fault step = ap (λ x. and_then (beside marks (and_then x (λ a. argued call a t.at))) (λ next. Ok (phrased blocks next.0, next.1))) step

  pub end_refuses : (args : Arguments) (es : List Expr) (t : Token) (fault : ActFault) → arguments_step names (room_in blocks) args t ≡ Ok (Ends es) → call_made call es t.at ≡ Err fault
      → acts_step names stepped marks (within blocks (Called call args)) t ≡ Err fault
  unfolding acts_step phrase_read phrase_step argument_read
  end_refuses args es t fault step made =
      ap (λ x. and_then (beside marks (and_then x (λ a. argued call a t.at))) (λ next. Ok (phrased blocks next.0, next.1))) step
      ∙ ap (λ x. and_then (beside marks (and_then x (λ s'. Ok (phrased_as.Goes (Whole s'))))) (λ next. Ok (phrased blocks next.0, next.1))) made

  pub open_refuses : (t : Token) → t.kind ≡ kinds.Open → ltb 0 (16 - length blocks.outer) ≡ false → acts_step names stepped marks (within blocks (Named call)) t ≡ Err (TooLong t.at)
  unfolding acts_step phrase_read phrase_step named
  open_refuses t is deep = simp (is, deep) refl

  -- an argument behind others
  abbrev pub listed_at : List Expr → ExprReader → ActsState
  listed_at args m = (within blocks (Called call (Listed args m)), marks)

  pub further_fares : {ts : List Token} (args : List Expr) → ExprShape Sum ts → Fares (acts_steps_in names stepped) (Among (λ p. listed_at args (sum_read [] p))) (listed_at args fresh_expr) ts
  further_fares args shape =
      fares_part (listed_at args) (sum_read [])
      (λ s n t step. takes_goes names stepped marks blocks call (Listed args s) (Listed args n) t (argument_goes names (room_in blocks) args s.outer s.left s.place n t.kind t.at t.word step))
      (λ s t fault step other. call_refuses (Listed args s) t fault (argument_refuses names (room_in blocks) args s.outer s.left s.place fault t.kind t.at t.word step other))
      (expr_fares names (room_in blocks) [] shape)

  pub first_fares : {ts : List Token} → ExprShape Sum ts → Fares (acts_steps_in names stepped) (Among (λ p. listed_at [] (sum_read [] p))) (within blocks (Called call Opened), marks) ts
  first_fares shape =
      fares_begun (listed_at []) (sum_read []) (within blocks (Called call Opened), marks)
      (λ n t step. takes_goes names stepped marks blocks call Opened (Listed [] n) t (argument_begins names (room_in blocks) n t.kind t.at t.word step))
      (λ t fault step other. call_refuses Opened t fault (opening_refuses names (room_in blocks) fault t.kind t.at t.word step other))
      fresh_is_none
      (λ s n t step. takes_goes names stepped marks blocks call (Listed [] s) (Listed [] n) t (argument_goes names (room_in blocks) [] s.outer s.left s.place n t.kind t.at t.word step))
      (λ s t fault step other. call_refuses (Listed [] s) t fault (argument_refuses names (room_in blocks) [] s.outer s.left s.place fault t.kind t.at t.word step other))
      (expr_fares names (room_in blocks) [] shape)

  -- arguments have been read, the last one perhaps not to its end
  abbrev pub list_at : List Expr × Left × Expr → ActsState
  list_at q = listed_at q.0 (reader_at [] q.1 (Has q.2))

  list_fares : {ts : List Token} → ListShape ts → Fares (acts_steps_in names stepped) (Among list_at) (within blocks (Called call Opened), marks) ts
  list_fares (one shape) = fares_as (first_fares shape) (λ n goal. (([], goal.0.0, goal.0.1), goal.1))
  list_fares (further comma {ts} {us} front is back) =
      fares_to list_at (list_fares front)
      (λ q.
      let es : List Expr = q.0 ++ sum_of q.1 q.2 ∷ [] in
      goes (takes_goes names stepped marks blocks call (Listed q.0 (reader_at [] q.1 (Has q.2))) (Listed es fresh_expr) comma (behind_comma names (room_in blocks) comma q.0 q.1 q.2 is))
      (fares_as (further_fares es back) (λ n goal. ((es, goal.0.0, goal.0.1), goal.1))))

  -- the closing parenthesis
  end_fares : (args : Arguments) (es : List Expr) (t : Token) → arguments_step names (room_in blocks) args t ≡ Ok (Ends es)
      → Fares (acts_steps_in names stepped) (Among (λ (s : Stmt). (within blocks (Whole s), marks))) (within blocks (Called call args), marks) (t ∷ [])
  end_fares args es t step = go (call_made call es t.at) refl where
    go : (r : Result Stmt ActFault) → call_made call es t.at ≡ r → Fares (acts_steps_in names stepped) (Among (λ (s : Stmt). (within blocks (Whole s), marks))) (within blocks (Called call args), marks) (t ∷ [])
    go (Ok s) made = goes (takes_ends names stepped marks blocks call args es s t step made) (arrives (s, refl))
    go (Err fault) made = stops fault (end_refuses args es t fault step made) (made_refuses call es t.at fault made)

  -- the opening parenthesis
  open_fares : {rest : List Token} (t : Token) → t.kind ≡ kinds.Open → Fares (acts_steps_in names stepped) (Among (λ (s : Stmt). (within blocks (Whole s), marks))) (within blocks (Called call Opened), marks) rest
      → Fares (acts_steps_in names stepped) (Among (λ (s : Stmt). (within blocks (Whole s), marks))) (within blocks (Named call), marks) (t ∷ rest)
  open_fares {rest} t is inner = go (ltb 0 (16 - length blocks.outer)) refl where
    go : (b : Bool) → ltb 0 (16 - length blocks.outer) ≡ b → Fares (acts_steps_in names stepped) (Among (λ (s : Stmt). (within blocks (Whole s), marks))) (within blocks (Named call), marks) (t ∷ rest)
    go true e = goes (takes_open names stepped marks blocks call t is (ltb-true 0 (16 - length blocks.outer) e)) inner
    go false e = stops (TooLong t.at) (open_refuses t is e) tt

  pub arguments_fares : {ts : List Token} → ArgumentsShape ts → Fares (acts_steps_in names stepped) (Among (λ (s : Stmt). (within blocks (Whole s), marks))) (within blocks (Named call), marks) ts
  arguments_fares (none {opening} {closing} opens closes) = open_fares opening opens (end_fares Opened [] closing (behind_none names (room_in blocks) closing closes))
  arguments_fares (some {opening} closing {ts} opens inner closes) =
      open_fares opening opens
      (fares_to list_at (list_fares inner) (λ q. end_fares (Listed q.0 (reader_at [] q.1 (Has q.2))) (q.0 ++ sum_of q.1 q.2 ∷ []) closing (behind_last names (room_in blocks) closing q.0 q.1 q.2 closes)))
