-- Tokens of the shape of an assignment, a send or a mark are not refused for their shape.
use Rattle.std.proofs.Common.{◌≡◌, ◌⊎◌, inl, inr, ◌+◌, ◌-◌, ◌<◌, ℕ, Bool, true, false, ltb, List, [], ◌∷◌, ◌++◌, length, Option, Some, None, Ok, Err, refl, sym, ap, ◌∙◌, subst, position, bytes_eq}
use Rattle.std.proofs.lemmas.Bool.{ltb-true}
use Rattle.pssm_model.specs.declared.ids.SignalId.{SignalId}
use Rattle.pssm_acts.specs.declared.act_fault.ActFault.{ActFault}
use Rattle.pssm_acts.specs.declared.act_fault.ActFault.TheVariants.{Syntax, UnknownName, TooLong}
use Rattle.pssm_acts.specs.declared.acts_reader.ActsReader.{ActsReader}
use Rattle.pssm_acts.specs.declared.read_blocks.Blocks.{Blocks}
use Rattle.pssm_acts.specs.declared.read_blocks.OpenIf.{OpenIf}
use Rattle.pssm_acts.specs.declared.acts_reader.Turn.TheVariants.{Begins}
use Rattle.pssm_semantics.specs.declared.entry.ObjectId.{ObjectId}
use Rattle.pssm_acts.specs.declared.expr_reader.Left.{Left}
use Rattle.pssm_acts.specs.declared.expr_reader.Level.{Level}
use Rattle.pssm_acts.specs.declared.expr_reader.Place.{Place}
use Rattle.pssm_acts.specs.declared.expr_reader.Place.TheVariants.{Wants, Has}
use Rattle.pssm_acts.specs.declared.phrase_reader.Call.{Call}
use Rattle.pssm_acts.specs.declared.phrase_reader.Call.TheVariants as calls
use Rattle.pssm_acts.specs.declared.phrase_reader.Phrase.TheVariants.{Variable, Value, Receiver, Dotted, Named, Whole}
use Rattle.pssm_acts.specs.declared.phrase_reader.Phrase.TheVariants as phrases
use Rattle.pssm_acts.specs.declared.phrase_reader.Phrased.TheVariants.{Goes}
use Rattle.pssm_semantics.specs.declared.setting.Names.{Names}
use Rattle.pssm_acts.specs.declared.token.Kind.{Kind}
use Rattle.pssm_acts.specs.declared.token.Kind.TheVariants as kinds
use Rattle.pssm_semantics.specs.declared.tree.Act.{Act}
use Rattle.pssm_semantics.specs.declared.tree.Stmt.{Stmt, Assign, Mark}
use Rattle.pssm_acts.specs.Tokens.{Token}
use Rattle.pssm_acts.specs.Marks.{mark_of, with_mark}
use Rattle.pssm_acts.specs.inner.ExprReading.{and_then, sum_of, at_atom, atom_of, after_atom, expr_step, fresh_expr}
use Rattle.pssm_acts.specs.inner.PhraseReading.{beside, signal_count, phrase_begun, value_read, receiver_read, signal_read, phrase_step}
use Rattle.pssm_acts.specs.inner.ActReading.{ActsState, acts_steps_in, at_turn, statement_counted, begun_at, phrased, phrase_read, acts_step}
use Rattle.pssm_acts.specs.ActGrammar.{object, running}
use Rattle.pssm_acts.specs.Grammar.{Sum}
use Rattle.pssm_acts.specs.Shapes.{ExprShape, ArgumentsShape, PhraseShape, assignment, sending, bare_mark, marking}
use Rattle.pssm_acts.proofs.ExprRead.{reader_at}
use Rattle.pssm_acts.proofs.ArgumentRead.{within}
use Rattle.pssm_acts.proofs.PhraseRead.{Standing, begins, IsNoElse, stands_step, taken, counted, assignment_begins, send_begins, mark_begins, value_goes, behind_variable, behind_value, behind_send, behind_receiver, behind_dot, behind_mark, behind_bare, behind_arguments}
use Rattle.pssm_acts.proofs.BlockRead.{blocks_at}
use Rattle.pssm_acts.proofs.Fares.{IsOther, Fares, arrives, goes, stops, Among, fares_to, fares_part, sum_read, expr_fares}
use Rattle.pssm_acts.proofs.ArgumentFares.{arguments_fares}

-- statements have been read, in these blocks and behind these steps
pub record StmtsRead (earlier : List Act) (outer : List OpenIf) : Type 0 where
  pub block : List Stmt
  pub begun : ℕ
  pub reader : ActsReader
  pub marks : List (List ℕ)
  pub stands : Standing reader (blocks_at earlier outer block begun)

abbrev pub stmts_state : (earlier : List Act) (outer : List OpenIf) → StmtsRead earlier outer → ActsState
stmts_state earlier outer r = (r.reader, r.marks)

-- ---- the value of an assignment

value_refuses : (names : Names) (stepped : Bool) (marks : List (List ℕ)) (blocks : Blocks) (x : ℕ) (outer : List Level) (left : Left) (place : Place) (fault : ActFault) (kind : Kind) (at : ℕ) (word : List ℕ)
    → expr_step names (16 - length blocks.outer) (reader_at outer left place) (record { at = at; kind = kind; word = word }) ≡ Err fault → IsOther fault
    → acts_step names stepped marks (within blocks (Value x (reader_at outer left place))) (record { at = at; kind = kind; word = word }) ≡ Err fault
unfolding expr_step at_atom atom_of after_atom acts_step phrase_read phrase_step value_read
value_refuses names stepped marks blocks x outer left (Wants factor) fault kinds.Semicolon at word step other = let same : Syntax at ≡ fault = cc in absurd (subst IsOther (sym same) other)
value_refuses names stepped marks blocks x outer left (Has term) fault kinds.Semicolon at word step other = let same : Syntax at ≡ fault = cc in absurd (subst IsOther (sym same) other)
value_refuses names stepped marks blocks x outer left place fault kind at word step other =
    ap (λ r. and_then (beside marks (and_then r (λ more. Ok (Goes (Value x more))))) (λ next. Ok (phrased blocks next.0, next.1))) step

value_fares : {ts : List Token} (names : Names) (stepped : Bool) (marks : List (List ℕ)) (blocks : Blocks) (x : ℕ) → ExprShape Sum ts
    → Fares (acts_steps_in names stepped) (Among (λ p. (within blocks (Value x (sum_read [] p)), marks))) (within blocks (Value x fresh_expr), marks) ts
value_fares names stepped marks blocks x shape =
    fares_part (λ side. (within blocks (Value x side), marks)) (sum_read [])
    (λ s n t step. value_goes names stepped marks blocks x s.outer s.left s.place n t.kind t.at t.word step)
    (λ s t fault step other. value_refuses names stepped marks blocks x s.outer s.left s.place fault t.kind t.at t.word step other)
    (expr_fares names (16 - length blocks.outer) [] shape)

-- ---- the first token

-- A token that is refused where a statement may begin is refused where statements are whole.
pub untaken : {n : ActsReader} {blocks : Blocks} (names : Names) (stepped : Bool) (marks : List (List ℕ)) (t : Token) (fault : ActFault) → Standing n blocks → IsNoElse t.kind → begun_at names stepped blocks t ≡ Err fault
    → acts_step names stepped marks n t ≡ Err fault
untaken {n} {blocks} names stepped marks t fault stands other step = stands_step names stepped marks n blocks t.kind t.at t.word other stands ∙ ap (λ x. beside marks x) step

module _ (names : Names) (stepped : Bool) (blocks : Blocks) (t : Token) where
  unknown_begins : t.kind ≡ kinds.Name → position (λ name. bytes_eq name t.word) names.vars ≡ None → begun_at names stepped blocks t ≡ Err (UnknownName t.at)
  unfolding begun_at phrase_begun
  unknown_begins is none = simp (is, none) refl

  many_assign : (x : ℕ) → t.kind ≡ kinds.Name → position (λ name. bytes_eq name t.word) names.vars ≡ Some x → ltb blocks.begun 64 ≡ false → begun_at names stepped blocks t ≡ Err (TooLong t.at)
  unfolding begun_at phrase_begun statement_counted
  many_assign x is found many = simp (is, found, many) refl

  many_send : t.kind ≡ kinds.Send → ltb blocks.begun 64 ≡ false → begun_at names stepped blocks t ≡ Err (TooLong t.at)
  unfolding begun_at phrase_begun statement_counted
  many_send is many = simp (is, many) refl

  many_mark : t.kind ≡ kinds.Mark → ltb blocks.begun 64 ≡ false → begun_at names stepped blocks t ≡ Err (TooLong t.at)
  unfolding begun_at phrase_begun statement_counted
  many_mark is many = simp (is, many) refl

module _ (names : Names) (stepped : Bool) (n : ActsReader) (marks : List (List ℕ)) (blocks : Blocks) (stands : Standing n blocks) (Goal : ActsState → Type 0) (rest : List Token) (t : Token) where
  -- the first token leads on to this place
  begun_fares : (m : ActsReader) → IsNoElse t.kind → (blocks.begun < 64 → begun_at names stepped blocks t ≡ Ok m) → (ltb blocks.begun 64 ≡ false → begun_at names stepped blocks t ≡ Err (TooLong t.at))
      → Fares (acts_steps_in names stepped) Goal (m, marks) rest → Fares (acts_steps_in names stepped) Goal (n, marks) (t ∷ rest)
  begun_fares m other takes refuses further = go (ltb blocks.begun 64) refl where
    go : (b : Bool) → ltb blocks.begun 64 ≡ b → Fares (acts_steps_in names stepped) Goal (n, marks) (t ∷ rest)
    go true e = goes (taken names stepped marks t stands other (takes (ltb-true blocks.begun 64 e))) further
    go false e = stops (TooLong t.at) (untaken names stepped marks t (TooLong t.at) stands other (refuses e)) tt

  assigns_fares : t.kind ≡ kinds.Name → ((x : ℕ) → Fares (acts_steps_in names stepped) Goal (within (counted blocks) (Variable x), marks) rest) → Fares (acts_steps_in names stepped) Goal (n, marks) (t ∷ rest)
  assigns_fares is further = go (position (λ name. bytes_eq name t.word) names.vars) refl where
    go : (found : Option ℕ) → position (λ name. bytes_eq name t.word) names.vars ≡ found → Fares (acts_steps_in names stepped) Goal (n, marks) (t ∷ rest)
    go (Some x) found =
        begun_fares (within (counted blocks) (Variable x)) (rw is tt) (λ few. assignment_begins names stepped blocks few t x is found) (many_assign names stepped blocks t x is found) (further x)
    go None found = stops (UnknownName t.at) (untaken names stepped marks t (UnknownName t.at) stands (rw is tt) (unknown_begins names stepped blocks t is found)) tt

-- ---- the names of an object and a signal

module _ (names : Names) (stepped : Bool) (marks : List (List ℕ)) (blocks : Blocks) (Goal : ActsState → Type 0) (rest : List Token) (t : Token) where
  unknown_object : t.kind ≡ kinds.Name → position (λ name. bytes_eq name t.word) names.objects ≡ None → acts_step names stepped marks (within blocks phrases.Send) t ≡ Err (UnknownName t.at)
  unfolding acts_step phrase_read phrase_step receiver_read
  unknown_object is none = simp (is, none) refl

  unknown_signal : (to : Option ObjectId) → t.kind ≡ kinds.Name → position (λ d. bytes_eq d.name t.word) names.signals ≡ None → acts_step names stepped marks (within blocks (Dotted to)) t ≡ Err (UnknownName t.at)
  unfolding acts_step phrase_read phrase_step signal_read
  unknown_signal to is none = simp (is, none) refl

  receiver_fares : (t.kind ≡ kinds.Name) ⊎ (t.kind ≡ kinds.Own) → ((to : Option ObjectId) → Fares (acts_steps_in names stepped) Goal (within blocks (Receiver to), marks) rest)
      → Fares (acts_steps_in names stepped) Goal (within blocks phrases.Send, marks) (t ∷ rest)
  receiver_fares (inr is) further = goes (behind_send names stepped marks blocks t None (running is)) (further None)
  receiver_fares (inl is) further = go (position (λ name. bytes_eq name t.word) names.objects) refl where
    go : (found : Option ℕ) → position (λ name. bytes_eq name t.word) names.objects ≡ found → Fares (acts_steps_in names stepped) Goal (within blocks phrases.Send, marks) (t ∷ rest)
    go (Some k) found = let o : ObjectId = record { 0 = k } in goes (behind_send names stepped marks blocks t (Some o) (object is found)) (further (Some o))
    go None found = stops (UnknownName t.at) (unknown_object is found) tt

  signal_fares : (to : Option ObjectId) → t.kind ≡ kinds.Name → ((call : Call) → Fares (acts_steps_in names stepped) Goal (within blocks (Named call), marks) rest) → Fares (acts_steps_in names stepped) Goal (within blocks (Dotted to), marks) (t ∷ rest)
  signal_fares to is further = go (position (λ d. bytes_eq d.name t.word) names.signals) refl where
    go : (found : Option ℕ) → position (λ d. bytes_eq d.name t.word) names.signals ≡ found → Fares (acts_steps_in names stepped) Goal (within blocks (Dotted to), marks) (t ∷ rest)
    go (Some k) found = let s : SignalId = record { 0 = k } in goes (behind_dot names stepped marks blocks t to s is found) (further (calls.Send to s (signal_count names.signals k)))
    go None found = stops (UnknownName t.at) (unknown_signal to is found) tt

-- ---- the whole

module _ (names : Names) (stepped : Bool) (earlier : List Act) (outer : List OpenIf) where
  -- a statement has ended
  ended : (block : List Stmt) (begun : ℕ) (marks : List (List ℕ)) → StmtsRead earlier outer
  ended block begun marks = record { block = block; begun = begun; reader = at_turn (blocks_at earlier outer block begun) Begins; marks = marks; stands = begins }

  called_fares : {ts : List Token} (block : List Stmt) (begun : ℕ) (marks : List (List ℕ)) (call : Call) (semicolon : Token) → ArgumentsShape ts → semicolon.kind ≡ kinds.Semicolon
      → Fares (acts_steps_in names stepped) (Among (stmts_state earlier outer)) (within (blocks_at earlier outer block begun) (Named call), marks) (ts ++ semicolon ∷ [])
  unfolding ended
  called_fares block begun marks call semicolon shape ends =
      fares_to (λ (s : Stmt). (within (blocks_at earlier outer block begun) (Whole s), marks)) (arguments_fares names stepped marks (blocks_at earlier outer block begun) call shape)
      (λ s. goes (behind_arguments names stepped marks (blocks_at earlier outer block begun) semicolon s ends) (arrives (ended (block ++ s ∷ []) begun marks, refl)))

  pub phrase_fares : {ts : List Token} (r : StmtsRead earlier outer) → PhraseShape ts → Fares (acts_steps_in names stepped) (Among (stmts_state earlier outer)) (r.reader, r.marks) ts
  unfolding ended
  phrase_fares r (assignment {variable} {becomes} semicolon {ts} is becoming shape ends) =
      let more : Blocks = blocks_at earlier outer r.block (r.begun + 1) in
      assigns_fares names stepped r.reader r.marks (blocks_at earlier outer r.block r.begun) r.stands (Among (stmts_state earlier outer)) (becomes ∷ (ts ++ semicolon ∷ [])) variable is
      (λ x. goes (behind_variable names stepped r.marks more becomes x becoming)
      (fares_to (λ p. (within more (Value x (sum_read [] p)), r.marks)) (value_fares names stepped r.marks more x shape)
      (λ p. goes (behind_value names stepped r.marks more semicolon x p.0 p.1 ends) (arrives (ended (r.block ++ Assign x (sum_of p.0 p.1) ∷ []) (r.begun + 1) r.marks, refl)))))
  phrase_fares r (sending {send} {receiver} {dot} {name} semicolon {ts} is receives dots names' shape ends) =
      let more : Blocks = blocks_at earlier outer r.block (r.begun + 1) in
      let Goal = Among (stmts_state earlier outer) in
      begun_fares names stepped r.reader r.marks (blocks_at earlier outer r.block r.begun) r.stands Goal (receiver ∷ dot ∷ name ∷ (ts ++ semicolon ∷ [])) send (within more phrases.Send) (rw is tt)
      (λ few. send_begins names stepped (blocks_at earlier outer r.block r.begun) few send is) (many_send names stepped (blocks_at earlier outer r.block r.begun) send is)
      (receiver_fares names stepped r.marks more Goal (dot ∷ name ∷ (ts ++ semicolon ∷ [])) receiver receives
      (λ to. goes (behind_receiver names stepped r.marks more dot to dots)
      (signal_fares names stepped r.marks more Goal (ts ++ semicolon ∷ []) name to names' (λ call. called_fares r.block (r.begun + 1) r.marks call semicolon shape ends))))
  phrase_fares r (bare_mark {mark} {name} {semicolon} is names' ends) =
      let more : Blocks = blocks_at earlier outer r.block (r.begun + 1) in
      let noted = with_mark r.marks name.word in
      begun_fares names stepped r.reader r.marks (blocks_at earlier outer r.block r.begun) r.stands (Among (stmts_state earlier outer)) (name ∷ semicolon ∷ []) mark (within more phrases.Mark) (rw is tt)
      (λ few. mark_begins names stepped (blocks_at earlier outer r.block r.begun) few mark is) (many_mark names stepped (blocks_at earlier outer r.block r.begun) mark is)
      (goes (behind_mark names stepped r.marks more name names')
      (goes (behind_bare names stepped noted more semicolon (mark_of r.marks name.word) ends) (arrives (ended (r.block ++ Mark (mark_of r.marks name.word) [] ∷ []) (r.begun + 1) noted, refl))))
  phrase_fares r (marking {mark} {name} semicolon {ts} is names' shape ends) =
      let more : Blocks = blocks_at earlier outer r.block (r.begun + 1) in
      begun_fares names stepped r.reader r.marks (blocks_at earlier outer r.block r.begun) r.stands (Among (stmts_state earlier outer)) (name ∷ (ts ++ semicolon ∷ [])) mark (within more phrases.Mark) (rw is tt)
      (λ few. mark_begins names stepped (blocks_at earlier outer r.block r.begun) few mark is) (many_mark names stepped (blocks_at earlier outer r.block r.begun) mark is)
      (goes (behind_mark names stepped r.marks more name names') (called_fares r.block (r.begun + 1) (with_mark r.marks name.word) (calls.Mark (mark_of r.marks name.word)) semicolon shape ends))
