-- Whatever spells arguments is read as those arguments.
use Rattle.std.proofs.Common.{◌≡◌, ◌+◌, ◌-◌, ◌<◌, ℕ, suc, Bool, List, [], ◌∷◌, ◌++◌, length, None, Ok, refl, ap, ◌∙◌, arith}
use Rattle.std.proofs.lemmas.Bool.{lt-ltb}
use Rattle.pssm_acts.specs.declared.acts_reader.ActsReader.{ActsReader}
use Rattle.pssm_acts.specs.declared.read_blocks.Blocks.{Blocks}
use Rattle.pssm_acts.specs.declared.acts_reader.Turn.TheVariants.{Within}
use Rattle.pssm_acts.specs.declared.argument_reader.Arguments.{Arguments}
use Rattle.pssm_acts.specs.declared.argument_reader.Arguments.TheVariants.{Opened, Listed}
use Rattle.pssm_acts.specs.declared.argument_reader.Argued.TheVariants.{Goes, Ends}
use Rattle.pssm_acts.specs.declared.expr_reader.ExprReader.{ExprReader}
use Rattle.pssm_acts.specs.declared.expr_reader.Left.{Left}
use Rattle.pssm_acts.specs.declared.expr_reader.Level.{Level}
use Rattle.pssm_acts.specs.declared.expr_reader.Place.{Place}
use Rattle.pssm_acts.specs.declared.expr_reader.Place.TheVariants.{Wants, Has}
use Rattle.pssm_acts.specs.declared.phrase_reader.Call.{Call}
use Rattle.pssm_acts.specs.declared.phrase_reader.Phrase.{Phrase}
use Rattle.pssm_acts.specs.declared.phrase_reader.Phrase.TheVariants.{Named, Called, Whole}
use Rattle.pssm_acts.specs.declared.phrase_reader.Phrased.TheVariants as phrased_as
use Rattle.pssm_semantics.specs.declared.setting.Names.{Names}
use Rattle.pssm_acts.specs.declared.token.Kind.{Kind}
use Rattle.pssm_acts.specs.declared.token.Kind.TheVariants as kinds
use Rattle.pssm_semantics.specs.declared.tree.Expr.{Expr}
use Rattle.pssm_semantics.specs.declared.tree.Stmt.{Stmt}
use Rattle.pssm_acts.specs.Tokens.{Token}
use Rattle.pssm_acts.specs.inner.ExprReading.{and_then, sum_of, closed, at_atom, atom_of, after_atom, expr_step, expr_value, fresh_expr}
use Rattle.pssm_acts.specs.inner.ArgumentReading.{argument_ended, argument_more, argument_closed, listed_step, arguments_step}
use Rattle.pssm_acts.specs.inner.PhraseReading.{beside, argued, argument_read, call_made, named, phrase_step}
use Rattle.pssm_acts.specs.inner.ActReading.{at_turn, phrased, phrase_read, acts_step}
use Rattle.pssm_acts.specs.ActGrammar.{SpellsList, one, further, SpellsArguments, none, some}
use Rattle.pssm_acts.proofs.ExprRead.{expr_steps_in, reader_at, ReadsSum, reads}
use Rattle.pssm_acts.proofs.ActRun.{Runs}
use Rattle.pssm_acts.proofs.Readers.{Leads, next, onward}
use Rattle.pssm_acts.proofs.Readers as runs

-- ---- one token in arguments

-- a token of an argument goes to the argument
pub argument_goes : (names : Names) (room : ℕ) (args : List Expr) (outer : List Level) (left : Left) (place : Place) (n : ExprReader) (kind : Kind) (at : ℕ) (word : List ℕ)
    → expr_step names room (reader_at outer left place) (record { at = at; kind = kind; word = word }) ≡ Ok n
    → arguments_step names room (Listed args (reader_at outer left place)) (record { at = at; kind = kind; word = word }) ≡ Ok (Goes (Listed args n))
unfolding expr_step at_atom atom_of after_atom closed arguments_step listed_step argument_closed argument_more
argument_goes names room args outer left (Wants factor) n kinds.Comma at word step = absurd cc
argument_goes names room args outer left (Has term) n kinds.Comma at word step = absurd cc
argument_goes names room args [] left (Wants factor) n kinds.Close at word step = absurd cc
argument_goes names room args [] left (Has term) n kinds.Close at word step = absurd cc
argument_goes names room args (level ∷ outer) left place n kinds.Close at word step = ap (λ x. and_then x (λ more. Ok (Goes (Listed args more)))) step
argument_goes names room args outer left place n kind at word step = ap (λ x. and_then x (λ more. Ok (Goes (Listed args more)))) step

-- so does the first one
pub argument_begins : (names : Names) (room : ℕ) (n : ExprReader) (kind : Kind) (at : ℕ) (word : List ℕ)
    → expr_step names room fresh_expr (record { at = at; kind = kind; word = word }) ≡ Ok n
    → arguments_step names room Opened (record { at = at; kind = kind; word = word }) ≡ Ok (Goes (Listed [] n))
unfolding expr_step at_atom atom_of arguments_step listed_step argument_more
argument_begins names room n kinds.Comma at word step = absurd cc
argument_begins names room n kinds.Close at word step = absurd cc
argument_begins names room n kind at word step = ap (λ x. and_then x (λ more. Ok (Goes (Listed [] more)))) step

module _ (names : Names) (room : ℕ) (t : Token) where
  pub behind_comma : (args : List Expr) (left : Left) (term : Expr) → t.kind ≡ kinds.Comma
      → arguments_step names room (Listed args (reader_at [] left (Has term))) t ≡ Ok (Goes (Listed (args ++ sum_of left term ∷ []) fresh_expr))
  unfolding arguments_step listed_step argument_ended expr_value
  behind_comma args left term is = simp is refl

  pub behind_last : (args : List Expr) (left : Left) (term : Expr) → t.kind ≡ kinds.Close
      → arguments_step names room (Listed args (reader_at [] left (Has term))) t ≡ Ok (Ends (args ++ sum_of left term ∷ []))
  unfolding arguments_step listed_step argument_closed argument_ended expr_value
  behind_last args left term is = simp is refl

  pub behind_none : t.kind ≡ kinds.Close → arguments_step names room Opened t ≡ Ok (Ends [])
  unfolding arguments_step
  behind_none is = simp is refl

-- ---- the same in the whole

-- so much of a statement has been read
abbrev pub within : Blocks → Phrase → ActsReader
within blocks phrase = at_turn blocks (Within phrase)

-- so many levels of parentheses may be open in arguments
abbrev pub room_in : Blocks → ℕ
room_in blocks = (16 - length blocks.outer) - 1

module _ (names : Names) (stepped : Bool) (marks : List (List ℕ)) (blocks : Blocks) (call : Call) where
  pub takes_goes : (args more : Arguments) (t : Token) → arguments_step names (room_in blocks) args t ≡ Ok (Goes more)
      → acts_step names stepped marks (within blocks (Called call args)) t ≡ Ok (within blocks (Called call more), marks)
  unfolding acts_step phrase_read phrase_step argument_read
  takes_goes args more t step = ap (λ x. and_then (beside marks (and_then x (λ a. argued call a t.at))) (λ next. Ok (phrased blocks next.0, next.1))) step

  pub takes_ends : (args : Arguments) (es : List Expr) (s : Stmt) (t : Token) → arguments_step names (room_in blocks) args t ≡ Ok (Ends es) → call_made call es t.at ≡ Ok s
      → acts_step names stepped marks (within blocks (Called call args)) t ≡ Ok (within blocks (Whole s), marks)
  unfolding acts_step phrase_read phrase_step argument_read
  takes_ends args es s t step made =
      ap (λ x. and_then (beside marks (and_then x (λ a. argued call a t.at))) (λ next. Ok (phrased blocks next.0, next.1))) step
      ∙ ap (λ x. and_then (beside marks (and_then x (λ s'. Ok (phrased_as.Goes (Whole s'))))) (λ next. Ok (phrased blocks next.0, next.1))) made

  pub takes_open : (t : Token) → t.kind ≡ kinds.Open → 0 < 16 - length blocks.outer
      → acts_step names stepped marks (within blocks (Named call)) t ≡ Ok (within blocks (Called call Opened), marks)
  unfolding acts_step phrase_read phrase_step named
  takes_open t is deep = simp (is, lt-ltb 0 (16 - length blocks.outer) deep) refl

  further_run : (args : List Expr) (n : ExprReader) (ts : List Token) → Leads (expr_steps_in names (room_in blocks)) fresh_expr ts n
      → Runs names stepped marks (within blocks (Called call (Listed args fresh_expr))) ts marks (within blocks (Called call (Listed args n)))
  further_run args n ts run =
      runs.within (λ m. (within blocks (Called call (Listed args m)), marks))
      (λ r n t step. takes_goes (Listed args r) (Listed args n) t (argument_goes names (room_in blocks) args r.outer r.left r.place n t.kind t.at t.word step)) run

  first_run : (left : Left) (term : Expr) (ts : List Token) → Leads (expr_steps_in names (room_in blocks)) fresh_expr ts (reader_at [] left (Has term))
      → Runs names stepped marks (within blocks (Called call Opened)) ts marks (within blocks (Called call (Listed [] (reader_at [] left (Has term)))))
  first_run left term ts run =
      runs.begun (λ m. (within blocks (Called call (Listed [] m)), marks)) (within blocks (Called call Opened), marks)
      (λ n t step. takes_goes Opened (Listed [] n) t (argument_begins names (room_in blocks) n t.kind t.at t.word step))
      (λ r n t step. takes_goes (Listed [] r) (Listed [] n) t (argument_goes names (room_in blocks) [] r.outer r.left r.place n t.kind t.at t.word step))
      (λ same. let places : Wants None ≡ Has term = ap (λ r. r.place) same in cc) run

-- what the tokens of expressions that are separated by commas do to a reader behind an opening parenthesis
record ReadsList (names : Names) (stepped : Bool) (marks : List (List ℕ)) (blocks : Blocks) (call : Call) (ts : List Token) (es : List Expr) : Type 0 where
  args : List Expr
  left : Left
  term : Expr
  run : Runs names stepped marks (within blocks (Called call Opened)) ts marks (within blocks (Called call (Listed args (reader_at [] left (Has term)))))
  worth : args ++ sum_of left term ∷ [] ≡ es

list_one : {names : Names} {stepped : Bool} {marks : List (List ℕ)} {blocks : Blocks} {call : Call} {ts : List Token} {e : Expr} → ReadsSum names (room_in blocks) [] ts e
    → ReadsList names stepped marks blocks call ts (e ∷ [])
list_one {names} {stepped} {marks} {blocks} {call} {ts} r =
    record { args = []; left = r.left; term = r.term; run = first_run names stepped marks blocks call r.left r.term ts r.run; worth = ap (λ x. x ∷ []) r.worth }

list_further : {names : Names} {stepped : Bool} {marks : List (List ℕ)} {blocks : Blocks} {call : Call} {ts us : List Token} {es : List Expr} {e : Expr} (comma : Token)
    → ReadsList names stepped marks blocks call ts es → comma.kind ≡ kinds.Comma → ReadsSum names (room_in blocks) [] us e → ReadsList names stepped marks blocks call (ts ++ comma ∷ us) (es ++ e ∷ [])
list_further {names} {stepped} {marks} {blocks} {call} {ts} {us} {es} comma before is r =
    let so_far : Arguments = Listed before.args (reader_at [] before.left (Has before.term)) in
    let behind : arguments_step names (room_in blocks) so_far comma ≡ Ok (Goes (Listed es fresh_expr)) =
    behind_comma names (room_in blocks) comma before.args before.left before.term is ∙ ap (λ x. Ok (Goes (Listed x fresh_expr))) before.worth in
    record {
      args = es;
      left = r.left;
      term = r.term;
      run = onward before.run (next (takes_goes names stepped marks blocks call so_far (Listed es fresh_expr) comma behind) (further_run names stepped marks blocks call es (reader_at [] r.left (Has r.term)) us r.run));
      worth = ap (λ x. es ++ x ∷ []) r.worth;
    }

reads_list : {names : Names} {l : ℕ} {ts : List Token} {es : List Expr} (stepped : Bool) (marks : List (List ℕ)) (blocks : Blocks) (call : Call) → length blocks.outer + suc l ≡ 16 → SpellsList names l ts es
    → ReadsList names stepped marks blocks call ts es
reads_list stepped marks blocks call deep (one spelled) = list_one (reads (room_in blocks) [] (omega arith) spelled)
reads_list stepped marks blocks call deep (further comma front is back) = list_further comma (reads_list stepped marks blocks call deep front) is (reads (room_in blocks) [] (omega arith) back)

list_closed : {names : Names} {stepped : Bool} {marks : List (List ℕ)} {blocks : Blocks} {call : Call} {ts : List Token} {es : List Expr} (s : Stmt) (closing : Token) → ReadsList names stepped marks blocks call ts es
    → closing.kind ≡ kinds.Close → call_made call es closing.at ≡ Ok s → Runs names stepped marks (within blocks (Called call Opened)) (ts ++ closing ∷ []) marks (within blocks (Whole s))
list_closed {names} {stepped} {marks} {blocks} {call} {ts} {es} s closing list closes made =
    let so_far : Arguments = Listed list.args (reader_at [] list.left (Has list.term)) in
    let behind : arguments_step names (room_in blocks) so_far closing ≡ Ok (Ends es) = behind_last names (room_in blocks) closing list.args list.left list.term closes ∙ ap (λ x. Ok (Ends x)) list.worth in
    onward list.run (runs.one (takes_ends names stepped marks blocks call so_far es s closing behind made))

-- The tokens of arguments make a whole of what is named, where it may have these arguments.
pub reads_arguments : {names : Names} {l : ℕ} {ts : List Token} {es : List Expr} (stepped : Bool) (marks : List (List ℕ)) (blocks : Blocks) (call : Call) (s : Stmt) → length blocks.outer + l ≡ 16
    → ((at : ℕ) → call_made call es at ≡ Ok s) → SpellsArguments names l ts es → Runs names stepped marks (within blocks (Named call)) ts marks (within blocks (Whole s))
reads_arguments {names} stepped marks blocks call s deep makes (none {l} {opening} {closing} opens closes) =
    next (takes_open names stepped marks blocks call opening opens (omega arith))
    (runs.one (takes_ends names stepped marks blocks call Opened [] s closing (behind_none names (room_in blocks) closing closes) (makes closing.at)))
reads_arguments {names} stepped marks blocks call s deep makes (some {l} {opening} closing {ts} {es} opens inner closes) =
    next (takes_open names stepped marks blocks call opening opens (omega arith))
    (list_closed s closing (reads_list stepped marks blocks call deep inner) closes (makes closing.at))
