-- What is written of an assignment, a send or a mark spells it.
use Rattle.std.proofs.Common.{◌≡◌, ◌≤◌, ◌<◌, ◌+◌, ℕ, suc, zero, Bool, true, false, List, [], ◌∷◌, ◌++◌, length, map, All, refl, sym, ap, ◌∙◌, subst, arith, append_assoc, append-nil, codes, position, bytes_eq, slice_index_or, Option, Some, None}
use Rattle.std.specs.Option.{option_map_or}
use Rattle.std.proofs.Math.Nat.{le-max_left, le-max_right}
use Rattle.pssm_model.specs.declared.ids.MarkId.{MarkId}
use Rattle.pssm_model.specs.declared.ids.SignalId.{SignalId}
use Rattle.pssm_semantics.specs.declared.entry.ObjectId.{ObjectId}
use Rattle.pssm_semantics.specs.declared.setting.Names.{Names}
use Rattle.pssm_semantics.specs.declared.setting.SignalDecl.{SignalDecl}
use Rattle.pssm_acts.specs.declared.token.Kind.TheVariants as kinds
use Rattle.pssm_semantics.specs.declared.tree.Expr.{Expr}
use Rattle.pssm_semantics.specs.declared.tree.Stmt.{Stmt, Assign, Send, Mark}
use Rattle.pssm_acts.specs.ActGrammar.{SpellsList, one, further, SpellsArguments, none, some, NamesReceiver, object, running, SpellsPhrase, assignment, sending, marking}
use Rattle.pssm_acts.specs.ActText.{name_at, signal_name, receiver_name, expr_text, further_text, args_text, assignment_text, send_text, mark_text}
use Rattle.pssm_semantics.specs.Fits.{ExprFits}
use Rattle.pssm_acts.specs.Marks.{number_or, mark_of, grown, with_mark}
use Rattle.pssm_acts.specs.ReadBack.{AreNames, IsFree, ReceiverIsFree, expr_levels, args_levels, IsPlain}
use Rattle.pssm_spelling.specs.Spelling.{continues_name}
use Rattle.pssm_spelling.specs.SpellingReading.{EndsRun}
use Rattle.pssm_acts.specs.Tokens.{Token, cut}
use Rattle.pssm_acts.specs.Vocabularies.{IsReceiver, CanSend}
use Rattle.pssm_acts.proofs.ExprBack.{whole_begins}
use Rattle.pssm_acts.proofs.FrontLaws.{name_begins, word_begins}
use Rattle.pssm_acts.proofs.NameLaws.{name_found, owner_found, owner_named, named_at}
use Rattle.pssm_acts.proofs.SignLaws.{open_begins, close_begins, comma_begins, semicolon_begins, becomes_begins, dot_begins, send_begins, mark_begins}

-- The bytes, behind an expression, go on with further ones.
record BeginsFurther (names : Names) (l : ℕ) (es : List Expr) (end : ℕ) (bytes rest : List ℕ) : Type 0 where
  pub us : List Token
  pub spelled : (ts : List Token) (done : List Expr) → SpellsList names l ts done → SpellsList names l (ts ++ us) (done ++ es)
  pub same : cut end true 0 bytes ≡ us ++ cut end true 0 rest

-- The bytes, behind a name, go on with arguments.
record BeginsArguments (names : Names) (l : ℕ) (es : List Expr) (end : ℕ) (bytes rest : List ℕ) : Type 0 where
  pub ts : List Token
  pub spelled : SpellsArguments names l ts es
  pub same : cut end true 0 bytes ≡ ts ++ cut end true 0 rest

-- The bytes begin with what spells a statement, and note no mark.
pub record BeginsPhrase (names : Names) (marks : List (List ℕ)) (l : ℕ) (s : Stmt) (end : ℕ) (bytes rest : List ℕ) : Type 0 where
  pub ts : List Token
  pub spelled : SpellsPhrase names marks l ts s marks
  pub same : cut end false 0 bytes ≡ ts ++ cut end false 0 rest

further_ends : (names : Names) (es : List Expr) (rest : List ℕ) → EndsRun continues_name (further_text names es ++ (codes ")" ++ rest))
further_ends names [] rest = refl
further_ends names (e ∷ es) rest = refl

all_tail : (P : Expr → Type 0) (e : Expr) (es : List Expr) → All P (e ∷ es) → All P es
all_tail P e es all = λ k d within. all (suc k) d (omega arith)

module _ (names : Names) (vars : AreNames names.vars) (end : ℕ) where
  further_begins : (es : List Expr) (l : ℕ) (rest : List ℕ) → All (ExprFits (length names.vars)) es → All (IsPlain names) es → args_levels es ≤ l
      → BeginsFurther names l es end (further_text names es ++ (codes ")" ++ rest)) (codes ")" ++ rest)
  further_begins [] l rest fits plain deep = record {
    us = [];
    spelled = λ ts done before. subst (λ x. SpellsList names l (ts ++ []) x) (sym (append-nil done)) (subst (λ x. SpellsList names l x done) (sym (append-nil ts)) before);
    same = refl;
  }
  further_begins (e ∷ es) l rest fits plain deep =
      let later : List ℕ = further_text names es ++ (codes ")" ++ rest) in
      let comma = comma_begins end (expr_text names e ++ later) in
      let part = whole_begins names vars end e l later (fits 0 e (omega arith)) (plain 0 e (omega arith)) (omega (arith, le-max_left (expr_levels e) (args_levels es))) (further_ends names es rest) in
      let next = further_begins es l rest (all_tail (ExprFits (length names.vars)) e es fits) (all_tail (IsPlain names) e es plain) (omega (arith, le-max_right (expr_levels e) (args_levels es))) in
      record {
        us = comma.token ∷ (part.ts ++ next.us);
        spelled = λ ts done before.
            subst (λ x. SpellsList names l x (done ++ e ∷ es)) (append_assoc ts (comma.token ∷ part.ts) next.us)
            (subst (λ x. SpellsList names l ((ts ++ comma.token ∷ part.ts) ++ next.us) x) (append_assoc done (e ∷ []) es)
            (next.spelled (ts ++ comma.token ∷ part.ts) (done ++ e ∷ []) (further comma.token before comma.is part.spelled)));
        same = ap (λ t. cut end true 0 (codes ", " ++ t)) (append_assoc (expr_text names e) (further_text names es) (codes ")" ++ rest)) ∙ comma.same
            ∙ ap (λ x. comma.token ∷ x) (part.same ∙ ap (λ x. part.ts ++ x) next.same ∙ sym (append_assoc part.ts next.us (cut end true 0 (codes ")" ++ rest))));
      }

  -- Arguments stand in parentheses, of which there may be one level more.
  arguments_begin : (es : List Expr) (l : ℕ) (rest : List ℕ) → All (ExprFits (length names.vars)) es → All (IsPlain names) es → args_levels es + 1 ≤ l
      → BeginsArguments names l es end (codes "(" ++ (args_text names es ++ (codes ")" ++ rest))) rest
  arguments_begin es zero rest fits plain deep = absurd (omega arith)
  arguments_begin [] (suc l) rest fits plain deep =
      let opening = open_begins end (codes ")" ++ rest) true in
      let closing = close_begins end rest false in
      record { ts = opening.token ∷ closing.token ∷ []; spelled = none opening.is closing.is; same = opening.same ∙ ap (λ x. opening.token ∷ x) closing.same }
  arguments_begin (e ∷ es) (suc l) rest fits plain deep =
      let later : List ℕ = further_text names es ++ (codes ")" ++ rest) in
      let opening = open_begins end (expr_text names e ++ later) true in
      let part = whole_begins names vars end e l later (fits 0 e (omega arith)) (plain 0 e (omega arith)) (omega (arith, le-max_left (expr_levels e) (args_levels es))) (further_ends names es rest) in
      let next = further_begins es l rest (all_tail (ExprFits (length names.vars)) e es fits) (all_tail (IsPlain names) e es plain) (omega (arith, le-max_right (expr_levels e) (args_levels es))) in
      let closing = close_begins end rest true in
      let all : List Token = part.ts ++ next.us in
      record {
        ts = opening.token ∷ (all ++ closing.token ∷ []);
        spelled = some closing.token opening.is (next.spelled part.ts (e ∷ []) (one part.spelled)) closing.is;
        same = ap (λ t. cut end true 0 (codes "(" ++ t)) (append_assoc (expr_text names e) (further_text names es) (codes ")" ++ rest)) ∙ opening.same
            ∙ ap (λ x. opening.token ∷ x) (part.same ∙ ap (λ x. part.ts ++ x) (next.same ∙ ap (λ x. next.us ++ x) closing.same)
            ∙ sym (append_assoc part.ts next.us (closing.token ∷ cut end true 0 rest)) ∙ sym (append_assoc all (closing.token ∷ []) (cut end true 0 rest)));
      }

module _ (names : Names) (vars : AreNames names.vars) (marks : List (List ℕ)) (end : ℕ) where
  -- `x := 1;`
  pub assignment_begins : (x : ℕ) (e : Expr) (l : ℕ) (rest : List ℕ) → x < length names.vars → IsFree (name_at names.vars x) → ExprFits (length names.vars) e → IsPlain names e → expr_levels e ≤ l
      → BeginsPhrase names marks l (Assign x e) end (assignment_text names x e ++ rest) rest
  assignment_begins x e l rest within free fits plain deep =
      let name : List ℕ = slice_index_or names.vars x [] in
      let value : List ℕ = expr_text names e in
      let variable = name_begins end false name (codes " := " ++ (value ++ (codes ";" ++ rest))) (vars.each x [] within) free refl in
      let becomes = becomes_begins end (value ++ (codes ";" ++ rest)) in
      let part = whole_begins names vars end e l (codes ";" ++ rest) fits plain deep refl in
      let semicolon = semicolon_begins end rest true in
      let bytes : assignment_text names x e ++ rest ≡ name ++ (codes " := " ++ (value ++ (codes ";" ++ rest))) =
      append_assoc (name ++ codes " := " ++ value) (codes ";") rest ∙ append_assoc (name ++ codes " := ") value (codes ";" ++ rest) ∙ append_assoc name (codes " := ") (value ++ (codes ";" ++ rest)) in
      record {
        ts = variable.token ∷ becomes.token ∷ (part.ts ++ semicolon.token ∷ []);
        spelled = assignment semicolon.token variable.is (subst (λ w. position (λ n. bytes_eq n w) names.vars ≡ Some x) (sym variable.worded) (name_found names.vars x within vars.differ)) becomes.is part.spelled semicolon.is;
        same = ap (λ b. cut end false 0 b) bytes ∙ variable.same ∙ ap (λ ts. variable.token ∷ ts) (becomes.same ∙ ap (λ ts. becomes.token ∷ ts)
            (part.same ∙ ap (λ ts. part.ts ++ ts) semicolon.same ∙ sym (append_assoc part.ts (semicolon.token ∷ []) (cut end false 0 rest))));
      }

-- The bytes begin with what names the receiver of a signal.
record BeginsReceiver (names : Names) (to : Option ObjectId) (end : ℕ) (bytes rest : List ℕ) : Type 0 where
  pub token : Token
  pub after : Bool
  pub receives : NamesReceiver names token to
  pub same : cut end false 0 bytes ≡ token ∷ cut end after 0 rest

-- The bytes begin with the name of a signal.
record BeginsSignal (names : Names) (signal : SignalId) (end : ℕ) (bytes rest : List ℕ) : Type 0 where
  pub token : Token
  pub is : token.kind ≡ kinds.Name
  pub found : position (λ d. bytes_eq d.name token.word) names.signals ≡ Some signal.0
  pub same : cut end false 0 bytes ≡ token ∷ cut end true 0 rest

receiver_begins : (names : Names) → AreNames names.objects → (end : ℕ) (to : Option ObjectId) (rest : List ℕ) → IsReceiver names to → ReceiverIsFree names to → BeginsReceiver names to end (receiver_name names to ++ (codes "." ++ rest)) (codes "." ++ rest)
receiver_begins names objects end (Some o) rest within free =
    let name : List ℕ = slice_index_or names.objects o.0 [] in
    let t = name_begins end false name (codes "." ++ rest) (objects.each o.0 [] within) free refl in
    record {
      token = t.token;
      after = true;
      receives = object t.is (subst (λ w. position (λ n. bytes_eq n w) names.objects ≡ Some o.0) (sym t.worded) (name_found names.objects o.0 within objects.differ));
      same = t.same;
    }
receiver_begins names objects end None rest within free =
    let t = word_begins end false (codes "self") (codes "." ++ rest) (record { spelled = refl; short = omega arith }) refl in
    record { token = t.token; after = false; receives = running t.is; same = t.same }

signal_begins : (names : Names) → AreNames (map (λ d. d.name) names.signals) → (end : ℕ) (signal : SignalId) (rest : List ℕ) → signal.0 < length names.signals → IsFree (signal_name names signal) → EndsRun continues_name rest
    → BeginsSignal names signal end (signal_name names signal ++ rest) rest
signal_begins names signals end signal rest within free ends =
    let nameless : SignalDecl = record { name = []; count = 0 } in
    let name_of : SignalDecl → List ℕ = λ d. d.name in
    let name : List ℕ = name_of (slice_index_or names.signals signal.0 nameless) in
    let is : signal_name names signal ≡ name = ap (λ o. option_map_or name_of o []) (named_at names.signals signal.0 nameless within) in
    let t = name_begins end false name rest (owner_named name_of names.signals signal.0 nameless within signals) (subst IsFree is free) ends in
    record {
      token = t.token;
      is = t.is;
      found = subst (λ w. position (λ d. bytes_eq d.name w) names.signals ≡ Some signal.0) (sym t.worded) (owner_found name_of names.signals signal.0 nameless within signals.differ);
      same = ap (λ n. cut end false 0 (n ++ rest)) is ∙ t.same;
    }

five_parts : (a b c d e rest : List ℕ) → (a ++ b ++ c ++ d ++ e) ++ rest ≡ a ++ (b ++ (c ++ (d ++ (e ++ rest))))
five_parts a b c d e rest = append_assoc (a ++ b ++ c ++ d) e rest ∙ append_assoc (a ++ b ++ c) d (e ++ rest) ∙ append_assoc (a ++ b) c (d ++ (e ++ rest)) ∙ append_assoc a b (c ++ (d ++ (e ++ rest)))

seven_parts : (a b c d e f g rest : List ℕ) → (a ++ b ++ c ++ d ++ e ++ f ++ g) ++ rest ≡ a ++ (b ++ (c ++ (d ++ (e ++ (f ++ (g ++ rest))))))
seven_parts a b c d e f g rest = append_assoc (a ++ b ++ c ++ d ++ e ++ f) g rest ∙ append_assoc (a ++ b ++ c ++ d ++ e) f (g ++ rest) ∙ five_parts a b c d e (f ++ (g ++ rest))

-- `send b.Go(1, x);`
pub send_back : (names : Names) (marks : List (List ℕ)) → AreNames names.vars → AreNames names.objects → AreNames (map (λ d. d.name) names.signals) → (end : ℕ) (to : Option ObjectId) (signal : SignalId) (args : List Expr)
    (l : ℕ) (rest : List ℕ) → CanSend names to signal (length args) → ReceiverIsFree names to → IsFree (signal_name names signal) → All (ExprFits (length names.vars)) args → All (IsPlain names) args → args_levels args + 1 ≤ l
    → BeginsPhrase names marks l (Send to signal args) end (send_text names to signal args ++ rest) rest
send_back names marks vars objects signals end to signal args l rest can free named fits plain deep =
    let receiver_bytes : List ℕ = receiver_name names to in
    let signal_bytes : List ℕ = signal_name names signal in
    let later : List ℕ = codes "(" ++ (args_text names args ++ (codes ")" ++ (codes ";" ++ rest))) in
    let send = send_begins end (receiver_bytes ++ (codes "." ++ (signal_bytes ++ later))) in
    let receiver = receiver_begins names objects end to (signal_bytes ++ later) can.0 free in
    let dot = dot_begins end (signal_bytes ++ later) receiver.after in
    let name = signal_begins names signals end signal later can.1 named refl in
    let part = arguments_begin names vars end args l (codes ";" ++ rest) fits plain deep in
    let semicolon = semicolon_begins end rest true in
    record {
      ts = send.token ∷ receiver.token ∷ dot.token ∷ name.token ∷ (part.ts ++ semicolon.token ∷ []);
      spelled = sending semicolon.token send.is receiver.receives dot.is name.is name.found part.spelled can.2 semicolon.is;
      same = ap (λ b. cut end false 0 b) (seven_parts (codes "send ") receiver_bytes (codes ".") signal_bytes (codes "(") (args_text names args) (codes ");") rest)
          ∙ send.same ∙ ap (λ ts. send.token ∷ ts) (receiver.same ∙ ap (λ ts. receiver.token ∷ ts) (dot.same ∙ ap (λ ts. dot.token ∷ ts) (name.same ∙ ap (λ ts. name.token ∷ ts)
          (part.same ∙ ap (λ ts. part.ts ++ ts) semicolon.same ∙ sym (append_assoc part.ts (semicolon.token ∷ []) (cut end false 0 rest))))));
    }

-- A mark that is there has the number of its place, and no further one is noted.
known_mark : (names : Names) (marks : List (List ℕ)) (l : ℕ) (ts : List Token) (mark : MarkId) (args : List Expr) (word : List ℕ) → position (λ m. bytes_eq m word) marks ≡ Some mark.0
    → SpellsPhrase names marks l ts (Mark (mark_of marks word) args) (with_mark marks word) → SpellsPhrase names marks l ts (Mark mark args) marks
known_mark names marks l ts mark args word found spelled =
    let numbered : Option ℕ → MarkId = λ place. record { 0 = number_or place (length marks) } in
    subst (λ m. SpellsPhrase names marks l ts (Mark m args) marks) (ap numbered found)
    (subst (λ more. SpellsPhrase names marks l ts (Mark (mark_of marks word) args) more) (ap (λ place. grown place marks word) found) spelled)

-- `mark m(1, x);`
pub mark_back : (names : Names) (marks : List (List ℕ)) → AreNames names.vars → AreNames marks → (end : ℕ) (mark : MarkId) (args : List Expr) (l : ℕ) (rest : List ℕ)
    → mark.0 < length marks → IsFree (name_at marks mark.0) → length args ≤ 8 → All (ExprFits (length names.vars)) args → All (IsPlain names) args → args_levels args + 1 ≤ l
    → BeginsPhrase names marks l (Mark mark args) end (mark_text names marks mark args ++ rest) rest
mark_back names marks vars are end mark args l rest within free few fits plain deep =
    let bytes : List ℕ = slice_index_or marks mark.0 [] in
    let later : List ℕ = codes "(" ++ (args_text names args ++ (codes ")" ++ (codes ";" ++ rest))) in
    let word = mark_begins end (bytes ++ later) in
    let name = name_begins end false bytes later (are.each mark.0 [] within) free refl in
    let part = arguments_begin names vars end args l (codes ";" ++ rest) fits plain deep in
    let semicolon = semicolon_begins end rest true in
    let ts : List Token = word.token ∷ name.token ∷ (part.ts ++ semicolon.token ∷ []) in
    let found = subst (λ w. position (λ m. bytes_eq m w) marks ≡ Some mark.0) (sym name.worded) (name_found marks mark.0 within are.differ) in
    record {
      ts = ts;
      spelled = known_mark names marks l ts mark args name.token.word found (marking semicolon.token word.is name.is part.spelled few semicolon.is);
      same = ap (λ b. cut end false 0 b) (five_parts (codes "mark ") bytes (codes "(") (args_text names args) (codes ");") rest)
          ∙ word.same ∙ ap (λ ts. word.token ∷ ts) (name.same ∙ ap (λ ts. name.token ∷ ts)
          (part.same ∙ ap (λ ts. part.ts ++ ts) semicolon.same ∙ sym (append_assoc part.ts (semicolon.token ∷ []) (cut end false 0 rest))));
    }
