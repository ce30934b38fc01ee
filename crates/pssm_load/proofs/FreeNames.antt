-- The names in what a text spells are no words of the language, its numbers have 64 bits, and behaviours keep the numbers of their marks.
use Rattle.std.proofs.Common.{◌≡◌, ◌≢◌, ◌<◌, ◌-◌, ℕ, suc, zero, ℤ, Bool, true, false, eqb, ◌&&◌, List, [], ◌∷◌, ◌++◌, length, take, All, Option, Some, None, refl, sym, ap, subst, ◌∙◌, arith, position, bytes_eq, length-append, if◌then◌else◌}
use Rattle.std.specs.Option.{option_map_or}
use Rattle.std.specs.Prelude.{slice_index_or}
use Rattle.std.proofs.Math.Seq.{get_or-append_seam}
use Rattle.std.proofs.lemmas.List.{get_or-take}
use Rattle.std.proofs.lemmas.List.Elements.{All-nil, All-head, All-tail, All-push}
use Rattle.std.proofs.lemmas.List.Quantifiers.{position-Some}
use Rattle.std.proofs.lemmas.Slice.Eq.{bytes_eq-Decides}
use denote.Hole.Carrier.{hidden}
use Rattle.pssm_spelling.specs.Numbers.{SpellsNumber, natural, negative}
use Rattle.pssm_model.specs.declared.ids.SignalId.{SignalId}
use Rattle.pssm_semantics.specs.declared.entry.ObjectId.{ObjectId}
use Rattle.pssm_semantics.specs.declared.setting.Names.{Names}
use Rattle.pssm_semantics.specs.declared.setting.SignalDecl.{SignalDecl}
use Rattle.pssm_semantics.specs.declared.tree.Cond.{Cond}
use Rattle.pssm_semantics.specs.declared.tree.Expr.{Expr}
use Rattle.pssm_semantics.specs.declared.tree.Rel.TheVariants.{Eq, Ne, Le, Ge}
use Rattle.pssm_semantics.specs.declared.tree.Stmt.{Stmt, Mark}
use Rattle.pssm_semantics.specs.declared.tree.Stmt.TheViews as stmts
use Rattle.pssm_semantics.specs.declared.tree.Stmt.TheBlock.{shape-the_row-Stmt-0, hidden-the_row-Stmt-0}
use Rattle.pssm_semantics.proofs.Views.{Sum-is, Diff-is, Prod-is, Not-is, And-is, Or-is}
use Rattle.pssm_acts.specs.declared.token.Kind.{Kind}
use Rattle.pssm_acts.specs.declared.token.Kind.TheVariants as kinds
use Rattle.pssm_acts.specs.Tokens.{Token, tokens_of, cut, front, is_blank, ends_operand, double_sign, single_sign}
use Rattle.pssm_acts.specs.Longest.{IsToken, word_token, natural_token, negative_token, parameter_token, double_token, single_token, IsTaken, token, no_token}
use Rattle.pssm_acts.specs.Marks.{number_or, mark_number, mark_of, grown, with_mark, KeepsMarks}
use Rattle.pssm_acts.specs.Grammar.{Part, SpellsExpr, number, variable, parameter, parentheses, atom, times, product, plus, minus, GuardPart, SpellsGuard, truth, falsity, negation, brackets, relation, lone_unit, conjoined, lone_conjunction, disjoined}
use Rattle.pssm_acts.specs.ActGrammar.{SpellsList, one, further, SpellsArguments, none, some, NamesReceiver, object, running, SpellsPhrase, assignment, sending, bare_mark, marking, SpellsStmts, nothing, phrase, choice, alternative}
use Rattle.pssm_acts.specs.ActText.{name_at, signal_name}
use Rattle.pssm_acts.specs.ReadBack.{IsFree, IsShortNumber, IsPlain, GuardIsPlain, ReceiverIsFree, StmtIsPlain, BlockIsPlain}
use Rattle.pssm_acts.proofs.LongestLaws.{longest_taken}
use Rattle.pssm_acts.proofs.NameLaws.{named_at}
use Rattle.pssm_acts.proofs.ActTextLaws.{kept_on}
use Rattle.pssm_acts.proofs.AnswerLaws.{same_kept, mark_kept}
use Rattle.pssm_acts.proofs.OtherMarks.{stmts_keep}
use Rattle.pssm_acts.proofs.Renumbered.{stmt_renumbered, stmts_renumbered, one_more_renumbered, one_block_renumbered, two_blocks_renumbered}

-- ---- names among tokens

-- what a token of a name holds is no word of the language
abbrev pub FreeWords : List Token → Type 0
FreeWords [] = Unit {0}
FreeWords (t ∷ ts) = (t.kind ≡ kinds.Name → IsFree t.word) × FreeWords ts

pub free_parts : (ts us : List Token) → FreeWords (ts ++ us) → FreeWords ts × FreeWords us
free_parts [] us h = (tt, h)
free_parts (t ∷ ts) us h = let rest = free_parts ts us h.1 in ((h.0, rest.0), rest.1)

-- No sign is a name.
no_double : (c d : ℕ) → double_sign c d ≢ Some kinds.Name
no_double c d =
    by_tests (eqb c 38 && eqb d 38) (eqb c 124 && eqb d 124) (eqb c 61 && eqb d 61) (eqb c 33 && eqb d 61) (eqb c 60 && eqb d 61) (eqb c 62 && eqb d 61)
    (eqb c 58 && eqb d 61) where
      by_tests : (b0 b1 b2 b3 b4 b5 b6 : Bool)
          → (if b0 then Some kinds.And else if b1 then Some kinds.Or else if b2 then Some (kinds.Relation Eq)
          else if b3 then Some (kinds.Relation Ne) else if b4 then Some (kinds.Relation Le)
          else if b5 then Some (kinds.Relation Ge) else if b6 then Some kinds.Becomes else None) ≢ Some kinds.Name
      by_tests true b1 b2 b3 b4 b5 b6 e = absurd cc
      by_tests false true b2 b3 b4 b5 b6 e = absurd cc
      by_tests false false true b3 b4 b5 b6 e = absurd cc
      by_tests false false false true b4 b5 b6 e = absurd cc
      by_tests false false false false true b5 b6 e = absurd cc
      by_tests false false false false false true b6 e = absurd cc
      by_tests false false false false false false true e = absurd cc
      by_tests false false false false false false false e = absurd cc

-- whether a sign is that of a name
abbrev is_name_sign : Kind → Bool
is_name_sign kinds.Name = true
is_name_sign kind = false

choice_of : (b : Bool) (x y : Kind) → is_name_sign x ≡ false → is_name_sign y ≡ false → is_name_sign (if b then x else y) ≡ false
choice_of true x y first second = first
choice_of false x y first second = second

no_single : (c : ℕ) → single_sign c ≢ kinds.Name
no_single c e = absurd (let no_name : is_name_sign (single_sign c) ≡ false = (
    choice_of (eqb c 43) _ _ refl (choice_of (eqb c 45) _ _ refl (choice_of (eqb c 42) _ _ refl (choice_of (eqb c 40) _ _ refl (choice_of (eqb c 41) _ _ refl
    (choice_of (eqb c 91) _ _ refl (choice_of (eqb c 93) _ _ refl (choice_of (eqb c 123) _ _ refl (choice_of (eqb c 125) _ _ refl (choice_of (eqb c 33) _ _ refl
    (choice_of (eqb c 60) _ _ refl (choice_of (eqb c 62) _ _ refl (choice_of (eqb c 59) _ _ refl
    (choice_of (eqb c 44) _ _ refl (choice_of (eqb c 46) _ _ refl refl))))))))))))))) in
    let both : false ≡ true = sym no_name ∙ ap is_name_sign e in cc)

token_free : {a : Bool} {kind : Kind} {word : List ℕ} → IsToken a kind word → kind ≡ kinds.Name → IsFree word
token_free (word_token name) e = e
token_free (natural_token given all) e = absurd cc
token_free (negative_token before given all) e = absurd cc
token_free (parameter_token low high) e = absurd cc
token_free (double_token {c} {d} is) e = absurd (no_double c d (is ∙ ap Some e))
token_free (single_token {c} known) e = absurd (no_single c e)

taken_free : {a : Bool} {bytes : List ℕ} {kind : Kind} {n : ℕ} → IsTaken a bytes kind n → kind ≡ kinds.Name → IsFree (take n bytes)
taken_free (token is whole longest) e = token_free is e
taken_free (no_token unknown size longest) e = absurd cc

cut_free : (end : ℕ) (a : Bool) (used : ℕ) (bytes : List ℕ) → FreeWords (cut end a used bytes)
unfolding cut
cut_free end a used [] = tt
cut_free end a (suc used) (c ∷ cs) = cut_free end a used cs
cut_free end a zero (c ∷ cs) = go (is_blank c) (cut_free end a zero cs) (cut_free end (ends_operand kind) (size - 1) cs) where
  kind : Kind
  kind = (front a (c ∷ cs)).0

  size : ℕ
  size = (front a (c ∷ cs)).1

  go : (b : Bool) → FreeWords (cut end a zero cs) → FreeWords (cut end (ends_operand kind) (size - 1) cs)
      → FreeWords (if b then cut end a zero cs else record { at = end - length (c ∷ cs); kind = kind; word = take size (c ∷ cs) } ∷ cut end (ends_operand kind) (size - 1) cs)
  go true p q = p
  go false p q = (taken_free (longest_taken a c cs), q)

pub tokens_free : (text : List ℕ) → FreeWords (tokens_of text)
tokens_free text = cut_free (length text) false 0 text

-- ---- expressions and guards

short_number : {word : List ℕ} {n : ℤ} → SpellsNumber word n → IsShortNumber n
short_number (natural plain small) = small
short_number (negative plain value small) = omega (arith, value, small)

named_free : (names : List (List ℕ)) (word : List ℕ) (k : ℕ) → position (λ name. bytes_eq name word) names ≡ Some k → IsFree word → IsFree (name_at names k)
named_free names word k found free =
    let at = position-Some (λ name. bytes_eq name word) names k [] found in subst IsFree (sym ((bytes_eq-Decides (name_at names k) word).0 at.1)) free

signal_free : (names : Names) (word : List ℕ) (g : SignalId) → position (λ d. bytes_eq d.name word) names.signals ≡ Some g.0 → IsFree word
    → IsFree (signal_name names g)
signal_free names word g found free =
    let nobody : SignalDecl = record { name = []; count = 0 } in
    let at = position-Some (λ d. bytes_eq d.name word) names.signals g.0 nobody found in
    let same : signal_name names g ≡ (slice_index_or names.signals g.0 nobody).name = ap (λ o. option_map_or (λ (d : SignalDecl). d.name) o []) (named_at names.signals g.0 nobody at.0) in
    subst IsFree (sym (same ∙ (bytes_eq-Decides (slice_index_or names.signals g.0 nobody).name word).0 at.1)) free

expr_plain : {names : Names} {part : Part} {l : ℕ} {ts : List Token} {e : Expr} → SpellsExpr names part l ts e → FreeWords ts → IsPlain names e
expr_plain (number is spelled) h = short_number spelled
expr_plain {names} (variable {l} {t} {x} is found) h = named_free names.vars t.word x found (h.0 is)
expr_plain (parameter {l} {t} {k} is) h = tt
expr_plain (parentheses {l} {opening} closing {ts} opens inner closes) h = expr_plain inner (free_parts ts (closing ∷ []) h.1).0
expr_plain (atom a) h = expr_plain a h
expr_plain {names} (times {l} t {ts} {us} {a} {b} front' is back) h =
    let parts = free_parts ts (t ∷ us) h in subst (IsPlain names) (sym (Prod-is a b)) (expr_plain front' parts.0, expr_plain back parts.1.1)
expr_plain (product p) h = expr_plain p h
expr_plain {names} (plus {l} t {ts} {us} {a} {b} front' is back) h =
    let parts = free_parts ts (t ∷ us) h in subst (IsPlain names) (sym (Sum-is a b)) (expr_plain front' parts.0, expr_plain back parts.1.1)
expr_plain {names} (minus {l} t {ts} {us} {a} {b} front' is back) h =
    let parts = free_parts ts (t ∷ us) h in subst (IsPlain names) (sym (Diff-is a b)) (expr_plain front' parts.0, expr_plain back parts.1.1)

pub guard_plain : {names : Names} {part : GuardPart} {l : ℕ} {ts : List Token} {c : Cond} → SpellsGuard names part l ts c → FreeWords ts → GuardIsPlain names c
guard_plain (truth is) h = tt
guard_plain (falsity is) h = tt
guard_plain {names} (negation {l} {t} {ts} {c} is inner) h = subst (GuardIsPlain names) (sym (Not-is c)) (guard_plain inner h.1)
guard_plain (brackets {l} {opening} closing {ts} opens inner closes) h = guard_plain inner (free_parts ts (closing ∷ []) h.1).0
guard_plain (relation {l} t {ts} {us} left is right) h = let parts = free_parts ts (t ∷ us) h in (expr_plain left parts.0, expr_plain right parts.1.1)
guard_plain (lone_unit u) h = guard_plain u h
guard_plain {names} (conjoined {l} t {ts} {us} {c} {d} front' is back) h =
    let parts = free_parts ts (t ∷ us) h in subst (GuardIsPlain names) (sym (And-is c d)) (guard_plain front' parts.0, guard_plain back parts.1.1)
guard_plain (lone_conjunction b) h = guard_plain b h
guard_plain {names} (disjoined {l} t {ts} {us} {c} {d} front' is back) h =
    let parts = free_parts ts (t ∷ us) h in subst (GuardIsPlain names) (sym (Or-is c d)) (guard_plain front' parts.0, guard_plain back parts.1.1)

-- ---- marks that were there stay

name_kept : (marks more : List (List ℕ)) (k : ℕ) → k < length marks → KeepsMarks marks more → name_at more k ≡ name_at marks k
name_kept marks more k within kept = sym (get_or-take (length marks) more k [] within) ∙ ap (λ names. name_at names k) kept

-- A mark that has been named keeps its name.
mark_named : (marks more : List (List ℕ)) (word : List ℕ) → KeepsMarks (with_mark marks word) more → name_at more (mark_number marks word) ≡ word
mark_named marks more word kept = go (position (λ m. bytes_eq m word) marks) refl kept where
  go : (found : Option ℕ) → position (λ m. bytes_eq m word) marks ≡ found → KeepsMarks (grown found marks word) more
      → name_at more (number_or found (length marks)) ≡ word
  go (Some k) e kept =
      let at = position-Some (λ m. bytes_eq m word) marks k [] e in
      name_kept marks more k at.0 kept ∙ (bytes_eq-Decides (name_at marks k) word).0 at.1
  go None e kept = name_kept (marks ++ word ∷ []) more (length marks) (omega (arith, length-append marks (word ∷ []))) kept ∙ get_or-append_seam marks word [] []

phrase_keeps : {names : Names} {marks noted : List (List ℕ)} {l : ℕ} {ts : List Token} {s : Stmt} → SpellsPhrase names marks l ts s noted
    → KeepsMarks marks noted
phrase_keeps {names} {marks} (assignment semicolon is found becomes spelled ends) = same_kept marks marks refl
phrase_keeps {names} {marks} (sending semicolon is receives dots named found spelled few ends) = same_kept marks marks refl
phrase_keeps {names} {marks} (bare_mark {l} {mark} {name} is named ends) = mark_kept marks (with_mark marks name.word) name.word refl
phrase_keeps {names} {marks} (marking {l} {mark} {name} semicolon is named spelled few ends) = mark_kept marks (with_mark marks name.word) name.word refl

-- ---- statements

list_plain : {names : Names} {l : ℕ} {ts : List Token} {es : List Expr} → SpellsList names l ts es → FreeWords ts → All (IsPlain names) es
list_plain {names} (one {l} {ts} {e} spelled) h = All-push (IsPlain names) [] e (All-nil (IsPlain names)) (expr_plain spelled h)
list_plain {names} (further {l} comma {ts} {us} {es} {e} before is spelled) h =
    let parts = free_parts ts (comma ∷ us) h in All-push (IsPlain names) es e (list_plain before parts.0) (expr_plain spelled parts.1.1)

arguments_plain : {names : Names} {l : ℕ} {ts : List Token} {es : List Expr} → SpellsArguments names l ts es → FreeWords ts → All (IsPlain names) es
arguments_plain {names} (none opens closes) h = All-nil (IsPlain names)
arguments_plain (some {l} {opening} closing {ts} {es} opens spelled closes) h = list_plain spelled (free_parts ts (closing ∷ []) h.1).0

receiver_free : {names : Names} {t : Token} {to : Option ObjectId} → NamesReceiver names t to → (t.kind ≡ kinds.Name → IsFree t.word) → ReceiverIsFree names to
receiver_free {names} {t} (object {o} is found) h = named_free names.objects t.word o.0 found (h is)
receiver_free (running is) h = tt

phrase_plain : {names : Names} {marks noted : List (List ℕ)} {l : ℕ} {ts : List Token} {s : Stmt} (more : List (List ℕ))
    → SpellsPhrase names marks l ts s noted → FreeWords ts → KeepsMarks noted more → StmtIsPlain names more s
phrase_plain {names} more (assignment {l} {variable} {becomes} semicolon {ts} {x} {e} is found assigns spelled ends) h kept =
    (named_free names.vars variable.word x found (h.0 is), expr_plain spelled (free_parts ts (semicolon ∷ []) h.1.1).0)
phrase_plain {names} more (sending {l} {send} {receiver} {dot} {name} semicolon {ts} {to} {signal} {args} is receives dots named found spelled few ends) h kept =
    (receiver_free receives h.1.0, signal_free names name.word signal found (h.1.1.1.0 named), arguments_plain spelled (free_parts ts (semicolon ∷ []) h.1.1.1.1).0)
phrase_plain {names} {marks} more (bare_mark {l} {mark} {name} is named ends) h kept =
    (subst IsFree (sym (mark_named marks more name.word kept)) (h.1.0 named), All-nil (IsPlain names))
phrase_plain {names} {marks} more (marking {l} {mark} {name} semicolon {ts} {args} is named spelled few ends) h kept =
    (subst IsFree (sym (mark_named marks more name.word kept)) (h.1.0 named), arguments_plain spelled (free_parts ts (semicolon ∷ []) h.1.1).0)

block_plain : (names : Names) (marks : List (List ℕ)) (body : List Stmt) → All (StmtIsPlain names marks) body
    → BlockIsPlain names marks (hidden-the_row-Stmt-0 body)
unfolding shape-the_row-Stmt-0 hidden-the_row-Stmt-0 hidden
block_plain names marks [] all = tt
block_plain names marks (s ∷ rest) all = (All-head (StmtIsPlain names marks) s rest all, block_plain names marks rest (All-tail (StmtIsPlain names marks) s rest all))

choice_plain : (names : Names) (marks : List (List ℕ)) (c : Cond) (body : List Stmt) → GuardIsPlain names c → All (StmtIsPlain names marks) body
    → StmtIsPlain names marks (stmts.Choose c body None)
choice_plain names marks c body cond all = (cond, block_plain names marks body all, tt)

alternative_plain : (names : Names) (marks : List (List ℕ)) (c : Cond) (body rest : List Stmt) → GuardIsPlain names c → All (StmtIsPlain names marks) body
    → All (StmtIsPlain names marks) rest
    → StmtIsPlain names marks (stmts.Choose c body (Some rest))
alternative_plain names marks c body rest cond all others = (cond, block_plain names marks body all, block_plain names marks rest others)

pub stmts_plain : {names : Names} {marks noted : List (List ℕ)} {l : ℕ} {ts : List Token} {block : List Stmt} (last : List (List ℕ))
    → SpellsStmts names marks l ts block noted → FreeWords ts → KeepsMarks noted last
    → All (StmtIsPlain names last) block
stmts_plain {names} last nothing h kept = All-nil (StmtIsPlain names last)
stmts_plain {names} last (phrase {l} {ts} {us} {block} {s} {marks} {noted} {more} before spelled) h kept =
    let parts = free_parts ts us h in
    All-push (StmtIsPlain names last) block s (stmts_plain last before parts.0 (kept_on noted more last (phrase_keeps spelled) kept)) (phrase_plain last spelled parts.1 kept)
stmts_plain {names} last (choice {l} {ts} {cs} {us} if' opening closing {block} {body} {c} {marks} {noted} {more} before is guard opens inner closes) h kept =
    let parts = free_parts ts (if' ∷ (cs ++ opening ∷ (us ++ closing ∷ []))) h in
    let condition = free_parts cs (opening ∷ (us ++ closing ∷ [])) parts.1.1 in
    let block' = free_parts us (closing ∷ []) condition.1.1 in
    let plain = choice_plain names last c body (guard_plain guard condition.0) (stmts_plain last inner block'.0 kept) in
    All-push (StmtIsPlain names last) block (stmts.Choose c body None) (stmts_plain last before parts.0 (kept_on noted more last (stmts_keep inner) kept)) plain
stmts_plain {names} last (alternative {l} {ts} {cs} {us} {vs} if' opening closing else' opening' closing' {block} {body} {otherwise} {c} {marks} {noted} {more} {last = left} before is guard opens inner closes is' opens' rest closes') h kept =
    let behind = else' ∷ opening' ∷ (vs ++ closing' ∷ []) in
    let parts = free_parts ts (if' ∷ (cs ++ opening ∷ (us ++ closing ∷ behind))) h in
    let condition = free_parts cs (opening ∷ (us ++ closing ∷ behind)) parts.1.1 in
    let first' = free_parts us (closing ∷ behind) condition.1.1 in
    let second = free_parts vs (closing' ∷ []) first'.1.1.1.1 in
    let middle = kept_on more left last (stmts_keep rest) kept in
    let plain = alternative_plain names last c body otherwise (guard_plain guard condition.0) (stmts_plain last inner first'.0 middle) (stmts_plain last rest second.0 kept) in
    All-push (StmtIsPlain names last) block (stmts.Choose c body (Some otherwise)) (stmts_plain last before parts.0 (kept_on noted more last (stmts_keep inner) middle)) plain

-- ---- numbers of marks

phrase_same : {names : Names} {marks noted : List (List ℕ)} {l : ℕ} {ts : List Token} {s : Stmt} (more : List (List ℕ))
    → SpellsPhrase names marks l ts s noted → KeepsMarks noted more → stmt_renumbered more marks s ≡ (s, noted)
phrase_same more (assignment semicolon is found becomes spelled ends) kept = refl
phrase_same more (sending semicolon is receives dots named found spelled few ends) kept = refl
phrase_same {names} {marks} more (bare_mark {l} {mark} {name} is named ends) kept =
    ap (λ (word : List ℕ). (Mark (mark_of marks word) [], with_mark marks word)) (mark_named marks more name.word kept)
phrase_same {names} {marks} more (marking {l} {mark} {name} semicolon {ts} {args} is named spelled few ends) kept =
    ap (λ (word : List ℕ). (Mark (mark_of marks word) args, with_mark marks word)) (mark_named marks more name.word kept)

-- With the marks that were there when they were read statements have the numbers of marks that they have.
pub stmts_same : {names : Names} {marks noted : List (List ℕ)} {l : ℕ} {ts : List Token} {block : List Stmt} (last : List (List ℕ))
    → SpellsStmts names marks l ts block noted → KeepsMarks noted last
    → stmts_renumbered last marks block ≡ (block, noted)
stmts_same last nothing kept = refl
stmts_same last (phrase {l} {ts} {us} {block} {s} {marks} {noted} {more} before spelled) kept =
    one_more_renumbered last marks block s block noted s more (stmts_same last before (kept_on noted more last (phrase_keeps spelled) kept)) (phrase_same last spelled kept)
stmts_same last (choice {l} {ts} {cs} {us} if' opening closing {block} {body} {c} {marks} {noted} {more} before is guard opens inner closes) kept =
    one_more_renumbered last marks block (stmts.Choose c body None) block noted (stmts.Choose c body None) more (stmts_same last before (kept_on noted more last (stmts_keep inner) kept))
    (one_block_renumbered last noted c body body more (stmts_same last inner kept))
stmts_same last (alternative {l} {ts} {cs} {us} {vs} if' opening closing else' opening' closing' {block} {body} {otherwise} {c} {marks} {noted} {more} {last = left} before is guard opens inner closes is' opens' rest closes') kept =
    let middle = kept_on more left last (stmts_keep rest) kept in
    one_more_renumbered last marks block (stmts.Choose c body (Some otherwise)) block noted (stmts.Choose c body (Some otherwise)) left (stmts_same last before (kept_on noted more last (stmts_keep inner) middle))
    (two_blocks_renumbered last noted c body otherwise body otherwise more left (stmts_same last inner middle) (stmts_same last rest kept))
