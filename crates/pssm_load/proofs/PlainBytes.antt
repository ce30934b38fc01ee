-- Behaviours and guards are written in ASCII, without a line feed.
use Rattle.std.proofs.Common.{◌≡◌, ◌<◌, ◌≤◌, ◌⊎◌, ◌^◌, length, subst, inl, inr, ℕ, zero, suc, pos, negsuc, Bool, true, false, eqb, ltb, leb, ◌&&◌, ◌||◌, List, [], ◌∷◌, ◌++◌, All, Option, Some, None, refl, ◌∙◌, arith, codes}
use Rattle.std.specs.List.{list_all, AllByRecursion}
use Rattle.std.specs.Fmt.{decimal}
use Rattle.std.specs.Option.{option_map_or}
use Rattle.std.specs.Prelude.{slice_get, not}
use Rattle.std.proofs.lemmas.Bool.{and_parts, and_from, leb-true, eqb-true, lt-ltb}
use Rattle.std.proofs.lemmas.Fmt.{digits_decimal}
use Rattle.std.proofs.lemmas.List.Elements.{All-head, All-tail}
use Rattle.std.proofs.lemmas.List.Folds.{list_all-append}
use Rattle.pssm_spelling.specs.Spelling.{IsName, begins_name, continues_name}
use Rattle.pssm_spelling.specs.SpellingReading.{is_digit}
use Rattle.pssm_spelling.proofs.SpellingLaws.{name_goes_on, digits_model}
use Rattle.pssm_semantics.specs.declared.entry.ObjectId.{ObjectId}
use Rattle.pssm_semantics.specs.declared.setting.Names.{Names}
use Rattle.pssm_semantics.specs.declared.setting.SignalDecl.{SignalDecl}
use Rattle.pssm_semantics.specs.declared.tree.Act.{Act}
use Rattle.pssm_semantics.specs.declared.tree.Expr.{Expr, end_of-Expr, more_of-Expr}
use Rattle.pssm_semantics.specs.declared.tree.Expr.TheVariants.{Num, Var, Param, Sum', Diff', Prod'}
use Rattle.pssm_semantics.specs.declared.tree.Rel.{Rel}
use Rattle.pssm_semantics.specs.declared.tree.Rel.TheVariants.{Eq, Ne, Lt, Le, Gt, Ge}
use Rattle.pssm_semantics.specs.declared.tree.Cond.{Cond, end_of-Cond, more_of-Cond}
use Rattle.pssm_semantics.specs.declared.tree.Cond.TheVariants.{True, False, Compare, Not', And', Or'}
use Rattle.pssm_semantics.specs.declared.tree.Stmt.{Stmt, Assign, Choose', Send, Mark, Row_of-Stmt, end_of-Stmt, more_of-Stmt, Held-Stmt-Choose-2, None', Some'}
use Rattle.pssm_semantics.specs.Fits.{Vocabulary, ExprFits, CondFits, StmtFits, BlockFits, OtherwiseFits}
use Rattle.pssm_acts.specs.ActText.{name_at, signal_name, receiver_name, is_operation, in_parentheses, expr_text, rel_text, is_chain, in_brackets, cond_text, further_text, args_text, stmt_text, row_text, otherwise_text, stmts_text, spaced_text, act_text}
use Rattle.pssm_acts.specs.ReadBack.{IsPlain, GuardIsPlain, StmtIsPlain, BlockIsPlain, OtherwiseIsPlain}
use Rattle.pssm_flat.specs.Flat.{is_inner, IsLineText}
use Rattle.pssm_flat.proofs.RightTexts.{line_text_is}

-- a byte of ASCII that is no line feed
abbrev is_plain : ℕ → Bool
is_plain b = ltb b 128 && is_inner b

abbrev ArePlain : List ℕ → Type 0
ArePlain bytes = list_all is_plain bytes ≡ true

joined : (xs ys : List ℕ) → ArePlain xs → ArePlain ys → ArePlain (xs ++ ys)
joined xs ys first second = list_all-append is_plain xs ys ∙ and_from (list_all is_plain xs) (list_all is_plain ys) first second

all_with : (p q : ℕ → Bool) → ((c : ℕ) → p c ≡ true → q c ≡ true) → (xs : List ℕ) → list_all p xs ≡ true → list_all q xs ≡ true
all_with p q follows [] e = refl
all_with p q follows (c ∷ xs) e =
    let parts = and_parts (p c) (list_all p xs) e in and_from (q c) (list_all q xs) (follows c parts.0) (all_with p q follows xs parts.1)

-- ---- names and numbers

one_of : (a b : Bool) → (a || b) ≡ true → (a ≡ true) ⊎ (b ≡ true)
one_of true b e = inl refl
one_of false b e = inr e

low_byte : (c : ℕ) → 11 ≤ c → c < 128 → is_plain c ≡ true
low_byte c low high = and_from (ltb c 128) (is_inner c) (lt-ltb c 128 high) (by_test (eqb c 10) refl) where
  by_test : (t : Bool) → eqb c 10 ≡ t → not t ≡ true
  by_test true same = absurd (let is : c ≡ 10 = eqb-true c 10 same in omega arith)
  by_test false other = refl

between : (a b c : ℕ) → 11 ≤ a → b < 128 → (leb a c && leb c b) ≡ true → is_plain c ≡ true
between a b c low high e =
    let parts = and_parts (leb a c) (leb c b) e in
    let above : a ≤ c = leb-true a c parts.0 in
    let below : c ≤ b = leb-true c b parts.1 in
    low_byte c (omega (arith, above, low)) (omega (arith, below, high))

name_byte : (c : ℕ) → continues_name c ≡ true → is_plain c ≡ true
name_byte c e = elim (one_of (begins_name c) (leb 48 c && leb c 57) e) [
  | inl begins ↦ begin begins
  | inr digit ↦ between 48 57 c (omega arith) (omega arith) digit
] where
  letter : ((leb 65 c && leb c 90) || (leb 97 c && leb c 122)) ≡ true → is_plain c ≡ true
  letter e = elim (one_of (leb 65 c && leb c 90) (leb 97 c && leb c 122) e) [
    | inl upper ↦ between 65 90 c (omega arith) (omega arith) upper
    | inr lower ↦ between 97 122 c (omega arith) (omega arith) lower
  ]

  begin : begins_name c ≡ true → is_plain c ≡ true
  begin e = elim (one_of ((leb 65 c && leb c 90) || (leb 97 c && leb c 122)) (eqb c 95) e) [
    | inl is ↦ letter is
    | inr line ↦ (let is : c ≡ 95 = eqb-true c 95 line in low_byte c (omega arith) (omega arith))
  ]

name_plain : (name : List ℕ) → IsName name → ArePlain name
name_plain name is = all_with continues_name is_plain name_byte name (name_goes_on name is.spelled)

named_plain : (names : List (List ℕ)) (k : ℕ) → AllByRecursion IsName names → ArePlain (name_at names k)
named_plain [] k all = refl
named_plain (name ∷ names) zero all = name_plain name all.0
named_plain (name ∷ names) (suc k) all = named_plain names k all.1

signals_plain : (signals : List SignalDecl) (k : ℕ) → AllByRecursion (λ (d : SignalDecl). IsName d.name) signals
    → ArePlain (option_map_or (λ (d : SignalDecl). d.name) (slice_get signals k) [])
signals_plain [] k all = refl
signals_plain (d ∷ signals) zero all = name_plain d.name all.0
signals_plain (d ∷ signals) (suc k) all = signals_plain signals k all.1

digit_byte : (c : ℕ) → is_digit c ≡ true → is_plain c ≡ true
digit_byte c e = between 48 57 c (omega arith) (omega arith) e

decimal_plain : (n : ℕ) → n < 2 ^ 64 → ArePlain (decimal n)
decimal_plain n small = all_with is_digit is_plain digit_byte (decimal n) (digits_decimal digits_model n small)

-- ---- texts

wrapped : (b : Bool) (text : List ℕ) → ArePlain text → ArePlain (in_parentheses b text)
wrapped true text is = joined (codes "(") (text ++ codes ")") refl (joined text (codes ")") is refl)
wrapped false text is = is

bracketed : (b : Bool) (text : List ℕ) → ArePlain text → ArePlain (in_brackets b text)
bracketed true text is = joined (codes "[") (text ++ codes "]") refl (joined text (codes "]") is refl)
bracketed false text is = is

relation_plain : (rel : Rel) → ArePlain (rel_text rel)
relation_plain Eq = refl
relation_plain Ne = refl
relation_plain Lt = refl
relation_plain Le = refl
relation_plain Gt = refl
relation_plain Ge = refl

around : (xs sign ys : List ℕ) → ArePlain xs → ArePlain sign → ArePlain ys → ArePlain (xs ++ sign ++ ys)
around xs sign ys first between' last = joined (xs ++ sign) ys (joined xs sign first between') last

module _ (names : Names) (vars : AllByRecursion IsName names.vars) where
  expr_bytes : (e : Expr) → ExprFits (length names.vars) e → IsPlain names e → ArePlain (expr_text names e)
  expr_bytes (Num (pos n)) fits small = decimal_plain n (omega (arith, small))
  expr_bytes (Num (negsuc n)) fits small = joined (codes "-") (decimal (suc n)) refl (decimal_plain (suc n) (omega (arith, small)))
  expr_bytes (Var x) fits free = named_plain names.vars x vars
  expr_bytes (Param k) fits free = joined (codes "$") (decimal k) refl (decimal_plain k (omega (arith, fits.1)))
  expr_bytes (Sum' p (more_of-Expr a end_of-Expr) q (more_of-Expr b end_of-Expr)) fits plain =
      around (in_parentheses (is_operation a) (expr_text names a)) (codes " + ") (in_parentheses (is_operation b) (expr_text names b))
      (wrapped (is_operation a) (expr_text names a) (expr_bytes a fits.0 plain.0)) refl (wrapped (is_operation b) (expr_text names b) (expr_bytes b fits.1 plain.1))
  expr_bytes (Diff' p (more_of-Expr a end_of-Expr) q (more_of-Expr b end_of-Expr)) fits plain =
      around (in_parentheses (is_operation a) (expr_text names a)) (codes " - ") (in_parentheses (is_operation b) (expr_text names b))
      (wrapped (is_operation a) (expr_text names a) (expr_bytes a fits.0 plain.0)) refl (wrapped (is_operation b) (expr_text names b) (expr_bytes b fits.1 plain.1))
  expr_bytes (Prod' p (more_of-Expr a end_of-Expr) q (more_of-Expr b end_of-Expr)) fits plain =
      around (in_parentheses (is_operation a) (expr_text names a)) (codes " * ") (in_parentheses (is_operation b) (expr_text names b))
      (wrapped (is_operation a) (expr_text names a) (expr_bytes a fits.0 plain.0)) refl (wrapped (is_operation b) (expr_text names b) (expr_bytes b fits.1 plain.1))

  cond_bytes : (c : Cond) → CondFits (length names.vars) c → GuardIsPlain names c → ArePlain (cond_text names c)
  cond_bytes True fits plain = refl
  cond_bytes False fits plain = refl
  cond_bytes (Compare rel a b) fits plain = around (expr_text names a) (rel_text rel) (expr_text names b) (expr_bytes a fits.0 plain.0) (relation_plain rel) (expr_bytes b fits.1 plain.1)
  cond_bytes (Not' p (more_of-Cond a end_of-Cond)) fits plain =
      joined (codes "!") (in_brackets (is_chain a) (cond_text names a)) refl (bracketed (is_chain a) (cond_text names a) (cond_bytes a fits plain))
  cond_bytes (And' p (more_of-Cond a end_of-Cond) q (more_of-Cond b end_of-Cond)) fits plain =
      around (in_brackets (is_chain a) (cond_text names a)) (codes " && ") (in_brackets (is_chain b) (cond_text names b))
      (bracketed (is_chain a) (cond_text names a) (cond_bytes a fits.0 plain.0)) refl (bracketed (is_chain b) (cond_text names b) (cond_bytes b fits.1 plain.1))
  cond_bytes (Or' p (more_of-Cond a end_of-Cond) q (more_of-Cond b end_of-Cond)) fits plain =
      around (in_brackets (is_chain a) (cond_text names a)) (codes " || ") (in_brackets (is_chain b) (cond_text names b))
      (bracketed (is_chain a) (cond_text names a) (cond_bytes a fits.0 plain.0)) refl (bracketed (is_chain b) (cond_text names b) (cond_bytes b fits.1 plain.1))

  further_bytes : (args : List Expr) → All (ExprFits (length names.vars)) args → All (IsPlain names) args → ArePlain (further_text names args)
  further_bytes [] fits plain = refl
  further_bytes (e ∷ rest) fits plain =
      around (codes ", ") (expr_text names e) (further_text names rest) refl
      (expr_bytes e (All-head (ExprFits (length names.vars)) e rest fits) (All-head (IsPlain names) e rest plain))
      (further_bytes rest (All-tail (ExprFits (length names.vars)) e rest fits) (All-tail (IsPlain names) e rest plain))

  args_bytes : (args : List Expr) → All (ExprFits (length names.vars)) args → All (IsPlain names) args → ArePlain (args_text names args)
  args_bytes [] fits plain = refl
  args_bytes (e ∷ rest) fits plain =
      joined (expr_text names e) (further_text names rest)
      (expr_bytes e (All-head (ExprFits (length names.vars)) e rest fits) (All-head (IsPlain names) e rest plain))
      (further_bytes rest (All-tail (ExprFits (length names.vars)) e rest fits) (All-tail (IsPlain names) e rest plain))

  -- A guard can stand in a line.
  pub guard_line : (c : Cond) → CondFits (length names.vars) c → GuardIsPlain names c → IsLineText (cond_text names c)
  guard_line c fits plain =
      let all = cond_bytes c fits plain in
      line_text_is (cond_text names c) (all_with is_plain (λ b. ltb b 128) (λ b e. (and_parts (ltb b 128) (is_inner b) e).0) (cond_text names c) all)
      (all_with is_plain is_inner (λ b e. (and_parts (ltb b 128) (is_inner b) e).1) (cond_text names c) all)

  module _ (objects : AllByRecursion IsName names.objects) (signals : AllByRecursion (λ (d : SignalDecl). IsName d.name) names.signals) (marks : List (List ℕ)) (known : AllByRecursion IsName marks) (v : Vocabulary) (same : v.vars ≡ length names.vars) where
    receiver_bytes : (to : Option ObjectId) → ArePlain (receiver_name names to)
    receiver_bytes (Some object) = named_plain names.objects object.0 objects
    receiver_bytes None = refl

    mutual
      stmt_bytes : (s : Stmt) → StmtFits v s → StmtIsPlain names marks s → ArePlain (stmt_text names marks s)
      stmt_bytes (Assign x e) fits plain =
          joined (name_at names.vars x ++ codes " := " ++ expr_text names e) (codes ";")
          (around (name_at names.vars x) (codes " := ") (expr_text names e) (named_plain names.vars x vars) refl
          (expr_bytes e (subst (λ n. ExprFits n e) same fits.1) plain.1)) refl
      stmt_bytes (Choose' c shape body otherwise) fits plain =
          joined (codes "if " ++ cond_text names c ++ (codes " {" ++ row_text names marks body ++ codes " }")) (otherwise_text names marks otherwise)
          (around (codes "if ") (cond_text names c) (codes " {" ++ row_text names marks body ++ codes " }") refl
          (cond_bytes c (subst (λ n. CondFits n c) same fits.0) plain.0)
          (around (codes " {") (row_text names marks body) (codes " }") refl (row_bytes body fits.1 plain.1) refl))
          (otherwise_bytes otherwise fits.2 plain.2)
      stmt_bytes (Send to signal args) fits plain =
          around (codes "send " ++ receiver_name names to ++ codes "." ++ signal_name names signal ++ codes "(") (args_text names args) (codes ");")
          (around (codes "send " ++ receiver_name names to ++ codes ".") (signal_name names signal) (codes "(")
          (around (codes "send ") (receiver_name names to) (codes ".") refl (receiver_bytes to) refl)
          (signals_plain names.signals signal.0 signals) refl)
          (args_bytes args (subst (λ n. All (ExprFits n) args) same fits.1) plain.2) refl
      stmt_bytes (Mark mark args) fits plain =
          around (codes "mark " ++ name_at marks mark.0 ++ codes "(") (args_text names args) (codes ");")
          (around (codes "mark ") (name_at marks mark.0) (codes "(") refl (named_plain marks mark.0 known) refl)
          (args_bytes args (subst (λ n. All (ExprFits n) args) same fits.2) plain.1) refl

      row_bytes : {n : _} → (body : Row_of-Stmt n) → BlockFits v body → BlockIsPlain names marks body → ArePlain (row_text names marks body)
      row_bytes end_of-Stmt fits plain = refl
      row_bytes (more_of-Stmt stmt rest) fits plain =
          around (codes " ") (stmt_text names marks stmt) (row_text names marks rest) refl (stmt_bytes stmt fits.0 plain.0) (row_bytes rest fits.1 plain.1)

      otherwise_bytes : (otherwise : Held-Stmt-Choose-2) → OtherwiseFits v otherwise → OtherwiseIsPlain names marks otherwise
          → ArePlain (otherwise_text names marks otherwise)
      otherwise_bytes None' fits plain = refl
      otherwise_bytes (Some' shape block) fits plain = around (codes " else {") (row_text names marks block) (codes " }") refl (row_bytes block fits plain) refl

    stmts_bytes : (stmts : List Stmt) → All (StmtFits v) stmts → All (StmtIsPlain names marks) stmts → ArePlain (stmts_text names marks stmts)
    stmts_bytes [] fits plain = refl
    stmts_bytes (s ∷ rest) fits plain =
        around (codes " ") (stmt_text names marks s) (stmts_text names marks rest) refl
        (stmt_bytes s (All-head (StmtFits v) s rest fits) (All-head (StmtIsPlain names marks) s rest plain))
        (stmts_bytes rest (All-tail (StmtFits v) s rest fits) (All-tail (StmtIsPlain names marks) s rest plain))

    spaced_bytes : (stmts : List Stmt) → All (StmtFits v) stmts → All (StmtIsPlain names marks) stmts → ArePlain (spaced_text names marks stmts)
    spaced_bytes [] fits plain = refl
    spaced_bytes (s ∷ rest) fits plain =
        joined (stmt_text names marks s) (stmts_text names marks rest)
        (stmt_bytes s (All-head (StmtFits v) s rest fits) (All-head (StmtIsPlain names marks) s rest plain))
        (stmts_bytes rest (All-tail (StmtFits v) s rest fits) (All-tail (StmtIsPlain names marks) s rest plain))

    -- A behaviour can stand in a line.
    pub act_line : (act : Act) → All (StmtFits v) act.stmts → All (StmtIsPlain names marks) act.stmts → IsLineText (act_text names marks act)
    act_line act fits plain =
        let all = spaced_bytes act.stmts fits plain in
        line_text_is (act_text names marks act) (all_with is_plain (λ b. ltb b 128) (λ b e. (and_parts (ltb b 128) (is_inner b) e).0) (act_text names marks act) all)
        (all_with is_plain is_inner (λ b e. (and_parts (ltb b 128) (is_inner b) e).1) (act_text names marks act) all)
