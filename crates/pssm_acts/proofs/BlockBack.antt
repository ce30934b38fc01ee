-- What is written of statements and behaviours spells them, so that it can be read back.
use Rattle.std.proofs.Common.{◌≡◌, ◌≤◌, ◌<◌, ◌+◌, ◌-◌, ℕ, suc, zero, false, List, [], ◌∷◌, ◌++◌, length, map, max, take, drop, slice_index_or, All, refl, sym, ap, ◌∙◌, subst, arith, append_assoc, append-nil, le_trans, codes, Some, None}
use Rattle.std.proofs.Math.Nat.{le-max_left, le-max_right}
use Rattle.std.proofs.Math.Seq.{take-length}
use Rattle.pssm_semantics.specs.declared.setting.Names.{Names}
use Rattle.pssm_semantics.specs.declared.tree.Act.{Act}
use Rattle.pssm_semantics.specs.declared.tree.Cond.{Cond}
use Rattle.pssm_semantics.specs.declared.tree.Stmt.{Stmt, Assign, Choose', Send, Mark, Row_of-Stmt, end_of-Stmt, more_of-Stmt, None', Some'}
use Rattle.pssm_semantics.specs.declared.tree.Stmt.TheBlock.{shown-the_row-Stmt-0, items-the_row-Stmt, items_shown-the_row-Stmt-0, view-Stmt-Choose-2}
use Rattle.pssm_semantics.specs.declared.tree.Stmt.TheViews.{roll-Stmt, out-Stmt, roll-out-Stmt, outs-Choose', rolls-Choose, sees-None', sees-Some'}
use Rattle.pssm_semantics.specs.declared.tree.Stmt.TheViews as views
use Rattle.pssm_acts.specs.ActGrammar.{SpellsStmts, nothing, phrase, choice, alternative, SpellsAct}
use Rattle.pssm_acts.specs.ActText.{cond_text, stmt_text, row_text, stmts_text, spaced_text, act_text}
use Rattle.pssm_semantics.specs.Fits.{StmtFits, BlockFits}
use Rattle.pssm_acts.specs.Grammar.{Either}
use Rattle.pssm_acts.specs.ReadBack.{AreNames, cond_levels, stmt_levels, block_levels, otherwise_levels, stmts_levels, StmtIsPlain, BlockIsPlain, CanBeReadBack}
use Rattle.pssm_acts.specs.Tokens.{Token, cut}
use Rattle.pssm_acts.specs.Vocabularies.{vocabulary}
use Rattle.pssm_acts.proofs.Written.{three_cut}
use Rattle.pssm_acts.proofs.GuardBack.{BeginsGuard, whole_guard_begins, all_cut}
use Rattle.pssm_acts.proofs.PhraseBack.{BeginsPhrase, assignment_begins, send_back, mark_back}
use Rattle.pssm_acts.proofs.SignLaws.{if_begins, else_begins, brace_begins, brace_ends}
use Rattle.pssm_acts.proofs.CutLaws.{cut_blank}

-- The bytes go on with what spells statements behind others, and note no mark.
pub record BeginsStmts (names : Names) (marks : List (List ℕ)) (l : ℕ) (block : List Stmt) (end : ℕ) (bytes rest : List ℕ) : Type 0 where
  pub us : List Token
  pub spelled : (ts : List Token) (done : List Stmt) → SpellsStmts names marks l ts done marks → SpellsStmts names marks l (ts ++ us) (done ++ block) marks
  pub same : cut end false 0 bytes ≡ us ++ cut end false 0 rest

-- What an `if` with one block or two is, as code and the grammar write it.
one_block : (c : Cond) (shape : _) (body : Row_of-Stmt _) → Choose' c shape body None' ≡ views.Choose c (items-the_row-Stmt _ body) None
one_block c shape body =
    sym (roll-out-Stmt (Choose' c shape body None')) ∙ ap roll-Stmt (outs-Choose' c shape body None') ∙ rolls-Choose c (shown-the_row-Stmt-0 shape body) (view-Stmt-Choose-2 None')
    ∙ ap (λ b. views.Choose c b (view-Stmt-Choose-2 None')) (items_shown-the_row-Stmt-0 shape body) ∙ ap (λ o. views.Choose c (items-the_row-Stmt _ body) o) sees-None'

two_blocks : (c : Cond) (shape : _) (body : Row_of-Stmt _) (shape' : _) (other : Row_of-Stmt _) → Choose' c shape body (Some' shape' other) ≡ views.Choose c (items-the_row-Stmt _ body) (Some (items-the_row-Stmt _ other))
two_blocks c shape body shape' other =
    sym (roll-out-Stmt (Choose' c shape body (Some' shape' other))) ∙ ap roll-Stmt (outs-Choose' c shape body (Some' shape' other)) ∙ rolls-Choose c (shown-the_row-Stmt-0 shape body) (view-Stmt-Choose-2 (Some' shape' other))
    ∙ ap (λ b. views.Choose c b (view-Stmt-Choose-2 (Some' shape' other))) (items_shown-the_row-Stmt-0 shape body)
    ∙ ap (λ o. views.Choose c (items-the_row-Stmt _ body) o) (sees-Some' shape' other ∙ ap (λ b. Some b) (items_shown-the_row-Stmt-0 shape' other))

if_parts : (word guard opening block closing other rest : List ℕ) → (word ++ guard ++ (opening ++ block ++ closing) ++ other) ++ rest ≡ word ++ (guard ++ (opening ++ (block ++ (closing ++ (other ++ rest)))))
if_parts word guard opening block closing other rest =
    append_assoc (word ++ guard ++ (opening ++ block ++ closing)) other rest ∙ append_assoc (word ++ guard) (opening ++ block ++ closing) (other ++ rest)
    ∙ ap (λ t. word ++ guard ++ t) (three_cut opening block closing (other ++ rest)) ∙ append_assoc word guard (opening ++ (block ++ (closing ++ (other ++ rest))))

choice_tokens : (if' opening closing : Token) (cs us rest : List Token) → if' ∷ (cs ++ opening ∷ (us ++ closing ∷ rest)) ≡ (if' ∷ (cs ++ opening ∷ (us ++ closing ∷ []))) ++ rest
choice_tokens if' opening closing cs us rest =
    ap (λ x. if' ∷ x) (ap (λ x. cs ++ opening ∷ x) (sym (append_assoc us (closing ∷ []) rest)) ∙ sym (append_assoc cs (opening ∷ (us ++ closing ∷ [])) rest))

alternative_tokens : (if' opening closing else' opening' closing' : Token) (cs us vs rest : List Token)
    → if' ∷ (cs ++ opening ∷ (us ++ closing ∷ else' ∷ opening' ∷ (vs ++ closing' ∷ rest))) ≡ (if' ∷ (cs ++ opening ∷ (us ++ closing ∷ else' ∷ opening' ∷ (vs ++ closing' ∷ [])))) ++ rest
alternative_tokens if' opening closing else' opening' closing' cs us vs rest =
    ap (λ x. if' ∷ x) (ap (λ x. cs ++ opening ∷ x) (ap (λ x. us ++ closing ∷ else' ∷ opening' ∷ x) (sym (append_assoc vs (closing' ∷ []) rest)) ∙ sym (append_assoc us (closing ∷ else' ∷ opening' ∷ (vs ++ closing' ∷ [])) rest))
    ∙ sym (append_assoc cs (opening ∷ (us ++ closing ∷ else' ∷ opening' ∷ (vs ++ closing' ∷ []))) rest))

module _ (names : Names) (marks : List (List ℕ)) (end : ℕ) where
  of_phrase : (s : Stmt) (l : ℕ) (bytes rest : List ℕ) → BeginsPhrase names marks l s end bytes rest → BeginsStmts names marks l (s ∷ []) end bytes rest
  of_phrase s l bytes rest part = record { us = part.ts; spelled = λ ts done before. phrase before part.spelled; same = part.same }

  no_more : (l : ℕ) (rest : List ℕ) → BeginsStmts names marks l [] end rest rest
  no_more l rest = record {
    us = [];
    spelled = λ ts done before. subst (λ x. SpellsStmts names marks l (ts ++ []) x marks) (sym (append-nil done)) (subst (λ x. SpellsStmts names marks l x done marks) (sym (append-nil ts)) before);
    same = refl;
  }

  one_more : (s : Stmt) (block : List Stmt) (l : ℕ) (text later rest : List ℕ) → BeginsStmts names marks l (s ∷ []) end (text ++ (later ++ rest)) (later ++ rest) → BeginsStmts names marks l block end (later ++ rest) rest
      → BeginsStmts names marks l (s ∷ block) end ((text ++ later) ++ rest) rest
  one_more s block l text later rest first others = record {
    us = first.us ++ others.us;
    spelled = λ ts done before.
        subst (λ x. SpellsStmts names marks l x (done ++ s ∷ block) marks) (append_assoc ts first.us others.us)
        (subst (λ x. SpellsStmts names marks l ((ts ++ first.us) ++ others.us) x marks) (append_assoc done (s ∷ []) block) (others.spelled (ts ++ first.us) (done ++ s ∷ []) (first.spelled ts done before)));
    same = ap (λ b. cut end false 0 b) (append_assoc text later rest) ∙ first.same ∙ ap (λ x. first.us ++ x) others.same ∙ sym (append_assoc first.us others.us (cut end false 0 rest));
  }

  spaced : (block : List Stmt) (l : ℕ) (bytes rest : List ℕ) → BeginsStmts names marks l block end bytes rest → BeginsStmts names marks l block end (codes " " ++ bytes) rest
  spaced block l bytes rest part = record { us = part.us; spelled = part.spelled; same = cut_blank end false 32 bytes refl ∙ part.same }

  -- `if x < 1 { x := 1; }`
  choice_begins : (c : Cond) (body : List Stmt) (l : ℕ) (guard_bytes body_bytes rest : List ℕ)
      → BeginsGuard names Either (suc l) c end (guard_bytes ++ (codes " {" ++ (body_bytes ++ (codes " }" ++ rest)))) (codes " {" ++ (body_bytes ++ (codes " }" ++ rest)))
      → BeginsStmts names marks l body end (body_bytes ++ (codes " }" ++ rest)) (codes " }" ++ rest)
      → BeginsStmts names marks (suc l) (views.Choose c body None ∷ []) end ((codes "if " ++ guard_bytes ++ (codes " {" ++ body_bytes ++ codes " }") ++ []) ++ rest) rest
  choice_begins c body l guard_bytes body_bytes rest guard block =
      let if' = if_begins end (guard_bytes ++ (codes " {" ++ (body_bytes ++ (codes " }" ++ rest)))) in
      let opening = brace_begins end (body_bytes ++ (codes " }" ++ rest)) guard.0 in
      let closing = brace_ends end rest in
      record {
        us = if'.token ∷ (guard.1.ts ++ opening.token ∷ (block.us ++ closing.token ∷ []));
        spelled = λ ts done before. choice if'.token opening.token closing.token before if'.is guard.1.spelled opening.is (block.spelled [] [] nothing) closing.is;
        same = ap (λ b. cut end false 0 b) (if_parts (codes "if ") guard_bytes (codes " {") body_bytes (codes " }") [] rest) ∙ if'.same
            ∙ ap (λ x. if'.token ∷ x) (guard.1.same ∙ ap (λ x. guard.1.ts ++ x) (opening.same ∙ ap (λ x. opening.token ∷ x) (block.same ∙ ap (λ x. block.us ++ x) closing.same)))
            ∙ choice_tokens if'.token opening.token closing.token guard.1.ts block.us (cut end false 0 rest);
      }

  -- `if x < 1 { x := 1; } else { x := 2; }`
  alternative_begins : (c : Cond) (body other : List Stmt) (l : ℕ) (guard_bytes body_bytes other_bytes rest later : List ℕ) → later ≡ codes " else {" ++ (other_bytes ++ (codes " }" ++ rest))
      → BeginsGuard names Either (suc l) c end (guard_bytes ++ (codes " {" ++ (body_bytes ++ (codes " }" ++ later)))) (codes " {" ++ (body_bytes ++ (codes " }" ++ later)))
      → BeginsStmts names marks l body end (body_bytes ++ (codes " }" ++ later)) (codes " }" ++ later)
      → BeginsStmts names marks l other end (other_bytes ++ (codes " }" ++ rest)) (codes " }" ++ rest)
      → BeginsStmts names marks (suc l) (views.Choose c body (Some other) ∷ []) end ((codes "if " ++ guard_bytes ++ (codes " {" ++ body_bytes ++ codes " }") ++ (codes " else {" ++ other_bytes ++ codes " }")) ++ rest) rest
  alternative_begins c body other l guard_bytes body_bytes other_bytes rest later is guard block last =
      let if' = if_begins end (guard_bytes ++ (codes " {" ++ (body_bytes ++ (codes " }" ++ later)))) in
      let opening = brace_begins end (body_bytes ++ (codes " }" ++ later)) guard.0 in
      let closing = brace_ends end later in
      let else' = else_begins end (other_bytes ++ (codes " }" ++ rest)) in
      let opening' = brace_begins end (other_bytes ++ (codes " }" ++ rest)) false in
      let closing' = brace_ends end rest in
      record {
        us = if'.token ∷ (guard.1.ts ++ opening.token ∷ (block.us ++ closing.token ∷ else'.token ∷ opening'.token ∷ (last.us ++ closing'.token ∷ [])));
        spelled = λ ts done before. alternative if'.token opening.token closing.token else'.token opening'.token closing'.token before if'.is guard.1.spelled opening.is (block.spelled [] [] nothing) closing.is else'.is opening'.is
            (last.spelled [] [] nothing) closing'.is;
        same = ap (λ b. cut end false 0 b) (if_parts (codes "if ") guard_bytes (codes " {") body_bytes (codes " }") (codes " else {" ++ other_bytes ++ codes " }") rest
            ∙ ap (λ t. codes "if " ++ (guard_bytes ++ (codes " {" ++ (body_bytes ++ (codes " }" ++ t))))) (three_cut (codes " else {") other_bytes (codes " }") rest ∙ sym is)) ∙ if'.same
            ∙ ap (λ x. if'.token ∷ x) (guard.1.same ∙ ap (λ x. guard.1.ts ++ x) (opening.same ∙ ap (λ x. opening.token ∷ x) (block.same ∙ ap (λ x. block.us ++ x) (closing.same ∙ ap (λ x. closing.token ∷ x)
            (ap (λ b. cut end false 0 b) is ∙ else'.same ∙ ap (λ x. else'.token ∷ x) (opening'.same ∙ ap (λ x. opening'.token ∷ x) (last.same ∙ ap (λ x. last.us ++ x) closing'.same)))))))
            ∙ alternative_tokens if'.token opening.token closing.token else'.token opening'.token closing'.token guard.1.ts block.us last.us (cut end false 0 rest);
      }

module _ (names : Names) (marks : List (List ℕ)) (end : ℕ) (vars : AreNames names.vars) (objects : AreNames names.objects) (signals : AreNames (map (λ d. d.name) names.signals)) (known : AreNames marks) where
  mutual
    -- What is written of a statement spells it, whatever stands behind.
    stmt_begins : (s : Stmt) (l : ℕ) (rest : List ℕ) → StmtFits (vocabulary names marks) s → StmtIsPlain names marks s → stmt_levels s ≤ l → BeginsStmts names marks l (s ∷ []) end (stmt_text names marks s ++ rest) rest
    stmt_begins (Assign x e) l rest fits plain deep = of_phrase names marks end (Assign x e) l (stmt_text names marks (Assign x e) ++ rest) rest (assignment_begins names vars marks end x e l rest fits.0 plain.0 fits.1 plain.1 deep)
    stmt_begins (Send to signal args) l rest fits plain deep =
        of_phrase names marks end (Send to signal args) l (stmt_text names marks (Send to signal args) ++ rest) rest (send_back names marks vars objects signals end to signal args l rest fits.0 plain.0 plain.1 fits.1 plain.2 deep)
    stmt_begins (Mark mark args) l rest fits plain deep =
        of_phrase names marks end (Mark mark args) l (stmt_text names marks (Mark mark args) ++ rest) rest (mark_back names marks vars known end mark args l rest fits.0 plain.0 fits.1 fits.2 plain.1 deep)
    stmt_begins (Choose' c shape body other) zero rest fits plain deep = absurd (omega (arith, le-max_right (cond_levels c) (max (block_levels body) (otherwise_levels other) + 1)))
    stmt_begins (Choose' c shape body None') (suc l) rest fits plain deep =
        let within : max (block_levels body) 0 + 1 ≤ suc l = le_trans (le-max_right (cond_levels c) (max (block_levels body) 0 + 1)) deep in
        let shallow : block_levels body ≤ l = omega (arith, le-max_left (block_levels body) 0) in
        let later : List ℕ = codes " }" ++ rest in
        subst (λ s. BeginsStmts names marks (suc l) (s ∷ []) end (stmt_text names marks (Choose' c shape body None') ++ rest) rest) (sym (one_block c shape body))
        (choice_begins names marks end c (items-the_row-Stmt _ body) l (cond_text names c) (row_text names marks body) rest
        (whole_guard_begins names vars end c (suc l) (codes " {" ++ (row_text names marks body ++ later)) fits.0 plain.0 (le_trans (le-max_left (cond_levels c) (max (block_levels body) 0 + 1)) deep) refl)
        (block_begins _ body l later fits.1 plain.1 shallow))
    stmt_begins (Choose' c shape body (Some' shape' other)) (suc l) rest fits plain deep =
        let both : ℕ = max (block_levels body) (block_levels other) in
        let within : both + 1 ≤ suc l = le_trans (le-max_right (cond_levels c) (both + 1)) deep in
        let shallow : block_levels body ≤ l = omega (arith, le-max_left (block_levels body) (block_levels other)) in
        let other_shallow : block_levels other ≤ l = omega (arith, le-max_right (block_levels body) (block_levels other)) in
        let last : List ℕ = codes " else {" ++ (row_text names marks other ++ (codes " }" ++ rest)) in
        let later : List ℕ = codes " }" ++ last in
        subst (λ s. BeginsStmts names marks (suc l) (s ∷ []) end (stmt_text names marks (Choose' c shape body (Some' shape' other)) ++ rest) rest) (sym (two_blocks c shape body shape' other))
        (alternative_begins names marks end c (items-the_row-Stmt _ body) (items-the_row-Stmt _ other) l (cond_text names c) (row_text names marks body) (row_text names marks other) rest last refl
        (whole_guard_begins names vars end c (suc l) (codes " {" ++ (row_text names marks body ++ later)) fits.0 plain.0 (le_trans (le-max_left (cond_levels c) (both + 1)) deep) refl)
        (block_begins _ body l later fits.1 plain.1 shallow) (block_begins _ other l (codes " }" ++ rest) fits.2 plain.2 other_shallow))

    block_begins : (n : _) (row : Row_of-Stmt n) (l : ℕ) (rest : List ℕ) → BlockFits (vocabulary names marks) row → BlockIsPlain names marks row → block_levels row ≤ l
        → BeginsStmts names marks l (items-the_row-Stmt n row) end (row_text names marks row ++ rest) rest
    block_begins n end_of-Stmt l rest fits plain deep = no_more names marks end l rest
    block_begins n (more_of-Stmt s others) l rest fits plain deep =
        spaced names marks end (s ∷ items-the_row-Stmt _ others) l ((stmt_text names marks s ++ row_text names marks others) ++ rest) rest
        (one_more names marks end s (items-the_row-Stmt _ others) l (stmt_text names marks s) (row_text names marks others) rest
        (stmt_begins s l (row_text names marks others ++ rest) fits.0 plain.0 (le_trans (le-max_left (stmt_levels s) (block_levels others)) deep))
        (block_begins _ others l rest fits.1 plain.1 (le_trans (le-max_right (stmt_levels s) (block_levels others)) deep)))

  all_tail : (P : Stmt → Type 0) (s : Stmt) (rest : List Stmt) → All P (s ∷ rest) → All P rest
  all_tail P s rest all = λ k d within. all (suc k) d (omega arith)

  stmts_begin : (stmts : List Stmt) (l : ℕ) (rest : List ℕ) → All (StmtFits (vocabulary names marks)) stmts → All (StmtIsPlain names marks) stmts → stmts_levels stmts ≤ l
      → BeginsStmts names marks l stmts end (stmts_text names marks stmts ++ rest) rest
  stmts_begin [] l rest fits plain deep = no_more names marks end l rest
  stmts_begin (s ∷ others) l rest fits plain deep =
      spaced names marks end (s ∷ others) l ((stmt_text names marks s ++ stmts_text names marks others) ++ rest) rest
      (one_more names marks end s others l (stmt_text names marks s) (stmts_text names marks others) rest
      (stmt_begins s l (stmts_text names marks others ++ rest) (fits 0 s (omega arith)) (plain 0 s (omega arith)) (le_trans (le-max_left (stmt_levels s) (stmts_levels others)) deep))
      (stmts_begin others l rest (all_tail (StmtFits (vocabulary names marks)) s others fits) (all_tail (StmtIsPlain names marks) s others plain) (le_trans (le-max_right (stmt_levels s) (stmts_levels others)) deep)))

  -- The first statement of a behaviour has no space before it.
  spaced_begins : (stmts : List Stmt) (l : ℕ) (rest : List ℕ) → All (StmtFits (vocabulary names marks)) stmts → All (StmtIsPlain names marks) stmts → stmts_levels stmts ≤ l
      → BeginsStmts names marks l stmts end (spaced_text names marks stmts ++ rest) rest
  spaced_begins [] l rest fits plain deep = no_more names marks end l rest
  spaced_begins (s ∷ others) l rest fits plain deep =
      one_more names marks end s others l (stmt_text names marks s) (stmts_text names marks others) rest
      (stmt_begins s l (stmts_text names marks others ++ rest) (fits 0 s (omega arith)) (plain 0 s (omega arith)) (le_trans (le-max_left (stmt_levels s) (stmts_levels others)) deep))
      (stmts_begin others l rest (all_tail (StmtFits (vocabulary names marks)) s others fits) (all_tail (StmtIsPlain names marks) s others plain) (le_trans (le-max_right (stmt_levels s) (stmts_levels others)) deep))

act_spelled_back : (names : Names) (marks : List (List ℕ)) (act : Act) → CanBeReadBack names marks act → SpellsAct names marks (act_text names marks act) act marks
act_spelled_back names marks act can =
    let text : List ℕ = act_text names marks act in
    let part = spaced_begins names marks (length text) can.vars can.objects can.signals can.marks' act.stmts 16 [] can.fits.0 can.plain can.shallow in
    let spelled : SpellsStmts names marks 16 part.us act.stmts marks = part.spelled [] [] nothing in
    record { short = can.short; spelled = record { spelled = subst (λ ts. SpellsStmts names marks 16 ts act.stmts marks) (sym (all_cut (length text) false text part.us part.same)) spelled; few = can.fits.1 } }

-- The text that is written spells the behaviour.
pub act_read_back : (names : Names) (marks : List (List ℕ)) (act : Act) (text : List ℕ) → text ≡ act_text names marks act → CanBeReadBack names marks act → SpellsAct names marks text act marks
act_read_back names marks act text is can = subst (λ t. SpellsAct names marks t act marks) (sym is) (act_spelled_back names marks act can)

-- What is written where there are no statements, and where there are some, is the behaviour's text.
pub none_written : (names : Names) (marks : List (List ℕ)) (act : Act) (stmts : List Stmt) (text : List ℕ) → stmts ≡ act.stmts → length stmts < 1 → text ≡ [] → text ≡ act_text names marks act
none_written names marks act stmts text is few none = none ∙ sym (ap (spaced_text names marks) (sym is ∙ none_left stmts few)) where
  none_left : (xs : List Stmt) → length xs < 1 → xs ≡ []
  none_left [] few = refl
  none_left (x ∷ xs) few = absurd (omega arith)

pub some_written : (names : Names) (marks : List (List ℕ)) (act : Act) (stmts rest : List Stmt) (s : Stmt) (old one two : List ℕ) → stmts ≡ act.stmts → 1 ≤ length stmts → s ≡ slice_index_or stmts 0 s
    → rest ≡ take (length stmts - 1) (drop 1 stmts) → old ≡ [] → one ≡ old ++ stmt_text names marks s → two ≡ one ++ stmts_text names marks rest → two ≡ act_text names marks act
some_written names marks act [] rest s old one two is some first others none begin more = absurd (omega arith)
some_written names marks act (x ∷ xs) rest s old one two is some first others none begin more =
    let front : one ≡ stmt_text names marks x = begin ∙ ap (λ t. t ++ stmt_text names marks s) none ∙ ap (stmt_text names marks) first in
    let len : length (x ∷ xs) - 1 ≡ length xs = omega arith in
    let back : rest ≡ xs = others ∙ ap (λ n. take n xs) len ∙ take-length xs in
    more ∙ ap (λ t. t ++ stmts_text names marks rest) front ∙ ap (λ r. stmt_text names marks x ++ stmts_text names marks r) back ∙ ap (spaced_text names marks) is
