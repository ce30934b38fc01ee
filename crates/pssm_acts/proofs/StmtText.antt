-- How statements and arguments are spelled, one by one, by what code sees of a tree.
use Rattle.std.proofs.Common.{◌≡◌, ℕ, ◌+◌, ◌<◌, ◌++◌, List, [], ◌∷◌, length, take, slice_index_or, Option, Some, None, refl, sym, ap, ◌∙◌, append_assoc, append-nil, codes}
use Rattle.std.proofs.lemmas.List.{take_more}
use denote.Hole.Carrier.{hidden}
use Rattle.pssm_semantics.specs.declared.setting.Names.{Names}
use Rattle.pssm_semantics.specs.declared.tree.Cond.{Cond}
use Rattle.pssm_semantics.specs.declared.tree.Expr.{Expr}
use Rattle.pssm_semantics.specs.declared.tree.Stmt.{Stmt}
use Rattle.pssm_semantics.specs.declared.tree.Stmt.TheViews as views
use Rattle.pssm_semantics.specs.declared.tree.Stmt.TheBlock.{shape-the_row-Stmt-0, hidden-the_row-Stmt-0}
use Rattle.pssm_acts.specs.ActText.{expr_text, cond_text, further_text, block_text, stmt_text, row_text, stmts_text}

-- What is written of a block is what is written of its statements.
pub rows : (names : Names) (marks : List (List ℕ)) (body : List Stmt) → row_text names marks (hidden-the_row-Stmt-0 body) ≡ stmts_text names marks body
unfolding shape-the_row-Stmt-0 hidden-the_row-Stmt-0 hidden
rows names marks [] = refl
rows names marks (s ∷ rest) = ap (λ t. codes " " ++ stmt_text names marks s ++ t) (rows names marks rest)

three_written : (old one two three a b c : List ℕ) → one ≡ old ++ a → two ≡ one ++ b → three ≡ two ++ c → three ≡ old ++ (a ++ b ++ c)
three_written old one two three a b c first second third = rw (third, second, first) (simp append_assoc)

-- What was written of an `if` with one block is its text.
pub Choose-written : (names : Names) (marks : List (List ℕ)) (old one two three : List ℕ) (s : Stmt) (c : Cond) (body p : List Stmt) (o : Option (List Stmt))
    → s ≡ views.Choose c body o → o ≡ None → p ≡ body
    → one ≡ old ++ codes "if " → two ≡ one ++ cond_text names c → three ≡ two ++ block_text (codes " {") (stmts_text names marks p)
    → three ≡ old ++ stmt_text names marks s
Choose-written names marks old one two three s c body p o is other first begin test inner =
    let front : List ℕ → List ℕ = λ t. codes "if " ++ cond_text names c ++ block_text (codes " {") t in
    let text : stmt_text names marks s ≡ front (stmts_text names marks p) =
    ap (stmt_text names marks) (is ∙ ap (λ x. views.Choose c body x) other)
    ∙ append-nil (front (row_text names marks (hidden-the_row-Stmt-0 body)))
    ∙ ap front (rows names marks body ∙ ap (stmts_text names marks) (sym first)) in
    three_written old one two three _ _ _ begin test inner ∙ ap (λ t. old ++ t) (sym text)

-- So it is with two.
pub Choose_else-written : (names : Names) (marks : List (List ℕ)) (old one two three four : List ℕ) (s : Stmt) (c : Cond) (body rest p q : List Stmt)
    (o : Option (List Stmt)) → s ≡ views.Choose c body o → o ≡ Some rest → p ≡ body → q ≡ rest
    → one ≡ old ++ codes "if " → two ≡ one ++ cond_text names c → three ≡ two ++ block_text (codes " {") (stmts_text names marks p)
    → four ≡ three ++ block_text (codes " else {") (stmts_text names marks q) → four ≡ old ++ stmt_text names marks s
Choose_else-written names marks old one two three four s c body rest p q o is other first second begin test inner last =
    let front : List ℕ → List ℕ = λ t. codes "if " ++ cond_text names c ++ block_text (codes " {") t in
    let text : stmt_text names marks s ≡ front (stmts_text names marks p) ++ block_text (codes " else {") (stmts_text names marks q) =
    ap (stmt_text names marks) (is ∙ ap (λ x. views.Choose c body x) other)
    ∙ ap (λ t. front t ++ block_text (codes " else {") (row_text names marks (hidden-the_row-Stmt-0 rest))) (rows names marks body ∙ ap (stmts_text names marks) (sym first))
    ∙ ap (λ t. front (stmts_text names marks p) ++ block_text (codes " else {") t) (rows names marks rest ∙ ap (stmts_text names marks) (sym second)) in
    last
    ∙ ap (λ t. t ++ block_text (codes " else {") (stmts_text names marks q)) (three_written old one two three _ _ _ begin test inner)
    ∙ append_assoc old (front (stmts_text names marks p)) (block_text (codes " else {") (stmts_text names marks q))
    ∙ ap (λ t. old ++ t) (sym text)

pub stmts_text-append : (names : Names) (marks : List (List ℕ)) (stmts : List Stmt) (s : Stmt)
    → stmts_text names marks (stmts ++ s ∷ []) ≡ stmts_text names marks stmts ++ (codes " " ++ stmt_text names marks s)
stmts_text-append names marks [] s = append-nil (codes " " ++ stmt_text names marks s)
stmts_text-append names marks (x ∷ rest) s =
    ap (λ t. codes " " ++ stmt_text names marks x ++ t) (stmts_text-append names marks rest s)
    ∙ sym (append_assoc (codes " " ++ stmt_text names marks x) (stmts_text names marks rest) (codes " " ++ stmt_text names marks s))

-- One statement more is written.
pub stmt-written : (names : Names) (marks : List (List ℕ)) (old so_far spaced now : List ℕ) (stmts : List Stmt) (k : ℕ) (s : Stmt) → k < length stmts
    → s ≡ slice_index_or stmts k s → so_far ≡ old ++ stmts_text names marks (take k stmts) → spaced ≡ so_far ++ codes " " → now ≡ spaced ++ stmt_text names marks s
    → now ≡ old ++ stmts_text names marks (take (k + 1) stmts)
stmt-written names marks old so_far spaced now stmts k s h is before space last =
    let all : stmts_text names marks (take (k + 1) stmts) ≡ stmts_text names marks (take k stmts) ++ (codes " " ++ stmt_text names marks s) =
    ap (stmts_text names marks) (take_more stmts k s h)
    ∙ ap (λ x. stmts_text names marks (take k stmts ++ x ∷ [])) (sym is)
    ∙ stmts_text-append names marks (take k stmts) s in
    rw (last, space, before, all) (simp append_assoc)

further_text-append : (names : Names) (args : List Expr) (e : Expr) → further_text names (args ++ e ∷ []) ≡ further_text names args ++ (codes ", " ++ expr_text names e)
further_text-append names [] e = append-nil (codes ", " ++ expr_text names e)
further_text-append names (x ∷ rest) e =
    ap (λ t. codes ", " ++ expr_text names x ++ t) (further_text-append names rest e)
    ∙ sym (append_assoc (codes ", " ++ expr_text names x) (further_text names rest) (codes ", " ++ expr_text names e))

-- One expression more is written.
pub expr-written : (names : Names) (old so_far spaced now : List ℕ) (args : List Expr) (k : ℕ) (e : Expr) → k < length args → e ≡ slice_index_or args k e
    → so_far ≡ old ++ further_text names (take k args) → spaced ≡ so_far ++ codes ", " → now ≡ spaced ++ expr_text names e
    → now ≡ old ++ further_text names (take (k + 1) args)
expr-written names old so_far spaced now args k e h is before comma last =
    let all : further_text names (take (k + 1) args) ≡ further_text names (take k args) ++ (codes ", " ++ expr_text names e) =
    ap (further_text names) (take_more args k e h) ∙ ap (λ x. further_text names (take k args ++ x ∷ [])) (sym is) ∙ further_text-append names (take k args) e in
    rw (last, comma, before, all) (simp append_assoc)
