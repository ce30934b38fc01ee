use Rattle.std.proofs.Common.{◌≡◌, ◌∙◌, ◌++◌, ◌∷◌, [], List, ℕ, true, false, not, sym, ap, subst}
use Rattle.std.proofs.lemmas.Result.{IfOk-weaker}
use Rattle.pssm_numbering.proofs.ListLaws.{by_test}
use Rattle.pssm_limits.specs.inner.Variables.{AreNames, name_of, belongs, with_taken}
use Rattle.pssm_limits.proofs.NameLaws.{names_passed, names_taken}
use Rattle.pssm_limits.proofs.names.with_next.Goals as goal

pub returns-then-not-belongs-clause-names : goal.returns-then-not-belongs-clause-names
returns-then-not-belongs-clause-names c =
    let is = c.if-not-belongs.true in
    let out : belongs c.args.file.now c.args.marks.now c.args.c c.args.n ≡ false =
    by_test (belongs c.args.file.now c.args.marks.now c.args.c c.args.n)
    (λ here. let r = c.belongs.ensures ∙ here in let n = ap not r in absurd (cc))
    (λ none. none) in
    λ seen h. names_passed (name_of c.args.file.now) (belongs c.args.file.now c.args.marks.now c.args.c) seen c.args.found.items c.args.n h out

pub returns-clause-names : goal.returns-clause-names
returns-clause-names c =
    let is = c.if-not-belongs.false in
    let here : belongs c.args.file.now c.args.marks.now c.args.c c.args.n ≡ true =
    by_test (belongs c.args.file.now c.args.marks.now c.args.c c.args.n)
    (λ one. one)
    (λ none. let r = c.belongs.ensures ∙ none in let n = ap not r in absurd (cc)) in
    IfOk-weaker c.with_name.result
    (λ more. more.items ≡ with_taken (name_of c.args.file.now) c.args.found.items c.args.n)
    (λ more. (seen : List ℕ) → AreNames (name_of c.args.file.now) (belongs c.args.file.now c.args.marks.now c.args.c) seen c.args.found.items
    → AreNames (name_of c.args.file.now) (belongs c.args.file.now c.args.marks.now c.args.c) (seen ++ c.args.n ∷ []) more.items)
    (λ more e seen h. subst (AreNames (name_of c.args.file.now) (belongs c.args.file.now c.args.marks.now c.args.c) (seen ++ c.args.n ∷ [])) (sym e)
    (names_taken (name_of c.args.file.now) (belongs c.args.file.now c.args.marks.now c.args.c) seen c.args.found.items c.args.n h here))
    c.with_name.ensures.names
