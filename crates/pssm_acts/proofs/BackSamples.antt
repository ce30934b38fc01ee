-- What can be read back, and its canonical spelling: a behaviour with a send, a mark and an `if`, and a guard, though a variable that they do not name has a word of the language for its name.
use Rattle.std.proofs.Common.{◌≢◌, ℕ, pos, List, [], ◌∷◌, All, Some, None, refl, arith, codes}
use Rattle.std.proofs.lemmas.Fmt.{decimal_digit}
use Rattle.std.proofs.lemmas.List.Elements.{All-cons, All-nil}
use Rattle.std.proofs.lemmas.List.Kept.{AllPairs-cons}
use denote.Hole.Carrier.{hidden}
use Rattle.pssm_semantics.specs.declared.setting.Names.{Names}
use Rattle.pssm_semantics.specs.declared.tree.Act.{Act}
use Rattle.pssm_semantics.specs.declared.tree.Cond.{Cond}
use Rattle.pssm_semantics.specs.declared.tree.Cond.TheVariants.{Compare}
use Rattle.pssm_semantics.specs.declared.tree.Expr.TheVariants.{Num, Var}
use Rattle.pssm_semantics.specs.declared.tree.Rel.TheVariants.{Lt}
use Rattle.pssm_semantics.specs.declared.tree.Stmt.{Stmt, Send, Mark}
use Rattle.pssm_semantics.specs.declared.tree.Stmt.TheBlock.{shape-the_row-Stmt-0, hidden-the_row-Stmt-0}
use Rattle.pssm_semantics.specs.declared.tree.Stmt.TheViews as views
use Rattle.pssm_acts.specs.Canonical.{IsCanonicalCond, IsCanonicalAct}
use Rattle.pssm_semantics.specs.Fits.{ExprFits, StmtFits}
use Rattle.pssm_acts.specs.ReadBack.{AreNames, IsPlain, StmtIsPlain, GuardCanBeReadBack, CanBeReadBack}
use Rattle.pssm_spelling.specs.Spelling.{IsName}
use Rattle.pssm_acts.specs.Vocabularies.{vocabulary}

-- the variables `x` and `step`, the object `a`, and the signal `Go` with one parameter
abbrev pub sample_names : Names
sample_names = record { vars = codes "x" ∷ codes "step" ∷ []; objects = codes "a" ∷ []; signals = record { name = codes "Go"; count = 1 } ∷ [] }

abbrev pub sample_marks : List (List ℕ)
sample_marks = codes "m" ∷ []

-- `x < 1`
abbrev pub sample_guard : Cond
sample_guard = Compare Lt (Var 0) (Num (pos 1))

-- `send a.Go(x);`
abbrev pub sample_send : Stmt
sample_send = Send (Some (record { 0 = 0 })) (record { 0 = 0 }) (Var 0 ∷ [])

-- `mark m();`
abbrev pub sample_mark : Stmt
sample_mark = Mark (record { 0 = 0 }) []

-- `if x < 1 { mark m(); }`
abbrev pub sample_choice : Stmt
sample_choice = views.Choose sample_guard (sample_mark ∷ []) None

abbrev pub sample_act : Act
sample_act = record { stmts = sample_send ∷ sample_mark ∷ sample_choice ∷ [] }

single_name : (name : List ℕ) → IsName name → AreNames (name ∷ [])
single_name name is = record { each = All-cons IsName name [] is (All-nil IsName); differ = λ j k d before within. absurd (omega arith) }

vars_differ : AreNames (codes "x" ∷ codes "step" ∷ [])
vars_differ = record {
  each = All-cons IsName (codes "x") (codes "step" ∷ []) (record { spelled = refl; short = omega arith }) (single_name (codes "step") (record { spelled = refl; short = omega arith })).each;
  differ = AllPairs-cons (λ a b. a ≢ b) (codes "x") (codes "step" ∷ [])
      (All-cons (λ b. codes "x" ≢ b) (codes "step") [] (λ same. absurd cc) (All-nil (λ b. codes "x" ≢ b)))
      (single_name (codes "step") (record { spelled = refl; short = omega arith })).differ;
}

-- The guard can be read back.
pub guard_sample : GuardCanBeReadBack sample_names sample_guard
guard_sample = record { vars = vars_differ; fits = (omega arith, tt); plain = (refl, omega arith); short = rw (decimal_digit 1 (omega arith)) (omega arith); shallow = omega arith }

-- The behaviour can be read back.
pub act_sample : CanBeReadBack sample_names sample_marks sample_act
unfolding shape-the_row-Stmt-0 hidden-the_row-Stmt-0 hidden
act_sample =
    let Fits : Stmt → Type 0 = StmtFits (vocabulary sample_names sample_marks) in
    let Plain : Stmt → Type 0 = StmtIsPlain sample_names sample_marks in
    let none_fit : All (ExprFits 2) [] = All-nil (ExprFits 2) in
    let x_fits : All (ExprFits 2) (Var 0 ∷ []) = All-cons (ExprFits 2) (Var 0) [] (omega arith) none_fit in
    let none_plain : All (IsPlain sample_names) [] = All-nil (IsPlain sample_names) in
    let x_plain : All (IsPlain sample_names) (Var 0 ∷ []) = All-cons (IsPlain sample_names) (Var 0) [] refl none_plain in
    record {
      vars = vars_differ;
      objects = single_name (codes "a") (record { spelled = refl; short = omega arith });
      signals = single_name (codes "Go") (record { spelled = refl; short = omega arith });
      marks' = single_name (codes "m") (record { spelled = refl; short = omega arith });
      fits = (
        All-cons Fits sample_send (sample_mark ∷ sample_choice ∷ []) ((omega arith, omega arith, refl), x_fits)
            (All-cons Fits sample_mark (sample_choice ∷ []) (omega arith, omega arith, none_fit)
            (All-cons Fits sample_choice [] ((omega arith, tt), ((omega arith, omega arith, none_fit), tt), tt) (All-nil Fits))),
        omega arith,
      );
      plain =
          All-cons Plain sample_send (sample_mark ∷ sample_choice ∷ []) (refl, refl, x_plain)
          (All-cons Plain sample_mark (sample_choice ∷ []) (refl, none_plain)
          (All-cons Plain sample_choice [] ((refl, omega arith), ((refl, none_plain), tt), tt) (All-nil Plain)));
      short = rw (decimal_digit 1 (omega arith)) (omega arith);
      shallow = omega arith;
    }

-- These texts are in canonical spelling.
pub guard_text_sample : IsCanonicalCond sample_names (codes "x < 1")
guard_text_sample = record { cond = sample_guard; can = guard_sample; same = rw (decimal_digit 1 (omega arith)) refl }

pub act_text_sample : IsCanonicalAct sample_names (codes "send a.Go(x); mark m(); if x < 1 { mark m(); }")
unfolding shape-the_row-Stmt-0 hidden-the_row-Stmt-0 hidden
act_text_sample = record { marks = sample_marks; act = sample_act; can = act_sample; same = rw (decimal_digit 1 (omega arith)) refl }
