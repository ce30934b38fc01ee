-- What tokens of a text spelled is read again from its spelling, by a reader that has the marks that were there before it was read.
use Rattle.std.proofs.Common.{◌≡◌, ◌≤◌, ℕ, List, [], map, length, sym, ◌∙◌, subst, refl}
use Rattle.pssm_semantics.specs.declared.setting.Names.{Names}
use Rattle.pssm_semantics.specs.declared.tree.Act.{Act}
use Rattle.pssm_semantics.specs.declared.tree.Cond.{Cond}
use Rattle.pssm_semantics.specs.declared.tree.Stmt.{Stmt}
use Rattle.pssm_semantics.specs.Fits.{ActFits}
use Rattle.pssm_acts.specs.ActGrammar.{SpellsBehaviour, SpellsAct}
use Rattle.pssm_acts.specs.ActText.{act_text, cond_text}
use Rattle.pssm_acts.specs.Grammar.{SpellsCond}
use Rattle.pssm_acts.specs.Marks.{KeepsMarks}
use Rattle.pssm_acts.specs.ReadBack.{AreNames, cond_levels, stmts_levels, CanBeReadBack}
use Rattle.pssm_acts.specs.Tokens.{Token}
use Rattle.pssm_acts.specs.Vocabularies.{vocabulary}
use Rattle.pssm_acts.proofs.AnswerLaws.{same_kept}
use Rattle.pssm_acts.proofs.BlockBack.{act_read_back}
use Rattle.pssm_acts.proofs.GuardBack.{guard_read_back}
use Rattle.pssm_acts.proofs.OtherMarks.{act_again}
use Rattle.pssm_acts.proofs.TokenLaws.{spelled_fits}
use Rattle.pssm_acts.proofs.Unchanged.{written_alike}
use Rattle.pssm_load.proofs.FreeNames.{FreeWords, tokens_free, guard_plain, stmts_plain, stmts_same}

-- Names of variables, objects and signals, no two alike of a kind.
pub record HaveNames (names : Names) : Type 0 where
  pub vars : AreNames names.vars
  pub objects : AreNames names.objects
  pub signals : AreNames (map (λ d. d.name) names.signals)

module _ (names : Names) (have : HaveNames names) where
  -- The behaviour is spelled again, as it is written with marks that are noted later.
  pub spelled_again : (marks : List (List ℕ)) (ts : List Token) (act : Act) (noted more : List (List ℕ)) → FreeWords ts
      → SpellsBehaviour names marks ts act noted → KeepsMarks noted more → AreNames more
      → ActFits (vocabulary names more) act → length (act_text names more act) ≤ 4096 → stmts_levels act.stmts ≤ 16
      → SpellsAct names marks (act_text names more act) act noted
  spelled_again marks ts act noted more free spells kept known fits short shallow =
      let can : CanBeReadBack names more act = record {
        vars = have.vars;
        objects = have.objects;
        signals = have.signals;
        marks' = known;
        fits = fits;
        plain = stmts_plain more spells.spelled free kept;
        short = short;
        shallow = shallow;
      } in
      let text = act_text names more act in
      let two = act_again names more text act more (act_read_back names more act text refl can) marks in
      let was : List Stmt × List (List ℕ) = (act.stmts, noted) in
      let same : (two.read.stmts, two.left) ≡ was = sym (two.numbered more (same_kept more more refl)) ∙ stmts_same more spells.spelled kept in
      subst (λ (pair : List Stmt × List (List ℕ)). SpellsAct names marks text (record { stmts = pair.0 }) pair.1) same two.spelled

  -- It is so as it is written with its own marks, and both are written alike.
  pub written_same : (marks : List (List ℕ)) (text : List ℕ) (act : Act) (noted more : List (List ℕ)) → SpellsAct names marks text act noted
      → KeepsMarks noted more → act_text names more act ≡ act_text names noted act
  written_same marks text act noted more spells kept = written_alike names marks marks text act act noted noted noted more spells spells (same_kept noted noted refl) kept

  -- So is a guard.
  pub guard_again : (text : List ℕ) (c : Cond) → SpellsCond names text c → length (cond_text names c) ≤ 4096 → cond_levels c ≤ 16
      → SpellsCond names (cond_text names c) c
  guard_again text c spells short shallow =
      guard_read_back names c [] (cond_text names c) refl refl (record {
        vars = have.vars;
        fits = spelled_fits names text c spells.spelled;
        plain = guard_plain spells.spelled (tokens_free text);
        short = short;
        shallow = shallow;
      })
