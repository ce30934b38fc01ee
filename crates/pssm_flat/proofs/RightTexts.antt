-- A behaviour and a guard that can be written wherever one may stand: `if true { }` and `true`.
use Rattle.std.proofs.Common.{◌≡◌, ℕ, suc, zero, ◌<◌, ◌≤◌, true, List, [], ◌∷◌, ◌++◌, length, ltb, Some, None, Ok, refl, sym, ap, subst, ◌∙◌, arith, lit≤}
use Rattle.std.specs.Prelude.{codes}
use denote.Hole.Carrier.{hidden}
use Rattle.std.specs.List.{list_all}
use Rattle.std.specs.Str.{IsAscii}
use Rattle.std.proofs.lemmas.Bool.{and_parts, ltb-true}
use Rattle.std.proofs.lemmas.Str.{IsUtf8-from_ascii}
use Rattle.pssm_model.specs.declared.ids.GuardId.{GuardId}
use Rattle.pssm_semantics.specs.declared.setting.Names.{Names}
use Rattle.pssm_semantics.specs.declared.setting.Program.{Program}
use Rattle.pssm_semantics.specs.declared.tree.Act.{Act}
use Rattle.pssm_semantics.specs.declared.tree.Cond.TheVariants.{True}
use Rattle.pssm_semantics.specs.declared.tree.Stmt.TheBlock.{shape-the_row-Stmt-0, hidden-the_row-Stmt-0}
use Rattle.pssm_semantics.specs.declared.tree.Stmt.TheViews as views
use Rattle.pssm_acts.specs.declared.token.Kind.TheVariants as kinds
use Rattle.pssm_acts.specs.ActText.{act_text}
use Rattle.pssm_acts.specs.ActGrammar.{SpellsAct, SpellsStmts, nothing, choice}
use Rattle.pssm_acts.specs.Grammar.{SpellsGuard, SpellsCond, Either, truth, lone_unit, lone_conjunction}
use Rattle.pssm_acts.specs.Tokens.{Token, cut, front, number_len, sign_front}
use Rattle.pssm_flat.specs.Flat.{is_inner, IsLineText, IsNextAct, IsNextGuard}
use Rattle.pssm_flat.specs.inner.Outlines.{Numbered, act_put_in, with_act, with_guard}
use Rattle.pssm_flat.proofs.NumberLaws.{act_again, guard_again}

ascii : (bs : List ℕ) → list_all (λ b. ltb b 128) bs ≡ true → IsAscii bs
ascii [] all zero = omega arith
ascii [] all (suc i) = omega arith
ascii (c ∷ cs) all zero = ltb-true c 128 (and_parts (ltb c 128) (list_all (λ b. ltb b 128) cs) all).0
ascii (c ∷ cs) all (suc i) = ascii cs (and_parts (ltb c 128) (list_all (λ b. ltb b 128) cs) all).1 i

pub line_text_is : (text : List ℕ) → list_all (λ b. ltb b 128) text ≡ true → list_all is_inner text ≡ true → IsLineText text
line_text_is text low inner = record { utf8 = IsUtf8-from_ascii text (ascii text low); inner = inner }

abbrev right_act : Act
right_act = record { stmts = views.Choose True [] None ∷ [] }

abbrev pub right_text : List ℕ
right_text = codes "if true { }"

right_written : (names : Names) (marks : List (List ℕ)) → act_text names marks right_act ≡ right_text
unfolding shape-the_row-Stmt-0 hidden-the_row-Stmt-0 hidden
right_written names marks = refl

abbrev token_if : Token
token_if = record { at = 0; kind = kinds.If; word = codes "if" }

abbrev token_true : Token
token_true = record { at = 3; kind = kinds.True; word = codes "true" }

abbrev token_open : Token
token_open = record { at = 8; kind = kinds.OpenBrace; word = codes "{" }

abbrev token_close : Token
token_close = record { at = 10; kind = kinds.CloseBrace; word = codes "}" }

spelled_true : (names : Names) (l at : ℕ) → SpellsGuard names Either l (record { at = at; kind = kinds.True; word = codes "true" } ∷ []) True
spelled_true names l at = lone_conjunction (lone_unit (truth refl))

right_spelled : (names : Names) (marks : List (List ℕ)) → SpellsAct names marks right_text right_act marks
unfolding cut front number_len sign_front shape-the_row-Stmt-0 hidden-the_row-Stmt-0 hidden
right_spelled names marks =
    let stmts : SpellsStmts names marks 16 (token_if ∷ token_true ∷ token_open ∷ token_close ∷ []) right_act.stmts marks =
    choice {ts = []} {cs = token_true ∷ []} {us = []} token_if token_open token_close nothing refl (spelled_true names 16 3) refl nothing refl in
    record { short = lit≤ tt; spelled = record { spelled = stmts; few = lit≤ tt } }

-- It is numbered next, where there is room.
pub right_taken : (names : Names) (p : Program) → length p.acts < 32768 → length p.marks ≤ 32768 → (y : Numbered) × (with_act names p right_text ≡ Ok (Some y))
right_taken names p room few =
    let y = act_put_in p right_act p.marks in
    let next : IsNextAct names p y.0 y.1 = record {
      act = right_act;
      marks = p.marks;
      some = λ none. absurd cc;
      spelled = subst (λ t. SpellsAct names p.marks t right_act p.marks) (sym (right_written names p.marks)) (right_spelled names p.marks);
      line = subst IsLineText (sym (right_written names p.marks)) (line_text_is right_text refl refl);
      number = refl;
      behind_is = refl;
      few_acts = room;
      few_marks = few;
    } in
    (y, ap (with_act names p) (sym (right_written names p.marks)) ∙ act_again names p y.0 y.1 next)

abbrev pub right_cond : List ℕ
right_cond = codes "true"

cond_spelled : (names : Names) → SpellsCond names right_cond True
unfolding cut front number_len sign_front
cond_spelled names = record { short = lit≤ tt; spelled = spelled_true names 16 0 }

pub right_guard : (names : Names) (p : Program) → length p.guards < 65536 → (y : GuardId × Program) × (with_guard names p right_cond ≡ Ok (Some y))
right_guard names p room =
    let g : GuardId = record { 0 = length p.guards } in
    let q : Program = record { acts = p.acts; guards = p.guards ++ True ∷ []; marks = p.marks } in
    let next : IsNextGuard names p g.0 q = record { cond = True; spelled = cond_spelled names; line = line_text_is right_cond refl refl; number_is = refl; behind_is = refl; few = room } in
    ((g, q), guard_again names p g q next)
