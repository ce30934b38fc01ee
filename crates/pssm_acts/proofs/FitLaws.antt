-- The numbers in behaviours that a text spells are in range.
use Rattle.std.proofs.Common.{◌≤◌, ℕ, false, List, [], ◌∷◌, ◌++◌, length, All, Option, Some, None, arith, bytes_eq}
use Rattle.std.proofs.lemmas.List.Elements.{All-nil, All-head, All-tail, All-push}
use Rattle.std.proofs.lemmas.List.Quantifiers.{position-Some}
use denote.Hole.Carrier.{hidden}
use Rattle.pssm_semantics.specs.declared.entry.ObjectId.{ObjectId}
use Rattle.pssm_semantics.specs.declared.setting.Names.{Names}
use Rattle.pssm_semantics.specs.declared.setting.SignalDecl.{SignalDecl}
use Rattle.pssm_semantics.specs.declared.tree.Act.{Act}
use Rattle.pssm_semantics.specs.declared.tree.Cond.{Cond}
use Rattle.pssm_semantics.specs.declared.tree.Expr.{Expr}
use Rattle.pssm_semantics.specs.declared.tree.Stmt.{Stmt}
use Rattle.pssm_semantics.specs.declared.tree.Stmt.TheViews as stmts
use Rattle.pssm_semantics.specs.declared.tree.Stmt.TheBlock.{shape-the_row-Stmt-0, hidden-the_row-Stmt-0}
use Rattle.pssm_acts.specs.ActGrammar.{SpellsList, one, further, SpellsArguments, none, some, NamesReceiver, object, running, SpellsPhrase, assignment, sending, bare_mark, marking, SpellsStmts, nothing, phrase, choice, alternative, SpellsBehaviour, SpellsBehaviours, first, step}
use Rattle.pssm_semantics.specs.Fits.{Vocabulary, ExprFits, CondFits, StmtFits, BlockFits, ActFits}
use Rattle.pssm_acts.specs.Tokens.{Token, tokens_of}
use Rattle.pssm_acts.specs.Vocabularies.{IsReceiver, vocabulary}
use Rattle.pssm_acts.proofs.TokenLaws.{AreInRange, cut_in_range, range_parts, expr_fits, guard_fits}
use Rattle.pssm_acts.proofs.MarkLaws.{mark_noted, phrase_grows, stmts_grow}

block_fits : (v : Vocabulary) (body : List Stmt) → All (StmtFits v) body → BlockFits v (hidden-the_row-Stmt-0 body)
unfolding shape-the_row-Stmt-0 hidden-the_row-Stmt-0 hidden
block_fits v [] all = tt
block_fits v (s ∷ rest) all = (All-head (StmtFits v) s rest all, block_fits v rest (All-tail (StmtFits v) s rest all))

choice_fits : (v : Vocabulary) (c : Cond) (body : List Stmt) → CondFits v.vars c → All (StmtFits v) body → StmtFits v (stmts.Choose c body None)
choice_fits v c body cond all = (cond, block_fits v body all, tt)

alternative_fits : (v : Vocabulary) (c : Cond) (body rest : List Stmt) → CondFits v.vars c → All (StmtFits v) body → All (StmtFits v) rest → StmtFits v (stmts.Choose c body (Some rest))
alternative_fits v c body rest cond all others = (cond, block_fits v body all, block_fits v rest others)

list_fits : {names : Names} {l : ℕ} {ts : List Token} {es : List Expr} → SpellsList names l ts es → AreInRange ts → All (ExprFits (length names.vars)) es
list_fits {names} (one {l} {ts} {e} spelled) h = All-push (ExprFits (length names.vars)) [] e (All-nil (ExprFits (length names.vars))) (expr_fits spelled h)
list_fits {names} (further {l} comma {ts} {us} {es} {e} before is spelled) h =
    let parts = range_parts ts (comma ∷ us) h in All-push (ExprFits (length names.vars)) es e (list_fits before parts.0) (expr_fits spelled parts.1.1)

arguments_fit : {names : Names} {l : ℕ} {ts : List Token} {es : List Expr} → SpellsArguments names l ts es → AreInRange ts → All (ExprFits (length names.vars)) es
arguments_fit {names} (none opens closes) h = All-nil (ExprFits (length names.vars))
arguments_fit (some {l} {opening} closing {ts} {es} opens spelled closes) h = list_fits spelled (range_parts ts (closing ∷ []) h.1).0

receiver_fits : {names : Names} {t : Token} {to : Option ObjectId} → NamesReceiver names t to → IsReceiver names to
receiver_fits {names} {t} (object {o} is found) = (position-Some (λ name. bytes_eq name t.word) names.objects o.0 [] found).0
receiver_fits (running is) = tt

phrase_fits : {names : Names} {marks noted : List (List ℕ)} {l : ℕ} {ts : List Token} {s : Stmt} (more : List (List ℕ)) → SpellsPhrase names marks l ts s noted → AreInRange ts → length noted ≤ length more → StmtFits (vocabulary names more) s
phrase_fits {names} more (assignment {l} {variable} {becomes} semicolon {ts} {x} {e} is found assigns spelled ends) h wide =
    ((position-Some (λ name. bytes_eq name variable.word) names.vars x [] found).0, expr_fits spelled (range_parts ts (semicolon ∷ []) h.1.1).0)
phrase_fits {names} more (sending {l} {send} {receiver} {dot} {name} semicolon {ts} {to} {signal} {args} is receives dots named found spelled few ends) h wide =
    let nobody : SignalDecl = record { name = []; count = 0 } in
    let place = position-Some (λ d. bytes_eq d.name name.word) names.signals signal.0 nobody found in
    ((receiver_fits receives, place.0, few), arguments_fit spelled (range_parts ts (semicolon ∷ []) h.1.1.1.1).0)
phrase_fits {names} {marks} more (bare_mark {l} {mark} {name} is named ends) h wide =
    (omega (arith, mark_noted marks name.word, wide), omega arith, All-nil (ExprFits (length names.vars)))
phrase_fits {names} {marks} more (marking {l} {mark} {name} semicolon {ts} {args} is named spelled few ends) h wide =
    (omega (arith, mark_noted marks name.word, wide), few, arguments_fit spelled (range_parts ts (semicolon ∷ []) h.1.1).0)

stmts_fit : {names : Names} {marks noted : List (List ℕ)} {l : ℕ} {ts : List Token} {block : List Stmt} (last : List (List ℕ)) → SpellsStmts names marks l ts block noted → AreInRange ts → length noted ≤ length last
    → All (StmtFits (vocabulary names last)) block
stmts_fit {names} last nothing h wide = All-nil (StmtFits (vocabulary names last))
stmts_fit {names} last (phrase {l} {ts} {us} {block} {s} before spelled) h wide =
    let parts = range_parts ts us h in
    All-push (StmtFits (vocabulary names last)) block s (stmts_fit last before parts.0 (omega (arith, wide, phrase_grows spelled))) (phrase_fits last spelled parts.1 wide)
stmts_fit {names} last (choice {l} {ts} {cs} {us} if' opening closing {block} {body} {c} before is guard opens inner closes) h wide =
    let v = vocabulary names last in
    let parts = range_parts ts (if' ∷ (cs ++ opening ∷ (us ++ closing ∷ []))) h in
    let condition = range_parts cs (opening ∷ (us ++ closing ∷ [])) parts.1.1 in
    let block' = range_parts us (closing ∷ []) condition.1.1 in
    let fits = choice_fits v c body (guard_fits guard condition.0) (stmts_fit last inner block'.0 wide) in
    All-push (StmtFits v) block (stmts.Choose c body None) (stmts_fit last before parts.0 (omega (arith, wide, stmts_grow inner))) fits
stmts_fit {names} last (alternative {l} {ts} {cs} {us} {vs} if' opening closing else' opening' closing' {block} {body} {otherwise} {c} before is guard opens inner closes is' opens' rest closes') h wide =
    let v = vocabulary names last in
    let behind = else' ∷ opening' ∷ (vs ++ closing' ∷ []) in
    let parts = range_parts ts (if' ∷ (cs ++ opening ∷ (us ++ closing ∷ behind))) h in
    let condition = range_parts cs (opening ∷ (us ++ closing ∷ behind)) parts.1.1 in
    let first' = range_parts us (closing ∷ behind) condition.1.1 in
    let second = range_parts vs (closing' ∷ []) first'.1.1.1.1 in
    let grows = stmts_grow rest in
    let fits = alternative_fits v c body otherwise (guard_fits guard condition.0) (stmts_fit last inner first'.0 (omega (arith, wide, grows))) (stmts_fit last rest second.0 wide) in
    All-push (StmtFits v) block (stmts.Choose c body (Some otherwise)) (stmts_fit last before parts.0 (omega (arith, wide, grows, stmts_grow inner))) fits

behaviour_fits : {names : Names} {marks noted : List (List ℕ)} {ts : List Token} {act : Act} (last : List (List ℕ)) → SpellsBehaviour names marks ts act noted → AreInRange ts → length noted ≤ length last → ActFits (vocabulary names last) act
behaviour_fits last spelled h wide = (stmts_fit last spelled.spelled h wide, spelled.few)

behaviours_fit : {names : Names} {marks noted : List (List ℕ)} {ts : List Token} {acts : List Act} (last : List (List ℕ)) → SpellsBehaviours names marks ts acts noted → AreInRange ts → length noted ≤ length last
    → All (ActFits (vocabulary names last)) acts
behaviours_fit {names} last (first {ts} {act} spelled) h wide = All-push (ActFits (vocabulary names last)) [] act (All-nil (ActFits (vocabulary names last))) (behaviour_fits last spelled h wide)
behaviours_fit {names} last (step {ts} {us} step' semicolon {acts} {act} before is ends spelled) h wide =
    let parts = range_parts ts (step' ∷ semicolon ∷ us) h in
    let few = behaviours_fit last before parts.0 (omega (arith, wide, stmts_grow spelled.spelled)) in
    All-push (ActFits (vocabulary names last)) acts act few (behaviour_fits last spelled parts.1.1.1 wide)

-- The numbers in a behaviour that a text spells are in range, and those in steps.
pub spelled_act_fits : (names : Names) (marks : List (List ℕ)) (text : List ℕ) (act : Act) (noted : List (List ℕ)) → SpellsBehaviour names marks (tokens_of text) act noted → ActFits (vocabulary names noted) act
spelled_act_fits names marks text act noted spelled = behaviour_fits noted spelled (cut_in_range (length text) false 0 text) (omega arith)

pub spelled_acts_fit : (names : Names) (marks : List (List ℕ)) (text : List ℕ) (acts : List Act) (noted : List (List ℕ)) → SpellsBehaviours names marks (tokens_of text) acts noted → All (ActFits (vocabulary names noted)) acts
spelled_acts_fit names marks text acts noted spelled = behaviours_fit noted spelled (cut_in_range (length text) false 0 text) (omega arith)
