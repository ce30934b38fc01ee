-- What tokens spell with some marks, they spell with any others but for the numbers of marks, and both are written alike.
use Rattle.std.proofs.Common.{◌≡◌, ◌<◌, ℕ, List, [], ◌∷◌, ◌++◌, length, drop, Option, Some, None, refl, sym, ap, ◌∙◌, arith, codes, position, bytes_eq, length-append}
use Rattle.std.proofs.Math.Seq.{get_or-append_seam}
use Rattle.std.proofs.lemmas.List.{get_or-take}
use Rattle.std.proofs.lemmas.List.Quantifiers.{position-Some}
use Rattle.std.proofs.lemmas.Slice.Eq.{bytes_eq-Decides}
use Rattle.pssm_semantics.specs.declared.setting.Names.{Names}
use Rattle.pssm_semantics.specs.declared.tree.Act.{Act}
use Rattle.pssm_semantics.specs.declared.tree.Cond.{Cond}
use Rattle.pssm_semantics.specs.declared.tree.Expr.{Expr}
use Rattle.pssm_semantics.specs.declared.tree.Stmt.{Stmt, Assign, Send, Mark}
use Rattle.pssm_semantics.specs.declared.tree.Stmt.TheViews as views
use Rattle.pssm_semantics.specs.declared.tree.Stmt.TheBlock.{hidden-the_row-Stmt-0}
use Rattle.pssm_acts.specs.ActGrammar.{SpellsPhrase, assignment, sending, bare_mark, marking, SpellsStmts, nothing, phrase, choice, alternative, SpellsAct}
use Rattle.pssm_acts.specs.ActText.{name_at, cond_text, args_text, mark_text, block_text, stmt_text, row_text, stmts_text, spaced_text, act_text}
use Rattle.pssm_semantics.specs.Fits.{stmt_count, stmts_count}
use Rattle.pssm_acts.specs.Marks.{number_or, mark_number, mark_of, grown, with_mark, KeepsMarks}
use Rattle.pssm_acts.specs.Tokens.{Token}
use Rattle.pssm_acts.proofs.ActTextLaws.{kept_on}
use Rattle.pssm_acts.proofs.AnswerLaws.{same_kept, mark_kept}
use Rattle.pssm_acts.proofs.BlockCounts.{stmts_more, choice_count, alternative_count}
use Rattle.pssm_acts.proofs.Renumbered.{stmt_renumbered, stmts_renumbered, one_more_renumbered, one_block_renumbered, two_blocks_renumbered}
use Rattle.pssm_acts.proofs.StmtText.{rows, stmts_text-append}

-- ---- marks that were there stay

name_kept : (marks more : List (List ℕ)) (k : ℕ) → k < length marks → KeepsMarks marks more → name_at more k ≡ name_at marks k
name_kept marks more k within kept = sym (get_or-take (length marks) more k [] within) ∙ ap (λ names. name_at names k) kept

-- A mark that has been named keeps its name.
mark_named : (marks more : List (List ℕ)) (word : List ℕ) → KeepsMarks (with_mark marks word) more → name_at more (mark_number marks word) ≡ word
mark_named marks more word kept = go (position (λ m. bytes_eq m word) marks) refl kept where
  go : (found : Option ℕ) → position (λ m. bytes_eq m word) marks ≡ found → KeepsMarks (grown found marks word) more → name_at more (number_or found (length marks)) ≡ word
  go (Some k) e kept =
      let at = position-Some (λ m. bytes_eq m word) marks k [] e in
      name_kept marks more k at.0 kept ∙ (bytes_eq-Decides (name_at marks k) word).0 at.1
  go None e kept = name_kept (marks ++ word ∷ []) more (length marks) (omega (arith, length-append marks (word ∷ []))) kept ∙ get_or-append_seam marks word [] []

phrase_keeps : {names : Names} {marks noted : List (List ℕ)} {l : ℕ} {ts : List Token} {s : Stmt} → SpellsPhrase names marks l ts s noted → KeepsMarks marks noted
phrase_keeps {names} {marks} (assignment semicolon is found becomes spelled ends) = same_kept marks marks refl
phrase_keeps {names} {marks} (sending semicolon is receives dots named found spelled few ends) = same_kept marks marks refl
phrase_keeps {names} {marks} (bare_mark {l} {mark} {name} is named ends) = mark_kept marks (with_mark marks name.word) name.word refl
phrase_keeps {names} {marks} (marking {l} {mark} {name} semicolon is named spelled few ends) = mark_kept marks (with_mark marks name.word) name.word refl

-- Behind statements the marks stand that stood before them.
pub stmts_keep : {names : Names} {marks noted : List (List ℕ)} {l : ℕ} {ts : List Token} {block : List Stmt} → SpellsStmts names marks l ts block noted → KeepsMarks marks noted
stmts_keep (nothing {marks} {l}) = same_kept marks marks refl
stmts_keep (phrase {l} {ts} {us} {block} {s} {marks} {noted} {more} before spelled) = kept_on marks noted more (stmts_keep before) (phrase_keeps spelled)
stmts_keep (choice {l} {ts} {cs} {us} if' opening closing {block} {body} {c} {marks} {noted} {more} before is guard opens inner closes) = kept_on marks noted more (stmts_keep before) (stmts_keep inner)
stmts_keep (alternative {l} {ts} {cs} {us} {vs} if' opening closing else' opening' closing' {block} {body} {otherwise} {c} {marks} {noted} {more} {last} before is guard opens inner closes is' opens' rest closes') =
    kept_on marks noted last (stmts_keep before) (kept_on noted more last (stmts_keep inner) (stmts_keep rest))

-- ---- what is written alike

mark_again : (names : Names) (marks more other further : List (List ℕ)) (word : List ℕ) (args : List Expr) → KeepsMarks (with_mark marks word) more → KeepsMarks (with_mark other word) further
    → mark_text names further (mark_of other word) args ≡ mark_text names more (mark_of marks word) args
mark_again names marks more other further word args first second =
    ap (λ name. codes "mark " ++ name ++ codes "(" ++ args_text names args ++ codes ");") (mark_named other further word second ∙ sym (mark_named marks more word first))

mark_renumbered : (marks more other : List (List ℕ)) (word : List ℕ) (args : List Expr) → KeepsMarks (with_mark marks word) more
    → stmt_renumbered more other (Mark (mark_of marks word) args) ≡ (Mark (mark_of other word) args, with_mark other word)
mark_renumbered marks more other word args kept = ap (λ (name : List ℕ). (Mark (mark_of other name) args, with_mark other name)) (mark_named marks more word kept)

one_block_again : (names : Names) (more further : List (List ℕ)) (c : Cond) (read body : List Stmt) → stmts_text names further read ≡ stmts_text names more body
    → stmt_text names further (views.Choose c read None) ≡ stmt_text names more (views.Choose c body None)
one_block_again names more further c read body same =
    ap (λ text. codes "if " ++ cond_text names c ++ block_text (codes " {") text ++ []) (rows names further read ∙ same ∙ sym (rows names more body))

two_blocks_again : (names : Names) (more further : List (List ℕ)) (c : Cond) (read body other rest : List Stmt) → stmts_text names further read ≡ stmts_text names more body → stmts_text names further other ≡ stmts_text names more rest
    → stmt_text names further (views.Choose c read (Some other)) ≡ stmt_text names more (views.Choose c body (Some rest))
two_blocks_again names more further c read body other rest first second =
    let before : List ℕ = codes "if " ++ cond_text names c in
    ap (λ text. before ++ block_text (codes " {") text ++ block_text (codes " else {") (row_text names further (hidden-the_row-Stmt-0 other))) (rows names further read ∙ first ∙ sym (rows names more body))
    ∙ ap (λ text. before ++ block_text (codes " {") (row_text names more (hidden-the_row-Stmt-0 body)) ++ block_text (codes " else {") text) (rows names further other ∙ second ∙ sym (rows names more rest))

one_more_again : (names : Names) (more further : List (List ℕ)) (read block : List Stmt) (r s : Stmt) → stmts_text names further read ≡ stmts_text names more block → stmt_text names further r ≡ stmt_text names more s
    → stmts_text names further (read ++ r ∷ []) ≡ stmts_text names more (block ++ s ∷ [])
one_more_again names more further read block r s first second =
    stmts_text-append names further read r ∙ ap (λ text. text ++ (codes " " ++ stmt_text names further r)) first
    ∙ ap (λ text. stmts_text names more block ++ (codes " " ++ text)) second ∙ sym (stmts_text-append names more block s)

unspaced : (names : Names) (marks : List (List ℕ)) (stmts : List Stmt) → drop 1 (stmts_text names marks stmts) ≡ spaced_text names marks stmts
unspaced names marks [] = refl
unspaced names marks (s ∷ rest) = refl

-- ---- what is spelled with other marks

-- The tokens spell a statement with other marks, which is the first one but for the numbers of its marks; with any marks that are noted later it is written as that one.
record PhraseAgain (names : Names) (l : ℕ) (ts : List Token) (s : Stmt) (noted other : List (List ℕ)) : Type 0 where
  read : Stmt
  left : List (List ℕ)
  spelled : SpellsPhrase names other l ts read left
  counted : stmt_count read ≡ stmt_count s
  written : (more further : List (List ℕ)) → KeepsMarks noted more → KeepsMarks left further → stmt_text names further read ≡ stmt_text names more s
  numbered : (more : List (List ℕ)) → KeepsMarks noted more → stmt_renumbered more other s ≡ (read, left)

phrase_again : {names : Names} {marks noted : List (List ℕ)} {l : ℕ} {ts : List Token} {s : Stmt} → SpellsPhrase names marks l ts s noted → (other : List (List ℕ)) → PhraseAgain names l ts s noted other
phrase_again (assignment {l} {variable} {becomes} semicolon {ts} {x} {e} is found assigns spelled ends) other =
    record { read = Assign x e; left = other; spelled = assignment semicolon is found assigns spelled ends; counted = refl; written = λ more further first second. refl; numbered = λ more kept. refl }
phrase_again (sending {l} {send} {receiver} {dot} {name} semicolon {ts} {to} {signal} {args} is receives dots named found spelled few ends) other =
    record { read = Send to signal args; left = other; spelled = sending semicolon is receives dots named found spelled few ends; counted = refl; written = λ more further first second. refl; numbered = λ more kept. refl }
phrase_again {names} {marks} (bare_mark {l} {mark} {name} is named ends) other = record {
  read = Mark (mark_of other name.word) [];
  left = with_mark other name.word;
  spelled = bare_mark is named ends;
  counted = refl;
  written = λ more further first second. mark_again names marks more other further name.word [] first second;
  numbered = λ more kept. mark_renumbered marks more other name.word [] kept;
}
phrase_again {names} {marks} (marking {l} {mark} {name} semicolon {ts} {args} is named spelled few ends) other = record {
  read = Mark (mark_of other name.word) args;
  left = with_mark other name.word;
  spelled = marking semicolon is named spelled few ends;
  counted = refl;
  written = λ more further first second. mark_again names marks more other further name.word args first second;
  numbered = λ more kept. mark_renumbered marks more other name.word args kept;
}

-- The same of several statements.
record StmtsAgain (names : Names) (l : ℕ) (ts : List Token) (block : List Stmt) (noted other : List (List ℕ)) : Type 0 where
  read : List Stmt
  left : List (List ℕ)
  spelled : SpellsStmts names other l ts read left
  counted : stmts_count read ≡ stmts_count block
  written : (more further : List (List ℕ)) → KeepsMarks noted more → KeepsMarks left further → stmts_text names further read ≡ stmts_text names more block
  numbered : (more : List (List ℕ)) → KeepsMarks noted more → stmts_renumbered more other block ≡ (read, left)

stmts_again : {names : Names} {marks noted : List (List ℕ)} {l : ℕ} {ts : List Token} {block : List Stmt} → SpellsStmts names marks l ts block noted → (other : List (List ℕ)) → StmtsAgain names l ts block noted other
stmts_again nothing other = record { read = []; left = other; spelled = nothing; counted = refl; written = λ more further first second. refl; numbered = λ more kept. refl }
stmts_again {names} (phrase {l} {ts} {us} {block} {s} {marks} {noted} {more = last} before spelled) other =
    let front : StmtsAgain names l ts block noted other = stmts_again before other in
    let part : PhraseAgain names l us s last front.left = phrase_again spelled front.left in
    record {
      read = front.read ++ part.read ∷ [];
      left = part.left;
      spelled = phrase front.spelled part.spelled;
      counted = omega (arith, stmts_more front.read part.read, stmts_more block s, front.counted, part.counted);
      written = λ more further first second.
          one_more_again names more further front.read block part.read s
          (front.written more further (kept_on noted last more (phrase_keeps spelled) first) (kept_on front.left part.left further (phrase_keeps part.spelled) second)) (part.written more further first second);
      numbered = λ more kept. one_more_renumbered more other block s front.read front.left part.read part.left (front.numbered more (kept_on noted last more (phrase_keeps spelled) kept)) (part.numbered more kept);
    }
stmts_again {names} (choice {l} {ts} {cs} {us} if' opening closing {block} {body} {c} {marks} {noted} {more = last} before is guard opens inner closes) other =
    let front = stmts_again before other in
    let part = stmts_again inner front.left in
    let s : Stmt = views.Choose c body None in
    let r : Stmt = views.Choose c part.read None in
    record {
      read = front.read ++ r ∷ [];
      left = part.left;
      spelled = choice if' opening closing front.spelled is guard opens part.spelled closes;
      counted = omega (arith, stmts_more front.read r, stmts_more block s, front.counted, part.counted, choice_count c part.read, choice_count c body);
      written = λ more further first second.
          one_more_again names more further front.read block r s
          (front.written more further (kept_on noted last more (stmts_keep inner) first) (kept_on front.left part.left further (stmts_keep part.spelled) second))
          (one_block_again names more further c part.read body (part.written more further first second));
      numbered = λ more kept.
          one_more_renumbered more other block s front.read front.left r part.left (front.numbered more (kept_on noted last more (stmts_keep inner) kept))
          (one_block_renumbered more front.left c body part.read part.left (part.numbered more kept));
    }
stmts_again {names} (alternative {l} {ts} {cs} {us} {vs} if' opening closing else' opening' closing' {block} {body} {otherwise = rest} {c} {marks} {noted} {more = middle} {last} before is guard opens inner closes is' opens' others closes') other =
    let front = stmts_again before other in
    let part = stmts_again inner front.left in
    let back = stmts_again others part.left in
    let s : Stmt = views.Choose c body (Some rest) in
    let r : Stmt = views.Choose c part.read (Some back.read) in
    record {
      read = front.read ++ r ∷ [];
      left = back.left;
      spelled = alternative if' opening closing else' opening' closing' front.spelled is guard opens part.spelled closes is' opens' back.spelled closes';
      counted = omega (arith, stmts_more front.read r, stmts_more block s, front.counted, part.counted, back.counted, alternative_count c part.read back.read, alternative_count c body rest);
      written = λ more further first second.
          let kept = kept_on middle last more (stmts_keep others) first in
          let kept' = kept_on part.left back.left further (stmts_keep back.spelled) second in
          one_more_again names more further front.read block r s
          (front.written more further (kept_on noted middle more (stmts_keep inner) kept) (kept_on front.left part.left further (stmts_keep part.spelled) kept'))
          (two_blocks_again names more further c part.read body back.read rest (part.written more further kept kept') (back.written more further first second));
      numbered = λ more kept.
          let kept' = kept_on middle last more (stmts_keep others) kept in
          one_more_renumbered more other block s front.read front.left r back.left (front.numbered more (kept_on noted middle more (stmts_keep inner) kept'))
          (two_blocks_renumbered more front.left c body rest part.read back.read part.left back.left (part.numbered more kept') (back.numbered more kept));
    }

-- The same of a text.
pub record ActAgain (names : Names) (text : List ℕ) (act : Act) (noted other : List (List ℕ)) : Type 0 where
  pub read : Act
  pub left : List (List ℕ)
  pub spelled : SpellsAct names other text read left
  pub written : (more further : List (List ℕ)) → KeepsMarks noted more → KeepsMarks left further → act_text names further read ≡ act_text names more act
  pub numbered : (more : List (List ℕ)) → KeepsMarks noted more → stmts_renumbered more other act.stmts ≡ (read.stmts, left)

-- A text that spells a behaviour with some marks spells one with any others, and both are written alike.
pub act_again : (names : Names) (marks : List (List ℕ)) (text : List ℕ) (act : Act) (noted : List (List ℕ)) → SpellsAct names marks text act noted → (other : List (List ℕ)) → ActAgain names text act noted other
act_again names marks text act noted spells other =
    let again = stmts_again spells.spelled.spelled other in
    let read : Act = record { stmts = again.read } in
    record {
      read = read;
      left = again.left;
      spelled = record { short = spells.short; spelled = record { spelled = again.spelled; few = omega (arith, again.counted, spells.spelled.few) } };
      written = λ more further first second.
          sym (unspaced names further again.read) ∙ ap (λ t. drop 1 t) (again.written more further first second) ∙ unspaced names more act.stmts;
      numbered = again.numbered;
    }
