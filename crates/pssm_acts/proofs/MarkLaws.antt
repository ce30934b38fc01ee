-- Marks that are noted behind others leave them their numbers.
use Rattle.std.proofs.Common.{◌≡◌, ◌≤◌, ◌<◌, ℕ, List, [], ◌∷◌, length, Option, Some, None, refl, arith, position, bytes_eq, length-append}
use Rattle.std.proofs.lemmas.List.Quantifiers.{position-Some}
use Rattle.pssm_semantics.specs.declared.setting.Names.{Names}
use Rattle.pssm_semantics.specs.declared.tree.Stmt.{Stmt}
use Rattle.pssm_semantics.specs.declared.tree.Act.{Act}
use Rattle.pssm_acts.specs.ActGrammar.{SpellsPhrase, assignment, sending, bare_mark, marking, SpellsStmts, nothing, phrase, choice, alternative, SpellsBehaviours, first, step}
use Rattle.pssm_acts.specs.Marks.{number_or, mark_number, grown, with_mark}
use Rattle.pssm_acts.specs.Tokens.{Token}

pub marks_grow : (marks : List (List ℕ)) (name : List ℕ) → length marks ≤ length (with_mark marks name)
marks_grow marks name = go (position (λ m. bytes_eq m name) marks) where
  go : (found : Option ℕ) → length marks ≤ length (grown found marks name)
  go (Some k) = omega arith
  go None = omega (arith, length-append marks (name ∷ []))

-- A mark that is named is one of those that are then noted.
pub mark_noted : (marks : List (List ℕ)) (name : List ℕ) → mark_number marks name < length (with_mark marks name)
mark_noted marks name = go (position (λ m. bytes_eq m name) marks) refl where
  go : (found : Option ℕ) → position (λ m. bytes_eq m name) marks ≡ found → number_or found (length marks) < length (grown found marks name)
  go (Some k) e = (position-Some (λ m. bytes_eq m name) marks k [] e).0
  go None e = omega (arith, length-append marks (name ∷ []))

pub phrase_grows : {names : Names} {marks noted : List (List ℕ)} {l : ℕ} {ts : List Token} {s : Stmt} → SpellsPhrase names marks l ts s noted → length marks ≤ length noted
phrase_grows (assignment semicolon is found assigns spelled ends) = omega arith
phrase_grows (sending semicolon is receives dots named found spelled few ends) = omega arith
phrase_grows {names} {marks} (bare_mark {l} {mark} {name} is named ends) = marks_grow marks name.word
phrase_grows {names} {marks} (marking {l} {mark} {name} semicolon is named spelled few ends) = marks_grow marks name.word

pub stmts_grow : {names : Names} {marks noted : List (List ℕ)} {l : ℕ} {ts : List Token} {block : List Stmt} → SpellsStmts names marks l ts block noted → length marks ≤ length noted
stmts_grow nothing = omega arith
stmts_grow (phrase before spelled) = omega (arith, stmts_grow before, phrase_grows spelled)
stmts_grow (choice if' opening closing before is guard opens inner closes) = omega (arith, stmts_grow before, stmts_grow inner)
stmts_grow (alternative if' opening closing else' opening' closing' before is guard opens inner closes otherwise opens' last closes') = omega (arith, stmts_grow before, stmts_grow inner, stmts_grow last)

pub behaviours_grow : {names : Names} {marks noted : List (List ℕ)} {ts : List Token} {acts : List Act} → SpellsBehaviours names marks ts acts noted → length marks ≤ length noted
behaviours_grow (first spelled) = stmts_grow spelled.spelled
behaviours_grow (step step' semicolon before is ends spelled) = omega (arith, behaviours_grow before, stmts_grow spelled.spelled)
