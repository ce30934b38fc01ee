-- Brief lines: what is read of one stands at the front.
use Rattle.std.proofs.Common.{◌≡◌, ℕ, List, [], ◌++◌, Some, refl, ap, ◌∙◌, append_assoc, arith}
use Rattle.std.specs.Prelude.{codes}
use Rattle.pssm_model.specs.declared.ids.TransId.{TransId}
use Rattle.pssm_semantics.specs.declared.line.Line.TheVariants as lines
use Rattle.pssm_spelling.specs.SpellingReading.{stripped}
use Rattle.pssm_spelling.proofs.SpellingLaws.{stripped_takes}
use Rattle.pssm_lines.specs.LineText.{firing_text}
use Rattle.pssm_lines.specs.Parts.{firing_of_one}
use Rattle.pssm_lines.specs.inner.Lines.{StandsAt}
use Rattle.pssm_lines.specs.inner.LineReading.{vertex, transition, called_taken, place_taken, turn_taken, firing_taken}
use Rattle.pssm_lines.proofs.Readers.{got}
use Rattle.pssm_lines.proofs.PieceLaws.{called_text, called_reads}
use Rattle.pssm_lines.proofs.RouteLaws.{place_text, place_reads, turn_text, turn_reads, firing_reads}

pub brief_post : (bytes called object signal end rest : List ℕ) → stripped (codes "post ") bytes ≡ Some called → called_taken called ≡ got (object, signal) end → stripped (codes "()\n") end ≡ Some rest
    → StandsAt bytes (lines.Post object signal []) rest
brief_post bytes called object signal end rest word read close =
    let c = called_reads.takes called (object, signal) end read in (
      (c.1.0, c.1.1, (omega arith, tt)),
      stripped_takes (codes "post ") bytes called word ∙ ap (λ (t : List ℕ). codes "post " ++ t) (c.0 ∙ ap (λ (t : List ℕ). called_text (object, signal) ++ t) (stripped_takes (codes "()\n") end rest close)) ∙ simp append_assoc,
    )

pub brief_take : (bytes turn object space fires end rest : List ℕ) (number : ℕ) (start : TransId) → stripped (codes "take ") bytes ≡ Some turn → turn_taken turn ≡ got (object, number) space → stripped (codes " ") space ≡ Some fires
    → firing_taken fires ≡ got (firing_of_one start) end → stripped (codes "\n") end ≡ Some rest → StandsAt bytes (lines.Take object number (firing_of_one start)) rest
brief_take bytes turn object space fires end rest number start word read blank fired feed =
    let t = turn_reads.takes turn (object, number) space read in
    let f = firing_reads.takes fires (firing_of_one start) end fired in (
      (t.1.0, t.1.1, t.1.2, f.1),
      stripped_takes (codes "take ") bytes turn word
          ∙ ap (λ (x : List ℕ). codes "take " ++ x) (t.0 ∙ ap (λ (x : List ℕ). turn_text (object, number) ++ x) (stripped_takes (codes " ") space fires blank
          ∙ ap (λ (x : List ℕ). codes " " ++ x) (f.0 ∙ ap (λ (x : List ℕ). firing_text (firing_of_one start) ++ x) (stripped_takes (codes "\n") end rest feed))))
          ∙ simp append_assoc,
    )

pub brief_exit : (bytes place object end rest : List ℕ) (n : ℕ) → stripped (codes "exit ") bytes ≡ Some place → place_taken (codes " v") place ≡ got (object, n) end → stripped (codes "\n") end ≡ Some rest
    → StandsAt bytes (lines.Exit object (vertex n) []) rest
brief_exit bytes place object end rest n word read feed =
    let p = (place_reads (codes " v") (λ more. refl)).takes place (object, n) end read in (
      (p.1.0, p.1.1, (omega arith, tt)),
      stripped_takes (codes "exit ") bytes place word ∙ ap (λ (t : List ℕ). codes "exit " ++ t) (p.0 ∙ ap (λ (t : List ℕ). place_text (codes " v") (object, n) ++ t) (stripped_takes (codes "\n") end rest feed)) ∙ simp append_assoc,
    )

pub brief_effect : (bytes place object end rest : List ℕ) (n : ℕ) → stripped (codes "effect ") bytes ≡ Some place → place_taken (codes " t") place ≡ got (object, n) end → stripped (codes "\n") end ≡ Some rest
    → StandsAt bytes (lines.Effect object (transition n) []) rest
brief_effect bytes place object end rest n word read feed =
    let p = (place_reads (codes " t") (λ more. refl)).takes place (object, n) end read in (
      (p.1.0, p.1.1, (omega arith, tt)),
      stripped_takes (codes "effect ") bytes place word ∙ ap (λ (t : List ℕ). codes "effect " ++ t) (p.0 ∙ ap (λ (t : List ℕ). place_text (codes " t") (object, n) ++ t) (stripped_takes (codes "\n") end rest feed)) ∙ simp append_assoc,
    )

pub brief_enter : (bytes place object end rest : List ℕ) (n : ℕ) → stripped (codes "enter ") bytes ≡ Some place → place_taken (codes " v") place ≡ got (object, n) end → stripped (codes "\n") end ≡ Some rest
    → StandsAt bytes (lines.Enter object (vertex n) []) rest
brief_enter bytes place object end rest n word read feed =
    let p = (place_reads (codes " v") (λ more. refl)).takes place (object, n) end read in (
      (p.1.0, p.1.1, (omega arith, tt)),
      stripped_takes (codes "enter ") bytes place word ∙ ap (λ (t : List ℕ). codes "enter " ++ t) (p.0 ∙ ap (λ (t : List ℕ). place_text (codes " v") (object, n) ++ t) (stripped_takes (codes "\n") end rest feed)) ∙ simp append_assoc,
    )
