-- The line of a transition, part by part.
use Rattle.std.proofs.Common.{◌≡◌, ℕ, List, Some, refl}
use Rattle.std.specs.Prelude.{codes}
use Rattle.pssm_model.specs.declared.elements.TransKind.{TransKind}
use Rattle.pssm_spelling.specs.SpellingReading.{stripped, index_taken}
use Rattle.pssm_flat.specs.inner.Lines.{end_taken, transition_of, transition_line_taken}

pub transition_steps : (bytes a b c d word : List ℕ) (number source target : ℕ) (kind : TransKind)
    → stripped (codes "transition t") bytes ≡ Some a → index_taken a ≡ Some (number, b) → end_taken b ≡ Some (source, c) → end_taken c ≡ Some (target, d) → stripped (codes " ") d ≡ Some word → transition_of word ≡ Some kind
    → transition_line_taken bytes ≡ Some (number, source, target, kind)
unfolding transition_line_taken
transition_steps bytes a b c d word number source target kind at_a at_b at_c at_d at_word at_kind = rw (at_a, at_b, at_c, at_d, at_word, at_kind) refl
