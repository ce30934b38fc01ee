-- The line that posts what a word spells, as it is read.
use Rattle.std.specs.Prelude.{ℕ, ℤ, List, [], ◌∷◌, ◌++◌, codes}
use Rattle.pssm_semantics.specs.declared.line.Line.TheVariants as lines
use Rattle.pssm_lines.specs.declared.parts.LineParts.{LineParts}
use Rattle.pssm_lines.specs.declared.parts.LineParts.TheVariants.{Post}
use Rattle.pssm_lines.specs.Parts.{Shows}
use Rattle.pssm_tool.specs.Words.{IsCall}

-- `post WORD` and a line feed
abbrev pub post_text : List ℕ → List ℕ
post_text word = (codes "post " ++ word) ++ 10 ∷ []

-- The parts are those of a post.
abbrev pub IsPost : LineParts → Type 0
IsPost (Post object signal args) = Unit {0}
IsPost _ = ⊥

-- The word is spelled as a stimulus, and the parts are those of the line that posts it.
pub record ShowsCall (word : List ℕ) (parts : LineParts) : Type 0 where
  pub object : List ℕ
  pub signal : List ℕ
  pub args : List ℤ
  pub call : IsCall word object signal args
  pub shows : Shows parts (lines.Post object signal args)
