-- What is left of a text that is being read.
use Rattle.std.specs.Prelude.{◌≤◌, List, length}
use Rattle.pssm_acts.specs.declared.tokens.Tokens.{Tokens}
use Rattle.pssm_acts.specs.Tokens.{Token, cut}

-- the tokens that are left
abbrev pub left : Tokens → List Token
left tokens = cut (length tokens.text.now) tokens.after_operand 0 tokens.rest.now

-- The text has at most 4,096 bytes, and no more are left of it.
abbrev pub IsShort : Tokens → Type 0
IsShort tokens = (length tokens.text.now ≤ 4096) × (length tokens.rest.now ≤ length tokens.text.now)
