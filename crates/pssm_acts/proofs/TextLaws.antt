-- How a guard's text is read token after token: what each does to what is left.
use Rattle.std.proofs.Common.{◌≡◌, ◌≤◌, ◌+◌, ℕ, List, ◌∷◌, length, Ok, ap, ◌∙◌, arith}
use Rattle.pssm_semantics.specs.declared.setting.Names.{Names}
use Rattle.pssm_acts.specs.declared.guard_reader.GuardReader.{GuardReader}
use Rattle.pssm_acts.specs.declared.tokens.Tokens.{Tokens}
use Rattle.pssm_acts.specs.inner.TextLeft.{IsShort, left}
use Rattle.pssm_acts.specs.Tokens.{Token, tokens_of}
use Rattle.pssm_acts.specs.inner.GuardReading.{fresh_guard, guard_step, guard_read, guard_value, nots_waiting, text_reading}
use Rattle.pssm_acts.proofs.CutLaws.{left_few}
use Rattle.pssm_acts.proofs.NotsLaws.{nots_more}
use Rattle.pssm_acts.proofs.Readers.{taken}

-- The reader has come so far: what it makes of the tokens that are left is what the text is read as.
pub record IsReadTo (names : Names) (text : List ℕ) (reader : GuardReader) (tokens : Tokens) : Type 0 where
  pub same : guard_read names (length text) reader (left tokens) ≡ text_reading names text
  pub nots : nots_waiting reader + length (left tokens) ≤ 4096
  pub short : IsShort tokens

pub start : (names : Names) (text : List ℕ) (reader : GuardReader) (tokens : Tokens) → reader ≡ fresh_guard → left tokens ≡ tokens_of text → IsShort tokens → IsReadTo names text reader tokens
start names text reader tokens fresh all short = record {
  same = ap (λ r. guard_read names (length text) r (left tokens)) fresh ∙ ap (λ ts. guard_read names (length text) fresh_guard ts) all;
  nots = let none = ap nots_waiting fresh in let few = left_few tokens short in omega (arith, none, few);
  short = short;
}

-- one token more
pub token_passed : (names : Names) (text : List ℕ) (reader next : GuardReader) (tokens more : Tokens) (t : Token) → left tokens ≡ t ∷ left more → IsShort more → IsReadTo names text reader tokens → guard_step names 16 reader t ≡ Ok next
    → IsReadTo names text next more
token_passed names text reader next tokens more t first short was step = record {
  same = taken (guard_step names 16) (λ r. guard_value r (length text)) (text_reading names text) reader next t (left more) (left tokens) first was.same step;
  nots = let one = nots_more names 16 reader next t step in let count = ap length first in omega (arith, was.nots, one, count);
  short = short;
}
