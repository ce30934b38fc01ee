-- What has been read of a path so far.
use Rattle.std.specs.Prelude.{◌≡◌, ℕ, List, [], ◌∷◌, ◌++◌, length, take, Option, IfSome}
use Rattle.pssm_base.specs.History.{History, Adds, reading}

-- the bytes read so far are a front of what the path holds, where that is told
abbrev pub IsRead : Option (List ℕ) → List ℕ → Type 0
IsRead content bytes = IfSome content (λ held. bytes ≡ take (length bytes) held)

-- n more bytes were read of the path, by one call behind those read so far
pub record ReadsMore (before after : History) (path old new : List ℕ) (n : ℕ) : Type 0 where
  pub piece : List ℕ
  pub many : length piece ≡ n
  pub joined : new ≡ old ++ piece
  pub added : Adds before after (reading path (length old) piece ∷ [])
