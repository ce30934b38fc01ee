-- What a run is owed.
use Rattle.std.specs.Prelude.{ℕ, List, ◌≡◌, ◌≢◌, ◌+◌, ◌==◌, count_by}
use Rattle.pssm_rows.specs.declared.owed.Owed.{Owed}
use Rattle.pssm_rows.specs.declared.owed.Owed.TheVariants.{Bytes, Entries, Before, Unlike}
use Rattle.pssm_rows.specs.declared.owed.Answer.{Answer}

-- a text is the first line of a journal and so many others: each ends with a line feed
abbrev pub HasEntries : List ℕ → ℕ → Type 0
HasEntries text entries = count_by (λ byte. byte == 10) text ≡ entries + 1

-- a text is what is owed, behind a run that wrote `before`
abbrev pub MeetsText : Owed → List ℕ → List ℕ → Type 0
MeetsText (Bytes bytes) written before = written ≡ bytes.items
MeetsText (Entries entries) written before = HasEntries written entries
MeetsText Before written before = written ≡ before
MeetsText Unlike written before = written ≢ before

-- a status and a text are the answer that is owed
abbrev pub Meets : Answer → ℕ → List ℕ → List ℕ → Type 0
Meets answer code written before = (answer.code ≡ code) × MeetsText answer.text written before
