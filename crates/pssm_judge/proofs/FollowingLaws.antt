-- The entries of lines and of further lines.
use Rattle.std.proofs.Common.{List, [], ◌∷◌, ◌++◌}
use Rattle.pssm_semantics.specs.declared.entry.Entry.{Entry}
use Rattle.pssm_semantics.specs.declared.line.Line.{Line}
use Rattle.pssm_semantics.specs.declared.setting.Setting.{Setting}
use Rattle.pssm_journal.specs.Entries.{AreEntries}

-- entries of lines and of further lines
pub entries_append : (setting : Setting) (ls ks : List Line) (es ds : List Entry) → AreEntries setting ls es → AreEntries setting ks ds → AreEntries setting (ls ++ ks) (es ++ ds)
entries_append setting [] ks [] ds h k = k
entries_append setting [] ks (e ∷ es) ds h k = absurd h
entries_append setting (l ∷ ls) ks [] ds h k = absurd h
entries_append setting (l ∷ ls) ks (e ∷ es) ds h k = (h.0, entries_append setting ls ks es ds h.1 k)
