-- Brief entries: those of the most frequent kinds, without arguments and outputs, and of what fires one route of one start.
use Rattle.std.specs.Prelude.{[]}
use Rattle.pssm_semantics.specs.declared.entry.ObjectId.{ObjectId}
use Rattle.pssm_semantics.specs.declared.entry.Entry.{Entry}
use Rattle.pssm_semantics.specs.declared.entry.Entry.TheVariants as entries
use Rattle.pssm_lines.specs.Parts.{firing_of_one}
use Rattle.pssm_journal.specs.declared.brief.EntryAct.{EntryAct}
use Rattle.pssm_journal.specs.declared.brief.EntryAct.TheVariants.{Post, Take, Exit, Effect, Enter}
use Rattle.pssm_journal.specs.declared.brief.BriefEntry.{BriefEntry}

-- the entry that tells this of an object
abbrev pub entry_of_act : ObjectId → EntryAct → Entry
entry_of_act o (Post signal) = entries.Post o signal []
entry_of_act o (Take number start) = entries.Take o number (firing_of_one start)
entry_of_act o (Exit state) = entries.Exit o state []
entry_of_act o (Effect transition) = entries.Effect o transition []
entry_of_act o (Enter state) = entries.Enter o state []

-- the entry in full
abbrev pub brief_entry : BriefEntry → Entry
brief_entry e = entry_of_act e.object e.act
