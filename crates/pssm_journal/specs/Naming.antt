-- The settings and entries for which a line says neither more nor less than its entry.
use Rattle.std.specs.Prelude.{◌≡◌, ◌<◌, ◌≤◌, ℕ, List, [], ◌∷◌, ◌++◌, length}
use Rattle.std.specs.List.{AllByRecursion}
use Rattle.pssm_model.specs.declared.steps.Route.{Route}
use Rattle.pssm_model.specs.declared.steps.Firing.{Firing}
use Rattle.pssm_model.specs.declared.steps.How.TheVariants.{By, Restore, Nothing}
use Rattle.pssm_semantics.specs.declared.entry.Entry.{Entry}
use Rattle.pssm_semantics.specs.declared.entry.Entry.TheVariants.{Post, Start, Take, Done, Exit, Effect, Enter, Opened, Pick, DoStep}
use Rattle.pssm_semantics.specs.declared.line.Line.{Line}
use Rattle.pssm_semantics.specs.declared.setting.Setting.{Setting}
use Rattle.pssm_semantics.specs.Names.{HasSpelledNames}
use Rattle.pssm_lines.specs.LineText.{line_text}
use Rattle.pssm_lines.specs.Grammar.{IsLine}
use Rattle.pssm_journal.specs.Entries.{IsEntryOf}

-- The route starts somewhere.
abbrev pub HasStart : Route → Type 0
HasStart route = 0 < length route.starts

abbrev pub HaveStarts : Firing → Type 0
HaveStarts firing = AllByRecursion HasStart firing.routes

-- what the grammar of lines asks of an entry beside the spelling of names: a take has a number from 1, routes start somewhere, and there are at most 64 outputs (this profile's choice)
abbrev pub IsSpelledEntry : Entry → Type 0
IsSpelledEntry (Post o signal args) = Unit {0}
IsSpelledEntry (Start o) = Unit {0}
IsSpelledEntry (Take o number firing) = (0 < number) × HaveStarts firing
IsSpelledEntry (Done o state firing) = HaveStarts firing
IsSpelledEntry (Exit o state outs) = length outs ≤ 64
IsSpelledEntry (Effect o transition outs) = length outs ≤ 64
IsSpelledEntry (Enter o state outs) = length outs ≤ 64
IsSpelledEntry (Opened o region mode (By route)) = HasStart route
IsSpelledEntry (Opened o region mode (Restore state)) = Unit {0}
IsSpelledEntry (Opened o region mode Nothing) = Unit {0}
IsSpelledEntry (Pick o choice route) = HasStart route
IsSpelledEntry (DoStep o state step outs) = length outs ≤ 64

-- The text goes on with the line of the entry and its line feed; where names are spelled and the entry is within the limits of a line, this is a line of the grammar.
pub record IsWritten (setting : Setting) (e : Entry) (before after : List ℕ) : Type 0 where
  pub line : Line
  pub writes : IsEntryOf setting line e
  pub spelled : HasSpelledNames setting → IsSpelledEntry e → IsLine line
  pub text : after ≡ before ++ (line_text line ++ 10 ∷ [])
