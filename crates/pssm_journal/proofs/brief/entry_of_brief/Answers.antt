use Rattle.std.proofs.Common.{None, sym}
use Rattle.pssm_lines.specs.Parts.{brief_line}
use Rattle.pssm_journal.specs.Briefs.{brief_entry}
use Rattle.pssm_journal.proofs.EntryLaws.{breaks_names}
use Rattle.pssm_journal.proofs.brief.entry_of_brief.Goals as goal

pub returns-then-keeps_names-clause-keeps : goal.returns-then-keeps_names-clause-keeps
returns-then-keeps_names-clause-keeps c = c.keeps_names.ensures.0 c.if-keeps_names.true

pub returns-else-keeps_names-clause-none : goal.returns-else-keeps_names-clause-none
returns-else-keeps_names-clause-none c =
    breaks_names c.args.setting.now (brief_line c.args.parts) (brief_entry c.in_ok-entry.entry) None (sym c.in_ok-entry.ensures) (λ keeps. let met = c.keeps_names.ensures.1 keeps in absurd cc)
