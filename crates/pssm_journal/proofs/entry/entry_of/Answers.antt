use Rattle.std.proofs.Common.{sym, ◌∙◌}
use Rattle.pssm_journal.proofs.EntryLaws.{breaks_names}
use Rattle.pssm_journal.proofs.entry.entry_of.Goals as goal

pub returns-in-Some-clause-none : goal.returns-in-Some-clause-none
returns-in-Some-clause-none c = breaks_names c.args.setting.now c.args.line.now c.in-Some.entry c.kept.result (sym c.in_ok-entry.ensures ∙ c.in-Some.is) c.kept.ensures.none
