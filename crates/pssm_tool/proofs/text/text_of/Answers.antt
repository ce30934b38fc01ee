use Rattle.std.proofs.Common.{List, sym, subst}
use Rattle.std.specs.List.{AllByRecursion}
use Rattle.pssm_semantics.specs.declared.entry.Entry.{Entry}
use Rattle.pssm_semantics.specs.declared.setting.Setting.{Setting}
use Rattle.pssm_semantics.specs.Forms.{IsRunEntry}
use Rattle.pssm_semantics.specs.Admissible.{IsAdmissibleIn}
use Rattle.pssm_journal.specs.Entries.{KeepsNames}
use Rattle.pssm_journal.specs.Naming.{IsWritten}
use Rattle.pssm_semantics.specs.Names.{NamesDiffer}
use Rattle.pssm_semantics.proofs.ProperSettings.{proper_names_differ}
use Rattle.pssm_tool.proofs.TextLaws.{names_kept, is_line, written_more}
use Rattle.pssm_tool.proofs.text.text_of.Goals as goal

pub put_entry-requires-clause-names : goal.put_entry-requires-clause-names
put_entry-requires-clause-names c =
    let J = c.entries-entry-items.result.now in
    let admissible = subst (λ (K : List Entry). IsAdmissibleIn c.args.system.now.setting K) (sym c.entries-entry-items.ensures.journal) c.entries-entry-items.ensures.admissible in
    subst (λ (s : Setting). KeepsNames s c.entry-item.result) (sym c.setting.ensures.setting)
    (names_kept c.args.system.now.setting J c.loop-entry.entry-index c.entry-item.result admissible c.loop-entry-test.true c.entry-item.is)

pub put_entry-requires-clause-differ : goal.put_entry-requires-clause-differ
put_entry-requires-clause-differ c = subst (λ (s : Setting). NamesDiffer s) (sym c.setting.ensures.setting) (proper_names_differ c.args.system.now.setting c.setting.ensures.well_formed.proper)

-- one line more
pub loop-entry-preserved : goal.loop-entry-preserved
loop-entry-preserved c =
    let J = c.entries-entry-items.result.now in
    let entries = subst (λ (K : List Entry). AllByRecursion IsRunEntry K) (sym c.entries-entry-items.ensures.journal) c.entries-entry-items.ensures.entries in
    let written = subst (λ (s : Setting). IsWritten s c.entry-item.result c.loop-entry.text.items c.put_entry.new.text.items) c.setting.ensures.setting c.in_ok-put_entry.ensures in
    written_more c.args.system.now.setting J c.loop-entry.entry-index c.entry-item.result written.line c.loop-entry.text.items c.put_entry.new.text.items
    c.loop-entry-test.true c.entry-item.is c.loop-entry.invariant written.writes
    (is_line c.args.system.now.setting J c.loop-entry.entry-index c.entry-item.result written.line c.requires entries c.loop-entry-test.true c.entry-item.is written.writes written.spelled)
    written.text
