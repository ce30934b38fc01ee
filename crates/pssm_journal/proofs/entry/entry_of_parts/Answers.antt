use Rattle.std.proofs.Common.{◌≡◌, Some, sym, subst, ◌∙◌}
use Rattle.pssm_semantics.specs.declared.setting.Setting.{Setting}
use Rattle.pssm_journal.specs.Entries.{entry_named}
use Rattle.pssm_journal.proofs.EntryLaws.{breaks_names, outs_of_grammar}
use Rattle.pssm_journal.proofs.entry.entry_of_parts.Goals as goal

-- The entry does not keep the first rule.
pub returns-in-Some-clause-none : goal.returns-in-Some-clause-none
returns-in-Some-clause-none c = λ line is_line shown.
    let named = c.in_ok-entry.ensures line (outs_of_grammar line is_line) shown in
    let writes : entry_named c.args.setting.now line ≡ Some c.in-Some.entry = subst (λ (s : Setting). entry_named s line ≡ Some c.in-Some.entry) c.requires (sym named ∙ c.in-Some.is) in
    breaks_names c.args.setting.now line c.in-Some.entry c.kept.result writes c.kept.ensures.none
