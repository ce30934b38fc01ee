use Rattle.std.proofs.Common.{◌≡◌, ◌+◌, length, sym, subst}
use Rattle.std.proofs.lemmas.Result.{IfOk-weaker}
use Rattle.pssm_semantics.specs.declared.line.Line.{Line}
use Rattle.pssm_semantics.specs.Pool.{posts_of_entry, outs_of}
use Rattle.pssm_journal.specs.Entries.{IsEntryOf}
use Rattle.pssm_journal.specs.Judged.{line_output_count}
use Rattle.pssm_journal.specs.inner.EntryLine.{line_of_entry}
use Rattle.pssm_journal.proofs.NamedLines.{line_writes}
use Rattle.pssm_journal.proofs.OutputCounts.{line_outputs}
use Rattle.pssm_journal.proofs.naming.line_of.Goals as goal

pub returns-clause-outputs : goal.returns-clause-outputs
returns-clause-outputs c =
    let setting = c.args.setting.now in
    let entry = c.args.entry.now in
    IfOk-weaker c.named_line.result (λ (line : Line). line ≡ line_of_entry setting entry) (λ line. line_output_count line ≡ length (posts_of_entry entry) + length (outs_of entry))
    (λ line same. line_outputs setting line entry (subst (λ (l : Line). IsEntryOf setting l entry) (sym same) (line_writes setting entry c.requires.differ c.requires.names)))
    c.named_line.ensures
