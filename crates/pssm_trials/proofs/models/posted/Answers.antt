-- the post keeps the first rule whatever was before, and so also where nothing was
use Rattle.std.proofs.Common.{[], subst}
use Rattle.pssm_semantics.specs.declared.entry.Entry.{Entry}
use Rattle.pssm_journal.specs.Entries.{KeepsNames}
use Rattle.pssm_trials.proofs.models.posted.Goals as goal

pub returns-in-Post : goal.returns-in-Post
returns-in-Post c = subst (λ (e : Entry). KeepsNames c.args.setting.now e) c.in-Post.is c.requires []
