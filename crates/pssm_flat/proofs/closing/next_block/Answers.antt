use Rattle.std.proofs.Common.{sym, ◌∙◌, ap}
use Rattle.pssm_flat.specs.inner.Outlines.{behind_blocks}
use Rattle.pssm_flat.proofs.Closings.{never_none}
use Rattle.pssm_flat.proofs.closing.next_block.Goals as goal

pub returns-in-None-clause-stuck : goal.returns-in-None-clause-stuck
returns-in-None-clause-stuck c =
    let read = c.in_ok-next.ensures in
    let row = c.in-Ok.ensures in
    absurd (never_none c.args.head c.args.done c.args.class c.args.line c.requires (ap (λ done. behind_blocks c.args.head done c.args.line) (sym row) ∙ sym read ∙ c.in-None.is))
