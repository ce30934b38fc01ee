use Rattle.std.proofs.Common.{◌++◌, codes, append_assoc}
use Rattle.std.specs.Fmt.{decimal}
use Rattle.pssm_flat.specs.Text.{line}
use Rattle.pssm_tool.proofs.Regrouped.{regrouped}
use Rattle.pssm_tool.proofs.answer.counted_line.Goals as goal

pub returns : goal.returns
returns c =
    regrouped c.format.result _
    (line (codes "gen " ++ decimal c.args.number ++ codes " entries " ++ decimal c.args.entries ++ codes " takes " ++ decimal c.args.takes ++ codes " sha256 " ++ c.args.digits.now))
    c.format.ensures.ok (simp append_assoc)
