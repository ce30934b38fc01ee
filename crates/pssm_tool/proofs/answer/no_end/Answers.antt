use Rattle.std.proofs.Common.{◌++◌, codes, append_assoc}
use Rattle.std.specs.Fmt.{decimal}
use Rattle.pssm_flat.specs.Text.{line}
use Rattle.pssm_tool.proofs.Regrouped.{regrouped}
use Rattle.pssm_tool.proofs.answer.no_end.Goals as goal

pub returns : goal.returns
returns c = regrouped c.format.result _ (line (codes "journal line " ++ decimal c.args.number ++ codes " no end")) c.format.ensures.ok (simp append_assoc)
