use Rattle.std.proofs.Common.{◌++◌, codes, append_assoc}
use Rattle.std.specs.Fmt.{decimal}
use Rattle.pssm_tool.proofs.Regrouped.{regrouped}
use Rattle.pssm_tool.proofs.refusal.act_line.Goals as goal

pub returns : goal.returns
returns c =
    regrouped c.format.result _ (codes "flat line " ++ decimal c.args.line ++ codes " act " ++ c.args.fault.now ++ codes " byte " ++ decimal c.args.byte ++ codes "\n") c.format.ensures.ok
    (simp append_assoc)
