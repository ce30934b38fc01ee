use Rattle.pssm_lines.proofs.FrontLaws.{between_first}
use Rattle.pssm_lines.proofs.front.lost_at.Goals as goal

pub loop-high-init : goal.loop-high-init
loop-high-init c = between_first c.args.begun c.args.bytes.now c.requires.lost
