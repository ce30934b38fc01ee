-- the two links are written one after the other
use Rattle.pssm_links.proofs.Writing.{joins-set}
use Rattle.pssm_links.proofs.links.join.Goals as goal

pub returns : goal.returns
returns g c =
    joins-set c.args.slots.now c.args.before c.args.after c.index-slots-before.result c.index-slots-after.result c.requires.before c.requires.after
