-- the two links are written one after the other
use Rattle.pssm_links.proofs.Writing.{enclosed-set}
use Rattle.pssm_links.proofs.links.enclose.Goals as goal

pub returns : goal.returns
returns g c =
    enclosed-set c.args.slots.now c.args.before c.args.slot c.args.after c.index-slots-before.result c.index-slots-after.result c.requires.before
    c.requires.after c.requires.apart c.requires.last c.requires.prev c.requires.next
