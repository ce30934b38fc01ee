use Rattle.pssm_flat.proofs.Lasts.{last_of-popped}
use Rattle.pssm_flat.proofs.rows.pop.Goals as goal

pub returns : goal.returns
returns g c = rw c.from_vec.ensures (last_of-popped c.args.row.now c.pop.new.self.items c.in_ok-last.last (cc (c.in_ok-last.ensures.items, c.taken_out-items.ensures.items)))
