-- the signal is the value of the slot
use Rattle.pssm_pool.proofs.Linking.{any-linked, slot-linked, stands}
use Rattle.pssm_pool.proofs.pools.Pools.at.Goals as goal

pub get-requires : goal.get-requires
get-requires c = any-linked c.self.inside.chains c.args.self.now c.self.view_is c.args.slot c.requires

pub returns : goal.returns
returns c = λ o k at.
    stands c.self.inside.chains c.args.self.now c.self.view_is o k c.get.result.now
    (c.get.ensures o.0 k (slot-linked c.self.inside.chains c.args.self.now c.self.view_is c.args.slot o k at))
