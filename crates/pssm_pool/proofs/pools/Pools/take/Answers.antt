-- the value of the slot has left its list, and no front has signals any more
use Rattle.std.proofs.Common.{length, sym, ap, ◌∙◌, subst}
use Rattle.std.specs.List.{remove}
use Rattle.std.proofs.lemmas.List.{length-set}
use Rattle.pssm_links.specs.Chained.{list_of}
use Rattle.pssm_pool.proofs.Fronts.{fronts-empty}
use Rattle.pssm_pool.proofs.Linking.{any-linked, slot-linked, stands, left-is}
use Rattle.pssm_pool.proofs.pools.Pools.take.Goals as goal

pub unlink-requires : goal.unlink-requires
unlink-requires c = any-linked c.self.inside.chains c.args.self.now c.self.view_is c.args.slot c.requires

pub invariant_of-self : goal.invariant_of-self
invariant_of-self c =
    let lists = c.self.inside.chains.lists in
    let at = any-linked c.self.inside.chains c.args.self.now c.self.view_is c.args.slot c.requires in
    let same = sym (ap length (c.unlink.ensures.lists at.0 at.1 at.2) ∙ length-set lists at.0 (remove (list_of lists at.0) at.1)) in (
      c.self.invariant.0 ∙ same,
      fronts-empty c.unlink.new.chains.lists _ (c.clear_all.ensures.count ∙ c.self.invariant.1.count ∙ same) c.clear_all.ensures.empty,
    )

pub returns-clause-taken : goal.returns-clause-taken
returns-clause-taken c = λ o k at.
    stands c.self.inside.chains c.args.self.now c.self.view_is o k c.unlink.result
    (c.unlink.ensures.taken o.0 k (slot-linked c.self.inside.chains c.args.self.now c.self.view_is c.args.slot o k at))

pub returns-clause-waiting : goal.returns-clause-waiting
returns-clause-waiting c = λ o k at.
    left-is c.self.inside.chains c.args.self.now c.self.view_is c.unlink.new.chains.lists o k
    (c.unlink.ensures.lists o.0 k (slot-linked c.self.inside.chains c.args.self.now c.self.view_is c.args.slot o k at))
