-- the owner of a region is there
use Rattle.std.proofs.Common.{◌≡◌, IfSome, length, subst, ◌<◌}
use Rattle.pssm_model.specs.declared.ids.VertexId.{VertexId}
use Rattle.pssm_object.proofs.QueueLists.{state_above_there}
use Rattle.pssm_object.proofs.queue.state_above.Goals as goal

pub returns-clause-within : goal.returns-clause-within
returns-clause-within c =
    let m = c.args.machine.now in
    let is = c.state_of.ensures in
    let at = c.region_owner.ensures in
    subst (λ x. IfSome x (λ (s : VertexId). s.0 < length m.vertices)) (let both : _ ≡ c.state_of.result = cc in both)
    (state_above_there m c.requires.shape c.args.r)
