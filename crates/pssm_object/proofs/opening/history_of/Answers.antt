-- the region has no other history vertex of the kind
use Rattle.std.proofs.Common.{arith}
use Rattle.pssm_model.specs.declared.ids.VertexId.{VertexId}
use Rattle.pssm_object.proofs.OpeningWays.{first_lacks}
use Rattle.pssm_object.proofs.opening.history_of.Goals as goal

pub returns-in-len1-up-clause-none : goal.returns-in-len1-up-clause-none
returns-in-len1-up-clause-none c =
    let some = c.in-len1-up.len_at_least in
    let d : VertexId = record { 0 = 0 } in
    first_lacks c.requires.rules c.args.r c.args.kind c.requires.kind c.histories_of.result.now d (omega (arith, some)) c.histories_of.ensures.items
    c.if_left.result c.if_left.ensures.none
