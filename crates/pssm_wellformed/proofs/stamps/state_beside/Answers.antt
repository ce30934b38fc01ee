use Rattle.std.proofs.Common.{not, get_or, ap, arith}
use Rattle.std.proofs.lemmas.List.Elements.{Contains-get_or}
use Rattle.pssm_wellformed.specs.inner.Ends.{transition_number}
use Rattle.pssm_wellformed.proofs.Listing.{not_empty_iff}
use Rattle.pssm_wellformed.proofs.Together.{fitting_first}
use Rattle.pssm_wellformed.proofs.stamps.state_beside.Goals as goal

pub end_of-first-requires : goal.end_of-first-requires
end_of-first-requires c =
    let ts = c.args.transitions.now in
    let some = (not_empty_iff ts c.is_empty.result c.is_empty.ensures).0 (ap not c.if-is_empty.false) in
    c.requires.there 0 (transition_number 0) (let lt = some.1.1 in omega arith)

pub returns : goal.returns
returns c =
    let ts = c.args.transitions.now in
    let some = (not_empty_iff ts c.is_empty.result c.is_empty.ensures).0 (ap not c.if-is_empty.false) in
    fitting_first c.args.machine.now c.requires.shape c.args.end c.args.region ts (get_or ts 0 (transition_number 0)) c.end_of-first.result c.state_inside.result
    (Contains-get_or ts 0 (transition_number 0) (let lt = some.1.1 in omega arith)) c.end_of-first.ensures.is c.state_inside.ensures
