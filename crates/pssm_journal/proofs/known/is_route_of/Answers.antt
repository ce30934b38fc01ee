use Rattle.std.proofs.Common.{◌<◌, length, List, subst}
use Rattle.std.specs.Prelude.{IsTrue, All, ◌↔◌}
use Rattle.pssm_model.specs.declared.ids.TransId.{TransId}
use Rattle.pssm_journal.proofs.EntryLaws.{both_parts, first_fails}
use Rattle.pssm_journal.proofs.known.is_route_of.Goals as goal

pub returns-then-are_transitions_of : goal.returns-then-are_transitions_of
returns-then-are_transitions_of c =
    let P = λ (t : TransId). t.0 < length c.args.machine.now.transitions in
    let first = subst (λ (ts : List TransId). IsTrue c.are_transitions_of.result ↔ All P ts) c.as_slice.ensures c.are_transitions_of.ensures in
    let second = subst (λ (ts : List TransId). IsTrue c.are_transitions_of-then-are_transitions_of.result ↔ All P ts) c.as_slice-then-are_transitions_of.ensures c.are_transitions_of-then-are_transitions_of.ensures in
    both_parts P c.args.route.now.starts c.args.route.now.rest c.are_transitions_of.result c.are_transitions_of-then-are_transitions_of.result first c.if-are_transitions_of.true second

pub returns-else-are_transitions_of : goal.returns-else-are_transitions_of
returns-else-are_transitions_of c =
    let P = λ (t : TransId). t.0 < length c.args.machine.now.transitions in
    let first = subst (λ (ts : List TransId). IsTrue c.are_transitions_of.result ↔ All P ts) c.as_slice.ensures c.are_transitions_of.ensures in
    first_fails P c.args.route.now.starts c.args.route.now.rest c.are_transitions_of.result first c.if-are_transitions_of.false
