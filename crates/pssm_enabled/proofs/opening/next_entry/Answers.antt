-- over the one transition
use Rattle.std.proofs.Common.{◌≡◌, ◌<◌, length, arith}
use Rattle.std.proofs.lemmas.List.Elements.{Contains-get_or}
use Rattle.pssm_model.specs.declared.ids.TransId.{TransId}
use Rattle.pssm_enabled.proofs.EntryLaws.{one_behind}
use Rattle.pssm_enabled.proofs.Started.{one_of_length}
use Rattle.pssm_enabled.proofs.opening.next_entry.Goals as goal

pub returns-then-is_entry_point-clause-same : goal.returns-then-is_entry_point-clause-same
returns-then-is_entry_point-clause-same c = λ values.
    let d : TransId = record { 0 = 0 } in
    let out = c.outgoing.result.now in
    let long : length out ≡ 1 = let least = c.in-len1.len_at_least in let most = c.in-len1.len_below in omega (arith, least, most) in
    let some : 0 < length out = omega (arith, long) in
    one_behind c.args.machine.now values c.args.v c.requires.entry out _ c.target-w.result c.outgoing.ensures.items (one_of_length out d long)
    ((c.outgoing.ensures.items _).0 (Contains-get_or out 0 d some)) c.target-w.ensures.enters
