-- an output alone that is a send is the signal of the entry
use Rattle.std.proofs.Common.{◌≡◌, List, length, IfSome, ap, subst, ◌∙◌, arith}
use Rattle.pssm_semantics.specs.declared.stimulus.Stimulus.{Stimulus}
use Rattle.pssm_semantics.specs.Pool.{signals_of_entry, signals_of_out}
use Rattle.pssm_system.proofs.situation.Situation.send.Goals as goal

pub send_one-requires-clause-sends : goal.send_one-requires-clause-sends
send_one-requires-clause-sends c =
    subst (λ r. IfSome r (λ out. signals_of_entry c.args.entry.now ≡ signals_of_out out.now)) c.in-Some-Send.is c.only_out.ensures
    ∙ ap signals_of_out c.in-Some-Send.field-0-is

pub send_one-requires-clause-few : goal.send_one-requires-clause-few
send_one-requires-clause-few c =
    let sends = subst (λ r. IfSome r (λ out. signals_of_entry c.args.entry.now ≡ signals_of_out out.now)) c.in-Some-Send.is c.only_out.ensures
    ∙ ap signals_of_out c.in-Some-Send.field-0-is in
    let count : length (signals_of_entry c.args.entry.now) ≡ 1 = ap (λ (xs : List Stimulus). length xs) sends in
    let few = c.requires.can.few in
    omega (arith, count, few)
