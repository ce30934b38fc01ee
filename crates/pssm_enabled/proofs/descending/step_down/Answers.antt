-- the one transition out of it leads to another entry point
use Rattle.std.proofs.Common.{◌≡◌, ◌<◌, length, Contains, subst, arith}
use Rattle.std.proofs.lemmas.List.Elements.{Contains-get_or}
use Rattle.pssm_model.specs.declared.ids.TransId.{TransId}
use Rattle.pssm_model.proofs.RouteLaws.{is_one}
use Rattle.pssm_enabled.proofs.Started.{one_of_length}
use Rattle.pssm_enabled.proofs.descending.step_down.Goals as goal

pub returns-then-is_entry_point-2-clause-step : goal.returns-then-is_entry_point-2-clause-step
returns-then-is_entry_point-2-clause-step c =
    let d : TransId = record { 0 = 0 } in
    let out = c.outgoing.result.now in
    let long : length out ≡ 1 = let least = c.in-len1.len_at_least in let most = c.in-len1.len_below in omega (arith, least, most) in
    let some : 0 < length out = omega (arith, long) in
    record {
      entry = c.is_entry_point.ensures.0 c.if-is_entry_point.true;
      leaves = (c.outgoing.ensures.items _).0 (Contains-get_or out 0 d some);
      only = λ u leaves. is_one _ u (subst (λ us. Contains us u) (one_of_length out d long) ((c.outgoing.ensures.items u).1 leaves));
      end = c.target.result;
      enters = c.target.ensures.enters;
      further = c.is_entry_point-then-is_entry_point.ensures.0 c.if-is_entry_point-2.true;
    }
