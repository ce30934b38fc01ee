-- it alone, or all into its join
use Rattle.std.proofs.Common.{refl}
use Rattle.pssm_enabled.proofs.ListPlaces.{refuted}
use Rattle.pssm_routes.proofs.Onward.{among_alone, among_joined}
use Rattle.pssm_enabled.proofs.StartLaws.{starts_joined, starts_alone}
use Rattle.pssm_routes.proofs.leading.start_all_among.Goals as goal

pub returns-then-not-is_join : goal.returns-then-not-is_join
returns-then-not-is_join c =
    let m = c.args.machine.now in
    let none = starts_alone m c.args.t c.target-v.result c.target-v.ensures.enters (refuted c.is_join.result c.if-not-is_join.true c.is_join.ensures) in
    (λ h. among_alone m c.args.states.now c.args.t none c.requires.source, λ h. refl)

pub returns : goal.returns
returns c =
    let m = c.args.machine.now in
    let are = starts_joined m c.args.t c.target-v.result c.incoming.result.now c.target-v.ensures.enters (c.is_join.ensures.0 c.if-not-is_join.false)
    c.incoming.ensures.items c.incoming.ensures.ascending in
    let with = among_joined m c.args.states.now c.args.t c.incoming.result.now are in
    (λ h. with.0 (c.leave_among.ensures.0 h), λ h. c.leave_among.ensures.1 (with.1 h))
