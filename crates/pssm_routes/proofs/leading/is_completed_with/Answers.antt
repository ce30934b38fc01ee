-- with the others into its join, or alone
use Rattle.pssm_model.specs.declared.steps.Event.TheVariants.{Completion}
use Rattle.pssm_config.specs.Tables.{configuration_of}
use Rattle.pssm_enabled.proofs.ListPlaces.{refuted}
use Rattle.pssm_enabled.proofs.StartLaws.{starts_joined, starts_alone}
use Rattle.pssm_routes.proofs.StartedWith.{started_with, alone_with}
use Rattle.pssm_routes.proofs.leading.is_completed_with.Goals as goal

pub returns-then-is_join : goal.returns-then-is_join
returns-then-is_join c =
    let m = c.args.machine.now in
    let are = starts_joined m c.args.t c.target-v.result c.incoming.result.now c.target-v.ensures.enters (c.is_join.ensures.0 c.if-is_join.true)
    c.incoming.ensures.items c.incoming.ensures.ascending in
    let with = started_with m (configuration_of c.args.config.now) (Completion c.args.state) c.args.t c.incoming.result.now are in
    (λ h. with.0 (c.are_completed_by.ensures.0 h), λ h. c.are_completed_by.ensures.1 (with.1 h))

pub returns : goal.returns
returns c =
    let m = c.args.machine.now in
    let none = starts_alone m c.args.t c.target-v.result c.target-v.ensures.enters (refuted c.is_join.result c.if-is_join.false c.is_join.ensures) in
    let with = alone_with m (configuration_of c.args.config.now) (Completion c.args.state) c.args.t c.args.source c.requires.leaves c.requires.kind
    c.requires.active none in
    (λ h. with.0 (c.is_caused_by.ensures.0 h), λ h. c.is_caused_by.ensures.1 (with.1 h))
