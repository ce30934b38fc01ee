use Rattle.std.proofs.Common.{◌≡◌}
use Rattle.std.proofs.lemmas.Result.{on_ok_weaker}
use Rattle.pssm_model.specs.declared.steps.Item.{Item}
use Rattle.pssm_model.specs.declared.steps.Item.TheVariants.{Exit}
use Rattle.pssm_config.specs.Tables.{configuration_of}
use Rattle.pssm_plan.specs.inner.ByWays.{calls_by}
use Rattle.pssm_plan.specs.inner.Calling.{IsExitBy}
use Rattle.pssm_plan.proofs.Extending.{extended_same, extended_none}
use Rattle.pssm_plan.proofs.QuietRegions.{exits_one, exits_none}
use Rattle.pssm_plan.proofs.roster.Roster.list_exit_in.Goals as goal

pub returns-in-Some-clause-added : goal.returns-in-Some-clause-added
returns-in-Some-clause-added c =
    let m = c.args.machine.now in
    let way = c.args.way.now in
    let s = c.in-Some.s in
    let placed = (c.active_in.ensures m s c.requires.fits).0 c.in-Some.is in
    on_ok_weaker c.list_called.result
    (λ added. extended_same m _ _ (λ (x : Item). (x ≡ Exit s) × calls_by m way (Exit s)) (IsExitBy m (configuration_of c.args.config.now) way)
    (exits_one c.regions-shaped.ensures.shaped c.args.r c.requires.quiet c.requires.rules way c.requires.way c.requires.direct c.args.config.now
    c.requires.fits s placed.0 placed.1) added)
    c.list_called.ensures.added

pub returns-in-None-clause-added : goal.returns-in-None-clause-added
returns-in-None-clause-added c =
    let m = c.args.machine.now in
    let way = c.args.way.now in
    extended_none m c.args.self.now.calls.items (IsExitBy m (configuration_of c.args.config.now) way)
    (λ x h. absurd (exits_none c.regions-shaped.ensures.shaped c.args.r c.requires.quiet c.requires.rules way c.requires.way c.requires.direct
    c.args.config.now c.requires.fits
    (λ s placed active. let e = (c.active_in.ensures m s c.requires.fits).1 (placed, active) in let no = c.in-None.is in absurd (cc (e, no))) x h))
    c.requires.roster
