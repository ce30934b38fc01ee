-- Each turn looks at one region more.
use Rattle.std.proofs.Common.{◌≤◌, length, refl, sym, arith}
use Rattle.std.proofs.lemmas.Bool.{true≢false}
use Rattle.pssm_model.specs.declared.ids.RegionId.{RegionId}
use Rattle.pssm_model.specs.declared.steps.Event.TheVariants.{Signal}
use Rattle.pssm_config.specs.Tables.{configuration_of}
use Rattle.pssm_routes.proofs.Fruitless.{overrides_is}
use Rattle.pssm_enabled.proofs.ListPlaces.{refuted}
use Rattle.pssm_routes.proofs.Sights.{inside_none, inside_more, below_all}
use Rattle.pssm_routes.proofs.overriding.overrides_at_sight.Goals as goal

pub loop-number-init : goal.loop-number-init
loop-number-init g c = λ values tells. inside_none c.args.machine.now (configuration_of c.args.config.now) values (Signal c.args.signal) c.args.state

pub returns-then-is_found_in : goal.returns-then-is_found_in
returns-then-is_found_in g c values tells = (
  λ e.
      let at = c.is_found_in.ensures.0 c.if-is_found_in.true in
      (overrides_is c.args.machine.now (configuration_of c.args.config.now) values c.args.signal c.args.state).1
      (at.0, at.2, ((c.in_ok-found.ensures.reacting values tells at.0).0 at.1).1),
  λ overrides. refl,
)

pub loop-number-preserved : goal.loop-number-preserved
loop-number-preserved g c = λ values tells.
    let r : RegionId = record { 0 = c.loop-number.number } in
    inside_more c.args.machine.now (configuration_of c.args.config.now) values (Signal c.args.signal) c.args.state c.in_ok-found.found
    c.loop-number.number r refl (c.in_ok-found.ensures.reacting values tells)
    (λ some. refuted c.is_found_in.result c.if-is_found_in.false c.is_found_in.ensures some) (c.loop-number.invariant values tells)

pub returns : goal.returns
returns g c values tells = (
  λ e. absurd (true≢false (sym e)),
  λ overrides.
      let now = configuration_of c.args.config.now in
      let enough : length c.args.machine.now.regions ≤ c.loop-number.number =
      let test = c.loop-number-test.false in let e = c.regions-number-end.ensures.count in omega (arith, test, e) in
      let some = (overrides_is c.args.machine.now now values c.args.signal c.args.state).0 overrides in
      absurd (c.loop-number.invariant values tells some.0
      (below_all c.args.config.now c.requires.fits values (Signal c.args.signal) c.loop-number.number enough some.0 some.2) some.1),
)
