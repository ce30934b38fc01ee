-- Each turn looks at one transition more.
use Rattle.std.proofs.Common.{◌<◌, refl, arith}
use Rattle.pssm_model.specs.declared.ids.TransId.{TransId}
use Rattle.pssm_config.specs.Tables.{configuration_of}
use Rattle.pssm_routes.specs.inner.Starts.{IsStartedWith, GoesOnBy}
use Rattle.pssm_enabled.specs.Ways.{EndsInside}
use Rattle.pssm_routes.proofs.Onward.{goes_on_there}
use Rattle.pssm_routes.proofs.Fruitless.{no_start_more}
use Rattle.pssm_routes.proofs.reacting.some_start_search.Goals as goal

pub loop-number-init : goal.loop-number-init
loop-number-init c t lt is = (let no : ⊥ = omega (arith, lt) in no)

pub loop-number-preserved : goal.loop-number-preserved
loop-number-preserved c =
    let at : TransId = record { 0 = c.loop-number.number } in
    no_start_more (λ t. (u : TransId) × IsStartedWith c.args.machine.now (configuration_of c.args.config.now) c.args.event t
    × GoesOnBy c.args.machine.now t u × EndsInside c.args.machine.now u) c.loop-number.number at refl c.loop-number.invariant
    (λ (u, started, on, ends). c.starts_search.ensures c.if-starts_search.false u started on ends)

pub returns : goal.returns
returns c never t u started on ends =
    let there = goes_on_there c.args.machine.now t u ends.0 on ends.1 in
    let test = c.loop-number-test.false in
    let e = c.transitions-number-end.ensures in
    let below : t.0 < c.loop-number.number = omega (arith, there, test, e) in
    c.loop-number.invariant t below (u, started, on, ends)
