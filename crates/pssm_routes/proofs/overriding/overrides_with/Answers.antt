-- Each turn looks at one vertex more.
use Rattle.std.proofs.Common.{◌<◌, ◌≤◌, ◌∙◌, length, refl, sym, subst, arith}
use Rattle.std.proofs.lemmas.Bool.{true≢false}
use Rattle.pssm_model.specs.declared.ids.VertexId.{VertexId}
use Rattle.pssm_model.specs.declared.steps.Event.TheVariants.{Signal}
use Rattle.pssm_config.specs.Tables.{configuration_of}
use Rattle.pssm_routes.proofs.Fruitless.{barren_start, barren_more, barren_end, overrides_is}
use Rattle.pssm_routes.proofs.overriding.overrides_with.Goals as goal

pub loop-number-init : goal.loop-number-init
loop-number-init g c = (
  refl,
  λ values tells. barren_start c.args.machine.now (configuration_of c.args.config.now) values (Signal c.args.signal) c.args.state c.args.search.now
      (c.requires.nothing values),
)

pub reacts_within-requires-clause-room : goal.reacts_within-requires-clause-room
reacts_within-requires-clause-room g c t u started on ends =
    subst (λ n. 0 < n) (sym c.loop-number.invariant.0) (c.requires.room t u started on ends)

pub loop-number-preserved : goal.loop-number-preserved
loop-number-preserved g c = (
  c.reacts_within.ensures.same ∙ c.loop-number.invariant.0,
  λ values tells.
      let at : VertexId = record { 0 = c.loop-number.number } in
      let before = c.loop-number.invariant.1 values tells in
      barren_more c.args.machine.now (configuration_of c.args.config.now) values (Signal c.args.signal) c.args.state at c.loop-number.number
      c.loop-number.search c.reacts_within.new.search refl before (c.reacts_within.ensures.dead values tells before.dead c.if-reacts_within.false)
      (λ is. true≢false (sym ((c.reacts_within.ensures.reacts values tells before.dead).1 is) ∙ c.if-reacts_within.false)),
)

pub returns-then-reacts_within : goal.returns-then-reacts_within
returns-then-reacts_within g c values tells =
    let at : VertexId = record { 0 = c.loop-number.number } in
    let before = c.loop-number.invariant.1 values tells in
    let is = (c.reacts_within.ensures.reacts values tells before.dead).0 c.if-reacts_within.true in (
      λ e. (overrides_is c.args.machine.now (configuration_of c.args.config.now) values c.args.signal c.args.state).1 (at, is.0, is.1),
      λ overrides. refl,
    )

pub returns : goal.returns
returns g c values tells = (
  λ e. absurd (true≢false (sym e)),
  λ overrides.
      let now = configuration_of c.args.config.now in
      let enough : length c.args.machine.now.vertices ≤ c.loop-number.number =
      let test = c.loop-number-test.false in let e = c.vertices-number-end.ensures in omega (arith, test, e) in
      let some = (overrides_is c.args.machine.now now values c.args.signal c.args.state).0 overrides in
      absurd (barren_end c.args.machine.now now values (Signal c.args.signal) c.requires.fits.shape c.args.state c.loop-number.number
      c.loop-number.search enough (c.loop-number.invariant.1 values tells) some.0 (some.1, some.2)),
)
