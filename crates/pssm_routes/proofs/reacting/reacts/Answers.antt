-- Each turn looks at one transition more.
use Rattle.std.proofs.Common.{◌<◌, ◌∙◌, refl, sym, subst}
use Rattle.std.proofs.lemmas.Bool.{true≢false}
use Rattle.pssm_model.specs.declared.ids.TransId.{TransId}
use Rattle.pssm_config.specs.Tables.{configuration_of}
use Rattle.pssm_routes.proofs.Fruitless.{fruitless_start, fruitless_more, fruitless_end}
use Rattle.pssm_routes.proofs.reacting.reacts.Goals as goal

pub loop-t-init : goal.loop-t-init
loop-t-init g c = (
  refl,
  λ values tells dead.
      fruitless_start c.args.machine.now (configuration_of c.args.config.now) values c.args.event c.args.search.now dead,
)

pub leads-requires-clause-room : goal.leads-requires-clause-room
leads-requires-clause-room g c t u started on ends =
    subst (λ n. 0 < n) (sym c.loop-t.invariant.0) (c.requires.room t u started on ends)

pub loop-t-preserved : goal.loop-t-preserved
loop-t-preserved g c = (
  c.leads.ensures.same ∙ c.loop-t.invariant.0,
  λ values tells dead.
      let d : TransId = record { 0 = 0 } in
      let before = c.loop-t.invariant.1 values tells dead in
      fruitless_more c.args.machine.now (configuration_of c.args.config.now) values c.args.event c.outgoing-t-items.result.now
      c.loop-t.t-index d c.loop-t.search c.leads.new.search c.loop-t-test.true before
      (c.leads.ensures.dead values tells before.dead c.if-leads.false)
      (c.leads.ensures.none values tells before.dead c.if-leads.false),
)

pub returns-clause-reacts : goal.returns-clause-reacts
returns-clause-reacts g c values tells dead = (
  λ e. absurd (true≢false (sym e)),
  λ reacts. absurd (fruitless_end c.args.machine.now (configuration_of c.args.config.now) values c.args.event c.requires.rules c.requires.fits.shape
      c.args.source c.outgoing-t-items.result.now c.loop-t.t-index c.loop-t.search c.outgoing-t-items.ensures.items c.loop-t-test.false
      (c.loop-t.invariant.1 values tells dead) reacts),
)

pub returns-clause-dead : goal.returns-clause-dead
returns-clause-dead g c values tells dead e = (c.loop-t.invariant.1 values tells dead).dead
