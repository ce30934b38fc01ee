-- one of the transitions starts a way, or none does
use Rattle.std.proofs.Common.{refl, sym}
use Rattle.std.proofs.lemmas.Bool.{true≢false}
use Rattle.std.proofs.lemmas.List.Elements.{Contains-get_or}
use Rattle.pssm_model.specs.declared.ids.TransId.{TransId}
use Rattle.pssm_config.specs.Tables.{configuration_of}
use Rattle.pssm_enabled.proofs.ListPlaces.{refuted}
use Rattle.pssm_routes.proofs.Sights.{way_starts, none_more, none_react}
use Rattle.pssm_routes.proofs.reacting.reacts_at_sight.Goals as goal

pub returns-then-branch : goal.returns-then-branch
returns-then-branch g c values tells = (
  λ e. way_starts c.requires.rules (configuration_of c.args.config.now) values c.args.event c.requires.fits.shape c.args.source _
      ((c.outgoing-t-items.ensures.items _).0 (Contains-get_or c.outgoing-t-items.result.now c.loop-t.t-index _ c.loop-t-test.true))
      ((c.in_ok-leads_at_sight.ensures values tells).0 c.if-branch.true),
  λ reacts. refl,
)

pub loop-t-preserved : goal.loop-t-preserved
loop-t-preserved g c values tells =
    let d : TransId = record { 0 = 0 } in
    none_more c.args.machine.now (configuration_of c.args.config.now) values c.args.event c.outgoing-t-items.result.now c.loop-t.t-index d
    c.loop-t-test.true (c.loop-t.invariant values tells)
    (λ starts. refuted c.in_ok-leads_at_sight.field-0 c.if-branch.false (c.in_ok-leads_at_sight.ensures values tells) starts)

pub returns : goal.returns
returns g c values tells = (
  λ e. absurd (true≢false (sym e)),
  λ reacts. absurd (none_react c.requires.rules (configuration_of c.args.config.now) values c.args.event c.requires.fits.shape c.args.source
      c.outgoing-t-items.result.now c.loop-t.t-index c.outgoing-t-items.ensures.items c.loop-t-test.false (c.loop-t.invariant values tells) reacts),
)
