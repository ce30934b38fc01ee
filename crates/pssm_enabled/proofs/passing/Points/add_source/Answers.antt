-- a way leads back or not
use Rattle.std.proofs.Common.{refl, inl, inr}
use Rattle.pssm_enabled.proofs.ListPlaces.{refuted}
use Rattle.pssm_enabled.proofs.PassingLaws.{grows_further, grows_same}
use Rattle.pssm_enabled.proofs.passing.Points.add_source.Goals as goal

pub returns-then-leads_back-clause-grows : goal.returns-then-leads_back-clause-grows
returns-then-leads_back-clause-grows g c = grows_further c.source.result c.add.ensures.further

pub returns-then-leads_back-clause-further : goal.returns-then-leads_back-clause-further
returns-then-leads_back-clause-further g c values tells =
    inl (c.source.result, c.source.ensures.leaves, (c.leads_back.ensures values tells).0 c.if-leads_back.true, c.add.ensures.further)

pub returns-else-leads_back-clause-grows : goal.returns-else-leads_back-clause-grows
returns-else-leads_back-clause-grows g c = grows_same c.args.self.now

pub returns-else-leads_back-clause-further : goal.returns-else-leads_back-clause-further
returns-else-leads_back-clause-further g c values tells =
    inr (refuted c.leads_back.result c.if-leads_back.false (c.leads_back.ensures values tells), refl)
