-- where the second vertex lies in the region it stays
use Rattle.std.proofs.Common.{refl, inl, inr}
use Rattle.std.proofs.lemmas.Bool.{false≢true}
use Rattle.pssm_routes.proofs.areas.wider_region.Goals as goal

pub returns-then-lies_in_region-clause-wider : goal.returns-then-lies_in_region-clause-wider
returns-then-lies_in_region-clause-wider c = inl (c.if-lies_in_region.ensures.0 refl, refl)

pub returns-clause-wider : goal.returns-clause-wider
returns-clause-wider c = inr (λ h. false≢true (c.if-lies_in_region.ensures.1 h), c.shared_region.ensures.scope)
