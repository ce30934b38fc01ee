-- Which regions are left empty does not matter to the machine.
use Rattle.std.proofs.Common.{subst, sym}
use Rattle.std.proofs.Math.ListN.{length-set}
use Rattle.pssm_config.specs.Tables.{Tables, Fits}
use Rattle.pssm_config.proofs.Resting.{fits_with_empty}
use Rattle.pssm_config.proofs.config.Config.opened_way.Goals as goal

pub returns-clause-fits : goal.returns-clause-fits
returns-clause-fits c =
    λ m fits. let Old : Tables → Type 0 = λ t. Fits m t in fits_with_empty m _ _ (subst Old (sym c.self.view_is) fits) (length-set _ _ _)
