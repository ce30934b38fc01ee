-- What is put into the tables is what an exit does.
use Rattle.std.proofs.Common.{subst, sym}
use Rattle.std.proofs.Math.ListN.{length-set}
use Rattle.pssm_config.specs.Tables.{Tables, Fits, configuration_of}
use Rattle.pssm_config.proofs.Exiting.{fits_with_exit}
use Rattle.pssm_config.proofs.config.Config.exit.Goals as goal

pub returns-clause-fits : goal.returns-clause-fits
returns-clause-fits c =
    let Old : Tables → Type 0 = λ t. Fits c.args.machine.now t in
    let Active : Tables → Type 0 = λ t. (configuration_of t).Active c.args.s in
    fits_with_exit c.args.machine.now _ c.args.s c.home_of-left.result _ (subst Old (sym c.self.view_is) c.requires.fits) c.home_of-left.ensures.owner
    (subst Active (sym c.self.view_is) c.requires.active) c.home_of-left.ensures.within (length-set _ _ _)
