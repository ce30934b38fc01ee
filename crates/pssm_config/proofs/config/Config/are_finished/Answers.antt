-- Each turn asks one region more.
use Rattle.std.proofs.Common.{List, rules, refl, subst}
use Rattle.std.proofs.lemmas.List.{take_all}
use Rattle.pssm_model.specs.declared.ids.RegionId.{RegionId}
use Rattle.std.proofs.Common.{Contains}
use Rattle.pssm_model.specs.Configuration.{IsFinished}
use Rattle.pssm_config.specs.Tables.{configuration_of}
use Rattle.pssm_config.proofs.Finishing.{each_more}
use Rattle.pssm_config.proofs.config.Config.are_finished.Goals as goal

pub loop-r-preserved : goal.loop-r-preserved
loop-r-preserved c =
    λ m fits.
    each_more (λ r. IsFinished m (configuration_of c.args.self.now) r) c.args.regions.now c.loop-r.r-index _ c.loop-r-test.true
    (c.loop-r.invariant m fits) ((c.finished.ensures m fits).0 (search rules))

pub returns : goal.returns
returns c =
    λ m fits.
    let Each : List RegionId → Type 0 = λ rs. (r : RegionId) → Contains rs r → IsFinished m (configuration_of c.args.self.now) r in
    (λ e. subst Each (take_all c.loop-r.r-index c.args.regions.now c.loop-r-test.false) (c.loop-r.invariant m fits), λ each. refl)
