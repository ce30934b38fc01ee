-- Each turn asks one region more.
use Rattle.std.proofs.Common.{List, rules, refl, subst, Contains}
use Rattle.std.proofs.lemmas.List.{take_all}
use Rattle.pssm_model.specs.declared.ids.RegionId.{RegionId}
use Rattle.pssm_model.specs.Configuration.{HasActiveFinal}
use Rattle.pssm_config.specs.Tables.{configuration_of}
use Rattle.pssm_config.proofs.Finishing.{each_more}
use Rattle.pssm_object.proofs.ending.are_final.Goals as goal

pub loop-r-preserved : goal.loop-r-preserved
loop-r-preserved c =
    each_more (λ r. HasActiveFinal c.args.machine.now (configuration_of c.args.config.now) r) c.args.regions.now c.loop-r.r-index _ c.loop-r-test.true
    c.loop-r.invariant (c.has_active_final.ensures.0 (search rules))

pub returns : goal.returns
returns c =
    let Each : List RegionId → Type 0 = λ rs. (r : RegionId) → Contains rs r → HasActiveFinal c.args.machine.now (configuration_of c.args.config.now) r in
    (λ e. subst Each (take_all c.loop-r.r-index c.args.regions.now c.loop-r-test.false) c.loop-r.invariant, λ each. refl)
