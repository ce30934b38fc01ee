-- The next do step is one that the State has.
use Rattle.std.proofs.Common.{◌<◌, length, subst, sym, ◌∙◌}
use Rattle.std.proofs.lemmas.Grind.{get_or_default_zero}
use Rattle.pssm_model.specs.Configuration.{IsNextDoStep}
use Rattle.pssm_config.specs.Tables.{Tables, Fits, configuration_of}
use Rattle.pssm_config.proofs.Resting.{fits_with_step}
use Rattle.pssm_config.proofs.config.Config.do_step.Goals as goal

pub returns-clause-fits : goal.returns-clause-fits
returns-clause-fits c =
    λ m k fits next.
    let Old : Tables → Type 0 = λ t. Fits m t in
    let Next : Tables → Type 0 = λ t. IsNextDoStep m (configuration_of t) c.args.s k in
    let lt = let Place : Tables → Type 0 = λ t. c.args.s.0 < length t.steps in subst Place (sym c.self.view_is) c.requires.vertex in
    fits_with_step m _ c.args.s k (subst Next (sym c.self.view_is) next) _
    (c.index_mut.ensures.value ∙ get_or_default_zero c.self.inside.steps.items c.args.s.0 c.index_mut.result.now lt) (subst Old (sym c.self.view_is) fits) lt
