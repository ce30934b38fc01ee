-- The table of a region names exactly its active direct vertex.
use Rattle.std.proofs.Common.{◌≡◌, ◌<◌, length, None, subst, sym, ◌∙◌}
use Rattle.std.proofs.lemmas.List.{get_or_default}
use Rattle.pssm_config.specs.Tables.{Tables, held_in}
use Rattle.pssm_config.proofs.config.Config.active_in.Goals as goal

pub returns : goal.returns
returns c =
    λ m s fits.
    let Place : Tables → Type 0 = λ t. c.args.r.0 < length t.held in
    let Held : Tables → Type 0 = λ t. c.index.result.now ≡ held_in t c.args.r in
    let lt = subst Place (sym c.self.view_is) c.requires in
    let is : c.index.result.now ≡ held_in c.args.self.now c.args.r =
    subst Held c.self.view_is (c.index.ensures ∙ get_or_default c.self.inside.held.items c.args.r.0 c.index.result.now None lt) in
    (λ e. (fits.held c.args.r s).0 (sym is ∙ e), λ h. is ∙ (fits.held c.args.r s).1 h)
