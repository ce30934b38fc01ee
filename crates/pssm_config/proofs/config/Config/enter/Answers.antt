-- What is put into the tables is what an entry does.
use Rattle.std.proofs.Common.{length, subst, sym, ◌∙◌}
use Rattle.std.proofs.Math.ListN.{length-set}
use Rattle.pssm_config.specs.Tables.{Tables, Fits, CanEnter, configuration_of}
use Rattle.pssm_config.proofs.Putting.{in_table}
use Rattle.pssm_config.proofs.Entering.{fits_with_entry, agrees_with_entry}
use Rattle.pssm_config.proofs.Filling.{filled}
use Rattle.pssm_config.proofs.config.Config.enter.Goals as goal

pub clear_each-requires : goal.clear_each-requires
clear_each-requires c =
    λ k d lt.
    let Old : Tables → Type 0 = λ t. Fits c.args.machine.now t in
    let fits = subst Old (sym c.self.view_is) c.requires.fits in
    in_table _ (length c.args.machine.now.regions) _ (length-set c.self.inside.empty.items _ _ ∙ fits.wide.empty) (c.regions_of.ensures.there k d lt)

pub returns-clause-fits : goal.returns-clause-fits
returns-clause-fits c =
    let Old : Tables → Type 0 = λ t. Fits c.args.machine.now t in
    let Can : Tables → Type 0 = λ t. CanEnter c.args.machine.now (configuration_of t) c.args.s in
    fits_with_entry c.args.machine.now _ c.args.s c.home_of-home.result c.has_kind.result c.clear_each.new.marks.items
    (subst Old (sym c.self.view_is) c.requires.fits) (subst Can (sym c.self.view_is) c.requires.vacant) c.home_of-home.ensures.owner
    c.home_of-home.ensures.within c.has_kind.ensures (c.clear_each.ensures.width ∙ length-set c.self.inside.empty.items _ _)

pub returns-clause-entered : goal.returns-clause-entered
returns-clause-entered c =
    let m = c.args.machine.now in
    let Old : Tables → Type 0 = λ t. Fits m t in
    let Can : Tables → Type 0 = λ t. CanEnter m (configuration_of t) c.args.s in
    let fits = subst Old (sym c.self.view_is) c.requires.fits in
    let can = subst Can (sym c.self.view_is) c.requires.vacant in
    agrees_with_entry m _ c.args.s c.home_of-home.result c.has_kind.result c.clear_each.new.marks.items fits can c.home_of-home.ensures.owner
    c.home_of-home.ensures.within c.args.self.now c.self.view_is
    (filled m c.args.s c.home_of-home.result c.self.inside.empty.items c.clear_each.new.marks.items c.regions_of.result.now
    (c.home_of-home.ensures.owner, can.state) (in_table _ (length m.regions) _ fits.wide.empty c.home_of-home.ensures.within)
    c.regions_of.ensures.items c.clear_each.ensures.cleared)
