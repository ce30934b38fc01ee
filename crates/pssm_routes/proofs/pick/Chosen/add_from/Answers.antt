-- a free route is added, and where there is none the State is spent
use Rattle.std.proofs.Common.{All, IfSome, IfNone, sym, subst}
use Rattle.std.proofs.lemmas.List.Elements.{All-push}
use Rattle.pssm_config.specs.Tables.{configuration_of}
use Rattle.pssm_routes.specs.inner.Footprints.{IsFootprintIn}
use Rattle.pssm_routes.specs.inner.Picks.{IsFreeFrom, IsSpent}
use Rattle.pssm_routes.proofs.FootprintLists.{on_ok}
use Rattle.pssm_routes.proofs.Picking.{grown_free, grown_none}
use Rattle.pssm_routes.proofs.pick.Chosen.add_from.Goals as goal

pub returns-in-Some-clause-footprints : goal.returns-in-Some-clause-footprints
returns-in-Some-clause-footprints g c =
    let There = IsFootprintIn c.args.machine.now in
    on_ok c.add.result
    (λ added. subst (All There) (sym added.footprints_are) (All-push There c.args.self.now.footprints.items added.footprint c.requires.footprints added.there))
    c.add.ensures

pub returns-in-Some-clause-grown : goal.returns-in-Some-clause-grown
returns-in-Some-clause-grown g c values tells first chosen =
    let m = c.args.machine.now in
    let now = configuration_of c.args.config.now in
    let event = c.args.event in
    let source = c.args.source in
    let was = c.args.self.now in
    let route = c.in-Some.route in
    let states = c.args.states.now in
    let found = subst (λ o. IfSome o (IsFreeFrom m now values event states c.as_slice.result.now source)) c.in-Some.is
    (c.in_ok-found.ensures.some values tells) in
    let free = subst (λ gs. IsFreeFrom m now values event states gs source route) c.as_slice.ensures.value found in
    on_ok c.add.result
    (λ added. grown_free c.requires.rules c.requires.fits.shape now values event states was.routes.items c.add.new.self.routes.items was.footprints.items
    c.add.new.self.footprints.items source route chosen first free added)
    c.add.ensures

pub returns-in-None-clause-grown : goal.returns-in-None-clause-grown
returns-in-None-clause-grown g c values tells first chosen =
    let m = c.args.machine.now in
    let now = configuration_of c.args.config.now in
    let event = c.args.event in
    let source = c.args.source in
    let was = c.args.self.now in
    let states = c.args.states.now in
    let none = subst (λ o. IfNone o (IsSpent m now values event states c.as_slice.result.now source)) c.in-None.is
    (c.in_ok-found.ensures.none values tells) in
    grown_none c.requires.rules c.requires.fits.shape now values event states was.routes.items was.footprints.items source chosen
    (subst (λ gs. IsSpent m now values event states gs source) c.as_slice.ensures.value none)
