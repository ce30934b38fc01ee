-- the chosen routes in order are what fires
use Rattle.std.proofs.Common.{◌↔◌, Contains, sym, subst}
use Rattle.pssm_model.specs.declared.ids.VertexId.{VertexId}
use Rattle.pssm_model.specs.FiringSets.{IsFiring}
use Rattle.pssm_config.specs.Tables.{configuration_of}
use Rattle.pssm_routes.specs.inner.Starts.{IsCandidate}
use Rattle.pssm_routes.proofs.Picking.{firing_same}
use Rattle.pssm_routes.proofs.pick.pick_firing_set.Goals as goal

pub returns : goal.returns
returns g c values tells =
    let m = c.args.machine.now in
    let now = configuration_of c.args.config.now in
    let event = c.args.event in
    let some = subst (λ ss. (s : VertexId) → Contains ss s ↔ IsCandidate m now values event s) (sym c.as_slice.ensures.value)
    (c.in_ok-states.ensures.states values tells) in
    let is = c.in_ok-routes.ensures values tells some in
    let fires = firing_same m now values event c.in_ok-routes.routes.items c.put_in_order.new.routes.items c.in_ok-put_in_order.ensures.moved is.0 in
    subst (IsFiring m now values event) (sym c.from_vec.ensures) (fires, c.in_ok-put_in_order.ensures.listed is.1)
