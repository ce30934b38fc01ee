-- the way and what comes behind it, in order
use Rattle.std.proofs.Common.{◌≡◌, ◌↔◌, ◌∙◌, List, ◌++◌, Contains, sym, ap, subst}
use Rattle.pssm_model.specs.declared.ids.TransId.{TransId}
use Rattle.pssm_enabled.specs.Starts.{AreStartsWith}
use Rattle.pssm_enabled.proofs.TrailLaws.{route_behind}
use Rattle.pssm_enabled.proofs.tracing.route_of_trail.Goals as goal

pub returns : goal.returns
returns g c values path tells trail further =
    let m = c.args.machine.now in
    let later = c.in_ok-rest.rest.items in
    let behind = c.in_ok-behind.behind.items in
    let put = c.in_ok-put_in_order.ensures in
    let added : c.extend_from_slice.new.self.items ≡ later ++ behind =
    c.in_ok-extend_from_slice.ensures.items ∙ ap (λ (us : List TransId). later ++ us) c.as_slice.ensures.value in
    route_behind m values c.args.start c.args.last.by path further.0 further.1 behind (c.in_ok-behind.ensures values tells further further.0 further.1)
    c.from_vec.result later c.put_in_order.new.transitions.items c.from_vec-2.result c.requires.outside
    (subst (AreStartsWith m c.args.start) (sym c.from_vec.ensures) c.in_ok-starts.ensures)
    (c.in_ok-rest.ensures path trail)
    (λ u. subst (λ us. Contains c.put_in_order.new.transitions.items u ↔ Contains us u) added (put.same u))
    put.ascending c.from_vec-2.ensures
