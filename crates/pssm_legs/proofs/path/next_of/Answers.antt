-- the route goes on from the junction by one of its rest
use Rattle.std.proofs.Common.{◌<◌, AllPairs, Contains, sym, subst}
use Rattle.pssm_model.specs.declared.ids.TransId.{TransId}
use Rattle.pssm_model.specs.declared.elements.VertexKind.TheVariants as kinds
use Rattle.pssm_model_laws.proofs.RouteOrder.{route_of, of_rest}
use Rattle.pssm_legs.proofs.PathRegions.{kind_there}
use Rattle.pssm_legs.proofs.Chains.{on_within, junction_goes_on}
use Rattle.pssm_legs.proofs.path.next_of.Goals as goal

pub out_among-requires-clause-vertex : goal.out_among-requires-clause-vertex
out_among-requires-clause-vertex c = kind_there c.args.machine.now c.args.v kinds.Junction c.requires.junction

pub out_among-requires-clause-there : goal.out_among-requires-clause-there
out_among-requires-clause-there c t inside =
    on_within c.regions-shaped.ensures.shaped c.requires.rules c.args.route.now c.requires.route t
    (of_rest c.args.machine.now c.args.route.now t (subst (λ ts. Contains ts t) c.as_slice.ensures inside))

pub out_among-requires-clause-ascending : goal.out_among-requires-clause-ascending
out_among-requires-clause-ascending c =
    subst (AllPairs (λ (t u : TransId). t.0 < u.0)) (sym c.as_slice.ensures)
    (route_of c.args.machine.now c.args.route.now c.requires.route).ascending.1

pub unreachable-requires : goal.unreachable-requires
unreachable-requires c =
    let enters = c.requires.enters in
    let on = junction_goes_on c.regions-shaped.ensures.shaped c.requires.rules c.args.route.now c.requires.route enters.0 c.args.v enters.1 enters.2 c.requires.junction in
    c.in-None.ensures.none on.0 (subst (λ ts. Contains ts on.0) (sym c.as_slice.ensures) on.1) on.2

pub returns-clause-further : goal.returns-clause-further
returns-clause-further c = subst (λ ts. Contains ts c.in-Some.next) c.as_slice.ensures c.in-Some.ensures.some.0
