-- a route has a first start
use Rattle.std.proofs.Common.{◌<◌, length, Contains, sym, subst, inl, arith}
use Rattle.pssm_model_laws.proofs.RouteKinds.{some_start}
use Rattle.pssm_routes.proofs.areas.footprint_of.Goals as goal

pub unreachable-requires : goal.unreachable-requires
unreachable-requires c =
    let start = some_start c.regions-shaped.ensures.shaped c.requires.rules c.args.route.now (inl c.requires.route) in
    let inside = subst (λ ts. Contains ts start.0) (sym c.as_slice.ensures) start.1 in
    let below = inside.1 in
    let past = c.in-None.ensures.lookup.3 in omega (arith, below, past)

pub footprint_from-requires-clause-start : goal.footprint_from-requires-clause-start
footprint_from-requires-clause-start c =
    let start = some_start c.regions-shaped.ensures.shaped c.requires.rules c.args.route.now (inl c.requires.route) in
    let inside = subst (λ ts. Contains ts start.0) (sym c.as_slice.ensures) start.1 in
    let below = inside.1 in
    let some : 0 < length c.as_slice.result.now = omega (arith, below) in
    subst (λ ts. Contains ts c.in-Some.start.now) c.as_slice.ensures (0, some, sym c.in-Some.ensures.lookup.1)
