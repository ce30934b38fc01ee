use Rattle.std.proofs.Common.{◌≡◌, sym, rules}
use Rattle.pssm_breaches.proofs.PlaceLaws.{vertices_iff}
use Rattle.pssm_breaches.proofs.places.same_vertices.Goals as goal

pub returns-then-eq : goal.returns-then-eq
returns-then-eq c =
    let kind : c.in-Some.vertex.now.kind ≡ c.in-Some-vertex_at.other.now.kind = search rules in
    vertices_iff c.args.draft.now c.args._m c.args.heritage.now c.args.e c.args.f c.in-Some.vertex.now c.in-Some-vertex_at.other.now c.same_owner.result
    c.requires.range c.requires.lineage c.requires.within c.requires.above (sym c.in-Some.ensures) (sym c.in-Some-vertex_at.ensures) kind c.same_owner.ensures
