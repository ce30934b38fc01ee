-- nothing but a State may own a point
use Rattle.std.proofs.Common.{◌∙◌, Some, ap, subst, ⊎_elim}
use Rattle.pssm_model.specs.declared.elements.Vertex.{Vertex}
use Rattle.pssm_model.specs.declared.elements.VertexKind.TheVariants as kinds
use Rattle.pssm_model.specs.Shapes.{OwnsVertex}
use Rattle.pssm_model.proofs.ElementLaws.{mapped_at}
use Rattle.pssm_legs.proofs.PathRegions.{kind_there}
use Rattle.pssm_legs.proofs.areas.state_of_point.Goals as goal

pub vertex-requires : goal.vertex-requires
vertex-requires c =
    ⊎_elim
    (λ entry. kind_there c.args.machine.now c.args.point kinds.EntryPoint entry)
    (λ exit. kind_there c.args.machine.now c.args.point kinds.ExitPoint exit)
    c.requires

pub unreachable-requires : goal.unreachable-requires
unreachable-requires c =
    subst (OwnsVertex c.args.machine.now c.args.point) c.in-Top.is
    (c.regions-shaped.ensures.shaped.vertices c.args.point c.vertex.result.now c.vertex.ensures).0

pub unreachable-requires-in-Region : goal.unreachable-requires-in-Region
unreachable-requires-in-Region c =
    (subst (OwnsVertex c.args.machine.now c.args.point) c.in-Region.is
    (c.regions-shaped.ensures.shaped.vertices c.args.point c.vertex.result.now c.vertex.ensures).0).0 c.requires

pub returns-clause-owner : goal.returns-clause-owner
returns-clause-owner c = mapped_at (λ (x : Vertex). x.owner) _ _ c.vertex.ensures ∙ ap Some c.in-State.is

pub returns-clause-there : goal.returns-clause-there
returns-clause-there c =
    kind_there c.args.machine.now c.in-State.s kinds.State
    (subst (OwnsVertex c.args.machine.now c.args.point) c.in-State.is
    (c.regions-shaped.ensures.shaped.vertices c.args.point c.vertex.result.now c.vertex.ensures).0).1
