-- the region owns the State that owns the vertex
use Rattle.std.proofs.Common.{◌∙◌, Some, ap, subst}
use Rattle.pssm_model.specs.declared.elements.Vertex.{Vertex}
use Rattle.pssm_model.specs.declared.elements.VertexKind.TheVariants as kinds
use Rattle.pssm_model.specs.Shapes.{OwnsVertex}
use Rattle.pssm_model.proofs.ElementLaws.{mapped_at}
use Rattle.pssm_model.proofs.Nesting.{home_of_point}
use Rattle.pssm_legs.proofs.PathRegions.{kind_there}
use Rattle.pssm_legs.proofs.entering.owns_owner.Goals as goal

pub is_owned_by-requires : goal.is_owned_by-requires
is_owned_by-requires c =
    kind_there c.args.machine.now c.in-State.s kinds.State
    (subst (OwnsVertex c.args.machine.now c.args.v) c.in-State.is
    (c.regions-shaped.ensures.shaped.vertices c.args.v c.vertex.result.now c.vertex.ensures).0).1

pub returns-in-State : goal.returns-in-State
returns-in-State c =
    λ owned. home_of_point c.args.machine.now c.args.v c.in-State.s c.args.r
    (mapped_at (λ (x : Vertex). x.owner) _ _ c.vertex.ensures ∙ ap Some c.in-State.is)
    (c.is_owned_by.ensures.0 owned)
