-- the State beside the join, or the source
use Rattle.std.proofs.Common.{◌∙◌, sym, subst, inl, inr}
use Rattle.pssm_model.specs.Forest.{LiesInState}
use Rattle.pssm_model.proofs.ElementLaws.{leaves_one}
use Rattle.pssm_enabled.proofs.ListPlaces.{refuted}
use Rattle.pssm_enabled.proofs.StartLaws.{starts_alone}
use Rattle.pssm_routes.proofs.Spans.{join_home, some_beside}
use Rattle.pssm_routes.proofs.areas.anchor_of.Goals as goal

pub state_beside-requires-clause-beside : goal.state_beside-requires-clause-beside
state_beside-requires-clause-beside c =
    some_beside c.regions-shaped.ensures.shaped c.requires.rules c.args.t c.source-source.result c.target-v.result c.home.result
    c.source-source.ensures.leaves c.target-v.ensures.enters (c.is_join.ensures.0 c.if-is_join.true) c.home.ensures.home

pub returns-then-is_join-clause-anchor : goal.returns-then-is_join-clause-anchor
returns-then-is_join-clause-anchor c =
    let m = c.args.machine.now in
    let join = c.is_join.ensures.0 c.if-is_join.true in
    let beside = c.state_beside.ensures.beside in
    inr (
      c.target-v.result,
      c.target-v.ensures.enters,
      join,
      beside.0,
      beside.1 ∙ sym (join_home c.regions-shaped.ensures.shaped c.target-v.result c.home.result c.target-v.ensures.there join c.home.ensures.home),
      λ q leaves. subst (λ x. LiesInState m x c.state_beside.result) (leaves_one m c.args.t c.source-source.result q c.source-source.ensures.leaves leaves)
          beside.2,
    )

pub returns-clause-anchor : goal.returns-clause-anchor
returns-clause-anchor c =
    inl (
      c.source-source.ensures.leaves,
      starts_alone c.args.machine.now c.args.t c.target-v.result c.target-v.ensures.enters
          (refuted c.is_join.result c.if-is_join.false c.is_join.ensures),
    )
