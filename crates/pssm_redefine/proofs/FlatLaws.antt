-- What is gathered of a lineage can be put together.
use Rattle.std.proofs.Common.{◌≡◌, ◌≤◌, ℕ, length, sym, ◌∙◌, ap, arith}
use Rattle.std.proofs.lemmas.List.{length-map}
use Rattle.pssm_model.specs.declared.draft_setting.Draft.{Draft}
use Rattle.pssm_heritage.specs.Heritages.{Lineage, IsLineage}
use Rattle.pssm_model.specs.DraftSettings.{IsInRange}
use Rattle.pssm_redefine.specs.declared.parts.Gathered.{Gathered}
use Rattle.pssm_redefine.specs.Gathering.{IsGathered, vertex_owner, ends_in}
use Rattle.pssm_redefine.proofs.FirstLaws.{few_vertices, few_transitions}

module _ (draft : Draft) (lineage : Lineage) (gathered : Gathered) (h : IsGathered draft lineage gathered) where
  -- Each vertex has its owner.
  pub owners_all : length gathered.owners ≡ length gathered.vertices
  owners_all = ap length h.owners ∙ length-map lineage.vertices.firsts (vertex_owner draft lineage) ∙ sym h.vertices.all

  -- Each transition has its ends.
  pub ends_all : length gathered.ends ≡ length gathered.transitions
  ends_all = ap length h.ends ∙ length-map gathered.transitions (ends_in draft lineage)

  module _ (m : ℕ) (range : IsInRange draft) (of : IsLineage draft m lineage) where
    pub vertices_few : length gathered.vertices ≤ 65535
    vertices_few =
        let all = h.vertices.all in
        let few = few_vertices draft m lineage range of in
        omega arith

    pub transitions_few : length gathered.transitions ≤ 65535
    transitions_few =
        let all = h.transitions.all in
        let few = few_transitions draft m lineage range of in
        omega arith
