-- Regions and vertices at the corresponding place.
use Rattle.std.proofs.Common.{◌≡◌, ◌↔◌, ℕ, Bool, IsTrue, Some, subst}
use Rattle.pssm_model.specs.declared.draft_setting.ElementRef.{ElementRef}
use Rattle.pssm_model.specs.declared.draft_setting.Draft.{Draft}
use Rattle.pssm_model.specs.declared.draft_setting.PartRegion.{PartRegion}
use Rattle.pssm_model.specs.declared.draft_setting.PartVertex.{PartVertex}
use Rattle.pssm_model.specs.DraftSettings.{IsInRange, region_of, vertex_of}
use Rattle.pssm_heritage.specs.declared.kinds.ElementKind.TheVariants.{Region, Vertex}
use Rattle.pssm_heritage.specs.Heritages.{Lineage, IsLineage}
use Rattle.pssm_heritage.proofs.ElementLaws.{region_in_range, vertex_in_range}
use Rattle.pssm_breaches.specs.Latest.{IsWithin}
use Rattle.pssm_breaches.specs.Rules.{SameOwner, AreSameRegions, AreSameVertices}
use Rattle.pssm_breaches.specs.inner.Firsts.{OwnersMeet}
use Rattle.pssm_breaches.proofs.FirstLaws.{owners_iff}

pub regions_iff : (draft : Draft) (m : ℕ) (lineage : Lineage) (e f : ElementRef) (region other : PartRegion) (b : Bool) → IsInRange draft → IsLineage draft m lineage
    → IsWithin draft m Region e → IsWithin draft m Region f → region_of draft e ≡ Some region → region_of draft f ≡ Some other
    → IsTrue b ↔ OwnersMeet lineage e.machine region.owner f.machine other.owner → IsTrue b ↔ AreSameRegions draft e f
regions_iff draft m lineage e f region other b range h v w is was meet =
    let p = region_in_range draft e region range is in
    let q = region_in_range draft f other range was in
    let iff = owners_iff draft m lineage e.machine f.machine region.owner other.owner p.0 q.0 h p.1 v.up p.2.owner q.1 w.up q.2.owner in (
      λ t. record { region = region; other = other; is = is; is_other = was; owner = iff.0 (meet.0 t) },
      λ s.
          let a = s.is in
          let c = s.is_other in
          let one : s.region ≡ region = cc in
          let two : s.other ≡ other = cc in
          meet.1 (iff.1 (subst (λ (r : PartRegion). SameOwner draft e.machine r.owner f.machine other.owner) one
          (subst (λ (r : PartRegion). SameOwner draft e.machine s.region.owner f.machine r.owner) two s.owner))),
    )

pub vertices_iff : (draft : Draft) (m : ℕ) (lineage : Lineage) (e f : ElementRef) (vertex other : PartVertex) (b : Bool) → IsInRange draft → IsLineage draft m lineage
    → IsWithin draft m Vertex e → IsWithin draft m Vertex f → vertex_of draft e ≡ Some vertex → vertex_of draft f ≡ Some other → vertex.kind ≡ other.kind
    → IsTrue b ↔ OwnersMeet lineage e.machine vertex.owner f.machine other.owner → IsTrue b ↔ AreSameVertices draft e f
vertices_iff draft m lineage e f vertex other b range h v w is was kind meet =
    let p = vertex_in_range draft e vertex range is in
    let q = vertex_in_range draft f other range was in
    let iff = owners_iff draft m lineage e.machine f.machine vertex.owner other.owner p.0 q.0 h p.1 v.up p.2.owner q.1 w.up q.2.owner in (
      λ t. record { vertex = vertex; other = other; is = is; is_other = was; owner = iff.0 (meet.0 t); kind = kind },
      λ s.
          let a = s.is in
          let c = s.is_other in
          let one : s.vertex ≡ vertex = cc in
          let two : s.other ≡ other = cc in
          meet.1 (iff.1 (subst (λ (r : PartVertex). SameOwner draft e.machine r.owner f.machine other.owner) one
          (subst (λ (r : PartVertex). SameOwner draft e.machine s.vertex.owner f.machine r.owner) two s.owner))),
    )
