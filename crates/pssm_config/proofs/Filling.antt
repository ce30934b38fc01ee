-- Which regions an entry leaves empty no more: the one that the State lies in directly, and its own.
use Rattle.std.proofs.Common.{◌≡◌, ◌↔◌, ◌<◌, List, length, get_or, inl, inr, ⊎_elim, Bool, true, false, IsTrue, subst, sym, ◌∙◌}
use Rattle.std.proofs.Math.ListN.{set}
use Rattle.pssm_model.specs.declared.ids.VertexId.{VertexId}
use Rattle.pssm_model.specs.declared.ids.RegionId.{RegionId}
use Rattle.pssm_model.specs.declared.elements.DraftMachine.{DraftMachine}
use Rattle.pssm_model.specs.Configuration.{IsDirect}
use Rattle.pssm_model.specs.Changes.{FillsOrOwns}
use Rattle.pssm_config.specs.inner.Clearing.{AreCleared}
use Rattle.pssm_config.proofs.Putting.{put_region}
use Rattle.pssm_config.proofs.Holding.{same_owner}
use Rattle.pssm_config.proofs.Finishing.{ListsRegions}

pub filled : (m : DraftMachine) (s : VertexId) (r : RegionId) (old new : List Bool) (regions : List RegionId) → IsDirect m s r → r.0 < length old
    → ListsRegions m s regions → AreCleared (set old r.0 false) regions new
    → (q : RegionId) → IsTrue (get_or new q.0 false) ↔ (IsTrue (get_or old q.0 false) × (FillsOrOwns m s q → ⊥))
filled m s r old new regions direct lt lists cleared q = elim (put_region old r q false false lt) [
  | inl (same, is) ↦
      let Direct : RegionId → Type 0 = λ p. IsDirect m s p in (
        λ h. absurd (let clash : false ≡ true = sym is ∙ ((cleared q).0 h).0 in cc),
        λ h. absurd (h.1 (inl (subst Direct (sym same) direct))),
      )
  | inr (other, is) ↦ (
    λ h.
        let was = (cleared q).0 h in
        (sym is ∙ was.0, λ f. ⊎_elim (λ here. other (same_owner m s r q direct.0 here.0)) (λ own. was.1 ((lists q).1 own)) f),
    λ h. (cleared q).1 (is ∙ h.0, λ c. h.1 (inr ((lists q).0 c))),
  )
]
