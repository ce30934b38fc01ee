-- One mark more is taken away.
use Rattle.std.proofs.Common.{◌≡◌, ◌<◌, ◌+◌, ℕ, List, [], ◌∷◌, ◌++◌, length, get_or, take, Contains, inl, inr, ⊎_elim, Bool, true, false, subst, sym, ◌∙◌, arith}
use Rattle.std.proofs.Math.ListN.{set}
use Rattle.std.proofs.lemmas.List.{take_more}
use Rattle.std.proofs.lemmas.List.Elements.{Contains-append_left, Contains-push, Contains-push_cases}
use Rattle.pssm_model.specs.declared.ids.RegionId.{RegionId}
use Rattle.pssm_config.specs.inner.Clearing.{AreCleared}
use Rattle.pssm_config.proofs.Putting.{put_region}

pub cleared_none : (marks : List Bool) → AreCleared marks [] marks
cleared_none marks r = (λ h. (h, λ c. absurd (omega (arith, c.1))), λ h. h.0)

cleared_push : (old new : List Bool) (before : List RegionId) (last : RegionId) → last.0 < length new
    → AreCleared old before new → AreCleared old (before ++ last ∷ []) (set new last.0 false)
cleared_push old new before last lt so r = elim (put_region new last r false false lt) [
  | inl (same, is) ↦
      let There : RegionId → Type 0 = λ q. Contains (before ++ last ∷ []) q in
      (λ h. absurd (let clash : false ≡ true = sym is ∙ h in cc), λ h. absurd (h.1 (subst There (sym same) (Contains-push before last))))
  | inr (other, is) ↦ (
    λ h.
        let was = (so r).0 (sym is ∙ h) in
        (was.0, λ c. ⊎_elim was.1 (λ same. other (sym same)) (Contains-push_cases before last r c)),
    λ h. is ∙ (so r).1 (h.0, λ c. h.1 (Contains-append_left before (last ∷ []) r c)),
  )
]

pub cleared_more : (old new : List Bool) (regions : List RegionId) (n : ℕ) (d : RegionId) → n < length regions → (get_or regions n d).0 < length new
    → AreCleared old (take n regions) new → AreCleared old (take (n + 1) regions) (set new (get_or regions n d).0 false)
cleared_more old new regions n d lt place so =
    let Cleared : List RegionId → Type 0 = λ rs. AreCleared old rs (set new (get_or regions n d).0 false) in
    subst Cleared (sym (take_more regions n d lt)) (cleared_push old new (take n regions) (get_or regions n d) place so)
