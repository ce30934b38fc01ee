-- The ways of a list between the first that calls an item and the last.
use Rattle.std.proofs.Common.{◌≡◌, ◌+◌, ◌-◌, ◌<◌, ◌≤◌, ℕ, List, Some, length, take, drop, get_or, slice_get, Contains, arith, refl, sym, ap, ⊎_elim, ◌∙◌}
use Rattle.std.proofs.lemmas.Bool.{cases_lt}
use Rattle.std.proofs.lemmas.List.{get_or-take, get_or-drop, length-take-le, length-drop}
use Rattle.std.proofs.lemmas.Option.{slice_get_read}
use Rattle.pssm_model.specs.declared.elements.DraftMachine.{DraftMachine}
use Rattle.pssm_model.specs.declared.steps.Item.{Item}
use Rattle.pssm_plan.specs.declared.ways.Way.{Way}
use Rattle.pssm_plan.specs.inner.ByWays.{calls_by}

module _ {X : Type 0} (xs : List X) (first last : ℕ) where
  pub part_contains : (y : X) (i : ℕ) → last ≤ length xs → first ≤ i → i < last → get_or xs i y ≡ y → Contains (take (last - first) (drop first xs)) y
  part_contains y i there from to at =
      let rest = length-drop first xs in
      let whole = length-take-le (last - first) (drop first xs) (omega (arith, rest)) in
      let place : first + (i - first) ≡ i = omega arith in (
        i - first,
        omega (arith, whole),
        get_or-take (last - first) (drop first xs) (i - first) y (omega arith)
            ∙ get_or-drop first xs (i - first) y ∙ ap (λ (n : ℕ). get_or xs n y) place ∙ at,
      )

-- no way before the first place calls the item, and none from the last place on
module _ (m : DraftMachine) (ways : List Way) (item : Item) (first last : ℕ)
    (before : (k : ℕ) (way : Way) → k < first → slice_get ways k ≡ Some way → calls_by m way item → ⊥)
    (behind : (k : ℕ) (way : Way) → last ≤ k → slice_get ways k ≡ Some way → calls_by m way item → ⊥) where
  calling_between : (way : Way) (h : Contains ways way) → calls_by m way item → (first ≤ h.0) × (h.0 < last)
  calling_between way h called =
      let at = slice_get_read ways (length ways) h.0 way refl h.1 (sym h.2) in (
        ⊎_elim (λ lt. absurd (before h.0 way lt at called)) (λ le. le) (cases_lt h.0 first),
        ⊎_elim (λ lt. lt) (λ le. absurd (behind h.0 way le at called)) (cases_lt h.0 last),
      )

  pub between_calls : last ≤ length ways → (way : Way) → Contains ways way → calls_by m way item → Contains (take (last - first) (drop first ways)) way
  between_calls there way h called =
      let is = calling_between way h called in part_contains ways first last way h.0 there is.0 is.1 h.2

  pub none_between : last ≤ first → (way : Way) → Contains ways way → calls_by m way item → ⊥
  none_between over way h called = (let is = calling_between way h called in let low = is.0 in let high = is.1 in absurd (omega arith))
