-- Which of the true transitions out of a late origin a word settles.
use Rattle.std.proofs.Common.{◌≡◌, ◌%◌, ◌<◌, ◌≤◌, ℕ, List, [], ◌∷◌, Some, Result, IfOk, length, slice_get, get_or, sym, ap, subst, ◌∙◌, arith}
use Rattle.std.proofs.lemmas.Nat.{mod_below}
use Rattle.std.proofs.lemmas.Result.{IfOk-weaker}
use Rattle.std.proofs.lemmas.Option.{slice_get-get_or}
use Rattle.pssm_model.specs.declared.ids.VertexId.{VertexId}
use Rattle.pssm_model.specs.declared.ids.TransId.{TransId}
use Rattle.pssm_model.specs.declared.elements.DraftMachine.{DraftMachine}
use Rattle.pssm_model.specs.declared.steps.Route.{Route}
use Rattle.pssm_model.specs.Legs.{Leaves}
use Rattle.pssm_model.specs.Paths.{HasOut}
use Rattle.pssm_model.specs.Routes.{Truth, IsTrueAt}
use Rattle.pssm_model.specs.FiringSets.{IsLateOrigin, IsLateRoute}
use Rattle.pssm_model.specs.WellFormed.{KeepsModelRules}
use Rattle.pssm_routes.specs.LateStarts.{AreTrueFrom, IsSettledStart}
use Rattle.pssm_routes.proofs.SomeLate.{late_branch}

module _ {m : DraftMachine} (rules : KeepsModelRules m) (truth : Truth) (origin : VertexId) (late : IsLateOrigin m origin) (out : HasOut m origin)
    (starts : List TransId) (are : AreTrueFrom m truth origin starts) (word count place : ℕ) (counted : count ≡ length starts)
    (placed : 0 < count → place ≡ word % count) where
  -- there is one
  some_start : 0 < length starts
  some_start =
      let (t, leaves, is) = late_branch rules truth origin late out in
      let inside = ((are.members t).1 (leaves, is)).1 in omega (arith, inside)

  remains : place ≡ word % length starts
  remains = placed (let some = some_start in omega (arith, some, counted)) ∙ ap (λ n. word % n) counted

  place_inside : place < length starts
  place_inside = subst (λ n. n < length starts) (sym remains) (mod_below word (length starts) some_start)

  pub not_past : length starts ≤ place → ⊥
  not_past over = let inside = place_inside in omega (arith, inside, over)

  module _ (t : TransId) (at : t ≡ get_or starts place t) where
    start_true : Leaves m t origin × IsTrueAt m truth t
    start_true = (are.members t).0 (place, place_inside, sym at)

    start_settled : IsSettledStart m truth origin word t
    start_settled = (
      starts,
      are,
      subst (λ n. slice_get starts n ≡ Some t) remains (slice_get-get_or starts place t place_inside ∙ ap Some (sym at)),
    )

    -- The route is a late one that starts with the transition.
    abbrev pub IsLateBy : Route → Type 0
    IsLateBy q = IsLateRoute m truth origin q × (q.starts ≡ t ∷ [])

    -- what is so picked
    module _ {E : Type 0} (result : Result Route E) (picks : IsTrueAt m truth t → IfOk result IsLateBy) where
      pub picked_late : IfOk result (IsLateRoute m truth origin)
      picked_late = IfOk-weaker result IsLateBy (IsLateRoute m truth origin) (λ q h. h.0) (picks start_true.1)

      pub picked_settled : IfOk result (λ q. (u : TransId) × (q.starts ≡ u ∷ []) × IsSettledStart m truth origin word u)
      picked_settled =
          IfOk-weaker result IsLateBy (λ q. (u : TransId) × (q.starts ≡ u ∷ []) × IsSettledStart m truth origin word u)
          (λ q h. (t, h.1, start_settled)) (picks start_true.1)
