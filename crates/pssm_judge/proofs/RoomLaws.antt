-- One route that has one start alone, in the place of another.
use Rattle.std.proofs.Common.{◌≡◌, List, [], ◌∷◌, length, refl, ap, ◌∙◌, arith}
use Rattle.std.proofs.Math.ListN.{set}
use Rattle.pssm_model.specs.declared.ids.TransId.{TransId}
use Rattle.pssm_model.specs.declared.steps.Route.{Route}

-- the only item, overwritten
pub only_set : {X : Type 0} (xs : List X) (x : X) → length xs ≡ 1 → set xs 0 x ≡ x ∷ []
only_set [] x one = absurd (omega (arith, one))
only_set (y ∷ []) x one = refl
only_set (y ∷ z ∷ xs) x one = absurd (omega (arith, one))

pub no_items : {X : Type 0} (xs : List X) → length xs ≡ 0 → xs ≡ []
no_items [] none = refl
no_items (x ∷ xs) none = absurd (omega (arith, none))

abbrev made : List TransId → List TransId → Route
made starts rest = record { starts = starts; rest = rest }

-- a route by its parts
pub route_is : (route : Route) (starts rest : List TransId) → route.starts ≡ starts → route.rest ≡ rest → route ≡ made starts rest
route_is route starts rest same_starts same_rest =
    ap (λ (x : List TransId). made x route.rest) same_starts ∙ ap (λ (x : List TransId). made starts x) same_rest
