-- The ways of routes that fire, one after another.
use Rattle.std.proofs.Common.{◌≡◌, ◌+◌, ◌<◌, ◌++◌, ℕ, List, [], ◌∷◌, length, get_or, take, Contains, IsTrue, true, sym, subst, ap, refl, ◌∙◌, ⊎_elim}
use Rattle.std.proofs.lemmas.List.Elements.{Contains-push, Contains-push_cases, Contains-append_left}
use Rattle.pssm_model.specs.declared.elements.DraftMachine.{DraftMachine}
use Rattle.pssm_model.specs.declared.steps.Route.{Route}
use Rattle.pssm_model.proofs.ElementLaws.{nothing_in_nil}
use Rattle.pssm_plan.specs.declared.ways.Way.{Way}
use Rattle.pssm_plan.specs.Ways.{IsWayIn, AreWaysIn, IsWayTaken, IsWayFired}
use Rattle.pssm_plan.specs.inner.Going.{AreFired}
use Rattle.pssm_plan.proofs.Taken.{none_taken, taken_cases, taken_more, taken_here}

-- no element is among none
pub nothing_among : {X : Type 0} (xs : List X) (y : X) → xs ≡ [] → Contains xs y → ⊥
nothing_among {X} xs y none h = nothing_in_nil y (subst (λ (l : List X). Contains l y) none h)

pub none_are_ways : (m : DraftMachine) (ways : List Way) → ways ≡ [] → AreWaysIn m ways
none_are_ways m ways none way inside = absurd (nothing_among ways way none inside)

-- one more way of the machine
pub one_more_way : (m : DraftMachine) (ways : List Way) (way : Way) → AreWaysIn m ways → IsWayIn m way → AreWaysIn m (ways ++ way ∷ [])
one_more_way m ways way were is other inside =
    ⊎_elim
    (λ was. were other was)
    (λ this. subst (IsWayIn m) this is)
    (Contains-push_cases ways way other inside)

module _ (m : DraftMachine) (routes : List Route) where
  pub fired_none : (ways : List Way) → ways ≡ [] → AreFired m (take 0 routes) ways
  fired_none ways none = record {
    inside = none_are_ways m ways none;
    taken = λ p. (λ h. absurd (nothing_among ways h.0 none h.1), λ h. absurd (none_taken routes p h));
    fired = λ p. (λ h. absurd (nothing_among ways h.0 none h.1), λ h. absurd (none_taken routes p h));
  }

  -- the way of one more route
  module _ (i : ℕ) (d : Route) (ways : List Way) (way : Way) (lt : i < length routes) (of : way.route.value ≡ get_or routes i d)
      (fires : way.fires ≡ true) (h : AreFired m (take i routes) ways) where
    taken_before : (p : Route) → IsWayTaken (ways ++ way ∷ []) p → Contains (take (i + 1) routes) p
    taken_before p t =
        ⊎_elim
        (λ was. taken_more routes i p lt ((h.taken p).0 (t.0, was, t.2)))
        (λ this. subst (λ (q : Route). Contains (take (i + 1) routes) q) (sym of ∙ ap (λ (w : Way). w.route.value) this ∙ t.2) (taken_here routes i d lt))
        (Contains-push_cases ways way t.0 t.1)

    fired_after : (p : Route) → Contains (take (i + 1) routes) p → IsWayFired (ways ++ way ∷ []) p
    fired_after p inside =
        ⊎_elim
        (λ was. (let f = (h.fired p).1 was in (f.0, Contains-append_left ways (way ∷ []) f.0 f.1, f.2, f.3)))
        (λ this. (way, Contains-push ways way, of ∙ this, subst (λ b. IsTrue b) (sym fires) refl))
        (taken_cases routes i d p lt inside)

    pub fired_more : IsWayIn m way → AreFired m (take (i + 1) routes) (ways ++ way ∷ [])
    fired_more is = record {
      inside = one_more_way m ways way h.inside is;
      taken = λ p. (λ t. taken_before p t, λ inside. (let f = fired_after p inside in (f.0, f.1, f.2)));
      fired = λ p. (λ f. taken_before p (f.0, f.1, f.2), λ inside. fired_after p inside);
    }
