-- Routes whose first starts ascend, one neighbour after another.
use Rattle.std.proofs.Common.{◌≡◌, ◌≢◌, ◌<◌, ◌≤◌, ◌+◌, ◌-◌, ℕ, List, [], ◌∷◌, length, get_or, All, refl, sym, subst, ⊎_elim, arith, ◌∙◌}
use Rattle.std.proofs.lemmas.Bool.{cases_lt}
use Rattle.std.proofs.lemmas.List.{get_or_default}
use Rattle.pssm_model.specs.declared.ids.TransId.{TransId}
use Rattle.pssm_model.specs.declared.steps.Route.{Route}
use Rattle.pssm_model.specs.FiringSets.{StartsBefore, IsListed}

-- starts before one that has a start and starts before another
pub starts_through : (p q r : Route) → q.starts ≢ [] → StartsBefore p q → StartsBefore q r → StartsBefore p r
starts_through p q r some first second t u ts us left right = from q.starts refl
  where
    from : (middle : List TransId) → q.starts ≡ middle → t.0 < u.0
    from [] e = absurd (some e)
    from (v ∷ vs) e =
        let a = first t v ts vs left e in
        let b = second v u vs us e right in
        omega (arith, a, b)

-- The first so many are in order.
abbrev pub FirstAreListed : List Route → ℕ → Type 0
FirstAreListed routes n = (j k : ℕ) (d : Route) → j < k → k < n → StartsBefore (get_or routes j d) (get_or routes k d)

pub one_is_listed : (routes : List Route) → FirstAreListed routes 1
one_is_listed routes j k d lt inside = absurd (omega (arith, lt, inside))

-- what starts after the last of them comes after them all
pub one_more_listed : (routes : List Route) (n : ℕ) (p q : Route) → 0 < n → n < length routes → All (λ (r : Route). r.starts ≢ []) routes
    → p ≡ get_or routes (n - 1) p → q ≡ get_or routes n q → StartsBefore p q → FirstAreListed routes n → FirstAreListed routes (n + 1)
one_more_listed routes n p q some inside starts last next before first j k d lt below =
    ⊎_elim
    (λ old. first j k d lt old)
    (λ (from : n ≤ k). let here : k ≡ n = omega (arith, from, below) in
    let after : StartsBefore (get_or routes (n - 1) d) (get_or routes n d) =
    subst (λ x. StartsBefore x (get_or routes n d)) (last ∙ get_or_default routes (n - 1) p d (omega (arith, some, inside)))
    (subst (StartsBefore p) (next ∙ get_or_default routes n q d inside) before) in
    subst (λ (i : ℕ). StartsBefore (get_or routes j d) (get_or routes i d)) (sym here)
    (⊎_elim
    (λ (less : j < n - 1). starts_through (get_or routes j d) (get_or routes (n - 1) d) (get_or routes n d)
    (starts (n - 1) d (omega (arith, some, inside)))
    (first j (n - 1) d less (omega (arith, some)))
    after)
    (λ (least : n - 1 ≤ j). let same : n - 1 ≡ j = omega (arith, least, lt, here) in
    subst (λ (i : ℕ). StartsBefore (get_or routes i d) (get_or routes n d)) same after)
    (cases_lt j (n - 1))))
    (cases_lt k n)

pub all_are_listed : (routes : List Route) (n : ℕ) → length routes ≤ n → FirstAreListed routes n → IsListed routes
all_are_listed routes n le first j k d lt inside = first j k d lt (omega (arith, le, inside))

-- neighbours of a list in order
pub neighbours_listed : (routes : List Route) (n : ℕ) (p q : Route) → 0 < n → n < length routes → p ≡ get_or routes (n - 1) p
    → q ≡ get_or routes n q → IsListed routes → StartsBefore p q
neighbours_listed routes n p q some inside last next listed =
    subst (λ x. StartsBefore x q) (get_or_default routes (n - 1) q p (omega (arith, some, inside)) ∙ sym last)
    (subst (StartsBefore (get_or routes (n - 1) q)) (sym next) (listed (n - 1) n q (omega (arith, some)) inside))
