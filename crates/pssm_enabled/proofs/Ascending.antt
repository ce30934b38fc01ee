-- The transitions of a path in ascending number, each once, without its start.
use Rattle.std.proofs.Common.{◌≡◌, ◌≢◌, ◌⊎◌, ◌↔◌, ◌<◌, suc, List, [], ◌∷◌, get_or, cond, ltb, eqb, All, Contains, ap, subst, inl, inr, ⊎_elim, arith}
use Rattle.std.proofs.lemmas.Bool.{cond_both, ltb-true, ltb-false, eqb-true, eqb-false}
use Rattle.std.proofs.lemmas.List.Elements.{All-cons, All-contains, Contains-get_or}
use Rattle.std.proofs.lemmas.List.Kept.{AllPairs-cons}
use Rattle.pssm_model.specs.declared.ids.TransId.{TransId}
use Rattle.pssm_model.specs.declared.elements.DraftMachine.{DraftMachine}
use Rattle.pssm_model.specs.declared.steps.Route.{Route}
use Rattle.pssm_model.specs.Routes.{IsAscending}
use Rattle.pssm_model.proofs.ElementLaws.{same_transition, nothing_in_nil}
use Rattle.pssm_model.proofs.RouteLaws.{none_in_order}
use Rattle.pssm_enabled.specs.Starts.{AreStartsWith}
use Rattle.pssm_enabled.specs.Behind.{IsRouteOver}
use Rattle.pssm_enabled.proofs.Members.{in_front, in_rest, front_or_rest}

-- what holds of all that a list contains holds of all its places
pub all_from_contains : {X : Type 0} (P : X → Type 0) (xs : List X) → ((x : X) → Contains xs x → P x) → All P xs
all_from_contains P xs h k d lt = h (get_or xs k d) (Contains-get_or xs k d lt)

-- a transition put where its number belongs
abbrev insert_into : TransId → List TransId → List TransId
insert_into t [] = t ∷ []
insert_into t (u ∷ us) = cond (ltb t.0 u.0) (t ∷ u ∷ us) (cond (eqb t.0 u.0) (u ∷ us) (u ∷ insert_into t us))

-- The list has the transition and what the other one has.
abbrev HasOneMore : TransId → List TransId → List TransId → Type 0
HasOneMore t us more = (x : TransId) → Contains more x ↔ ((t ≡ x) ⊎ Contains us x)

one_more_in_front : (t : TransId) (us : List TransId) → HasOneMore t us (t ∷ us)
one_more_in_front t us x = (
  λ h. front_or_rest t x us h,
  λ h. ⊎_elim (λ same. subst (Contains (t ∷ us)) same (in_front t us)) (λ has. in_rest t x us has) h,
)

one_there : (t u : TransId) (us : List TransId) → t ≡ u → HasOneMore t (u ∷ us) (u ∷ us)
one_there t u us e x = (
  λ h. inr h,
  λ h. ⊎_elim (λ same. subst (Contains (u ∷ us)) (let twice : u ≡ x = cc (e, same) in twice) (in_front u us)) (λ has. has) h,
)

one_more_behind : (t u : TransId) (us more : List TransId) → HasOneMore t us more → HasOneMore t (u ∷ us) (u ∷ more)
one_more_behind t u us more h x = (
  λ has. ⊎_elim
      (λ same. inr (subst (Contains (u ∷ us)) same (in_front u us)))
      (λ rest. ⊎_elim (λ same. inl same) (λ old. inr (in_rest u x us old)) ((h x).0 rest))
      (front_or_rest u x more has),
  λ has. ⊎_elim
      (λ same. in_rest u x more ((h x).1 (inl same)))
      (λ old. ⊎_elim
      (λ same. subst (Contains (u ∷ more)) same (in_front u more))
      (λ rest. in_rest u x more ((h x).1 (inr rest)))
      (front_or_rest u x us old))
      has,
)

inserted : (t : TransId) (us : List TransId) → HasOneMore t us (insert_into t us)
inserted t [] = one_more_in_front t []
inserted t (u ∷ us) =
    cond_both (ltb t.0 u.0) (t ∷ u ∷ us) (cond (eqb t.0 u.0) (u ∷ us) (u ∷ insert_into t us)) (HasOneMore t (u ∷ us))
    (λ _. one_more_in_front t (u ∷ us))
    (λ _. cond_both (eqb t.0 u.0) (u ∷ us) (u ∷ insert_into t us) (HasOneMore t (u ∷ us))
    (λ e. one_there t u us (same_transition t u (eqb-true t.0 u.0 e)))
    (λ _. one_more_behind t u us (insert_into t us) (inserted t us)))

-- The transition has a lower number than all of these.
abbrev IsBelow : TransId → List TransId → Type 0
IsBelow t us = All (λ u. t.0 < u.0) us

head_below : (u : TransId) (us : List TransId) → IsAscending (u ∷ us) → IsBelow u us
head_below u us h k d lt = h 0 (suc k) d (omega arith) (omega arith)

tail_ascends : (u : TransId) (us : List TransId) → IsAscending (u ∷ us) → IsAscending us
tail_ascends u us h i j d lt inside = h (suc i) (suc j) d (omega arith) (omega arith)

below_more : (t u : TransId) (us more : List TransId) → HasOneMore t us more → u.0 < t.0 → IsBelow u us → IsBelow u more
below_more t u us more h lt below =
    all_from_contains (λ x. u.0 < x.0) more (λ x has. ⊎_elim
    (λ same. subst (λ y. u.0 < y.0) same lt)
    (λ old. All-contains (λ y. u.0 < y.0) us x below old)
    ((h x).0 has))

below_less : (t u : TransId) (us : List TransId) → t.0 < u.0 → IsBelow u us → IsBelow t us
below_less t u us lt below k d inside = let there = below k d inside in omega (arith, lt, there)

inserted_ascends : (t : TransId) (us : List TransId) → IsAscending us → IsAscending (insert_into t us)
inserted_ascends t [] h = AllPairs-cons (λ x y. x.0 < y.0) t [] (λ k d lt. absurd (omega arith)) h
inserted_ascends t (u ∷ us) h =
    let below = head_below u us h in
    cond_both (ltb t.0 u.0) (t ∷ u ∷ us) (cond (eqb t.0 u.0) (u ∷ us) (u ∷ insert_into t us)) IsAscending
    (λ e. let lt = ltb-true t.0 u.0 e in
    AllPairs-cons (λ x y. x.0 < y.0) t (u ∷ us) (All-cons (λ x. t.0 < x.0) u us lt (below_less t u us lt below)) h)
    (λ ge. cond_both (eqb t.0 u.0) (u ∷ us) (u ∷ insert_into t us) IsAscending
    (λ _. h)
    (λ ne. AllPairs-cons (λ x y. x.0 < y.0) u (insert_into t us)
    (below_more t u us (insert_into t us) (inserted t us) (let le = ltb-false t.0 u.0 ge in let apart = eqb-false t.0 u.0 ne in omega (arith, le, apart)) below)
    (inserted_ascends t us (tail_ascends u us h))))

-- the transitions other than the start, in ascending number
abbrev others : TransId → List TransId → List TransId
others start [] = []
others start (t ∷ path) = cond (eqb t.0 start.0) (others start path) (insert_into t (others start path))

others_ascend : (start : TransId) (path : List TransId) → IsAscending (others start path)
others_ascend start [] = none_in_order (λ x y. x.0 < y.0)
others_ascend start (t ∷ path) =
    cond_both (eqb t.0 start.0) (others start path) (insert_into t (others start path)) IsAscending
    (λ _. others_ascend start path)
    (λ _. inserted_ascends t (others start path) (others_ascend start path))

-- The list has what the path has but the start.
abbrev HasOthers : TransId → List TransId → List TransId → Type 0
HasOthers start path rest = (u : TransId) → Contains rest u ↔ (Contains path u × (u ≢ start))

others_skip : (start t : TransId) (path rest : List TransId) → t ≡ start → HasOthers start path rest → HasOthers start (t ∷ path) rest
others_skip start t path rest e h u = (
  λ has. (in_rest t u path ((h u).0 has).0, ((h u).0 has).1),
  λ both. ⊎_elim
      (λ same. absurd (both.1 (let back : u ≡ start = cc (same, e) in back)))
      (λ old. (h u).1 (old, both.1))
      (front_or_rest t u path both.0),
)

others_keep : (start t : TransId) (path rest more : List TransId) → t ≢ start → HasOthers start path rest → HasOneMore t rest more
    → HasOthers start (t ∷ path) more
others_keep start t path rest more ne h one u = (
  λ has. ⊎_elim
      (λ same. (subst (Contains (t ∷ path)) same (in_front t path), subst (λ x. x ≢ start) same ne))
      (λ old. (in_rest t u path ((h u).0 old).0, ((h u).0 old).1))
      ((one u).0 has),
  λ both. ⊎_elim
      (λ same. (one u).1 (inl same))
      (λ old. (one u).1 (inr ((h u).1 (old, both.1))))
      (front_or_rest t u path both.0),
)

others_are : (start : TransId) (path : List TransId) → HasOthers start path (others start path)
others_are start [] u = (λ has. absurd (nothing_in_nil u has), λ both. absurd (nothing_in_nil u both.0))
others_are start (t ∷ path) u =
    cond_both (eqb t.0 start.0) (others start path) (insert_into t (others start path)) (HasOthers start (t ∷ path))
    (λ e. others_skip start t path (others start path) (same_transition t start (eqb-true t.0 start.0 e)) (others_are start path))
    (λ e. others_keep start t path (others start path) (insert_into t (others start path))
    (λ same. eqb-false t.0 start.0 e (ap (λ (x : TransId). x.0) same)) (others_are start path) (inserted t (others start path))) u

-- each path has its route
pub some_route_over : (m : DraftMachine) (start : TransId) (starts : List TransId) → AreStartsWith m start starts → (path : List TransId)
    → (q : Route) × IsRouteOver m start path q
some_route_over m start starts are path = (
  record { starts = starts; rest = others start path },
  record { starts = are; rest = others_are start path; ascending = others_ascend start path },
)
