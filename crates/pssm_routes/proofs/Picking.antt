-- Routes that are chosen one State after another, until none can join.
use Rattle.std.proofs.Common.{◌≡◌, ◌≢◌, ◌⊎◌, ◌↔◌, ◌<◌, ◌≤◌, ◌+◌, ℕ, Bool, eqb, ne_eqb, List, [], ◌∷◌, ◌++◌, length, take, drop, take-append-drop, get_or, Some, Contains, refl, sym, ap, ap₂, subst, inl, inr, ⊎_elim, ◌∙◌, arith}
use Rattle.std.specs.List.Sorted.{IsPermutation, IsNonDecreasingBy}
use Rattle.std.proofs.lemmas.Bool.{cases_lt, cases_eq, eqb-false}
use Rattle.std.proofs.lemmas.List.{take_more}
use Rattle.std.proofs.lemmas.List.Elements.{Contains-get_or, Contains-push, Contains-push_cases, Contains-append_left, Contains-append_right, Contains-append_cases, All-contains}
use Rattle.std.proofs.lemmas.List.Quantifiers.{all_pairs_push}
use Rattle.std.proofs.lemmas.List.Sorted.{Contains-permutation, IsPermutation-sym}
use Rattle.std.proofs.lemmas.Map.Keys.{apart_from_distinct, IsDistinct-from_apart, IsDistinct-IsPermutation}
use Rattle.pssm_model.specs.declared.ids.VertexId.{VertexId}
use Rattle.pssm_model.specs.declared.ids.RegionId.{RegionId}
use Rattle.pssm_model.specs.declared.ids.TransId.{TransId}
use Rattle.pssm_model.specs.declared.elements.DraftMachine.{DraftMachine}
use Rattle.pssm_model.specs.declared.elements.Owner.TheVariants.{Region, State}
use Rattle.pssm_model.specs.declared.steps.Route.{Route}
use Rattle.pssm_model.specs.Forest.{owner_of, IsOrLiesIn, LiesInState}
use Rattle.pssm_model.specs.declared.steps.Event.{Event}
use Rattle.pssm_model.specs.Shapes.{HasShape}
use Rattle.pssm_model.specs.Legs.{Leaves}
use Rattle.pssm_model.specs.Configuration.{Configuration}
use Rattle.pssm_model.specs.Routes.{Truth, IsSource, IsStateRoute, IsEnabled}
use Rattle.pssm_model.specs.FiringSets.{IsFiringSet, IsListed}
use Rattle.pssm_model.proofs.ElementLaws.{same_transition}
use Rattle.pssm_model.proofs.RouteLaws.{none_in_order}
use Rattle.pssm_model_laws.proofs.RegionChains.{on_one_chain, under_state}
use Rattle.pssm_model_laws.proofs.RouteOrder.{of_start}
use Rattle.pssm_model_laws.proofs.UpAndDown.{source_of}
use Rattle.pssm_model_laws.proofs.Anchors.{sources_within}
use Rattle.pssm_routes.specs.declared.areas.Footprint.{Footprint}
use Rattle.pssm_model.specs.WellFormed.{KeepsModelRules}
use Rattle.pssm_routes.specs.inner.Footprints.{IsFootprintOf, Clash}
use Rattle.pssm_routes.specs.inner.Starts.{IsOutranked, IsCandidate}
use Rattle.pssm_routes.specs.inner.Picks.{first_number, StartApart, IsFreeRoute, IsFreeFrom, IsSpent, IsChosen, IsAdded, IsGrown}
use Rattle.pssm_enabled.proofs.Members.{all_of_members, in_front}
use Rattle.pssm_routes.proofs.Settling.{fires_settled}
use Rattle.pssm_routes.proofs.Joiners.{footprint_in, footprints_more, joiner_can_join, settled_none, settled_more}
use Rattle.pssm_routes.proofs.Judging.{starts_somewhere, closed_full}

-- the first start of a route
first_start : (p : Route) → p.starts ≢ [] → (t : TransId) × Contains p.starts t × (first_number p.starts ≡ t.0)
first_start p some = at p.starts some refl
  where
    at : (ts : List TransId) → ts ≢ [] → p.starts ≡ ts → (t : TransId) × Contains p.starts t × (first_number p.starts ≡ t.0)
    at [] none e = absurd (none refl)
    at (t ∷ ts) none e = (t, subst (λ us. Contains us t) (sym e) (in_front t ts), ap first_number e)

module _ (m : DraftMachine) where
  -- two States in which a State lies, or which it is, are one, or one lies in the other
  around_one : (s a c : VertexId) → IsOrLiesIn m s a → IsOrLiesIn m s c → IsOrLiesIn m a c ⊎ IsOrLiesIn m c a
  around_one s a c (inl same) second = inl (subst (λ x. IsOrLiesIn m x c) same second)
  around_one s a c (inr lies) (inl same) = inr (inr (subst (λ x. LiesInState m x a) same lies))
  around_one s a c (inr lies) (inr other) =
      ⊎_elim
      (λ h. ⊎_elim
      (λ e. inl (inl (one_state lies.0 other.0 e lies.1 other.1)))
      (λ under. inl (inr (other.0, other.1, under_state m (Region lies.0) a other.0 lies.1 under)))
      h)
      (λ h. ⊎_elim
      (λ e. inl (inl (one_state lies.0 other.0 (sym e) lies.1 other.1)))
      (λ under. inr (inr (lies.0, lies.1, under_state m (Region other.0) c lies.0 other.1 under)))
      h)
      (on_one_chain m (State s) lies.0 other.0 lies.2 other.2)
    where
      one_state : (q k : RegionId) → q ≡ k → owner_of m (Region q) ≡ Some (State a) → owner_of m (Region k) ≡ Some (State c) → a ≡ c
      one_state q k e f g =
          let h : owner_of m (Region q) ≡ Some (State c) = subst (λ x. owner_of m (Region x) ≡ Some (State c)) (sym e) g in cc (f, h)

module _ {m : DraftMachine} (rules : KeepsModelRules m) (shape : HasShape m) (now : Configuration) (truth : Truth) (event : Event)
    (states : List VertexId) where
  pub chosen_none : IsChosen m now truth event [] []
  chosen_none = record {
    footprints_are = tt;
    settled = settled_none rules shape now truth event;
    apart = none_in_order (λ (p q : Route). first_number p.starts ≢ first_number q.starts);
  }

  -- routes with a source in common clash
  same_source_clash : (p q : Route) (a c : Footprint) (s : VertexId) → IsStateRoute m p → IsStateRoute m q → IsFootprintOf m p a → IsFootprintOf m q c
      → IsSource m p s → IsSource m q s → Clash m a c
  same_source_clash p q a c s first second footprint other one two =
      inr (inr (around_one m s a.source c.source
      (sources_within shape rules p first a.source s footprint.anchor one)
      (sources_within shape rules q second c.source s other.anchor two)))

  -- and so do routes with a start in common
  same_start_clash : (p q : Route) (a c : Footprint) (t : TransId) → IsStateRoute m p → IsStateRoute m q → IsFootprintOf m p a → IsFootprintOf m q c
      → Contains p.starts t → Contains q.starts t → Clash m a c
  same_start_clash p q a c t first second footprint other one two =
      let s = source_of shape rules p (inl first) t (of_start m p t one) in
      same_source_clash p q a c s.0 first second footprint other (t, one, s.1) (t, two, s.1)

  module _ (routes : List Route) (footprints : List Footprint) (t : TransId) (s : VertexId) (q : Route) (g : Footprint)
      (chosen : IsChosen m now truth event routes footprints) (first : (x : VertexId) → Contains states x → IsOutranked m now truth event x → ⊥)
      (leaves : Leaves m t s) (is : IsFreeRoute m now truth event states footprints t q) (footprint : IsFootprintOf m q g) where
    starts_elsewhere : (p : Route) → Contains routes p → first_number p.starts ≢ first_number q.starts
    starts_elsewhere p there same =
        let able = (chosen.settled.enabled p there).route_of_states in
        let found = footprint_in m routes footprints p chosen.footprints_are there in
        let one = first_start p (starts_somewhere shape rules p able) in
        let two = first_start q (starts_somewhere shape rules q is.enabled.route_of_states) in
        let equal : one.0 ≡ two.0 = same_transition one.0 two.0 (sym one.2 ∙ same ∙ two.2) in
        is.free g footprint (
          found.0,
          found.1,
          same_start_clash p q found.0 g one.0 able is.enabled.route_of_states found.2 footprint one.1
              (subst (Contains q.starts) (sym equal) two.1),
        )

    chosen_more : IsChosen m now truth event (routes ++ q ∷ []) (footprints ++ g ∷ [])
    chosen_more = record {
      footprints_are = footprints_more m routes footprints q g chosen.footprints_are footprint;
      settled = settled_more rules shape now truth event routes q chosen.settled
          (joiner_can_join rules shape now truth event routes footprints chosen.footprints_are chosen.settled.enabled q g
          (λ x source. first x (is.among x source)) is.enabled footprint (is.free g footprint));
      apart = all_pairs_push (λ (p r : Route). first_number p.starts ≢ first_number r.starts) routes q chosen.apart
          (λ k d lt. starts_elsewhere (get_or routes k d) (Contains-get_or routes k d lt));
    }

    now_spent : IsSpent m now truth event states (footprints ++ g ∷ []) s
    now_spent u out joiner =
        joiner.6 (
          g,
          Contains-push footprints g,
          same_source_clash q joiner.0 g joiner.1 s is.enabled.route_of_states joiner.2.route_of_states footprint joiner.5
              (t, is.starts, leaves) (u, joiner.3, out),
        )

    pub grown_by : IsGrown m now truth event states (λ v. v ≡ s) footprints (routes ++ q ∷ []) (footprints ++ g ∷ [])
    grown_by = record {
      chosen = chosen_more;
      spent = λ v same. subst (IsSpent m now truth event states (footprints ++ g ∷ [])) (sym same) now_spent;
      kept = λ a there. Contains-append_left footprints (g ∷ []) a there;
    }

  pub grown_free : (routes more : List Route) (footprints wider : List Footprint) (s : VertexId) (q : Route) → IsChosen m now truth event routes footprints
      → ((x : VertexId) → Contains states x → IsOutranked m now truth event x → ⊥) → IsFreeFrom m now truth event states footprints s q → IsAdded m q routes footprints more wider
      → IsGrown m now truth event states (λ v. v ≡ s) footprints more wider
  grown_free routes more footprints wider s q chosen first is added =
      subst (λ ps. IsGrown m now truth event states (λ v. v ≡ s) footprints ps wider) (sym added.routes_are)
      (subst (λ gs. IsGrown m now truth event states (λ v. v ≡ s) footprints (routes ++ q ∷ []) gs) (sym added.footprints_are)
      (grown_by routes footprints is.0 s q added.footprint chosen first is.1 is.2 added.footprint_is))

  -- where none can join nothing is added
  pub grown_none : (routes : List Route) (footprints : List Footprint) (s : VertexId) → IsChosen m now truth event routes footprints
      → IsSpent m now truth event states footprints s → IsGrown m now truth event states (λ v. v ≡ s) footprints routes footprints
  grown_none routes footprints s chosen spent = record {
    chosen = chosen;
    spent = λ v same. subst (IsSpent m now truth event states footprints) (sym same) spent;
    kept = λ a there. there;
  }

  spent_longer : (footprints wider : List Footprint) (s : VertexId) → ((g : Footprint) → Contains footprints g → Contains wider g)
      → IsSpent m now truth event states footprints s → IsSpent m now truth event states wider s
  spent_longer footprints wider s kept spent t leaves joiner =
      spent t leaves (
        joiner.0,
        joiner.1,
        joiner.2,
        joiner.3,
        joiner.4,
        joiner.5,
        λ clash. joiner.6 (clash.0, kept clash.0 clash.1, clash.2),
      )

  -- one growth after another
  pub grown_both : (P Q These : VertexId → Type 0) (footprints between wider : List Footprint) (routes more : List Route)
      → ((s : VertexId) → These s → P s ⊎ Q s) → IsGrown m now truth event states P footprints routes between → IsGrown m now truth event states Q between more wider
      → IsGrown m now truth event states These footprints more wider
  grown_both P Q These footprints between wider routes more one_of first second = record {
    chosen = second.chosen;
    spent = λ s is. ⊎_elim
        (λ old. spent_longer between wider s second.kept (first.spent s old))
        (λ new. second.spent s new)
        (one_of s is);
    kept = λ g there. second.kept g (first.kept g there);
  }

  -- the States of a list, one more at a time
  pub grown_start : (some : List VertexId) (routes : List Route) (footprints : List Footprint) → IsChosen m now truth event routes footprints
      → IsGrown m now truth event states (Contains (take 0 some)) footprints routes footprints
  grown_start some routes footprints chosen = record {
    chosen = chosen;
    spent = λ s there. absurd (let lt : there.0 < 0 = there.1 in omega arith);
    kept = λ g there. there;
  }

  pub grown_next : (some : List VertexId) (n : ℕ) (d : VertexId) (footprints between wider : List Footprint) (routes more : List Route) → n < length some
      → IsGrown m now truth event states (Contains (take n some)) footprints routes between
      → IsGrown m now truth event states (λ v. v ≡ get_or some n d) between more wider
      → IsGrown m now truth event states (Contains (take (n + 1) some)) footprints more wider
  grown_next some n d footprints between wider routes more lt first second =
      grown_both (Contains (take n some)) (λ v. v ≡ get_or some n d) (Contains (take (n + 1) some)) footprints between wider routes more
      (λ s there. ⊎_elim
      (λ old. inl old)
      (λ here. inr (sym here))
      (Contains-push_cases (take n some) (get_or some n d) s (subst (λ ss. Contains ss s) (take_more some n d lt) there)))
      first second

  -- what was chosen is what fires where no State is left
  pub grown_fires : (footprints wider : List Footprint) (more : List Route)
      → ((s : VertexId) → Contains states s ↔ IsCandidate m now truth event s)
      → IsGrown m now truth event states (Contains states) footprints more wider → IsFiringSet m now truth event more
  grown_fires footprints wider more some grown =
      let settled = grown.chosen.settled in
      (fires_settled rules shape now truth event more).1 (
        settled,
        closed_full rules shape now truth event more wider states grown.chosen.footprints_are some
            (all_of_members (IsEnabled m now truth event) more settled.enabled)
            (λ h. grown.spent h.0 h.2 h.1 h.3 h.4),
      )

-- The set is that of its members.
pub firing_same : (m : DraftMachine) (now : Configuration) (truth : Truth) (event : Event) (xs ys : List Route) → IsPermutation xs ys
    → IsFiringSet m now truth event xs → IsFiringSet m now truth event ys
firing_same m now truth event xs ys moved h =
    let there = λ (p : Route) (in_xs : Contains xs p). Contains-permutation xs ys p moved in_xs in
    let back = λ (p : Route) (in_ys : Contains ys p). Contains-permutation ys xs p (IsPermutation-sym xs ys moved) in_ys in
    record {
      sound = record {
        enabled = all_of_members (IsEnabled m now truth event) ys (λ p in_ys. All-contains (IsEnabled m now truth event) xs p h.sound.enabled (back p in_ys));
        agree = λ p q one two. h.sound.agree p q (back p one) (back q two);
        ranked = λ p q one. h.sound.ranked p q (back p one);
      };
      largest = λ others sound more p in_others. there p (h.largest others sound (λ q in_xs. more q (there q in_xs)) p in_others);
    }

-- Whether the first starts of two routes have the same number.
abbrev same_start : Route → Route → Bool
same_start p q = eqb (first_number p.starts) (first_number q.starts)

flips : (p q : Route) → same_start p q ≡ same_start q p
flips p q = turned (first_number p.starts) (first_number q.starts)
  where
    turned : (x y : ℕ) → eqb x y ≡ eqb y x
    turned x y = ⊎_elim (λ (e : x ≡ y). cc) (λ n. ne_eqb x y n ∙ sym (ne_eqb y x (λ e. n (sym e)))) (cases_eq x y)

-- routes in ascending order of different first starts
pub sorted_listed : (xs ys : List Route) → IsPermutation xs ys → StartApart xs → IsNonDecreasingBy (λ (p : Route). first_number p.starts) ys → IsListed ys
sorted_listed xs ys moved apart rises i j d lt inside t u ts us first second =
    let distinct = IsDistinct-IsPermutation same_start flips xs ys moved
    (IsDistinct-from_apart same_start xs (λ k l e before below. ne_eqb (first_number (get_or xs k e).starts) (first_number (get_or xs l e).starts)
    (apart k l e before below))) in
    let differ = apart_from_distinct same_start ys i j d distinct lt inside in
    let le = rises i j d (omega (arith, lt)) inside in
    let a : first_number (get_or ys i d).starts ≡ t.0 = ap first_number first in
    let c : first_number (get_or ys j d).starts ≡ u.0 = ap first_number second in
    let ne = eqb-false (first_number (get_or ys i d).starts) (first_number (get_or ys j d).starts) differ in
    less (first_number (get_or ys i d).starts) (first_number (get_or ys j d).starts) le ne a c
  where
    less : (x y : ℕ) → x ≤ y → x ≢ y → x ≡ t.0 → y ≡ u.0 → t.0 < u.0
    less x y le ne e f = ⊎_elim
        (λ (lt : x < y). omega (arith, lt, e, f))
        (λ (ge : y ≤ x). absurd (ne (omega (arith, le, ge))))
        (cases_lt x y)

-- the members of a list that is split
module _ {X : Type 0} (xs front back : List X) (n : ℕ) (first : front ≡ take n xs) (last : back ≡ drop n xs) where
  whole : xs ≡ front ++ back
  whole = sym (take-append-drop n xs) ∙ sym (ap₂ (λ (us vs : List X). us ++ vs) first last)

  pub on_one_side : (x : X) → Contains xs x → Contains back x ⊎ Contains front x
  on_one_side x there = ⊎_elim
      (λ before. inr before)
      (λ after. inl after)
      (Contains-append_cases front back x (subst (λ ys. Contains ys x) whole there))

  pub in_front_part : (x : X) → Contains front x → Contains xs x
  in_front_part x there = subst (λ ys. Contains ys x) (sym whole) (Contains-append_left front back x there)

  pub in_back_part : (x : X) → Contains back x → Contains xs x
  in_back_part x there = subst (λ ys. Contains ys x) (sym whole) (Contains-append_right front back x there)
