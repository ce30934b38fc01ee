-- The transitions of a leg in the order in which they are taken: a chain from its first, in which none stands twice.
use Rattle.std.proofs.Common.{◌≡◌, ◌⊎◌, ◌↔◌, ◌<◌, ◌≤◌, ◌-◌, ℕ, List, [], ◌∷◌, ◌++◌, length, eqb, Contains, refl, sym, subst, ◌∙◌, inl, inr, ⊎_elim, arith}
use Rattle.std.specs.List.{list_any, IsDistinct}
use Rattle.std.proofs.lemmas.Bool.{cases_lt, cases_Bool, eqb-true}
use Rattle.std.proofs.lemmas.List.{length_push}
use Rattle.std.proofs.lemmas.Option.{slice_get_within}
use Rattle.std.proofs.lemmas.List.Elements.{Contains-push, Contains-push_cases, Contains-append_left}
use Rattle.std.proofs.lemmas.Cmp.{nat_eq_equiv}
use Rattle.std.proofs.lemmas.Map.Keys.{IsDistinct-push}
use Rattle.std.proofs.lemmas.Map.Steps.{length-le_from_distinct_below}
use Rattle.std.proofs.lemmas.Map.Views.{Contains-from_any}
use Rattle.pssm_model.specs.declared.ids.VertexId.{VertexId}
use Rattle.pssm_model.specs.declared.ids.TransId.{TransId}
use Rattle.pssm_model.specs.declared.elements.DraftMachine.{DraftMachine}
use Rattle.pssm_model.specs.declared.elements.VertexKind.TheVariants as kinds
use Rattle.pssm_model.specs.declared.steps.Route.{Route}
use Rattle.pssm_model.specs.Shapes.{HasShape}
use Rattle.pssm_model.specs.Forest.{HasKind}
use Rattle.pssm_model.specs.Legs.{Leaves, Enters, On, SameLeg, IsLastVertex}
use Rattle.pssm_model.specs.Legs.SameLeg.{itself, joined}
use Rattle.pssm_model.specs.Items.{PathBefore}
use Rattle.pssm_model.specs.Items.PathBefore.{next, after}
use Rattle.pssm_model.specs.Paths.{IsJunctionPath}
use Rattle.pssm_model.specs.Paths.IsJunctionPath.{one}
use Rattle.pssm_model.specs.Routes.{IsRoute}
use Rattle.pssm_model.specs.WellFormed.{KeepsModelRules}
use Rattle.pssm_model.specs.RouteWords.{IsStepRoute}
use Rattle.pssm_model.proofs.ElementLaws.{only_element, same_transition, enters_one}
use Rattle.pssm_model.proofs.RouteLaws.{in_one, is_one}
use Rattle.pssm_model_laws.proofs.Through.{path_push}
use Rattle.pssm_model_laws.proofs.RouteOrder.{Follows, ComesTo, route_of, on_there, comes_further, no_way_back, through_is_rest}
use Rattle.pssm_model_laws.proofs.RouteOrder.ComesTo.{here, onward}
use Rattle.pssm_model_laws.proofs.LegShapes.{InLeg, in_leg, leg_on, last_step}
use Rattle.pssm_model_laws.proofs.LegShapes.InLeg.{one_and_same, path_to, path_from, in_join, in_fork}
use Rattle.pssm_legs.specs.LegsOf.{StandsBefore}
use Rattle.pssm_legs.specs.inner.Chained.{BeginsChain, IsChainOf}
use Rattle.pssm_legs.proofs.Places.{at_contains, contains_at, at_push_cases}

-- The second transition goes on from the junction on which the first ends.
pub record GoesOn (m : DraftMachine) (p : Route) (t u : TransId) : Type 0 where
  pub junction : VertexId
  pub kind : HasKind m junction kinds.Junction
  pub enters : Enters m t junction
  pub leaves : Leaves m u junction
  pub there : On p u

-- The list begins with the transition, each next goes on from the junction on which the one before ends, and this is its last.
pub data IsChain (m : DraftMachine) (p : Route) (t : TransId) : List TransId → TransId → Type 0 where
  first : IsChain m p t (t ∷ []) t
  further : {ts : List TransId} {u w : TransId} → IsChain m p t ts u → GoesOn m p u w → IsChain m p t (ts ++ w ∷ []) w

-- The list after the transition is a chain from it, whose last ends on the vertex.
pub record IsChaining (m : DraftMachine) (p : Route) (t : TransId) (ts : List TransId) (v : VertexId) : Type 0 where
  pub last : TransId
  pub chain : IsChain m p t (t ∷ ts) last
  pub enters : Enters m last v

-- A transition of the list goes on from the first.
record HasFollower (m : DraftMachine) (p : Route) (ts : List TransId) (t : TransId) : Type 0 where
  follower : TransId
  inside : Contains ts follower
  more : GoesOn m p t follower

-- a path comes to a transition that follows on one to which it comes
module _ {m : DraftMachine} (p : Route) (step : IsStepRoute m p) where
  pub path_follows : (t u : TransId) → PathBefore m p t u → (k : TransId) × ComesTo m p t k × Follows m p k u
  path_follows t u (next is there v k e l) =
      (t, here, record { first = is; further = through_is_rest p step u v there l (inl k); at = v; enters = e; leaves = l })
  path_follows t u (after {u = w} before behind) =
      let x = path_follows t w before in
      let y = path_follows w u behind in
      (y.0, comes_further m p t w y.0 (onward x.1 x.2) y.1, y.2)

  pub path_comes : (t u : TransId) → PathBefore m p t u → ComesTo m p t u
  path_comes t u h = let x = path_follows t u h in onward x.1 x.2

module _ {m : DraftMachine} (shape : HasShape m) (rules : KeepsModelRules m) (p : Route) (step : IsStepRoute m p) where
  route : IsRoute m p
  route = route_of m p step

  -- what is of the route is of the machine
  pub on_within : (t : TransId) → On p t → t.0 < length m.transitions
  on_within t is = let x = on_there shape rules p route t is in slice_get_within m.transitions t.0 x.0 x.1

  -- no transition comes before itself
  pub no_round_path : (t : TransId) → PathBefore m p t t → ⊥
  no_round_path t h = let x = path_follows p step t t h in no_way_back shape rules p route t x.0 x.1 x.2

  -- one transition goes on from a junction
  one_next : (u v w : TransId) → On p u → GoesOn m p u v → GoesOn m p u w → v ≡ w
  one_next u v w is a c =
      let at = enters_one m u c.junction a.junction c.enters a.enters in
      let only = route.goes_on u a.junction kinds.Junction is a.enters a.kind in
      only.3 v a.there a.leaves ∙ sym (only.3 w c.there (subst (Leaves m w) at c.leaves))

  -- from a junction on which one ends, one of the rest goes on
  pub junction_goes_on : (t : TransId) (v : VertexId) → On p t → Enters m t v → HasKind m v kinds.Junction → (u : TransId) × Contains p.rest u × Leaves m u v
  junction_goes_on t v is e k =
      let only = route.goes_on t v kinds.Junction is e k in
      (only.0, through_is_rest p step only.0 v only.1 only.2 (inl k), only.2)

  module _ (t : TransId) (begins : BeginsChain m p t) where
    -- what stands in a chain is of the route
    pub chain_on : (ts : List TransId) (last : TransId) → IsChain m p t ts last → (u : TransId) → Contains ts u → On p u
    chain_on _ _ first u h = subst (On p) (sym (is_one t u h)) begins.on
    chain_on _ last (further {ts = ts} {u = k} before more) u h =
        ⊎_elim (λ old. chain_on ts k before u old) (λ new. subst (On p) new more.there) (Contains-push_cases ts last u h)

    last_in : (ts : List TransId) (last : TransId) → IsChain m p t ts last → Contains ts last
    last_in _ _ first = in_one t
    last_in _ last (further {ts = ts} before more) = Contains-push ts last

    start_in : (ts : List TransId) (last : TransId) → IsChain m p t ts last → Contains ts t
    start_in _ _ first = in_one t
    start_in _ last (further {ts = ts} {u = k} before more) = Contains-append_left ts (last ∷ []) t (start_in ts k before)

    pub last_on : (ts : List TransId) (last : TransId) → IsChain m p t ts last → On p last
    last_on ts last chain = chain_on ts last chain last (last_in ts last chain)

    step_path : (u w : TransId) → On p u → GoesOn m p u w → PathBefore m p u w
    step_path u w is more = next is more.there more.junction more.kind more.enters more.leaves

    -- and of the leg
    chain_leg : (ts : List TransId) (last : TransId) → IsChain m p t ts last → (u : TransId) → Contains ts u → SameLeg m p t u
    chain_leg _ _ first u h = subst (SameLeg m p t) (sym (is_one t u h)) (itself begins.on)
    chain_leg _ last (further {ts = ts} {u = k} before more) u h =
        ⊎_elim
        (λ old. chain_leg ts k before u old)
        (λ new. subst (SameLeg m p t) new
        (leg_on m p t k last (chain_leg ts k before k (last_in ts k before))
        (joined (last_on ts k before) (inl (more.junction, more.kind, more.enters, more.leaves)) (itself more.there))))
        (Contains-push_cases ts last u h)

    -- its last comes after all others
    before_last : (ts : List TransId) (last : TransId) → IsChain m p t ts last → (u : TransId) → Contains ts u → (u ≡ last) ⊎ PathBefore m p u last
    before_last _ _ first u h = inl (is_one t u h)
    before_last _ last (further {ts = ts} {u = k} before more) u h =
        let one_more = step_path k last (last_on ts k before) more in
        ⊎_elim
        (λ old. inr (⊎_elim
        (λ same. subst (λ x. PathBefore m p x last) (sym same) one_more)
        (λ earlier. after earlier one_more)
        (before_last ts k before u old)))
        (λ new. inl (sym new))
        (Contains-push_cases ts last u h)

    -- what stands before another comes before it
    in_order : (ts : List TransId) (last : TransId) → IsChain m p t ts last → (u w : TransId) → StandsBefore ts u w → PathBefore m p u w
    in_order _ _ first u w h =
        let i = (only_element t u h.0 h.3).0 in let j = (only_element t w h.1 h.4).0 in let less = h.2 in absurd (omega (arith, i, j, less))
    in_order _ last (further {ts = ts} {u = k} before more) u w h =
        let less = h.2 in
        let at_end = λ (i : h.0 ≡ length ts) (within : h.1 ≤ length ts). (let wrong : ⊥ = omega (arith, i, within, less) in wrong) in
        ⊎_elim
        (λ second. ⊎_elim
        (λ earlier. in_order ts k before u w (h.0, h.1, less, earlier, second))
        (λ new. absurd (at_end new.0 (let short = slice_get_within ts h.1 w second in omega (arith, short))))
        (at_push_cases ts last u h.0 h.3))
        (λ second. ⊎_elim
        (λ earlier. subst (PathBefore m p u) (sym second.1) (⊎_elim
        (λ same. subst (λ x. PathBefore m p x last) (sym same) (step_path k last (last_on ts k before) more))
        (λ path. after path (step_path k last (last_on ts k before) more))
        (before_last ts k before u (at_contains ts h.0 u earlier))))
        (λ new. absurd (at_end new.0 (let long = second.0 in omega (arith, long))))
        (at_push_cases ts last u h.0 h.3))
        (at_push_cases ts last w h.1 h.4)

    -- of two in it, the one that comes before stands before
    in_place : (ts : List TransId) (last : TransId) → IsChain m p t ts last → (u w : TransId) → Contains ts u → Contains ts w → PathBefore m p u w
        → StandsBefore ts u w
    in_place ts last chain u w a c path =
        let i = contains_at ts u a in
        let j = contains_at ts w c in
        ⊎_elim
        (λ less. (i.0, j.0, less, i.1, j.1))
        (λ upto. ⊎_elim
        (λ more. absurd (no_round_path u (after path (in_order ts last chain w u (j.0, i.0, more, j.1, i.1)))))
        (λ least.
        let same : i.0 ≡ j.0 = omega (arith, upto, least) in
        let at_one : u ≡ w = let at = i.1 in let other = j.1 in cc (same, at, other) in
        absurd (no_round_path u (subst (PathBefore m p u) (sym at_one) path)))
        (cases_lt j.0 i.0))
        (cases_lt i.0 j.0)

    -- each but the last has the one that goes on from it behind it
    followed : (ts : List TransId) (last : TransId) → IsChain m p t ts last → (u : TransId) → Contains ts u → (u ≡ last) ⊎ HasFollower m p ts u
    followed _ _ first u h = inl (is_one t u h)
    followed _ last (further {ts = ts} {u = k} before more) u h =
        ⊎_elim
        (λ old. inr (⊎_elim
        (λ same. record { follower = last; inside = Contains-push ts last; more = subst (λ x. GoesOn m p x last) (sym same) more })
        (λ one. record { follower = one.follower; inside = Contains-append_left ts (last ∷ []) one.follower one.inside; more = one.more })
        (followed ts k before u old)))
        (λ new. inl (sym new))
        (Contains-push_cases ts last u h)

    -- The leg ends where the last one does.
    abbrev EndsWith : TransId → Type 0
    EndsWith last = (v : VertexId) → Enters m last v → HasKind m v kinds.Junction → ⊥

    module _ (ts : List TransId) (last : TransId) (chain : IsChain m p t ts last) (ends : EndsWith last) where
      -- then all to which a path leads from one in it is in it
      path_in : (u w : TransId) → Contains ts u → PathBefore m p u w → Contains ts w
      path_in u w h (next a c v k e l) =
          ⊎_elim
          (λ same. absurd (ends v (subst (λ x. Enters m x v) same e) k))
          (λ f. subst (Contains ts) (one_next u f.follower w a f.more (record { junction = v; kind = k; enters = e; leaves = l; there = c })) f.inside)
          (followed ts last chain u h)
      path_in u w h (after {u = k} before behind) = path_in k w (path_in u k h before) behind

      leg_in : (u : TransId) → SameLeg m p t u → Contains ts u
      leg_in u leg = by (in_leg shape rules p route t u leg)
        where
          by : InLeg m p t u → Contains ts u
          by (one_and_same same) = subst (Contains ts) same (start_in ts last chain)
          by (path_to on) = path_in t u (start_in ts last chain) on
          by (path_from back) = let l = last_step m p u t back in absurd (begins.no_junction l.1.at l.1.leaves l.1.kind)
          by (in_join v k e f) = absurd (begins.no_join v e k)
          by (in_fork v k l g) = absurd (begins.no_fork v l k)

      chain_is_leg : (u : TransId) → Contains ts u ↔ SameLeg m p t u
      chain_is_leg u = (chain_leg ts last chain u, leg_in u)

      chain_is_path : (u w : TransId) → Contains ts u → PathBefore m p u w ↔ StandsBefore ts u w
      chain_is_path u w h = (λ path. in_place ts last chain u w h (path_in u w h path) path, in_order ts last chain u w)

      last_is : (v w : VertexId) → Enters m last v → IsLastVertex m p t w → w ≡ v
      last_is v w e h =
          ⊎_elim
          (λ same. enters_one m last w v (subst (λ x. Enters m x w) same h.2) e)
          (λ f. absurd (h.3 (subst (λ x. HasKind m x kinds.Junction) (enters_one m h.0 f.more.junction w f.more.enters h.2) f.more.kind)))
          (followed ts last chain h.0 (leg_in h.0 h.1))

      last_of : (v : VertexId) → Enters m last v → IsLastVertex m p t v
      last_of v e = (last, chain_leg ts last chain last (last_in ts last chain), e, ends v e)

    junction_path : (ts : List TransId) (last : TransId) (v : VertexId) → IsChain m p t ts last → Enters m last v → IsJunctionPath m ts v
    junction_path _ _ v first e = one e
    junction_path _ last v (further {ts = ts} {u = k} before more) e =
        path_push m ts last more.junction v (junction_path ts k more.junction before more.enters) more.kind more.leaves e

    -- what it says of the leg once it ends on no junction
    pub chain_ends : (ts : List TransId) (v : VertexId) → IsChaining m p t ts v → (HasKind m v kinds.Junction → ⊥) → IsChainOf m p t ts v
    chain_ends ts v h none =
        let ends = λ (w : VertexId) (e : Enters m h.last w) (k : HasKind m w kinds.Junction).
        none (subst (λ x. HasKind m x kinds.Junction) (enters_one m h.last w v e h.enters) k) in
        record {
          leg = chain_is_leg (t ∷ ts) h.last h.chain ends;
          order = chain_is_path (t ∷ ts) h.last h.chain ends;
          path = junction_path (t ∷ ts) h.last v h.chain h.enters;
          last = λ w. (
            last_is (t ∷ ts) h.last h.chain ends v w h.enters,
            λ same. subst (IsLastVertex m p t) (sym same) (last_of (t ∷ ts) h.last h.chain ends v h.enters),
          );
        }

    pub chain_begins : (v : VertexId) → Enters m t v → IsChaining m p t [] v
    chain_begins v e = record { last = t; chain = first; enters = e }

    pub chain_goes_on : (ts : List TransId) (v w : VertexId) (u : TransId) → IsChaining m p t ts v → HasKind m v kinds.Junction → On p u → Leaves m u v
        → Enters m u w → IsChaining m p t (ts ++ u ∷ []) w
    chain_goes_on ts v w u h k is l e = record {
      last = u;
      chain = further h.chain (record { junction = v; kind = k; enters = h.enters; leaves = l; there = is });
      enters = e;
    }

    -- The numbers of the transitions of the list, each once.
    record HasNumbers (ts : List TransId) (ns : List ℕ) : Type 0 where
      count : length ns ≡ length ts
      distinct : IsDistinct eqb ns
      named : (n : ℕ) → Contains ns n → (u : TransId) × Contains ts u × (u.0 ≡ n)

    one_number : (u : TransId) → HasNumbers (u ∷ []) (u.0 ∷ [])
    unfolding IsDistinct
    one_number u = record { count = refl; distinct = (tt, tt); named = λ n h. (u, in_one u, sym (is_one u.0 n h)) }

    not_again : (ts : List TransId) (last u : TransId) → IsChain m p t ts last → GoesOn m p last u → Contains ts u → ⊥
    not_again ts last u chain more inside =
        let one_more = step_path last u (last_on ts last chain) more in
        no_round_path u
        (⊎_elim
        (λ same. subst (λ x. PathBefore m p x u) (sym same) one_more)
        (λ earlier. after earlier one_more)
        (before_last ts last chain u inside))

    number_more : (ts : List TransId) (ns : List ℕ) (last u : TransId) → IsChain m p t ts last → GoesOn m p last u → HasNumbers ts ns
        → HasNumbers (ts ++ u ∷ []) (ns ++ u.0 ∷ [])
    number_more ts ns last u chain more h =
        let count = h.count in
        let long = length_push ts u in
        let wide = length_push ns u.0 in
        let new = λ (inside : Contains ns u.0). (
        let at = h.named u.0 inside in
        not_again ts last u chain more (subst (Contains ts) (same_transition at.0 u at.2) at.1)
        ) in
        record {
          count = omega (arith, count, long, wide);
          distinct = IsDistinct-push nat_eq_equiv ns u.0 h.distinct
              (⊎_elim (λ there. absurd (new (Contains-from_any eqb-true u.0 ns there))) (λ none. none) (cases_Bool (list_any (eqb u.0) ns)));
          named = λ n inside. ⊎_elim
              (λ old. let at = h.named n old in (at.0, Contains-append_left ts (u ∷ []) at.0 at.1, at.2))
              (λ same. (u, Contains-push ts u, same))
              (Contains-push_cases ns u.0 n inside);
        }

    numbers : (ts : List TransId) (last : TransId) → IsChain m p t ts last → (ns : List ℕ) × HasNumbers ts ns
    numbers _ _ first = (t.0 ∷ [], one_number t)
    numbers _ last (further {ts = ts} {u = k} before more) =
        let earlier = numbers ts k before in
        (earlier.0 ++ last.0 ∷ [], number_more ts earlier.0 k last before more earlier.1)

    -- so it is no longer than the machine has transitions
    chain_length : (ts : List TransId) (last : TransId) → IsChain m p t ts last → length ts ≤ length m.transitions
    chain_length ts last chain =
        let all = numbers ts last chain in
        let most = length-le_from_distinct_below all.0 (length m.transitions) all.1.distinct
        (λ n found.
        let at = all.1.named n (Contains-from_any eqb-true n all.0 found) in
        subst (λ k. k < length m.transitions) at.2 (on_within at.0 (chain_on ts last chain at.0 at.1))) in
        subst (λ k. k ≤ length m.transitions) all.1.count most

    pub fewer_left : (ts : List TransId) (v : VertexId) (u : TransId) → IsChaining m p t ts v → HasKind m v kinds.Junction → On p u → Leaves m u v
        → length m.transitions - length (t ∷ (ts ++ u ∷ [])) < length m.transitions - length (t ∷ ts)
    fewer_left ts v u h k is l =
        let long = length_push (t ∷ ts) u in
        let most = chain_length (t ∷ (ts ++ u ∷ [])) u
        (further h.chain (record { junction = v; kind = k; enters = h.enters; leaves = l; there = is })) in
        omega (arith, long, most)

    -- some transition of the route enters the vertex on which it ends so far
    pub chain_enters : (ts : List TransId) (v : VertexId) → IsChaining m p t ts v → (u : TransId) × On p u × Enters m u v
    chain_enters ts v h = (h.last, last_on (t ∷ ts) h.last h.chain, h.enters)
