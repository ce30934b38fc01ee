-- The State beside a join, and the innermost region in which all vertices of a route lie, one vertex after another.
use Rattle.std.proofs.Common.{◌≡◌, ◌⊎◌, ◌<◌, ◌≤◌, ◌+◌, ◌-◌, ℕ, List, [], ◌∷◌, length, take, get_or, Some, Contains, refl, sym, subst, ◌∙◌, inl, inr, ⊎_elim, arith}
use Rattle.std.proofs.lemmas.List.{take_all}
use Rattle.pssm_model.specs.declared.ids.VertexId.{VertexId}
use Rattle.pssm_model.specs.declared.ids.RegionId.{RegionId}
use Rattle.pssm_model.specs.declared.ids.TransId.{TransId}
use Rattle.pssm_model.specs.declared.elements.DraftMachine.{DraftMachine}
use Rattle.pssm_model.specs.declared.elements.Transition.{Transition}
use Rattle.pssm_model.specs.declared.elements.TransKind.{TransKind}
use Rattle.pssm_model.specs.declared.elements.VertexKind.TheVariants as kinds
use Rattle.pssm_model.specs.declared.elements.Owner.TheVariants.{Region, State}
use Rattle.pssm_model.specs.declared.elements.Element.TheVariants as elements
use Rattle.pssm_model.specs.declared.elements.FaultPlace.TheVariants as places
use Rattle.pssm_model.specs.declared.steps.Route.{Route}
use Rattle.pssm_model.specs.Forest.{transition_at, owner_of, HasKind, LiesInState, IsOrLiesIn, IsHome, IsScope, HasRegionsAbove}
use Rattle.pssm_model.specs.Forest.LiesUnder.{owned, further}
use Rattle.pssm_model.specs.Shapes.{HasShape}
use Rattle.pssm_model.specs.Legs.{Leaves, Enters, Goes, On}
use Rattle.pssm_model.specs.Routes.{IsStateRoute}
use Rattle.pssm_model.specs.WellFormed.{KeepsModelRules}
use Rattle.pssm_model.specs.WellFormed.Breaks.{E07}
use Rattle.pssm_model_laws.specs.inner.RouteWords.{IsEndOf}
use Rattle.pssm_model.proofs.ElementLaws.{mapped_at, leaves_one, enters_one, nothing_in_nil}
use Rattle.pssm_model.proofs.RouteLaws.{is_one}
use Rattle.pssm_model.proofs.OwnerChains.{under_further}
use Rattle.pssm_model.proofs.Nesting.{home_of_vertex}
use Rattle.pssm_model_laws.proofs.Known.{Known, sure, known_as, known_both, known_below}
use Rattle.pssm_model_laws.proofs.KnownPlaces.{known_vertex_kind as known_kind, known_owner, vertex_of}
use Rattle.pssm_model_laws.proofs.InnerPaths.{no_circle, home_owner, target_there, vertex_with_kind}
use Rattle.pssm_model_laws.proofs.DownLegs.{known_inside}
use Rattle.pssm_model_laws.proofs.Through.{kinds_clash}
use Rattle.pssm_model_laws.proofs.RouteOrder.{of_start, of_rest, start_or_rest, same_or_join, before_rest}
use Rattle.pssm_model_laws.proofs.RouteSpans.{some_span}
use Rattle.pssm_model_laws.proofs.CommonRegions.{HasOneMore, IsOneOf, scope_same, scope_stays, scope_grows}
use Rattle.pssm_routes.specs.inner.Spans.{IsMetBy, AreAllNear, IsWiderFor, IsBeside}
use Rattle.pssm_routes.proofs.Around.{lies_deeper, fewer_above}
use Rattle.pssm_enabled.proofs.Choosing.{seen_more, seen_last, seen_cases}

-- the kind of a transition that is there
pub goes_by : (m : DraftMachine) (t : TransId) (x : Transition) (kind : TransKind) → transition_at m t ≡ Some x → x.kind ≡ kind → Goes m t kind
goes_by m t x kind e is = subst (Goes m t) is (mapped_at (λ (y : Transition). y.kind) (transition_at m t) x e)

-- how far the climb to the State beside has come
pub record IsNearing (m : DraftMachine) (home : RegionId) (v at : VertexId) (left : ℕ) : Type 0 where
  pub there : at.0 < length m.vertices
  pub within : (s : VertexId) → IsBeside m home v s → IsOrLiesIn m at s
  pub around : IsOrLiesIn m v at
  pub above : (n : ℕ) × (n ≤ left) × HasRegionsAbove m (State at) n

module _ {m : DraftMachine} (shape : HasShape m) where
  -- a vertex has one innermost region
  pub one_home : (v : VertexId) (a b : RegionId) → IsHome m v a → IsHome m v b → a ≡ b
  one_home v a b first second =
      ⊎_elim
      (λ same. same)
      (λ under. ⊎_elim
      (λ same. sym same)
      (λ back. absurd (no_circle shape (Region a) (under_further {m = m} under back)))
      (second.innermost a first.lies))
      (first.innermost b second.lies)

  -- a join lies directly in its innermost region
  pub join_home : (j : VertexId) (h : RegionId) → j.0 < length m.vertices → HasKind m j kinds.Join → IsHome m j h → owner_of m (State j) ≡ Some (Region h)
  join_home j h there join home =
      let owner = home_owner shape j there (λ point. ⊎_elim
      (λ k. kinds_clash m j kinds.Join kinds.EntryPoint (λ e. cc) join k)
      (λ k. kinds_clash m j kinds.Join kinds.ExitPoint (λ e. cc) join k)
      point) in
      subst (λ r. owner_of m (State j) ≡ Some (Region r)) (one_home j owner.0 h (home_of_vertex m j owner.0 owner.1) home) owner.1

  known_beside : (h : RegionId) (v s : VertexId) → Known (IsBeside m h v s)
  known_beside h v s =
      known_as
      (λ all. (all.0, all.1.0, all.1.1))
      (λ all. (all.0, (all.1, all.2)))
      (known_both (known_kind m s kinds.State) (known_both (known_owner m (State s) (Region h)) (known_inside shape v s)))

  -- beside a join lies a State in which the sources lie
  pub some_beside : KeepsModelRules m → (t : TransId) (s j : VertexId) (h : RegionId) → Leaves m t s → Enters m t j → HasKind m j kinds.Join → IsHome m j h
      → (x : VertexId) × IsBeside m h s x
  some_beside rules t s j h leaves enters join home =
      let here = join_home j h (target_there shape t j enters) join home in
      let found = sure
      (known_below (λ i. IsBeside m h s (vertex_of i)) (λ i. known_beside h s (vertex_of i)) (length m.vertices))
      (λ none. rules (places.At (elements.Vertex j)) 7 (E07 (
        join,
        inr (λ beside.
            let owner = beside.4 in
            let same : beside.1 ≡ h = cc (owner, here) in
            none (
              beside.0.0,
              vertex_with_kind shape beside.0 kinds.State beside.2,
              (
                beside.2,
                subst (λ r. owner_of m (State beside.0) ≡ Some (Region r)) same beside.3,
                beside.5.inside t s (enters, leaves),
              ),
            )),
      ))) in
      (vertex_of found.0, found.2)

  pub nearing_begins : (home : RegionId) (v : VertexId) (left : ℕ) → v.0 < length m.vertices → HasRegionsAbove m (State v) left → IsNearing m home v v left
  nearing_begins home v left there above = record {
    there = there;
    within = λ s beside. inr beside.2;
    around = inl refl;
    above = (left, omega arith, above);
  }

  -- what lies in a State that lies directly in the region has another home
  deeper_home : (home : RegionId) (at s : VertexId) → owner_of m (State s) ≡ Some (Region home) → LiesInState m at s → IsHome m at home → ⊥
  deeper_home home at s owner lies is =
      ⊎_elim
      (λ same. no_circle shape (State s) (further owner (owned (subst (λ r. owner_of m (Region r) ≡ Some (State s)) (sym same) lies.1))))
      (λ under. no_circle shape (State s) (further owner (under_further {m = m} under (owned lies.1))))
      (is.innermost lies.0 lies.2)

  module _ (home : RegionId) (v at : VertexId) (left : ℕ) (h : IsNearing m home v at left) (beside : (s : VertexId) × IsBeside m home v s) where
    pub nearing_home : IsHome m at home → IsBeside m home v at
    nearing_home is =
        ⊎_elim
        (λ same. subst (IsBeside m home v) (sym same) beside.1)
        (λ lies. absurd (deeper_home home at beside.0 beside.1.1 lies is))
        (h.within beside.0 beside.1)

    beyond : (IsHome m at home → ⊥) → (s : VertexId) → IsBeside m home v s → LiesInState m at s
    beyond none s is =
        ⊎_elim
        (λ same. absurd (none (subst (λ x. IsHome m x home) (sym same) (home_of_vertex m s home is.1))))
        (λ lies. lies)
        (h.within s is)

    pub nearing_further : (IsHome m at home → ⊥) → (s : VertexId) × LiesInState m at s
    nearing_further none = (beside.0, beyond none beside.0 beside.1)

    pub nearing_more : (IsHome m at home → ⊥) → (q : VertexId) → q.0 < length m.vertices → LiesInState m at q
        → ((s : VertexId) → LiesInState m at s → IsOrLiesIn m q s) → IsNearing m home v q (left - 1)
    nearing_more none q there lies innermost =
        let less = fewer_above at q h.above.0 lies h.above.2 in
        let fewer = less.1 in
        let most = h.above.1 in
        record {
          there = there;
          within = λ s is. innermost s (beyond none s is);
          around = ⊎_elim
              (λ same. inr (subst (λ x. LiesInState m x q) (sym same) lies))
              (λ deep. inr (lies_deeper v at q deep lies))
              h.around;
          above = (less.0, omega (arith, fewer, most), less.2);
        }

    pub nearing_end : left ≤ 0 → IsBeside m home v at
    nearing_end out =
        ⊎_elim
        (λ same. subst (IsBeside m home v) (sym same) beside.1)
        (λ lies.
        let less = fewer_above at beside.0 h.above.0 lies h.above.2 in
        let fewer = less.1 in
        let most = h.above.1 in
        absurd (omega (arith, fewer, most, out)))
        (h.within beside.0 beside.1)

module _ (m : DraftMachine) where
  -- one vertex more
  wider_scope : (P Q : VertexId → Type 0) (s w : VertexId) (c r : RegionId) → HasOneMore P Q w → P s → IsScope m P c → IsWiderFor m c s w r → IsScope m Q r
  wider_scope P Q s w c r more is scope wider =
      ⊎_elim
      (λ stays. subst (IsScope m Q) (sym stays.1) (scope_stays m P Q s w more c scope stays.0))
      (λ grows. scope_grows m P Q s w more c r is scope grows.0 grows.1)
      wider

  module _ (t : TransId) (s : VertexId) (leaves : Leaves m t s) where
    -- at first the ends of the start
    pub met_begins : (w : VertexId) (more : List TransId) (r : RegionId) → Enters m t w → IsScope m (IsOneOf s w) r
        → IsScope m (IsMetBy m t (take 0 more) []) r
    met_begins w more r enters scope =
        scope_same m (IsOneOf s w) (IsMetBy m t (take 0 more) []) r
        (λ v met. ⊎_elim
        (λ ends. ⊎_elim (λ l. inl (leaves_one m t v s l leaves)) (λ e. inr (enters_one m t v w e enters)) ends)
        (λ others. ⊎_elim (λ none. absurd (nothing_in_nil none.0 none.1)) (λ none. absurd (nothing_in_nil none.0 none.1)) others)
        met)
        (λ v one. ⊎_elim
        (λ same. inl (inl (subst (Leaves m t) (sym same) leaves)))
        (λ same. inl (inr (subst (Enters m t) (sym same) enters)))
        one)
        scope

    -- the source of one start more
    start_more : (more : List TransId) (n : ℕ) (d : TransId) (w : VertexId) → n < length more → Leaves m (get_or more n d) w
        → HasOneMore (IsMetBy m t (take n more) []) (IsMetBy m t (take (n + 1) more) []) w
    start_more more n d w lt out = record {
      kept = λ v met. ⊎_elim
          (λ ends. inl ends)
          (λ others. ⊎_elim (λ by. inr (inl (by.0, seen_more more n d lt by.0 by.1, by.2))) (λ by. inr (inr by)) others)
          met;
      more = inr (inl (get_or more n d, seen_last more n d lt, out));
      only = λ v met. ⊎_elim
          (λ ends. inl (inl ends))
          (λ others. ⊎_elim
          (λ by. ⊎_elim
          (λ was. inl (inr (inl (by.0, was, by.2))))
          (λ same. inr (leaves_one m (get_or more n d) v w (subst (λ x. Leaves m x v) (sym same) by.2) out))
          (seen_cases more n d lt by.0 by.1))
          (λ by. inl (inr (inr by)))
          others)
          met;
    }

    pub met_start : (more : List TransId) (n : ℕ) (d : TransId) (w : VertexId) (c r : RegionId) → n < length more → Leaves m (get_or more n d) w
        → IsScope m (IsMetBy m t (take n more) []) c → IsWiderFor m c s w r → IsScope m (IsMetBy m t (take (n + 1) more) []) r
    met_start more n d w c r lt out scope wider =
        wider_scope (IsMetBy m t (take n more) []) (IsMetBy m t (take (n + 1) more) []) s w c r (start_more more n d w lt out) (inl (inl leaves)) scope wider

    pub met_starts : (more : List TransId) (n : ℕ) (c : RegionId) → length more ≤ n → IsScope m (IsMetBy m t (take n more) []) c
        → IsScope m (IsMetBy m t more []) c
    met_starts more n c all scope = subst (λ ts. IsScope m (IsMetBy m t ts []) c) (take_all n more all) scope

    -- the target of one transition more
    rest_more : (more rest : List TransId) (n : ℕ) (d : TransId) (w : VertexId) → n < length rest → Enters m (get_or rest n d) w
        → HasOneMore (IsMetBy m t more (take n rest)) (IsMetBy m t more (take (n + 1) rest)) w
    rest_more more rest n d w lt into = record {
      kept = λ v met. ⊎_elim
          (λ ends. inl ends)
          (λ others. ⊎_elim (λ by. inr (inl by)) (λ by. inr (inr (by.0, seen_more rest n d lt by.0 by.1, by.2))) others)
          met;
      more = inr (inr (get_or rest n d, seen_last rest n d lt, into));
      only = λ v met. ⊎_elim
          (λ ends. inl (inl ends))
          (λ others. ⊎_elim
          (λ by. inl (inr (inl by)))
          (λ by. ⊎_elim
          (λ was. inl (inr (inr (by.0, was, by.2))))
          (λ same. inr (enters_one m (get_or rest n d) v w (subst (λ x. Enters m x v) (sym same) by.2) into))
          (seen_cases rest n d lt by.0 by.1))
          others)
          met;
    }

    pub met_rest : (more rest : List TransId) (n : ℕ) (d : TransId) (w : VertexId) (c r : RegionId) → n < length rest → Enters m (get_or rest n d) w
        → IsScope m (IsMetBy m t more (take n rest)) c → IsWiderFor m c s w r → IsScope m (IsMetBy m t more (take (n + 1) rest)) r
    met_rest more rest n d w c r lt into scope wider =
        wider_scope (IsMetBy m t more (take n rest)) (IsMetBy m t more (take (n + 1) rest)) s w c r (rest_more more rest n d w lt into) (inl (inl leaves))
        scope wider

    pub met_all : (more rest : List TransId) (n : ℕ) (c : RegionId) → length rest ≤ n → IsScope m (IsMetBy m t more (take n rest)) c
        → IsScope m (IsMetBy m t more rest) c
    met_all more rest n c all scope = subst (λ ts. IsScope m (IsMetBy m t more ts) c) (take_all n rest all) scope

-- all vertices of a route
module _ {m : DraftMachine} (shape : HasShape m) (rules : KeepsModelRules m) (p : Route) (route : IsStateRoute m p) (t : TransId) (start : Contains p.starts t)
    (more : List TransId) (some : (u : TransId) → Contains p.starts u → (u ≡ t) ⊎ Contains more u)
    (back : (u : TransId) → Contains more u → Contains p.starts u) where
  met_end : (v : VertexId) → IsMetBy m t more p.rest v → IsEndOf m p v
  met_end v met =
      ⊎_elim
      (λ ends. (t, of_start m p t start, ends))
      (λ others. ⊎_elim
      (λ by. (by.0, of_start m p by.0 (back by.0 by.1), inl by.2))
      (λ by. (by.0, of_rest m p by.0 by.1, inr by.2))
      others)
      met

  target_met : (u : TransId) (v : VertexId) → On p u → Enters m u v → IsMetBy m t more p.rest v
  target_met u v is enters =
      ⊎_elim
      (λ first. ⊎_elim
      (λ same. inl (inr (subst (λ x. Enters m x v) (sym same) enters)))
      (λ join. inl (inr (subst (Enters m t) (enters_one m u join.0 v join.3 enters) join.2)))
      (same_or_join shape rules p route.0 t u start first))
      (λ further. inr (inr (u, further, enters)))
      (start_or_rest m p u is)

  source_met : (u : TransId) (v : VertexId) → On p u → Leaves m u v → IsMetBy m t more p.rest v
  source_met u v is leaves =
      ⊎_elim
      (λ first. ⊎_elim
      (λ same. inl (inl (subst (λ x. Leaves m x v) same leaves)))
      (λ other. inr (inl (u, other, leaves)))
      (some u first))
      (λ further.
      let before = before_rest shape rules p route.0 u further in
      let there = leaves_one m u before.1.at v before.1.leaves leaves in
      target_met before.0 v before.1.first (subst (Enters m before.0) there before.1.enters))
      (start_or_rest m p u is)

  pub met_is_end : (r : RegionId) → IsScope m (IsMetBy m t more p.rest) r → IsScope m (IsEndOf m p) r
  met_is_end r scope =
      scope_same m (IsMetBy m t more p.rest) (IsEndOf m p) r
      (λ v end. ⊎_elim (λ leaves. source_met end.0 v end.1 leaves) (λ enters. target_met end.0 v end.1 enters) end.2)
      met_end scope

  -- they share regions, since some region holds them all
  pub all_near : AreAllNear m t more p.rest
  all_near s v leaves met =
      let span = some_span shape rules p (inl route) in
      (span.0, span.1.common s (t, of_start m p t start, inl leaves), span.1.common v (met_end v met))

-- where the route has one start, and where it has several
pub one_start_alone : (ts : List TransId) (t : TransId) → length ts < 2 → Contains ts t → (u : TransId) → Contains ts u → u ≡ t
one_start_alone [] t few has u inside = absurd (nothing_in_nil u inside)
one_start_alone (x ∷ []) t few has u inside = is_one x u inside ∙ sym (is_one x t has)
one_start_alone (x ∷ y ∷ more) t few has u inside = absurd (omega (arith, few))
