-- The transitions of a route, one after another: where it goes on, that it does not come back, and how two of its transitions stand to each other.
use Rattle.std.proofs.Common.{◌≡◌, ◌≢◌, ◌⊎◌, Some, Contains, refl, sym, subst, ◌∙◌, inl, inr, ⊎_elim}
use Rattle.std.proofs.lemmas.List.Elements.{Contains-append_left, Contains-append_right}
use Rattle.pssm_model.specs.declared.ids.VertexId.{VertexId}
use Rattle.pssm_model.specs.declared.ids.RegionId.{RegionId}
use Rattle.pssm_model.specs.declared.ids.TransId.{TransId}
use Rattle.pssm_model.specs.declared.elements.DraftMachine.{DraftMachine}
use Rattle.pssm_model.specs.declared.elements.VertexKind.{VertexKind}
use Rattle.pssm_model.specs.declared.elements.VertexKind.TheVariants as kinds
use Rattle.pssm_model.specs.declared.elements.Owner.TheVariants.{Region, State}
use Rattle.pssm_model.specs.declared.elements.Element.TheVariants as elements
use Rattle.pssm_model.specs.declared.elements.FaultPlace.TheVariants as places
use Rattle.pssm_model.specs.declared.steps.Route.{Route}
use Rattle.pssm_model.specs.Forest.{owner_of, HasKind, IsStateOrFinal, LiesInRegion}
use Rattle.pssm_model.specs.Legs.{Leaves, Enters, On}
use Rattle.pssm_model.specs.Routes.{IsRoute, IsReached, GoesOnAt, HasStarts}
use Rattle.pssm_model.specs.Routes.IsReached.{start, on}
use Rattle.pssm_model.specs.Paths.{IsInner, ComesAfter, IsPseudostate, LeadsOn}
use Rattle.pssm_model.specs.Paths.ComesAfter.{end, inner}
use Rattle.pssm_model.specs.Paths.LeadsOn.{next, after}
use Rattle.pssm_model.specs.Shapes.{HasShape}
use Rattle.pssm_model.specs.WellFormed.{KeepsModelRules}
use Rattle.pssm_model.specs.WellFormed.Breaks.{E05, E08, E15, E16, E19}
use Rattle.pssm_model_laws.specs.inner.RouteWords.{IsThrough}
use Rattle.pssm_model.proofs.ElementLaws.{enters_one}
use Rattle.pssm_model.proofs.RouteLaws.{is_one, reached_is_on}
use Rattle.pssm_model_laws.proofs.Known.{known_transition}
use Rattle.pssm_model_laws.proofs.InnerPaths.{GoesIn, kind_of, target_there, not_state_or_final, after_no_exit, after_no_join, entry_after}

-- The route comes from the first transition to the second.
pub data Along (m : DraftMachine) (p : Route) (t : TransId) : TransId → Type 0 where
  itself : On p t → Along m p t t
  goes : {u w : TransId} {v : VertexId} → Along m p t u → Enters m u v → Leaves m w v → Contains p.rest w → Along m p t w

-- A transition of the rest goes on from where the first ends, and the route comes from it to the second.
pub record GoesNext (m : DraftMachine) (p : Route) (t u : TransId) : Type 0 where
  pub next : TransId
  pub at : VertexId
  pub enters : Enters m t at
  pub leaves : Leaves m next at
  pub in_rest : Contains p.rest next
  pub along : Along m p next u

module _ (m : DraftMachine) (p : Route) where
  pub of_rest : (u : TransId) → Contains p.rest u → On p u
  of_rest u h = Contains-append_right p.starts p.rest u h

  pub of_starts : (u : TransId) → Contains p.starts u → On p u
  of_starts u h = Contains-append_left p.starts p.rest u h

  pub along_begins : {t u : TransId} → Along m p t u → On p t
  along_begins (itself is) = is
  along_begins (goes a e l h) = along_begins a

  pub along_ends : {t u : TransId} → Along m p t u → On p u
  along_ends (itself is) = is
  along_ends (goes {w = w} a e l h) = of_rest w h

  pub along_further : {t u w : TransId} → Along m p t u → Along m p u w → Along m p t w
  along_further a (itself is) = a
  along_further a (goes b e l h) = goes (along_further a b) e l h

  -- it is the same transition, or the route goes on
  pub along_cases : {t u : TransId} → Along m p t u → (t ≡ u) ⊎ GoesNext m p t u
  along_cases (itself is) = inl refl
  along_cases {t = t} (goes {u = k} {w = w} {v = v} a e l h) =
      ⊎_elim
      (λ same. inr (record {
        next = w;
        at = v;
        enters = subst (λ x. Enters m x v) (sym same) e;
        leaves = l;
        in_rest = h;
        along = itself (of_rest w h);
      }))
      (λ more. inr (record {
        next = more.next;
        at = more.at;
        enters = more.enters;
        leaves = more.leaves;
        in_rest = more.in_rest;
        along = goes more.along e l h;
      }))
      (along_cases a)

-- Two transitions of the route go on from a fork or an entry point, one to the first and the other to the second.
pub record Branch (m : DraftMachine) (p : Route) (t u : TransId) : Type 0 where
  pub at : VertexId
  pub before : TransId
  pub first : TransId
  pub second : TransId
  pub kind : HasKind m at kinds.Fork ⊎ HasKind m at kinds.EntryPoint
  pub before_on : On p before
  pub enters : Enters m before at
  pub leaves_first : Leaves m first at
  pub leaves_second : Leaves m second at
  pub first_rest : Contains p.rest first
  pub second_rest : Contains p.rest second
  pub apart : first ≢ second
  pub to_first : Along m p first t
  pub to_second : Along m p second u

pub branch_turned : {m : DraftMachine} {p : Route} {t u : TransId} → Branch m p t u → Branch m p u t
branch_turned b = record {
  at = b.at;
  before = b.before;
  first = b.second;
  second = b.first;
  kind = b.kind;
  before_on = b.before_on;
  enters = b.enters;
  leaves_first = b.leaves_second;
  leaves_second = b.leaves_first;
  first_rest = b.second_rest;
  second_rest = b.first_rest;
  apart = λ same. b.apart (sym same);
  to_first = b.to_second;
  to_second = b.to_first;
}

pub branch_further : {m : DraftMachine} {p : Route} {k t u : TransId} (b : Branch m p k u) → Along m p b.first t → Branch m p t u
branch_further b a = record {
  at = b.at;
  before = b.before;
  first = b.first;
  second = b.second;
  kind = b.kind;
  before_on = b.before_on;
  enters = b.enters;
  leaves_first = b.leaves_first;
  leaves_second = b.leaves_second;
  first_rest = b.first_rest;
  second_rest = b.second_rest;
  apart = b.apart;
  to_first = a;
  to_second = b.to_second;
}

-- Both end on one join.
abbrev pub Beside : DraftMachine → TransId → TransId → Type 0
Beside m t u = (j : VertexId) × HasKind m j kinds.Join × Enters m t j × Enters m u j

-- how two transitions of a route stand to each other
abbrev pub StandsTo : DraftMachine → Route → TransId → TransId → Type 0
StandsTo m p t u = Along m p t u ⊎ Along m p u t ⊎ Beside m t u ⊎ Branch m p t u

-- The vertices lie in different regions of one State.
pub record LiesApart (m : DraftMachine) (v w : VertexId) : Type 0 where
  pub state : VertexId
  pub first : RegionId
  pub second : RegionId
  pub apart : first ≢ second
  pub owns_first : owner_of m (Region first) ≡ Some (State state)
  pub owns_second : owner_of m (Region second) ≡ Some (State state)
  pub lies_first : LiesInRegion m v first
  pub lies_second : LiesInRegion m w second

through_pseudo : (m : DraftMachine) (v : VertexId) → IsThrough m v → IsPseudostate m v
through_pseudo m v h =
    ⊎_elim
    (λ k. (kinds.Junction, k, tt))
    (⊎_elim (λ k. (kinds.Fork, k, tt)) (⊎_elim (λ k. (kinds.Join, k, tt)) (⊎_elim (λ k. (kinds.EntryPoint, k, tt)) (λ k. (kinds.ExitPoint, k, tt)))))
    h

pub through_not_ends : (m : DraftMachine) (v : VertexId) → IsThrough m v → IsStateOrFinal m v → ⊥
through_not_ends m v h ends =
    ⊎_elim
    (λ k. not_state_or_final m v kinds.Junction ends k (λ c. cc) (λ c. cc))
    (⊎_elim
    (λ k. not_state_or_final m v kinds.Fork ends k (λ c. cc) (λ c. cc))
    (⊎_elim
    (λ k. not_state_or_final m v kinds.Join ends k (λ c. cc) (λ c. cc))
    (⊎_elim
    (λ k. not_state_or_final m v kinds.EntryPoint ends k (λ c. cc) (λ c. cc))
    (λ k. not_state_or_final m v kinds.ExitPoint ends k (λ c. cc) (λ c. cc)))))
    h

module _ {m : DraftMachine} (shape : HasShape m) (p : Route) (route : IsRoute m p) where
  through_kind : (w : TransId) (v : VertexId) (kind : VertexKind) → Contains p.rest w → Leaves m w v → HasKind m v kind → GoesOnAt m p v kind
      → IsThrough m v
  through_kind w v kinds.Junction h l k at = inl k
  through_kind w v kinds.Fork h l k at = inr (inl k)
  through_kind w v kinds.Join h l k at = inr (inr (inl k))
  through_kind w v kinds.EntryPoint h l k at = inr (inr (inr (inl k)))
  through_kind w v kinds.ExitPoint h l k at = inr (inr (inr (inr k)))
  through_kind w v kinds.State h l k at = absurd (at w h l)
  through_kind w v kinds.Final h l k at = absurd (at w h l)
  through_kind w v kinds.Initial h l k at = absurd (at w h l)
  through_kind w v kinds.DeepHistory h l k at = absurd (at w h l)
  through_kind w v kinds.ShallowHistory h l k at = absurd (at w h l)
  through_kind w v kinds.Choice h l k at = absurd (at w h l)
  through_kind w v kinds.Terminate h l k at = absurd (at w h l)

  -- where the route goes on is a vertex through which routes go
  pub goes_through : (u w : TransId) (v : VertexId) → On p u → Enters m u v → Leaves m w v → Contains p.rest w → IsThrough m v
  goes_through u w v is e l h =
      let kind = kind_of shape v (target_there shape u v e) in
      through_kind w v kind.0 h l kind.1 (route.goes_on u v kind.0 is e kind.1)

  leads : {t u : TransId} {v x : VertexId} → Along m p t u → Leaves m t v → Enters m u x → IsPseudostate m v → IsPseudostate m x → LeadsOn m v x
  leads {t = t} (itself is) l e first last = next first last (inl (t, l, e))
  leads (goes {u = u} {w = w} {v = q} a f k h) l e first last =
      let between = through_pseudo m q (goes_through u w q (along_ends m p a) f k h) in
      after (leads a l f first between) (next between last (inl (w, k, e)))

  module _ (rules : KeepsModelRules m) where
    -- the route does not come back to a vertex
    pub no_way_back : (t u : TransId) (v : VertexId) → Along m p t u → Leaves m t v → Enters m u v → IsThrough m v → ⊥
    no_way_back t u v a l e through =
        rules (places.At (elements.Vertex v)) 19 (E19 (leads a l e (through_pseudo m v through) (through_pseudo m v through)))

    pub next_no_way_back : (t u : TransId) (v : VertexId) → GoesNext m p t u → On p t → Enters m t v → Enters m u v → ⊥
    next_no_way_back t u v more is e f =
        let same = enters_one m t more.at v more.enters e in
        no_way_back more.next u v more.along (subst (Leaves m more.next) same more.leaves) f
        (subst (IsThrough m) same (goes_through t more.next more.at is more.enters more.leaves more.in_rest))

    -- and no transition comes after itself
    pub never_again : (t : TransId) (h : GoesNext m p t t) → ⊥
    never_again t h = next_no_way_back t t h.at h (along_ends m p h.along) h.enters h.enters

    -- from a vertex that goes in the route takes an inner path
    pub route_comes : {t u : TransId} {x : VertexId} (o : VertexId) → GoesIn m o → Leaves m t o → Along m p t u → Enters m u x → ComesAfter m t x
    route_comes o inside l (itself is) e = end e
    route_comes {t = t} {x = x} o inside l (goes {u = u} {w = w} {v = v} a f k h) e =
        let before : ComesAfter m t v = route_comes o inside l a f in
        let on_inner = λ (is : IsInner m v). (let comes : ComesAfter m t x = inner w before is k e in comes) in
        ⊎_elim
        (λ junction. on_inner (inl junction))
        (⊎_elim
        (λ fork. on_inner (inr (inl fork)))
        (⊎_elim
        (λ join. absurd (after_no_join shape rules o inside l before join))
        (⊎_elim
        (λ entry. on_inner (inr (inr entry)))
        (λ exit. absurd (after_no_exit shape rules o v t inside l before exit)))))
        (goes_through u w v (along_ends m p a) f k h)

    -- two ways on lead from a fork or an entry point
    branch_kind : (b t w : TransId) (v : VertexId) → On p b → Enters m b v → Leaves m t v → Leaves m w v → Contains p.rest t → Contains p.rest w → t ≢ w
        → HasKind m v kinds.Fork ⊎ HasKind m v kinds.EntryPoint
    branch_kind b t w v is e l k h g apart =
        ⊎_elim
        (λ junction.
        let one = route.goes_on b v kinds.Junction is e junction in
        absurd (apart (one.3 t (of_rest m p t h) l ∙ sym (one.3 w (of_rest m p w g) k))))
        (⊎_elim
        (λ fork. inl fork)
        (⊎_elim
        (λ join. absurd (rules (places.At (elements.Vertex v)) 5 (E05 (join, inr (inr (t, w, apart, l, k))))))
        (⊎_elim
        (λ entry. inr entry)
        (λ exit. absurd (rules (places.At (elements.Vertex v)) 16 (E16 (exit, inl (inr (t, w, apart, l, k)))))))))
        (goes_through b t v is e l h)

    from_starts : (t u : TransId) → HasStarts m p → Contains p.starts t → Contains p.starts u → Along m p t u ⊎ Beside m t u
    from_starts t u starts h g =
        ⊎_elim
        (λ one.
        let first : t ≡ one.0 = is_one one.0 t (subst (λ ts. Contains ts t) one.1 h) in
        let second : u ≡ one.0 = is_one one.0 u (subst (λ ts. Contains ts u) one.1 g) in
        inl (subst (Along m p t) (first ∙ sym second) (itself (of_starts m p t h))))
        (λ join. inr (join.0, join.1, join.2 t h, join.2 u g))
        starts

    from_start : (t u : TransId) → Contains p.starts t → IsReached m p u → Along m p t u ⊎ Beside m t u
    from_start t u h (start g) = from_starts t u route.starts h g
    from_start t u h (on {u = k} {v = v} r e l g) =
        ⊎_elim
        (λ a. inl (goes {v = v} a e l g))
        (λ beside. inl (goes {v = v}
        (itself (of_starts m p t h))
        (subst (Enters m t) (enters_one m k beside.0 v beside.3 e) beside.2)
        l g))
        (from_start t k h r)

    after_first : (k t u : TransId) (v : VertexId) → On p k → Enters m k v → Leaves m t v → Contains p.rest t → Along m p k u → StandsTo m p t u
    after_first k t u v is e l h a =
        ⊎_elim
        (λ same. inr (inl (subst (λ x. Along m p x t) same (goes {v = v} (itself is) e l h))))
        (λ more.
        let here = enters_one m k more.at v more.enters e in
        ⊎_elim
        (λ same. inl (subst (λ x. Along m p x u) (sym same) more.along))
        (λ apart. inr (inr (inr (record {
          at = v;
          before = k;
          first = t;
          second = more.next;
          kind = branch_kind k t more.next v is e l (subst (Leaves m more.next) here more.leaves) h more.in_rest apart;
          before_on = is;
          enters = e;
          leaves_first = l;
          leaves_second = subst (Leaves m more.next) here more.leaves;
          first_rest = h;
          second_rest = more.in_rest;
          apart = apart;
          to_first = itself (of_rest m p t h);
          to_second = more.along;
        }))))
        (known_transition t more.next))
        (along_cases m p a)

    reached_stand : (t u : TransId) → IsReached m p t → IsReached m p u → StandsTo m p t u
    reached_stand t u (start h) r =
        ⊎_elim (λ a. inl a) (λ beside. inr (inr (inl beside))) (from_start t u h r)
    reached_stand t u (on {u = k} {v = v} r e l h) s =
        let is = reached_is_on m p k r in
        ⊎_elim
        (λ a. after_first k t u v is e l h a)
        (⊎_elim
        (λ a. inr (inl (goes {v = v} a e l h)))
        (⊎_elim
        (λ beside. inr (inl (goes {v = v} (itself (reached_is_on m p u s)) (subst (Enters m u) (enters_one m k beside.0 v beside.2 e) beside.3) l h)))
        (λ b. inr (inr (inr (branch_further b (goes {v = v} b.to_first e l h)))))))
        (reached_stand k u r s)

    pub stand : (t u : TransId) → On p t → On p u → StandsTo m p t u
    stand t u first second = reached_stand t u (route.reached t first) (route.reached u second)

    -- a fork's transitions are the last
    pub fork_last_step : (t u : TransId) (f : VertexId) → HasKind m f kinds.Fork → Leaves m t f → On p t → GoesNext m p t u → ⊥
    fork_last_step t u f fork l is more =
        rules (places.At (elements.Vertex f)) 8 (E08 (
          fork,
          inl (
            t,
            l,
            inr (λ s e ends. through_not_ends m s
                (subst (IsThrough m) (enters_one m t more.at s more.enters e)
                (goes_through t more.next more.at is more.enters more.leaves more.in_rest)) ends),
          ),
        ))

    pub fork_ends_here : (t u : TransId) (f : VertexId) → HasKind m f kinds.Fork → Leaves m t f → Along m p t u → t ≡ u
    fork_ends_here t u f fork l a =
        ⊎_elim (λ same. same) (λ more. absurd (fork_last_step t u f fork l (along_begins m p a) more)) (along_cases m p a)

    -- what comes behind two branches lies apart
    pub branch_apart : (t u : TransId) (v w : VertexId) → Branch m p t u → Enters m t v → Enters m u w → (LiesApart m v w → ⊥) → ⊥
    branch_apart t u v w b e f none =
        ⊎_elim
        (λ fork. rules (places.At (elements.Vertex b.at)) 8 (E08 (
          fork,
          inr (λ beside. (
              let first = fork_ends_here b.first t b.at fork b.leaves_first b.to_first in
              let second = fork_ends_here b.second u b.at fork b.leaves_second b.to_second in
              let enters = subst (λ x. Enters m x v) (sym first) e in
              let ends = subst (λ x. Enters m x w) (sym second) f in
              let into = beside.5.inside b.first v (b.leaves_first, enters) in
              let onto = beside.5.inside b.second w (b.leaves_second, ends) in
              none (record {
                state = beside.0;
                first = into.0;
                second = onto.0;
                apart = λ same. beside.5.apart b.first b.second v w into.0 b.apart (b.leaves_first, enters) (b.leaves_second, ends) into.1 into.2
                    (subst (LiesInRegion m w) (sym same) onto.2);
                owns_first = into.1;
                owns_second = onto.1;
                lies_first = into.2;
                lies_second = onto.2;
              }))),
        )))
        (λ entry. rules (places.At (elements.Vertex b.at)) 15 (E15 (
          entry,
          λ s owner apart. (
              let x = first_target b.first t v b.to_first e in
              let y = first_target b.second u w b.to_second f in
              let into = apart.inside b.first x.0 (b.leaves_first, x.1) in
              let onto = apart.inside b.second y.0 (b.leaves_second, y.1) in
              none (record {
                state = s;
                first = into.0;
                second = onto.0;
                apart = λ same. apart.apart b.first b.second x.0 y.0 into.0 b.apart (b.leaves_first, x.1) (b.leaves_second, y.1) into.1 into.2
                    (subst (LiesInRegion m y.0) (sym same) onto.2);
                owns_first = into.1;
                owns_second = onto.1;
                lies_first = entry_after shape rules b.at s x.0 v b.first into.0 entry owner into.1 b.leaves_first x.1 into.2
                    (route_comes b.at (inr (inr entry)) b.leaves_first b.to_first e);
                lies_second = entry_after shape rules b.at s y.0 w b.second onto.0 entry owner onto.1 b.leaves_second y.1 onto.2
                    (route_comes b.at (inr (inr entry)) b.leaves_second b.to_second f);
              })),
        )))
        b.kind
      where
        first_target : (k l : TransId) (x : VertexId) → Along m p k l → Enters m l x → (y : VertexId) × Enters m k y
        first_target k l x a enters =
            ⊎_elim (λ same. (x, subst (λ z. Enters m z x) (sym same) enters)) (λ more. (more.at, more.enters)) (along_cases m p a)
