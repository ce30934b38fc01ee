-- The starts of a route among which is a transition, and the transition by which a route goes on from them.
use Rattle.std.proofs.Common.{◌≡◌, ◌↔◌, ◌<◌, List, [], ◌∷◌, length, Option, Some, None, option_map, Contains, refl, sym, ap, subst, ◌∙◌, inl, inr, ⊎_elim, arith}
use Rattle.std.proofs.lemmas.Bool.{cases_eq}
use Rattle.std.proofs.lemmas.List.Elements.{All-contains}
use Rattle.std.proofs.lemmas.Option.{slice_get_within}
use Rattle.pssm_model.specs.declared.ids.VertexId.{VertexId}
use Rattle.pssm_model.specs.declared.ids.TransId.{TransId}
use Rattle.pssm_model.specs.declared.elements.DraftMachine.{DraftMachine}
use Rattle.pssm_model.specs.declared.elements.Transition.{Transition}
use Rattle.pssm_model.specs.declared.elements.VertexKind.TheVariants as kinds
use Rattle.pssm_model.specs.declared.steps.Route.{Route}
use Rattle.pssm_model.specs.Forest.{HasKind, transition_at}
use Rattle.pssm_model.specs.Legs.{Enters, transitions_of}
use Rattle.pssm_model.specs.Routes.{IsRoute, IsAscending}
use Rattle.pssm_model.proofs.ElementLaws.{mapped_some, same_vertex, enters_one}
use Rattle.pssm_model.proofs.RouteLaws.{in_one, is_one}
use Rattle.pssm_model_laws.proofs.KnownPlaces.{known_vertex_kind}
use Rattle.pssm_model_laws.proofs.RouteOrder.{of_start, of_rest}
use Rattle.pssm_enabled.specs.Starts.{AreStartsWith}
use Rattle.pssm_enabled.proofs.Ascents.{ascends_pairs}
use Rattle.pssm_enabled.proofs.Deciding.{IsDecided, those}
use Rattle.pssm_enabled.proofs.SameOrder.{ascending_same}

module _ (m : DraftMachine) where
  -- a transition that ends somewhere is there
  pub entering_is_there : (t : TransId) (v : VertexId) → Enters m t v → t.0 < length m.transitions
  entering_is_there t v enters =
      let at = mapped_some (λ (x : Transition). x.target) (transition_at m t) v enters in slice_get_within m.transitions t.0 at.0 at.1

  enters_told : (o : Option Transition) (v : VertexId) → IsDecided (option_map (λ (x : Transition). x.target) o ≡ Some v)
  enters_told None v = inr (λ e. cc)
  enters_told (Some x) v =
      ⊎_elim
      (λ e. inl (ap Some (same_vertex x.target v e)))
      (λ other. inr (λ e. other (let same : x.target ≡ v = cc in ap (λ (w : VertexId). w.0) same)))
      (cases_eq x.target.0 v.0)

  -- the transitions of a route are there
  pub start_there : (p : Route) (t : TransId) → IsRoute m p → Contains p.starts t → t.0 < length m.transitions
  start_there p t route start =
      All-contains (λ (u : TransId). u.0 < length m.transitions) (transitions_of p) t route.in_range (of_start m p t start)

  pub further_there : (p : Route) (t : TransId) → IsRoute m p → Contains p.rest t → t.0 < length m.transitions
  further_there p t route further =
      All-contains (λ (u : TransId). u.0 < length m.transitions) (transitions_of p) t route.in_range (of_rest m p t further)

  -- the starts of a route are those with each of them
  pub starts_of : (p : Route) (t : TransId) → IsRoute m p → Contains p.starts t → AreStartsWith m t p.starts
  starts_of p t route start =
      ⊎_elim
      (λ single.
      let same : t ≡ single.0 = is_one single.0 t (subst (λ ts. Contains ts t) single.1 start) in
      inl (subst (λ x. p.starts ≡ x ∷ []) (sym same) single.1, λ v e. single.2 v (subst (λ x. Enters m x v) same e)))
      (λ join. inr (join.0, join.2 t start, join.1, λ u. (join.2 u, join.3 u), route.ascending.0))
      route.starts

  pub is_among_starts : (t : TransId) (starts : List TransId) → AreStartsWith m t starts → Contains starts t
  is_among_starts t starts h =
      ⊎_elim (λ single. subst (λ ts. Contains ts t) (sym single.0) (in_one t)) (λ join. (join.3 t).1 join.1) h

  -- there is one list of them
  pub one_starts : (t : TransId) (ts us : List TransId) → AreStartsWith m t ts → AreStartsWith m t us → ts ≡ us
  one_starts t ts us first second =
      ⊎_elim
      (λ a. ⊎_elim (λ c. a.0 ∙ sym c.0) (λ join. absurd (a.1 join.0 join.1 join.2)) second)
      (λ join. ⊎_elim
      (λ c. absurd (c.1 join.0 join.1 join.2))
      (λ other.
      let here = enters_one m t other.0 join.0 other.1 join.1 in
      ascending_same ts us join.4 other.4
      (λ u inside. (other.3 u).1 (subst (Enters m u) (sym here) ((join.3 u).0 inside)))
      (λ u inside. (join.3 u).1 (subst (Enters m u) here ((other.3 u).0 inside))))
      second)
      first

  pub some_starts : (t : TransId) (v : VertexId) → Enters m t v → (starts : List TransId) × AreStartsWith m t starts
  some_starts t v e =
      ⊎_elim
      (λ join.
      let count = length m.transitions in
      let all = those (λ u. Enters m u v) (λ u. enters_told (transition_at m u) v) count in (
        all.0,
        inr (
          v,
          e,
          join,
          λ u. (
            λ inside. ((all.1.members u).0 inside).2,
            λ into. (all.1.members u).1 (omega arith, entering_is_there u v into, into),
          ),
          ascends_pairs count 0 all.0 all.1.ascends,
        ),
      ))
      (λ none. (t ∷ [], inl (refl, λ w f join. none (subst (λ x. HasKind m x kinds.Join) (enters_one m t w v f e) join))))
      (known_vertex_kind m v kinds.Join)

  -- the starts with a transition into a join, and with another
  pub starts_joined : (t : TransId) (v : VertexId) (starts : List TransId) → Enters m t v → HasKind m v kinds.Join
      → ((u : TransId) → Contains starts u ↔ Enters m u v) → IsAscending starts → AreStartsWith m t starts
  starts_joined t v starts enters join items ascending = inr (v, enters, join, items, ascending)

  pub starts_alone : (t : TransId) (v : VertexId) → Enters m t v → (HasKind m v kinds.Join → ⊥) → (w : VertexId) → Enters m t w → HasKind m w kinds.Join → ⊥
  starts_alone t v enters none w into join = none (subst (λ x. HasKind m x kinds.Join) (enters_one m t w v into enters) join)
