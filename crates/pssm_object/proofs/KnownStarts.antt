-- Whether an event starts a transition, alone or with the others into its join, is known, and so is whether a State reacts.
use Rattle.std.proofs.Common.{◌≡◌, ◌≢◌, ◌<◌, List, [], ◌∷◌, length, Some, None, Contains, refl, sym, ap, subst, ◌∙◌, inl, inr, ⊎_elim}
use Rattle.pssm_model.specs.declared.ids.VertexId.{VertexId}
use Rattle.pssm_model.specs.declared.ids.TransId.{TransId}
use Rattle.pssm_model.specs.declared.ids.SignalId.{SignalId}
use Rattle.pssm_model.specs.declared.elements.DraftMachine.{DraftMachine}
use Rattle.pssm_model.specs.declared.elements.Transition.{Transition}
use Rattle.pssm_model.specs.declared.elements.VertexKind.TheVariants as kinds
use Rattle.pssm_model.specs.declared.steps.Event.{Event}
use Rattle.pssm_model.specs.declared.steps.Event.TheVariants.{Signal, Completion}
use Rattle.pssm_model.specs.Forest.{transition_at, HasKind, LiesInState}
use Rattle.pssm_model.specs.Shapes.{HasShape}
use Rattle.pssm_model.specs.Legs.{Leaves, Enters}
use Rattle.pssm_model.specs.Configuration.{Configuration, IsComplete}
use Rattle.pssm_model.specs.Routes.{Truth, Lists, HasNoTrigger}
use Rattle.pssm_model.specs.WellFormed.{KeepsModelRules}
use Rattle.pssm_model.specs.inner.Listed.{vertex_number}
use Rattle.pssm_model.proofs.ElementLaws.{some_at, mapped_at, lists_at, leaves_one}
use Rattle.pssm_model.proofs.RouteLaws.{in_one, is_one}
use Rattle.pssm_model_laws.proofs.StateRoutes.{leaves_some}
use Rattle.pssm_enabled.specs.Ways.{LeadsOut}
use Rattle.pssm_enabled.specs.Starts.{IsLeftBy, AreCausedBy, AreStarted, AreStartsWith}
use Rattle.pssm_routes.specs.inner.Starts.{IsStartedWith, StartsAmong, Reacts, IsOutranked}
use Rattle.pssm_enabled.proofs.Deciding.{some_transition}
use Rattle.pssm_routes.proofs.Fruitless.{reacts_there}
use Rattle.pssm_routes.proofs.Reaction.{IsReaction, reacts_leads, way_reacts, route_by_reacts}
use Rattle.pssm_enabled.proofs.StartLaws.{entering_is_there, some_starts}
use Rattle.pssm_routes.proofs.Onward.{among_joined, one_onward, some_onward}
use Rattle.pssm_routes.proofs.StartedWith.{started_with}
use Rattle.pssm_enabled.proofs.Trees.{target_some}
use Rattle.pssm_model_laws.proofs.Known.{Known, known_as, known_both, known_not, known_below, known_among, known_all, known_inside, known_number, known_vertex}
use Rattle.pssm_model_laws.proofs.KnownPlaces.{known_vertex_kind, known_in_state}
use Rattle.pssm_object.proofs.MachineLaws.{leaving_there, known_leaves}
use Rattle.pssm_object.proofs.KnownWays.{known_follows, onward_target, known_leads, some_way}

known_signal : (a c : SignalId) → Known (a ≡ c)
known_signal a c = known_as (λ e. ap (λ n. let x : SignalId = record { 0 = n } in x) e) (λ e. ap (λ (x : SignalId). x.0) e) (known_number a.0 c.0)

-- whether it lists none
known_empty : {X : Type 0} (xs : List X) → Known (xs ≡ [])
known_empty [] = inl refl
known_empty (x ∷ xs) = inr (λ e. cc)

module _ (m : DraftMachine) where
  known_lists : (t : TransId) (signal : SignalId) → t.0 < length m.transitions → Known (Lists m t signal)
  known_lists t signal lt =
      let at = some_at m.transitions t.0 lt in
      known_as (lists_at m t at.0 signal at.1).1 (lists_at m t at.0 signal at.1).0 (known_inside known_signal at.0.triggers signal)

  known_no_trigger : (t : TransId) → t.0 < length m.transitions → Known (HasNoTrigger m t)
  known_no_trigger t lt =
      let at = some_at m.transitions t.0 lt in
      let lists = mapped_at (λ (x : Transition). x.triggers) (transition_at m t) at.0 at.1 in
      known_as (λ none. lists ∙ ap Some none) (λ h. let both = sym lists ∙ h in cc) (known_empty at.0.triggers)

  -- what holds of the vertex that a transition leaves, and of all that some leave
  known_of_source : (P : VertexId → Type 0) → ((s : VertexId) → Known (P s)) → (t : TransId) (x : VertexId) → Leaves m t x
      → Known ((s : VertexId) → Leaves m t s → P s)
  known_of_source P each t x leaves =
      known_as
      (λ h s left. subst P (leaves_one m t x s leaves left) h)
      (λ all. all x leaves)
      (each x)

  -- Each of the transitions leaves a vertex.
  abbrev AllLeave : List TransId → Type 0
  AllLeave ts = (t : TransId) → Contains ts t → (s : VertexId) × Leaves m t s

  known_of_sources : (P : VertexId → Type 0) → ((s : VertexId) → Known (P s)) → (ts : List TransId) → AllLeave ts
      → Known ((s : VertexId) → IsLeftBy m ts s → P s)
  known_of_sources P each ts leave =
      known_as
      (λ all s left. all left.0 left.1 s left.2)
      (λ all t inside s leaves. all s (t, inside, leaves))
      (known_all (λ (t : TransId). (s : VertexId) → Leaves m t s → P s) ts
      (λ t inside. (let x = leave t inside in known_of_source P each t x.0 x.1)))

  known_left : (ts : List TransId) (s : VertexId) → Known (IsLeftBy m ts s)
  known_left ts s = known_among (λ (t : TransId). Leaves m t s) ts (λ t inside. known_leaves m t s)

  -- the starts with a transition leave vertices
  start_there : (t : TransId) (v : VertexId) (starts : List TransId) → Enters m t v → AreStartsWith m t starts → (u : TransId) → Contains starts u
      → u.0 < length m.transitions
  start_there t v starts enters are u inside =
      ⊎_elim
      (λ single.
      let same : u ≡ t = is_one t u (subst (λ ts. Contains ts u) single.0 inside) in
      subst (λ (x : TransId). x.0 < length m.transitions) (sym same) (entering_is_there m t v enters))
      (λ join. entering_is_there m u join.0 ((join.3 u).0 inside))
      are

  starts_leave : (t : TransId) (v : VertexId) (starts : List TransId) → Enters m t v → AreStartsWith m t starts → AllLeave starts
  starts_leave t v starts enters are u inside = leaves_some m u (start_there t v starts enters are u inside)

  -- whether the sources of the starts with a transition are among some States
  pub known_sources_among : (states : List VertexId) (t : TransId) (v : VertexId) → Enters m t v → Known (StartsAmong m states t)
  known_sources_among states t v enters =
      let starts = some_starts m t v enters in
      let is = among_joined m states t starts.0 starts.1 in
      known_as
      (λ all. is.0 (λ u s inside leaves. all s (u, inside, leaves)))
      (λ among s left. is.1 among left.0 s left.1 left.2)
      (known_of_sources (Contains states) (known_inside known_vertex states) starts.0 (starts_leave t v starts.0 enters starts.1))

  module _ (now : Configuration) (known : (s : VertexId) → Known (now.Active s)) (complete : (s : VertexId) → Known (IsComplete m now s)) where
    -- whether the signal triggers the one start
    known_alone : (signal : SignalId) (starts : List TransId) → AllLeave starts → Known ((t : TransId) × (starts ≡ t ∷ []) × Lists m t signal)
    known_alone signal [] leave = inr (λ h. let none = h.1 in cc)
    known_alone signal (t ∷ []) leave =
        let x = leave t (in_one t) in
        known_as
        (λ lists. (t, refl, lists))
        (λ h. (let same : h.0 ≡ t = (let is = h.1 in cc) in subst (λ u. Lists m u signal) same h.2))
        (known_lists t signal (leaving_there m t x.0 x.1))
    known_alone signal (t ∷ u ∷ ts) leave = inr (λ h. let several = h.1 in cc)

    -- whether the event causes the starts
    known_caused : (event : Event) (starts : List TransId) → AllLeave starts → Known (AreCausedBy m now event starts)
    known_caused (Signal signal) starts leave = known_alone signal starts leave
    known_caused (Completion q) starts leave =
        known_as
        (λ h. (h.0, h.1.0, h.1.1))
        (λ h. (h.0, (h.1, h.2)))
        (known_both
        (known_left starts q)
        (known_both
        (known_all (HasNoTrigger m) starts (λ t inside. (let x = leave t inside in known_no_trigger t (leaving_there m t x.0 x.1))))
        (known_of_sources (λ s. s ≢ q → IsComplete m now s) (λ s. known_follows (known_not (known_vertex s q)) (complete s)) starts leave)))

    known_together : (event : Event) (starts : List TransId) → AllLeave starts → Known (AreStarted m now event starts)
    known_together event starts leave =
        known_as
        (λ h. record { states = h.0; active = h.1.0; caused = h.1.1 })
        (λ h. (h.states, (h.active, h.caused)))
        (known_both
        (known_of_sources (λ s. HasKind m s kinds.State) (λ s. known_vertex_kind m s kinds.State) starts leave)
        (known_both (known_of_sources now.Active known starts leave) (known_caused event starts leave)))

    -- whether the event starts a transition, alone or with others
    pub known_started : (event : Event) (t : TransId) (v : VertexId) → Enters m t v → Known (IsStartedWith m now event t)
    known_started event t v enters =
        let starts = some_starts m t v enters in
        let is = started_with m now event t starts.0 starts.1 in
        known_as is.0 is.1 (known_together event starts.0 (starts_leave t v starts.0 enters starts.1))

module _ {m : DraftMachine} (rules : KeepsModelRules m) (shape : HasShape m) (now : Configuration) (known : (s : VertexId) → Known (now.Active s))
    (complete : (s : VertexId) → Known (IsComplete m now s)) (truth : Truth) (event : Event) where
  -- whether a State reacts with a transition out of it
  known_by_leaving : (s : VertexId) (t : TransId) → Leaves m t s → Known (IsReaction m now truth event s t)
  known_by_leaving s t leaves =
      let v = target_some m t s leaves in
      let u = some_onward rules t v.0 v.1 in
      let w = onward_target m t u.0 v.0 v.1 u.1 in
      known_as
      (λ h. record { leaves = leaves; started = h.0; onward = u.0; on = u.1; leads = h.1 })
      (λ h. (h.started, subst (LeadsOut m truth None) (one_onward rules t h.onward u.0 h.on u.1) h.leads))
      (known_both (known_started m now known complete event t v.0 v.1) (known_leads shape rules truth None u.0 w.0 w.1))

  known_reaction : (s : VertexId) (t : TransId) → Known (IsReaction m now truth event s t)
  known_reaction s t =
      ⊎_elim
      (λ leaves. known_by_leaving s t leaves)
      (λ other. inr (λ h. other h.leaves))
      (known_leaves m t s)

  reaction_reacts : (s : VertexId) (t : TransId) → IsReaction m now truth event s t → Reacts m now truth event s
  reaction_reacts s t h =
      let way = some_way shape rules truth None h.onward h.leads in
      route_by_reacts rules shape now truth event s t h.leaves
      (way_reacts rules shape now truth event s t h.onward way.0 way.1 h.leaves h.started h.on way.2)

  -- whether a State reacts
  pub known_reacts : (s : VertexId) → Known (Reacts m now truth event s)
  known_reacts s =
      ⊎_elim
      (λ found. inl (reaction_reacts s found.0 found.1))
      (λ none. inr (λ h. let leads = reacts_leads rules shape now truth event s h in none leads.0 leads.1))
      (some_transition m (IsReaction m now truth event s) (known_reaction s) (λ t h. leaving_there m t s h.leaves))

  -- whether a State in it does
  pub known_outranked : (s : VertexId) → Known (IsOutranked m now truth event s)
  known_outranked s =
      known_as
      (λ h. (vertex_number h.0, h.2.0, h.2.1))
      (λ h. (h.0.0, reacts_there m now truth event shape h.0 h.1, (h.1, h.2)))
      (known_below
      (λ k. Reacts m now truth event (vertex_number k) × LiesInState m (vertex_number k) s)
      (λ k. known_both (known_reacts (vertex_number k)) (known_in_state shape (vertex_number k) s))
      (length m.vertices))
