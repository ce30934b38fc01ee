-- A way over junctions and exit points leads out of a transition, or it is known that none does.
use Rattle.std.proofs.Common.{◌<◌, List, [], ◌∷◌, ◌++◌, length, Option, Some, None, sym, subst, inl, inr, ⊎_elim}
use Rattle.pssm_model.specs.declared.ids.VertexId.{VertexId}
use Rattle.pssm_model.specs.declared.ids.RegionId.{RegionId}
use Rattle.pssm_model.specs.declared.ids.TransId.{TransId}
use Rattle.pssm_model.specs.declared.elements.DraftMachine.{DraftMachine}
use Rattle.pssm_model.specs.declared.elements.VertexKind.TheVariants as kinds
use Rattle.pssm_model.specs.Shapes.{HasShape}
use Rattle.pssm_model.specs.Legs.{Leaves, Enters}
use Rattle.pssm_model.specs.Routes.{Truth}
use Rattle.pssm_model.specs.WellFormed.{KeepsModelRules}
use Rattle.pssm_model_laws.specs.inner.RouteWords.{IsThrough}
use Rattle.pssm_model.proofs.ElementLaws.{enters_one}
use Rattle.pssm_model_laws.proofs.Through.{no_cycle, known_through, target_there}
use Rattle.pssm_model_laws.proofs.StateRoutes.{leaves_some}
use Rattle.pssm_routes.specs.inner.Starts.{GoesOnBy}
use Rattle.pssm_enabled.specs.Ways.{IsPassedOver, IsAllowed, IsOpen, LeadsOut, IsWay, IsWayOut}
use Rattle.pssm_enabled.specs.Ways.LeadsOut.{ends, on}
use Rattle.pssm_enabled.specs.Ways.IsWay.{begins, goes_on}
use Rattle.pssm_enabled.proofs.Deciding.{some_transition, true_decided}
use Rattle.pssm_enabled.proofs.Descent.{by_descent}
use Rattle.pssm_enabled.proofs.LeadingOn.{passed_through, known_passed, opens}
use Rattle.pssm_enabled.proofs.StartLaws.{entering_is_there}
use Rattle.pssm_enabled.proofs.Trees.{target_some, known_way}
use Rattle.pssm_enabled.proofs.WayPaths.{way_led}
use Rattle.pssm_model_laws.proofs.Known.{Known, known_as, known_both}
use Rattle.pssm_model_laws.proofs.KnownPlaces.{known_in_region, known_vertex_kind}
use Rattle.pssm_object.proofs.MachineLaws.{leaving_there, known_leaves}

-- whether one follows from another is known where both are
pub known_follows : {P Q : Type 0} → Known P → Known Q → Known (P → Q)
known_follows p q =
    ⊎_elim
    (λ is. ⊎_elim (λ also. inl (λ h. also)) (λ none. inr (λ follows. none (follows is))) q)
    (λ not. inl (λ h. absurd (not h)))
    p

-- the transition by which a route goes on from a start ends somewhere
pub onward_target : (m : DraftMachine) (t u : TransId) (v : VertexId) → Enters m t v → GoesOnBy m t u → (w : VertexId) × Enters m u w
onward_target m t u v enters onward =
    ⊎_elim
    (λ single. (v, subst (λ x. Enters m x v) (sym single.0) enters))
    (λ join. target_some m u join.0 join.3)
    onward

module _ {m : DraftMachine} (shape : HasShape m) (rules : KeepsModelRules m) (truth : Truth) (within : Option RegionId) where
  known_allowed : (v : VertexId) (o : Option RegionId) → Known (IsAllowed m o v)
  known_allowed v None = inl tt
  known_allowed v (Some r) = known_in_region shape v r

  -- whether a transition is open
  known_open : (t : TransId) (v : VertexId) → Enters m t v → Known (IsOpen m truth within t)
  known_open t v enters =
      let s = leaves_some m t (entering_is_there m t v enters) in
      known_as
      (λ h. opens m truth within t v enters h.0 h.1.0 h.1.1)
      (λ h. (h.guard, (h.target v enters, λ entry. h.pass v enters entry)))
      (known_both
      (true_decided m truth t s.0 s.1)
      (known_both
      (known_allowed v within)
      (known_follows (known_vertex_kind m v kinds.EntryPoint) (known_way shape rules truth v (target_there shape t v enters)))))

  out_is_open : {t : TransId} → LeadsOut m truth within t → IsOpen m truth within t
  out_is_open (ends opened enters none) = opened
  out_is_open (on opened enters over leaves out) = opened

  -- where no transition leads out of a junction or exit point, none leads out that ends there
  dead_end : (t : TransId) (v : VertexId) → Enters m t v → IsPassedOver m v → ((u : TransId) → Leaves m u v → LeadsOut m truth within u → ⊥)
      → LeadsOut m truth within t → ⊥
  dead_end t v enters over none (ends {v = w} opened other not) = not (subst (IsPassedOver m) (enters_one m t v w enters other) over)
  dead_end t v enters over none (on {u = u} {v = w} opened other passed leaves out) =
      none u (subst (Leaves m u) (enters_one m t w v other enters) leaves) out

  -- Whether a transition that ends at the vertex leads out is known.
  abbrev IsOutKnown : VertexId → Type 0
  IsOutKnown v = (t : TransId) → Enters m t v → Known (LeadsOut m truth within t)

  out_at_end : (v : VertexId) → (IsThrough m v → ⊥) → IsOutKnown v
  out_at_end v none t enters =
      known_as
      (λ opened. ends opened enters (λ over. none (passed_through m v over)))
      (λ out. out_is_open out)
      (known_open t v enters)

  out_or_end : (v : VertexId) → (IsThrough m v → IsOutKnown v) → IsOutKnown v
  out_or_end v further t enters =
      ⊎_elim
      (λ through. further through t enters)
      (λ none. out_at_end v none t enters)
      (known_through m v)

  -- so whether one leads out that leaves the vertex
  abbrev AreNextKnown : VertexId → Type 0
  AreNextKnown v = (u : TransId) (w : VertexId) → Leaves m u v → Enters m u w → IsOutKnown w

  known_next : (v : VertexId) → AreNextKnown v → (u : TransId) → Known (Leaves m u v × LeadsOut m truth within u)
  known_next v next u =
      ⊎_elim
      (λ leaves.
      let w = target_some m u v leaves in
      known_as (λ out. (leaves, out)) (λ h. h.1) (next u w.0 leaves w.1 u w.1))
      (λ other. inr (λ h. other h.0))
      (known_leaves m u v)

  some_next : (v : VertexId) → AreNextKnown v
      → Known ((u : TransId) × (Leaves m u v × LeadsOut m truth within u))
  some_next v next =
      ⊎_elim
      (λ found. inl found)
      (λ none. inr (λ h. none h.0 h.1))
      (some_transition m (λ u. Leaves m u v × LeadsOut m truth within u) (known_next v next) (λ u h. leaving_there m u v h.0))

  -- and whether one does that is open and ends there
  opened_out : (t : TransId) (v : VertexId) → Enters m t v → IsOpen m truth within t → (IsThrough m v → AreNextKnown v)
      → Known (LeadsOut m truth within t)
  opened_out t v enters opened next =
      ⊎_elim
      (λ over. ⊎_elim
      (λ found. inl (on opened enters over found.1.0 found.1.1))
      (λ none. inr (dead_end t v enters over (λ u leaves out. none (u, (leaves, out)))))
      (some_next v (next (passed_through m v over))))
      (λ not. inl (ends opened enters not))
      (known_passed m v)

  out_more : (v : VertexId) → v.0 < length m.vertices
      → ((u : TransId) (w : VertexId) → IsThrough m v → Leaves m u v → Enters m u w → IsThrough m w → IsOutKnown w) → IsOutKnown v
  out_more v there next t enters =
      ⊎_elim
      (λ opened. opened_out t v enters opened
      (λ through u w leaves into. out_or_end w (λ second. next u w through leaves into second)))
      (λ shut. inr (λ out. shut (out_is_open out)))
      (known_open t v enters)

  -- whether a transition leads out is known
  pub known_leads : (t : TransId) (v : VertexId) → Enters m t v → Known (LeadsOut m truth within t)
  known_leads t v enters = by_descent shape rules IsOutKnown out_more v (target_there shape t v enters) t enters

  module _ (start : TransId) where
    -- a way out from the start
    abbrev pub SomeWayOut : Type 0
    SomeWayOut = (last : TransId) × (path : List TransId) × IsWayOut m truth within start last path

    -- a way goes on along what leads out
    way_on : {t : TransId} → LeadsOut m truth within t → (passed : List VertexId) (path : List TransId)
        → IsWay m truth within start t passed path → SomeWayOut
    way_on (ends {t = t} {v = v} opened enters not) passed path way = (
      t,
      path,
      record {
        passed = passed;
        way = way;
        ends = λ w other over. not (subst (IsPassedOver m) (enters_one m t w v other enters) over);
      },
    )
    way_on (on {t = t} {u = u} {v = v} opened enters over leaves out) passed path way =
        way_on out (v ∷ passed) (path ++ u ∷ [])
        (goes_on way enters over (λ again. no_cycle rules v (way_led way v v again enters (passed_through m v over))) leaves (out_is_open out))

    -- so what leads out has a way out
    pub some_way : LeadsOut m truth within start → SomeWayOut
    some_way out = way_on out [] (start ∷ []) (begins (out_is_open out))
