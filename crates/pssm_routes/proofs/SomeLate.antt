-- From each initial, history and choice vertex with a transition out there is a late route whose guards are true.
use Rattle.std.proofs.Common.{◌≡◌, ◌⊎◌, ◌<◌, ℕ, List, [], ◌∷◌, ◌++◌, ◌%◌, length, slice_get, Some, None, refl, sym, ap, subst, inl, inr, ⊎_elim, ◌∙◌, arith}
use Rattle.std.proofs.lemmas.Nat.{mod-mul-add}
use Rattle.std.proofs.lemmas.Option.{slice_get-get_or}
use Rattle.pssm_model.specs.declared.ids.VertexId.{VertexId}
use Rattle.pssm_model.specs.declared.ids.TransId.{TransId}
use Rattle.pssm_model.specs.declared.elements.DraftMachine.{DraftMachine}
use Rattle.pssm_model.specs.declared.elements.Guard.TheVariants.{Always}
use Rattle.pssm_model.specs.declared.elements.Element.TheVariants as elements
use Rattle.pssm_model.specs.declared.elements.FaultPlace.TheVariants as places
use Rattle.pssm_model.specs.declared.elements.VertexKind.TheVariants as kinds
use Rattle.pssm_model.specs.declared.steps.Route.{Route}
use Rattle.pssm_model.specs.Forest.{HasKind}
use Rattle.pssm_model.specs.Shapes.{HasShape}
use Rattle.pssm_model.specs.Legs.{Leaves, Enters}
use Rattle.pssm_model.specs.Paths.{HasOut, IsInner, IsPseudostate, ComesAfter, Reaches}
use Rattle.pssm_model.specs.Paths.ComesAfter.{end as comes_end, inner as comes_inner}
use Rattle.pssm_model.specs.Paths.Reaches.{by as reaches_by, on as reaches_on}
use Rattle.pssm_model.specs.Routes.{Truth, IsTrueAt, guard_of}
use Rattle.pssm_model.specs.FiringSets.{IsLateOrigin, IsLateRoute}
use Rattle.pssm_model.specs.WellFormed.{KeepsModelRules, HasElse, HasSureBranch, IsComeToLate}
use Rattle.pssm_model.specs.WellFormed.Breaks.{E18}
use Rattle.pssm_model_laws.specs.inner.RouteWords.{IsThrough}
use Rattle.pssm_model.proofs.ElementLaws.{leaves_one}
use Rattle.pssm_model_laws.proofs.KnownPlaces.{known_vertex_kind}
use Rattle.pssm_model_laws.proofs.Through.{known_through, target_there, join_from_state}
use Rattle.pssm_model_laws.proofs.InnerPaths.{late_is_kind, after_no_exit}
use Rattle.pssm_routes.specs.inner.Starts.{GoesOnBy}
use Rattle.pssm_enabled.specs.Ways.{HasWay, LeadsOut, IsWay}
use Rattle.pssm_enabled.specs.Ways.HasWay.{ends as way_ends, over as way_over, all as way_all}
use Rattle.pssm_enabled.specs.Ways.IsWay.{begins}
use Rattle.pssm_enabled.specs.Behind.{CanGoOn, IsRouteBehind}
use Rattle.pssm_routes.specs.LateStarts.{IsSettledStart}
use Rattle.pssm_enabled.proofs.Ascents.{ascends_pairs}
use Rattle.pssm_enabled.proofs.Ascending.{some_route_over}
use Rattle.pssm_enabled.proofs.Leaving.{leaving_is_there}
use Rattle.pssm_routes.proofs.LateRoutes.{late_not_outside}
use Rattle.pssm_enabled.proofs.Deciding.{both_decided, either_decided, some_transition, leaves_decided, always_decided, else_decided, true_out_decided, true_from_decided, those, ascends_length}
use Rattle.pssm_enabled.proofs.Descent.{by_descent}
use Rattle.pssm_enabled.proofs.LeadingOn.{entry_through, known_passed, way_at_end, way_leads, opens}
use Rattle.pssm_enabled.proofs.Trees.{target_some, some_behind}
use Rattle.pssm_routes.proofs.Routed.{over_true, over_routed}
use Rattle.pssm_enabled.proofs.Unguarded.{always_true}

-- a vertex that lacks no sure branch has one
pub sure_branch : (m : DraftMachine) (v : VertexId) → ((HasSureBranch m v → ⊥) → ⊥) → HasSureBranch m v
sure_branch m v lacks_none =
    ⊎_elim
    (λ found. (found.0, found.1.0, found.1.1))
    (λ none. absurd (lacks_none (λ h. none h.0 (h.1, h.2))))
    (some_transition m (λ t. Leaves m t v × (HasElse m t ⊎ (guard_of m t ≡ Some Always)))
    (λ t. both_decided (leaves_decided m t v) (either_decided (else_decided m t) (always_decided m t)))
    (λ t h. leaving_is_there m t v h.0))

-- Some true transition leaves the vertex.
abbrev pub HasTrueBranch : DraftMachine → Truth → VertexId → Type 0
HasTrueBranch m truth v = (t : TransId) × Leaves m t v × IsTrueAt m truth t

-- `else` is true where no other has a true guard
pub true_branch : (m : DraftMachine) (truth : Truth) (v : VertexId) → HasSureBranch m v → HasTrueBranch m truth v
true_branch m truth v (t, leaves, sure) =
    ⊎_elim
    (λ other. ⊎_elim
    (λ found. (found.0, found.1, inl found.2))
    (λ none. (
      t,
      leaves,
      inr (other, λ u w differs here there value. none (u, subst (Leaves m u) (leaves_one m t w v here leaves) there, value)),
    ))
    (true_out_decided m truth v))
    (λ always. (t, leaves, inl (inl always)))
    sure

module _ {m : DraftMachine} (rules : KeepsModelRules m) (truth : Truth) where
  -- a step finds a true branch wherever it comes to one within itself
  pub branch_at : (v : VertexId) → IsComeToLate m v → HasTrueBranch m truth v
  branch_at v come = true_branch m truth v (sure_branch m v (λ lacks. rules (places.At (elements.Vertex v)) 18 (E18 (lacks, come))))

  -- a late origin with a transition out has a true one
  pub late_branch : (v : VertexId) → IsLateOrigin m v → HasOut m v → HasTrueBranch m truth v
  late_branch v late (t, leaves) =
      ⊎_elim
      (λ initial. (t, leaves, always_true rules truth t v leaves (inl initial)))
      (λ more. ⊎_elim
      (λ history. (t, leaves, always_true rules truth t v leaves (inr (inl history))))
      (λ choice. branch_at v (inl choice))
      more)
      late

  module _ (shape : HasShape m) (origin : VertexId) (late : IsLateOrigin m origin) (start : TransId) where
    module _ (leaves : Leaves m start origin) where
      -- A way leads on from the vertex, if a step comes to it within itself after the start.
      abbrev IsOnward : VertexId → Type 0
      IsOnward v = ComesAfter m start v → Reaches m origin v → HasWay m truth v

      module _ (v : VertexId)
          (next : (u : TransId) (w : VertexId) → IsThrough m v → Leaves m u v → Enters m u w → IsThrough m w → IsOnward w)
          (comes : ComesAfter m start v) (reached : Reaches m origin v) where
        next_way : IsThrough m v → IsInner m v → IsPseudostate m v → (t : TransId) (w : VertexId) → Leaves m t v → Enters m t w → HasWay m truth w
        next_way through inner pseudo t w out into =
            ⊎_elim
            (λ second. next t w through out into second (comes_inner t comes inner out into) (reaches_on reached pseudo t out into))
            (λ none. way_at_end m truth w none)
            (known_through m w)

        over_branch : HasKind m v kinds.Junction → HasWay m truth v
        over_branch junction =
            let branch = branch_at v (inr (junction, (origin, late, reached))) in
            let w = target_some m branch.0 v branch.1 in
            way_over (inl junction) branch.1 branch.2 w.1
            (next_way (inl junction) (inl junction) (kinds.Junction, junction, tt) branch.0 w.0 branch.1 w.1)

        over_entry : HasKind m v kinds.EntryPoint → HasWay m truth v
        over_entry entry =
            way_all entry (λ t w out into. next_way (entry_through m v entry) (inr (inr entry)) (kinds.EntryPoint, entry, tt) t w out into)

        onward_here : HasWay m truth v
        onward_here =
            ⊎_elim
            (λ passed. ⊎_elim
            (λ junction. over_branch junction)
            (λ exit. absurd (after_no_exit shape rules origin v start (inl late) leaves comes exit))
            passed)
            (λ none. ⊎_elim
            (λ entry. over_entry entry)
            (λ other. way_ends none other)
            (known_vertex_kind m v kinds.EntryPoint))
            (known_passed m v)

      -- a way leads on from the end of the start, which is no join
      pub late_way : (v : VertexId) → Enters m start v → HasWay m truth v
      late_way v enters =
          by_descent shape rules IsOnward (λ w there next comes reached. onward_here w next comes reached) v (target_there shape start v enters)
          (comes_end enters) (reaches_by start leaves enters)

      pub late_no_join : (v : VertexId) → Enters m start v → HasKind m v kinds.Join → ⊥
      late_no_join v enters join = late_is_kind m origin kinds.State late (join_from_state rules start v origin join enters leaves)

      pub late_on : GoesOnBy m start start
      late_on = inl (refl, late_no_join)

      pub late_outside : (v : VertexId) → Leaves m start v → IsThrough m v → ⊥
      late_outside v left through = late_not_outside m origin late start leaves v left through

      -- a true transition out of a late origin leads out
      pub true_leads : IsTrueAt m truth start → LeadsOut m truth None start
      true_leads is = let v = target_some m start origin leaves in way_leads m truth (late_way v.0 v.1) start v.1 is

      -- a route over a way, and what goes on behind it, is a late one
      pub late_over : (last : TransId) (path : List TransId) (passed : List VertexId) → IsWay m truth None start last passed path → (q : Route)
          → IsRouteBehind m truth start last path q → IsLateRoute m truth origin q × (q.starts ≡ start ∷ [])
      late_over last path passed way q over =
          let starts : q.starts ≡ start ∷ [] =
          ⊎_elim (λ single. single.0) (λ join. absurd (late_no_join join.0 join.1 join.2)) over.over.starts in (
            record {
              origin_is = late;
              route_is = over_routed shape rules truth None start start last path passed way late_on late_outside over.end over.enters over.behind over.goes_on
                  q over.over;
              leaves = (start, starts, leaves);
              guards = over_true shape rules truth None start start last path passed way late_on late_outside over.end over.enters over.behind over.goes_on
                  q over.over;
            },
            starts,
          )

      -- from each true transition out of a late origin a late route goes on
      pub late_by : IsTrueAt m truth start → (q : Route) × IsLateRoute m truth origin q × (q.starts ≡ start ∷ [])
      late_by is =
          let v = target_some m start origin leaves in
          let on : CanGoOn m truth v.0 = (late_way v.0 v.1, late_no_join v.0 v.1) in
          let behind = some_behind shape rules truth v.0 (target_there shape start v.0 v.1) on in
          let made = some_route_over m start (start ∷ []) (inl (refl, late_no_join)) ((start ∷ []) ++ behind.0) in
          let way : IsWay m truth None start start [] (start ∷ []) = begins (opens m truth None start v.0 v.1 is tt (λ entry. on.0)) in
          let is_late = late_over start (start ∷ []) [] way made.0
          (record { end = v.0; enters = v.1; behind = behind.0; goes_on = behind.1; over = made.1 }) in
          (made.0, is_late.0, is_late.1)

  module _ (shape : HasShape m) (origin : VertexId) (late : IsLateOrigin m origin) where
    -- There is a late route whose guards are true.
    pub some_late : HasOut m origin → (q : Route) × IsLateRoute m truth origin q
    some_late out =
        let (t, leaves, is) = late_branch origin late out in
        let made = late_by shape origin late t leaves is in
        (made.0, made.1)

    -- Each true transition out of it is settled by some word.
    pub each_is_settled : (t : TransId) → Leaves m t origin → IsTrueAt m truth t
        → (word : ℕ) × (word < length m.transitions) × IsSettledStart m truth origin word t
    each_is_settled t leaves is =
        let count = length m.transitions in
        let all = those (λ u. Leaves m u origin × IsTrueAt m truth u) (true_from_decided m truth origin) count in
        let at = (all.1.members t).1 (omega arith, leaving_is_there m t origin leaves, (leaves, is)) in
        let inside = at.1 in
        let few = ascends_length count 0 all.0 all.1.ascends (omega arith) in
        let remains : at.0 % length all.0 ≡ at.0 =
        subst (λ n. n % length all.0 ≡ at.0) (omega arith) (mod-mul-add 0 (length all.0) at.0 inside) in (
          at.0,
          omega (arith, inside, few),
          (
            all.0,
            record {
              members = λ u. (λ h. ((all.1.members u).0 h).2, λ h. (all.1.members u).1 (omega arith, leaving_is_there m u origin h.0, h));
              ascending = ascends_pairs count 0 all.0 all.1.ascends;
            },
            subst (λ n. slice_get all.0 n ≡ Some t) (sym remains) (slice_get-get_or all.0 at.0 t inside ∙ ap Some at.2),
          ),
        )
