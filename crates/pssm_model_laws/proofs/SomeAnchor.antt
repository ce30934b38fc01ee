-- Each route that starts at States has an anchor.
use Rattle.std.proofs.Common.{◌≡◌, length, Some, Contains, sym, subst, ◌∙◌, inl, inr, ⊎_elim}
use Rattle.pssm_model.specs.declared.ids.VertexId.{VertexId}
use Rattle.pssm_model.specs.declared.ids.RegionId.{RegionId}
use Rattle.pssm_model.specs.declared.ids.TransId.{TransId}
use Rattle.pssm_model.specs.declared.elements.DraftMachine.{DraftMachine}
use Rattle.pssm_model.specs.declared.elements.VertexKind.TheVariants as kinds
use Rattle.pssm_model.specs.declared.elements.Owner.TheVariants.{Region, State}
use Rattle.pssm_model.specs.declared.elements.Element.TheVariants as elements
use Rattle.pssm_model.specs.declared.elements.FaultPlace.TheVariants as places
use Rattle.pssm_model.specs.declared.steps.Route.{Route}
use Rattle.pssm_model.specs.Forest.{owner_of, HasKind, LiesInState}
use Rattle.pssm_model.specs.Legs.{Leaves, Enters}
use Rattle.pssm_model.specs.Routes.{IsStateRoute}
use Rattle.pssm_model.specs.Shapes.{HasShape}
use Rattle.pssm_model.specs.WellFormed.{KeepsModelRules}
use Rattle.pssm_model.specs.WellFormed.Breaks.{E07}
use Rattle.pssm_model.specs.RouteWords.{IsStepRoute}
use Rattle.pssm_model_laws.specs.inner.RouteWords.{IsAnchorOf}
use Rattle.pssm_model.proofs.ElementLaws.{kind_unique, leaves_one}
use Rattle.pssm_model.proofs.RouteLaws.{in_one}
use Rattle.pssm_model_laws.proofs.Known.{Known, sure, known_as, known_both, known_below, known_all}
use Rattle.pssm_model_laws.proofs.KnownPlaces.{known_vertex_kind as known_kind, known_owner, vertex_of}
use Rattle.pssm_model_laws.proofs.InnerPaths.{home_owner, target_there, vertex_with_kind}
use Rattle.pssm_model_laws.proofs.Branches.{of_starts}
use Rattle.pssm_model_laws.proofs.UpAndDown.{source_of}
use Rattle.pssm_model_laws.proofs.RouteKinds.{some_start}
use Rattle.pssm_model_laws.proofs.DownLegs.{known_inside}

module _ {m : DraftMachine} (shape : HasShape m) (rules : KeepsModelRules m) (p : Route) (states : IsStateRoute m p) where
  step : IsStepRoute m p
  step = inl states

  -- The sources of the transition lie in the State.
  abbrev SourceIn : VertexId → TransId → Type 0
  SourceIn s t = (q : VertexId) → Leaves m t q → LiesInState m q s

  -- A State in the region, in which all sources lie.
  abbrev StandsAround : RegionId → VertexId → Type 0
  StandsAround h s =
      HasKind m s kinds.State × (owner_of m (State s) ≡ Some (Region h)) × ((t : TransId) → Contains p.starts t → SourceIn s t)

  known_source : (s : VertexId) (t : TransId) → Contains p.starts t → Known (SourceIn s t)
  known_source s t inside =
      let x = source_of shape rules p step t (of_starts m p t inside) in
      known_as
      (λ h q l. subst (λ y. LiesInState m y s) (leaves_one m t x.0 q x.1 l) h)
      (λ all. all x.0 x.1)
      (known_inside shape x.0 s)

  known_around : (h : RegionId) (s : VertexId) → Known (StandsAround h s)
  known_around h s =
      known_as
      (λ all. (all.0, all.1.0, all.1.1))
      (λ all. (all.0, (all.1, all.2)))
      (known_both
      (known_kind m s kinds.State)
      (known_both (known_owner m (State s) (Region h)) (known_all (SourceIn s) p.starts (λ t inside. known_source s t inside))))

  join_home : (t : TransId) (j : VertexId) → Enters m t j → HasKind m j kinds.Join → (h : RegionId) × (owner_of m (State j) ≡ Some (Region h))
  join_home t j e k =
      home_owner shape j (target_there shape t j e) (λ at_point. ⊎_elim
      (λ i. let clash = kind_unique m j kinds.Join kinds.EntryPoint k i in cc)
      (λ i. let clash = kind_unique m j kinds.Join kinds.ExitPoint k i in cc)
      at_point)

  -- the State beside a join
  beside_join : (t : TransId) (j : VertexId) → Enters m t j → HasKind m j kinds.Join → ((u : TransId) → Contains p.starts u → Enters m u j)
      → (h : RegionId) × (owner_of m (State j) ≡ Some (Region h)) × ((s : VertexId) × StandsAround h s)
  beside_join t j e k all =
      let home = join_home t j e k in
      let h = home.0 in
      let found = sure
      (known_below (λ i. StandsAround h (vertex_of i)) (λ i. known_around h (vertex_of i)) (length m.vertices))
      (λ none. rules (places.At (elements.Vertex j)) 7 (E07 (
        k,
        inr (λ beside. (
            let f = home.1 in
            let g = beside.4 in
            let same_home : beside.1 ≡ h = cc in
            none (
              beside.0.0,
              vertex_with_kind shape beside.0 kinds.State beside.2,
              (
                beside.2,
                subst (λ r. owner_of m (State beside.0) ≡ Some (Region r)) same_home beside.3,
                λ u inside q l. beside.5.inside u q (all u inside, l),
              ),
            ))),
      ))) in
      (h, home.1, (vertex_of found.0, found.2))

  pub some_anchor : (s : VertexId) × IsAnchorOf m p s
  some_anchor =
      ⊎_elim
      (λ single.
      let start = subst (λ ts. Contains ts single.0) (sym single.1) (in_one single.0) in
      let s = source_of shape rules p step single.0 (of_starts m p single.0 start) in (
        s.0,
        inl (single.0, record { starts = single.1; leaves = s.1; state = states.1 s.0 (single.0, start, s.1) }, single.2),
      ))
      (λ join.
      let t = some_start shape rules p step in
      let beside = beside_join t.0 join.0 (join.2 t.0 t.1) join.1 join.2 in
      let around = beside.2.1 in (
        beside.2.0,
        inr (join.0, t.0, t.1, join.2 t.0 t.1, join.1, around.0, around.1 ∙ sym beside.1, λ q source. around.2 source.0 source.1 q source.2),
      ))
      states.0.starts
