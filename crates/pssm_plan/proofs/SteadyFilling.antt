-- The arrivals that fill a region stand on one chain: they stand in the region, which lies where they exit and enter.
use Rattle.std.proofs.Common.{List, Some, ◌≡◌, ◌<◌, ◌⊎◌, ℕ, zero, suc, refl, sym, subst, ◌∙◌, inl, inr, ⊎_elim, arith}
use Rattle.pssm_model.specs.declared.ids.VertexId.{VertexId}
use Rattle.pssm_model.specs.declared.ids.RegionId.{RegionId}
use Rattle.pssm_model.specs.declared.elements.DraftMachine.{DraftMachine}
use Rattle.pssm_model.specs.declared.elements.Owner.TheVariants.{Region, State}
use Rattle.pssm_model.specs.declared.steps.Route.{Route}
use Rattle.pssm_model.specs.declared.steps.Mode.{Mode}
use Rattle.pssm_model.specs.declared.steps.How.{How}
use Rattle.pssm_model.specs.declared.steps.Item.{Item}
use Rattle.pssm_model.specs.declared.steps.Item.TheVariants as items
use Rattle.pssm_model.specs.Forest.{owner_of, LiesUnder, HasRegionsAbove}
use Rattle.pssm_model.specs.Legs.{Scope}
use Rattle.pssm_model.specs.Shapes.{HasShape}
use Rattle.pssm_model.specs.Configuration.{Configuration}
use Rattle.pssm_model.specs.Course.{Head, Course, FiresBy}
use Rattle.pssm_model.specs.Items.{StartOpens}
use Rattle.pssm_model.specs.Order.{HasGone, course_by}
use Rattle.pssm_model.specs.WellFormed.{KeepsModelRules}
use Rattle.pssm_model_laws.specs.inner.RouteWords.{IsAreaOf, EndsIn}
use Rattle.pssm_plan.specs.Steadiness.{BeginsWell}
use Rattle.pssm_plan.specs.inner.OverRoutes.{OpensAfterEntry, IsOpenedOver, IsOpenedFor}
use Rattle.pssm_model.proofs.OwnerChains.{one_owner}
use Rattle.pssm_model.proofs.Nesting.{outer_of_region}
use Rattle.pssm_plan.proofs.SteadyPlaces.{IsRegionIn, IsEdge, same_state, same_region_place, outer_of, home_of_state, home_above, edge_or_outer, region_in_scope, outer_above}
use Rattle.pssm_plan.proofs.RoutePlaces.{Fills, beside_at_edge, late_end_fills}
use Rattle.pssm_plan.proofs.SteadyApart.{IsFired, one_around, edge_owner_stays, edge_stays}
use Rattle.pssm_plan.proofs.Arrivals.{Arrival, Arrives, IsFiring, EntersBy, StandsIn, FillsBy, IsProper, mode_after, brought_arrives, entered_fill, comes_area, fill_out, opener_of}
use Rattle.pssm_plan.proofs.Arrivals.Arrival.{Along, Back}
use Rattle.pssm_plan.proofs.SteadyStems.{IsOpenedBy, ComesWithin, Stems, one_brought, stems, step_route, proper}
use Rattle.pssm_plan.proofs.SteadyStems.Stems.{fires as stem_fires, opens as stem_opens, goes_on as stem_goes_on}
use Rattle.pssm_plan.proofs.SteadyChains.{Continues, AreOnChain, turned, joins, first_step, linear, enters_once, stands_not_in, stands_with}
use Rattle.pssm_plan.proofs.SteadyChains.Continues.{here, on}
use Rattle.pssm_plan.proofs.SteadyItems.{starts_alone, starts_at, not_starting, is_fired, over_area, beside_fires, beside_within, late_fired, inside_fired}

-- It is along what fires, or the step has opened the region by it, or it begins within the step in a region around.
abbrev IsFirstIn : DraftMachine → Course → Arrival → RegionId → Type 0
IsFirstIn m course x r =
    IsFiring course.head x
    ⊎ ((mode : Mode) × IsOpenedBy m course x r mode)
    ⊎ ((k : RegionId) × ComesWithin m course x k × LiesUnder m (Region r) (Region k))

module _ {m : DraftMachine} (shape : HasShape m) (rules : KeepsModelRules m) (head : Head) (now : Configuration)
    (begins : BeginsWell m head now) (ran : List (Item × How)) (gone : HasGone m head now ran) where
  taken : (x : Arrival) → Arrives (course_by head now ran) x → IsProper m x
  taken x came = proper shape rules head now begins ran gone x came

  fired : (p : Route) → FiresBy head p → IsFired m head p
  fired p fires = is_fired shape rules head now ran gone p fires

  -- a State that is entered does not own a region at the edge of where something fires
  entered_not_edge : (p : Route) (area : Scope) (w : Arrival) (s : VertexId) (r : RegionId) → FiresBy head p → IsAreaOf m p area
      → Arrives (course_by head now ran) w → EntersBy m w s → owner_of m (Region r) ≡ Some (State s) → IsEdge m r area → ⊥
  entered_not_edge p area w s r fires is came enters e edge =
      let around = not_starting head p fires (inside_fired shape rules head now begins ran gone w s came enters) in
      edge_owner_stays shape rules head now begins p around.0 r s area (fired p fires) is edge e around.1

  -- nor does an arrival begin within the step in a region around that
  late_not_around : (p : Route) (u : Arrival) (area : Scope) (r k : RegionId) → FiresBy head p → IsAreaOf m p area → IsEdge m r area
      → LiesUnder m (Region r) (Region k) → ComesWithin m (course_by head now ran) u k → ⊥
  late_not_around p u area r k fires is edge under comes =
      let over = not_starting head p fires (late_fired shape rules head now begins ran gone u k comes) in
      edge_stays shape rules head now begins p over.0 r k area over.1.1.0 (fired p fires) is edge under
      over.1.0 over.1.1.1 over.1.1.2

  -- what fires and fills a region is whatever fires where that region lies
  filled_by_fired : (p u : Route) (r : RegionId) → FiresBy head p → Fills m p r → IsFired m head u
      → ((area : Scope) × IsAreaOf m u area × IsRegionIn m r area) → p ≡ u
  filled_by_fired p u r fires a is place =
      let ends = a.0 in
      let area = a.1 in
      one_around shape rules head now begins ends.0 p u
      (fired p fires, (area.0, area.1, region_in_scope shape ends.0 r area.0 ends.2 area.2))
      (is, (place.0, place.1, region_in_scope shape ends.0 r place.0 ends.2 place.2))

  -- the first on a chain that fills a region
  came_within : (x : Arrival) (k : RegionId) → ComesWithin m (course_by head now ran) x k → Arrives (course_by head now ran) x
  came_within x k h = brought_arrives (course_by head now ran) h.1.0 x h.1.1

  first_filler : (u : Arrival) (r : RegionId) → Stems m (course_by head now ran) u → FillsBy m u r
      → (x : Arrival) × Continues m (course_by head now ran) x u × Arrives (course_by head now ran) x × FillsBy m x r
      × IsFirstIn m (course_by head now ran) x r
  first_filler _ r (stem_fires {p = p} is) a = (Along p, here, inl is, a, inl is)
  first_filler u r (stem_opens {r = k} {mode = mode} by) a =
      let within = subst (λ x. IsRegionIn m r x) (comes_area shape rules u k a.1.0 by.1 a.1.1) a.1.2 in
      let comes : ComesWithin m (course_by head now ran) u k = (by.1, (items.Opened k mode, by.2)) in (
        u,
        here,
        came_within u k comes,
        a,
        ⊎_elim
            (λ same. inr (inl (mode, subst (λ x. IsOpenedBy m (course_by head now ran) u x mode) (sym same) by)))
            (λ under. inr (inr (k, comes, under)))
            within,
      )
  first_filler u r (stem_goes_on {w = w} {c = c} {r = k} before by) a =
      let within = subst (λ x. IsRegionIn m r x) (comes_area shape rules u k a.1.0 by.comes a.1.1) a.1.2 in
      let comes : ComesWithin m (course_by head now ran) u k = (by.comes, (by.item, by.brought)) in
      ⊎_elim
      (λ same. (
      let come = by.come in
      let wide = late_end_fills shape rules w (step_route shape rules head now ran gone w come.goes) c k come.home come.ends in
      let first = first_filler (Along w) r before (subst (λ x. Fills m w x) (sym same) wide) in
      (first.0, on first.1 by, first.2, first.3, first.4)
      ))
      (λ under. (u, here, came_within u k comes, a, inr (inr (k, comes, under))))
      within

  -- what stands in a region stands on no chain with what enters its State and stands elsewhere
  apart_after : (r : RegionId) (w u : Arrival) (s : VertexId) → owner_of m (Region r) ≡ Some (State s) → Arrives (course_by head now ran) w
      → StandsIn m u r → EntersBy m w s → Continues m (course_by head now ran) w u → StandsIn m w r
  apart_after r w u s e goes stands enters chain =
      ⊎_elim
      (λ same. subst (λ x. StandsIn m x r) (sym same) stands)
      (λ next. stands_with shape rules head now begins ran gone w u s stands.0 r next goes enters e stands.1 stands.2)
      (first_step w u chain)

  apart_before : (r : RegionId) (u w : Arrival) (s : VertexId) → owner_of m (Region r) ≡ Some (State s)
      → StandsIn m u r → EntersBy m w s → Continues m (course_by head now ran) u w → StandsIn m w r
  apart_before r u w s e stands enters chain =
      ⊎_elim
      (λ same. subst (λ x. StandsIn m x r) same stands)
      (λ next. absurd (stands_not_in shape rules head now begins ran gone u w s stands.0 r next enters e stands.1 stands.2))
      (first_step u w chain)

  home_of_owner : (r : RegionId) (s : VertexId) → owner_of m (Region r) ≡ Some (State s) → (h : RegionId) × (owner_of m (State s) ≡ Some (Region h))
  home_of_owner r s e = home_of_state shape s (inl (shape.regions r (State s) e).0)

  -- where the arrivals that fill the region around a State stand on one chain
  module _ (r : RegionId) (chains : (h : RegionId) (s : VertexId) (x u : Arrival) → owner_of m (Region r) ≡ Some (State s)
      → owner_of m (State s) ≡ Some (Region h) → Arrives (course_by head now ran) x → Arrives (course_by head now ran) u
      → FillsBy m x h → FillsBy m u h → AreOnChain m (course_by head now ran) x u) where
    -- one arrival enters the State
    one_enterer : (s : VertexId) (x u : Arrival) → owner_of m (Region r) ≡ Some (State s) → Arrives (course_by head now ran) x
        → Arrives (course_by head now ran) u → EntersBy m x s → EntersBy m u s → x ≡ u
    one_enterer s x u e first second enters too =
        let home = home_of_owner r s e in
        ⊎_elim
        (λ ahead. enters_once shape rules head now begins ran gone x u s first ahead enters too)
        (λ behind. sym (enters_once shape rules head now begins ran gone u x s second behind too enters))
        (chains home.0 s x u e home.1 first second
        (entered_fill shape rules x s home.0 (taken x first) home.1 enters)
        (entered_fill shape rules u s home.0 (taken u second) home.1 too))

    -- so its regions open in one mode
    entered_modes : (s q : VertexId) (a b : Mode) → OpensAfterEntry m (course_by head now ran) s r a → OpensAfterEntry m (course_by head now ran) q r b
        → a ≡ b
    entered_modes s q a b first second =
        let same = same_state q s (one_owner m (Region r) (State q) (State s) second.1 first.1) in
        let x = opener_of shape (course_by head now ran) s r a first.1 first.2 in
        let u = opener_of shape (course_by head now ran) q r b second.1 second.2 in
        let one = one_enterer s x.0 u.0 first.1 x.1.arrives u.1.arrives x.1.enters (subst (λ v. EntersBy m u.0 v) same u.1.enters) in
        x.1.is_mode ∙ subst (λ y. mode_after x.0 ≡ mode_after y) one refl ∙ sym u.1.is_mode

    -- no region is opened for an entry and beside what is entered
    not_both : (s : VertexId) (a b : Mode) (p : Route) → OpensAfterEntry m (course_by head now ran) s r a
        → IsOpenedOver m (course_by head now ran) p r b → ⊥
    not_both s a b p after beside =
        let opener = opener_of shape (course_by head now ran) s r a after.1 after.2 in
        let fires = beside_fires shape rules head now ran gone p r b beside in
        let area = over_area shape rules head now ran gone p (inl fires) in
        let step = step_route shape rules head now ran gone p beside.0 in
        let edge = (beside_at_edge shape rules p step r area.0 beside.1 area.1).0 in
        entered_not_edge p area.0 opener.0 s r fires area.1 opener.1.arrives opener.1.enters after.1 edge

    starts_not_after : (s : VertexId) (a b : Mode) → StartOpens m head (items.Opened r a) → OpensAfterEntry m (course_by head now ran) s r b → ⊥
    starts_not_after s a b starts after = let top = (starts_at m head r a starts).1 in let state = after.1 in cc

    starts_not_beside : (p : Route) (a b : Mode) → StartOpens m head (items.Opened r a) → IsOpenedOver m (course_by head now ran) p r b → ⊥
    starts_not_beside p a b starts beside =
        starts_alone m head r a p starts (beside_fires shape rules head now ran gone p r b beside)

    pub modes_alike : (a b : Mode) → IsOpenedFor m (course_by head now ran) r a → IsOpenedFor m (course_by head now ran) r b → a ≡ b
    modes_alike a b (inl starts) (inl too) = (starts_at m head r a starts).2 ∙ sym (starts_at m head r b too).2
    modes_alike a b (inl starts) (inr (inl after)) = absurd (starts_not_after after.0 a b starts after.1)
    modes_alike a b (inl starts) (inr (inr beside)) = absurd (starts_not_beside beside.0 a b starts beside.1)
    modes_alike a b (inr (inl after)) (inl starts) = absurd (starts_not_after after.0 b a starts after.1)
    modes_alike a b (inr (inl after)) (inr (inl too)) = entered_modes after.0 too.0 a b after.1 too.1
    modes_alike a b (inr (inl after)) (inr (inr beside)) = absurd (not_both after.0 a b beside.0 after.1 beside.1)
    modes_alike a b (inr (inr beside)) (inl starts) = absurd (starts_not_beside beside.0 b a starts beside.1)
    modes_alike a b (inr (inr beside)) (inr (inl after)) = absurd (not_both after.0 b a beside.0 after.1 beside.1)
    modes_alike a b (inr (inr beside)) (inr (inr too)) = beside.1.2 ∙ sym too.1.2

  -- The claim for regions with fewer regions above them: what fills one stands on one chain.
  abbrev IsFilledOnce : ℕ → Type 0
  IsFilledOnce n = (k : ℕ) (r : RegionId) → k < n → HasRegionsAbove m (Region r) k → (x u : Arrival)
      → Arrives (course_by head now ran) x → Arrives (course_by head now ran) u → FillsBy m x r → FillsBy m u r
      → AreOnChain m (course_by head now ran) x u

  module _ (n k : ℕ) (r : RegionId) (lt : k < suc n) (above : HasRegionsAbove m (Region r) k) (fewer : IsFilledOnce n) where
    -- two arrivals that fill the region around stand on one chain
    chain_around : (h : RegionId) (s : VertexId) (x u : Arrival) → owner_of m (Region r) ≡ Some (State s) → owner_of m (State s) ≡ Some (Region h)
        → Arrives (course_by head now ran) x → Arrives (course_by head now ran) u → FillsBy m x h → FillsBy m u h
        → AreOnChain m (course_by head now ran) x u
    chain_around h s x u e f first second a b =
        let less = outer_above m r h s k e f above in
        let below : less.0 < n = omega (arith, less.1, lt) in
        fewer less.0 h below less.2 x u first second a b

    -- what fills the region, and the region around, is not after what entered the State that owns it and opened it
    not_opener : (h : RegionId) (s : VertexId) (mode : Mode) (u : Arrival) → owner_of m (State s) ≡ Some (Region h)
        → Arrives (course_by head now ran) u → StandsIn m u r → FillsBy m u h → OpensAfterEntry m (course_by head now ran) s r mode → ⊥
    not_opener h s mode u f came stands fills at =
        let opener = opener_of shape (course_by head now ran) s r mode at.1 at.2 in
        let w = opener.0 in
        let by = opener.1 in
        ⊎_elim
        (λ before. by.outside (apart_before r u w s at.1 stands by.enters before))
        (λ after. by.outside (apart_after r w u s at.1 by.arrives stands by.enters after))
        (chain_around h s u w at.1 f came by.arrives fills (entered_fill shape rules w s h (taken w by.arrives) f by.enters))

    -- what fires does not fill the region that the step has opened
    not_opened : (p : Route) (mode : Mode) → FiresBy head p → IsOpenedFor m (course_by head now ran) r mode → Fills m p r → ⊥
    not_opened p mode fires opened a =
        let area = a.1 in
        ⊎_elim
        (λ starts. starts_alone m head r mode p starts fires)
        (⊎_elim
        (λ at. (
        let home = home_of_owner r at.0 at.1.1 in
        let opener = opener_of shape (course_by head now ran) at.0 r mode at.1.1 at.1.2 in
        ⊎_elim
        (λ edge. entered_not_edge p area.0 opener.0 at.0 r fires area.1 opener.1.arrives opener.1.enters at.1.1 edge)
        (λ outer. not_opener home.0 at.0 mode (Along p) home.1 (inl fires) a.0
        (fill_out shape rules (Along p) r home.0 at.0 area.0 at.1.1 home.1 a.0 area.1 outer) at.1)
        (edge_or_outer shape r home.0 at.0 area.0 at.1.1 home.1 area.2)
        ))
        (λ beside. (
        let over = beside_within shape rules head now ran gone beside.0 r mode beside.1 in
        let same = filled_by_fired p beside.0 r fires a over.0 over.1 in
        beside.1.1.2 (subst (λ x. EndsIn m x r) same a.0)
        )))
        opened

    -- what begins late in a region around, and fills the region, fills the one that is next around it
    late_fills_out : (u : Arrival) (k : RegionId) → ComesWithin m (course_by head now ran) u k → LiesUnder m (Region r) (Region k) → FillsBy m u r
        → (s : VertexId) × (h : RegionId) × (owner_of m (Region r) ≡ Some (State s)) × (owner_of m (State s) ≡ Some (Region h)) × FillsBy m u h
    late_fills_out u k comes under b =
        let outer = outer_of shape r k under in
        let place = comes_area shape rules u k b.1.0 comes.0 b.1.1 in
        let around = subst (λ x. IsRegionIn m outer.1 x) (sym place) ((outer_of_region m r outer.0 outer.1 outer.2 outer.3).innermost k under) in
        (outer.0, outer.1, outer.2, outer.3, fill_out shape rules u r outer.1 outer.0 b.1.0 outer.2 outer.3 b.0 b.1.1 around)

    -- what fires, and what begins late in a region around
    fired_and_late : (p : Route) (u : Arrival) (k : RegionId) → FiresBy head p → ComesWithin m (course_by head now ran) u k
        → LiesUnder m (Region r) (Region k) → Fills m p r → FillsBy m u r → AreOnChain m (course_by head now ran) (Along p) u
    fired_and_late p u k fires comes under a b =
        let outer = late_fills_out u k comes under b in
        let area = a.1 in
        ⊎_elim
        (λ edge. absurd (late_not_around p u area.0 r k fires area.1 edge under comes))
        (λ out. chain_around outer.1 outer.0 (Along p) u outer.2 outer.3 (inl fires) (came_within u k comes)
        (fill_out shape rules (Along p) r outer.1 outer.0 area.0 outer.2 outer.3 a.0 area.1 out) outer.4)
        (edge_or_outer shape r outer.1 outer.0 area.0 outer.2 outer.3 area.2)

    -- what the step has opened the region by, and what begins late in a region around it
    late_around : (mode : Mode) (u : Arrival) (k : RegionId) → IsOpenedFor m (course_by head now ran) r mode
        → ComesWithin m (course_by head now ran) u k → LiesUnder m (Region r) (Region k) → FillsBy m u r → ⊥
    late_around mode u k opened comes under b =
        let outer = late_fills_out u k comes under b in
        ⊎_elim
        (λ starts. (let top = (starts_at m head r mode starts).1 in let state = outer.2 in absurd (cc)))
        (⊎_elim
        (λ at. (
        let same = same_state at.0 outer.0 (one_owner m (Region r) (State at.0) (State outer.0) at.1.1 outer.2) in
        not_opener outer.1 at.0 mode u (subst (λ x. owner_of m (State x) ≡ Some (Region outer.1)) (sym same) outer.3) (came_within u k comes) b.0 outer.4 at.1
        ))
        (λ beside. (
        let fires = beside_fires shape rules head now ran gone beside.0 r mode beside.1 in
        let area = over_area shape rules head now ran gone beside.0 (inl fires) in
        let step = step_route shape rules head now ran gone beside.0 beside.1.0 in
        let edge = (beside_at_edge shape rules beside.0 step r area.0 beside.1.1 area.1).0 in
        late_not_around beside.0 u area.0 r k fires area.1 edge under comes
        )))
        opened

    -- two that begin late in regions around
    both_around : (x u : Arrival) (k l : RegionId) → ComesWithin m (course_by head now ran) x k → ComesWithin m (course_by head now ran) u l
        → LiesUnder m (Region r) (Region k) → LiesUnder m (Region r) (Region l) → FillsBy m x r → FillsBy m u r
        → AreOnChain m (course_by head now ran) x u
    both_around x u k l comes other under below a b =
        let outer = late_fills_out x k comes under a in
        let more = late_fills_out u l other below b in
        let state = same_state more.0 outer.0 (one_owner m (Region r) (State more.0) (State outer.0) more.2 outer.2) in
        let region = same_region_place more.1 outer.1 (one_owner m (State outer.0) (Region more.1) (Region outer.1)
        (subst (λ v. owner_of m (State v) ≡ Some (Region more.1)) state more.3) outer.3) in
        chain_around outer.1 outer.0 x u outer.2 outer.3 (came_within x k comes) (came_within u l other) outer.4
        (subst (λ q. FillsBy m u q) region more.4)

    -- one opening has one way
    both_opened : (x u : Arrival) (a b : Mode) → IsOpenedBy m (course_by head now ran) x r a → IsOpenedBy m (course_by head now ran) u r b
        → AreOnChain m (course_by head now ran) x u
    both_opened x u a b first second =
        let modes = modes_alike r chain_around a b first.0 second.0 in
        let item : items.Opened r a ≡ items.Opened r b = cc in
        let same = one_brought shape rules head now ran gone (items.Opened r a) (items.Opened r b) x u item first.2 second.2 in
        inl (subst (λ y. Continues m (course_by head now ran) x y) same here)

    firing_first : (x u : Arrival) → IsFiring head x → IsFirstIn m (course_by head now ran) u r → FillsBy m x r → FillsBy m u r
        → AreOnChain m (course_by head now ran) x u
    firing_first (Back l was s) u fires other a b = absurd fires
    firing_first (Along p) (Along q) fires (inl too) a b =
        let same = filled_by_fired p q r fires a (fired q too) b.1 in
        inl (subst (λ x. Continues m (course_by head now ran) (Along p) (Along x)) same here)
    firing_first (Along p) (Back l was s) fires (inl too) a b = absurd too
    firing_first (Along p) u fires (inr (inl opened)) a b = absurd (not_opened p opened.0 fires opened.1.0 a)
    firing_first (Along p) u fires (inr (inr around)) a b = fired_and_late p u around.0 fires around.1 around.2 a b

    firsts_filled : (x u : Arrival) → IsFirstIn m (course_by head now ran) x r → IsFirstIn m (course_by head now ran) u r → FillsBy m x r → FillsBy m u r
        → AreOnChain m (course_by head now ran) x u
    firsts_filled x u (inl fires) other a b = firing_first x u fires other a b
    firsts_filled x u (inr (inl opened)) (inl fires) a b = turned u x (firing_first u x fires (inr (inl opened)) b a)
    firsts_filled x u (inr (inl opened)) (inr (inl too)) a b = both_opened x u opened.0 too.0 opened.1 too.1
    firsts_filled x u (inr (inl opened)) (inr (inr around)) a b = absurd (late_around opened.0 u around.0 opened.1.0 around.1 around.2 b)
    firsts_filled x u (inr (inr around)) (inl fires) a b = turned u x (firing_first u x fires (inr (inr around)) b a)
    firsts_filled x u (inr (inr around)) (inr (inl opened)) a b = absurd (late_around opened.0 x around.0 opened.1.0 around.1 around.2 a)
    firsts_filled x u (inr (inr around)) (inr (inr too)) a b = both_around x u around.0 too.0 around.1 too.1 around.2 too.2 a b

    -- any two arrivals, by the first ones on their chains
    filled_here : (x u : Arrival) → Arrives (course_by head now ran) x → Arrives (course_by head now ran) u → FillsBy m x r → FillsBy m u r
        → AreOnChain m (course_by head now ran) x u
    filled_here x u first second a b =
        let before = first_filler x r (stems shape rules head now begins ran gone x first) a in
        let other = first_filler u r (stems shape rules head now begins ran gone u second) b in
        ⊎_elim
        (λ ahead. linear shape rules head now begins ran gone before.0 x u r before.1 (joins before.0 other.0 u ahead other.1) a.1 b.1)
        (λ behind. linear shape rules head now begins ran gone other.0 x u r (joins other.0 before.0 x behind before.1) other.1 a.1 b.1)
        (firsts_filled before.0 other.0 before.4 other.4 before.3 other.3)

  filled_below : (n : ℕ) → IsFilledOnce n
  filled_below zero k r lt above x u first second a b = absurd (omega arith)
  filled_below (suc n) k r lt above x u first second a b = filled_here n k r lt above (filled_below n) x u first second a b

  -- what fills a region stands on one chain
  pub one_fills : (r : RegionId) (k : ℕ) → HasRegionsAbove m (Region r) k → (x u : Arrival)
      → Arrives (course_by head now ran) x → Arrives (course_by head now ran) u → FillsBy m x r → FillsBy m u r
      → AreOnChain m (course_by head now ran) x u
  one_fills r k above x u first second a b = filled_below (suc k) k r (omega arith) above x u first second a b

  -- so a region is opened for entries, by the start or beside what is entered in one mode
  pub one_mode : (r : RegionId) (a b : Mode) → IsOpenedFor m (course_by head now ran) r a → IsOpenedFor m (course_by head now ran) r b → a ≡ b
  one_mode r a b first second =
      modes_alike r
      (λ h s x u e f came too fills also. (let above = home_above shape s h f in one_fills h above.0 above.1 x u came too fills also))
      a b first second
