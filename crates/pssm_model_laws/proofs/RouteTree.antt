-- The transitions of a route make a tree: each vertex but a join is entered by one of them, each leg but the first has one leg before it,
-- and legs before one leg are in line.
use Rattle.std.proofs.Common.{◌≡◌, ◌⊎◌, refl, sym, subst, inl, inr, ⊎_elim}
use Rattle.pssm_model.specs.declared.ids.VertexId.{VertexId}
use Rattle.pssm_model.specs.declared.ids.TransId.{TransId}
use Rattle.pssm_model.specs.declared.elements.DraftMachine.{DraftMachine}
use Rattle.pssm_model.specs.declared.elements.VertexKind.TheVariants as kinds
use Rattle.pssm_model.specs.declared.steps.Route.{Route}
use Rattle.pssm_model.specs.Forest.{HasKind}
use Rattle.pssm_model.specs.Legs.{Leaves, Enters, On, IsCut, SameLeg, NextLeg, LaterLeg}
use Rattle.pssm_model.specs.Legs.SameLeg.{itself, joined}
use Rattle.pssm_model.specs.Legs.LaterLeg.{next as leg_next, after as leg_after}
use Rattle.pssm_model.specs.Items.{PathBefore}
use Rattle.pssm_model.specs.Items.PathBefore.{next, after}
use Rattle.pssm_model.specs.Paths.{LeadsOn}
use Rattle.pssm_model.specs.Routes.{IsRoute}
use Rattle.pssm_model.specs.Shapes.{HasShape}
use Rattle.pssm_model.specs.WellFormed.{KeepsModelRules}
use Rattle.pssm_model.specs.RouteWords.{IsStepRoute}
use Rattle.pssm_model.proofs.ElementLaws.{leaves_one}
use Rattle.pssm_model_laws.proofs.KnownPlaces.{known_vertex_kind}
use Rattle.pssm_model_laws.proofs.Through.{step_leads, then_leads, leads_then, no_cycle}
use Rattle.pssm_model_laws.proofs.RouteOrder.{route_of, entered_once}
use Rattle.pssm_model_laws.proofs.LegShapes.{InLeg, begins_on, ends_on, leg_on, leg_turned, next_to, later_to, last_step, cut_no_junction, join_from_no_through, fork_to_no_through, in_leg, one_beginning}
use Rattle.pssm_model_laws.proofs.LegShapes.InLeg.{one_and_same, path_to, path_from, in_join, in_fork}

module _ (m : DraftMachine) (p : Route) where
  -- Later legs told from the last one.
  data EndsLater (t : TransId) : TransId → Type 0 where
    once : {u : TransId} → NextLeg m p t u → EndsLater t u
    again : {u w : TransId} → EndsLater t u → NextLeg m p u w → EndsLater t w

  one_earlier : (t u w : TransId) → NextLeg m p t u → EndsLater u w → EndsLater t w
  one_earlier t u w h (once g) = again (once h) g
  one_earlier t u w h (again {u = k} before g) = again (one_earlier t u k h before) g

  ends_later : (t u : TransId) → LaterLeg m p t u → EndsLater t u
  ends_later t u (leg_next h) = once h
  ends_later t u (leg_after {u = k} h rest) = one_earlier t k u h (ends_later k u rest)

  one_later : (t u w : TransId) → LaterLeg m p t u → NextLeg m p u w → LaterLeg m p t w
  one_later t u w (leg_next h) g = leg_after h (leg_next g)
  one_later t u w (leg_after {u = k} h rest) g = leg_after h (one_later k u w rest g)

  is_later : (t u : TransId) → EndsLater t u → LaterLeg m p t u
  is_later t u (once h) = leg_next h
  is_later t u (again {u = k} before h) = one_later t k u (is_later t k before) h

  ends_in_leg : (t u w : TransId) → EndsLater t u → SameLeg m p u w → EndsLater t w
  ends_in_leg t u w (once h) leg = once (next_to m p t u w h leg)
  ends_in_leg t u w (again before h) leg = again before (next_to m p _ u w h leg)

  -- The junctions from where the path begins to where it ends lead on from one to another.
  record LeadsOver (t u : TransId) : Type 0 where
    first : VertexId
    last : VertexId
    first_kind : HasKind m first kinds.Junction
    last_kind : HasKind m last kinds.Junction
    enters : Enters m t first
    leaves : Leaves m u last
    leads : (first ≡ last) ⊎ LeadsOn m first last

  leads_over : (t u : TransId) → PathBefore m p t u → LeadsOver t u
  leads_over t u (next is further v k e l) = record {
    first = v;
    last = v;
    first_kind = k;
    last_kind = k;
    enters = e;
    leaves = l;
    leads = inl refl;
  }
  leads_over t u (after {u = w} before behind) =
      let a = leads_over t w before in
      let c = leads_over w u behind in
      let step = step_leads m a.last c.first w (inl a.last_kind) (inl c.first_kind) a.leaves c.enters in
      record {
        first = a.first;
        last = c.last;
        first_kind = a.first_kind;
        last_kind = c.last_kind;
        enters = a.enters;
        leaves = c.leaves;
        leads = inr (then_leads m a.first a.last c.last a.leads (leads_then m a.last c.first c.last step c.leads));
      }

module _ {m : DraftMachine} (shape : HasShape m) (rules : KeepsModelRules m) (p : Route) (step : IsStepRoute m p) where
  route : IsRoute m p
  route = route_of m p step

  pub one_entry : (v : VertexId) (t u : TransId) → (HasKind m v kinds.Join → ⊥) → On p t → On p u → Enters m t v → Enters m u v → t ≡ u
  one_entry v t u no_join first second e f = entered_once shape rules p route v t u no_join first second e f

  -- transitions of the route that enter one vertex are of one leg
  pub entering_legs : (v : VertexId) (t u : TransId) → On p t → On p u → Enters m t v → Enters m u v → SameLeg m p t u
  entering_legs v t u first second e f =
      ⊎_elim
      (λ join. joined first (inr (inr (inl (v, join, e, f)))) (itself second))
      (λ no_join. subst (SameLeg m p t) (one_entry v t u no_join first second e f) (itself first))
      (known_vertex_kind m v kinds.Join)

  pub one_before : (t u w : TransId) → NextLeg m p t w → NextLeg m p u w → SameLeg m p t u
  one_before t u w first second =
      let leg = leg_on m p first.1 w second.1 first.4 (leg_turned m p second.1 w second.4) in
      let place = one_beginning shape rules p route first.1 second.1 first.2 second.2 leg first.5 second.5 first.7 second.7 in
      let there = subst (Enters m second.0) (sym place) second.6 in
      let entering = entering_legs first.2 first.0 second.0 (ends_on m p t first.0 first.3) (ends_on m p u second.0 second.3) first.6 there in
      leg_on m p t first.0 u first.3 (leg_on m p first.0 second.0 u entering (leg_turned m p u second.0 second.3))

  line_back : (t u w : TransId) → EndsLater m p t w → EndsLater m p u w → SameLeg m p t u ⊎ LaterLeg m p t u ⊎ LaterLeg m p u t
  line_back t u w (once h) (once g) = inl (one_before t u w h g)
  line_back t u w (once h) (again {u = k} before g) =
      inr (inr (later_to m p u k t (is_later m p u k before) (leg_turned m p t k (one_before t k w h g))))
  line_back t u w (again {u = k} before h) (once g) = inr (inl (later_to m p t k u (is_later m p t k before) (one_before k u w h g)))
  line_back t u w (again {u = k} before h) (again {u = x} other g) =
      line_back t u k before (ends_in_leg m p u x k other (leg_turned m p k x (one_before k x w h g)))

  pub in_line : (t u w : TransId) → LaterLeg m p t w → LaterLeg m p u w → SameLeg m p t u ⊎ LaterLeg m p t u ⊎ LaterLeg m p u t
  in_line t u w first second = line_back t u w (ends_later m p t w first) (ends_later m p u w second)

  -- through a leg the vertex at which it begins leads to that on which it ends
  leg_leads : (t u : TransId) (v w : VertexId) → SameLeg m p t u → IsCut m v → IsCut m w → Leaves m t v → Enters m u w → LeadsOn m v w
  leg_leads t u v w leg a b l e = by (in_leg shape rules p route t u leg)
    where
      by : InLeg m p t u → LeadsOn m v w
      by (one_and_same same) = step_leads m v w u (inr a) (inr b) (subst (λ x. Leaves m x v) same l) e
      by (path_to on) =
          let over = leads_over m p t u on in
          leads_then m v over.first w
          (step_leads m v over.first t (inr a) (inl over.first_kind) l over.enters)
          (inr (then_leads m over.first over.last w over.leads (step_leads m over.last w u (inl over.last_kind) (inr b) over.leaves e)))
      by (path_from back) =
          let last = last_step m p u t back in
          absurd (cut_no_junction m v a (subst (λ x. HasKind m x kinds.Junction) (leaves_one m t last.1.at v last.1.leaves l) last.1.kind))
      by (in_join x join c d) = absurd (join_from_no_through shape rules p route t x v join c l (inr a))
      by (in_fork x fork c d) = absurd (fork_to_no_through shape rules p route u x w fork d e (inr b))

  -- The leg ends on a vertex that leads to the one at which the later leg begins.
  record CutsBetween (t u : TransId) : Type 0 where
    last_of_first : TransId
    first_of_last : TransId
    from : VertexId
    to : VertexId
    first_leg : SameLeg m p t last_of_first
    last_leg : SameLeg m p first_of_last u
    from_cuts : IsCut m from
    to_cuts : IsCut m to
    enters : Enters m last_of_first from
    leaves : Leaves m first_of_last to
    leads : (from ≡ to) ⊎ LeadsOn m from to

  cuts_between : (t u : TransId) → LaterLeg m p t u → CutsBetween t u
  cuts_between t u (leg_next h) = record {
    last_of_first = h.0;
    first_of_last = h.1;
    from = h.2;
    to = h.2;
    first_leg = h.3;
    last_leg = h.4;
    from_cuts = h.5;
    to_cuts = h.5;
    enters = h.6;
    leaves = h.7;
    leads = inl refl;
  }
  cuts_between t u (leg_after {u = k} h rest) =
      let c = cuts_between k u rest in
      let over = leg_leads h.1 c.last_of_first h.2 c.from (leg_on m p h.1 k c.last_of_first h.4 c.first_leg) h.5 c.from_cuts h.7 c.enters in
      record {
        last_of_first = h.0;
        first_of_last = c.first_of_last;
        from = h.2;
        to = c.to;
        first_leg = h.3;
        last_leg = c.last_leg;
        from_cuts = h.5;
        to_cuts = c.to_cuts;
        enters = h.6;
        leaves = c.leaves;
        leads = inr (leads_then m h.2 c.from c.to over c.leads);
      }

  pub not_in_later : (t u : TransId) → LaterLeg m p t u → SameLeg m p u t → ⊥
  not_in_later t u h leg =
      let c = cuts_between t u h in
      let around = leg_leads c.first_of_last c.last_of_first c.to c.from
      (leg_on m p c.first_of_last u c.last_of_first c.last_leg (leg_on m p u t c.last_of_first leg c.first_leg)) c.to_cuts c.from_cuts c.leaves c.enters in
      no_cycle rules c.from (then_leads m c.from c.to c.from c.leads around)

  pub not_after_itself : (t : TransId) → LaterLeg m p t t → ⊥
  not_after_itself t h = let c = cuts_between t t h in not_in_later t t h (itself (begins_on m p t c.last_of_first c.first_leg))
