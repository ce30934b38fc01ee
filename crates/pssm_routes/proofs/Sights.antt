-- What looks tell: of one transition, of all out of a vertex, and of the active vertices of one region after another.
use Rattle.std.proofs.Common.{◌≡◌, ◌∙◌, ◌⊎◌, ◌↔◌, ◌<◌, ◌≤◌, ◌+◌, ◌++◌, ℕ, List, [], ◌∷◌, length, take, get_or, Bool, false, Option, Some, None, is_some, IfSome, IsTrue, Contains, sym, ap, subst, inl, inr, ⊎_elim, arith}
use Rattle.std.proofs.lemmas.Bool.{cases_eq, true≢false}
use Rattle.std.proofs.lemmas.List.{take_all}
use Rattle.std.proofs.lemmas.List.Elements.{Contains-push, Contains-push_cases, Contains-append_left}
use Rattle.std.proofs.lemmas.Option.{slice_get_within}
use Rattle.pssm_model.specs.declared.ids.VertexId.{VertexId}
use Rattle.pssm_model.specs.declared.ids.RegionId.{RegionId}
use Rattle.pssm_model.specs.declared.ids.TransId.{TransId}
use Rattle.pssm_model.specs.declared.elements.DraftMachine.{DraftMachine}
use Rattle.pssm_model.specs.declared.elements.Owner.{Owner}
use Rattle.pssm_model.specs.declared.elements.Owner.TheVariants.{Top, Region, State}
use Rattle.pssm_model.specs.declared.elements.Vertex.{Vertex}
use Rattle.pssm_model.specs.declared.elements.VertexKind.{VertexKind}
use Rattle.pssm_model.specs.declared.elements.VertexKind.TheVariants as kinds
use Rattle.pssm_model.specs.declared.steps.Event.{Event}
use Rattle.pssm_model.specs.Configuration.{Configuration, IsDirect}
use Rattle.pssm_model.specs.Forest.{owner_of, vertex_at, HasKind, IsOrLiesIn}
use Rattle.pssm_model.specs.Legs.{Leaves}
use Rattle.pssm_model.specs.Routes.{Truth}
use Rattle.pssm_model.specs.Shapes.{HasShape, OwnsVertex}
use Rattle.pssm_model.specs.WellFormed.{KeepsModelRules}
use Rattle.pssm_model.proofs.ElementLaws.{mapped_some, mapped_at, nothing_in_nil}
use Rattle.pssm_model_laws.proofs.Through.{kinds_clash}
use Rattle.pssm_config.specs.Tables.{Tables, Fits, configuration_of, held_in}
use Rattle.pssm_routes.specs.inner.Starts.{IsStartedWith, GoesOnBy, Reacts, StartsWay, IsReactingIn, ReactsAlone}
use Rattle.pssm_enabled.specs.Ways.{LeadsOut}
use Rattle.pssm_enabled.proofs.Choosing.{seen_cases}
use Rattle.pssm_routes.proofs.Enabled.{enabled_started, started_state}
use Rattle.pssm_routes.proofs.Reaction.{reacts_leads, way_reacts, route_by_reacts}
use Rattle.pssm_routes.proofs.Onward.{one_onward}
use Rattle.pssm_enabled.proofs.StartLaws.{is_among_starts}
use Rattle.pssm_routes.proofs.WaysOut.{leads_way}

-- what holds of what an option holds
pub if_some_map : {X : Type 0} {P Q : X → Type 0} (o : Option X) → ((x : X) → P x → Q x) → IfSome o P → IfSome o Q
if_some_map None f h = tt
if_some_map (Some x) f h = f x h

-- none of the transitions so far starts a way
module _ (m : DraftMachine) (now : Configuration) (truth : Truth) (event : Event) where
  abbrev pub StartNone : List TransId → Type 0
  StartNone ts = (t : TransId) → Contains ts t → StartsWay m now truth event t → ⊥

  pub none_start : StartNone []
  none_start t has = absurd (nothing_in_nil t has)

  pub none_more : (ts : List TransId) (n : ℕ) (d : TransId) → n < length ts → StartNone (take n ts)
      → (StartsWay m now truth event (get_or ts n d) → ⊥) → StartNone (take (n + 1) ts)
  none_more ts n d lt h not t has =
      ⊎_elim (λ was. h t was) (λ same starts. not (subst (StartsWay m now truth event) (sym same) starts)) (seen_cases ts n d lt t has)

  -- A State that lies directly in one of the regions below a number reacts.
  abbrev pub ReactsBelow : ℕ → VertexId → Type 0
  ReactsBelow n s = (r : RegionId) × (r.0 < n) × IsDirect m s r × Reacts m now truth event s

  pub below_none : (s : VertexId) → ReactsBelow 0 s → ⊥
  below_none s h = let lt = h.1 in omega (arith, lt)

  below_was : (n : ℕ) (s : VertexId) → ReactsBelow n s → ReactsBelow (n + 1) s
  below_was n s h = (h.0, (let lt = h.1 in omega (arith, lt)), h.2, h.3)

  below_now : (n : ℕ) (r : RegionId) (found : Option VertexId) → r.0 ≡ n → IsReactingIn m now truth event r found → (s : VertexId)
      → found ≡ Some s → ReactsBelow (n + 1) s
  below_now n r found e is s at = let here = (is s).0 at in (r, omega (arith, e), here.0, here.1)

  below_cases : (n : ℕ) (r : RegionId) (found : Option VertexId) → r.0 ≡ n → IsReactingIn m now truth event r found → (s : VertexId)
      → ReactsBelow (n + 1) s → ReactsBelow n s ⊎ (found ≡ Some s)
  below_cases n r found e is s h =
      ⊎_elim
      (λ same.
      let one : h.0 ≡ r = ap (λ k. let q : RegionId = record { 0 = k } in q) (same ∙ sym e) in
      inr ((is s).1 (subst (IsDirect m s) one h.2, h.3)))
      (λ apart. inl (h.0, (let lt = h.1 in omega (arith, lt, apart)), h.2, h.3))
      (cases_eq h.0.0 n)

  -- It is the one that reacts so far, if one does.
  abbrev pub IsLone : Option VertexId → ℕ → Type 0
  IsLone alone n = (s : VertexId) → (alone ≡ Some s) ↔ ReactsBelow n s

  pub lone_start : IsLone None 0
  lone_start s = (λ e. absurd (cc), λ h. absurd (below_none s h))

  pub lone_skip : (alone found : Option VertexId) (n : ℕ) (r : RegionId) → r.0 ≡ n → is_some found ≡ false → IsReactingIn m now truth event r found
      → IsLone alone n → IsLone alone (n + 1)
  lone_skip alone (Some x) n r e none is h s = absurd (true≢false none)
  lone_skip alone None n r e none is h s = (
    λ at. below_was n s ((h s).0 at),
    λ below. ⊎_elim (λ was. (h s).1 was) (λ at. absurd (let no : None ≡ Some s = at in cc)) (below_cases n r None e is s below),
  )

  pub lone_take : (alone found : Option VertexId) (n : ℕ) (r : RegionId) → r.0 ≡ n → is_some alone ≡ false → IsReactingIn m now truth event r found
      → IsLone alone n → IsLone found (n + 1)
  lone_take (Some x) found n r e none is h s = absurd (true≢false none)
  lone_take None found n r e none is h s = (
    λ at. below_now n r found e is s at,
    λ below. ⊎_elim (λ was. absurd (let no : None ≡ Some s = (h s).1 was in cc)) (λ at. at) (below_cases n r found e is s below),
  )

  -- Exactly those that react so far are found.
  abbrev pub AreFoundBelow : List VertexId → ℕ → Type 0
  AreFoundBelow found n = (s : VertexId) → Contains found s ↔ ReactsBelow n s

  pub found_start : (found : List VertexId) → found ≡ [] → AreFoundBelow found 0
  found_start found e s = (λ has. absurd (nothing_in_nil s (subst (λ f. Contains f s) e has)), λ h. absurd (below_none s h))

  pub found_skip : (found more : List VertexId) (n : ℕ) (r : RegionId) → more ≡ found → r.0 ≡ n → IsReactingIn m now truth event r None
      → AreFoundBelow found n → AreFoundBelow more (n + 1)
  found_skip found more n r same e is h s = (
    λ has. below_was n s ((h s).0 (subst (λ f. Contains f s) same has)),
    λ below. subst (λ f. Contains f s) (sym same)
        (⊎_elim (λ was. (h s).1 was) (λ at. absurd (let no : None ≡ Some s = at in cc)) (below_cases n r None e is s below)),
  )

  pub found_take : (found more : List VertexId) (n : ℕ) (r : RegionId) (x : VertexId) → more ≡ found ++ x ∷ [] → r.0 ≡ n
      → IsReactingIn m now truth event r (Some x) → AreFoundBelow found n → AreFoundBelow more (n + 1)
  found_take found more n r x longer e is h s = (
    λ has. ⊎_elim
        (λ was. below_was n s ((h s).0 was))
        (λ same. below_now n r (Some x) e is s (ap Some same))
        (Contains-push_cases found x s (subst (λ f. Contains f s) longer has)),
    λ below. subst (λ f. Contains f s) (sym longer)
        (⊎_elim
        (λ was. Contains-append_left found (x ∷ []) s ((h s).1 was))
        (λ at. let same : x ≡ s = cc in subst (Contains (found ++ x ∷ [])) same (Contains-push found x))
        (below_cases n r (Some x) e is s below)),
  )

  -- None that reacts so far is the State or lies in it.
  abbrev pub NoneInside : VertexId → ℕ → Type 0
  NoneInside state n = (s : VertexId) → ReactsBelow n s → IsOrLiesIn m s state → ⊥

  pub inside_none : (state : VertexId) → NoneInside state 0
  inside_none state s h inside = below_none s h

  pub inside_more : (state : VertexId) (found : Option VertexId) (n : ℕ) (r : RegionId) → r.0 ≡ n → IsReactingIn m now truth event r found
      → ((s : VertexId) × (found ≡ Some s) × IsOrLiesIn m s state → ⊥) → NoneInside state n → NoneInside state (n + 1)
  inside_more state found n r e is not h s below inside =
      ⊎_elim (λ was. h s was inside) (λ at. not (s, at, inside)) (below_cases n r found e is s below)

module _ {m : DraftMachine} (rules : KeepsModelRules m) (now : Configuration) (truth : Truth) (event : Event) where
  -- a transition that is started, and that a look was cast on
  pub looked_starts : (t u : TransId) → IsStartedWith m now event t → GoesOnBy m t u → (is : Bool) → (IsTrue is ↔ LeadsOut m truth None u)
      → IsTrue is ↔ StartsWay m now truth event t
  looked_starts t u started on is tells = (
    λ yes. (started, (u, on, tells.0 yes)),
    λ (begun, (w, onward, leads)). tells.1 (subst (LeadsOut m truth None) (one_onward rules t w u onward on) leads),
  )

  module _ (shape : HasShape m) where
    pub way_starts : (s : VertexId) (t : TransId) → Leaves m t s → StartsWay m now truth event t → Reacts m now truth event s
    way_starts s t leaves (started, (u, on, leads)) =
        let out = leads_way rules truth None u leads in
        route_by_reacts rules shape now truth event s t leaves (way_reacts rules shape now truth event s t u out.0 out.1 leaves started on out.2)

    pub none_react : (s : VertexId) (ts : List TransId) (n : ℕ) → ((t : TransId) → Contains ts t ↔ Leaves m t s) → length ts ≤ n
        → StartNone m now truth event (take n ts) → Reacts m now truth event s → ⊥
    none_react s ts n lists le h reacts =
        let leads = reacts_leads rules shape now truth event s reacts in
        h leads.0 (subst (λ us. Contains us leads.0) (sym (take_all n ts le)) ((lists leads.0).1 leads.1.leaves))
        (leads.1.started, (leads.1.onward, leads.1.on, leads.1.leads))

-- what reacts is an active State, and lies directly in a region
state_home : {m : DraftMachine} → HasShape m → (s : VertexId) → HasKind m s kinds.State
    → (r : RegionId) × (owner_of m (State s) ≡ Some (Region r)) × (r.0 < length m.regions)
state_home {m = m} shape s kind =
    let x = mapped_some (λ (y : Vertex). y.kind) (vertex_at m s) kinds.State kind in
    by x.0.owner (shape.vertices s x.0 x.1).0 (mapped_at (λ (y : Vertex). y.owner) (vertex_at m s) x.0 x.1)
  where
    by : (p : Owner) → OwnsVertex m s p → owner_of m (State s) ≡ Some p
        → (r : RegionId) × (owner_of m (State s) ≡ Some (Region r)) × (r.0 < length m.regions)
    by Top owns e = absurd owns
    by (Region r) owns e = (r, e, owns.1)
    by (State q) owns e = absurd (⊎_elim
        (λ entry. kinds_clash m s kinds.State kinds.EntryPoint (λ f. cc) kind entry)
        (λ exit. kinds_clash m s kinds.State kinds.ExitPoint (λ f. cc) kind exit)
        owns.0)

module _ {m : DraftMachine} (tables : Tables) (fits : Fits m tables) (truth : Truth) (event : Event) where
  abbrev now : Configuration
  now = configuration_of tables

  reacting_state : (s : VertexId) → Reacts m now truth event s → HasKind m s kinds.State × now.Active s
  reacting_state s (p, enabled, (t, start, leaves)) =
      let started = enabled_started now truth event p t enabled start in
      (started_state now event t s started leaves, started.2.active s (t, is_among_starts m t started.0 started.1, leaves))

  pub reacts_home : (s : VertexId) → Reacts m now truth event s → (r : RegionId) × IsDirect m s r × (r.0 < length m.regions)
  reacts_home s reacts =
      let is = reacting_state s reacts in
      let home = state_home fits.shape s is.0 in
      (home.0, (home.1, inl is.0), home.2)

  pub reacts_held : (s : VertexId) (r : RegionId) → IsDirect m s r → Reacts m now truth event s → held_in tables r ≡ Some s
  reacts_held s r direct reacts = (fits.held r s).1 (direct, (reacting_state s reacts).1)

  -- no vertex that is not held reacts, and the one that is held reacts exactly if it does
  pub none_held : (r : RegionId) → held_in tables r ≡ None → IsReactingIn m now truth event r None
  none_held r none s = (
    λ e. absurd (let no : None ≡ Some s = e in cc),
    λ is. absurd (let no : None ≡ Some s = sym none ∙ reacts_held s r is.0 is.1 in cc),
  )

  pub held_reacts : (r : RegionId) (x : VertexId) → held_in tables r ≡ Some x → Reacts m now truth event x → IsReactingIn m now truth event r (Some x)
  held_reacts r x held reacts s = (
    λ e. let same : x ≡ s = cc in (((fits.held r s).0 (held ∙ e)).0, subst (Reacts m now truth event) same reacts),
    λ is. sym held ∙ reacts_held s r is.0 is.1,
  )

  pub held_quiet : (r : RegionId) (x : VertexId) → held_in tables r ≡ Some x → (Reacts m now truth event x → ⊥) → IsReactingIn m now truth event r None
  held_quiet r x held not s = (
    λ e. absurd (let no : None ≡ Some s = e in cc),
    λ is. absurd (let same : Some x ≡ Some s = sym held ∙ reacts_held s r is.0 is.1 in
        let one : x ≡ s = cc in not (subst (Reacts m now truth event) (sym one) is.1)),
  )

  pub held_there : (r : RegionId) (x : VertexId) → held_in tables r ≡ Some x → x.0 < length m.vertices
  held_there r x held =
      let kind = ((fits.held r x).0 held).0.1 in
      ⊎_elim (λ k. of_kind kinds.State k) (λ k. of_kind kinds.Final k) kind
    where
      of_kind : (k : VertexKind) → HasKind m x k → x.0 < length m.vertices
      of_kind k is = let at = mapped_some (λ (y : Vertex). y.kind) (vertex_at m x) k is in slice_get_within m.vertices x.0 at.0 at.1

  -- where all regions were looked at
  pub below_all : (n : ℕ) → length m.regions ≤ n → (s : VertexId) → Reacts m now truth event s → ReactsBelow m now truth event n s
  below_all n all s reacts = let home = reacts_home s reacts in (home.0, (let lt = home.2 in omega (arith, lt, all)), home.1, reacts)

  pub lone_end : (alone : Option VertexId) (n : ℕ) → length m.regions ≤ n → IsLone m now truth event alone n
      → IfSome alone (ReactsAlone m now truth event)
  lone_end None n all h = tt
  lone_end (Some x) n all h = λ q. (
    λ has. ⊎_elim
        (λ none. absurd (nothing_in_nil q none))
        (λ same. ((h q).0 (ap Some same)).3)
        (Contains-push_cases [] x q has),
    λ reacts.
        let at : Some x ≡ Some q = (h q).1 (below_all n all q reacts) in
        let same : x ≡ q = cc in
        subst (Contains (x ∷ [])) same (Contains-push [] x),
  )

  pub found_end : (found : List VertexId) (n : ℕ) → length m.regions ≤ n → AreFoundBelow m now truth event found n
      → (s : VertexId) → Contains found s ↔ Reacts m now truth event s
  found_end found n all h s = (λ has. ((h s).0 has).3, λ reacts. (h s).1 (below_all n all s reacts))
