-- What the search shows of the transitions and vertices so far: that none of them reacts.
use Rattle.std.proofs.Common.{◌≡◌, ◌∙◌, ◌↔◌, ◌<◌, ◌≤◌, ◌+◌, ℕ, List, [], ◌∷◌, ◌++◌, length, get_or, take, true, false, Option, Some, None, is_some, IfSome, IfNone, Contains, All, ap, sym, subst, ⊎_elim, arith}
use Rattle.std.proofs.lemmas.Bool.{cases_eq, true≢false}
use Rattle.std.proofs.lemmas.List.{take_all}
use Rattle.std.proofs.lemmas.List.Elements.{Contains-push, Contains-push_cases, Contains-append_left, All-push}
use Rattle.pssm_model.specs.declared.ids.VertexId.{VertexId}
use Rattle.pssm_model.specs.declared.ids.TransId.{TransId}
use Rattle.pssm_model.specs.declared.ids.SignalId.{SignalId}
use Rattle.pssm_model.specs.declared.elements.DraftMachine.{DraftMachine}
use Rattle.pssm_model.specs.declared.steps.Event.{Event}
use Rattle.pssm_model.specs.declared.steps.Event.TheVariants.{Signal}
use Rattle.pssm_model.specs.Configuration.{Configuration}
use Rattle.pssm_model.specs.Forest.{IsOrLiesIn}
use Rattle.pssm_model.specs.Shapes.{HasShape}
use Rattle.pssm_model.specs.Legs.{Leaves}
use Rattle.pssm_model.specs.Routes.{Truth}
use Rattle.pssm_model.specs.FiringSets.{Overrides}
use Rattle.pssm_model.proofs.ElementLaws.{mapped_some, nothing_in_nil, same_vertex}
use Rattle.pssm_model.specs.WellFormed.{KeepsModelRules}
use Rattle.pssm_enabled.specs.declared.seeking.Search.{Search}
use Rattle.pssm_routes.specs.inner.Starts.{IsStartedWith, GoesOnBy, Reacts}
use Rattle.pssm_enabled.specs.Ways.{LeadsOut}
use Rattle.pssm_enabled.specs.Steps.{KnowsDeadEnds}
use Rattle.pssm_enabled.proofs.Choosing.{seen_cases}
use Rattle.pssm_routes.proofs.Reaction.{reacts_leads}

-- what an option that holds something, or nothing, says
pub holds_some : {X : Type 0} (P : X → Type 0) (o : Option X) → is_some o ≡ true → IfSome o P → (x : X) × P x
holds_some P None e h = absurd (true≢false (sym e))
holds_some P (Some x) e h = (x, h)

pub holds_none : {X : Type 0} (P : Type 0) (o : Option X) → is_some o ≡ false → IfNone o P → P
holds_none P None e h = h
holds_none P (Some x) e h = absurd (true≢false e)

-- the vertices below a number, and the one with that number
pub same_place : (v w : VertexId) (n : ℕ) → v.0 ≡ n → w.0 ≡ n → v ≡ w
same_place v w n e f = same_vertex v w (e ∙ sym f)

pub below_last : (q n : ℕ) → q < n + 1 → (q ≡ n → ⊥) → q < n
below_last q n lt apart = omega (arith, lt, apart)

-- one transition more that is not so
pub no_start_more : (P : TransId → Type 0) (n : ℕ) (at : TransId) → at.0 ≡ n → ((t : TransId) → t.0 < n → P t → ⊥) → (P at → ⊥)
    → (t : TransId) → t.0 < n + 1 → P t → ⊥
no_start_more P n at e none not t lt is = ⊎_elim
    (λ same. let one : t ≡ at = ap (λ k. let u : TransId = record { 0 = k } in u) (same ∙ sym e) in not (subst P one is))
    (λ apart. none t (below_last t.0 n lt apart) is)
    (cases_eq t.0 n)

-- one element more at the end of a list
pub all_more : {X : Type 0} (P : X → Type 0) (found more : List X) (x : X) → more ≡ found ++ x ∷ [] → All P found → P x → All P more
all_more P found more x e all here = subst (All P) (sym e) (All-push P found x all here)

module _ (m : DraftMachine) (now : Configuration) (truth : Truth) (event : Event) where
  -- No way leads out where the event starts the transition.
  abbrev pub LeadsNowhere : TransId → Type 0
  LeadsNowhere t = (u : TransId) → IsStartedWith m now event t → GoesOnBy m t u → LeadsOut m truth None u → ⊥

  -- The search has seen only dead ends, and no way leads out from those of these transitions that the event starts.
  pub record IsFruitless (ts : List TransId) (search : List Search) : Type 0 where
    pub dead : KnowsDeadEnds m truth None search
    pub none : (t : TransId) → Contains ts t → LeadsNowhere t

  pub fruitless_start : (search : List Search) → KnowsDeadEnds m truth None search → IsFruitless [] search
  fruitless_start search dead = record { dead = dead; none = λ t has. absurd (nothing_in_nil t has) }

  pub fruitless_more : (ts : List TransId) (n : ℕ) (d : TransId) (old new : List Search) → n < length ts → IsFruitless (take n ts) old
      → KnowsDeadEnds m truth None new → LeadsNowhere (get_or ts n d) → IsFruitless (take (n + 1) ts) new
  fruitless_more ts n d old new lt h dead not = record {
    dead = dead;
    none = λ t has. ⊎_elim
        (λ was. h.none t was)
        (λ same. subst LeadsNowhere same not)
        (seen_cases ts n d lt t has);
  }

  -- none of its transitions leads out: the vertex does not react
  pub fruitless_end : KeepsModelRules m → HasShape m → (s : VertexId) (ts : List TransId) (n : ℕ) (search : List Search)
      → ((t : TransId) → Contains ts t ↔ Leaves m t s) → length ts ≤ n → IsFruitless (take n ts) search → Reacts m now truth event s → ⊥
  fruitless_end rules shape s ts n search lists le h reacts =
      let leads = reacts_leads rules shape now truth event s reacts in
      h.none leads.0 (subst (λ us. Contains us leads.0) (sym (take_all n ts le)) ((lists leads.0).1 leads.1.leaves))
      leads.1.onward leads.1.started leads.1.on leads.1.leads

  -- what reacts is a vertex of the machine
  pub reacts_there : HasShape m → (s : VertexId) → Reacts m now truth event s → s.0 < length m.vertices
  reacts_there shape s h =
      let at = mapped_some _ _ _ h.2.2 in
      subst (λ (v : VertexId). v.0 < length m.vertices) at.2 (shape.ends h.2.0 at.0 at.1).0

  -- The search has seen only dead ends, and no vertex so far that is the State or lies in it reacts.
  pub record IsBarren (state : VertexId) (n : ℕ) (search : List Search) : Type 0 where
    pub dead : KnowsDeadEnds m truth None search
    pub none : (q : VertexId) → q.0 < n → IsOrLiesIn m q state × Reacts m now truth event q → ⊥

  pub barren_start : (state : VertexId) (search : List Search) → KnowsDeadEnds m truth None search → IsBarren state 0 search
  barren_start state search dead = record { dead = dead; none = λ q lt h. (let no : ⊥ = omega (arith, lt) in no) }

  pub barren_more : (state at : VertexId) (n : ℕ) (old new : List Search) → at.0 ≡ n → IsBarren state n old → KnowsDeadEnds m truth None new
      → (IsOrLiesIn m at state × Reacts m now truth event at → ⊥) → IsBarren state (n + 1) new
  barren_more state at n old new e h dead not = record {
    dead = dead;
    none = λ q lt is. ⊎_elim
        (λ same. not (subst (λ v. IsOrLiesIn m v state × Reacts m now truth event v) (same_place q at n same e) is))
        (λ apart. h.none q (below_last q.0 n lt apart) is)
        (cases_eq q.0 n);
  }

  pub barren_end : HasShape m → (state : VertexId) (n : ℕ) (search : List Search) → length m.vertices ≤ n → IsBarren state n search
      → (q : VertexId) → IsOrLiesIn m q state × Reacts m now truth event q → ⊥
  barren_end shape state n search le h q is =
      let there = reacts_there shape q is.1 in
      h.none q (let below : q.0 < n = omega (arith, le, there) in below) is

  -- Exactly the vertices so far that react are found, and the search has seen only dead ends.
  pub record AreReacting (found : List VertexId) (n : ℕ) (search : List Search) : Type 0 where
    pub dead : KnowsDeadEnds m truth None search
    pub found_are : (s : VertexId) → Contains found s ↔ ((s.0 < n) × Reacts m now truth event s)

  pub reacting_start : (found : List VertexId) (search : List Search) → found ≡ [] → KnowsDeadEnds m truth None search → AreReacting found 0 search
  reacting_start found search e dead = record {
    dead = dead;
    found_are = λ s. (
      λ has. absurd (nothing_in_nil s (subst (λ f. Contains f s) e has)),
      λ is. absurd (let lt = is.0 in omega (arith, lt)),
    );
  }

  reacting_push : (found : List VertexId) (n : ℕ) (at : VertexId) (old new : List Search) → at.0 ≡ n → AreReacting found n old
      → KnowsDeadEnds m truth None new → Reacts m now truth event at → AreReacting (found ++ at ∷ []) (n + 1) new
  reacting_push found n at old new e h dead reacts = record {
    dead = dead;
    found_are = λ s. (
      λ has. ⊎_elim
          (λ was. let is = (h.found_are s).0 was in let lt = is.0 in (omega (arith, lt), is.1))
          (λ same. subst (λ v. (v.0 < n + 1) × Reacts m now truth event v) same (omega (arith, e), reacts))
          (Contains-push_cases found at s has),
      λ is. ⊎_elim
          (λ same. subst (Contains (found ++ at ∷ [])) (same_place at s n e same) (Contains-push found at))
          (λ apart. Contains-append_left found (at ∷ []) s ((h.found_are s).1 (below_last s.0 n is.0 apart, is.1)))
          (cases_eq s.0 n),
    );
  }

  pub reacting_more : (found more : List VertexId) (n : ℕ) (at : VertexId) (old new : List Search) → more ≡ found ++ at ∷ [] → at.0 ≡ n
      → AreReacting found n old → KnowsDeadEnds m truth None new → Reacts m now truth event at → AreReacting more (n + 1) new
  reacting_more found more n at old new is e h dead reacts =
      subst (λ items. AreReacting items (n + 1) new) (sym is) (reacting_push found n at old new e h dead reacts)

  reacting_skip : (found : List VertexId) (n : ℕ) (at : VertexId) (old new : List Search) → at.0 ≡ n → AreReacting found n old
      → KnowsDeadEnds m truth None new → (Reacts m now truth event at → ⊥) → AreReacting found (n + 1) new
  reacting_skip found n at old new e h dead not = record {
    dead = dead;
    found_are = λ s. (
      λ has. (let is = (h.found_are s).0 has in let lt = is.0 in (omega (arith, lt), is.1)),
      λ is. ⊎_elim
          (λ same. absurd (not (subst (Reacts m now truth event) (same_place s at n same e) is.1)))
          (λ apart. (h.found_are s).1 (below_last s.0 n is.0 apart, is.1))
          (cases_eq s.0 n),
    );
  }

  pub reacting_same : (found more : List VertexId) (n : ℕ) (at : VertexId) (old new : List Search) → more ≡ found → at.0 ≡ n
      → AreReacting found n old → KnowsDeadEnds m truth None new → (Reacts m now truth event at → ⊥) → AreReacting more (n + 1) new
  reacting_same found more n at old new is e h dead not =
      subst (λ items. AreReacting items (n + 1) new) (sym is) (reacting_skip found n at old new e h dead not)

  pub reacting_end : HasShape m → (found : List VertexId) (n : ℕ) (search : List Search) → length m.vertices ≤ n → AreReacting found n search
      → (s : VertexId) → Contains found s ↔ Reacts m now truth event s
  reacting_end shape found n search le h s = (
    λ has. ((h.found_are s).0 has).1,
    λ reacts. (h.found_are s).1 ((let there = reacts_there shape s reacts in let below : s.0 < n = omega (arith, le, there) in below), reacts),
  )

-- what reacts in the State or is it, and reacts, overrides it
pub overrides_is : (m : DraftMachine) (now : Configuration) (truth : Truth) (signal : SignalId) (state : VertexId)
    → Overrides m now truth signal state ↔ ((q : VertexId) × IsOrLiesIn m q state × Reacts m now truth (Signal signal) q)
overrides_is m now truth signal state = (
  λ h. (h.1, h.4, (h.0, h.2, h.3)),
  λ h. (h.2.0, h.0, h.2.1, h.2.2, h.1),
)
