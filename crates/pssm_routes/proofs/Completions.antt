-- Only the State reacts to its completion, where none of its transitions ends on a join.
use Rattle.std.proofs.Common.{◌≡◌, ◌↔◌, [], ◌∷◌, List, Option, Some, None, IfSome, Contains, All, sym, ap, subst, ⊎_elim}
use Rattle.std.proofs.lemmas.List.Elements.{Contains-push, Contains-push_cases, All-contains_itself, All-weaker}
use Rattle.pssm_model.specs.declared.ids.VertexId.{VertexId}
use Rattle.pssm_model.specs.declared.elements.DraftMachine.{DraftMachine}
use Rattle.pssm_model.specs.declared.steps.Event.{Event}
use Rattle.pssm_model.specs.declared.steps.Event.TheVariants.{Completion}
use Rattle.pssm_model.specs.Configuration.{Configuration}
use Rattle.pssm_model.specs.Legs.{Leaves}
use Rattle.pssm_model.specs.Routes.{Truth}
use Rattle.pssm_model.proofs.ElementLaws.{leaves_one, nothing_in_nil}
use Rattle.pssm_model.proofs.RouteLaws.{is_one}
use Rattle.pssm_routes.specs.inner.Starts.{Reacts, ReactsAlone, StartAlone, IsOneReacting, AreListed}
use Rattle.pssm_routes.proofs.Enabled.{enabled_starts}
use Rattle.pssm_enabled.proofs.StartLaws.{starts_of}

-- where it does not react to its completion, nothing does
pub completes_none : (m : DraftMachine) (now : Configuration) (truth : Truth) (state : VertexId)
    → (Reacts m now truth (Completion state) state → ⊥) → IsOneReacting m now truth (Completion state) None
completes_none m now truth state not s = (
  λ e. absurd (let no : None ≡ Some s = e in cc),
  λ (p, enabled, by). absurd (not (p, enabled, (enabled_starts now truth (Completion state) p enabled).caused.0)),
)

module _ {m : DraftMachine} (now : Configuration) (truth : Truth) (state : VertexId) (alone : StartAlone m state) where
  pub completes_alone : (s : VertexId) → Reacts m now truth (Completion state) s → state ≡ s
  completes_alone s (p, enabled, (t, start, leaves)) =
      let left = (enabled_starts now truth (Completion state) p enabled).caused.0 in
      ⊎_elim
      (λ one.
      let first = is_one left.0 t (subst (λ ts. Contains ts t) one.0 start) in
      leaves_one m t state s (subst (λ u. Leaves m u state) (sym first) left.2) leaves)
      (λ (v, enters, join, lists, order). absurd (alone left.0 left.2 v enters join))
      (starts_of m p left.0 enabled.route_of_states.0 left.1)

  pub completes_it : Reacts m now truth (Completion state) state → IsOneReacting m now truth (Completion state) (Some state)
  completes_it reacts s = (
    λ e. let same : state ≡ s = cc in subst (Reacts m now truth (Completion state)) same reacts,
    λ h. ap Some (completes_alone s h),
  )

-- the one that reacts does so alone
pub one_alone : (m : DraftMachine) (now : Configuration) (truth : Truth) (event : Event) (found : Option VertexId)
    → IsOneReacting m now truth event found → IfSome found (ReactsAlone m now truth event)
one_alone m now truth event None h = tt
one_alone m now truth event (Some x) h = λ q. (
  λ has. ⊎_elim
      (λ none. absurd (nothing_in_nil q none))
      (λ same. (h q).0 (ap Some same))
      (Contains-push_cases [] x q has),
  λ reacts.
      let at : Some x ≡ Some q = (h q).1 reacts in
      let same : x ≡ q = cc in
      subst (Contains (x ∷ [])) same (Contains-push [] x),
)

-- a list of what was found
pub listed_none : (states : List VertexId) → states ≡ [] → AreListed None states
listed_none states e s = (
  λ has. absurd (nothing_in_nil s (subst (λ f. Contains f s) e has)),
  λ at. absurd (let no : None ≡ Some s = at in cc),
)

pub listed_one : (x : VertexId) (states : List VertexId) → states ≡ x ∷ [] → AreListed (Some x) states
listed_one x states e s = (
  λ has. ⊎_elim
      (λ none. absurd (nothing_in_nil s none))
      (λ same. ap Some same)
      (Contains-push_cases [] x s (subst (λ f. Contains f s) e has)),
  λ at. (let same : x ≡ s = cc in subst (λ f. Contains f s) (sym e) (subst (Contains (x ∷ [])) same (Contains-push [] x))),
)

pub listed_react : (m : DraftMachine) (now : Configuration) (truth : Truth) (event : Event) (found : Option VertexId) (states : List VertexId)
    → IsOneReacting m now truth event found → AreListed found states → (s : VertexId) → Contains states s ↔ Reacts m now truth event s
listed_react m now truth event found states one list s = (λ has. (one s).0 ((list s).0 has), λ h. (list s).1 ((one s).1 h))

pub listed_there : (P : VertexId → Type 0) (found : Option VertexId) (states : List VertexId) → IfSome found P → AreListed found states → All P states
listed_there P found states there list =
    All-weaker (Contains states) P (λ s has. at found s ((list s).0 has) there) states (All-contains_itself states)
  where
    at : (found : Option VertexId) (s : VertexId) → found ≡ Some s → IfSome found P → P s
    at None s e h = absurd (let no : None ≡ Some s = e in cc)
    at (Some x) s e h = (let same : x ≡ s = cc in subst P same h)
