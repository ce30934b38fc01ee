-- A set of routes fires exactly where its routes are settled and none can join.
use Rattle.std.proofs.Common.{◌≡◌, ◌≢◌, ◌↔◌, List, ◌∷◌, Contains, sym, subst, inl, inr, ⊎_elim, ◌∙◌}
use Rattle.std.proofs.lemmas.List.Elements.{All-contains, All-cons}
use Rattle.pssm_model.specs.declared.ids.VertexId.{VertexId}
use Rattle.pssm_model.specs.declared.ids.TransId.{TransId}
use Rattle.pssm_model.specs.declared.elements.DraftMachine.{DraftMachine}
use Rattle.pssm_model.specs.declared.elements.Element.TheVariants as elements
use Rattle.pssm_model.specs.declared.elements.FaultPlace.TheVariants as places
use Rattle.pssm_model.specs.declared.elements.VertexKind.TheVariants as kinds
use Rattle.pssm_model.specs.declared.elements.Owner.TheVariants.{State}
use Rattle.pssm_model.specs.declared.steps.Route.{Route}
use Rattle.pssm_model.specs.declared.steps.Event.{Event}
use Rattle.pssm_model.specs.Forest.{HasKind, LiesInState}
use Rattle.pssm_model.specs.Shapes.{HasShape}
use Rattle.pssm_model.specs.Legs.{Leaves, Enters}
use Rattle.pssm_model.specs.Configuration.{Configuration}
use Rattle.pssm_model.specs.Routes.{Truth, IsStateRoute, IsEnabled, IsSource, Conflict}
use Rattle.pssm_model.specs.FiringSets.{IsSound, IsFiringSet}
use Rattle.pssm_model.proofs.ElementLaws.{leaves_one}
use Rattle.pssm_model_laws.proofs.Known.{known_transition}
use Rattle.pssm_model_laws.proofs.RouteOrder.{same_or_join}
use Rattle.pssm_model.proofs.OwnerChains.{under_further, circle_is_endless}
use Rattle.pssm_model.specs.Forest.LiesUnder.{owned, further}
use Rattle.pssm_model.specs.WellFormed.{KeepsModelRules}
use Rattle.pssm_model.specs.WellFormed.Breaks.{E07}
use Rattle.pssm_routes.specs.inner.Starts.{IsOutranked}
use Rattle.pssm_routes.specs.inner.Sets.{CanJoin, IsSettled, IsFull}
use Rattle.pssm_enabled.proofs.Members.{all_of_members, in_front, in_rest, front_or_rest, is_there_or_not}

-- a conflict is one of both
pub conflict_turns : (m : DraftMachine) (Active : VertexId → Type 0) (p q : Route) → Conflict m Active p q → Conflict m Active q p
conflict_turns m Active p q h = (
  λ e. h.0 (sym e),
  ⊎_elim
      (λ both. inl (both.0, both.2, both.1))
      (λ more. ⊎_elim
      (λ first. inr (inr (inl first)))
      (λ others. ⊎_elim
      (λ second. inr (inl second))
      (λ chain. inr (inr (inr (chain.1, chain.0, chain.3, chain.2, ⊎_elim (λ inside. inr inside) (λ out. inl out) chain.4))))
      others)
      more)
      h.1,
)

-- no State lies in itself
pub not_in_itself : {m : DraftMachine} → HasShape m → (s : VertexId) → LiesInState m s s → ⊥
not_in_itself {m} shape s h = circle_is_endless {m = m} (under_further {m = m} (owned h.1) h.2) (shape.regions h.0 (State s) h.1).1.2

module _ {m : DraftMachine} (rules : KeepsModelRules m) (shape : HasShape m) where
  -- different transitions into one join leave States that do not lie in one another
  segments_apart : (t u : TransId) (s r j : VertexId) → t ≢ u → HasKind m j kinds.Join → Enters m t j → Enters m u j → Leaves m t s → Leaves m u r
      → LiesInState m r s → ⊥
  segments_apart t u s r j apart k e f l g lies =
      rules (places.At (elements.Vertex j)) 7 (E07 (
        k,
        inr (λ beside.
            let around = beside.5.inside t s (e, l) in
            beside.5.apart t u s r around.0 apart (e, l) (f, g) around.1 around.2 (under_further lies.2 (further lies.1 around.2))),
      ))

  -- no source of a route lies in another
  pub sources_apart : (p : Route) (s r : VertexId) → IsStateRoute m p → IsSource m p s → IsSource m p r → LiesInState m r s → ⊥
  sources_apart p s r route (t, first, l) (u, second, g) lies =
      let alone = λ (same : t ≡ u). (
      let here : s ≡ r = leaves_one m u s r (subst (λ x. Leaves m x s) same l) g in
      not_in_itself shape s (subst (λ x. LiesInState m x s) (sym here) lies)
      ) in
      ⊎_elim
      (λ same. alone same)
      (λ apart. ⊎_elim
      (λ same. apart same)
      (λ join. segments_apart t u s r join.0 apart join.1 join.2 join.3 l g lies)
      (same_or_join shape rules p route.0 t u first second))
      (known_transition t u)

  module _ (now : Configuration) (truth : Truth) (event : Event) (routes : List Route) where
    -- an enabled route that starts in a source of another conflicts with it
    outranked_conflicts : (p q : Route) (s r : VertexId) → IsEnabled m now truth event p → IsSource m p s → IsSource m q r → LiesInState m r s
        → Conflict m now.Active p q
    outranked_conflicts p q s r enabled source other lies = (
      λ same. sources_apart p s r enabled.route_of_states source (subst (λ x. IsSource m x r) (sym same) other) lies,
      inr (inr (inr (s, r, source, other, inr (inr lies)))),
    )

    -- a sound set has no route in whose source an enabled one starts
    sound_first : IsSound m now truth event routes → (p : Route) (s : VertexId) → Contains routes p → IsSource m p s
        → IsOutranked m now truth event s → ⊥
    sound_first sound p s there source out =
        let q = out.1.0 in
        sound.ranked p q there out.1.1
        (outranked_conflicts p q s out.0 (All-contains (IsEnabled m now truth event) routes p sound.enabled there) source out.1.2 out.2)
        (out.0, s, out.1.2, source, out.2)

    settled_sound : IsSettled m now truth event routes → IsSound m now truth event routes
    settled_sound h = record {
      enabled = all_of_members (IsEnabled m now truth event) routes h.enabled;
      agree = h.agree;
      ranked = λ p q there enabled conflict prior. h.first p prior.1 there prior.3 (prior.0, (q, enabled, prior.2), prior.4);
    }

    -- with a route that can join the set stays sound
    joined_sound : (q : Route) → IsSound m now truth event routes → CanJoin m now truth event routes q → IsSound m now truth event (q ∷ routes)
    joined_sound q sound joins = record {
      enabled = All-cons (IsEnabled m now truth event) q routes joins.enabled sound.enabled;
      agree = λ p r one two conflict. ⊎_elim
          (λ (first : q ≡ p). ⊎_elim
          (λ (second : q ≡ r). conflict.0 (sym first ∙ second))
          (λ there. joins.agrees r there (conflict_turns m now.Active q r (subst (λ x. Conflict m now.Active x r) (sym first) conflict)))
          (front_or_rest q r routes two))
          (λ here. ⊎_elim
          (λ (second : q ≡ r). joins.agrees p here (subst (λ x. Conflict m now.Active p x) (sym second) conflict))
          (λ there. sound.agree p r here there conflict)
          (front_or_rest q r routes two))
          (front_or_rest q p routes one);
      ranked = λ p r one enabled conflict prior. ⊎_elim
          (λ (first : q ≡ p). joins.first prior.1 (subst (λ x. IsSource m x prior.1) (sym first) prior.3) (prior.0, (r, enabled, prior.2), prior.4))
          (λ here. sound.ranked p r here enabled conflict prior)
          (front_or_rest q p routes one);
    }

  module _ (now : Configuration) (truth : Truth) (event : Event) (routes : List Route) where
    -- a route of a larger sound set is one that can join
    larger_joins : (others : List Route) (q : Route) → IsSound m now truth event others → ((p : Route) → Contains routes p → Contains others p)
        → Contains others q → (Contains routes q → ⊥) → CanJoin m now truth event routes q
    larger_joins others q sound more there other = record {
      enabled = All-contains (IsEnabled m now truth event) others q sound.enabled there;
      other = other;
      agrees = λ p here. sound.agree p q (more p here) there;
      first = λ s. sound_first now truth event others sound q s there;
    }

    pub fires_settled : IsFiringSet m now truth event routes ↔ (IsSettled m now truth event routes × IsFull m now truth event routes)
    fires_settled = (
      λ h. (
        record {
          enabled = λ p. All-contains (IsEnabled m now truth event) routes p h.sound.enabled;
          agree = h.sound.agree;
          first = sound_first now truth event routes h.sound;
        },
        λ q joins. joins.other (h.largest
            (q ∷ routes)
            (joined_sound now truth event routes q h.sound joins)
            (λ p there. in_rest q p routes there)
            q
            (in_front q routes)),
      ),
      λ h. record {
        sound = settled_sound now truth event routes h.0;
        largest = λ others sound more q there. ⊎_elim
            (λ here. here)
            (λ other. absurd (h.1 q (larger_joins others q sound more there other)))
            (is_there_or_not routes q);
      },
    )
