-- The parts of a flat draft are its whole.
use Rattle.std.proofs.Common.{◌≡◌, ℕ, ◌*◌, List, length, get_or, sym, ◌∙◌, ap, subst, Option, Bor}
use Rattle.pssm_model.specs.declared.elements.Owner.{Owner}
use Rattle.pssm_model.specs.declared.elements.Vertex.{Vertex}
use Rattle.pssm_model.specs.declared.elements.Transition.{Transition}
use Rattle.pssm_model.specs.declared.elements.DraftMachine.{DraftMachine}
use Rattle.pssm_model.specs.declared.draft_setting.ElementRef.{ElementRef}
use Rattle.pssm_model.specs.declared.draft_setting.Draft.{Draft}
use Rattle.pssm_model.specs.declared.draft_setting.DraftClass.{DraftClass}
use Rattle.pssm_model.specs.declared.draft_setting.DraftVar.{DraftVar}
use Rattle.pssm_model.specs.declared.draft_setting.Body.{Body}
use Rattle.pssm_redefine.specs.declared.parts.Ends.{Ends}
use Rattle.pssm_redefine.specs.declared.parts.Gathered.{Gathered}
use Rattle.pssm_redefine.specs.declared.bodies.Place.{Place}
use Rattle.pssm_redefine.specs.Variables.{class_variables}
use Rattle.pssm_redefine.specs.Bodies.{IsOrder, AreBodies, number_from}
use Rattle.pssm_redefine.specs.Merging.{AreMergedVertices, AreMergedTransitions, IsMergedMachine, IsMerged, slots_of}
use Rattle.pssm_redefine.specs.inner.Gathered.{AreNumbers, lent_bodies}
use Rattle.pssm_redefine.proofs.MergeLaws.{renumbered}

-- a machine from its vertices and transitions
pub whole_machine : (draft : Draft) (number : ℕ → ℕ) (from : Gathered) (owners : List Owner) (forms : List (List ElementRef)) (ends : List Ends) (steps : List (List ElementRef)) (base : ℕ)
    (regions : List Owner) (vertices v : List Vertex) (transitions t : List Transition) → owners ≡ from.owners → forms ≡ from.vertices → ends ≡ from.ends
    → steps ≡ from.transitions → base ≡ 3 * length forms → regions ≡ from.regions → AreMergedVertices draft number owners forms vertices
    → AreMergedTransitions draft number base ends steps transitions → v ≡ vertices → t ≡ transitions
    → IsMergedMachine draft number from (record { regions = regions; vertices = v; transitions = t })
whole_machine draft number from owners forms ends steps base regions vertices v transitions t eo ef ee es eb er hv ht ev et = record {
  regions = er;
  vertices = subst (λ x. AreMergedVertices draft number from.owners from.vertices x) (sym ev)
      (subst (λ o. AreMergedVertices draft number o from.vertices vertices) eo (subst (λ f. AreMergedVertices draft number owners f vertices) ef hv));
  transitions = subst (λ x. AreMergedTransitions draft number (3 * length from.vertices) from.ends from.transitions x) (sym et)
      (subst (λ b. AreMergedTransitions draft number b from.ends from.transitions transitions) (eb ∙ ap (λ (f : List (List ElementRef)). 3 * length f) ef)
      (subst (λ e. AreMergedTransitions draft number base e from.transitions transitions) ee
      (subst (λ s. AreMergedTransitions draft number base ends s transitions) es ht)));
}

-- a flat draft from its variables, its machine and its bodies
pub whole : (draft : Draft) (class : DraftClass) (from : Gathered) (slots s1 s2 : List (Option (Bor Body))) (vs ts : List (List ElementRef)) (order o2 o3 : List Place) (width : ℕ)
    (numbers n2 : List ℕ) (machines : List ℕ) (vars v : List DraftVar) (machine : DraftMachine) (bodies b : List Body) → vs ≡ from.vertices → ts ≡ from.transitions
    → lent_bodies slots ≡ slots_of draft vs ts → s1 ≡ slots → s2 ≡ slots → IsOrder (lent_bodies s1) order → o2 ≡ order → o3 ≡ order → AreNumbers width 1 o2 numbers
    → n2 ≡ numbers → machines ≡ from.machines → vars ≡ class_variables draft machines class → v ≡ vars → IsMergedMachine draft (λ slot. get_or n2 slot 0) from machine
    → AreBodies (lent_bodies s2) o3 bodies → b ≡ bodies → IsMerged draft class from (record { vars = v; machine = machine; bodies = b })
whole draft class from slots s1 s2 vs ts order o2 o3 width numbers n2 machines vars v machine bodies b evs ets is e1 e2 ho eo2 eo3 hn en em hv ev hm hb eb =
    let all : lent_bodies slots ≡ slots_of draft from.vertices from.transitions = is ∙ ap (λ x. slots_of draft x ts) evs ∙ ap (slots_of draft from.vertices) ets in
    record {
      order = order;
      ordered = subst (λ s. IsOrder s order) (ap lent_bodies e1 ∙ all) ho;
      vars = ev ∙ hv ∙ ap (λ m. class_variables draft m class) em;
      machine = renumbered draft (λ slot. get_or n2 slot 0) (number_from 1 order)
          (λ slot. ap (λ (n : List ℕ). get_or n slot 0) en ∙ hn.each slot ∙ ap (λ o. number_from 1 o slot) eo2) from machine hm;
      bodies = subst (λ x. AreBodies (slots_of draft from.vertices from.transitions) order x) (sym eb)
          (subst (λ s. AreBodies s order bodies) (ap lent_bodies e2 ∙ all) (subst (λ o. AreBodies (lent_bodies s2) o bodies) eo3 hb));
    }
