-- The bodies that stand in the slots are at most those of the chain's machines.
use Rattle.std.proofs.Common.{◌≡◌, ◌≤◌, ℕ, ◌+◌, List, [], ◌∷◌, length, refl, ◌∙◌, ap, subst, arith, Option, Some, None, slice_get, option_and_then, sum_by}
use Rattle.std.specs.List.{range_with_len, flat_map}
use Rattle.std.specs.Option.{option_or, option_map_or}
use Rattle.pssm_model.specs.declared.draft_setting.ElementRef.{ElementRef}
use Rattle.pssm_model.specs.declared.draft_setting.Draft.{Draft}
use Rattle.pssm_model.specs.declared.draft_setting.DraftParts.{DraftParts}
use Rattle.pssm_model.specs.declared.draft_setting.PartVertex.{PartVertex}
use Rattle.pssm_model.specs.declared.draft_setting.PartTransition.{PartTransition}
use Rattle.pssm_model.specs.declared.draft_setting.PartGuard.{PartGuard}
use Rattle.pssm_model.specs.declared.draft_setting.PartGuard.TheVariants as guards
use Rattle.pssm_model.specs.declared.draft_setting.Body.{Body}
use Rattle.pssm_model.specs.DraftSettings.{vertex_of, transition_of, one_if_given, guard_bodies, body_count, IsInRange}
use Rattle.pssm_heritage.specs.declared.kinds.ElementKind.TheVariants.{Vertex, Transition}
use Rattle.pssm_heritage.specs.Elements.{count_in}
use Rattle.pssm_heritage.specs.Numbers.{own_elements}
use Rattle.pssm_heritage.specs.Heritages.{Lineage, IsLineage}
use Rattle.pssm_redefine.specs.declared.parts.Gathered.{Gathered}
use Rattle.pssm_redefine.specs.Forms.{last_given, given_entry, given_exit, given_steps, given_guard, given_effect, guard_if_any, guard_text}
use Rattle.pssm_redefine.specs.Bodies.{places_from}
use Rattle.pssm_redefine.specs.Merging.{vertex_slots, transition_slots, slots_of}
use Rattle.pssm_redefine.specs.Gathering.{IsGathered}
use Rattle.pssm_redefine.proofs.SumLaws.{added, added_is, added_append, added_flat, added_map, added_le, added_two, added_range}
use Rattle.pssm_redefine.proofs.GroupSums.{forms_le}
use Rattle.pssm_redefine.proofs.ChainSums.{added_few, small_chain}

-- ---- slots

placed : (n : ℕ) (slots : List (Option Body)) → length (places_from n slots) ≡ added one_if_given slots
placed n [] = refl
placed n (None ∷ slots) = omega (arith, placed (n + 1) slots)
placed n (Some body ∷ slots) = omega (arith, placed (n + 1) slots)

or_le : {A : Type 0} (u : Option A → ℕ) (a b : Option A) → u (option_or a b) ≤ u a + u b
or_le u None b = omega arith
or_le u (Some x) b = omega arith

-- what is given last is given by one form
last_le : {A : Type 0} (u : Option A → ℕ) (give : ElementRef → Option A) (forms : List ElementRef) → u None ≡ 0 → u (last_given give forms) ≤ added (λ e. u (give e)) forms
last_le u give [] none = omega arith
last_le u give (form ∷ later) none =
    let one = or_le u (last_given give later) (give form) in
    let more = last_le u give later none in
    omega arith

-- the bodies that a form of a vertex gives
abbrev of_vertex : Draft → ElementRef → ℕ
of_vertex draft e = one_if_given (given_entry draft e) + one_if_given (given_exit draft e) + one_if_given (given_steps draft e)

-- those of a guard, where there is one
abbrev text_of : Option PartGuard → ℕ
text_of guard = one_if_given (option_and_then guard_text guard)

-- the bodies that a form of a transition gives
abbrev of_transition : Draft → ElementRef → ℕ
of_transition draft e = text_of (given_guard draft e) + one_if_given (given_effect draft e)

vertex_le : (draft : Draft) (forms : List ElementRef) → added one_if_given (vertex_slots draft forms) ≤ added (of_vertex draft) forms
vertex_le draft forms =
    let a = last_le one_if_given (given_entry draft) forms refl in
    let b = last_le one_if_given (given_exit draft) forms refl in
    let c = last_le one_if_given (given_steps draft) forms refl in
    let two = added_two (λ e. one_if_given (given_entry draft e)) (λ e. one_if_given (given_exit draft e)) forms in
    let three = added_two (λ e. one_if_given (given_entry draft e) + one_if_given (given_exit draft e)) (λ e. one_if_given (given_steps draft e)) forms in
    omega arith

transition_le : (draft : Draft) (forms : List ElementRef) → added one_if_given (transition_slots draft forms) ≤ added (of_transition draft) forms
transition_le draft forms =
    let a = last_le text_of (given_guard draft) forms refl in
    let b = last_le one_if_given (given_effect draft) forms refl in
    let two = added_two (λ e. text_of (given_guard draft e)) (λ e. one_if_given (given_effect draft e)) forms in
    omega arith

slots_le : (draft : Draft) (vertices transitions : List (List ElementRef))
    → added one_if_given (slots_of draft vertices transitions) ≤ added (added (of_vertex draft)) vertices + added (added (of_transition draft)) transitions
slots_le draft vertices transitions =
    let both = added_append one_if_given (flat_map (vertex_slots draft) vertices) (flat_map (transition_slots draft) transitions) in
    let v = added_flat one_if_given (vertex_slots draft) vertices in
    let t = added_flat one_if_given (transition_slots draft) transitions in
    let vs = added_le (λ forms. added one_if_given (vertex_slots draft forms)) (added (of_vertex draft)) vertices (vertex_le draft) in
    let ts = added_le (λ forms. added one_if_given (transition_slots draft forms)) (added (of_transition draft)) transitions (transition_le draft) in
    omega arith

-- ---- machines

abbrev own_ref : ℕ → ℕ → ElementRef
own_ref m i = record { machine = m; element = i }

-- the bodies of a vertex
abbrev in_vertex : PartVertex → ℕ
in_vertex v = one_if_given v.entry + one_if_given v.exit + one_if_given v.steps

-- the bodies of a transition
abbrev in_transition : PartTransition → ℕ
in_transition t = guard_bodies t.guard + one_if_given t.effect

guard_same : (guard : PartGuard) → text_of (guard_if_any guard) ≡ guard_bodies guard
guard_same guards.Missing = refl
guard_same guards.Otherwise = refl
guard_same (guards.Given body) = refl

module _ (draft : Draft) (m : ℕ) (p : DraftParts) (is : slice_get draft.machines m ≡ Some p) where
  vertex_at : (i j : ℕ) (v : PartVertex) → 0 + i ≡ j → slice_get p.vertices i ≡ Some v → of_vertex draft (own_ref m j) ≡ in_vertex v
  vertex_at i j v e h =
      let same : i ≡ j = omega arith in
      let there : vertex_of draft (own_ref m j) ≡ Some v = ap (option_and_then (λ (q : DraftParts). slice_get q.vertices j)) is ∙ subst (λ k. slice_get p.vertices k ≡ Some v) same h in
      ap (λ (o : Option PartVertex). one_if_given (option_and_then (λ (x : PartVertex). x.entry) o) + one_if_given (option_and_then (λ (x : PartVertex). x.exit) o)
      + one_if_given (option_and_then (λ (x : PartVertex). x.steps) o)) there

  transition_at : (i j : ℕ) (t : PartTransition) → 0 + i ≡ j → slice_get p.transitions i ≡ Some t → of_transition draft (own_ref m j) ≡ in_transition t
  transition_at i j t e h =
      let same : i ≡ j = omega arith in
      let there : transition_of draft (own_ref m j) ≡ Some t =
      ap (option_and_then (λ (q : DraftParts). slice_get q.transitions j)) is ∙ subst (λ k. slice_get p.transitions k ≡ Some t) same h in
      ap (λ (o : Option PartTransition). text_of (option_and_then (λ (x : PartTransition). guard_if_any x.guard) o) + one_if_given (option_and_then (λ (x : PartTransition). x.effect) o)) there
      ∙ ap (λ n. n + one_if_given t.effect) (guard_same t.guard)

  own_vertices : added (of_vertex draft) (own_elements draft Vertex m) ≡ sum_by in_vertex p.vertices
  own_vertices =
      added_map (of_vertex draft) (own_ref m) (range_with_len 0 (option_map_or (count_in Vertex) (slice_get draft.machines m) 0))
      ∙ ap (λ o. added (λ i. of_vertex draft (own_ref m i)) (range_with_len 0 (option_map_or (count_in Vertex) o 0))) is
      ∙ added_range (λ i. of_vertex draft (own_ref m i)) in_vertex 0 p.vertices vertex_at
      ∙ added_is in_vertex p.vertices

  own_transitions : added (of_transition draft) (own_elements draft Transition m) ≡ sum_by in_transition p.transitions
  own_transitions =
      added_map (of_transition draft) (own_ref m) (range_with_len 0 (option_map_or (count_in Transition) (slice_get draft.machines m) 0))
      ∙ ap (λ o. added (λ i. of_transition draft (own_ref m i)) (range_with_len 0 (option_map_or (count_in Transition) o 0))) is
      ∙ added_range (λ i. of_transition draft (own_ref m i)) in_transition 0 p.transitions transition_at
      ∙ added_is in_transition p.transitions

  own_bodies : added (of_vertex draft) (own_elements draft Vertex m) + added (of_transition draft) (own_elements draft Transition m) ≤ body_count p
  own_bodies =
      let a = own_vertices in
      let b = own_transitions in
      let whole : body_count p ≡ sum_by in_vertex p.vertices + sum_by in_transition p.transitions = refl in
      omega arith

-- ---- the whole

-- The bodies that stand are few.
pub few_bodies : (draft : Draft) (m : ℕ) (lineage : Lineage) (gathered : Gathered) → IsInRange draft → IsLineage draft m lineage → IsGathered draft lineage gathered
    → length (places_from 0 (slots_of draft gathered.vertices gathered.transitions)) ≤ 65535
few_bodies draft m lineage gathered range of h =
    let stand = placed 0 (slots_of draft gathered.vertices gathered.transitions) in
    let slots = slots_le draft gathered.vertices gathered.transitions in
    let vs = forms_le (of_vertex draft) draft Vertex lineage.vertices lineage.machines (length lineage.vertices.firsts) gathered.vertices h.vertices in
    let ts = forms_le (of_transition draft) draft Transition lineage.transitions lineage.machines (length lineage.transitions.firsts) gathered.transitions h.transitions in
    let both = added_two (λ x. added (of_vertex draft) (own_elements draft Vertex x)) (λ x. added (of_transition draft) (own_elements draft Transition x)) lineage.machines in
    let sum = added_few draft m lineage.machines (λ x. added (of_vertex draft) (own_elements draft Vertex x) + added (of_transition draft) (own_elements draft Transition x))
    body_count range of.chain ((small_chain draft m lineage.machines range of.chain).bodies) (own_bodies draft) in
    omega arith
