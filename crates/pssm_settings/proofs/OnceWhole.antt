-- In the flat draft of a class each body but the empty one stands once in the machine.
use Rattle.std.proofs.Common.{◌≡◌, ◌≤◌, ◌<◌, ◌+◌, ◌-◌, ◌*◌, ℕ, suc, List, [], ◌∷◌, ◌++◌, map, length, get_or, Option, Some, refl, sym, ap, ◌∙◌, subst, arith}
use Rattle.std.specs.Prelude.{slice_get, All}
use Rattle.std.specs.List.{flat_map, range_with_len}
use Rattle.std.specs.List.Sorted.{IsPermutation}
use Rattle.std.proofs.lemmas.List.{length-map}
use Rattle.std.proofs.lemmas.List.Elements.{All-append}
use Rattle.std.proofs.lemmas.List.Sorted.{sum_by-IsPermutation}
use Rattle.std.proofs.lemmas.Option.{slice_get-get_or, slice_get_within}
use Rattle.pssm_model.specs.declared.ids.ActId.{ActId}
use Rattle.pssm_model.specs.declared.elements.Owner.TheVariants as owners
use Rattle.pssm_model.specs.declared.elements.Vertex.{Vertex}
use Rattle.pssm_model.specs.declared.elements.Transition.{Transition}
use Rattle.pssm_model.specs.declared.elements.DraftMachine.{DraftMachine}
use Rattle.pssm_model.specs.declared.draft_setting.Body.{Body}
use Rattle.pssm_model.specs.declared.draft_setting.Draft.{Draft}
use Rattle.pssm_model.specs.declared.draft_setting.DraftClass.{DraftClass}
use Rattle.pssm_model.specs.declared.draft_setting.ElementRef.{ElementRef}
use Rattle.pssm_model.specs.declared.draft_setting.FlatDraft.{FlatDraft}
use Rattle.pssm_redefine.specs.declared.parts.Ends.{Ends}
use Rattle.pssm_redefine.specs.declared.parts.Gathered.{Gathered}
use Rattle.pssm_redefine.specs.Bodies.{places_from, number_from, empty_body, body_in, AreBodies, IsOrder}
use Rattle.pssm_redefine.specs.Merging.{vertex_slots, transition_slots, slots_of, IsMergedVertex, IsMergedTransition, IsMergedMachine, IsMerged}
use Rattle.pssm_redefine.specs.Gathering.{IsFlattened, no_vertex}
use Rattle.pssm_redefine.specs.Flattening.{Flattens}
use Rattle.pssm_redefine.proofs.SumLaws.{added_is}
use Rattle.pssm_redefine.proofs.FlatLaws.{owners_all, ends_all}
use Rattle.pssm_bodies.specs.Slots as machine
use Rattle.pssm_bodies.specs.Slots.{machine_slots, given_numbers, HasEachOnce}
use Rattle.pssm_settings.proofs.OnceLists.{map_permuted}
use Rattle.pssm_settings.proofs.OncePlaces.{Place, at_slot, times, once_at_most, in_order, Fits, fits}
use Rattle.pssm_settings.proofs.OnceSlots.{given, told, given_append, told_append, fits_front, fits_back, few_steps, vertex_told, transition_told, HasItsOwn, vertex_own, transition_own, fits_each, told_all, own_all, length_all}

-- ---- the machine

abbrev some_ends : Ends
some_ends = record { source = no_vertex; target = no_vertex }

module _ (draft : Draft) (f : ℕ → ℕ) (from : Gathered) (m : DraftMachine) (own : length from.owners ≡ length from.vertices)
    (ends : length from.ends ≡ length from.transitions) (h : IsMergedMachine draft f from m)
    (fit : Fits f 0 (slots_of draft from.vertices from.transitions)) where
  abbrev first_slots : List (Option Body)
  first_slots = flat_map (vertex_slots draft) from.vertices

  abbrev last_slots : List (Option Body)
  last_slots = flat_map (transition_slots draft) from.transitions

  -- where the slots of a vertex begin, and those of a transition
  abbrev vertex_at : ℕ → ℕ
  vertex_at k = 3 * k

  abbrev transition_at : ℕ → ℕ
  transition_at k = 3 * length from.vertices + 2 * k

  vertex_next : (k : ℕ) → vertex_at k + 3 ≡ vertex_at (suc k)
  vertex_next k = omega arith

  transition_next : (k : ℕ) → transition_at k + 2 ≡ transition_at (suc k)
  transition_next k = omega arith

  base : 0 + length first_slots ≡ transition_at 0
  base = let all = length_all 3 (vertex_slots draft) (λ y. refl) from.vertices vertex_at vertex_next in omega (arith, all)

  vertices_fit : (k : ℕ) (of : List ElementRef) → slice_get from.vertices k ≡ Some of → Fits f (vertex_at k) (vertex_slots draft of)
  vertices_fit = fits_each f 3 (vertex_slots draft) (λ y. refl) from.vertices vertex_at vertex_next (fits_front f 0 first_slots last_slots fit)

  transitions_fit : (k : ℕ) (of : List ElementRef) → slice_get from.transitions k ≡ Some of → Fits f (transition_at k) (transition_slots draft of)
  transitions_fit =
      fits_each f 2 (transition_slots draft) (λ y. refl) from.transitions transition_at transition_next
      (fits_back f 0 (transition_at 0) first_slots last_slots base fit)

  merged_vertex : (k : ℕ) (v : Vertex) (of : List ElementRef) → slice_get m.vertices k ≡ Some v → slice_get from.vertices k ≡ Some of
      → IsMergedVertex draft (get_or from.owners k owners.Top) (f (3 * k)) (f (3 * k + 1)) (f (3 * k + 2)) of v
  merged_vertex k v of iv io =
      let lt = slice_get_within from.vertices k of io in
      let near : k < length from.owners = omega (arith, lt, own) in
      h.vertices.each k (get_or from.owners k owners.Top) of v (slice_get-get_or from.owners k owners.Top near) io iv

  merged_transition : (k : ℕ) (t : Transition) (of : List ElementRef) → slice_get m.transitions k ≡ Some t → slice_get from.transitions k ≡ Some of
      → IsMergedTransition draft (get_or from.ends k some_ends) (f (transition_at k)) (f (transition_at k + 1)) of t
  merged_transition k t of it io =
      let lt = slice_get_within from.transitions k of io in
      let near : k < length from.ends = omega (arith, lt, ends) in
      h.transitions.each k (get_or from.ends k some_ends) of t (slice_get-get_or from.ends k some_ends near) io it

  vertices_told : given (flat_map machine.vertex_slots m.vertices) ≡ told f 0 first_slots
  vertices_told =
      told_all f 3 machine.vertex_slots (vertex_slots draft) (λ y. refl) m.vertices from.vertices vertex_at vertex_next h.vertices.all
      (λ k v of iv io. let third : 3 * k + 1 + 1 ≡ 3 * k + 2 = omega arith in
      vertex_told draft f (get_or from.owners k owners.Top) (3 * k) (3 * k + 1) (3 * k + 2) of v refl third (merged_vertex k v of iv io) (vertices_fit k of io))

  transitions_told : given (flat_map machine.transition_slots m.transitions) ≡ told f (transition_at 0) last_slots
  transitions_told =
      told_all f 2 machine.transition_slots (transition_slots draft) (λ y. refl) m.transitions from.transitions transition_at transition_next h.transitions.all
      (λ k t of it io.
      transition_told draft f (get_or from.ends k some_ends) (transition_at k) (transition_at k + 1) of t refl (merged_transition k t of it io)
      (transitions_fit k of io))

  -- The numbers of the bodies that the machine has are those of the places.
  pub numbers_told : given_numbers m ≡ told f 0 (slots_of draft from.vertices from.transitions)
  numbers_told =
      given_append (flat_map machine.vertex_slots m.vertices) (flat_map machine.transition_slots m.transitions)
      ∙ ap (λ l. l ++ given (flat_map machine.transition_slots m.transitions)) vertices_told
      ∙ ap (λ l. told f 0 first_slots ++ l) transitions_told
      ∙ sym (told_append f 0 (transition_at 0) first_slots last_slots base)

  own_transition : (k : ℕ) (t : Transition) → slice_get m.transitions k ≡ Some t → All HasItsOwn (machine.transition_slots t)
  own_transition k t it =
      let lt = slice_get_within m.transitions k t it in
      let all = h.transitions.all in
      let near : k < length from.transitions = omega (arith, lt, all) in
      let io = slice_get-get_or from.transitions k [] near in
      transition_own draft f (get_or from.ends k some_ends) (transition_at k) (transition_at k + 1) (get_or from.transitions k []) t
      (merged_transition k t (get_or from.transitions k []) it io) (transitions_fit k (get_or from.transitions k []) io)

  -- Each guard that has a text has a body of its own.
  pub guards_own : All HasItsOwn (machine_slots m)
  guards_own =
      All-append HasItsOwn (flat_map machine.vertex_slots m.vertices) (flat_map machine.transition_slots m.transitions)
      (own_all HasItsOwn machine.vertex_slots m.vertices (λ k v is. vertex_own v)) (own_all HasItsOwn machine.transition_slots m.transitions own_transition)

  -- A vertex has one do-activity at most.
  pub one_activity : All (λ (v : Vertex). length v.steps ≤ 1) m.vertices
  one_activity = λ k d lt.
      let all = h.vertices.all in
      let near : k < length from.vertices = omega (arith, lt, all) in
      let one = merged_vertex k (get_or m.vertices k d) (get_or from.vertices k []) (slice_get-get_or m.vertices k d lt)
      (slice_get-get_or from.vertices k [] near) in
      subst (λ (acts : List ActId). length acts ≤ 1) (sym one.doing) (few_steps (f (3 * k + 2)))

-- ---- the bodies

first_body : (bodies : List Body) (b : Body) (rest : List (Option Body)) → map Some bodies ≡ Some b ∷ rest → slice_get bodies 0 ≡ Some b
first_body [] b rest e = absurd cc
first_body (c ∷ bodies) b rest e = cc

one_before : (slots : List (Option Body)) (order : List Place) (bodies : List Body) → AreBodies slots order bodies → length order ≡ length bodies - 1
one_before slots order bodies h =
    let all : length bodies ≡ suc (length order) =
    sym (length-map bodies Some) ∙ ap length h ∙ ap suc (length-map order (λ (p : Place). body_in slots p.slot)) in
    omega (arith, all)

times_same : (slots : List (Option Body)) (order : List Place) → IsOrder slots order → (s : ℕ) → times s order ≡ times s (places_from 0 slots)
times_same slots order h s =
    added_is (at_slot s) order ∙ sum_by-IsPermutation (at_slot s) (places_from 0 slots) order h.same ∙ sym (added_is (at_slot s) (places_from 0 slots))

-- The numbers of the places are those from 1 on.
numbers_permuted : (slots : List (Option Body)) (order : List Place) (bodies : List Body) → IsOrder slots order → AreBodies slots order bodies
    → IsPermutation (told (number_from 1 order) 0 slots) (range_with_len 1 (length bodies - 1))
numbers_permuted slots order bodies h are =
    let once : (s : ℕ) → times s order ≤ 1 = λ s. let same = times_same slots order h s in let one = once_at_most 0 s slots in omega (arith, same, one) in
    subst (IsPermutation (told (number_from 1 order) 0 slots)) (in_order 1 order once ∙ ap (range_with_len 1) (one_before slots order bodies are))
    (map_permuted (λ (p : Place). number_from 1 order p.slot) (places_from 0 slots) order h.same)

-- ---- the whole

merged_once : (draft : Draft) (class : DraftClass) (from : Gathered) (flat : FlatDraft) → length from.owners ≡ length from.vertices
    → length from.ends ≡ length from.transitions → IsMerged draft class from flat → HasEachOnce flat
merged_once draft class from flat own ends h =
    let slots = slots_of draft from.vertices from.transitions in
    let f = number_from 1 h.order in
    let fit = fits slots h.order (times_same slots h.order h.ordered) in
    record {
      empty = empty_body;
      first = first_body flat.bodies empty_body (map (λ (p : Place). body_in slots p.slot) h.order) h.bodies;
      no_text = refl;
      others = subst (λ l. IsPermutation l (range_with_len 1 (length flat.bodies - 1))) (sym (numbers_told draft f from flat.machine own ends h.machine fit))
          (numbers_permuted slots h.order flat.bodies h.ordered h.bodies);
      guards = guards_own draft f from flat.machine own ends h.machine fit;
      doing = one_activity draft f from flat.machine own ends h.machine fit;
    }

flattened_once : (draft : Draft) (class : DraftClass) (flat : FlatDraft) → IsFlattened draft class flat → HasEachOnce flat
flattened_once draft class flat h =
    merged_once draft class h.gathered flat (owners_all draft h.lineage h.gathered h.gathers) (ends_all draft h.lineage h.gathered h.gathers) h.merged

pub each_once : (draft : Draft) (class : ℕ) (flat : FlatDraft) → Flattens draft class flat → HasEachOnce flat
each_once draft class flat h = flattened_once draft h.of flat h.flattened
