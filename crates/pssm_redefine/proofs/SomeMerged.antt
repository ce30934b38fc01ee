-- What is gathered is put together.
use Rattle.std.proofs.Common.{◌≡◌, ◌+◌, ◌*◌, ℕ, List, [], length, map, get_or, refl, sym, subst, ◌∙◌, Some, zero-add, arith}
use Rattle.std.specs.Prelude.{slice_get, unwrap_or}
use Rattle.std.specs.List.{flat_map, range_with_len}
use Rattle.std.proofs.lemmas.List.FromFn.{get_or-map-range_with_len, length-map-range_with_len}
use Rattle.std.proofs.lemmas.Option.{slice_get_within, get_or_from_slice_get}
use Rattle.pssm_model.specs.declared.elements.Owner.{Owner}
use Rattle.pssm_model.specs.declared.elements.Owner.TheVariants as owned
use Rattle.pssm_model.specs.declared.elements.Vertex.{Vertex}
use Rattle.pssm_model.specs.declared.elements.Transition.{Transition}
use Rattle.pssm_model.specs.declared.elements.TransKind.TheVariants.{External}
use Rattle.pssm_model.specs.declared.draft_setting.ElementRef.{ElementRef}
use Rattle.pssm_model.specs.declared.draft_setting.Draft.{Draft}
use Rattle.pssm_model.specs.declared.draft_setting.DraftClass.{DraftClass}
use Rattle.pssm_model.specs.declared.draft_setting.FlatDraft.{FlatDraft}
use Rattle.pssm_redefine.specs.declared.parts.Ends.{Ends}
use Rattle.pssm_redefine.specs.declared.parts.Gathered.{Gathered}
use Rattle.pssm_redefine.specs.Variables.{class_variables}
use Rattle.pssm_redefine.specs.Forms.{last_given, given_label, deferred, given_kind, given_guard}
use Rattle.pssm_redefine.specs.Bodies.{number_from}
use Rattle.pssm_redefine.specs.Gathering.{no_vertex}
use Rattle.pssm_redefine.specs.Merging.{first_kind, first_triggers, act, steps_numbered, guard_numbered, IsMergedVertex, IsMergedTransition, AreMergedVertices, AreMergedTransitions, IsMerged, slots_of}
use Rattle.pssm_redefine.proofs.SomeOrder.{some_united, some_order, some_bodies}

-- what stands at a place of a list that is built by number
built_at : {X : Type 0} (f : ℕ → X) (count k : ℕ) (x : X) → slice_get (map f (range_with_len 0 count)) k ≡ Some x → f k ≡ x
built_at f count k x is =
    let within = slice_get_within (map f (range_with_len 0 count)) k x is in
    let all = length-map-range_with_len f 0 count in
    sym (get_or-map-range_with_len f 0 count k k x (omega arith) (zero-add k)) ∙ get_or_from_slice_get (map f (range_with_len 0 count)) k x x is

-- ---- vertices

module _ (draft : Draft) (number : ℕ → ℕ) (owners : List Owner) (forms : List (List ElementRef)) where
  abbrev vertex_at : ℕ → Vertex
  vertex_at k = record {
    owner = get_or owners k owned.Top;
    kind = first_kind draft (get_or forms k []);
    label = unwrap_or (last_given (given_label draft) (get_or forms k [])) [];
    entry = act (number (3 * k));
    exit = act (number (3 * k + 1));
    steps = steps_numbered (number (3 * k + 2));
    defers = (some_united (flat_map (deferred draft) (get_or forms k []))).0;
  }

  vertex_merged : (k : ℕ) (owner : Owner) (of : List ElementRef) → slice_get owners k ≡ Some owner → slice_get forms k ≡ Some of
      → IsMergedVertex draft owner (number (3 * k)) (number (3 * k + 1)) (number (3 * k + 2)) of (vertex_at k)
  vertex_merged k owner of o f =
      subst (λ w. IsMergedVertex draft w (number (3 * k)) (number (3 * k + 1)) (number (3 * k + 2)) of (vertex_at k)) (get_or_from_slice_get owners k owner owned.Top o)
      (subst (λ fs. IsMergedVertex draft (get_or owners k owned.Top) (number (3 * k)) (number (3 * k + 1)) (number (3 * k + 2)) fs (vertex_at k))
      (get_or_from_slice_get forms k of [] f)
      (record {
        owned = refl;
        kind = refl;
        label = refl;
        on_entry = refl;
        on_exit = refl;
        doing = refl;
        defers = (some_united (flat_map (deferred draft) (get_or forms k []))).1;
      }))

  vertices_merged : AreMergedVertices draft number owners forms (map vertex_at (range_with_len 0 (length forms)))
  vertices_merged = record {
    all = length-map-range_with_len vertex_at 0 (length forms);
    each = λ k owner of vertex o f v.
        subst (IsMergedVertex draft owner (number (3 * k)) (number (3 * k + 1)) (number (3 * k + 2)) of) (built_at vertex_at (length forms) k vertex v)
        (vertex_merged k owner of o f);
  }

-- ---- transitions

abbrev no_ends : Ends
no_ends = record { source = no_vertex; target = no_vertex }

module _ (draft : Draft) (number : ℕ → ℕ) (base : ℕ) (ends : List Ends) (forms : List (List ElementRef)) where
  abbrev transition_at : ℕ → Transition
  transition_at k = record {
    source = (get_or ends k no_ends).source;
    target = (get_or ends k no_ends).target;
    kind = unwrap_or (last_given (given_kind draft) (get_or forms k [])) External;
    triggers = first_triggers draft (get_or forms k []);
    guard = guard_numbered (last_given (given_guard draft) (get_or forms k [])) (number (base + 2 * k));
    effect = act (number (base + 2 * k + 1));
  }

  transition_merged : (k : ℕ) (end : Ends) (of : List ElementRef) → slice_get ends k ≡ Some end → slice_get forms k ≡ Some of
      → IsMergedTransition draft end (number (base + 2 * k)) (number (base + 2 * k + 1)) of (transition_at k)
  transition_merged k end of o f =
      subst (λ w. IsMergedTransition draft w (number (base + 2 * k)) (number (base + 2 * k + 1)) of (transition_at k)) (get_or_from_slice_get ends k end no_ends o)
      (subst (λ fs. IsMergedTransition draft (get_or ends k no_ends) (number (base + 2 * k)) (number (base + 2 * k + 1)) fs (transition_at k))
      (get_or_from_slice_get forms k of [] f)
      (record { source = refl; target = refl; kind = refl; triggers = refl; when = refl; doing = refl }))

  transitions_merged : AreMergedTransitions draft number base ends forms (map transition_at (range_with_len 0 (length forms)))
  transitions_merged = record {
    all = length-map-range_with_len transition_at 0 (length forms);
    each = λ k end of transition o f v.
        subst (IsMergedTransition draft end (number (base + 2 * k)) (number (base + 2 * k + 1)) of) (built_at transition_at (length forms) k transition v)
        (transition_merged k end of o f);
  }

-- ---- the whole

pub some_merged : (draft : Draft) (class : DraftClass) (from : Gathered) → (flat : FlatDraft) × IsMerged draft class from flat
some_merged draft class from =
    let order = some_order (slots_of draft from.vertices from.transitions) in
    let bodies = some_bodies (slots_of draft from.vertices from.transitions) order.0 order.1 in
    let number : ℕ → ℕ = number_from 1 order.0 in (
      record {
        vars = class_variables draft from.machines class;
        machine = record {
          regions = from.regions;
          vertices = map (vertex_at draft number from.owners from.vertices) (range_with_len 0 (length from.vertices));
          transitions = map (transition_at draft number (3 * length from.vertices) from.ends from.transitions) (range_with_len 0 (length from.transitions));
        };
        bodies = bodies.0;
      },
      record {
        order = order.0;
        ordered = order.1;
        vars = refl;
        machine = record {
          regions = refl;
          vertices = vertices_merged draft number from.owners from.vertices;
          transitions = transitions_merged draft number (3 * length from.vertices) from.ends from.transitions;
        };
        bodies = bodies.1;
      },
    )
