-- One element more is put together.
use Rattle.std.proofs.Common.{◌≡◌, ◌<◌, ℕ, ◌+◌, ◌*◌, List, [], ◌∷◌, ◌++◌, length, length-append, get_or, sym, ◌∙◌, ap, subst, arith, Some, ⊎_elim}
use Rattle.std.specs.Prelude.{slice_get}
use Rattle.std.proofs.lemmas.Bool.{cases_eq}
use Rattle.std.proofs.lemmas.List.{get_or_append_left, get_or_push}
use Rattle.std.proofs.lemmas.Option.{slice_get_within, slice_get-get_or, get_or_from_slice_get}
use Rattle.pssm_model.specs.declared.elements.Owner.{Owner}
use Rattle.pssm_model.specs.declared.elements.Vertex.{Vertex}
use Rattle.pssm_model.specs.declared.elements.Transition.{Transition}
use Rattle.pssm_model.specs.declared.draft_setting.ElementRef.{ElementRef}
use Rattle.pssm_model.specs.declared.draft_setting.Draft.{Draft}
use Rattle.pssm_redefine.specs.declared.parts.Ends.{Ends}
use Rattle.pssm_model.specs.declared.elements.DraftMachine.{DraftMachine}
use Rattle.pssm_redefine.specs.declared.parts.Gathered.{Gathered}
use Rattle.pssm_redefine.specs.Merging.{IsMergedVertex, IsMergedTransition, AreMergedVertices, AreMergedTransitions, IsMergedMachine}
use Rattle.pssm_redefine.specs.inner.Merges.{IsVertexNumbered, AreVerticesSoFar, IsTransitionNumbered, AreTransitionsSoFar}

-- what stands before stays
earlier : {A : Type 0} (xs : List A) (x y : A) (k : ℕ) → k < length xs → slice_get (xs ++ x ∷ []) k ≡ Some y → slice_get xs k ≡ Some y
earlier xs x y k lt h =
    slice_get-get_or xs k y lt ∙ ap Some (sym (get_or_append_left xs (x ∷ []) y k lt) ∙ get_or_from_slice_get (xs ++ x ∷ []) k y y h)

-- what is put at the end stands there
newest : {A : Type 0} (xs : List A) (x y : A) (k : ℕ) → length xs ≡ k → slice_get (xs ++ x ∷ []) k ≡ Some y → x ≡ y
newest xs x y k e h = sym (get_or_push xs x y k e) ∙ get_or_from_slice_get (xs ++ x ∷ []) k y y h

-- an element at a place is the one that was read there
same_at : {A : Type 0} (xs : List A) (k : ℕ) (x d y : A) → x ≡ get_or xs k d → k < length xs → slice_get xs k ≡ Some y → x ≡ y
same_at xs k x d y read lt h = read ∙ get_or_from_slice_get xs k y d h

module _ (draft : Draft) (number : ℕ → ℕ) (owners : List Owner) (forms : List (List ElementRef)) (n : ℕ) where
  pub vertices_begin : (vertices : List Vertex) → vertices ≡ [] → AreVerticesSoFar draft number owners forms 0 vertices
  vertices_begin vertices e = record {
    all = ap length e;
    each = λ k owner of vertex o f v. absurd (let lt = slice_get_within vertices k vertex v in let none = ap length e in omega arith);
  }

  pub vertices_push : (vertices : List Vertex) (vertex : Vertex) → AreVerticesSoFar draft number owners forms n vertices → IsVertexNumbered draft number owners forms n vertex
      → AreVerticesSoFar draft number owners forms (n + 1) (vertices ++ vertex ∷ [])
  vertices_push vertices vertex h here = record {
    all = length-append vertices (vertex ∷ []) ∙ ap (λ m. m + 1) h.all;
    each = λ k owner' of' vertex' o f v. ⊎_elim
        (λ (last : k ≡ n).
        let Goal : ℕ → Vertex → Type 0 = λ m x. IsMergedVertex draft owner' (number (3 * m)) (number (3 * m + 1)) (number (3 * m + 2)) of' x in
        let ev : vertex ≡ vertex' = newest vertices vertex vertex' k (h.all ∙ sym last) v in
        subst (λ m. Goal m vertex') (sym last)
        (subst (Goal n) ev (here owner' of' (subst (λ m. slice_get owners m ≡ Some owner') last o) (subst (λ m. slice_get forms m ≡ Some of') last f))))
        (λ (ne : k ≡ n → ⊥).
        let lt = slice_get_within (vertices ++ vertex ∷ []) k vertex' v in
        let all = h.all in
        h.each k owner' of' vertex' o f (earlier vertices vertex vertex' k (omega (arith, length-append vertices (vertex ∷ []))) v))
        (cases_eq k n);
  }

  -- one, from what was read
  pub vertex_numbered : (vertex : Vertex) (owner d : Owner) (of e : List ElementRef) (entry exit steps : ℕ) → n < length owners → n < length forms
      → owner ≡ get_or owners n d → of ≡ get_or forms n e → entry ≡ number (3 * n) → exit ≡ number (3 * n + 1) → steps ≡ number (3 * n + 2)
      → IsMergedVertex draft owner entry exit steps of vertex → IsVertexNumbered draft number owners forms n vertex
  vertex_numbered vertex owner d of e entry exit steps lto ltf io if e1 e2 e3 here owner' of' o f =
      subst (λ w. IsMergedVertex draft w (number (3 * n)) (number (3 * n + 1)) (number (3 * n + 2)) of' vertex) (same_at owners n owner d owner' io lto o)
      (subst (λ fs. IsMergedVertex draft owner (number (3 * n)) (number (3 * n + 1)) (number (3 * n + 2)) fs vertex) (same_at forms n of e of' if ltf f)
      (subst (λ x. IsMergedVertex draft owner x (number (3 * n + 1)) (number (3 * n + 2)) of vertex) e1
      (subst (λ x. IsMergedVertex draft owner entry x (number (3 * n + 2)) of vertex) e2 (subst (λ x. IsMergedVertex draft owner entry exit x of vertex) e3 here))))

module _ (draft : Draft) (number : ℕ → ℕ) (base : ℕ) (ends : List Ends) (forms : List (List ElementRef)) (n : ℕ) where
  pub transitions_begin : (transitions : List Transition) → transitions ≡ [] → AreTransitionsSoFar draft number base ends forms 0 transitions
  transitions_begin transitions e = record {
    all = ap length e;
    each = λ k end of transition o f v. absurd (let lt = slice_get_within transitions k transition v in let none = ap length e in omega arith);
  }

  pub transitions_push : (transitions : List Transition) (transition : Transition) → AreTransitionsSoFar draft number base ends forms n transitions → IsTransitionNumbered draft number base ends forms n transition
      → AreTransitionsSoFar draft number base ends forms (n + 1) (transitions ++ transition ∷ [])
  transitions_push transitions transition h here = record {
    all = length-append transitions (transition ∷ []) ∙ ap (λ m. m + 1) h.all;
    each = λ k end' of' transition' o f v. ⊎_elim
        (λ (last : k ≡ n).
        let Goal : ℕ → Transition → Type 0 = λ m x. IsMergedTransition draft end' (number (base + 2 * m)) (number (base + 2 * m + 1)) of' x in
        let ev : transition ≡ transition' = newest transitions transition transition' k (h.all ∙ sym last) v in
        subst (λ m. Goal m transition') (sym last)
        (subst (Goal n) ev (here end' of' (subst (λ m. slice_get ends m ≡ Some end') last o) (subst (λ m. slice_get forms m ≡ Some of') last f))))
        (λ (ne : k ≡ n → ⊥).
        let lt = slice_get_within (transitions ++ transition ∷ []) k transition' v in
        let all = h.all in
        h.each k end' of' transition' o f (earlier transitions transition transition' k (omega (arith, length-append transitions (transition ∷ []))) v))
        (cases_eq k n);
  }

  -- one, from what was read
  pub transition_numbered : (transition : Transition) (end d : Ends) (of e : List ElementRef) (guard effect : ℕ) → n < length ends → n < length forms
      → end ≡ get_or ends n d → of ≡ get_or forms n e → guard ≡ number (base + 2 * n) → effect ≡ number (base + 2 * n + 1)
      → IsMergedTransition draft end guard effect of transition → IsTransitionNumbered draft number base ends forms n transition
  transition_numbered transition end d of e guard effect lto ltf io if e1 e2 here end' of' o f =
      subst (λ w. IsMergedTransition draft w (number (base + 2 * n)) (number (base + 2 * n + 1)) of' transition) (same_at ends n end d end' io lto o)
      (subst (λ fs. IsMergedTransition draft end (number (base + 2 * n)) (number (base + 2 * n + 1)) fs transition) (same_at forms n of e of' if ltf f)
      (subst (λ x. IsMergedTransition draft end x (number (base + 2 * n + 1)) of transition) e1 (subst (λ x. IsMergedTransition draft end guard x of transition) e2 here)))

-- ---- other numbers that are the same

renumbered_vertices : (draft : Draft) (f g : ℕ → ℕ) → ((slot : ℕ) → f slot ≡ g slot) → (owners : List Owner) (forms : List (List ElementRef)) (vertices : List Vertex)
    → AreMergedVertices draft f owners forms vertices → AreMergedVertices draft g owners forms vertices
renumbered_vertices draft f g same owners forms vertices h = record {
  all = h.all;
  each = λ k owner of vertex o i v.
      subst (λ x. IsMergedVertex draft owner x (g (3 * k + 1)) (g (3 * k + 2)) of vertex) (same (3 * k))
      (subst (λ x. IsMergedVertex draft owner (f (3 * k)) x (g (3 * k + 2)) of vertex) (same (3 * k + 1))
      (subst (λ x. IsMergedVertex draft owner (f (3 * k)) (f (3 * k + 1)) x of vertex) (same (3 * k + 2)) (h.each k owner of vertex o i v)));
}

renumbered_transitions : (draft : Draft) (f g : ℕ → ℕ) → ((slot : ℕ) → f slot ≡ g slot) → (base : ℕ) (ends : List Ends) (forms : List (List ElementRef)) (transitions : List Transition)
    → AreMergedTransitions draft f base ends forms transitions → AreMergedTransitions draft g base ends forms transitions
renumbered_transitions draft f g same base ends forms transitions h = record {
  all = h.all;
  each = λ k end of transition o i t.
      subst (λ x. IsMergedTransition draft end x (g (base + 2 * k + 1)) of transition) (same (base + 2 * k))
      (subst (λ x. IsMergedTransition draft end (f (base + 2 * k)) x of transition) (same (base + 2 * k + 1)) (h.each k end of transition o i t));
}

pub renumbered : (draft : Draft) (f g : ℕ → ℕ) → ((slot : ℕ) → f slot ≡ g slot) → (from : Gathered) (machine : DraftMachine) → IsMergedMachine draft f from machine
    → IsMergedMachine draft g from machine
renumbered draft f g same from machine h = record {
  regions = h.regions;
  vertices = renumbered_vertices draft f g same from.owners from.vertices machine.vertices h.vertices;
  transitions = renumbered_transitions draft f g same (3 * length from.vertices) from.ends from.transitions machine.transitions h.transitions;
}
