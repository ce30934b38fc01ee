-- Lists by number, as they are filled: each item is put to the one number to which it is related.
use Rattle.std.proofs.Common.{◌≡◌, ◌↔◌, ◌<◌, ◌+◌, ℕ, List, [], ◌∷◌, ◌++◌, length, get_or, set, length-set, Contains, Some, sym, ap, subst, ◌∙◌, ⊎_elim, arith, get_or-set_same, get_or-set_other}
use Rattle.std.specs.List.{AllPairs}
use Rattle.std.proofs.lemmas.Bool.{cases_eq}
use Rattle.std.proofs.lemmas.List.{get_or_default}
use Rattle.std.proofs.lemmas.List.Elements.{Contains-append_left, Contains-push, Contains-push_cases, Contains-get_or}
use Rattle.std.proofs.lemmas.List.Quantifiers.{all_pairs_push}
use Rattle.std.proofs.lemmas.Option.{slice_get_within}
use Rattle.pssm_model.specs.declared.elements.DraftMachine.{DraftMachine}
use Rattle.pssm_model.specs.declared.elements.Vertex.{Vertex}
use Rattle.pssm_model.specs.declared.elements.Transition.{Transition}
use Rattle.pssm_model.specs.declared.elements.Owner.TheVariants.{Top, Region, State}
use Rattle.pssm_model.specs.declared.listing.Listing.{Listing}
use Rattle.pssm_model.specs.declared.listing.Listing.TheVariants.{Outgoing, Incoming, Elses, Regions, TopRegions, Vertices}
use Rattle.pssm_model.specs.declared.ids.VertexId.{VertexId}
use Rattle.pssm_model.specs.declared.ids.RegionId.{RegionId}
use Rattle.pssm_model.specs.Forest.{vertex_at, transition_at, owner_of}
use Rattle.pssm_model.specs.Legs.{Leaves}
use Rattle.pssm_model.specs.Shapes.{HasShape, OwnsVertex}
use Rattle.pssm_model.specs.inner.Listed.{IsListed, AreLists, AreListsBelow, list_at, count_of, width_of, vertex_number, region_number, transition_number}
use Rattle.pssm_model.proofs.ElementLaws.{mapped_some}

module _ {A : Type 0} (number : A → ℕ) (width : ℕ) (Of : ℕ → ℕ → Type 0) where
  -- at first nothing is listed
  pub lists_begin : (lists : List (List A)) → length lists ≡ width → ((k : ℕ) → list_at lists k ≡ []) → AreListsBelow number width 0 Of lists
  lists_begin lists all blank = record {
    all = all;
    items = λ k x. (
      λ c. absurd (let none = subst (λ xs. Contains xs x) (blank k) c in let lt = none.1 in omega arith),
      λ w. absurd (let lt = w.0 in omega arith),
    );
    ascending = λ k i j d lt within. absurd (let within' = subst (λ xs. j < length xs) (blank k) within in omega arith);
  }

  -- one item more, which is listed nowhere
  pub lists_skip : (n : ℕ) (lists : List (List A)) → ((k : ℕ) → Of k n → ⊥) → AreListsBelow number width n Of lists → AreListsBelow number width (n + 1) Of lists
  lists_skip n lists none h = record {
    all = h.all;
    items = λ k x. (
      λ c. let w = (h.items k x).0 c in (let lt = w.0 in omega arith, w.1),
      λ w. ⊎_elim (λ (e : number x ≡ n). absurd (none k (subst (Of k) e w.1)))
          (λ (ne : number x ≡ n → ⊥). (h.items k x).1 (let lt = w.0 in omega arith, w.1)) (cases_eq (number x) n),
    );
    ascending = h.ascending;
  }

  -- one item more, put behind the list of its place
  module _ (only : (a b : A) → number a ≡ number b → a ≡ b) (n place : ℕ) (item : A) (named : number item ≡ n) (old : List (List A))
      (has : Of place n) (one : (k : ℕ) → Of k n → k ≡ place) (within : place < length old) (h : AreListsBelow number width n Of old) where
    new : List (List A)
    new = set old place (list_at old place ++ item ∷ [])

    new_here : (k : ℕ) → k ≡ place → list_at new k ≡ list_at old k ++ item ∷ []
    unfolding new
    new_here k e = ap (λ i. list_at (set old place (list_at old place ++ item ∷ [])) i) e ∙ get_or-set_same old place _ [] within
        ∙ ap (λ i. list_at old i ++ item ∷ []) (sym e)

    new_there : (k : ℕ) → (k ≡ place → ⊥) → list_at new k ≡ list_at old k
    unfolding new
    new_there k ne = get_or-set_other old place k _ [] ne

    earlier : (k : ℕ) (x : A) → Contains (list_at old k) x → (number x < n + 1) × Of k (number x)
    earlier k x c = let w = (h.items k x).0 c in (let lt = w.0 in omega arith, w.1)

    kept : (k : ℕ) (x : A) → (number x < n + 1) × Of k (number x) → (number x ≡ n → ⊥) → Contains (list_at old k) x
    kept k x w ne = (h.items k x).1 (let lt = w.0 in omega arith, w.1)

    items_here : (k : ℕ) → k ≡ place → (x : A) → Contains (list_at old k ++ item ∷ []) x ↔ ((number x < n + 1) × Of k (number x))
    items_here k e x = (
      λ c. ⊎_elim (λ before. earlier k x before)
          (λ (same : item ≡ x). let is : number x ≡ n = sym (ap number same) ∙ named in (omega arith, subst (Of k) (sym is) (subst (λ j. Of j n) (sym e) has)))
          (Contains-push_cases (list_at old k) item x c),
      λ w. ⊎_elim (λ (last : number x ≡ n). subst (Contains (list_at old k ++ item ∷ [])) (only item x (named ∙ sym last)) (Contains-push (list_at old k) item))
          (λ (ne : number x ≡ n → ⊥). Contains-append_left (list_at old k) (item ∷ []) x (kept k x w ne)) (cases_eq (number x) n),
    )

    items_there : (k : ℕ) → (k ≡ place → ⊥) → (x : A) → Contains (list_at old k) x ↔ ((number x < n + 1) × Of k (number x))
    items_there k ne x = (
      earlier k x,
      λ w. kept k x w (λ last. ne (one k (subst (Of k) last w.1))),
    )

    up_here : (k : ℕ) → AllPairs (λ x y. number x < number y) (list_at old k ++ item ∷ [])
    up_here k = all_pairs_push (λ x y. number x < number y) (list_at old k) item (h.ascending k)
        (λ j d lt. let below = ((h.items k (get_or (list_at old k) j d)).0 (Contains-get_or (list_at old k) j d lt)).0 in omega arith)

    pub lists_put : AreListsBelow number width (n + 1) Of (set old place (list_at old place ++ item ∷ []))
    unfolding new
    lists_put = record {
      all = length-set old place _ ∙ h.all;
      items = λ k x. ⊎_elim
          (λ (e : k ≡ place). subst (λ xs. Contains xs x ↔ ((number x < n + 1) × Of k (number x))) (sym (new_here k e)) (items_here k e x))
          (λ (ne : k ≡ place → ⊥). subst (λ xs. Contains xs x ↔ ((number x < n + 1) × Of k (number x))) (sym (new_there k ne)) (items_there k ne x))
          (cases_eq k place);
      ascending = λ k. ⊎_elim
          (λ (e : k ≡ place). subst (AllPairs (λ x y. number x < number y)) (sym (new_here k e)) (up_here k))
          (λ (ne : k ≡ place → ⊥). subst (AllPairs (λ x y. number x < number y)) (sym (new_there k ne)) (h.ascending k))
          (cases_eq k place);
    }

  -- at last all items are listed
  pub lists_end : (n : ℕ) (lists : List (List A)) → ((k i : ℕ) → Of k i → i < n) → AreListsBelow number width n Of lists → AreLists number width Of lists
  lists_end n lists within h = record {
    all = h.all;
    items = λ k x. (λ c. ((h.items k x).0 c).1, λ w. (h.items k x).1 (within k (number x) w, w));
    ascending = h.ascending;
  }

-- what is found at a place is its list
pub at_place : {A : Type 0} (lists all : List (List A)) (found out : List A) (place : ℕ) → all ≡ lists → found ≡ get_or all place found → out ≡ found
    → place < length lists → out ≡ list_at lists place
at_place lists all found out place is at e lt =
    e ∙ at ∙ ap (λ (xs : List (List _)). get_or xs place found) is ∙ get_or_default lists place found [] lt

-- What is listed stands at one place.
pub listed_once : (m : DraftMachine) (listing : Listing) (k j i : ℕ) → IsListed m listing k i → IsListed m listing j i → k ≡ j
listed_once m Outgoing k j i h g = let e : vertex_number k ≡ vertex_number j = cc in ap (λ (v : VertexId). v.0) e
listed_once m Incoming k j i h g = let e : vertex_number k ≡ vertex_number j = cc in ap (λ (v : VertexId). v.0) e
listed_once m Elses k j i h g =
    let a = h.0 in
    let b = g.0 in
    let e : vertex_number k ≡ vertex_number j = cc in
    ap (λ (v : VertexId). v.0) e
listed_once m Regions k j i h g = let e : vertex_number k ≡ vertex_number j = cc in ap (λ (v : VertexId). v.0) e
listed_once m TopRegions k j i h g = h.0 ∙ sym g.0
listed_once m (Vertices kind) k j i h g =
    let a = h.1 in
    let b = g.1 in
    let e : region_number k ≡ region_number j = cc in
    ap (λ (r : RegionId). r.0) e

-- The owner of a vertex is one that it may have.
owned_in : (m : DraftMachine) → HasShape m → (v : VertexId) (r : ℕ) → owner_of m (State v) ≡ Some (Region (region_number r)) → r < length m.regions
owned_in m shape v r h =
    let at = mapped_some (λ (x : Vertex). x.owner) (vertex_at m v) (Region (region_number r)) h in
    (subst (OwnsVertex m v) at.2 (shape.vertices v at.0 at.1).0).1

-- A transition that leaves a vertex is there, and so is the vertex.
left_there : (m : DraftMachine) → HasShape m → (v t : ℕ) → Leaves m (transition_number t) (vertex_number v) → (v < length m.vertices) × (t < length m.transitions)
left_there m shape v t h =
    let at = mapped_some (λ (x : Transition). x.source) (transition_at m (transition_number t)) (vertex_number v) h in
    (subst (λ (w : VertexId). w.0 < length m.vertices) at.2 (shape.ends (transition_number t) at.0 at.1).0, slice_get_within m.transitions t at.0 at.1)

-- What is listed is there, and so is its place.
pub listed_there : (m : DraftMachine) → HasShape m → (listing : Listing) (k i : ℕ) → IsListed m listing k i → (k < width_of m listing) × (i < count_of m listing)
listed_there m shape Outgoing k i h = left_there m shape k i h
listed_there m shape Incoming k i h =
    let at = mapped_some (λ (x : Transition). x.target) (transition_at m (transition_number i)) (vertex_number k) h in
    (subst (λ (w : VertexId). w.0 < length m.vertices) at.2 (shape.ends (transition_number i) at.0 at.1).1, slice_get_within m.transitions i at.0 at.1)
listed_there m shape Elses k i h = left_there m shape k i h.0
listed_there m shape Regions k i h =
    let state = (shape.regions (region_number i) (State (vertex_number k)) h).0 in
    let at = mapped_some (λ (x : Vertex). x.kind) (vertex_at m (vertex_number k)) _ state in
    (slice_get_within m.vertices k at.0 at.1, slice_get_within m.regions i (State (vertex_number k)) h)
listed_there m shape TopRegions k i h = (let e = h.0 in omega arith, slice_get_within m.regions i Top h.1)
listed_there m shape (Vertices kind) k i h =
    let at = mapped_some (λ (x : Vertex). x.kind) (vertex_at m (vertex_number i)) kind h.0 in
    (owned_in m shape (vertex_number i) k h.1, slice_get_within m.vertices i at.0 at.1)
