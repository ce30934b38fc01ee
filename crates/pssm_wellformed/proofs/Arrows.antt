-- The arrows of a walk, as they are put into lists.
use Rattle.std.proofs.Common.{◌≡◌, ◌↔◌, ◌⊎◌, ◌<◌, ◌≤◌, ◌+◌, ◌==◌, ℕ, List, [], ◌∷◌, ◌++◌, if◌then◌else◌, length, map, Bool, Contains, Vec, Global, refl, sym, ap, subst, ◌∙◌, inl, inr, ⊎_elim, arith, eq-eqb}
use Rattle.std.proofs.Math.ListN.{get_or-map, length-map}
use Rattle.std.proofs.lemmas.Bool.{cases_eq, ne_eqb}
use Rattle.std.proofs.lemmas.List.{append-nil}
use Rattle.std.proofs.lemmas.List.Elements.{Contains-append_left, Contains-append_right, Contains-append_cases, Contains-push, Contains-push_cases}
use Rattle.pssm_model.specs.declared.ids.VertexId.{VertexId}
use Rattle.pssm_model.specs.declared.ids.RegionId.{RegionId}
use Rattle.pssm_model.specs.declared.elements.DraftMachine.{DraftMachine}
use Rattle.pssm_model.specs.declared.elements.VertexKind.TheVariants as kinds
use Rattle.pssm_model.specs.declared.elements.Owner.TheVariants.{State}
use Rattle.pssm_model.specs.Forest.{OwnsOfKind}
use Rattle.pssm_model.specs.Legs.{Leaves, Enters}
use Rattle.pssm_model.specs.Shapes.{HasShape}
use Rattle.pssm_model.specs.FiringSets.{IsHistory, IsLateOrigin}
use Rattle.pssm_wellformed.specs.declared.ends.End.TheVariants.{Source, Target}
use Rattle.pssm_wellformed.specs.declared.walks.Walk.{Walk}
use Rattle.pssm_wellformed.specs.declared.walks.Walk.TheVariants.{Through}
use Rattle.pssm_wellformed.specs.inner.Lists.{list_at}
use Rattle.pssm_wellformed.specs.inner.Ends.{HasEnd, vertex_number, region_number, transition_number}
use Rattle.pssm_wellformed.specs.inner.Walks.{Passes, near_end, far_end, AreArrowsBelow, AreArrows, AreArrowsAlong, AreArrowsWith, IsDefault, number_of_region, LeadsThrough, LeadsToRegion, LeadsFromRegion, AreLeads, IsLateTarget, IsLateTargetBelow}
use Rattle.pssm_wellformed.specs.inner.Reach.{StaysWithin}
use Rattle.pssm_wellformed.proofs.Listing.{puts_here, puts_there}
use Rattle.pssm_wellformed.proofs.Places.{end_there, end_only, kind_there, owning_region_there, one_region}
use Rattle.pssm_wellformed.proofs.Walking.{only_first}

pub arrows_begin : (m : DraftMachine) (walk : Walk) (onward : List (Vec ℕ Global)) → length onward ≡ length m.vertices → ((k : ℕ) → list_at onward k ≡ [])
    → AreArrowsBelow m walk 0 onward
arrows_begin m walk onward width blank = record {
  width = width;
  arrows = λ a b. (
    λ c. absurd (let none = subst (λ xs. Contains xs b) (blank a) c in let lt = none.1 in omega arith),
    λ w. absurd (let lt = w.1 in omega arith),
  );
}

pub arrows_put : (m : DraftMachine) (walk : Walk) (n : ℕ) (old new : List (Vec ℕ Global)) (tail head : VertexId)
    → HasEnd m (near_end walk) (transition_number n) tail → HasEnd m (far_end walk) (transition_number n) head → Passes m walk tail
    → length new ≡ length old → ((k : ℕ) → list_at new k ≡ list_at old k ++ (if k == tail.0 then head.0 ∷ [] else []))
    → AreArrowsBelow m walk n old → AreArrowsBelow m walk (n + 1) new
arrows_put m walk n old new tail head near far passes width puts h = record {
  width = width ∙ h.width;
  arrows = λ a b. ⊎_elim
      (λ (here : a ≡ tail.0).
      let is : list_at new a ≡ list_at old a ++ head.0 ∷ [] = puts a ∙ puts_here tail.0 head.0 a (list_at old a) here in
      let at : tail ≡ vertex_number a = ap vertex_number (sym here) in (
        λ c. ⊎_elim (λ old'. let w = (h.arrows a b).0 old' in (w.0, (let lt = w.1 in omega arith), w.2))
            (λ (e : head.0 ≡ b). (
              n,
              omega arith,
              (
                subst (Passes m walk) at passes,
                subst (HasEnd m (near_end walk) (transition_number n)) at near,
                subst (HasEnd m (far_end walk) (transition_number n)) (ap vertex_number e) far,
              ),
            ))
            (Contains-push_cases (list_at old a) head.0 b (subst (λ xs. Contains xs b) is c)),
        λ w. subst (λ xs. Contains xs b) (sym is) (⊎_elim
            (λ (e : w.0 ≡ n).
            let same : head ≡ vertex_number b = end_only m (far_end walk) (transition_number n) head (vertex_number b) far
            (subst (λ t. HasEnd m (far_end walk) (transition_number t) (vertex_number b)) e w.2.2) in
            subst (Contains (list_at old a ++ head.0 ∷ [])) (ap (λ (v : VertexId). v.0) same) (Contains-push (list_at old a) head.0))
            (λ (ne : w.0 ≡ n → ⊥). Contains-append_left (list_at old a) (head.0 ∷ []) b ((h.arrows a b).1 (w.0, (let lt = w.1 in omega arith), w.2)))
            (cases_eq w.0 n)),
      ))
      (λ (other : a ≡ tail.0 → ⊥).
      let is : list_at new a ≡ list_at old a = puts a ∙ puts_there tail.0 head.0 a (list_at old a) other in (
        λ c. let w = (h.arrows a b).0 (subst (λ xs. Contains xs b) is c) in (w.0, (let lt = w.1 in omega arith), w.2),
        λ w. ⊎_elim
            (λ (e : w.0 ≡ n). absurd (other (ap (λ (v : VertexId). v.0) (end_only m (near_end walk) (transition_number n) (vertex_number a) tail
            (subst (λ t. HasEnd m (near_end walk) (transition_number t) (vertex_number a)) e w.2.1) near))))
            (λ (ne : w.0 ≡ n → ⊥). subst (λ xs. Contains xs b) (sym is) ((h.arrows a b).1 (w.0, (let lt = w.1 in omega arith), w.2)))
            (cases_eq w.0 n),
      ))
      (cases_eq a tail.0);
}

pub arrows_skip : (m : DraftMachine) (walk : Walk) (n : ℕ) (onward : List (Vec ℕ Global)) (tail : VertexId)
    → HasEnd m (near_end walk) (transition_number n) tail → (Passes m walk tail → ⊥) → AreArrowsBelow m walk n onward → AreArrowsBelow m walk (n + 1) onward
arrows_skip m walk n onward tail near stops h = record {
  width = h.width;
  arrows = λ a b. (
    λ c. let w = (h.arrows a b).0 c in (w.0, (let lt = w.1 in omega arith), w.2),
    λ w. ⊎_elim
        (λ (e : w.0 ≡ n). absurd (stops (subst (Passes m walk) (end_only m (near_end walk) (transition_number n) (vertex_number a) tail
        (subst (λ t. HasEnd m (near_end walk) (transition_number t) (vertex_number a)) e w.2.1) near) w.2.0)))
        (λ (ne : w.0 ≡ n → ⊥). (h.arrows a b).1 (w.0, (let lt = w.1 in omega arith), w.2))
        (cases_eq w.0 n),
  );
}

pub arrows_end : (m : DraftMachine) → HasShape m → (walk : Walk) (n : ℕ) (onward : List (Vec ℕ Global)) → length m.transitions ≤ n
    → AreArrowsBelow m walk n onward → AreArrows m walk onward
arrows_end m shape walk n onward all h = record {
  width = h.width;
  arrows = λ a b. (
    λ c. let w = (h.arrows a b).0 c in (transition_number w.0, w.2),
    λ w. (h.arrows a b).1 (w.0.0, (let lt = (end_there m shape (near_end walk) w.0 (vertex_number a) w.1.1).0 in omega arith), w.1),
  );
}

-- every arrow ends at a vertex that is there
pub arrows_within : (m : DraftMachine) → HasShape m → (walk : Walk) (onward : List (Vec ℕ Global)) → AreArrows m walk onward → StaysWithin onward
arrows_within m shape walk onward h a b c =
    let w = (h.arrows a b).0 c in
    subst (λ k. b < k) (sym h.width) (end_there m shape (far_end walk) w.0 (vertex_number b) w.1.2).1

-- before the first number from which the second relation leads there are only arrows along the first
pub with_begins : (count count' n : ℕ) (Leads More : ℕ → ℕ → Type 0) (onward : List (Vec ℕ Global)) → ((a b : ℕ) → More a b → n ≤ a) → count ≡ count'
    → AreArrowsAlong count Leads onward → AreArrowsWith count' n Leads More onward
with_begins count count' n Leads More onward from is h = record {
  width = h.width ∙ is;
  arrows = λ a b. (λ c. inl ((h.arrows a b).0 c), λ w. ⊎_elim (λ l. (h.arrows a b).1 l) (λ d. absurd (let lt = d.0 in let le = from a b d.1 in omega arith)) w);
}

-- the ends of one number more are put
pub with_more : (count count' n : ℕ) (Leads More : ℕ → ℕ → Type 0) (old new : List (Vec ℕ Global)) (items : List ℕ) → ((b : ℕ) → Contains items b ↔ More n b)
    → length new ≡ count' → ((k : ℕ) → list_at new k ≡ list_at old k ++ (if k == n then items else []))
    → AreArrowsWith count n Leads More old → AreArrowsWith count' (n + 1) Leads More new
with_more count count' n Leads More old new items are width puts h = record {
  width = width;
  arrows = λ a b. ⊎_elim
      (λ (here : a ≡ n).
      let is : list_at new a ≡ list_at old a ++ items = puts a ∙ ap (λ (x : Bool). list_at old a ++ (if x then items else [])) (eq-eqb a n here) in (
        λ c. ⊎_elim (λ old'. ⊎_elim inl (λ d. inr ((let lt = d.0 in omega arith), d.1)) ((h.arrows a b).0 old'))
            (λ more. inr (omega arith, subst (λ k. More k b) (sym here) ((are b).0 more)))
            (Contains-append_cases (list_at old a) items b (subst (λ xs. Contains xs b) is c)),
        λ w. subst (λ xs. Contains xs b) (sym is) (⊎_elim
            (λ l. Contains-append_left (list_at old a) items b ((h.arrows a b).1 (inl l)))
            (λ d. Contains-append_right (list_at old a) items b ((are b).1 (subst (λ k. More k b) here d.1))) w),
      ))
      (λ (other : a ≡ n → ⊥).
      let is : list_at new a ≡ list_at old a =
      puts a ∙ ap (λ (x : Bool). list_at old a ++ (if x then items else [])) (ne_eqb a n other) ∙ append-nil (list_at old a) in (
        λ c. ⊎_elim inl (λ d. inr ((let lt = d.0 in omega arith), d.1)) ((h.arrows a b).0 (subst (λ xs. Contains xs b) is c)),
        λ w. subst (λ xs. Contains xs b) (sym is) ((h.arrows a b).1 (⊎_elim inl (λ d. inr ((let lt = d.0 in omega arith), d.1)) w)),
      ))
      (cases_eq a n);
}

-- the second relation does not lead from a number
pub with_none : (count n : ℕ) (Leads More : ℕ → ℕ → Type 0) (onward : List (Vec ℕ Global)) → ((b : ℕ) → More n b → ⊥)
    → AreArrowsWith count n Leads More onward → AreArrowsWith count (n + 1) Leads More onward
with_none count n Leads More onward none h = record {
  width = h.width;
  arrows = λ a b. (
    λ c. ⊎_elim inl (λ d. inr ((let lt = d.0 in omega arith), d.1)) ((h.arrows a b).0 c),
    λ w. (h.arrows a b).1 (⊎_elim inl
        (λ d. ⊎_elim (λ (here : a ≡ n). absurd (none b (subst (λ k. More k b) here d.1))) (λ (other : a ≡ n → ⊥). inr ((let lt = d.0 in omega arith), d.1)) (cases_eq a n))
        w),
  );
}

-- past the last number from which the second relation leads there are the arrows along both
pub with_ends : (count count' n : ℕ) (Leads More : ℕ → ℕ → Type 0) (onward : List (Vec ℕ Global)) → ((a b : ℕ) → More a b → a < n) → count ≡ count'
    → AreArrowsWith count n Leads More onward → AreArrowsAlong count' (λ a b. Leads a b ⊎ More a b) onward
with_ends count count' n Leads More onward within is h = record {
  width = h.width ∙ is;
  arrows = λ a b. (
    λ c. ⊎_elim inl (λ d. inr d.1) ((h.arrows a b).0 c),
    λ w. (h.arrows a b).1 (⊎_elim inl (λ d. inr (within a b d, d)) w),
  );
}

-- the arrows of the walk through pseudostates
pub through_along : (m : DraftMachine) (onward : List (Vec ℕ Global)) → AreArrows m Through onward → AreArrowsAlong (length m.vertices) (LeadsThrough m) onward
through_along m onward h = record { width = h.width; arrows = h.arrows }

-- a history vertex is there
pub history_there : (m : DraftMachine) (v : VertexId) → IsHistory m v → v.0 < length m.vertices
history_there m v h = ⊎_elim (λ s. kind_there m v _ s) (λ d. kind_there m v _ d) h

-- arrows from regions come from numbers behind those of the vertices, and end at vertices
pub from_region_there : (m : DraftMachine) → HasShape m → (a b : ℕ) → LeadsFromRegion m a b → (length m.vertices ≤ a) × (a < length m.vertices + length m.regions) × (b < length m.vertices)
from_region_there m shape a b d =
    let there = owning_region_there m shape (vertex_number b) d.0 d.2.1 in
    let is = d.1 in
    (omega arith, omega arith, kind_there m (vertex_number b) _ d.2.0)

-- arrows to regions come from vertices, and end at numbers behind theirs
pub to_region_there : (m : DraftMachine) → HasShape m → (a b : ℕ) → LeadsToRegion m a b → (a < length m.vertices) × (length m.vertices ≤ b) × (b < length m.vertices + length m.regions)
to_region_there m shape a b d =
    let there = owning_region_there m shape (vertex_number a) d.0 d.2.2 in
    let is = d.1 in
    (history_there m (vertex_number a) d.2.0, omega arith, omega arith)

-- a vertex leads by default to no region but its own
pub only_default : (m : DraftMachine) (v : VertexId) (r : RegionId) (place : ℕ) → place ≡ number_of_region m r → IsDefault m v r
    → (b : ℕ) → Contains (place ∷ []) b ↔ LeadsToRegion m v.0 b
only_default m v r place is default b = (
  λ c. (r, sym (only_first place b c) ∙ is, default),
  λ d. subst (Contains (place ∷ [])) (is ∙ ap (number_of_region m) (one_region m (State v) r d.0 default.2 d.2.2) ∙ sym d.1) (0, omega arith, refl),
)

-- the numbers of vertices
number_in : (items : List VertexId) (b : ℕ) → Contains (map (λ v. v.0) items) b ↔ Contains items (vertex_number b)
number_in items b = (
  λ c.
      let lt : c.0 < length items = let l = c.1 in omega (arith, length-map {A = VertexId} {B = ℕ}) in
      (c.0, lt, ap vertex_number (sym (get_or-map (λ (v : VertexId). v.0) items c.0 (vertex_number b)) ∙ c.2)),
  λ c.
      let lt : c.0 < length (map (λ (v : VertexId). v.0) items) = let l = c.1 in omega (arith, length-map {A = VertexId} {B = ℕ}) in
      (c.0, lt, get_or-map (λ (v : VertexId). v.0) items c.0 (vertex_number b) ∙ ap (λ (v : VertexId). v.0) c.2),
)

-- the number of a region leads to the initial vertices of that region alone
pub region_leads : (m : DraftMachine) (r : RegionId) (items : List VertexId) → ((v : VertexId) → Contains items v ↔ OwnsOfKind m r kinds.Initial v)
    → (b : ℕ) → Contains (map (λ v. v.0) items) b ↔ LeadsFromRegion m (number_of_region m r) b
region_leads m r items are b = (
  λ c. (r, refl, (are (vertex_number b)).0 ((number_in items b).0 c)),
  λ d.
      let same : d.0 ≡ r = ap region_number (let is = d.1 in omega arith) in
      (number_in items b).1 ((are (vertex_number b)).1 (subst (λ q. OwnsOfKind m q kinds.Initial (vertex_number b)) same d.2)),
)

-- every arrow ends at a number that has a list
pub leads_within : (m : DraftMachine) → HasShape m → (onward : List (Vec ℕ Global)) → AreLeads m onward → StaysWithin onward
leads_within m shape onward h a b c =
    subst (λ k. b < k) (sym h.width) (⊎_elim
    (λ out. ⊎_elim (λ t. let lt = (end_there m shape Target t.0 (vertex_number b) t.1.2).1 in omega arith) (λ d. (to_region_there m shape a b d).2) out)
    (λ d. let lt = (from_region_there m shape a b d).2 in omega arith)
    ((h.arrows a b).0 c))

-- where late transitions end: one more, or passed over
pub late_more : (m : DraftMachine) (n : ℕ) (xs : List ℕ) (source target : VertexId) → Leaves m (transition_number n) source → Enters m (transition_number n) target
    → IsLateOrigin m source → ((b : ℕ) → Contains xs b ↔ IsLateTargetBelow m n b) → (b : ℕ) → Contains (xs ++ target.0 ∷ []) b ↔ IsLateTargetBelow m (n + 1) b
late_more m n xs source target leaves enters late h b = (
  λ c. ⊎_elim (λ old. let w = (h b).0 old in (w.0, (let lt = w.1 in omega arith), w.2))
      (λ (e : target.0 ≡ b). (n, omega arith, (source, late, leaves, subst (Enters m (transition_number n)) (ap vertex_number e) enters)))
      (Contains-push_cases xs target.0 b c),
  λ w. ⊎_elim
      (λ (e : w.0 ≡ n).
      let same : target ≡ vertex_number b = end_only m Target (transition_number n) target (vertex_number b) enters
      (subst (λ t. Enters m (transition_number t) (vertex_number b)) e w.2.3) in
      subst (Contains (xs ++ target.0 ∷ [])) (ap (λ (v : VertexId). v.0) same) (Contains-push xs target.0))
      (λ (ne : w.0 ≡ n → ⊥). Contains-append_left xs (target.0 ∷ []) b ((h b).1 (w.0, (let lt = w.1 in omega arith), w.2)))
      (cases_eq w.0 n),
)

pub late_passed : (m : DraftMachine) (n : ℕ) (xs : List ℕ) (source : VertexId) → Leaves m (transition_number n) source
    → (IsLateOrigin m source → ⊥) → ((b : ℕ) → Contains xs b ↔ IsLateTargetBelow m n b) → (b : ℕ) → Contains xs b ↔ IsLateTargetBelow m (n + 1) b
late_passed m n xs source leaves early h b = (
  λ c. let w = (h b).0 c in (w.0, (let lt = w.1 in omega arith), w.2),
  λ w. ⊎_elim
      (λ (e : w.0 ≡ n). absurd (early (subst (IsLateOrigin m) (end_only m Source (transition_number n) w.2.0 source
      (subst (λ t. Leaves m (transition_number t) w.2.0) e w.2.2) leaves) w.2.1)))
      (λ (ne : w.0 ≡ n → ⊥). (h b).1 (w.0, (let lt = w.1 in omega arith), w.2))
      (cases_eq w.0 n),
)

pub late_all : (m : DraftMachine) → HasShape m → (n : ℕ) (xs : List ℕ) → length m.transitions ≤ n → ((b : ℕ) → Contains xs b ↔ IsLateTargetBelow m n b)
    → (b : ℕ) → Contains xs b ↔ IsLateTarget m b
late_all m shape n xs all h b = (
  λ c. let w = (h b).0 c in (transition_number w.0, w.2.0, w.2.1, w.2.2, w.2.3),
  λ w. (h b).1 (w.0.0, (let lt = (end_there m shape Source w.0 w.1 w.3).0 in omega arith), (w.1, w.2, w.3, w.4)),
)
