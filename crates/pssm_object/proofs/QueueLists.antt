-- A list of different States with one taken out or one put at the end, and what there is room for.
use Rattle.std.proofs.Common.{◌≡◌, ◌≢◌, ◌⊎◌, ◌<◌, ◌≤◌, ◌++◌, ◌==◌, ◌∙◌, ℕ, zero, suc, List, [], ◌∷◌, length, map, not, Bool, true, false, cond, Option, Some, None, IfSome, Contains, All, AllPairs, slice_index_or, filter, eqb, refl, sym, ap, subst, inl, inr, ⊎_elim, arith}
use Rattle.std.specs.List.{AllByRecursion, IsDistinct}
use Rattle.std.proofs.lemmas.Bool.{eqb-true, cases_Bool}
use Rattle.std.proofs.lemmas.Bool.Decides.{eqb_tells}
use Rattle.std.proofs.lemmas.List.Elements.{All-contains, All-filter, Contains-get_or, Contains-push_cases}
use Rattle.std.proofs.lemmas.List.Kept.{AllPairs-filter}
use Rattle.std.proofs.lemmas.Map.Steps.{length-le_from_distinct_below}
use Rattle.std.proofs.lemmas.Map.Views.{Contains-from_any}
use Rattle.std.proofs.lemmas.Option.{slice_get_within}
use Rattle.pssm_model.specs.declared.ids.VertexId.{VertexId}
use Rattle.pssm_model.specs.declared.ids.RegionId.{RegionId}
use Rattle.pssm_model.specs.declared.elements.DraftMachine.{DraftMachine}
use Rattle.pssm_model.specs.declared.elements.Owner.{Owner}
use Rattle.pssm_model.specs.declared.elements.Owner.TheVariants.{Top, Region, State}
use Rattle.pssm_model.specs.declared.elements.Vertex.{Vertex}
use Rattle.pssm_model.specs.declared.elements.VertexKind.{VertexKind}
use Rattle.pssm_model.specs.declared.elements.VertexKind.TheVariants as kinds
use Rattle.pssm_model.specs.Forest.{vertex_at, owner_of, HasKind}
use Rattle.pssm_model.specs.Shapes.{HasShape}
use Rattle.pssm_model.proofs.ElementLaws.{mapped_some, same_vertex}
use Rattle.pssm_object.specs.Queue.{CompletionQueue}
use Rattle.pssm_object.specs.inner.Queueing.{QueueFits, state_of, without}

-- a State that owns a region is one of the machine
pub kind_there : (m : DraftMachine) (v : VertexId) (kind : VertexKind) → HasKind m v kind → v.0 < length m.vertices
kind_there m v kind h = let at = mapped_some (λ (x : Vertex). x.kind) (vertex_at m v) kind h in slice_get_within m.vertices v.0 at.0 at.1

owning_state_there : (m : DraftMachine) → HasShape m → (r : RegionId) (p : Option Owner) → owner_of m (Region r) ≡ p
    → IfSome (state_of p) (λ s. s.0 < length m.vertices)
owning_state_there m shape r None h = tt
owning_state_there m shape r (Some Top) h = tt
owning_state_there m shape r (Some (Region q)) h = tt
owning_state_there m shape r (Some (State s)) h = kind_there m s kinds.State (shape.regions r (State s) h).0

pub state_above_there : (m : DraftMachine) → HasShape m → (r : RegionId) → IfSome (state_of (owner_of m (Region r))) (λ s. s.0 < length m.vertices)
state_above_there m shape r = owning_state_there m shape r (owner_of m (Region r)) refl

-- what is in a list with one more in front
module _ {X : Type 0} where
  pub nothing_in : (x : X) → Contains [] x → ⊥
  nothing_in x (k, lt, at) = absurd (omega (arith, lt))

  pub is_first : (x : X) (xs : List X) → Contains (x ∷ xs) x
  is_first x xs = (0, omega arith, refl)

  pub is_behind : (y x : X) (xs : List X) → Contains xs x → Contains (y ∷ xs) x
  is_behind y x xs (k, lt, at) = (suc k, omega (arith, lt), at)

  pub first_or_behind : (y x : X) (xs : List X) → Contains (y ∷ xs) x → (y ≡ x) ⊎ Contains xs x
  first_or_behind y x xs (zero, lt, at) = inl at
  first_or_behind y x xs (suc k, lt, at) = inr (k, omega (arith, lt), at)

  filter_in : (q : X → Bool) (xs : List X) (x : X) → Contains xs x → q x ≡ true → Contains (filter q xs) x
  filter_in q [] x h here = absurd (nothing_in x h)
  filter_in q (y ∷ xs) x h here =
      ⊎_elim
      (λ taken. subst (λ (b : Bool). Contains (cond b (y ∷ filter q xs) (filter q xs)) x) (sym taken)
      (⊎_elim (λ same. subst (Contains (y ∷ filter q xs)) same (is_first y (filter q xs)))
      (λ behind. is_behind y x (filter q xs) (filter_in q xs x behind here)) (first_or_behind y x xs h)))
      (λ passed. subst (λ (b : Bool). Contains (cond b (y ∷ filter q xs) (filter q xs)) x) (sym passed)
      (⊎_elim (λ same. let no : q x ≡ false = ap q (sym same) ∙ passed in absurd (cc))
      (λ behind. filter_in q xs x behind here) (first_or_behind y x xs h)))
      (cases_Bool (q y))

  filter_of : (q : X → Bool) (xs : List X) (x : X) → Contains (filter q xs) x → Contains xs x × (q x ≡ true)
  filter_of q [] x h = absurd (nothing_in x h)
  filter_of q (y ∷ xs) x h =
      ⊎_elim
      (λ taken. ⊎_elim (λ same. (subst (Contains (y ∷ xs)) same (is_first y xs), ap q (sym same) ∙ taken))
      (λ behind. let more = filter_of q xs x behind in (is_behind y x xs more.0, more.1))
      (first_or_behind y x (filter q xs) (subst (λ (b : Bool). Contains (cond b (y ∷ filter q xs) (filter q xs)) x) taken h)))
      (λ passed. let more = filter_of q xs x (subst (λ (b : Bool). Contains (cond b (y ∷ filter q xs) (filter q xs)) x) passed h) in
      (is_behind y x xs more.0, more.1))
      (cases_Bool (q y))

  -- a list in order by one relation is so by another that follows where both are in the list
  pub in_order_too : (R S : X → X → Type 0) (xs : List X) → ((x y : X) → Contains xs x → Contains xs y → R x y → S x y) → AllPairs R xs → AllPairs S xs
  in_order_too R S xs more h i j d lt within =
      more (slice_index_or xs i d) (slice_index_or xs j d) (Contains-get_or xs i d (omega (arith, lt, within))) (Contains-get_or xs j d within)
      (h i j d lt within)

  -- the first of a list in order stands before each later one
  pub first_before : (R : X → X → Type 0) (x : X) (xs : List X) → AllPairs R (x ∷ xs) → (y : X) → Contains xs y → R x y
  first_before R x xs h y (k, lt, at) = subst (R x) at (h 0 (suc k) y (omega arith) (omega (arith, lt)))

-- a test of numbers tells vertices apart
pub differs : (s v : VertexId) → v ≢ s → not (v.0 == s.0) ≡ true
differs s v apart = ⊎_elim (λ yes. absurd (apart (same_vertex v s yes.1))) (λ no. ap not no.0) (eqb_tells v.0 s.0)

is_other : (s v : VertexId) → not (v.0 == s.0) ≡ true → v ≡ s → ⊥
is_other s v passes same =
    ⊎_elim (λ yes. let no : false ≡ true = ap not (sym yes.0) ∙ passes in absurd (cc)) (λ no. no.1 (ap (λ (x : VertexId). x.0) same)) (eqb_tells v.0 s.0)

-- a list without a State has all others
pub stays_in : (leaves : Option VertexId) (queue : List VertexId) (v : VertexId) → Contains queue v → (leaves ≡ Some v → ⊥) → Contains (without leaves queue) v
stays_in None queue v inside other = inside
stays_in (Some s) queue v inside other =
    filter_in (λ w. not (w.0 == s.0)) queue v inside (differs s v (λ same. other (ap (λ (x : VertexId). Some x) (sym same))))

pub was_in : (leaves : Option VertexId) (queue : List VertexId) (v : VertexId) → Contains (without leaves queue) v → Contains queue v × (leaves ≡ Some v → ⊥)
was_in None queue v inside = (inside, λ is. cc)
was_in (Some s) queue v inside =
    let h = filter_of (λ w. not (w.0 == s.0)) queue v inside in
    (h.0, λ is. is_other s v h.1 (let same : s ≡ v = cc in sym same))

pub all_without : (P : VertexId → Type 0) (leaves : Option VertexId) (queue : List VertexId) → All P queue → All P (without leaves queue)
all_without P None queue h = h
all_without P (Some s) queue h = All-filter (λ w. not (w.0 == s.0)) P queue h

pub ordered_without : (R : VertexId → VertexId → Type 0) (leaves : Option VertexId) (queue : List VertexId) → AllPairs R queue
    → AllPairs R (without leaves queue)
ordered_without R None queue h = h
ordered_without R (Some s) queue h = AllPairs-filter R (λ w. not (w.0 == s.0)) queue h

-- a queue that fits does so without a State
pub fits_without : (m : DraftMachine) (old new : CompletionQueue) (leaves : Option VertexId) → QueueFits m old
    → new.states ≡ without leaves old.states → new.room ≡ old.room → QueueFits m new
fits_without m old new leaves h states room = record {
  within = subst (All (λ (s : VertexId). s.0 < length m.vertices)) (sym states) (all_without (λ s. s.0 < length m.vertices) leaves old.states h.within);
  once = subst (AllPairs (λ (s q : VertexId). s ≢ q)) (sym states) (ordered_without (λ s q. s ≢ q) leaves old.states h.once);
  room = subst (λ (n : ℕ). length m.vertices ≤ n) (sym room) h.room;
}

-- different vertices have different numbers
abbrev numbers : List VertexId → List ℕ
numbers vs = map (λ (v : VertexId). v.0) vs

unlike_each : (v : VertexId) (vs : List VertexId) → ((q : VertexId) → Contains vs q → v ≢ q) → AllByRecursion (λ n. eqb v.0 n ≡ false) (numbers vs)
unlike_each v [] h = tt
unlike_each v (q ∷ vs) h = (
  ⊎_elim (λ yes. absurd (h q (is_first q vs) (same_vertex v q yes.1))) (λ no. no.0) (eqb_tells v.0 q.0),
  unlike_each v vs (λ x inside. h x (is_behind q x vs inside)),
)

distinct_numbers : (vs : List VertexId) → AllPairs (λ s q. s ≢ q) vs → IsDistinct eqb (numbers vs)
unfolding IsDistinct
distinct_numbers [] h = tt
distinct_numbers (v ∷ vs) h = (
  unlike_each v vs (first_before (λ s q. s ≢ q) v vs h),
  distinct_numbers vs (λ i j d lt within. h (suc i) (suc j) d (omega (arith, lt)) (omega (arith, within))),
)

numbers_below : (n : ℕ) (vs : List VertexId) → ((v : VertexId) → Contains vs v → v.0 < n) → (q : ℕ) → Contains (numbers vs) q → q < n
numbers_below n [] h q inside = absurd (nothing_in q inside)
numbers_below n (v ∷ vs) h q inside =
    ⊎_elim
    (λ same. subst (λ (k : ℕ). k < n) same (h v (is_first v vs)))
    (λ behind. numbers_below n vs (λ x there. h x (is_behind v x vs there)) q behind)
    (first_or_behind v.0 q (numbers vs) inside)

as_many : (vs : List VertexId) → length (numbers vs) ≡ length vs
as_many [] = refl
as_many (v ∷ vs) = ap suc (as_many vs)

distinct_with_first : (v : VertexId) (vs : List VertexId) → AllByRecursion (λ n. eqb v.0 n ≡ false) (numbers vs) → IsDistinct eqb (numbers vs)
    → IsDistinct eqb (v.0 ∷ numbers vs)
unfolding IsDistinct
distinct_with_first v vs first rest = (first, rest)

-- there is room for a further vertex of the machine
pub has_room : (m : DraftMachine) (queue : CompletionQueue) (s : VertexId) → QueueFits m queue → s.0 < length m.vertices
    → (Contains queue.states s → ⊥) → length queue.states < queue.room
has_room m queue s h there new =
    let each : (v : VertexId) → Contains (s ∷ queue.states) v → v.0 < length m.vertices = λ v inside.
    ⊎_elim (λ same. subst (λ (x : VertexId). x.0 < length m.vertices) same there)
    (λ behind. All-contains (λ (x : VertexId). x.0 < length m.vertices) queue.states v h.within behind) (first_or_behind s v queue.states inside) in
    let apart : AllByRecursion (λ n. eqb s.0 n ≡ false) (numbers queue.states) =
    unlike_each s queue.states (λ q inside same. new (subst (Contains queue.states) (sym same) inside)) in
    let few = length-le_from_distinct_below (s.0 ∷ numbers queue.states) (length m.vertices)
    (distinct_with_first s queue.states apart (distinct_numbers queue.states h.once))
    (λ q found. numbers_below (length m.vertices) (s ∷ queue.states) each q (Contains-from_any eqb-true q (s.0 ∷ numbers queue.states) found)) in
    let many = as_many queue.states in
    let room = h.room in
    omega (arith, few, many, room)

-- what holds of no element so far and not of the next one holds of none of one more
pub none_more : {X : Type 0} (P : X → Type 0) (xs : List X) (front : List X) (next : X) → xs ≡ front ++ next ∷ []
    → ((x : X) → Contains front x → P x → ⊥) → (P next → ⊥) → (x : X) → Contains xs x → P x → ⊥
none_more P xs front next is few none x inside p =
    ⊎_elim (λ before. few x before p) (λ same. none (subst P (sym same) p)) (Contains-push_cases front next x (subst (λ ys. Contains ys x) is inside))
