-- The elements of a machine: what stands at a number, its kind, its owner and its ends.
use Rattle.std.proofs.Common.{◌≡◌, ◌≢◌, ◌⊎◌, ◌<◌, ℕ, zero, suc, List, [], ◌∷◌, length, Option, Some, None, slice_get, option_map, refl, ap, subst, ◌∙◌, inl, inr, arith, ◌↔◌, IsSomeAnd, Contains}
use Rattle.std.specs.List.{AllByRecursion}
use Rattle.pssm_model.specs.declared.ids.VertexId.{VertexId}
use Rattle.pssm_model.specs.declared.ids.TransId.{TransId}
use Rattle.pssm_model.specs.declared.elements.DraftMachine.{DraftMachine}
use Rattle.pssm_model.specs.declared.elements.Vertex.{Vertex}
use Rattle.pssm_model.specs.declared.elements.Transition.{Transition}
use Rattle.pssm_model.specs.declared.elements.VertexKind.{VertexKind}
use Rattle.pssm_model.specs.declared.elements.VertexKind.TheVariants as kinds
use Rattle.pssm_model.specs.Forest.{vertex_at, transition_at, HasKind, LiesUnder}
use Rattle.pssm_model.specs.Legs.{Leaves, Enters}
use Rattle.pssm_model.specs.declared.ids.RegionId.{RegionId}
use Rattle.pssm_model.specs.declared.elements.Owner.{Owner}
use Rattle.pssm_model.specs.declared.elements.Owner.TheVariants.{Top}
use Rattle.pssm_model.specs.Forest.LiesUnder.{owned, further}
use Rattle.pssm_model.specs.declared.ids.SignalId.{SignalId}
use Rattle.pssm_model.specs.declared.elements.TransKind.{TransKind}
use Rattle.pssm_model.specs.declared.elements.TransKind.TheVariants.{External, Local, Internal}
use Rattle.pssm_model.specs.Routes.{Lists}

-- numbers that name the same element
pub same_vertex : (v w : VertexId) → v.0 ≡ w.0 → v ≡ w
same_vertex v w e = ap (λ n. let x : VertexId = record { 0 = n } in x) e

pub same_transition : (t u : TransId) → t.0 ≡ u.0 → t ≡ u
same_transition t u e = ap (λ n. let x : TransId = record { 0 = n } in x) e

-- a mapped option is there exactly where the option is
pub mapped_some : {X Y : Type 0} (f : X → Y) (o : Option X) (y : Y) → option_map f o ≡ Some y → (x : X) × (o ≡ Some x) × (f x ≡ y)
mapped_some f None y e = absurd (cc)
mapped_some f (Some x) y e = (x, refl, cc)

pub mapped_at : {X Y : Type 0} (f : X → Y) (o : Option X) (x : X) → o ≡ Some x → option_map f o ≡ Some (f x)
mapped_at f o x e = ap (option_map f) e

-- what is at a place of a list
pub all_at : {X : Type 0} (P : X → Type 0) (xs : List X) (n : ℕ) (x : X) → AllByRecursion P xs → slice_get xs n ≡ Some x → P x
all_at P [] n x h e = absurd (cc)
all_at P (y ∷ ys) zero x h e = let same : y ≡ x = cc in subst P same h.0
all_at P (y ∷ ys) (suc n) x h e = all_at P ys n x h.1 e

pub some_at : {X : Type 0} (xs : List X) (n : ℕ) → n < length xs → (x : X) × (slice_get xs n ≡ Some x)
some_at [] n h = absurd (omega arith)
some_at (y ∷ ys) zero h = (y, refl)
some_at (y ∷ ys) (suc n) h = some_at ys n (omega arith)

-- a vertex has one kind
pub kind_unique : (m : DraftMachine) (v : VertexId) (k l : VertexKind) → HasKind m v k → HasKind m v l → k ≡ l
kind_unique m v k l h g = cc

-- the one element of a list of one
pub only_element : {X : Type 0} (x y : X) (n : ℕ) → slice_get (x ∷ []) n ≡ Some y → (n ≡ 0) × (y ≡ x)
only_element x y zero e = (refl, cc)
only_element x y (suc n) e = absurd (cc)

pub same_region : (r q : RegionId) → r.0 ≡ q.0 → r ≡ q
same_region r q e = ap (λ n. let x : RegionId = record { 0 = n } in x) e

-- nothing owns the machine
pub top_lies_nowhere : {m : DraftMachine} (q : Owner) → LiesUnder m Top q → ⊥
top_lies_nowhere q (owned e) = cc
top_lies_nowhere q (further e rest) = cc

-- no element is in the empty list
pub nothing_in_nil : {X : Type 0} (x : X) → Contains [] x → ⊥
nothing_in_nil x h = let lt : h.0 < 0 = h.1 in omega arith

-- a transition has one source and one target
pub leaves_one : (m : DraftMachine) (t : TransId) (v w : VertexId) → Leaves m t v → Leaves m t w → v ≡ w
leaves_one m t v w h g = cc

pub enters_one : (m : DraftMachine) (t : TransId) (v w : VertexId) → Enters m t v → Enters m t w → v ≡ w
enters_one m t v w h g = cc

-- an option that holds a value with a property
pub some_and : {X : Type 0} (P : X → Type 0) (o : Option X) → IsSomeAnd o P → (x : X) × (o ≡ Some x) × P x
some_and P None h = absurd h
some_and P (Some x) h = (x, refl, h)

pub and_some : {X : Type 0} (P : X → Type 0) (o : Option X) (x : X) → o ≡ Some x → P x → IsSomeAnd o P
and_some P o x e h = rw e h

-- what the transition of a number says of its ends and triggers
pub leaves_at : (m : DraftMachine) (t : TransId) (x : Transition) (v : VertexId) → transition_at m t ≡ Some x → Leaves m t v ↔ (x.source ≡ v)
leaves_at m t x v e =
    let there = mapped_at (λ (y : Transition). y.source) (transition_at m t) x e in
    (λ h. cc, λ same. there ∙ ap Some same)

pub enters_at : (m : DraftMachine) (t : TransId) (x : Transition) (v : VertexId) → transition_at m t ≡ Some x → Enters m t v ↔ (x.target ≡ v)
enters_at m t x v e =
    let there = mapped_at (λ (y : Transition). y.target) (transition_at m t) x e in
    (λ h. cc, λ same. there ∙ ap Some same)

pub lists_at : (m : DraftMachine) (t : TransId) (x : Transition) (signal : SignalId) → transition_at m t ≡ Some x
    → Lists m t signal ↔ Contains x.triggers signal
lists_at m t x signal e = (λ h. rw e at h, λ h. and_some (λ (y : Transition). Contains y.triggers signal) (transition_at m t) x e h)

-- what the vertex of a number says of its kind
pub kind_at : (m : DraftMachine) (v : VertexId) (x : Vertex) (kind : VertexKind) → vertex_at m v ≡ Some x → HasKind m v kind ↔ (x.kind ≡ kind)
kind_at m v x kind e =
    let there = mapped_at (λ (y : Vertex). y.kind) (vertex_at m v) x e in
    (λ h. cc, λ same. there ∙ ap Some same)

-- a fact of each place of a list
pub all_from : {X : Type 0} (P : X → Type 0) (xs : List X) → ((n : ℕ) (x : X) → slice_get xs n ≡ Some x → P x) → AllByRecursion P xs
all_from P [] h = tt
all_from P (x ∷ xs) h = (h zero x refl, all_from P xs (λ n y e. h (suc n) y e))

-- what a kind or a list may be
pub kind_split : (k : VertexKind) → (k ≡ kinds.State) ⊎ (k ≡ kinds.Initial) ⊎ ((k ≢ kinds.State) × (k ≢ kinds.Initial))
kind_split kinds.State = inl refl
kind_split kinds.Initial = inr (inl refl)
kind_split kinds.Final = inr (inr (λ e. cc, λ e. cc))
kind_split kinds.DeepHistory = inr (inr (λ e. cc, λ e. cc))
kind_split kinds.ShallowHistory = inr (inr (λ e. cc, λ e. cc))
kind_split kinds.Join = inr (inr (λ e. cc, λ e. cc))
kind_split kinds.Fork = inr (inr (λ e. cc, λ e. cc))
kind_split kinds.Junction = inr (inr (λ e. cc, λ e. cc))
kind_split kinds.Choice = inr (inr (λ e. cc, λ e. cc))
kind_split kinds.EntryPoint = inr (inr (λ e. cc, λ e. cc))
kind_split kinds.ExitPoint = inr (inr (λ e. cc, λ e. cc))
kind_split kinds.Terminate = inr (inr (λ e. cc, λ e. cc))

pub external_split : (k : TransKind) → (k ≡ External) ⊎ (k ≢ External)
external_split External = inl refl
external_split Local = inr (λ e. cc)
external_split Internal = inr (λ e. cc)
