-- What a table says once something is put into it, by vertex and by region.
use Rattle.std.proofs.Common.{◌≡◌, ◌≢◌, ◌⊎◌, ◌<◌, List, length, get_or, inl, inr, subst, refl, ap, sym, arith}
use Rattle.std.proofs.Math.ListN.{set}
use Rattle.std.proofs.lemmas.Bool.{cases_eq}
use Rattle.std.proofs.lemmas.List.{get_or-set_same, get_or-set_other}
use Rattle.std.proofs.lemmas.Option.{slice_get_within}
use Rattle.std.proofs.Common.{ℕ, Option, Some, None}
use Rattle.std.specs.Option.{option_map}
use Rattle.pssm_model.specs.declared.ids.VertexId.{VertexId}
use Rattle.pssm_model.specs.declared.ids.RegionId.{RegionId}
use Rattle.pssm_model.specs.declared.elements.DraftMachine.{DraftMachine}
use Rattle.pssm_model.specs.declared.elements.Vertex.{Vertex}
use Rattle.pssm_model.specs.declared.elements.VertexKind.{VertexKind}
use Rattle.pssm_model.specs.Forest.{IsStateOrFinal, vertex_at}

-- vertices of one number are one
pub same_vertex : (v s : VertexId) → v.0 ≡ s.0 → v ≡ s
same_vertex v s e = ap (λ n. let x : VertexId = record { 0 = n } in x) e

-- and so are regions
pub same_region : (q r : RegionId) → q.0 ≡ r.0 → q ≡ r
same_region q r e = ap (λ n. let x : RegionId = record { 0 = n } in x) e

-- A table by vertex says at a vertex what is put there, and elsewhere what it said.
pub put_vertex : {X : Type 0} (xs : List X) (s v : VertexId) (x d : X) → s.0 < length xs
    → ((v ≡ s) × (get_or (set xs s.0 x) v.0 d ≡ x)) ⊎ ((v ≢ s) × (get_or (set xs s.0 x) v.0 d ≡ get_or xs v.0 d))
put_vertex {X} xs s v x d lt = elim (cases_eq v.0 s.0) [
  | inl same ↦
      let Says : ℕ → Type 0 = λ n. get_or (set xs s.0 x) n d ≡ x in
      inl (same_vertex v s same, subst Says (sym same) (get_or-set_same xs s.0 x d lt))
  | inr other ↦ inr (λ e. other (ap (λ y. y.0) e), get_or-set_other xs s.0 v.0 x d other)
]

-- So does a table by region.
pub put_region : {X : Type 0} (xs : List X) (r q : RegionId) (x d : X) → r.0 < length xs
    → ((q ≡ r) × (get_or (set xs r.0 x) q.0 d ≡ x)) ⊎ ((q ≢ r) × (get_or (set xs r.0 x) q.0 d ≡ get_or xs q.0 d))
put_region {X} xs r q x d lt = elim (cases_eq q.0 r.0) [
  | inl same ↦
      let Says : ℕ → Type 0 = λ n. get_or (set xs r.0 x) n d ≡ x in
      inl (same_region q r same, subst Says (sym same) (get_or-set_same xs r.0 x d lt))
  | inr other ↦ inr (λ e. other (ap (λ y. y.0) e), get_or-set_other xs r.0 q.0 x d other)
]

-- A number below a count is a place of a table of so many.
pub in_table : {X : Type 0} (xs : List X) (n k : ℕ) → length xs ≡ n → k < n → k < length xs
in_table xs n k e lt = omega arith

kind_within : (m : DraftMachine) (s : VertexId) (kind : VertexKind) (x : Option Vertex) → vertex_at m s ≡ x → option_map (λ y. y.kind) x ≡ Some kind
    → s.0 < length m.vertices
kind_within m s kind (Some y) e h = slice_get_within m.vertices s.0 y e
kind_within m s kind None e h = cc

-- A vertex of some kind is one of the machine's.
pub state_within : (m : DraftMachine) (s : VertexId) → IsStateOrFinal m s → s.0 < length m.vertices
state_within m s h = elim h [
  | inl state ↦ kind_within m s _ (vertex_at m s) refl state
  | inr final ↦ kind_within m s _ (vertex_at m s) refl final
]
