-- The machine of `Front` is calm: all its transitions are in its one region.
use Rattle.std.proofs.Common.{◌≡◌, ◌⊎◌, ◌≤◌, ◌<◌, ◌+◌, ℕ, zero, suc, [], Some, slice_get, refl, sym, ap, subst, ◌∙◌, inl, inr, arith}
use Rattle.pssm_model.specs.declared.ids.VertexId.{VertexId}
use Rattle.pssm_model.specs.declared.ids.RegionId.{RegionId}
use Rattle.pssm_model.specs.declared.ids.TransId.{TransId}
use Rattle.pssm_model.specs.declared.elements.Vertex.{Vertex}
use Rattle.pssm_model.specs.declared.elements.Transition.{Transition}
use Rattle.pssm_model.specs.declared.elements.VertexKind.TheVariants as kinds
use Rattle.pssm_model.specs.declared.elements.Owner.{Owner}
use Rattle.pssm_model.specs.declared.elements.Owner.TheVariants.{Top, Region}
use Rattle.pssm_model.specs.Forest.{HasKind, owner_of, LiesUnder}
use Rattle.pssm_model.specs.Forest.LiesUnder.{owned, further}
use Rattle.pssm_model.specs.Legs.{Leaves}
use Rattle.pssm_model.proofs.ElementLaws.{same_transition, only_element, mapped_some, top_lies_nowhere}
use Rattle.pssm_suite.specs.GeneratedSetting.{vertex, transition, on_go, front_machine}
use Rattle.pssm_suite.proofs.PlainFront.{round, step, equal_at, made_at, front_plain}
use Rattle.pssm_suite.proofs.LoneRoutes.{IsBottom, home_there}
use Rattle.pssm_suite.proofs.CalmMachines.{IsCalmVertex, IsCalm}

calm_vertex : (n k : ℕ) (x : Vertex) → slice_get (front_machine n).vertices k ≡ Some x → IsCalmVertex x
calm_vertex n zero x e =
    let same : vertex 0 kinds.Initial [] ≡ x = cc in subst IsCalmVertex same (record { entry = refl; exit = refl; steps = refl; defers = refl })
calm_vertex n (suc k) x e = subst IsCalmVertex (sym (equal_at round n k x e).0) (record { entry = refl; exit = refl; steps = refl; defers = refl })

triggered : (n k : ℕ) (x : Transition) → slice_get (front_machine n).transitions k ≡ Some x → HasKind (front_machine n) x.source kinds.Initial ⊎ (x.triggers ≡ on_go)
triggered n zero x e =
    let same : transition 0 1 [] 0 ≡ x = cc in
    inl (subst (λ (y : Transition). HasKind (front_machine n) y.source kinds.Initial) same refl)
triggered n (suc k) x e =
    let same = (made_at (step n) 1 n k x e).0 in inr (subst (λ (y : Transition). y.triggers ≡ on_go) (sym same) refl)

-- a transition leaves the vertex of its number
pub front_source : (n k : ℕ) (v : VertexId) → Leaves (front_machine n) (record { 0 = k }) v → v.0 ≡ k
front_source n zero v l =
    let x = mapped_some (λ (y : Transition). y.source) (slice_get (front_machine n).transitions zero) v l in
    let same : transition 0 1 [] 0 ≡ x.0 = (let is = x.1 in cc) in
    ap (λ (w : VertexId). w.0) (sym x.2) ∙ ap (λ (y : Transition). y.source.0) (sym same)
front_source n (suc k) v l =
    let x = mapped_some (λ (y : Transition). y.source) (slice_get (front_machine n).transitions (suc k)) v l in
    let is = (made_at (step n) 1 n k x.0 x.1).0 in
    let number : 1 + k ≡ suc k = omega arith in
    ap (λ (w : VertexId). w.0) (sym x.2) ∙ ap (λ (y : Transition). y.source.0) is ∙ number

one_step : (n : ℕ) (t u : TransId) (v : VertexId) → Leaves (front_machine n) t v → Leaves (front_machine n) u v → t ≡ u
one_step n t u v l k = same_transition t u (sym (front_source n t.0 v l) ∙ front_source n u.0 v k)

-- no region lies under another
top_at : (n k : ℕ) (q : Owner) → owner_of (front_machine n) (Region (record { 0 = k })) ≡ Some q → q ≡ Top
top_at n k q e = (only_element Top q k e).1

bottom : (n : ℕ) (r : RegionId) → IsBottom (front_machine n) r
bottom n r q (owned e) = let is = top_at n q.0 (Region r) e in cc
bottom n r q (further {q = k} e rest) =
    top_lies_nowhere {m = front_machine n} (Region r) (subst (λ o. LiesUnder (front_machine n) o (Region r)) (top_at n q.0 k e) rest)

pub front_calm : (n : ℕ) → 1 ≤ n → n ≤ 4000 → IsCalm (front_machine n) 0 1
front_calm n some few = record {
  plain = front_plain n some few;
  vertices = λ v x e. calm_vertex n v.0 x e;
  triggered = λ t x e. triggered n t.0 x e;
  one_step = one_step n;
  bottom = λ t v r l k o. bottom n r;
  within = λ t v r l k o. (let there : r.0 < 1 = home_there (front_machine n) (front_plain n some few) v r o in (omega arith, omega (arith, there)));
}
