-- The machine of `Back` is calm: its transitions out of States are in the two regions of its State.
use Rattle.std.proofs.Common.{◌≡◌, ◌⊎◌, ◌≤◌, ◌<◌, ℕ, zero, suc, [], Option, Some, refl, sym, ap, ◌∙◌, inl, inr, ⊎_elim, arith}
use Rattle.std.specs.List.{AllByRecursion}
use Rattle.std.specs.Option.{option_map_or}
use Rattle.pssm_model.specs.declared.ids.VertexId.{VertexId}
use Rattle.pssm_model.specs.declared.ids.RegionId.{RegionId}
use Rattle.pssm_model.specs.declared.ids.TransId.{TransId}
use Rattle.pssm_model.specs.declared.elements.Vertex.{Vertex}
use Rattle.pssm_model.specs.declared.elements.Transition.{Transition}
use Rattle.pssm_model.specs.declared.elements.VertexKind.TheVariants as kinds
use Rattle.pssm_model.specs.declared.elements.Owner.TheVariants.{Top, Region, State}
use Rattle.pssm_model.specs.Forest.{HasKind, owner_of, LiesUnder}
use Rattle.pssm_model.specs.Legs.{Leaves}
use Rattle.pssm_model.proofs.ElementLaws.{same_transition, all_at, top_lies_nowhere}
use Rattle.pssm_model.proofs.Nesting.{under_cases}
use Rattle.pssm_suite.specs.GeneratedSetting.{on_go, back_machine}
use Rattle.pssm_suite.proofs.PlainBack.{back_plain}
use Rattle.pssm_suite.proofs.LoneRoutes.{region_there}
use Rattle.pssm_suite.proofs.CalmMachines.{IsCalmVertex, IsCalm}

calm : (x : Vertex) → x.entry.0 ≡ 0 → x.exit.0 ≡ 0 → x.steps ≡ [] → x.defers ≡ [] → IsCalmVertex x
calm x a b c d = record { entry = a; exit = b; steps = c; defers = d }

vertices_calm : AllByRecursion IsCalmVertex back_machine.vertices
vertices_calm = (
  calm _ refl refl refl refl,
  (
    calm _ refl refl refl refl,
    (
      calm _ refl refl refl refl,
      (
        calm _ refl refl refl refl,
        (
          calm _ refl refl refl refl,
          (calm _ refl refl refl refl, (calm _ refl refl refl refl, (calm _ refl refl refl refl, tt))),
        ),
      ),
    ),
  ),
)

abbrev IsTriggered : Transition → Type 0
IsTriggered x = HasKind back_machine x.source kinds.Initial ⊎ (x.triggers ≡ on_go)

transitions_triggered : AllByRecursion IsTriggered back_machine.transitions
transitions_triggered = (inl refl, (inl refl, (inl refl, (inr refl, (inr refl, (inr refl, (inr refl, tt)))))))

-- the transition that leaves the vertex of a number
abbrev out_of : ℕ → ℕ
out_of zero = 0
out_of (suc zero) = 0
out_of (suc (suc zero)) = 1
out_of (suc (suc (suc zero))) = 3
out_of (suc (suc (suc (suc zero)))) = 5
out_of (suc (suc (suc (suc (suc zero))))) = 2
out_of (suc (suc (suc (suc (suc (suc zero)))))) = 4
out_of (suc (suc (suc (suc (suc (suc (suc k))))))) = 6

source_number : (a : ℕ) (v : VertexId) → (let w : VertexId = record { 0 = a } in Some w) ≡ Some v → a ≡ v.0
source_number a v e = ap (λ (o : Option VertexId). option_map_or (λ (w : VertexId). w.0) o 0) e

-- the number of the vertex that a transition leaves
abbrev source_of : ℕ → ℕ
source_of zero = 0
source_of (suc zero) = 2
source_of (suc (suc zero)) = 5
source_of (suc (suc (suc zero))) = 3
source_of (suc (suc (suc (suc zero)))) = 6
source_of (suc (suc (suc (suc (suc zero))))) = 4
source_of (suc (suc (suc (suc (suc (suc k)))))) = 7

leaves_number : (k : ℕ) (v : VertexId) → Leaves back_machine (record { 0 = k }) v → (source_of k ≡ v.0) × (k ≡ out_of (source_of k))
leaves_number zero v l = (source_number 0 v l, refl)
leaves_number (suc zero) v l = (source_number 2 v l, refl)
leaves_number (suc (suc zero)) v l = (source_number 5 v l, refl)
leaves_number (suc (suc (suc zero))) v l = (source_number 3 v l, refl)
leaves_number (suc (suc (suc (suc zero)))) v l = (source_number 6 v l, refl)
leaves_number (suc (suc (suc (suc (suc zero))))) v l = (source_number 4 v l, refl)
leaves_number (suc (suc (suc (suc (suc (suc zero)))))) v l = (source_number 7 v l, refl)
leaves_number (suc (suc (suc (suc (suc (suc (suc k))))))) v l = absurd cc

one_step : (t u : TransId) (v : VertexId) → Leaves back_machine t v → Leaves back_machine u v → t ≡ u
one_step t u v l k =
    let a = leaves_number t.0 v l in
    let b = leaves_number u.0 v k in
    same_transition t u (a.1 ∙ ap out_of (a.0 ∙ sym b.0) ∙ sym b.1)

-- vertex 1 is left by none
not_left : (k : ℕ) (v : VertexId) → v.0 ≡ 1 → Leaves back_machine (record { 0 = k }) v → ⊥
not_left k v at l = by k ((leaves_number k v l).0 ∙ at)
  where
    by : (j : ℕ) → source_of j ≡ 1 → ⊥
    by zero e = omega (arith, e)
    by (suc zero) e = omega (arith, e)
    by (suc (suc zero)) e = omega (arith, e)
    by (suc (suc (suc zero))) e = omega (arith, e)
    by (suc (suc (suc (suc zero)))) e = omega (arith, e)
    by (suc (suc (suc (suc (suc zero))))) e = omega (arith, e)
    by (suc (suc (suc (suc (suc (suc k)))))) e = omega (arith, e)

-- each other State is in one of the two inner regions
abbrev IsInner : RegionId → Type 0
IsInner r = (1 ≤ r.0) × (r.0 < 3)

state_home : (j : ℕ) (r : RegionId) → HasKind back_machine (record { 0 = j }) kinds.State → owner_of back_machine (State (record { 0 = j })) ≡ Some (Region r) → (j ≡ 1) ⊎ IsInner r
state_home zero r k o = absurd cc
state_home (suc zero) r k o = inl refl
state_home (suc (suc zero)) r k o = absurd cc
state_home (suc (suc (suc zero))) r k o = let e : 1 ≡ r.0 = cc in inr (omega (arith, e), omega (arith, e))
state_home (suc (suc (suc (suc zero)))) r k o = let e : 1 ≡ r.0 = cc in inr (omega (arith, e), omega (arith, e))
state_home (suc (suc (suc (suc (suc zero))))) r k o = absurd cc
state_home (suc (suc (suc (suc (suc (suc zero)))))) r k o = let e : 2 ≡ r.0 = cc in inr (omega (arith, e), omega (arith, e))
state_home (suc (suc (suc (suc (suc (suc (suc zero))))))) r k o = let e : 2 ≡ r.0 = cc in inr (omega (arith, e), omega (arith, e))
state_home (suc (suc (suc (suc (suc (suc (suc (suc j)))))))) r k o = absurd cc

pub step_home : (t : TransId) (v : VertexId) (r : RegionId) → Leaves back_machine t v → HasKind back_machine v kinds.State → owner_of back_machine (State v) ≡ Some (Region r) → IsInner r
step_home t v r l k o = ⊎_elim (λ at. absurd (not_left t.0 v at l)) (λ inner. inner) (state_home v.0 r k o)

-- under an inner region lies none
top_not_under : (r : RegionId) → LiesUnder back_machine (Region (record { 0 = 0 })) (Region r) → ⊥
top_not_under r under =
    ⊎_elim (λ (e : Top ≡ Region r). cc) (λ more. top_lies_nowhere {m = back_machine} (Region r) more)
    (under_cases back_machine (Region (record { 0 = 0 })) Top (Region r) refl under)

state_not_under : (r : RegionId) → 1 ≤ r.0 → LiesUnder back_machine (State (record { 0 = 1 })) (Region r) → ⊥
state_not_under r le under =
    ⊎_elim
    (λ (e : Region (record { 0 = 0 }) ≡ Region r). (let zero_is : 0 ≡ r.0 = cc in omega (arith, zero_is, le)))
    (λ more. top_not_under r more)
    (under_cases back_machine (State (record { 0 = 1 })) (Region (record { 0 = 0 })) (Region r) refl under)

bottom_at : (k : ℕ) (r : RegionId) → 1 ≤ r.0 → LiesUnder back_machine (Region (record { 0 = k })) (Region r) → ⊥
bottom_at zero r le under = top_not_under r under
bottom_at (suc zero) r le under =
    ⊎_elim (λ (e : State (record { 0 = 1 }) ≡ Region r). cc) (λ more. state_not_under r le more)
    (under_cases back_machine (Region (record { 0 = 1 })) (State (record { 0 = 1 })) (Region r) refl under)
bottom_at (suc (suc zero)) r le under =
    ⊎_elim (λ (e : State (record { 0 = 1 }) ≡ Region r). cc) (λ more. state_not_under r le more)
    (under_cases back_machine (Region (record { 0 = 2 })) (State (record { 0 = 1 })) (Region r) refl under)
bottom_at (suc (suc (suc k))) r le under =
    let there : suc (suc (suc k)) < 3 = region_there back_machine back_plain (record { 0 = suc (suc (suc k)) }) (Region r) under in omega (arith, there)

pub back_calm : IsCalm back_machine 1 2
back_calm = record {
  plain = back_plain;
  vertices = λ v x e. all_at IsCalmVertex back_machine.vertices v.0 x vertices_calm e;
  triggered = λ t x e. all_at IsTriggered back_machine.transitions t.0 x transitions_triggered e;
  one_step = one_step;
  bottom = λ t v r l k o. (λ q under. bottom_at q.0 r (step_home t v r l k o).0 under);
  within = λ t v r l k o. (let inner = step_home t v r l k o in (inner.0, omega (arith, inner.1)));
}
