-- The machine of `Back` is plain.
use Rattle.std.proofs.Common.{◌≡◌, ◌<◌, ℕ, zero, suc, List, [], Option, Some, refl, sym, ap, ◌∙◌, inl, inr, arith}
use Rattle.std.specs.List.{AllByRecursion}
use Rattle.std.specs.Option.{option_map_or}
use Rattle.pssm_model.specs.declared.ids.VertexId.{VertexId}
use Rattle.pssm_model.specs.declared.ids.RegionId.{RegionId}
use Rattle.pssm_model.specs.declared.ids.TransId.{TransId}
use Rattle.pssm_model.specs.declared.elements.VertexKind.TheVariants as kinds
use Rattle.pssm_model.specs.declared.elements.Owner.TheVariants.{Top, Region, State}
use Rattle.pssm_model.specs.Forest.{HasKind, owner_of}
use Rattle.pssm_model.specs.Forest.HasRegionsAbove.{machine, region, state}
use Rattle.pssm_model.specs.Legs.{Leaves}
use Rattle.pssm_model.proofs.ElementLaws.{same_vertex, same_transition, same_region, all_at}
use Rattle.pssm_suite.specs.GeneratedSetting.{vertex, transition, on_go, back_machine}
use Rattle.pssm_suite.proofs.PlainMachines.{IsPlain, IsPlainVertex, IsPlainTransition, IsPlainRegion}

-- the vertices, one after the other
initial_in : (r : ℕ) → r < 3 → IsPlainVertex back_machine (vertex r kinds.Initial [])
initial_in r lt = record { kind_is = inl refl; home = record { 0 = r }; owner_is = refl; there = lt }

state_in : (r : ℕ) (label : List ℕ) → r < 3 → IsPlainVertex back_machine (vertex r kinds.State label)
state_in r label lt = record { kind_is = inr refl; home = record { 0 = r }; owner_is = refl; there = lt }

vertices_are : AllByRecursion (IsPlainVertex back_machine) back_machine.vertices
vertices_are = (
  initial_in 0 (omega arith),
  (
    state_in 0 _ (omega arith),
    (
      initial_in 1 (omega arith),
      (
        state_in 1 _ (omega arith),
        (
          state_in 1 _ (omega arith),
          (initial_in 2 (omega arith), (state_in 2 _ (omega arith), (state_in 2 _ (omega arith), tt))),
        ),
      ),
    ),
  ),
)

-- the transitions, one after the other
first_in : (source target r : ℕ) → owner_of back_machine (State (record { 0 = source })) ≡ Some (Region (record { 0 = r }))
    → owner_of back_machine (State (record { 0 = target })) ≡ Some (Region (record { 0 = r })) → HasKind back_machine (record { 0 = target }) kinds.State
    → IsPlainTransition back_machine (transition source target [] 0)
first_in source target r o p k = record { external = refl; unguarded = refl; target_kind = k; home = record { 0 = r }; source_home = o; target_home = p; untriggered = λ i. refl }

step_in : (source target r : ℕ) → owner_of back_machine (State (record { 0 = source })) ≡ Some (Region (record { 0 = r }))
    → owner_of back_machine (State (record { 0 = target })) ≡ Some (Region (record { 0 = r })) → HasKind back_machine (record { 0 = source }) kinds.State
    → HasKind back_machine (record { 0 = target }) kinds.State → IsPlainTransition back_machine (transition source target on_go 0)
step_in source target r o p j k = record {
  external = refl;
  unguarded = refl;
  target_kind = k;
  home = record { 0 = r };
  source_home = o;
  target_home = p;
  untriggered = λ i. absurd (let e : Some kinds.State ≡ Some kinds.Initial = sym j ∙ i in cc);
}

transitions_are : AllByRecursion (IsPlainTransition back_machine) back_machine.transitions
transitions_are = (
  first_in 0 1 0 refl refl refl,
  (
    first_in 2 3 1 refl refl refl,
    (
      first_in 5 6 2 refl refl refl,
      (step_in 3 4 1 refl refl refl refl, (step_in 6 7 2 refl refl refl refl, (step_in 4 3 1 refl refl refl refl, (step_in 7 6 2 refl refl refl refl, tt)))),
    ),
  ),
)

-- the regions
region_is : (n : ℕ) → n < 3 → IsPlainRegion back_machine (record { 0 = n })
region_is zero lt = record { owner = Top; owner_is = refl; may = tt; depth = 0; few = omega arith; above = machine refl }
region_is (suc zero) lt = record { owner = State (record { 0 = 1 }); owner_is = refl; may = refl; depth = 1; few = omega arith; above = state refl (region refl (machine refl)) }
region_is (suc (suc zero)) lt = record { owner = State (record { 0 = 1 }); owner_is = refl; may = refl; depth = 1; few = omega arith; above = state refl (region refl (machine refl)) }
region_is (suc (suc (suc n))) lt = absurd (omega arith)

-- the initial vertex of each region
abbrev initial_of : ℕ → ℕ
initial_of zero = 0
initial_of (suc zero) = 2
initial_of (suc (suc n)) = 5

initial_is : (k : ℕ) (r : RegionId) → HasKind back_machine (record { 0 = k }) kinds.Initial → owner_of back_machine (State (record { 0 = k })) ≡ Some (Region r) → k ≡ initial_of r.0
initial_is zero r h o = let e : 0 ≡ r.0 = cc in rw (← e) refl
initial_is (suc zero) r h o = absurd cc
initial_is (suc (suc zero)) r h o = let e : 1 ≡ r.0 = cc in rw (← e) refl
initial_is (suc (suc (suc zero))) r h o = absurd cc
initial_is (suc (suc (suc (suc zero)))) r h o = absurd cc
initial_is (suc (suc (suc (suc (suc zero))))) r h o = let e : 2 ≡ r.0 = cc in rw (← e) refl
initial_is (suc (suc (suc (suc (suc (suc zero)))))) r h o = absurd cc
initial_is (suc (suc (suc (suc (suc (suc (suc zero))))))) r h o = absurd cc
initial_is (suc (suc (suc (suc (suc (suc (suc (suc k)))))))) r h o = absurd cc

-- the transition out of each initial vertex
one_source : (a b : ℕ) → (let v : VertexId = record { 0 = a } in Some v) ≡ (let w : VertexId = record { 0 = b } in Some w) → a ≡ b
one_source a b e = ap (λ (o : Option VertexId). option_map_or (λ (v : VertexId). v.0) o 0) e

out_of_top : (k : ℕ) → Leaves back_machine (record { 0 = k }) (record { 0 = 0 }) → k ≡ 0
out_of_top zero l = refl
out_of_top (suc zero) l = absurd (omega (arith, one_source 2 0 l))
out_of_top (suc (suc zero)) l = absurd (omega (arith, one_source 5 0 l))
out_of_top (suc (suc (suc zero))) l = absurd (omega (arith, one_source 3 0 l))
out_of_top (suc (suc (suc (suc zero)))) l = absurd (omega (arith, one_source 6 0 l))
out_of_top (suc (suc (suc (suc (suc zero))))) l = absurd (omega (arith, one_source 4 0 l))
out_of_top (suc (suc (suc (suc (suc (suc zero)))))) l = absurd (omega (arith, one_source 7 0 l))
out_of_top (suc (suc (suc (suc (suc (suc (suc k))))))) l = absurd cc

out_of_first : (k : ℕ) → Leaves back_machine (record { 0 = k }) (record { 0 = 2 }) → k ≡ 1
out_of_first zero l = absurd (omega (arith, one_source 0 2 l))
out_of_first (suc zero) l = refl
out_of_first (suc (suc zero)) l = absurd (omega (arith, one_source 5 2 l))
out_of_first (suc (suc (suc zero))) l = absurd (omega (arith, one_source 3 2 l))
out_of_first (suc (suc (suc (suc zero)))) l = absurd (omega (arith, one_source 6 2 l))
out_of_first (suc (suc (suc (suc (suc zero))))) l = absurd (omega (arith, one_source 4 2 l))
out_of_first (suc (suc (suc (suc (suc (suc zero)))))) l = absurd (omega (arith, one_source 7 2 l))
out_of_first (suc (suc (suc (suc (suc (suc (suc k))))))) l = absurd cc

out_of_second : (k : ℕ) → Leaves back_machine (record { 0 = k }) (record { 0 = 5 }) → k ≡ 2
out_of_second zero l = absurd (omega (arith, one_source 0 5 l))
out_of_second (suc zero) l = absurd (omega (arith, one_source 2 5 l))
out_of_second (suc (suc zero)) l = refl
out_of_second (suc (suc (suc zero))) l = absurd (omega (arith, one_source 3 5 l))
out_of_second (suc (suc (suc (suc zero)))) l = absurd (omega (arith, one_source 6 5 l))
out_of_second (suc (suc (suc (suc (suc zero))))) l = absurd (omega (arith, one_source 4 5 l))
out_of_second (suc (suc (suc (suc (suc (suc zero)))))) l = absurd (omega (arith, one_source 7 5 l))
out_of_second (suc (suc (suc (suc (suc (suc (suc k))))))) l = absurd cc

one_out : (k : ℕ) → HasKind back_machine (record { 0 = k }) kinds.Initial
    → (t : TransId) × Leaves back_machine t (record { 0 = k }) × ((u : TransId) → Leaves back_machine u (record { 0 = k }) → u ≡ t)
one_out zero h = (record { 0 = 0 }, refl, λ u l. same_transition u (record { 0 = 0 }) (out_of_top u.0 l))
one_out (suc zero) h = absurd cc
one_out (suc (suc zero)) h = (record { 0 = 1 }, refl, λ u l. same_transition u (record { 0 = 1 }) (out_of_first u.0 l))
one_out (suc (suc (suc zero))) h = absurd cc
one_out (suc (suc (suc (suc zero)))) h = absurd cc
one_out (suc (suc (suc (suc (suc zero))))) h = (record { 0 = 2 }, refl, λ u l. same_transition u (record { 0 = 2 }) (out_of_second u.0 l))
one_out (suc (suc (suc (suc (suc (suc zero)))))) h = absurd cc
one_out (suc (suc (suc (suc (suc (suc (suc zero))))))) h = absurd cc
one_out (suc (suc (suc (suc (suc (suc (suc (suc k)))))))) h = absurd cc

top_is : (n : ℕ) → owner_of back_machine (Region (record { 0 = n })) ≡ Some Top → n ≡ 0
top_is zero o = refl
top_is (suc zero) o = absurd cc
top_is (suc (suc zero)) o = absurd cc
top_is (suc (suc (suc n))) o = absurd cc

pub back_plain : IsPlain back_machine
back_plain = record {
  vertices = λ v x e. all_at (IsPlainVertex back_machine) back_machine.vertices v.0 x vertices_are e;
  transitions = λ t x e. all_at (IsPlainTransition back_machine) back_machine.transitions t.0 x transitions_are e;
  regions = λ r lt. region_is r.0 lt;
  limits = record { regions = omega arith; vertices = omega arith; transitions = omega arith };
  top = (record { 0 = 0 }, refl);
  tops = λ r o. (record { 0 = 0 }, (refl, let first : RegionId = record { 0 = 0 } in ap (λ (q : RegionId). Some (Region q)) (sym (same_region r first (top_is r.0 o)))));
  one_initial = λ v w r h g. same_vertex v w (initial_is v.0 r h.0 h.1 ∙ sym (initial_is w.0 r g.0 g.1));
  one_out = λ v h. one_out v.0 h;
}
