-- The finished steps of `b` have all their entries.
use Rattle.std.proofs.Common.{◌≡◌, ◌≤◌, ◌<◌, ◌+◌, ℕ, zero, suc, List, length, Some, refl, sym, subst, arith}
use Rattle.std.specs.List.{sum_by}
use Rattle.pssm_model.specs.declared.ids.VertexId.{VertexId}
use Rattle.pssm_model.specs.declared.ids.RegionId.{RegionId}
use Rattle.pssm_model.specs.declared.ids.TransId.{TransId}
use Rattle.pssm_model.specs.declared.elements.VertexKind.TheVariants as kinds
use Rattle.pssm_model.specs.declared.elements.Owner.TheVariants.{Region, State}
use Rattle.pssm_model.specs.declared.steps.How.{How}
use Rattle.pssm_model.specs.declared.steps.Item.{Item}
use Rattle.pssm_model.specs.Forest.{HasKind, owner_of}
use Rattle.pssm_model.specs.Legs.{Leaves, Enters}
use Rattle.pssm_model.specs.Configuration.{Configuration}
use Rattle.pssm_model.specs.Course.Head.{Starts}
use Rattle.pssm_model.specs.Items.{HasRunOut}
use Rattle.pssm_model.specs.Order.{HasGone, course_by}
use Rattle.pssm_model.proofs.ElementLaws.{enters_one}
use Rattle.pssm_semantics.specs.declared.entry.Entry.{Entry}
use Rattle.pssm_suite.specs.GeneratedSetting.{back_machine, back}
use Rattle.pssm_suite.proofs.LoadedSetting.{generated_well_formed}
use Rattle.pssm_suite.proofs.CalmBack.{back_calm}
use Rattle.pssm_suite.proofs.FullStarts.{IsOpened, opened, top_opened, inner_opened}
use Rattle.pssm_suite.proofs.FullSteps.{IsDone, own_exactly}
use Rattle.pssm_suite.proofs.EntryWeights.{own_entry, own_head}
use Rattle.pssm_suite.proofs.GeneratedObjects.{back_object, back_class}

-- each State of an inner region is left by a transition
left_at : (k : ℕ) (r : RegionId) → HasKind back_machine (record { 0 = k }) kinds.State → owner_of back_machine (State (record { 0 = k })) ≡ Some (Region r) → 1 ≤ r.0
    → (t : TransId) × Leaves back_machine t (record { 0 = k })
left_at zero r kind owner le = absurd cc
left_at (suc zero) r kind owner le = absurd (let e : 0 ≡ r.0 = cc in omega (arith, e, le))
left_at (suc (suc zero)) r kind owner le = absurd cc
left_at (suc (suc (suc zero))) r kind owner le = (record { 0 = 3 }, refl)
left_at (suc (suc (suc (suc zero)))) r kind owner le = (record { 0 = 5 }, refl)
left_at (suc (suc (suc (suc (suc zero))))) r kind owner le = absurd cc
left_at (suc (suc (suc (suc (suc (suc zero)))))) r kind owner le = (record { 0 = 4 }, refl)
left_at (suc (suc (suc (suc (suc (suc (suc zero))))))) r kind owner le = (record { 0 = 6 }, refl)
left_at (suc (suc (suc (suc (suc (suc (suc (suc k)))))))) r kind owner le = absurd cc

pub back_left : (s : VertexId) (r : RegionId) → HasKind back.machine s kinds.State → owner_of back.machine (State s) ≡ Some (Region r) → 1 ≤ r.0 → r.0 < 1 + 2
    → (t : TransId) × Leaves back.machine t s
back_left s r kind owner le lt = left_at s.0 r kind owner le

-- the start opens the top region, and then those of `S`
abbrev first_vertex : VertexId
first_vertex = record { 0 = 0 }

abbrev first_transition : TransId
first_transition = record { 0 = 0 }

abbrev outer_state : VertexId
outer_state = record { 0 = 1 }

module _ (now : Configuration) (ran : List (Item × How)) (gone : HasGone back_machine Starts now ran) (out : HasRunOut back_machine (course_by Starts now ran)) where
  top : IsOpened back_machine back_calm.plain now ran gone out (record { 0 = 0 })
  top =
      opened back_machine back_calm.plain now ran gone out (record { 0 = 0 }) (record { 0 = 0 }) (refl, refl)
      (top_opened back_machine back_calm.plain now ran gone out (record { 0 = 0 }) refl)

  target_is : top.lone.target ≡ outer_state
  target_is =
      let source : top.lone.source ≡ first_vertex = back_calm.plain.one_initial top.lone.source first_vertex (record { 0 = 0 }) top.initial (refl, refl) in
      let at : top.at ≡ first_transition =
      back_calm.one_step top.at first_transition first_vertex (subst (λ v. Leaves back_machine top.at v) source top.lone.leaves) refl in
      enters_one back_machine first_transition top.lone.target outer_state (subst (λ t. Enters back_machine t top.lone.target) at top.lone.enters) refl

  inner : (k : ℕ) (v : VertexId) → owner_of back_machine (Region (record { 0 = k })) ≡ Some (State (record { 0 = 1 }))
      → HasKind back_machine v kinds.Initial → owner_of back_machine (State v) ≡ Some (Region (record { 0 = k }))
      → IsOpened back_machine back_calm.plain now ran gone out (record { 0 = k })
  inner k v owner kind home =
      opened back_machine back_calm.plain now ran gone out (record { 0 = k }) v (kind, home)
      (inner_opened back_machine back_calm.plain now ran gone out (record { 0 = 0 }) (record { 0 = k }) top
      (subst (λ s. owner_of back_machine (Region (record { 0 = k })) ≡ Some (State s)) (sym target_is) owner))

  each : (j : ℕ) → j < 3 → IsOpened back_machine back_calm.plain now ran gone out (record { 0 = j })
  each zero lt = top
  each (suc zero) lt = inner 1 (record { 0 = 2 }) refl refl refl
  each (suc (suc zero)) lt = inner 2 (record { 0 = 5 }) refl refl refl
  each (suc (suc (suc j))) lt = absurd (omega (arith, lt))

pub back_opens : (now : Configuration) (ran : List (Item × How)) (gone : HasGone back.machine Starts now ran) (out : HasRunOut back.machine (course_by Starts now ran))
    → (j : ℕ) → j < length back.machine.regions → IsOpened back.machine back_calm.plain now ran gone out (record { 0 = j })
back_opens now ran gone out j lt = each now ran gone out j lt

pub back_fit : 1 + 2 ≤ length back.machine.regions
back_fit = (let le : 3 ≤ 3 = omega arith in le)

module _ (n : ℕ) (some : 1 ≤ n) (few : n ≤ 4000) where
  abbrev pub BackDone : List Entry → Type 0
  BackDone J = IsDone (generated_well_formed n some few) back_object back (back_class n) 1 2 back_calm back_fit back_left back_opens J

  pub back_exactly : (J : List Entry) → BackDone J → sum_by (own_entry back_object) J ≡ sum_by (own_head back_object 10 7) J
  back_exactly J done =
      own_exactly (generated_well_formed n some few) back_object back (back_class n) 1 2 back_calm back_fit back_left back_opens J done
