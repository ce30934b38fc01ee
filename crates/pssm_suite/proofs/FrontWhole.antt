-- The finished steps of `a` have all their entries, and each of its takes sends one signal.
use Rattle.std.proofs.Common.{◌≡◌, ◌⊎◌, ◌≤◌, ◌<◌, ◌+◌, ℕ, zero, suc, List, [], ◌∷◌, length, Contains, Some, slice_get, refl, sym, ap, ◌∙◌, inl, inr, ⊎_elim, arith}
use Rattle.std.specs.List.{sum_by}
use Rattle.std.proofs.lemmas.List.FromFn.{length-map-range_with_len}
use Rattle.std.proofs.lemmas.List.Sums.{sum_by-cons}
use Rattle.pssm_model.specs.declared.ids.VertexId.{VertexId}
use Rattle.pssm_model.specs.declared.ids.RegionId.{RegionId}
use Rattle.pssm_model.specs.declared.ids.TransId.{TransId}
use Rattle.pssm_model.specs.declared.elements.Vertex.{Vertex}
use Rattle.pssm_model.specs.declared.elements.Transition.{Transition}
use Rattle.pssm_model.specs.declared.elements.VertexKind.TheVariants as kinds
use Rattle.pssm_model.specs.declared.elements.Owner.TheVariants.{Region, State}
use Rattle.pssm_model.specs.declared.steps.How.{How}
use Rattle.pssm_model.specs.declared.steps.Item.{Item}
use Rattle.pssm_model.specs.declared.steps.Item.TheVariants as items
use Rattle.pssm_model.specs.declared.steps.Firing.{Firing}
use Rattle.pssm_model.specs.Forest.{HasKind, owner_of}
use Rattle.pssm_model.specs.Legs.{Leaves}
use Rattle.pssm_model.specs.Configuration.{Configuration}
use Rattle.pssm_model.specs.Course.Head.{Starts, Fires}
use Rattle.pssm_model.specs.Items.{HasRunOut}
use Rattle.pssm_model.specs.Order.{HasGone, course_by}
use Rattle.pssm_model.proofs.ElementLaws.{some_at, mapped_some, mapped_at, same_vertex, nothing_in_nil}
use Rattle.pssm_semantics.specs.declared.entry.Entry.{Entry}
use Rattle.pssm_semantics.specs.declared.entry.Entry.TheVariants.{Start, Take}
use Rattle.pssm_semantics.specs.Journal.{IsPost, object_of, configuration_after}
use Rattle.pssm_semantics.specs.Steps.{head_of}
use Rattle.pssm_semantics_laws.proofs.Members.{in_cases}
use Rattle.pssm_object.specs.Standing.{HasNotStarted}
use Rattle.pssm_object.specs.Coming.{HasCourse}
use Rattle.pssm_system.proofs.Coming.{has_come}
use Rattle.pssm_suite.specs.GeneratedSetting.{front_machine, front}
use Rattle.pssm_suite.proofs.PlainFront.{round, step, equal_at, made_at, front_plain}
use Rattle.pssm_suite.proofs.PlainMachines.{not_both}
use Rattle.pssm_suite.proofs.LoadedSetting.{generated_well_formed}
use Rattle.pssm_suite.proofs.CalmFront.{front_source, front_calm}
use Rattle.pssm_suite.proofs.FiredSteps.{routes_begun}
use Rattle.pssm_suite.proofs.FullStarts.{IsOpened, opened, top_opened}
use Rattle.pssm_suite.proofs.FullSteps.{IsDone, begun_by, done_before, done_at_start, take_effect, none_later, own_exactly}
use Rattle.pssm_suite.proofs.EntryWeights.{EndsExactly, steps_exactly, weight_of_items, sum_of_none, own_entry, own_head, no_own_head}
use Rattle.pssm_suite.proofs.StepSums.{ran_of_start, ran_of_take, begins_take}
use Rattle.pssm_suite.proofs.GeneratedObjects.{front_object, front_class}
use Rattle.pssm_suite.proofs.GeneratedOuts.{sends_at, sends_of}
use Rattle.pssm_suite.proofs.GeneratedTold.{item_weight}
use Rattle.pssm_suite.proofs.FrontSends.{start_sends, fired_sends, weighs, no_weight}

-- what a list holds weighs no more than all of it
pub weighs_within : {X : Type 0} (v : X → ℕ) (xs : List X) (x : X) → Contains xs x → v x ≤ sum_by v xs
weighs_within v [] x h = absurd (nothing_in_nil x h)
weighs_within v (y ∷ ys) x h =
    let a = sum_by-cons v y ys in
    ⊎_elim
    (λ (same : x ≡ y). (let e = ap v same in omega (arith, a, e)))
    (λ later. (let rest = weighs_within v ys x later in omega (arith, a, rest)))
    (in_cases y ys x h)

module _ (n : ℕ) (some : 1 ≤ n) (few : n ≤ 4000) where
  -- each State is left by the transition of its number
  left_at : (k : ℕ) → HasKind (front_machine n) (record { 0 = k }) kinds.State → (t : TransId) × Leaves (front_machine n) t (record { 0 = k })
  left_at zero kind = absurd (not_both (front_machine n) (front_plain n some few) (record { 0 = 0 }) kind refl)
  left_at (suc k) kind =
      let v = mapped_some (λ (y : Vertex). y.kind) (slice_get (front_machine n).vertices (suc k)) kinds.State kind in
      let lt = (equal_at round n k v.0 v.1).1 in
      let long = length-map-range_with_len (step n) 1 n in
      let x = some_at (front_machine n).transitions (suc k) (omega (arith, lt, long)) in
      let made = (made_at (step n) 1 n k x.0 x.1).0 in
      let number : 1 + k ≡ suc k = omega arith in
      let source : x.0.source ≡ record { 0 = suc k } =
      ap (λ (y : Transition). y.source) made ∙ same_vertex (record { 0 = 1 + k }) (record { 0 = suc k }) number in
      (record { 0 = suc k }, mapped_at (λ (y : Transition). y.source) (slice_get (front_machine n).transitions (suc k)) x.0 x.1 ∙ ap Some source)

  pub front_left : (s : VertexId) (r : RegionId) → HasKind (front n).machine s kinds.State → owner_of (front n).machine (State s) ≡ Some (Region r) → 0 ≤ r.0 → r.0 < 0 + 1
      → (t : TransId) × Leaves (front n).machine t s
  front_left s r kind owner le lt = left_at s.0 kind

  pub front_opens : (now : Configuration) (ran : List (Item × How)) (gone : HasGone (front n).machine Starts now ran) (out : HasRunOut (front n).machine (course_by Starts now ran))
      → (j : ℕ) → j < length (front n).machine.regions → IsOpened (front n).machine (front_calm n some few).plain now ran gone out (record { 0 = j })
  front_opens now ran gone out zero lt =
      opened (front_machine n) (front_calm n some few).plain now ran gone out (record { 0 = 0 }) (record { 0 = 0 }) (refl, refl)
      (top_opened (front_machine n) (front_calm n some few).plain now ran gone out (record { 0 = 0 }) refl)
  front_opens now ran gone out (suc j) lt = absurd (let less : suc j < 1 = lt in omega (arith, less))

  pub front_fit : 0 + 1 ≤ length (front n).machine.regions
  front_fit = (let le : 1 ≤ 1 = omega arith in le)

  abbrev pub FrontDone : List Entry → Type 0
  FrontDone J =
      IsDone (generated_well_formed n some few) front_object (front n) (front_class n) 0 1 (front_calm n some few) front_fit front_left front_opens J

  pub front_exactly : (J : List Entry) → FrontDone J → sum_by (own_entry front_object) J ≡ sum_by (own_head front_object 4 4) J
  front_exactly J done =
      own_exactly (generated_well_formed n some few) front_object (front n) (front_class n) 0 1 (front_calm n some few) front_fit front_left front_opens J done

  -- ---- each take sends once

  abbrev FrontCourse : List Entry → Type 0
  FrontCourse J = HasCourse (front_machine n) J front_object

  -- the transition of a step sends
  transition_sends : (t : TransId) (v : VertexId) → Leaves (front_machine n) t v → HasKind (front_machine n) v kinds.State → sends_at t.0 ≡ 1
  transition_sends t v l state = by t.0 v.0 (front_source n t.0 v l) state
    where
      by : (k j : ℕ) → j ≡ k → HasKind (front_machine n) (record { 0 = j }) kinds.State → sends_at k ≡ 1
      by zero zero e kind = absurd (not_both (front_machine n) (front_plain n some few) (record { 0 = 0 }) kind refl)
      by zero (suc j) e kind = absurd (omega (arith, e))
      by (suc k) j e kind = refl

  module _ (J : List Entry) (done : FrontDone J) (c : FrontCourse J) where
    after_sends : sum_by item_weight c.under_way.step.after ≡ sum_by sends_of c.ran
    after_sends =
        weight_of_items front_object item_weight sends_of c.under_way.step.after c.under_way.last.last (weighs n some few c.under_way.step.after)
        ∙ ap (λ xs. sum_by sends_of xs) (sym c.under_way.ran_is)

    start_same : c.under_way.step.head ≡ Start front_object → item_weight c.under_way.step.head + sum_by item_weight c.under_way.step.after
        ≡ own_head front_object 0 1 c.under_way.step.head + sum_by (own_head front_object 0 1) c.under_way.step.after
    start_same starts =
        let none = start_sends n some few (configuration_after (front_machine n) c.before front_object) c.ran
        (ran_of_start (generated_well_formed n some few) front_object (front n) (front_class n) 0 1 (front_calm n some few) J done.admissible c (ap head_of starts)) in
        let later = none_later (generated_well_formed n some few) front_object (front n) (front_class n) 0 1 (front_calm n some few) front_fit front_left front_opens J done c 0 1 in
        let after = after_sends in
        let weight : item_weight c.under_way.step.head ≡ 0 = ap item_weight starts in
        let most : own_head front_object 0 1 c.under_way.step.head ≡ 0 = ap (own_head front_object 0 1) starts in
        omega (arith, none, later, after, weight, most)

    take_same : (number : ℕ) (firing : Firing) → c.under_way.step.head ≡ Take front_object number firing
        → item_weight c.under_way.step.head + sum_by item_weight c.under_way.step.after
        ≡ own_head front_object 0 1 c.under_way.step.head + sum_by (own_head front_object 0 1) c.under_way.step.after
    take_same number firing is_take =
        let at = configuration_after (front_machine n) c.before front_object in
        let gone = ran_of_take (generated_well_formed n some few) front_object (front n) (front_class n) 0 1 (front_calm n some few) J done.admissible c firing.routes (ap head_of is_take) in
        let well = begins_take (generated_well_formed n some few) front_object (front n) (front_class n) 0 1 (front_calm n some few) J done.admissible c firing.routes (ap head_of is_take) in
        let one = fired_sends n some few at firing.routes well (routes_begun (front_machine n) (Fires firing.routes) at c.ran gone) c.ran gone in
        let effect = take_effect (generated_well_formed n some few) front_object (front n) (front_class n) 0 1 (front_calm n some few) front_fit front_left front_opens
        J done c number firing is_take 0 (omega arith) in
        let sends = transition_sends effect.0 effect.1 effect.2 effect.3 in
        let within = weighs_within sends_of c.ran (items.Effect effect.0, effect.4) effect.5 in
        let later = none_later (generated_well_formed n some few) front_object (front n) (front_class n) 0 1 (front_calm n some few) front_fit front_left front_opens J done c 0 1 in
        let after = after_sends in
        let weight : item_weight c.under_way.step.head ≡ 0 = ap item_weight is_take in
        let most : own_head front_object 0 1 c.under_way.step.head ≡ 1 = ap (own_head front_object 0 1) is_take in
        omega (arith, one, sends, within, later, after, weight, most)

    sends_same : EndsExactly FrontDone item_weight (own_head front_object 0 1) J
    sends_same =
        ⊎_elim
        (λ starts. record {
          before = c.under_way.step.before;
          head = c.under_way.step.head;
          after = c.under_way.step.after;
          splits = c.under_way.last.splits;
          good = done_at_start (generated_well_formed n some few) front_object (front n) (front_class n) 0 1 (front_calm n some few) front_fit front_left front_opens J done c starts;
          same = start_same starts;
        })
        (λ take. record {
          before = c.under_way.step.before;
          head = c.under_way.step.head;
          after = c.under_way.step.after;
          splits = c.under_way.last.splits;
          good = done_before (generated_well_formed n some few) front_object (front n) (front_class n) 0 1 (front_calm n some few) front_fit front_left front_opens J done c take.0 take.1 take.2;
          same = take_same take.0 take.1 take.2;
        })
        (begun_by (generated_well_formed n some few) front_object (front n) (front_class n) 0 1 (front_calm n some few) front_fit front_left front_opens J done c)

  sends_each : (J : List Entry) → FrontDone J → ((sum_by item_weight J ≡ 0) × (sum_by (own_head front_object 0 1) J ≡ 0)) ⊎ EndsExactly FrontDone item_weight (own_head front_object 0 1) J
  sends_each J done =
      ⊎_elim
      (λ (none : HasNotStarted (front_machine n) J front_object). inl (
        sum_of_none (λ f. (object_of f ≡ front_object) → IsPost f) item_weight (no_weight n some few) J none.posts,
        sum_of_none (λ f. (object_of f ≡ front_object) → IsPost f) (own_head front_object 0 1) (no_own_head front_object 0 1) J none.posts,
      ))
      (λ (c : FrontCourse J). inr (sends_same J done c))
      (has_come (generated_well_formed n some few) front_object (front n) (front_class n) J done.admissible)

  pub sends_exactly : (J : List Entry) → FrontDone J → sum_by item_weight J ≡ sum_by (own_head front_object 0 1) J
  sends_exactly = steps_exactly FrontDone item_weight (own_head front_object 0 1) sends_each
