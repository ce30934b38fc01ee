-- What one more entry does to the course of a step, and what a step remembers.
use Rattle.std.proofs.Common.{◌≡◌, ◌⊎◌, ◌++◌, ◌==◌, [], ◌∷◌, Contains, Bool, true, false, if◌then◌else◌, Option, Some, None, refl, sym, ap, subst, ◌∙◌, inl, inr, ⊎_elim, append-nil, eq-eqb}
use Rattle.std.specs.List.{filter_map, cons_option}
use Rattle.std.proofs.lemmas.List.Elements.{filter_map-append, Contains-append_left, Contains-append_right, Contains-push, Contains-append_cases}
use Rattle.pssm_semantics_laws.proofs.Objects.{same_object}
use Rattle.pssm_model.specs.declared.elements.DraftMachine.{DraftMachine}
use Rattle.pssm_model.specs.declared.steps.How.{How}
use Rattle.pssm_model.specs.declared.steps.Item.{Item}
use Rattle.pssm_model.specs.declared.steps.How.TheVariants.{By, Restore}
use Rattle.pssm_model.specs.declared.steps.Item.TheVariants as items
use Rattle.pssm_model.specs.declared.steps.Mode.{Mode}
use Rattle.pssm_model.specs.declared.ids.VertexId.{VertexId}
use Rattle.pssm_model.specs.declared.ids.RegionId.{RegionId}
use Rattle.pssm_model.specs.Legs.{On}
use Rattle.pssm_model.specs.Course.{HasRun, HasRestored, Leg, IsLeg}
use Rattle.pssm_model.proofs.ElementLaws.{nothing_in_nil}
use Rattle.pssm_model.proofs.RouteLaws.{is_one}
use Rattle.pssm_semantics.specs.declared.entry.ObjectId.{ObjectId}
use Rattle.pssm_semantics.specs.declared.entry.Entry.{Entry}
use Rattle.pssm_semantics.specs.Journal.{object_of}
use Rattle.pssm_semantics.specs.Steps.{StepAt, item_of, item_by, course_of}
use Rattle.pssm_semantics_laws.proofs.Appending.{more}

-- the entry runs this item of the object in this way
abbrev pub Runs : ObjectId → Entry → Item × How → Type 0
Runs o e x = item_by o e ≡ Some x

-- what has run stays, and what an entry runs has run
pub ran_kept : (m : DraftMachine) (o : ObjectId) (step : StepAt) (e : Entry) (x : Item × How)
    → Contains (course_of m o step).ran x → Contains (course_of m o (more step e)).ran x
ran_kept m o step e x h =
    subst (λ xs. Contains xs x) (sym (filter_map-append (item_by o) step.after (e ∷ [])))
    (Contains-append_left (filter_map (item_by o) step.after) (filter_map (item_by o) (e ∷ [])) x h)

alone : (o : ObjectId) (e : Entry) (x : Item × How) → Runs o e x → Contains (filter_map (item_by o) (e ∷ [])) x
alone o e x runs = rw runs (Contains-push [] x)

pub ran_now : (m : DraftMachine) (o : ObjectId) (step : StepAt) (e : Entry) (x : Item × How) → Runs o e x → Contains (course_of m o (more step e)).ran x
ran_now m o step e x runs =
    subst (λ xs. Contains xs x) (sym (filter_map-append (item_by o) step.after (e ∷ [])))
    (Contains-append_right (filter_map (item_by o) step.after) (filter_map (item_by o) (e ∷ [])) x (alone o e x runs))

listed_is : (r : Option (Item × How)) (x : Item × How) → Contains (filter_map (λ y. y) (r ∷ [])) x → r ≡ Some x
listed_is (Some y) x h = ap Some (sym (is_one y x h))
listed_is None x h = absurd (nothing_in_nil x h)

pub ran_cases : (m : DraftMachine) (o : ObjectId) (step : StepAt) (e : Entry) (x : Item × How) → Contains (course_of m o (more step e)).ran x
    → Contains (course_of m o step).ran x ⊎ Runs o e x
ran_cases m o step e x h =
    elim (Contains-append_cases (filter_map (item_by o) step.after) (filter_map (item_by o) (e ∷ [])) x
    (subst (λ xs. Contains xs x) (filter_map-append (item_by o) step.after (e ∷ [])) h)) [
      | inl k ↦ inl k
      | inr k ↦ inr (listed_is (item_by o e) x k)
    ]

-- the item that an entry runs is its own, and the entry is one of the object
if_some : {X : Type 0} (test : Bool) (r : Option X) (x : X) → (if test then r else None) ≡ Some x → (test ≡ true) × (r ≡ Some x)
if_some true r x h = (refl, h)
if_some false r x h = absurd (let none : None ≡ Some x = h in cc)

pub runs_is : (o : ObjectId) (e : Entry) (x : Item × How) → Runs o e x → (object_of e ≡ o) × (item_of e ≡ Some x)
runs_is o e x h =
    let both = if_some ((object_of e).0 == o.0) (item_of e) x h in
    (same_object (object_of e) o both.0, both.1)

pub runs_own : (e : Entry) (x : Item × How) → item_of e ≡ Some x → Runs (object_of e) e x
runs_own e x h = rw (eq-eqb (object_of e).0 (object_of e).0 refl) h

-- an item that has run, with one more entry
pub run_kept : (m : DraftMachine) (o : ObjectId) (step : StepAt) (e : Entry) (item : Item)
    → HasRun (course_of m o step) item → HasRun (course_of m o (more step e)) item
run_kept m o step e item (how, h) = (how, ran_kept m o step e (item, how) h)

pub run_now : (m : DraftMachine) (o : ObjectId) (step : StepAt) (e : Entry) (item : Item) (how : How)
    → Runs o e (item, how) → HasRun (course_of m o (more step e)) item
run_now m o step e item how runs = (how, ran_now m o step e (item, how) runs)

pub run_cases : (m : DraftMachine) (o : ObjectId) (step : StepAt) (e : Entry) (item : Item) → HasRun (course_of m o (more step e)) item
    → HasRun (course_of m o step) item ⊎ ((how : How) × Runs o e (item, how))
run_cases m o step e item (how, h) = elim (ran_cases m o step e (item, how) h) [ inl was ↦ inl (how, was) | inr now ↦ inr (how, now) ]

-- the legs of a step, with one more entry
pub leg_kept : (m : DraftMachine) (o : ObjectId) (step : StepAt) (e : Entry) (leg : Leg)
    → IsLeg (course_of m o step) leg → IsLeg (course_of m o (more step e)) leg
leg_kept m o step e leg (goes, on) =
    (⊎_elim (λ fires. inl fires) (λ gone. inr (gone.0, ran_kept m o step e (gone.0, By leg.route) gone.1)) goes, on)

pub leg_cases : (m : DraftMachine) (o : ObjectId) (step : StepAt) (e : Entry) (leg : Leg) → IsLeg (course_of m o (more step e)) leg
    → IsLeg (course_of m o step) leg ⊎ ((item : Item) × Runs o e (item, By leg.route) × On leg.route leg.named_by)
leg_cases m o step e leg (goes, on) = elim goes [
  | inl fires ↦ inl (inl fires, on)
  | inr gone ↦ elim (ran_cases m o step e (gone.0, By leg.route) gone.1) [
    | inl was ↦ inl (inr (gone.0, was), on)
    | inr now ↦ inr (gone.0, now, on)
  ]
]

-- the States that a step restores, with one more entry
pub restored_kept : (m : DraftMachine) (o : ObjectId) (step : StepAt) (e : Entry) (mode : Mode) (s : VertexId)
    → HasRestored (course_of m o step) mode s → HasRestored (course_of m o (more step e)) mode s
restored_kept m o step e mode s (r, h) = (r, ran_kept m o step e (items.Opened r mode, Restore s) h)

pub restored_cases : (m : DraftMachine) (o : ObjectId) (step : StepAt) (e : Entry) (mode : Mode) (s : VertexId)
    → HasRestored (course_of m o (more step e)) mode s
    → HasRestored (course_of m o step) mode s ⊎ ((r : RegionId) × Runs o e (items.Opened r mode, Restore s))
restored_cases m o step e mode s (r, h) = elim (ran_cases m o step e (items.Opened r mode, Restore s) h) [ inl was ↦ inl (r, was) | inr now ↦ inr (r, now) ]

-- an entry runs one item
pub runs_one : (o : ObjectId) (e : Entry) (x y : Item × How) → item_of e ≡ Some x → Runs o e y → y ≡ x
runs_one o e x y is runs = let own = (runs_is o e y runs).1 in let same : Some y ≡ Some x = sym own ∙ is in cc

-- with one more entry the step has run one item more, or the same
pub ran_more : (m : DraftMachine) (o : ObjectId) (step : StepAt) (e : Entry) (x : Item × How) → Runs o e x
    → (course_of m o (more step e)).ran ≡ (course_of m o step).ran ++ x ∷ []
ran_more m o step e x runs = filter_map-append (item_by o) step.after (e ∷ []) ∙ ap (λ r. filter_map (item_by o) step.after ++ cons_option r []) runs

pub ran_same : (m : DraftMachine) (o : ObjectId) (step : StepAt) (e : Entry) → item_by o e ≡ None
    → (course_of m o (more step e)).ran ≡ (course_of m o step).ran
ran_same m o step e none =
    filter_map-append (item_by o) step.after (e ∷ []) ∙ ap (λ r. filter_map (item_by o) step.after ++ cons_option r []) none
    ∙ append-nil (filter_map (item_by o) step.after)
