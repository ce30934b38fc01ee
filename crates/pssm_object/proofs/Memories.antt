-- What a step remembers is what the journal does.
use Rattle.std.proofs.Common.{◌≡◌, ◌↔◌, ◌++◌, List, ◌∷◌, Option, Some, None, true, false, refl, sym, ap, subst, ◌∙◌, inl, inr}
use Rattle.std.specs.List.{filter_map}
use Rattle.pssm_model.specs.declared.ids.VertexId.{VertexId}
use Rattle.pssm_model.specs.declared.ids.RegionId.{RegionId}
use Rattle.pssm_model.specs.declared.elements.DraftMachine.{DraftMachine}
use Rattle.pssm_model.specs.declared.steps.How.{How}
use Rattle.pssm_model.specs.declared.steps.How.TheVariants.{By, Restore, Nothing}
use Rattle.pssm_model.specs.declared.steps.Item.{Item}
use Rattle.pssm_model.specs.declared.steps.Item.TheVariants as items
use Rattle.pssm_model.specs.Configuration.{IsDirect}
use Rattle.pssm_model.specs.declared.elements.VertexKind.{VertexKind}
use Rattle.pssm_model.specs.declared.elements.VertexKind.TheVariants as kinds
use Rattle.pssm_model.specs.declared.steps.Mode.TheVariants.{Plain, Shallow, Deep}
use Rattle.pssm_model.specs.Routes.{Truth}
use Rattle.pssm_model.specs.Ways.{Memory, IsRemembered, OpensByHistory, IsWay}
use Rattle.pssm_model.specs.Order.{IsWayNow}
use Rattle.pssm_model.specs.Course.{ExitsFrom, HasExitedLast, RemembersSoFar}
use Rattle.pssm_semantics.specs.declared.entry.ObjectId.{ObjectId}
use Rattle.pssm_semantics.specs.declared.entry.Entry.{Entry}
use Rattle.pssm_semantics.specs.declared.entry.Entry.TheVariants.{Post, Start, Take, Done, Exit, Effect, Enter, Opened, Pick, DoStep}
use Rattle.pssm_semantics.specs.Journal.{object_of, Heads, ExitsAt, IsMemory}
use Rattle.pssm_semantics.specs.Steps.{StepAt, IsLastStep, item_of, item_by, course_of}
use Rattle.pssm_semantics.proofs.Appended.{LastOf}
use Rattle.pssm_object.proofs.Latest.{Reads, All-read, All-of_read, LastOf-read, LastOf-of_read, LastOf-append, LastOf-behind, LastOf-before, LastOf-cons, LastOf-later}
use Rattle.pssm_semantics_laws.proofs.Courses.{runs_is, runs_own}

-- an entry exits a State exactly where it runs the item
exit_item : (e : Entry) (o : ObjectId) (s : VertexId) → ExitsAt e o s → item_by o e ≡ Some (items.Exit s, Nothing)
exit_item (Exit p state outs) o s (own, same) =
    subst (λ q. item_by q (Exit p state outs) ≡ Some (items.Exit s, Nothing)) own
    (runs_own (Exit p state outs) (items.Exit s, Nothing) (ap (λ q. let x : Option (Item × How) = Some (items.Exit q, Nothing) in x) same))
exit_item (Post p signal args) o s h = absurd h
exit_item (Start p) o s h = absurd h
exit_item (Take p number firing) o s h = absurd h
exit_item (Done p state firing) o s h = absurd h
exit_item (Effect p transition outs) o s h = absurd h
exit_item (Enter p state outs) o s h = absurd h
exit_item (Opened p region mode how) o s h = absurd h
exit_item (Pick p choice route) o s h = absurd h
exit_item (DoStep p state step outs) o s h = absurd h

other_item : (y z : Item) (how : How) (x : Item × How) → Some (y, how) ≡ Some x → x.0 ≡ z → y ≡ z
other_item y z how x is same = let run : (y, how) ≡ x = cc in ap (λ w. w.0) run ∙ same

item_exits : (e : Entry) (s : VertexId) (x : Item × How) → item_of e ≡ Some x → x.0 ≡ items.Exit s → ExitsAt e (object_of e) s
item_exits (Exit p state outs) s x is same =
    let item : items.Exit state ≡ items.Exit s = other_item (items.Exit state) (items.Exit s) Nothing x is same in (refl, cc)
item_exits (Effect p transition outs) s x is same =
    let item : items.Effect transition ≡ items.Exit s = other_item (items.Effect transition) (items.Exit s) Nothing x is same in absurd (cc)
item_exits (Enter p state outs) s x is same =
    let item : items.Enter state ≡ items.Exit s = other_item (items.Enter state) (items.Exit s) Nothing x is same in absurd (cc)
item_exits (Opened p region mode how) s x is same =
    let item : items.Opened region mode ≡ items.Exit s = other_item (items.Opened region mode) (items.Exit s) how x is same in absurd (cc)
item_exits (Pick p choice route) s x is same =
    let item : items.Pick choice ≡ items.Exit s = other_item (items.Pick choice) (items.Exit s) (By route) x is same in absurd (cc)
item_exits (Post p signal args) s x is same = absurd (let none : None ≡ Some x = is in cc)
item_exits (Start p) s x is same = absurd (let none : None ≡ Some x = is in cc)
item_exits (Take p number firing) s x is same = absurd (let none : None ≡ Some x = is in cc)
item_exits (Done p state firing) s x is same = absurd (let none : None ≡ Some x = is in cc)
item_exits (DoStep p state step outs) s x is same = absurd (let none : None ≡ Some x = is in cc)

exits_of : (e : Entry) (o : ObjectId) (s : VertexId) (x : Item × How) → item_by o e ≡ Some x → x.0 ≡ items.Exit s → ExitsAt e o s
exits_of e o s x runs same = let is = runs_is o e x runs in subst (λ q. ExitsAt e q s) is.0 (item_exits e s x is.1 same)

module _ (m : DraftMachine) (o : ObjectId) (r : RegionId) (s : VertexId) where
  -- an entry that exits the State, which the region owns, and one that exits nothing that it owns
  abbrev ExitsIt : Entry → Type 0
  ExitsIt e = ExitsAt e o s × IsDirect m s r

  abbrev Spares : Entry → Type 0
  Spares e = (q : VertexId) → IsDirect m q r → ExitsAt e o q → ⊥

  -- the same of the items that they run
  abbrev RunsIt : Item × How → Type 0
  RunsIt x = (x.0 ≡ items.Exit s) × IsDirect m s r

  abbrev RunsNone : Item × How → Type 0
  RunsNone x = ExitsFrom m x.0 r → ⊥

  reads : Reads (item_by o) ExitsIt Spares RunsIt RunsNone
  reads = record {
    is = λ e h. ((items.Exit s, Nothing), exit_item e o s h.0, (refl, h.1));
    of = λ e x runs h. (exits_of e o s x runs h.0, h.1);
    spares = λ e x runs none out. none out.0 out.1 (exits_of e o out.0 x runs out.2);
    spared = λ e none q direct exits. none (items.Exit q, Nothing) (exit_item e o q exits) (q, direct, refl);
  }

  as_last : (ran : List (Item × How)) → LastOf RunsIt RunsNone ran → HasExitedLast m ran r s
  as_last ran (before, after, x, e, (same, direct), none) =
      (before, after, x.1, e ∙ ap (λ (y : Item). before ++ (y, x.1) ∷ after) same, direct, none)

  of_last : (ran : List (Item × How)) → HasExitedLast m ran r s → LastOf RunsIt RunsNone ran
  of_last ran (before, after, how, e, direct, none) = (before, after, (items.Exit s, how), e, (refl, direct), none)

  memory_is : (J : List Entry) → IsMemory m J o r s → LastOf ExitsIt Spares J
  memory_is J (before, after, e, splits, exits, direct, none) = (before, after, e, splits, (exits, direct), none)

  is_memory : (J : List Entry) → LastOf ExitsIt Spares J → IsMemory m J o r s
  is_memory J (before, after, e, splits, (exits, direct), none) = (before, after, e, splits, exits, direct, none)

  -- a head exits nothing
  head_exits : (e : Entry) (q : VertexId) → Heads e o → ExitsAt e o q → ⊥
  head_exits (Exit p state outs) q heads exits = let clash : false ≡ true = heads in cc
  head_exits (Post p signal args) q heads exits = exits
  head_exits (Start p) q heads exits = exits
  head_exits (Take p number firing) q heads exits = exits
  head_exits (Done p state firing) q heads exits = exits
  head_exits (Effect p transition outs) q heads exits = exits
  head_exits (Enter p state outs) q heads exits = exits
  head_exits (Opened p region mode how) q heads exits = exits
  head_exits (Pick p choice route) q heads exits = exits
  head_exits (DoStep p state step outs) q heads exits = exits

  pub memory_remembered : (J : List Entry) (step : StepAt) → IsLastStep J o step → IsMemory m J o r s → RemembersSoFar m (course_of m o step) r s
  memory_remembered J step last memory =
      let there : LastOf ExitsIt Spares (step.before ++ step.head ∷ step.after) = subst (LastOf ExitsIt Spares) last.splits (memory_is J memory) in
      elim (LastOf-append ExitsIt Spares step.before (step.head ∷ step.after) there) [
        | inl later ↦ elim (LastOf-cons ExitsIt Spares step.head step.after later) [
          | inl within ↦ inl (as_last (filter_map (item_by o) step.after) (LastOf-read (item_by o) ExitsIt Spares RunsIt RunsNone reads step.after within))
          | inr (exits, none) ↦ absurd (head_exits step.head s last.heads exits.0)
        ]
        | inr (earlier, none) ↦
            inr (is_memory step.before earlier, All-read (item_by o) ExitsIt Spares RunsIt RunsNone reads step.after none.1)
      ]

  pub remembered_memory : (J : List Entry) (step : StepAt) → IsLastStep J o step → RemembersSoFar m (course_of m o step) r s → IsMemory m J o r s
  remembered_memory J step last remembered =
      is_memory J (subst (LastOf ExitsIt Spares) (sym last.splits) (elim remembered [
        | inl within ↦
            LastOf-behind ExitsIt Spares step.before (step.head ∷ step.after)
            (LastOf-later ExitsIt Spares step.head step.after
            (LastOf-of_read (item_by o) ExitsIt Spares RunsIt RunsNone reads step.after (of_last (filter_map (item_by o) step.after) within)))
        | inr (earlier, none) ↦
            LastOf-before ExitsIt Spares step.before (step.head ∷ step.after) (memory_is step.before earlier)
            ((λ q direct exits. head_exits step.head q last.heads exits), All-of_read (item_by o) ExitsIt Spares RunsIt RunsNone reads step.after none)
      ]))

-- the ways of an item are the same under memories of which the same is remembered
abbrev Agree : DraftMachine → Memory → Memory → Type 0
Agree m a b = (r : RegionId) (s : VertexId) → IsRemembered m a r s ↔ IsRemembered m b r s

opens_same : (m : DraftMachine) (truth : Truth) (a b : Memory) (r : RegionId) (kind : VertexKind) (how : How) → Agree m a b
    → OpensByHistory m truth a r kind how → OpensByHistory m truth b r kind how
opens_same m truth a b r kind (Restore s) same h = (same r s).0 h
opens_same m truth a b r kind (By route) same h = (λ s rem. h.0 s ((same r s).1 rem), h.1)
opens_same m truth a b r kind Nothing same h = (λ s rem. h.0 s ((same r s).1 rem), h.1)

pub way_same : (m : DraftMachine) (truth : Truth) (a b : Memory) (item : Item) (how : How) → Agree m a b → IsWay m truth a item how → IsWay m truth b item how
way_same m truth a b (items.Opened r Plain) how same h = h
way_same m truth a b (items.Opened r Shallow) how same h = opens_same m truth a b r kinds.ShallowHistory how same h
way_same m truth a b (items.Opened r Deep) how same h = opens_same m truth a b r kinds.DeepHistory how same h
way_same m truth a b (items.Pick choice) (By route) same h = h
way_same m truth a b (items.Pick choice) (Restore s) same h = h
way_same m truth a b (items.Pick choice) Nothing same h = h
way_same m truth a b (items.Exit s) how same h = h
way_same m truth a b (items.Effect t) how same h = h
way_same m truth a b (items.Enter s) how same h = h

-- so the ways that the step shows are those that the journal shows
module _ (m : DraftMachine) (o : ObjectId) (J : List Entry) (step : StepAt) (last : IsLastStep J o step) where
  remembered_is : Agree m (IsMemory m J o) (RemembersSoFar m (course_of m o step))
  remembered_is r s = (
    λ h. (memory_remembered m o r s J step last h.0, h.1),
    λ h. (remembered_memory m o r s J step last h.0, h.1),
  )

  pub way_now : (truth : Truth) (item : Item) (how : How) → IsWayNow m truth (course_of m o step) item how ↔ IsWay m truth (IsMemory m J o) item how
  way_now truth item how = (
    way_same m truth (RemembersSoFar m (course_of m o step)) (IsMemory m J o) item how (λ r s. ((remembered_is r s).1, (remembered_is r s).0)),
    way_same m truth (IsMemory m J o) (RemembersSoFar m (course_of m o step)) item how remembered_is,
  )
