-- The entry that runs a ready item with what its behaviour makes keeps every rule, so a step can be run to its end.
use Rattle.std.proofs.Common.{◌≡◌, ◌⊎◌, ◌+◌, ℕ, List, [], Contains, Some, None, IfSome, refl, sym, subst}
use Rattle.pssm_model.specs.declared.ids.VertexId.{VertexId}
use Rattle.pssm_model.specs.declared.ids.RegionId.{RegionId}
use Rattle.pssm_model.specs.declared.ids.TransId.{TransId}
use Rattle.pssm_model.specs.declared.elements.DraftMachine.{DraftMachine}
use Rattle.pssm_model.specs.declared.steps.Route.{Route}
use Rattle.pssm_model.specs.declared.steps.Mode.{Mode}
use Rattle.pssm_model.specs.declared.steps.How.{How}
use Rattle.pssm_model.specs.declared.steps.How.TheVariants.{By, Nothing}
use Rattle.pssm_model.specs.declared.steps.Item.{Item}
use Rattle.pssm_model.specs.declared.steps.Item.TheVariants as items
use Rattle.pssm_model.specs.Shapes.{HasShape}
use Rattle.pssm_model.specs.Configuration.{Configuration}
use Rattle.pssm_model.specs.Course.{Head}
use Rattle.pssm_model.specs.Items.{HasRunOut}
use Rattle.pssm_model.specs.Order.{course_by, IsReady, IsWayNow}
use Rattle.pssm_model.specs.Routes.{Truth}
use Rattle.pssm_model.specs.FiringSets.{IsLateRoute}
use Rattle.pssm_model.specs.Ways.{CanOpen}
use Rattle.pssm_plan.proofs.StepLengths.{IsThere, called_there}
use Rattle.pssm_plan.proofs.RouteSteps.{gone_by_routes}
use Rattle.pssm_plan.proofs.RouteItems.{called_is}
use Rattle.pssm_plan.proofs.ReadyOrOut.{ready_or_out}
use Rattle.pssm_semantics.specs.declared.entry.ObjectId.{ObjectId}
use Rattle.pssm_semantics.specs.declared.entry.Out.{Out}
use Rattle.pssm_semantics.specs.declared.entry.Entry.{Entry}
use Rattle.pssm_semantics.specs.declared.entry.Entry.TheVariants.{Exit, Effect, Enter, Opened, Pick}
use Rattle.pssm_semantics.specs.declared.entry.Rule.{Rule}
use Rattle.pssm_semantics.specs.declared.entry.Rule.TheVariants.{A2, A3, A4, A5, A6, A7, A8, A9, A10, A11, A12}
use Rattle.pssm_semantics.specs.declared.setting.Class.{Class}
use Rattle.pssm_semantics.specs.Journal.{Heads, IsStart, IsMemory, object_of}
use Rattle.pssm_semantics.specs.Completion.{HasEnded}
use Rattle.pssm_semantics.specs.Steps.{item_of}
use Rattle.pssm_semantics.specs.Pool.{told_by}
use Rattle.pssm_semantics.specs.Behaviours.{store_of, outcome_at, guards_at}
use Rattle.pssm_semantics.specs.Rules.{KeepsOwn, IsCalledItem, IsClearedItem}
use Rattle.pssm_semantics.specs.Verdict.{number_of}
use Rattle.pssm_semantics.specs.Classes.{IsWellFormedClass}
use Rattle.pssm_object.specs.Standing.{IsUnderWay}
use Rattle.pssm_object.specs.Laws.{GoesOn}
use Rattle.pssm_object.specs.inner.Choosing.{IsItemThere}
use Rattle.pssm_object.proofs.SomeWays.{some_opening_way, way_there}
use Rattle.pssm_object.proofs.Kept.{IsKeptBelow, kept_more, kept_first, follows}
use Rattle.pssm_object.proofs.LateRoutes.{from_choice}
use Rattle.pssm_object.proofs.Rules.{has_started, called_item_there}
use Rattle.pssm_object.proofs.UnderWay.{called_item, cleared_item}
use Rattle.pssm_object.proofs.Remembering.{known_memory, way_in_step}

module _ (class : Class) (b : IsWellFormedClass class) {J : List Entry} {o : ObjectId} {head : Head} {at_head : Configuration} {ran : List (Item × How)}
    (u : IsUnderWay class.machine J o head at_head ran) where
  abbrev m : DraftMachine
  m = class.machine

  shape : HasShape m
  shape = b.proper.machine.shape

  abbrev Holds : Rule → List Entry → Entry → Type 0
  Holds = KeepsOwn class (told_by J) None

  more : (e : Entry) (rule : Rule) (n : ℕ) → number_of rule ≡ n → Holds rule J e → IsKeptBelow Holds J e n → IsKeptBelow Holds J e (n + 1)
  more e rule n is h = kept_more Holds J e rule n is h

  ready_there : (y : Item) → IsReady m (course_by head at_head ran) y → IsThere m y
  ready_there y ready =
      called_there shape b.rules head at_head ran u.gone y
      (called_is b.rules shape (course_by head at_head ran)
      (gone_by_routes b.rules shape head at_head ran u.gone) y ready.waiting.called)

  ready_item_there : (y : Item) → IsReady m (course_by head at_head ran) y → IsItemThere m y
  ready_item_there y ready = called_item_there shape b.rules head at_head ran u.gone y ready.waiting.called

  -- the rules that are not about the way or the outputs
  work_keeps : (e : Entry) (y : Item) (how : How) → object_of e ≡ o → item_of e ≡ Some (y, how) → Holds A2 J e
      → ((f : Entry) × Contains J f × IsStart f o → Holds A3 J e) → Holds A4 J e → Holds A5 J e → Holds A7 J e → Holds A10 J e → Holds A11 J e
      → Holds A12 J e → IsReady m (course_by head at_head ran) y → (rule : Rule) → Holds rule J e
  work_keeps e y how own runs ends starts step queue firing way steps outs ready =
      follows Holds J e
      (more e A12 12 refl outs (more e A11 11 refl steps (more e A10 10 refl way
      (more e A9 9 refl
      (subst (λ r. IfSome r (λ z. IsClearedItem m J (object_of e) z.0)) (sym runs)
      (subst (λ q. IsClearedItem m J q y) (sym own) (cleared_item u y ready.cleared)))
      (more e A8 8 refl
      (subst (λ r. IfSome r (λ z. IsCalledItem m J (object_of e) z.0)) (sym runs)
      (subst (λ q. IsCalledItem m J q y) (sym own) (called_item u y ready.waiting)))
      (more e A7 7 refl firing (more e A6 6 refl tt (more e A5 5 refl queue (more e A4 4 refl step
      (more e A3 3 refl (starts (has_started u)) (more e A2 2 refl ends (kept_first Holds J e tt))))))))))))

  -- an entry that runs a ready item, and what is so of it
  pub record RunsNext (y : Item) (e : Entry) : Type 0 where
    pub how : How
    pub runs : item_of e ≡ Some (y, how)
    pub no_head : Heads e o → ⊥
    pub truth : Truth
    pub way : IsWayNow m truth (course_by head at_head ran) y how
    pub goes_on : GoesOn class J o e

  -- the guards after the journal
  abbrev guards : Truth
  guards = guards_at class (told_by J) J o

  -- what the behaviour of an entry makes
  abbrev made : Entry → List Out
  made e = (outcome_at class (told_by J) J e (store_of class (told_by J) J o)).outs

  exit_next : (HasEnded m J o → ⊥) → (v : VertexId) → IsReady m (course_by head at_head ran) (items.Exit v) → RunsNext (items.Exit v) (Exit o v (made (Exit o v [])))
  exit_next living v ready = record {
    how = Nothing;
    runs = refl;
    no_head = λ heads. cc;
    truth = guards;
    way = refl;
    goes_on = record {
      own = refl;
      works = tt;
      places = ready_there (items.Exit v) ready;
      keeps = work_keeps (Exit o v (made (Exit o v []))) (items.Exit v) Nothing refl refl living (λ f. f) tt tt tt refl tt refl ready;
    };
  }

  effect_next : (HasEnded m J o → ⊥) → (t : TransId) → IsReady m (course_by head at_head ran) (items.Effect t) → RunsNext (items.Effect t) (Effect o t (made (Effect o t [])))
  effect_next living t ready = record {
    how = Nothing;
    runs = refl;
    no_head = λ heads. cc;
    truth = guards;
    way = refl;
    goes_on = record {
      own = refl;
      works = tt;
      places = ready_there (items.Effect t) ready;
      keeps = work_keeps (Effect o t (made (Effect o t []))) (items.Effect t) Nothing refl refl living (λ f. f) tt tt tt refl tt refl ready;
    };
  }

  enter_next : (HasEnded m J o → ⊥) → (v : VertexId) → IsReady m (course_by head at_head ran) (items.Enter v) → RunsNext (items.Enter v) (Enter o v (made (Enter o v [])))
  enter_next living v ready = record {
    how = Nothing;
    runs = refl;
    no_head = λ heads. cc;
    truth = guards;
    way = refl;
    goes_on = record {
      own = refl;
      works = tt;
      places = (ready_there (items.Enter v) ready).0;
      keeps = work_keeps (Enter o v (made (Enter o v []))) (items.Enter v) Nothing refl refl living (λ f. f) tt tt tt refl tt refl ready;
    };
  }

  opens_next : (HasEnded m J o → ⊥) → (r : RegionId) (mode : Mode) (how : How) → CanOpen m guards (IsMemory m J o) r mode how
      → IsReady m (course_by head at_head ran) (items.Opened r mode) → RunsNext (items.Opened r mode) (Opened o r mode how)
  opens_next living r mode how opens ready = record {
    how = how;
    runs = refl;
    no_head = λ heads. cc;
    truth = guards;
    way = way_in_step u guards (items.Opened r mode) how opens;
    goes_on = record {
      own = refl;
      works = tt;
      places = (ready_item_there (items.Opened r mode) ready, way_there shape b.rules guards r (IsMemory m J o) mode how opens);
      keeps = work_keeps (Opened o r mode how) (items.Opened r mode) how refl refl living (λ f. f) tt tt tt opens tt refl ready;
    };
  }

  picks_next : (HasEnded m J o → ⊥) → (c : VertexId) (route : Route) → IsLateRoute m guards c route
      → IsReady m (course_by head at_head ran) (items.Pick c) → RunsNext (items.Pick c) (Pick o c route)
  picks_next living c route late ready = record {
    how = By route;
    runs = refl;
    no_head = λ heads. cc;
    truth = guards;
    way = late;
    goes_on = record {
      own = refl;
      works = tt;
      places = ((ready_there (items.Pick c) ready).0, late.route_is.in_range);
      keeps = work_keeps (Pick o c route) (items.Pick c) (By route) refl refl living (λ f. f) tt tt tt late tt refl ready;
    };
  }

  -- there is one for each ready item
  pub runs_ready : (HasEnded m J o → ⊥) → (y : Item) → IsReady m (course_by head at_head ran) y → (e : Entry) × RunsNext y e
  runs_ready living (items.Exit v) ready = (Exit o v (made (Exit o v [])), exit_next living v ready)
  runs_ready living (items.Effect t) ready = (Effect o t (made (Effect o t [])), effect_next living t ready)
  runs_ready living (items.Enter v) ready = (Enter o v (made (Enter o v [])), enter_next living v ready)
  runs_ready living (items.Opened r mode) ready =
      let way = some_opening_way shape b.rules guards r (IsMemory m J o) mode (λ v. known_memory u r v) in
      (Opened o r mode way.0, opens_next living r mode way.0 way.1 ready)
  runs_ready living (items.Pick c) ready =
      let route = from_choice shape b.rules guards c (ready_item_there (items.Pick c) ready) in (Pick o c route.0, picks_next living c route.0 route.1 ready)

  -- everything has run, or something is ready
  pub out_or_ready : HasRunOut m (course_by head at_head ran) ⊎ ((y : Item) × IsReady m (course_by head at_head ran) y)
  out_or_ready = ready_or_out shape b.rules head at_head u.begins ran u.gone u.known
