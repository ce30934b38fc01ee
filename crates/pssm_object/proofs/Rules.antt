-- What each rule asks of an object of a well-formed class.
use Rattle.std.proofs.Common.{◌≡◌, List, ◌∷◌, Contains, sym, subst, inl}
use Rattle.std.specs.List.{AllByRecursion}
use Rattle.std.proofs.lemmas.List.Elements.{All-contains, All-from_recursion, Contains-append_right}
use Rattle.pssm_model.specs.declared.elements.DraftMachine.{DraftMachine}
use Rattle.pssm_model.specs.declared.steps.Mode.TheVariants.{Plain, Shallow, Deep}
use Rattle.pssm_model.specs.declared.steps.How.{How}
use Rattle.pssm_model.specs.declared.steps.Item.{Item}
use Rattle.pssm_model.specs.declared.steps.Item.TheVariants as items
use Rattle.pssm_model.specs.Configuration.{Configuration}
use Rattle.pssm_model.specs.Course.{Head}
use Rattle.pssm_model.specs.Items.{Called}
use Rattle.pssm_model.specs.Order.{HasGone, course_by}
use Rattle.pssm_model.specs.Shapes.{HasShape}
use Rattle.pssm_model.specs.WellFormed.{KeepsModelRules}
use Rattle.pssm_plan.proofs.RouteSteps.{gone_by_routes}
use Rattle.pssm_plan.proofs.RouteItems.{called_is}
use Rattle.pssm_plan.proofs.StepLengths.{called_there, IsThere}
use Rattle.pssm_semantics.specs.declared.entry.ObjectId.{ObjectId}
use Rattle.pssm_semantics.specs.declared.entry.Entry.{Entry}
use Rattle.pssm_semantics.specs.declared.entry.Entry.TheVariants.{Post, Start, Take, Done, Exit, Effect, Enter, Opened, Pick, DoStep}
use Rattle.pssm_semantics.specs.Journal.{Heads, IsPost, IsStart, object_of}
use Rattle.pssm_semantics.specs.Steps.{StepAt, IsLastStep}
use Rattle.pssm_semantics.specs.Completion.{IsStepFinished}
use Rattle.pssm_semantics.specs.Rules.{KeepsStart}
use Rattle.pssm_semantics_laws.proofs.Members.{first_in}
use Rattle.pssm_semantics_laws.proofs.Stores.{head_own}
use Rattle.pssm_object.specs.Standing.{IsUnderWay}
use Rattle.pssm_object.specs.inner.Choosing.{IsItemThere}

-- a fact about each element is one about an element that is there
pub each_of : {X : Type 0} (P : X → Type 0) (xs : List X) (x : X) → AllByRecursion P xs → Contains xs x → P x
each_of P xs x all is = All-contains P xs x (All-from_recursion P xs all) is

-- the start of an object is no post
pub start_is_no_post : (e : Entry) (o : ObjectId) → IsStart e o → (object_of e ≡ o) × (IsPost e → ⊥)
start_is_no_post (Start p) o h = (h, λ post. post)
start_is_no_post (Post p signal args) o h = absurd h
start_is_no_post (Take p number firing) o h = absurd h
start_is_no_post (Done p state firing) o h = absurd h
start_is_no_post (Exit p state outs) o h = absurd h
start_is_no_post (Effect p transition outs) o h = absurd h
start_is_no_post (Enter p state outs) o h = absurd h
start_is_no_post (Opened p region mode how) o h = absurd h
start_is_no_post (Pick p choice route) o h = absurd h
start_is_no_post (DoStep p state step outs) o h = absurd h

-- no post begins a step
post_is_no_head : (e : Entry) (o : ObjectId) → IsPost e → Heads e o → ⊥
post_is_no_head (Post p g args) o post h = cc
post_is_no_head (Start p) o post h = post
post_is_no_head (Take p number firing) o post h = post
post_is_no_head (Done p v firing) o post h = post
post_is_no_head (Exit p v outs) o post h = post
post_is_no_head (Effect p t outs) o post h = post
post_is_no_head (Enter p v outs) o post h = post
post_is_no_head (Opened p r mode how) o post h = post
post_is_no_head (Pick p v route) o post h = post
post_is_no_head (DoStep p v k outs) o post h = post

-- where the object's entries are posts alone it has not started, and no step is open
module _ (J : List Entry) (o : ObjectId) (posts : AllByRecursion (λ f. (object_of f ≡ o) → IsPost f) J) where
  pub not_started : (f : Entry) → Contains J f → IsStart f o → ⊥
  not_started f is start =
      let own = start_is_no_post f o start in own.1 (each_of (λ g. (object_of g ≡ o) → IsPost g) J f posts is own.0)

  pub no_step : (step : StepAt) → IsLastStep J o step → ⊥
  no_step step last =
      let there : Contains J step.head =
      subst (λ js. Contains js step.head) (sym last.splits)
      (Contains-append_right step.before (step.head ∷ step.after) step.head (first_in step.head step.after)) in
      post_is_no_head step.head o (each_of (λ g. (object_of g ≡ o) → IsPost g) J step.head posts there (head_own o step.head last.heads)) last.heads

  pub unstarted_finished : (m : DraftMachine) → IsStepFinished m J o
  unstarted_finished m = inl (λ step last item called. absurd (no_step step last))

-- the start comes once
module _ {m : DraftMachine} {J : List Entry} {o : ObjectId} {head : Head} {at_head : Configuration} {ran : List (Item × How)}
    (u : IsUnderWay m J o head at_head ran) where
  pub starts_once : KeepsStart J (Start o) → ⊥
  starts_once kept =
      let start = start_is_no_post u.start o u.started.1 in
      start.1 (each_of (λ f. (object_of f ≡ o) → IsPost f) J u.start kept u.started.0 start.0)

  pub has_started : (f : Entry) × Contains J f × IsStart f o
  has_started = (u.start, u.started.0, u.started.1)

module _ {m : DraftMachine} (shape : HasShape m) (rules : KeepsModelRules m) where
  -- what such a machine calls is of it, and its picks are from choices
  pub called_item_there : (head : Head) (now : Configuration) (ran : List (Item × How)) → HasGone m head now ran → (item : Item)
      → Called m (course_by head now ran) item → IsItemThere m item
  called_item_there head now ran gone item called =
      there item (called_there shape rules head now ran gone item
      (called_is rules shape (course_by head now ran) (gone_by_routes rules shape head now ran gone) item called))
    where
      there : (x : Item) → IsThere m x → IsItemThere m x
      there (items.Exit s) h = tt
      there (items.Effect t) h = tt
      there (items.Enter s) h = tt
      there (items.Opened r Plain) h = h
      there (items.Opened r Shallow) h = h
      there (items.Opened r Deep) h = h
      there (items.Pick c) h = h.1
