-- An entry that may come next for an object names places of its machine.
use Rattle.std.proofs.Common.{◌≡◌, ◌<◌, ℕ, List, length, Option, Some, None, All, refl, subst, arith}
use Rattle.std.specs.Option.{option_map_or}
use Rattle.std.proofs.lemmas.Option.{slice_get_within}
use Rattle.pssm_model.specs.declared.ids.TransId.{TransId}
use Rattle.pssm_model.specs.declared.ids.VertexId.{VertexId}
use Rattle.pssm_model.specs.declared.elements.DraftMachine.{DraftMachine}
use Rattle.pssm_model.specs.declared.elements.Transition.{Transition}
use Rattle.pssm_model.specs.declared.elements.Vertex.{Vertex}
use Rattle.pssm_model.specs.declared.steps.Route.{Route}
use Rattle.pssm_model.specs.declared.steps.Event.{Event}
use Rattle.pssm_model.specs.declared.steps.Event.TheVariants.{Signal, Completion}
use Rattle.pssm_model.specs.declared.steps.Firing.{Firing}
use Rattle.pssm_model.specs.declared.steps.Item.{Item}
use Rattle.pssm_model.specs.declared.steps.Item.TheVariants as items
use Rattle.pssm_model.specs.Configuration.{Configuration, IsNextDoStep}
use Rattle.pssm_model.specs.FiringSets.{IsFiring}
use Rattle.pssm_model.specs.Forest.{vertex_at, transition_at}
use Rattle.pssm_model.specs.Legs.{Leaves}
use Rattle.pssm_model.specs.Routes.{Truth}
use Rattle.pssm_model.specs.Shapes.{HasShape}
use Rattle.pssm_model.proofs.ElementLaws.{mapped_some}
use Rattle.pssm_plan.specs.Agenda.{Agenda}
use Rattle.pssm_plan.proofs.RouteItems.{called_is}
use Rattle.pssm_plan.proofs.RouteSteps.{gone_by_routes}
use Rattle.pssm_plan.proofs.StepLengths.{IsThere, called_there}
use Rattle.pssm_semantics.specs.declared.entry.ObjectId.{ObjectId}
use Rattle.pssm_semantics.specs.declared.entry.Entry.{Entry}
use Rattle.pssm_semantics.specs.declared.entry.Entry.TheVariants.{Post, Start, Take, Done, Exit, Effect, Enter, Opened, Pick, DoStep}
use Rattle.pssm_semantics.specs.declared.entry.Rule.TheVariants.{A5, A7, A8, A10, A11}
use Rattle.pssm_semantics.specs.declared.setting.Class.{Class}
use Rattle.pssm_semantics.specs.Completion.{IsQueueHead}
use Rattle.pssm_semantics.specs.Journal.{configuration_after}
use Rattle.pssm_semantics.specs.Known.{IsFiringOf, IsRouteOf, IsVertexOf}
use Rattle.pssm_semantics.specs.Rules.{IsCalledItem}
use Rattle.pssm_semantics.specs.Classes.{IsWellFormedClass}
use Rattle.pssm_pool.specs.declared.pools.Waiting.{Waiting}
use Rattle.pssm_object.specs.Standing.{Standing, IsStepOf, StandsAfter}
use Rattle.pssm_object.specs.Following.{NamesPlaces, KeepsRules, IsCandidate, stimulus_of}
use Rattle.pssm_object.proofs.SomeWays.{way_there}
use Rattle.pssm_object.proofs.Rules.{no_step}
use Rattle.pssm_object.proofs.UnderWay.{called_item_waits}

-- what a transition leaves is a vertex
leaves_there : {m : DraftMachine} → HasShape m → (t : TransId) (v : VertexId) → Leaves m t v → IsVertexOf m v
leaves_there {m = m} shape t v leaves =
    let x = mapped_some (λ (x : Transition). x.source) (transition_at m t) v leaves in
    subst (λ (w : VertexId). w.0 < length m.vertices) x.2 (shape.ends t x.0 x.1).0

-- what has a next do step is one
step_within : (m : DraftMachine) (v : VertexId) (k : ℕ) (found : Option Vertex) → vertex_at m v ≡ found
    → k < option_map_or (λ (x : Vertex). length x.steps) found 0 → IsVertexOf m v
step_within m v k None at lt = absurd (omega arith)
step_within m v k (Some x) at lt = slice_get_within m.vertices v.0 x at

step_there : (m : DraftMachine) (now : Configuration) (v : VertexId) (k : ℕ) → IsNextDoStep m now v k → IsVertexOf m v
step_there m now v k next = step_within m v k (vertex_at m v) refl next.in_range

-- the transitions of what fires are of the machine
firing_there : (m : DraftMachine) (now : Configuration) (truth : Truth) (event : Event) (routes : List Route) → IsFiring m now truth event routes
    → All (IsRouteOf m) routes
firing_there m now truth event routes fires = λ i route lt. (fires.0.sound.enabled i route lt).route_of_states.0.in_range

module _ (class : Class) (b : IsWellFormedClass class) {J : List Entry} {x : Standing} (s : StandsAfter class J x) where
  abbrev m : DraftMachine
  m = class.machine

  -- an item that waits is of the machine
  waits_in : (plan : Option Agenda) → IsStepOf m J x.own plan → (item : Item) → IsCalledItem m J x.own item → IsThere m item
  waits_in None step item called = absurd (no_step J x.own step.posts called.step called.last)
  waits_in (Some p) step item called =
      let u = step.1 in
      called_there s.fits.shape b.rules p.head _ p.ran u.gone item
      (called_is b.rules s.fits.shape _
      (gone_by_routes b.rules s.fits.shape p.head _ p.ran u.gone) item (called_item_waits u item called).called)

  waits_there : (o : ObjectId) (item : Item) → o ≡ x.own → IsCalledItem m J o item → IsThere m item
  waits_there o item own called = waits_in x.plan s.step_is item (subst (λ q. IsCalledItem m J q item) own called)

  -- a completion that waits is that of a vertex of the machine
  head_there : (o : ObjectId) (v : VertexId) → IsQueueHead m J o v → IsVertexOf m v
  head_there o v head = let leaves = head.1.transition in leaves_there s.fits.shape leaves.0 v leaves.1

  take_there : (signal : Option Waiting) (o : ObjectId) (number : ℕ) (firing : Firing) → IsCandidate x.own signal (Take o number firing)
      → KeepsRules class x signal J (Take o number firing) → IsFiringOf m firing
  take_there None o number firing c keeps = absurd c.names
  take_there (Some w) o number firing c keeps =
      firing_there m (configuration_after m J o) _ (Signal w.signal) firing.routes (keeps A7 (stimulus_of x.own w) refl)

  pub names_places : (signal : Option Waiting) (e : Entry) → IsCandidate x.own signal e → KeepsRules class x signal J e → NamesPlaces m e
  names_places signal (Post o g args) c keeps = tt
  names_places signal (Start o) c keeps = tt
  names_places signal (Take o number firing) c keeps = take_there signal o number firing c keeps
  names_places signal (Done o v firing) c keeps =
      (head_there o v (keeps A5), firing_there m (configuration_after m J o) _ (Completion v) firing.routes (keeps A7))
  names_places signal (Exit o v outs) c keeps = waits_there o (items.Exit v) c.own (keeps A8)
  names_places signal (Effect o t outs) c keeps = waits_there o (items.Effect t) c.own (keeps A8)
  names_places signal (Enter o v outs) c keeps = (waits_there o (items.Enter v) c.own (keeps A8)).0
  names_places signal (Opened o r mode how) c keeps =
      (waits_there o (items.Opened r mode) c.own (keeps A8), way_there s.fits.shape b.rules _ r (configuration_after m J o).Remembers mode how (keeps A10))
  names_places signal (Pick o v route) c keeps = ((waits_there o (items.Pick v) c.own (keeps A8)).0, (let way = keeps A10 in way.route_is.in_range))
  names_places signal (DoStep o v k outs) c keeps = step_there m (configuration_after m J o) v k (keeps A11)
