-- A step that has begun well has run out, or has a ready item, where the configuration at its head is known.
use Rattle.std.proofs.Common.{List, ◌≡◌, ◌⊎◌, ◌<◌, ℕ, length, inl, inr, ⊎_elim}
use Rattle.pssm_model.specs.declared.ids.VertexId.{VertexId}
use Rattle.pssm_model.specs.declared.ids.RegionId.{RegionId}
use Rattle.pssm_model.specs.declared.ids.TransId.{TransId}
use Rattle.pssm_model.specs.declared.elements.DraftMachine.{DraftMachine}
use Rattle.pssm_model.specs.declared.elements.Owner.TheVariants.{Top, Region, State}
use Rattle.pssm_model.specs.declared.steps.Route.{Route}
use Rattle.pssm_model.specs.declared.steps.Mode.{Mode}
use Rattle.pssm_model.specs.declared.steps.Mode.TheVariants.{Plain, Shallow, Deep}
use Rattle.pssm_model.specs.declared.steps.How.{How}
use Rattle.pssm_model.specs.declared.steps.Item.{Item}
use Rattle.pssm_model.specs.declared.steps.Item.TheVariants as items
use Rattle.pssm_model.specs.Shapes.{HasShape}
use Rattle.pssm_model.specs.Configuration.{Configuration}
use Rattle.pssm_model.specs.Course.{Head, Course, HasRun, HasRestored}
use Rattle.pssm_model.specs.Course.Head.{Starts, Fires}
use Rattle.pssm_model.specs.Items.{restored_mode, StartOpens, IsWaiting, HasRunOut}
use Rattle.pssm_model.specs.Order.{HasGone, IsReady, course_by}
use Rattle.pssm_model.specs.WellFormed.{KeepsModelRules}
use Rattle.pssm_model_laws.specs.inner.RouteWords.{EndsIn, IsEnteredBy}
use Rattle.pssm_plan.specs.Steadiness.{BeginsWell}
use Rattle.pssm_plan.specs.inner.OverRoutes.{GoesByRoutes, OpensBeside, EndsOnHistory, OpensFor, OpensAfterEntry, IsOpenedOver, IsOpenedFor, IsCalledOver}
use Rattle.pssm_model_laws.proofs.Known.{Known, known_as, known_both, known_either, known_not, known_below}
use Rattle.pssm_model_laws.proofs.KnownPlaces.{known_owner}
use Rattle.pssm_plan.proofs.KnownRuns.{run_known}
use Rattle.pssm_plan.proofs.KnownRoutes.{known_entered, known_ends, known_end_history, known_beside}
use Rattle.pssm_plan.proofs.KnownItems.{known_mode, known_some_mode, known_restored_as, known_by_some, known_over, known_exit, known_enter, known_pick, owning_there, some_ready}
use Rattle.pssm_plan.proofs.RouteItems.{called_is, called_of}
use Rattle.pssm_plan.proofs.RouteSteps.{gone_by_routes}
use Rattle.pssm_plan.proofs.StepLengths.{IsThere, called_there}

-- what a start opens is known
start_known : (m : DraftMachine) (head : Head) (r : RegionId) (mode : Mode) → Known (StartOpens m head (items.Opened r mode))
start_known m Starts r Plain = known_owner m (Region r) Top
start_known m Starts r Shallow = inr (λ h. h)
start_known m Starts r Deep = inr (λ h. h)
start_known m (Fires routes) r mode = inr (λ h. h)

-- the vertices, regions and transitions of numbers, and their items
abbrev vertex_of : ℕ → VertexId
vertex_of k = record { 0 = k }

abbrev region_of : ℕ → RegionId
region_of k = record { 0 = k }

abbrev transition_of : ℕ → TransId
transition_of k = record { 0 = k }

abbrev exit_of : ℕ → Item
exit_of k = items.Exit (vertex_of k)

abbrev effect_of : ℕ → Item
effect_of k = items.Effect (transition_of k)

abbrev enter_of : ℕ → Item
enter_of k = items.Enter (vertex_of k)

abbrev opening_of : Mode → ℕ → Item
opening_of mode k = items.Opened (region_of k) mode

abbrev pick_of : ℕ → Item
pick_of k = items.Pick (vertex_of k)

module _ {m : DraftMachine} (rules : KeepsModelRules m) (shape : HasShape m) (course : Course) (g : GoesByRoutes m course)
    (active : (s : VertexId) → Known (course.at_head.Active s)) where
  -- which openings are called
  opens_known : (s : VertexId) (r : RegionId) (mode : Mode) → Known (OpensFor m course s r mode)
  opens_known s r mode =
      known_either
      (known_as
      (λ h. (h.0, (h.1, h.2.0), h.2.1, h.2.2))
      (λ h. (h.0, h.1.0, (h.1.1, h.2, h.3)))
      (known_by_some rules shape course g active
      (λ p. IsEnteredBy m p s × (EndsIn m p r → ⊥) × (mode ≡ Plain))
      (λ p by. known_as
      (λ h. (h.0, h.1.0, h.1.1))
      (λ h. (h.0, (h.1, h.2)))
      (known_both
      (known_entered shape rules p (g.routes p by) s)
      (known_both (known_not (known_ends shape rules p (g.routes p by) r)) (known_mode mode Plain))))))
      (known_as
      (λ h. (h.0, h.1.0, h.1.1))
      (λ h. (h.0, (h.1, h.2)))
      (known_some_mode
      (λ was. HasRestored course was s × (mode ≡ restored_mode was))
      (λ was. known_both (known_restored_as course s was) (known_mode mode (restored_mode was)))))

  after_entry_known : (s : VertexId) (r : RegionId) (mode : Mode) → Known (OpensAfterEntry m course s r mode)
  after_entry_known s r mode =
      known_as
      (λ h. (h.0, h.1.0, h.1.1))
      (λ h. (h.0, (h.1, h.2)))
      (known_both (run_known course (items.Enter s)) (known_both (known_owner m (Region r) (State s)) (opens_known s r mode)))

  beside_known : (r : RegionId) (mode : Mode) → Known ((p : Route) × IsOpenedOver m course p r mode)
  beside_known r mode =
      known_as
      (λ h. (h.0, (h.1, h.2.0, h.2.1)))
      (λ h. (h.0, h.1.0, (h.1.1, h.1.2)))
      (known_by_some rules shape course g active
      (λ p. OpensBeside m p r × (mode ≡ Plain))
      (λ p by. known_both (known_beside shape rules p (g.routes p by) r) (known_mode mode Plain)))

  opened_for_known : (r : RegionId) (mode : Mode) → Known (IsOpenedFor m course r mode)
  opened_for_known r mode =
      known_either
      (start_known m course.head r mode)
      (known_either
      (known_as
      (λ h. (vertex_of h.0, h.2))
      (λ h. (h.0.0, owning_there shape h.0 r h.1.1, h.1))
      (known_below (λ k. OpensAfterEntry m course (vertex_of k) r mode) (λ k. after_entry_known (vertex_of k) r mode) (length m.vertices)))
      (beside_known r mode))

  opening_known : (r : RegionId) (mode : Mode) → Known (IsCalledOver m course (items.Opened r mode))
  opening_known r mode =
      known_either
      (opened_for_known r mode)
      (known_as
      (λ h. (h.0, (h.1, h.2)))
      (λ h. (h.0, h.1.0, h.1.1))
      (known_by_some rules shape course g active (λ p. EndsOnHistory m p r mode) (λ p by. known_end_history shape rules p (g.routes p by) r mode)))

  -- some item of a kind waits, or none does
  waiting_known : (item : ℕ → Item) → ((k : ℕ) → Known (IsCalledOver m course (item k))) → (n : ℕ)
      → ((x : Item) × IsWaiting m course x) ⊎ ((k : ℕ) → k < n → IsCalledOver m course (item k) → HasRun course (item k))
  waiting_known item called n =
      ⊎_elim
      (λ h. inl (item h.0, record { called = called_of rules shape course g (item h.0) h.2.0; not_run = h.2.1 }))
      (λ none. inr (λ k lt is. ⊎_elim (λ ran. ran) (λ not. absurd (none (k, lt, (is, not)))) (run_known course (item k))))
      (known_below
      (λ k. IsCalledOver m course (item k) × (HasRun course (item k) → ⊥))
      (λ k. known_both (called k) (known_not (run_known course (item k))))
      n)

  -- and so of the openings in all modes
  in_each_mode : (P : Mode → Type 0) → P Plain → P Shallow → P Deep → (mode : Mode) → P mode
  in_each_mode P plain shallow deep Plain = plain
  in_each_mode P plain shallow deep Shallow = shallow
  in_each_mode P plain shallow deep Deep = deep

  openings_in : (mode : Mode)
      → ((x : Item) × IsWaiting m course x)
      ⊎ ((k : ℕ) → k < length m.regions → IsCalledOver m course (opening_of mode k) → HasRun course (opening_of mode k))
  openings_in mode = waiting_known (opening_of mode) (λ k. opening_known (region_of k) mode) (length m.regions)

  openings_known : ((x : Item) × IsWaiting m course x)
      ⊎ ((mode : Mode) (k : ℕ) → k < length m.regions → IsCalledOver m course (opening_of mode k) → HasRun course (opening_of mode k))
  openings_known =
      ⊎_elim
      (λ waits. inl waits)
      (λ plain. ⊎_elim
      (λ waits. inl waits)
      (λ shallow. ⊎_elim
      (λ waits. inl waits)
      (λ deep. inr (in_each_mode
      (λ mode. (k : ℕ) → k < length m.regions → IsCalledOver m course (opening_of mode k) → HasRun course (opening_of mode k))
      plain shallow deep))
      (openings_in Deep))
      (openings_in Shallow))
      (openings_in Plain)

  -- where what is called is there, and nothing that is there waits, everything called has run
  all_ran : ((k : ℕ) → k < length m.vertices → IsCalledOver m course (exit_of k) → HasRun course (exit_of k))
      → ((k : ℕ) → k < length m.transitions → IsCalledOver m course (effect_of k) → HasRun course (effect_of k))
      → ((k : ℕ) → k < length m.vertices → IsCalledOver m course (enter_of k) → HasRun course (enter_of k))
      → ((mode : Mode) (k : ℕ) → k < length m.regions → IsCalledOver m course (opening_of mode k) → HasRun course (opening_of mode k))
      → ((k : ℕ) → k < length m.vertices → IsCalledOver m course (pick_of k) → HasRun course (pick_of k))
      → (x : Item) → IsThere m x → IsCalledOver m course x → HasRun course x
  all_ran exits effects entries openings picks (items.Exit s) there h = exits s.0 there h
  all_ran exits effects entries openings picks (items.Effect t) there h = effects t.0 there h
  all_ran exits effects entries openings picks (items.Enter s) there h = entries s.0 there.0 h
  all_ran exits effects entries openings picks (items.Opened r mode) there h = openings mode r.0 there h
  all_ran exits effects entries openings picks (items.Pick c) there h = picks c.0 there.0 h

  -- some item waits, or everything called has run
  some_waits : ((x : Item) → IsCalledOver m course x → IsThere m x)
      → HasRunOut m course ⊎ ((x : Item) × IsWaiting m course x)
  some_waits there =
      ⊎_elim
      (λ waits. inr waits)
      (λ exits. ⊎_elim
      (λ waits. inr waits)
      (λ effects. ⊎_elim
      (λ waits. inr waits)
      (λ entries. ⊎_elim
      (λ waits. inr waits)
      (λ openings. ⊎_elim
      (λ waits. inr waits)
      (λ picks. inl (λ x called. (
      let is = called_is rules shape course g x called in
      all_ran exits effects entries openings picks x (there x is) is
      )))
      (waiting_known pick_of (λ k. known_pick rules shape course g active (vertex_of k)) (length m.vertices)))
      openings_known)
      (waiting_known enter_of (λ k. known_enter rules shape course g active (vertex_of k)) (length m.vertices)))
      (waiting_known effect_of (λ k. known_over rules shape course g active (transition_of k)) (length m.transitions)))
      (waiting_known exit_of (λ k. known_exit rules shape course g active (vertex_of k)) (length m.vertices))

-- A step that has begun well has run out, or an item is ready.
pub ready_or_out : {m : DraftMachine} → HasShape m → KeepsModelRules m
    → (head : Head) (now : Configuration) → BeginsWell m head now → (ran : List (Item × How))
    → HasGone m head now ran → ((s : VertexId) → Known (now.Active s))
    → HasRunOut m (course_by head now ran) ⊎ ((x : Item) × IsReady m (course_by head now ran) x)
ready_or_out shape rules head now begins ran gone active =
    let course = course_by head now ran in
    let g = gone_by_routes rules shape head now ran gone in
    ⊎_elim
    (λ out. inl out)
    (λ waits. (let first = some_ready shape rules head now begins ran gone active waits.0 waits.1 in inr (first.0, first.1)))
    (some_waits rules shape course g active (called_there shape rules head now ran gone))
