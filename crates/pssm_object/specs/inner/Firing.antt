-- What an event fires where an object stands so, which States defer a signal there, and by which ways a step goes on within itself.
use Rattle.std.specs.Prelude.{◌⊎◌, List}
use Rattle.pssm_model.specs.declared.ids.VertexId.{VertexId}
use Rattle.pssm_model.specs.declared.ids.RegionId.{RegionId}
use Rattle.pssm_model.specs.declared.elements.VertexKind.{VertexKind}
use Rattle.pssm_model.specs.declared.elements.VertexKind.TheVariants as kinds
use Rattle.pssm_model.specs.declared.steps.Route.{Route}
use Rattle.pssm_model.specs.declared.steps.Mode.{Mode}
use Rattle.pssm_model.specs.declared.steps.How.{How}
use Rattle.pssm_model.specs.declared.steps.How.TheVariants.{By}
use Rattle.pssm_model.specs.declared.steps.Event.{Event}
use Rattle.pssm_model.specs.Configuration.{IsDirect}
use Rattle.pssm_model.specs.Routes.{Truth}
use Rattle.pssm_model.specs.FiringSets.{IsFiring, IsLateRoute, Overrides}
use Rattle.pssm_model.specs.Ways.{IsHistoryOf, OpensByDefault, OpensByHistory, CanOpen}
use Rattle.pssm_config.specs.Tables.{Tables, configuration_of}
use Rattle.pssm_semantics.specs.declared.setting.Class.{Class}
use Rattle.pssm_semantics.specs.Values.{Store, Params, eight_of}
use Rattle.pssm_semantics.specs.Behaviours.{guards_under}
use Rattle.pssm_semantics.specs.Deferral.{Defers}
use Rattle.pssm_pool.specs.declared.pools.Waiting.{Waiting}

-- The routes are what the event fires where the tables hold the configuration, and the variables and the parameters have these values.
abbrev pub Fires : Class → Tables → Store → Params → Event → List Route → Type 0
Fires class tables store params event routes =
    IsFiring class.machine (configuration_of tables) (guards_under class store params) event routes

-- the values of the guards at a take of the signal, where the variables have these values
abbrev pub truth_at : Class → Store → Waiting → Truth
truth_at class store signal = guards_under class store (eight_of signal.args)

-- A route that the signal enables there starts at the State or in it.
abbrev pub OverridesThere : Class → Tables → Store → Waiting → VertexId → Type 0
OverridesThere class tables store signal s =
    Overrides class.machine (configuration_of tables) (truth_at class store signal) signal.signal s

-- The State is active there and lists the signal as deferred, and no such route starts at it or in it.
abbrev pub StateDefers : Class → Tables → Store → Waiting → VertexId → Type 0
StateDefers class tables store signal s =
    (configuration_of tables).Active s × Defers class.machine s signal.signal × (OverridesThere class tables store signal s → ⊥)

-- The active direct vertex of the region does so.
abbrev pub RegionDefers : Class → Tables → Store → Waiting → RegionId → Type 0
RegionDefers class tables store signal r = (s : VertexId) × IsDirect class.machine s r × StateDefers class tables store signal s

-- Some State of the machine does so.
abbrev pub IsDeferredThere : Class → Tables → Store → Waiting → Type 0
IsDeferredThere class tables store signal = (s : VertexId) × StateDefers class tables store signal s

-- A step goes on by the route from the vertex, an initial, history or choice vertex, where the variables and the parameters have these values.
abbrev pub IsWayFrom : Class → Store → Params → VertexId → Route → Type 0
IsWayFrom class store params origin route = IsLateRoute class.machine (guards_under class store params) origin route

-- The way is such a route.
abbrev pub GoesFrom : Class → Store → Params → VertexId → How → Type 0
GoesFrom class store params origin (By route) = IsWayFrom class store params origin route
GoesFrom class store params origin _ = ⊥

-- The region opens by default in this way there.
abbrev pub IsDefaultWay : Class → Store → Params → RegionId → How → Type 0
IsDefaultWay class store params r how = OpensByDefault class.machine (guards_under class store params) r how

-- a kind of history vertices
abbrev pub IsHistoryKind : VertexKind → Type 0
IsHistoryKind kinds.ShallowHistory = Unit {0}
IsHistoryKind kinds.DeepHistory = Unit {0}
IsHistoryKind _ = ⊥

-- The region opens in this way there where it remembers no State: by its history vertex of the kind where this has a transition, and else by default.
abbrev pub IsFreshWay : Class → Store → Params → RegionId → VertexKind → How → Type 0
IsFreshWay class store params r kind how =
    ((v : VertexId) × IsHistoryOf class.machine r kind v × GoesFrom class store params v how)
    ⊎ (((v : VertexId) → IsHistoryOf class.machine r kind v → ⊥) × IsDefaultWay class store params r how)

-- The region opens in this way by its history vertices of the kind, where the tables hold what it remembers.
abbrev pub IsHistoryWay : Class → Tables → Store → Params → RegionId → VertexKind → How → Type 0
IsHistoryWay class tables store params r kind how =
    OpensByHistory class.machine (guards_under class store params) (configuration_of tables).Remembers r kind how

-- The region opens in this way in the mode, where the tables hold what it remembers.
abbrev pub IsOpeningWay : Class → Tables → Store → Params → RegionId → Mode → How → Type 0
IsOpeningWay class tables store params r mode how =
    CanOpen class.machine (guards_under class store params) (configuration_of tables).Remembers r mode how
