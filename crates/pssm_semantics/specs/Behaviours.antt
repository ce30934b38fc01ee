-- The parameters and the store of an object, what an entry's behaviour makes of them, and the guards under them.
use Rattle.std.specs.Prelude.{◌++◌, ◌==◌, List, [], ◌∷◌, false, if◌then◌else◌, map, reverse, find, Option, Some, None, option_and_then, slice_get}
use Rattle.std.specs.Option.{option_map_or}
use Rattle.pssm_model.specs.declared.ids.ActId.{ActId}
use Rattle.pssm_model.specs.Forest.{vertex_at, transition_at}
use Rattle.pssm_model.specs.Routes.{Truth}
use Rattle.pssm_semantics.specs.declared.entry.ObjectId.{ObjectId}
use Rattle.pssm_semantics.specs.declared.entry.Entry.{Entry}
use Rattle.pssm_semantics.specs.declared.entry.Entry.TheVariants.{Take, Exit, Effect, Enter, DoStep}
use Rattle.pssm_semantics.specs.declared.setting.Class.{Class}
use Rattle.pssm_semantics.specs.declared.setting.Outcome.{Outcome}
use Rattle.pssm_semantics.specs.declared.tree.Act.{Act}
use Rattle.pssm_semantics.specs.Values.{Store, Params, eight_of, no_params, truth_of, outcome_of}
use Rattle.pssm_semantics.specs.Pool.{KnownSignals}
use Rattle.pssm_semantics.specs.Journal.{object_of, is_head_of}

-- the entry that began the object's last step (UML 2.5.1 14.2.3.9, run to completion)
abbrev pub last_head : List Entry → ObjectId → Option Entry
last_head J o = find (is_head_of o) (reverse J)

-- the arguments of the signal that a head entry took, and zeros at another (UML 2.5.1 13.3.3, the data of a signal event)
abbrev pub params_of_head : KnownSignals → Option Entry → Params
params_of_head told (Some (Take object number firing)) = eight_of (option_map_or (λ x. x.args) (told number) [])
params_of_head told _ = no_params

-- the parameters of the object's step (UML 2.5.1 13.3.3, the data of a signal event)
abbrev pub params_of : KnownSignals → List Entry → ObjectId → Params
params_of told J o = params_of_head told (last_head J o)

-- the parameters of an entry's behaviour: those of the step, and zeros for a do step (this profile's choice)
abbrev pub params_at : KnownSignals → List Entry → Entry → Params
params_at told J (DoStep object state step outs) = no_params
params_at told J e = params_of told J (object_of e)

-- the behaviour with a number (UML 2.5.1 13.2.3, opaque behaviours)
abbrev pub act_at : Class → ActId → Option Act
act_at class a = slice_get class.program.acts a.0

-- the behaviour that an entry runs: that of a State at its entry, its exit or a do step, or the effect of a transition
-- (UML 2.5.1 14.2.3.4 and 14.2.3.8, entry, exit and doActivity behaviours, effects)
abbrev pub act_of : Class → Entry → Option Act
act_of class (Exit object state outs) = option_and_then (λ x. act_at class x.exit) (vertex_at class.machine state)
act_of class (Enter object state outs) = option_and_then (λ x. act_at class x.entry) (vertex_at class.machine state)
act_of class (Effect object transition outs) = option_and_then (λ x. act_at class x.effect) (transition_at class.machine transition)
act_of class (DoStep object state step outs) =
    option_and_then (act_at class) (option_and_then (λ x. slice_get x.steps step) (vertex_at class.machine state))
act_of class _ = None

-- what the behaviour of an entry after these entries makes of a store; without behaviour nothing changes (UML 2.5.1 13.2.3, behaviours)
abbrev pub outcome_at : Class → KnownSignals → List Entry → Entry → Store → Outcome
outcome_at class told J e store =
    option_map_or (λ act. outcome_of act (object_of e) store (params_at told J e)) (act_of class e) (record { store = store; outs = [] })

-- the first values of the variables (UML 2.5.1 9.5.3, default values)
abbrev pub first_store : Class → Store
first_store class = map (λ x. x.first) class.vars

-- the store after an entry: an entry of the object changes it by its behaviour (UML 2.5.1 13.2.3, behaviours)
abbrev pub store_after : Class → KnownSignals → ObjectId → List Entry → Entry → Store → Store
store_after class told o before e store = if (object_of e).0 == o.0 then (outcome_at class told before e store).store else store

-- the store after further entries, in order (UML 2.5.1 13.2.3, behaviours)
abbrev pub store_through : Class → KnownSignals → ObjectId → List Entry → List Entry → Store → Store
store_through class told o before [] store = store
store_through class told o before (e ∷ rest) store =
    store_through class told o (before ++ e ∷ []) rest (store_after class told o before e store)

-- the store of the object after the journal (UML 2.5.1 13.2.3, behaviours)
abbrev pub store_of : Class → KnownSignals → List Entry → ObjectId → Store
store_of class told J o = store_through class told o [] J (first_store class)

-- the values of the guards on a store and parameters (UML 2.5.1 14.2.3.8, guards)
abbrev pub guards_under : Class → Store → Params → Truth
guards_under class store params g = option_map_or (λ c. truth_of c store params) (slice_get class.program.guards g.0) false

-- the values of the guards within the object's step after the journal (UML 2.5.1 14.2.3.8, guards)
abbrev pub guards_at : Class → KnownSignals → List Entry → ObjectId → Truth
guards_at class told J o = guards_under class (store_of class told J o) (params_of told J o)
