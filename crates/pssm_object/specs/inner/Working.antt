-- The behaviours of exits, effects and entries, and what they make where an object stands.
use Rattle.std.specs.Prelude.{◌≡◌, ◌<◌, length, List, [], Option, None, option_and_then}
use Rattle.std.specs.Option.{option_map_or}
use Rattle.pssm_model.specs.declared.elements.DraftMachine.{DraftMachine}
use Rattle.pssm_model.specs.declared.steps.Item.{Item}
use Rattle.pssm_model.specs.declared.steps.Item.TheVariants as items
use Rattle.pssm_model.specs.Forest.{vertex_at, transition_at}
use Rattle.pssm_semantics.specs.declared.entry.Out.{Out}
use Rattle.pssm_semantics.specs.declared.tree.Act.{Act}
use Rattle.pssm_semantics.specs.declared.setting.Class.{Class}
use Rattle.pssm_semantics.specs.declared.setting.Outcome.{Outcome}
use Rattle.pssm_semantics.specs.Values.{Store, outcome_of}
use Rattle.pssm_semantics.specs.Behaviours.{act_at}
use Rattle.pssm_object.specs.Standing.{Standing}

-- The vertex or transition of an exit, an effect or an entry is one of the machine.
abbrev pub HasPlace : DraftMachine → Item → Type 0
HasPlace m (items.Exit s) = s.0 < length m.vertices
HasPlace m (items.Effect t) = t.0 < length m.transitions
HasPlace m (items.Enter s) = s.0 < length m.vertices
HasPlace m _ = Unit {0}

-- the behaviour that an item runs
abbrev pub act_for : Class → Item → Option Act
act_for class (items.Exit s) = option_and_then (λ x. act_at class x.exit) (vertex_at class.machine s)
act_for class (items.Effect t) = option_and_then (λ x. act_at class x.effect) (transition_at class.machine t)
act_for class (items.Enter s) = option_and_then (λ x. act_at class x.entry) (vertex_at class.machine s)
act_for class _ = None

-- the same store, and no outputs
abbrev pub nothing_from : Store → Outcome
nothing_from store = record { store = store; outs = [] }

-- what an item makes where an object stands
abbrev pub outcome_for : Class → Standing → Item → Outcome
outcome_for class x item =
    option_map_or (λ act. outcome_of act x.own x.store x.params) (act_for class item) (nothing_from x.store)

-- These are the outputs that an item makes.
abbrev pub Makes : Class → Standing → Item → List Out → Type 0
Makes class x item outs = outs ≡ (outcome_for class x item).outs

-- The item makes nothing, wherever an object stands.
abbrev pub MakesNothing : Class → Item → Type 0
MakesNothing class item = (x : Standing) → outcome_for class x item ≡ nothing_from x.store

-- These are the outputs that the behaviour makes there.
abbrev pub MakesBy : Act → Standing → List Out → Type 0
MakesBy act x outs = outs ≡ (outcome_of act x.own x.store x.params).outs
