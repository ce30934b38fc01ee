-- What the behaviour of a task is run with.
use Rattle.std.specs.Prelude.{List, [], Option, option_and_then}
use Rattle.std.specs.Option.{option_map_or}
use Rattle.pssm_semantics.specs.declared.entry.ObjectId.{ObjectId}
use Rattle.pssm_semantics.specs.declared.entry.Entry.{Entry}
use Rattle.pssm_semantics.specs.declared.setting.Setting.{Setting}
use Rattle.pssm_semantics.specs.declared.stimulus.Task.{Task}
use Rattle.pssm_semantics.specs.declared.tree.Act.{Act}
use Rattle.pssm_semantics.specs.Settings.{class_of}
use Rattle.pssm_semantics.specs.Values.{Store, Params}
use Rattle.pssm_semantics.specs.Pool.{told_by}
use Rattle.pssm_semantics.specs.Behaviours.{act_of, params_at, store_of}
use Rattle.pssm_object.specs.Tasks.{entry_of}

-- the behaviour that the entry of a task runs (UML 2.5.1 14.2.3.4 and 14.2.3.8, entry, exit and doActivity behaviours, effects)
abbrev pub behaviour_in : Setting → ObjectId → Task → Option Act
behaviour_in setting o task = option_and_then (λ class. act_of class (entry_of o task [])) (class_of setting o)

-- the values of the object's variables after the journal (UML 2.5.1 9.5.3, properties)
abbrev pub store_in : Setting → List Entry → ObjectId → Store
store_in setting J o = option_map_or (λ class. store_of class (told_by J) J o) (class_of setting o) []

-- the parameters of the entry of a task: those of the object's step, and zeros for a do step (UML 2.5.1 13.3.3, the data of a signal event)
abbrev pub params_in : List Entry → ObjectId → Task → Params
params_in J o task = params_at (told_by J) J (entry_of o task [])
