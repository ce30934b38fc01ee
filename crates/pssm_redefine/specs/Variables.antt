-- The variables of a class: those that its machine inherits, and then its own, each name once.
use Rattle.std.specs.Prelude.{ℕ, ◌-◌, ◌==◌, List, [], ◌∷◌, ◌++◌, length, take, filter, fold, if◌then◌else◌, bytes_eq}
use Rattle.std.specs.List.{flat_map, list_any}
use Rattle.pssm_model.specs.declared.draft_setting.Draft.{Draft}
use Rattle.pssm_model.specs.declared.draft_setting.DraftClass.{DraftClass}
use Rattle.pssm_model.specs.declared.draft_setting.DraftVar.{DraftVar}

-- the variables of those of the classes that have this machine, in the order of the classes
abbrev pub variables_among : ℕ → List DraftClass → List DraftVar
variables_among m classes = flat_map (λ (c : DraftClass). c.vars) (filter (λ (c : DraftClass). c.machine == m) classes)

-- the variables of the active classes that have this machine
abbrev pub machine_variables : Draft → ℕ → List DraftVar
machine_variables draft m = variables_among m draft.classes

-- one variable more, where none has its name
abbrev pub with_variable : List DraftVar → DraftVar → List DraftVar
with_variable kept var = if list_any (λ (k : DraftVar). bytes_eq k.name var.name) kept then kept else kept ++ var ∷ []

-- each name once, the first kept
abbrev pub first_of_each_name : List DraftVar → List DraftVar
first_of_each_name vars = fold with_variable [] vars

-- the variables of a class whose machine extends others, the chain of which stands there with the class's own machine at its end (this profile's choice)
abbrev pub class_variables : Draft → List ℕ → DraftClass → List DraftVar
class_variables draft chain class =
    first_of_each_name (flat_map (machine_variables draft) (take (length chain - 1) chain) ++ class.vars)
