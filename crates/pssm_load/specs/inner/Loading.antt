-- How a model is loaded step by step.
use Rattle.std.specs.Prelude.{◌≢◌, List, []}
use Rattle.std.specs.List.{AllByRecursion}
use Rattle.pssm_model.specs.WellFormed.{KeepsModelRules}
use Rattle.pssm_semantics.specs.declared.setting.Class.{Class}
use Rattle.pssm_load.specs.declared.fault.LoadFault.{LoadFault}
use Rattle.pssm_load.specs.declared.fault.LoadFault.TheVariants.{Faults, NoMemory}
use Rattle.pssm_load.specs.Loads.{AreClassFaults}

-- Each machine keeps the rules of models.
abbrev pub KeepRules : List Class → Type 0
KeepRules classes = AllByRecursion (λ (x : Class). KeepsModelRules x.machine) classes

-- Machines of these classes break rules, which the fault lists; or there was no memory.
abbrev pub BreakRules : List Class → LoadFault → Type 0
BreakRules classes (Faults list) = AreClassFaults classes list × (list ≢ [])
BreakRules classes NoMemory = Unit {0}
BreakRules classes _ = ⊥
