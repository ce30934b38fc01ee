-- What was run for an entry elsewhere.
use Rattle.std.specs.Prelude.{◌≡◌, List, Some}
use Rattle.pssm_semantics.specs.declared.entry.Entry.{Entry}
use Rattle.pssm_semantics.specs.declared.setting.Class.{Class}
use Rattle.pssm_semantics.specs.declared.setting.Setting.{Setting}
use Rattle.pssm_semantics.specs.Settings.{class_of}
use Rattle.pssm_semantics.specs.Journal.{object_of}
use Rattle.pssm_semantics.specs.Pool.{told_by}
use Rattle.pssm_semantics.specs.Behaviours.{store_of, outcome_at}
use Rattle.pssm_semantics.specs.Work.{Work, outcome_from}

-- The work made what the behaviour of the entry makes after the journal: the same values of the object's variables, and the
-- same outputs (UML 2.5.1 13.2.3, executions of behaviours).
abbrev pub HasMade : Setting → List Entry → Entry → Work → Type 0
HasMade setting J e work =
    (class : Class) → class_of setting (object_of e) ≡ Some class
    → outcome_from work ≡ outcome_at class (told_by J) J e (store_of class (told_by J) J (object_of e))
