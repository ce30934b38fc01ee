-- What the objects and signals of a setting are.
use Rattle.std.specs.Prelude.{◌≡◌, ℕ, Option, Some, option_map, option_and_then, slice_get}
use Rattle.pssm_model.specs.declared.ids.SignalId.{SignalId}
use Rattle.pssm_semantics.specs.declared.entry.ObjectId.{ObjectId}
use Rattle.pssm_semantics.specs.declared.setting.Class.{Class}
use Rattle.pssm_semantics.specs.declared.setting.Setting.{Setting}

-- the class of an object (UML 2.5.1 9.8.3, instance specifications and their classifiers)
abbrev pub class_of : Setting → ObjectId → Option Class
class_of setting o = option_and_then (λ d. slice_get setting.classes d.class) (slice_get setting.objects o.0)

-- The signal is one of the setting and has this many parameters (UML 2.5.1 10.3.3, signals).
abbrev pub HasCount : Setting → SignalId → ℕ → Type 0
HasCount setting signal n = option_map (λ d. d.count) (slice_get setting.signals signal.0) ≡ Some n
