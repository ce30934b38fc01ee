-- What behaviours may name that are read with names and marks (this profile's choice).
use Rattle.std.specs.Prelude.{◌≡◌, ◌<◌, ℕ, List, length, Option, Some, None, slice_get}
use Rattle.std.specs.Option.{option_map_or}
use Rattle.pssm_model.specs.declared.ids.SignalId.{SignalId}
use Rattle.pssm_semantics.specs.declared.entry.ObjectId.{ObjectId}
use Rattle.pssm_semantics.specs.declared.setting.Names.{Names}
use Rattle.pssm_semantics.specs.declared.setting.SignalDecl.{SignalDecl}
use Rattle.pssm_semantics.specs.Fits.{Vocabulary}

-- how many parameters a signal has; 0 where there is no such signal
abbrev pub signal_count : List SignalDecl → ℕ → ℕ
signal_count signals s = option_map_or (λ d. d.count) (slice_get signals s) 0

-- The object is one of these, or the running one.
abbrev pub IsReceiver : Names → Option ObjectId → Type 0
IsReceiver names (Some o) = o.0 < length names.objects
IsReceiver names None = Unit {0}

-- A signal goes to one of the objects, with as many arguments as it has parameters.
abbrev pub CanSend : Names → Option ObjectId → SignalId → ℕ → Type 0
CanSend names to signal count = IsReceiver names to × (signal.0 < length names.signals) × (count ≡ signal_count names.signals signal.0)

-- the variables, the marks and the sends that there are
abbrev pub vocabulary : Names → List (List ℕ) → Vocabulary
vocabulary names marks = record { vars = length names.vars; marks = length marks; Sends = CanSend names }
