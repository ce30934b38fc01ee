-- The signals for which the triggers of an element wait, trigger by trigger.
use Rattle.std.specs.Prelude.{ℕ, Bool, false, List, [], ◌∷◌, ◌++◌, map, filter, Option, None, slice_get, cond, if◌then◌else◌}
use Rattle.std.specs.List.{list_any}
use Rattle.std.specs.Option.{option_map_or}
use Rattle.pssm_model.specs.declared.ids.SignalId.{SignalId}
use Rattle.pssm_xml.specs.Elements.{is_child_of}
use Rattle.pssm_numbering.specs.Numbering.{ModelFile, children_with, signals, place_in, is_number, is_trigger}
use Rattle.pssm_numbering.specs.Meanings.{signal_of_trigger}

-- the signal for which a trigger waits, where the trigger is a child of this name
abbrev pub waited_by : List ℕ → ModelFile → ℕ → ℕ → Option ℕ
waited_by name file n t = if option_map_or (is_child_of n name) (slice_get file.doc t) false then signal_of_trigger file t else None

-- the same of each trigger of an element
abbrev pub all_waited : List ℕ → ModelFile → ℕ → List (Option ℕ)
all_waited name file n = map (waited_by name file n) (children_with is_trigger file n)

-- a number of a signal
abbrev pub signal : ℕ → SignalId
signal n = record { 0 = n }

-- the numbers, and with them this one, where a trigger waits for its signal
abbrev pub with_number : List SignalId → ℕ → Bool → List SignalId
with_number row number waits = row ++ cond waits (signal number ∷ []) []

-- the number of a signal
abbrev pub number_of : ModelFile → ℕ → SignalId
number_of file s = signal (place_in (signals file) s)

-- One of the signals that are waited for is this one.
abbrev pub is_among : List (Option ℕ) → ℕ → Bool
is_among waited s = list_any (is_number s) waited

-- the numbers of these signals, those of them that are waited for
abbrev pub numbers_among : ModelFile → List (Option ℕ) → List ℕ → List SignalId
numbers_among file waited sought = map (number_of file) (filter (is_among waited) sought)

-- the numbers of all signals that are waited for
abbrev pub waiting_numbers : ModelFile → List (Option ℕ) → List SignalId
waiting_numbers file waited = numbers_among file waited (signals file)
