-- The signals of a journal, and those that wait for an object.
use Rattle.std.specs.Prelude.{ℕ, zero, suc, ◌+◌, List, [], ◌∷◌, ◌++◌, ◌==◌, ◌&&◌, Bool, false, not, filter, flat_map, Option, None, slice_get, length, sum_by}
use Rattle.std.specs.List.{list_any, enumerate_from}
use Rattle.pssm_semantics.specs.declared.entry.ObjectId.{ObjectId}
use Rattle.pssm_semantics.specs.declared.entry.Out.{Out}
use Rattle.pssm_semantics.specs.declared.entry.Out.TheVariants.{Send, Mark}
use Rattle.pssm_semantics.specs.declared.entry.Entry.{Entry}
use Rattle.pssm_semantics.specs.declared.entry.Entry.TheVariants.{Post, Take, Exit, Effect, Enter, DoStep}
use Rattle.pssm_semantics.specs.declared.stimulus.Stimulus.{Stimulus}

-- the outputs that stand in an entry (this profile's choice of entries)
abbrev pub outs_of : Entry → List Out
outs_of (Exit o state outs) = outs
outs_of (Effect o transition outs) = outs
outs_of (Enter o state outs) = outs
outs_of (DoStep o state step outs) = outs
outs_of _ = []

-- the signal that an output sends (UML 2.5.1 16.3.3, send signal actions)
abbrev pub signals_of_out : Out → List Stimulus
signals_of_out (Mark mark args) = []
signals_of_out (Send object signal args) = record { object = object; signal = signal; args = args } ∷ []

-- the signal that an entry posts (this profile's choice of entries)
abbrev pub posts_of_entry : Entry → List Stimulus
posts_of_entry (Post object signal args) = record { object = object; signal = signal; args = args } ∷ []
posts_of_entry _ = []

-- what an entry posts or sends (this profile's choice of entries)
abbrev pub signals_of_entry : Entry → List Stimulus
signals_of_entry e = posts_of_entry e ++ flat_map signals_of_out (outs_of e)

-- posts and sends together, in the order of the journal; the first has number 1 (this profile's choice)
abbrev pub signals_of : List Entry → List Stimulus
signals_of J = flat_map signals_of_entry J

-- the posts alone (this profile's choice)
abbrev pub posts_of : List Entry → List Stimulus
posts_of J = flat_map posts_of_entry J

-- each signal with its number (this profile's choice)
abbrev pub numbered_signals : List Entry → List (ℕ × Stimulus)
numbered_signals J = enumerate_from 1 (signals_of J)

-- whether the entry takes the object's signal with the number (UML 2.5.1 14.2.3.9, dispatch of an event occurrence)
abbrev pub takes : Entry → ObjectId → ℕ → Bool
takes (Take object number firing) o n = (object.0 == o.0) && (number == n)
takes _ o n = false

-- the signals sent to the object that it has not taken, in order (UML 2.5.1 14.2.3.9, event pool)
abbrev pub pool_of : List Entry → ObjectId → List (ℕ × Stimulus)
pool_of J o = filter (λ w. (w.1.object.0 == o.0) && not (list_any (λ e. takes e o w.0) J)) (numbered_signals J)

-- what is known of signals by their numbers (this profile's choice)
abbrev pub KnownSignals : Type 0
KnownSignals = ℕ → Option Stimulus

-- the signal with a number in a list, from 1 (this profile's choice)
abbrev pub signal_in : List Stimulus → KnownSignals
signal_in signals zero = None
signal_in signals (suc n) = slice_get signals n

-- the signals of a journal by their numbers (this profile's choice)
abbrev pub told_by : List Entry → KnownSignals
told_by J = signal_in (signals_of J)

-- how many posts, sends and marks the journal has (this profile's choice)
abbrev pub output_count : List Entry → ℕ
output_count J = sum_by (λ e. length (posts_of_entry e) + length (outs_of e)) J
