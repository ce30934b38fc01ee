-- Which signals are deferred.
use Rattle.std.specs.Prelude.{List, Contains, IsSomeAnd}
use Rattle.pssm_model.specs.declared.ids.VertexId.{VertexId}
use Rattle.pssm_model.specs.declared.ids.SignalId.{SignalId}
use Rattle.pssm_model.specs.declared.elements.DraftMachine.{DraftMachine}
use Rattle.pssm_model.specs.Forest.{vertex_at}
use Rattle.pssm_model.specs.FiringSets.{Overrides}
use Rattle.pssm_semantics.specs.declared.entry.ObjectId.{ObjectId}
use Rattle.pssm_semantics.specs.declared.entry.Entry.{Entry}
use Rattle.pssm_semantics.specs.declared.stimulus.Stimulus.{Stimulus}
use Rattle.pssm_semantics.specs.declared.setting.Class.{Class}
use Rattle.pssm_semantics.specs.Values.{eight_of}
use Rattle.pssm_semantics.specs.Pool.{KnownSignals}
use Rattle.pssm_semantics.specs.Journal.{IsActive, configuration_after}
use Rattle.pssm_semantics.specs.Behaviours.{store_of, guards_under}

-- The State lists the signal as deferred (UML 2.5.1 14.2.3.4, deferred events).
abbrev pub Defers : DraftMachine → VertexId → SignalId → Type 0
Defers m s signal = IsSomeAnd (vertex_at m s) (λ x. Contains x.defers signal)

-- An active State defers the signal, and no route that the signal enables starts at it or in it; guards are read under the signal's own arguments
-- (UML 2.5.1 14.2.3.4, deferred events).
abbrev pub IsDeferred : Class → KnownSignals → List Entry → ObjectId → Stimulus → Type 0
IsDeferred class told J o x =
    (s : VertexId) × IsActive J o s × Defers class.machine s x.signal
    × (Overrides class.machine (configuration_after class.machine J o) (guards_under class (store_of class told J o) (eight_of x.args)) x.signal s → ⊥)
