-- The forms of an element: the one that a machine gives first, and those by which machines that extend it redefine it, in this order.
use Rattle.std.specs.Prelude.{ℕ, List, [], ◌∷◌, Option, Some, None, option_and_then}
use Rattle.std.specs.Option.{option_or, option_map_or}
use Rattle.pssm_model.specs.declared.elements.TransKind.{TransKind}
use Rattle.pssm_model.specs.declared.ids.SignalId.{SignalId}
use Rattle.pssm_model.specs.declared.draft_setting.ElementRef.{ElementRef}
use Rattle.pssm_model.specs.declared.draft_setting.Draft.{Draft}
use Rattle.pssm_model.specs.declared.draft_setting.PartVertex.{PartVertex}
use Rattle.pssm_model.specs.declared.draft_setting.PartTransition.{PartTransition}
use Rattle.pssm_model.specs.declared.draft_setting.PartGuard.{PartGuard}
use Rattle.pssm_model.specs.declared.draft_setting.PartGuard.TheVariants as guards
use Rattle.pssm_model.specs.declared.draft_setting.Body.{Body}
use Rattle.pssm_model.specs.DraftSettings.{vertex_of, transition_of}

-- ---- what a form gives

-- what the last of the forms that give one gives
abbrev pub last_given : {A : Type 0} → (ElementRef → Option A) → List ElementRef → Option A
last_given give [] = None
last_given give (form ∷ later) = option_or (last_given give later) (give form)

-- the label that a form of a vertex gives
abbrev pub given_label : Draft → ElementRef → Option (List ℕ)
given_label draft form = option_and_then (λ (v : PartVertex). v.label) (vertex_of draft form)

-- the entry behaviour that it gives
abbrev pub given_entry : Draft → ElementRef → Option Body
given_entry draft form = option_and_then (λ (v : PartVertex). v.entry) (vertex_of draft form)

-- the exit behaviour that it gives
abbrev pub given_exit : Draft → ElementRef → Option Body
given_exit draft form = option_and_then (λ (v : PartVertex). v.exit) (vertex_of draft form)

-- the do-activity that it gives
abbrev pub given_steps : Draft → ElementRef → Option Body
given_steps draft form = option_and_then (λ (v : PartVertex). v.steps) (vertex_of draft form)

-- the signals that it defers
abbrev pub deferred : Draft → ElementRef → List SignalId
deferred draft form = option_map_or (λ (v : PartVertex). v.defers) (vertex_of draft form) []

-- the kind that a form of a transition gives
abbrev pub given_kind : Draft → ElementRef → Option TransKind
given_kind draft form = option_and_then (λ (t : PartTransition). t.kind) (transition_of draft form)

-- a guard, but for a missing one
abbrev pub guard_if_any : PartGuard → Option PartGuard
guard_if_any guards.Missing = None
guard_if_any guards.Otherwise = Some guards.Otherwise
guard_if_any (guards.Given body) = Some (guards.Given body)

-- the guard that it gives
abbrev pub given_guard : Draft → ElementRef → Option PartGuard
given_guard draft form = option_and_then (λ (t : PartTransition). guard_if_any t.guard) (transition_of draft form)

-- the text of a guard that has one
abbrev pub guard_text : PartGuard → Option Body
guard_text guards.Missing = None
guard_text guards.Otherwise = None
guard_text (guards.Given body) = Some body

-- the effect that it gives
abbrev pub given_effect : Draft → ElementRef → Option Body
given_effect draft form = option_and_then (λ (t : PartTransition). t.effect) (transition_of draft form)
