-- The vertices and transitions of a flat draft name signals of the draft.
use Rattle.std.proofs.Common.{◌≡◌, ◌<◌, ℕ, zero, suc, List, [], ◌∷◌, length, Option, Some, None, refl, sym, subst, arith, slice_get, option_and_then, Contains}
use Rattle.std.specs.List.{AllByRecursion, flat_map}
use Rattle.std.specs.Option.{option_map_or}
use Rattle.std.proofs.lemmas.Option.{slice_get_within}
use Rattle.pssm_model.specs.declared.ids.SignalId.{SignalId}
use Rattle.pssm_model.specs.declared.elements.Vertex.{Vertex}
use Rattle.pssm_model.specs.declared.elements.Transition.{Transition}
use Rattle.pssm_model.specs.declared.draft_setting.Draft.{Draft}
use Rattle.pssm_model.specs.declared.draft_setting.DraftParts.{DraftParts}
use Rattle.pssm_model.specs.declared.draft_setting.ElementRef.{ElementRef}
use Rattle.pssm_model.specs.declared.draft_setting.FlatDraft.{FlatDraft}
use Rattle.pssm_model.specs.declared.draft_setting.PartVertex.{PartVertex}
use Rattle.pssm_model.specs.declared.draft_setting.PartTransition.{PartTransition}
use Rattle.pssm_model.specs.DraftSettings.{AreSignals, IsInRange, transition_of}
use Rattle.pssm_model.proofs.ElementLaws.{some_at}
use Rattle.pssm_redefine.specs.Forms.{deferred}
use Rattle.pssm_redefine.specs.Merging.{first_triggers, AreUnited}
use Rattle.pssm_redefine.specs.Flattening.{Flattens}
use Rattle.pssm_redefine.proofs.FlatLaws.{owners_all, ends_all}
use Rattle.pssm_settings.proofs.FlatLists.{each_at, each_from, each_flat}

-- ---- what a list contains

each_contained : {X : Type 0} (P : X → Type 0) (xs : List X) (x : X) → AllByRecursion P xs → Contains xs x → P x
each_contained P [] x all h = let less : h.0 < 0 = h.1 in absurd (omega arith)
each_contained P (y ∷ ys) x all (zero, less, is) = subst P is all.0
each_contained P (y ∷ ys) x all (suc k, less, is) = each_contained P ys x all.1 (k, omega (arith, less), is)

from_contained : {X : Type 0} (P : X → Type 0) (xs : List X) → ((x : X) → Contains xs x → P x) → AllByRecursion P xs
from_contained P [] each = tt
from_contained P (x ∷ xs) each = (each x (0, omega arith, refl), from_contained P xs (λ y h. let less = h.1 in each y (suc h.0, omega (arith, less), h.2)))

-- Another list that is as long has an element at the place.
other_at : {X Y : Type 0} (xs : List X) (ys : List Y) (k : ℕ) (x : X) → length xs ≡ length ys → slice_get xs k ≡ Some x → (y : Y) × (slice_get ys k ≡ Some y)
other_at xs ys k x same at = some_at ys k (let within = slice_get_within xs k x at in omega (arith, within, same))

-- ---- forms

module _ (draft : Draft) (range : IsInRange draft) where
  abbrev IsSignal : SignalId → Type 0
  IsSignal g = g.0 < length draft.signals

  every_form : (e : ElementRef) → AreSignals draft (deferred draft e)
  every_form e = by_machine (slice_get draft.machines e.machine) refl where
    by_vertex : (p : DraftParts) → slice_get draft.machines e.machine ≡ Some p → (o : Option PartVertex) → slice_get p.vertices e.element ≡ o
        → AreSignals draft (option_map_or (λ (v : PartVertex). v.defers) o [])
    by_vertex p is None at = tt
    by_vertex p is (Some v) at = (each_at _ p.vertices e.element v ((each_at _ draft.machines e.machine p range.machines is).vertices) at).defers

    by_machine : (o : Option DraftParts) → slice_get draft.machines e.machine ≡ o
        → AreSignals draft (option_map_or (λ (v : PartVertex). v.defers) (option_and_then (λ (p : DraftParts). slice_get p.vertices e.element) o) [])
    by_machine None is = tt
    by_machine (Some p) is = by_vertex p is (slice_get p.vertices e.element) refl

  every_trigger : (e : ElementRef) → AreSignals draft (option_map_or (λ (t : PartTransition). t.triggers) (transition_of draft e) [])
  every_trigger e = by_machine (slice_get draft.machines e.machine) refl where
    by_transition : (p : DraftParts) → slice_get draft.machines e.machine ≡ Some p → (o : Option PartTransition) → slice_get p.transitions e.element ≡ o
        → AreSignals draft (option_map_or (λ (t : PartTransition). t.triggers) o [])
    by_transition p is None at = tt
    by_transition p is (Some t) at = (each_at _ p.transitions e.element t ((each_at _ draft.machines e.machine p range.machines is).transitions) at).triggers

    by_machine : (o : Option DraftParts) → slice_get draft.machines e.machine ≡ o
        → AreSignals draft (option_map_or (λ (t : PartTransition). t.triggers) (option_and_then (λ (p : DraftParts). slice_get p.transitions e.element) o) [])
    by_machine None is = tt
    by_machine (Some p) is = by_transition p is (slice_get p.transitions e.element) refl

  first_form : (forms : List ElementRef) → AreSignals draft (first_triggers draft forms)
  first_form [] = tt
  first_form (e ∷ forms) = every_trigger e

  united_signals : (forms : List ElementRef) (united : List SignalId) → AreUnited (flat_map (deferred draft) forms) united → AreSignals draft united
  united_signals forms united is =
      from_contained IsSignal united (λ g h. each_contained IsSignal (flat_map (deferred draft) forms) g
      (each_flat IsSignal (deferred draft) forms (each_from _ forms (λ k e at. every_form e))) ((is.same g).0 h))

  -- ---- the flat draft

  module _ (class : ℕ) (flat : FlatDraft) (flattens : Flattens draft class flat) where
    pub flat_defers : AllByRecursion (λ (x : Vertex). AreSignals draft x.defers) flat.machine.vertices
    flat_defers = each_from _ flat.machine.vertices one where
      one : (k : ℕ) (x : Vertex) → slice_get flat.machine.vertices k ≡ Some x → AreSignals draft x.defers
      one k x at =
          let whole = flattens.flattened in
          let merged = whole.merged.machine.vertices in
          let forms = other_at flat.machine.vertices whole.gathered.vertices k x merged.all at in
          let all : length whole.gathered.vertices ≡ length whole.gathered.owners = sym (owners_all _ _ _ whole.gathers) in
          let owner = other_at whole.gathered.vertices whole.gathered.owners k forms.0 all forms.1 in
          united_signals forms.0 x.defers (merged.each k owner.0 forms.0 x owner.1 forms.1 at).defers

    pub flat_triggers : AllByRecursion (λ (x : Transition). AreSignals draft x.triggers) flat.machine.transitions
    flat_triggers = each_from _ flat.machine.transitions one where
      one : (k : ℕ) (x : Transition) → slice_get flat.machine.transitions k ≡ Some x → AreSignals draft x.triggers
      one k x at =
          let whole = flattens.flattened in
          let merged = whole.merged.machine.transitions in
          let forms = other_at flat.machine.transitions whole.gathered.transitions k x merged.all at in
          let all : length whole.gathered.transitions ≡ length whole.gathered.ends = sym (ends_all _ _ _ whole.gathers) in
          let ends = other_at whole.gathered.transitions whole.gathered.ends k forms.0 all forms.1 in
          subst (AreSignals draft) (sym (merged.each k ends.0 forms.0 x ends.1 forms.1 at).triggers) (first_form forms.0)
