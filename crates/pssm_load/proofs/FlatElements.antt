-- The elements of a flat draft: labels are texts, what is no State is quiet, and signals ascend.
use Rattle.std.proofs.Common.{◌≡◌, ◌<◌, ◌≤◌, ◌+◌, ◌*◌, ◌==◌, ℕ, zero, suc, Bool, true, false, cond, List, [], ◌∷◌, filter, map, length, Option, Some, None, refl, sym, ap, ◌∙◌, subst, arith, slice_get, Contains}
use Rattle.std.specs.List.{AllByRecursion, flat_map, filter_map, cons_option}
use Rattle.std.specs.Option.{option_and_then, option_map, option_map_or, option_or}
use Rattle.std.specs.Prelude.{AllPairs, unwrap_or}
use Rattle.std.proofs.lemmas.Bool.{eqb-true}
use Rattle.std.proofs.lemmas.Option.{slice_get_within}
use Rattle.std.proofs.lemmas.List.Sorted.{sum_by-IsPermutation}
use Rattle.pssm_model.specs.declared.ids.SignalId.{SignalId}
use Rattle.pssm_model.specs.declared.elements.Owner.{Owner}
use Rattle.pssm_model.specs.declared.elements.Vertex.{Vertex}
use Rattle.pssm_model.specs.declared.elements.Transition.{Transition}
use Rattle.pssm_model.specs.declared.elements.VertexKind.TheVariants as kinds
use Rattle.pssm_model.specs.declared.draft_setting.Body.{Body}
use Rattle.pssm_model.specs.declared.draft_setting.Draft.{Draft}
use Rattle.pssm_model.specs.declared.draft_setting.DraftParts.{DraftParts}
use Rattle.pssm_model.specs.declared.draft_setting.ElementRef.{ElementRef}
use Rattle.pssm_model.specs.declared.draft_setting.FlatDraft.{FlatDraft}
use Rattle.pssm_model.specs.declared.draft_setting.PartVertex.{PartVertex}
use Rattle.pssm_model.specs.declared.draft_setting.PartTransition.{PartTransition}
use Rattle.pssm_model.specs.DraftSettings.{vertex_of, transition_of, ExtendsFar, directly, further, IsOrExtends, itself, extended}
use Rattle.pssm_heritage.specs.declared.kinds.ElementKind.TheVariants as elements
use Rattle.pssm_heritage.specs.declared.kinds.RedefRule.TheVariants.{NotInherited}
use Rattle.pssm_heritage.specs.Becoming.{Became, new, redefining}
use Rattle.pssm_heritage.specs.Heritages.{Numbering, number_in}
use Rattle.pssm_heritage.specs.Numbers.{own_elements}
use Rattle.pssm_breaches.specs.Rules.{AreSameVertices, BreaksNothing, not_inherited}
use Rattle.pssm_redefine.specs.Bodies.{places_from, number_from, IsOrder}
use Rattle.pssm_redefine.specs.Flattening.{Flattens}
use Rattle.pssm_redefine.specs.Forms.{last_given, given_label, given_entry, given_exit, given_steps, deferred}
use Rattle.pssm_redefine.specs.Gathering.{with_number, numbered_of}
use Rattle.pssm_redefine.specs.Groups.{forms_of, list_at}
use Rattle.pssm_redefine.specs.Merging.{first_kind, steps_numbered, first_triggers, vertex_slots, transition_slots, slots_of, IsMergedVertex}
use Rattle.pssm_redefine.proofs.FlatLaws.{owners_all, ends_all}
use Rattle.pssm_redefine.proofs.SumLaws.{added_is}
use Rattle.pssm_settings.proofs.FlatLists.{each_at, each_from, each_with, each_append}
use Rattle.pssm_model.proofs.ElementLaws.{some_at as some_there}
use Rattle.pssm_settings.proofs.OncePlaces.{Place, at_slot, times, Agrees, Fits, fits}
use Rattle.pssm_settings.proofs.OnceSlots.{fits_front, fits_each}
use Rattle.pssm_flat.specs.Flat.{IsLabel, IsPassive}
use Rattle.pssm_load.proofs.AttributeTexts.{no_label}
use Rattle.pssm_load.proofs.DraftParts.{is_state_kind, IsWrittenPart, AreAbove, AreWrittenParts, HasWrittenParts}

-- what is known of a vertex of a flat draft
pub record IsFlatVertex (x : Vertex) : Type 0 where
  pub label : IsLabel x.label
  pub still : is_state_kind x.kind ≡ false → IsPassive x
  pub ascending : AreAbove 0 x.defers

-- the type of the elements of a list
abbrev element_of : {A : Type 0} → List A → Type 0
element_of {A} xs = A

-- an element with its number: the type has a name only in the crate that flattens
abbrev Numbered : Type 0
Numbered =
    let draft : Draft = record { signals = []; machines = []; classes = []; objects = [] } in
    let numbering : Numbering = record { rows = []; firsts = [] } in
    element_of (numbered_of draft elements.Vertex numbering [])

-- ---- lists

stable : (a b : Bool) → ((a ≡ b → ⊥) → ⊥) → a ≡ b
stable true true h = refl
stable false false h = refl
stable true false h = absurd (h (λ e. absurd cc))
stable false true h = absurd (h (λ e. absurd cc))

-- Another list that is as long has an element at the place.
other_at : {X Y : Type 0} (xs : List X) (ys : List Y) (k : ℕ) (x : X) → length xs ≡ length ys → slice_get xs k ≡ Some x → (y : Y) × (slice_get ys k ≡ Some y)
other_at xs ys k x same at = some_there ys k (let less = slice_get_within xs k x at in omega (arith, less, same))

none_contained : {X : Type 0} (xs : List X) → ((x : X) → Contains xs x → ⊥) → xs ≡ []
none_contained [] none = refl
none_contained (x ∷ xs) none = absurd (none x (0, omega arith, refl))

empty_contains : {X : Type 0} (x : X) → Contains [] x → ⊥
empty_contains x has = let less : has.0 < 0 = has.1 in absurd (omega arith)

no_flat : {X Y : Type 0} (f : X → List Y) (xs : List X) → AllByRecursion (λ x. f x ≡ []) xs → flat_map f xs ≡ []
no_flat f [] all = refl
no_flat f (x ∷ xs) all = rw all.0 (no_flat f xs all.1)

pairs_tail : (g : SignalId) (gs : List SignalId) → AllPairs (λ (a b : SignalId). a.0 < b.0) (g ∷ gs) → AllPairs (λ (a b : SignalId). a.0 < b.0) gs
pairs_tail g gs pairs = λ i j d before within. pairs (suc i) (suc j) d (omega (arith, before)) (omega (arith, within))

above_from : (low : ℕ) (gs : List SignalId) → AllPairs (λ (a b : SignalId). a.0 < b.0) gs → ((g : SignalId) → slice_get gs 0 ≡ Some g → low ≤ g.0)
    → AreAbove low gs
above_from low [] pairs first = tt
above_from low (g ∷ gs) pairs first = (first g refl, above_from (g.0 + 1) gs (pairs_tail g gs pairs) (next gs pairs)) where
  next : (gs : List SignalId) → AllPairs (λ (a b : SignalId). a.0 < b.0) (g ∷ gs) → (h : SignalId) → slice_get gs 0 ≡ Some h → g.0 + 1 ≤ h.0
  next [] pairs h at = absurd cc
  next (k ∷ gs) pairs h at =
      let same : k ≡ h = cc in
      let less : g.0 < k.0 = pairs 0 1 g (omega arith) (omega arith) in
      let found : k.0 ≡ h.0 = ap (λ (x : SignalId). x.0) same in
      omega (arith, less, found)

-- ---- what machines extend

far_far : (draft : Draft) (a b c : ℕ) → ExtendsFar draft a b → ExtendsFar draft b c → ExtendsFar draft a c
far_far draft a b c first (directly e) = further b first e
far_far draft a b c first (further other far e) = further other (far_far draft a b other first far) e

above_on : (draft : Draft) (m a b : ℕ) → IsOrExtends draft m a → ExtendsFar draft a b → IsOrExtends draft m b
above_on draft m a b itself far = extended far
above_on draft m a b (extended first) far = extended (far_far draft m a b first far)

module _ (draft : Draft) (parts : HasWrittenParts draft) where
  vertex_written : (e : ElementRef) (v : PartVertex) → vertex_of draft e ≡ Some v → IsWrittenPart v
  vertex_written e v at = by_machine (slice_get draft.machines e.machine) refl at where
    by_machine : (o : Option DraftParts) → slice_get draft.machines e.machine ≡ o
        → option_and_then (λ (p : DraftParts). slice_get p.vertices e.element) o ≡ Some v → IsWrittenPart v
    by_machine None is at = absurd cc
    by_machine (Some p) is at = each_at IsWrittenPart p.vertices e.element v (each_at AreWrittenParts draft.machines e.machine p parts.machines is).0 at

  transition_written : (e : ElementRef) (t : PartTransition) → transition_of draft e ≡ Some t → AreAbove 0 t.triggers
  transition_written e t at = by_machine (slice_get draft.machines e.machine) refl at where
    by_machine : (o : Option DraftParts) → slice_get draft.machines e.machine ≡ o
        → option_and_then (λ (p : DraftParts). slice_get p.transitions e.element) o ≡ Some t → AreAbove 0 t.triggers
    by_machine None is at = absurd cc
    by_machine (Some p) is at = each_at (λ (x : PartTransition). AreAbove 0 x.triggers) p.transitions e.element t (each_at AreWrittenParts draft.machines e.machine p parts.machines is).1 at

  -- ---- labels

  form_label : (e : ElementRef) (l : List ℕ) → given_label draft e ≡ Some l → IsLabel l
  form_label e l at = go (vertex_of draft e) refl at where
    go : (o : Option PartVertex) → vertex_of draft e ≡ o → option_and_then (λ (v : PartVertex). v.label) o ≡ Some l → IsLabel l
    go None is at = absurd cc
    go (Some v) is at = (vertex_written e v is).label l at

  last_label : (forms : List ElementRef) (l : List ℕ) → last_given (given_label draft) forms ≡ Some l → IsLabel l
  last_label [] l at = absurd cc
  last_label (form ∷ later) l at = go (last_given (given_label draft) later) refl at (λ given. last_label later l given) where
    go : (o : Option (List ℕ)) → last_given (given_label draft) later ≡ o → option_or o (given_label draft form) ≡ Some l
        → (last_given (given_label draft) later ≡ Some l → IsLabel l) → IsLabel l
    go None is at others = form_label form l at
    go (Some k) is at others = others (is ∙ at)

  merged_label : (forms : List ElementRef) → IsLabel (unwrap_or (last_given (given_label draft) forms) [])
  merged_label forms = go (last_given (given_label draft) forms) refl where
    go : (o : Option (List ℕ)) → last_given (given_label draft) forms ≡ o → IsLabel (unwrap_or o [])
    go None is = no_label
    go (Some l) is = last_label forms l is

  -- ---- kinds

  -- whether what stands there is a State
  abbrev is_state_at : ElementRef → Bool
  is_state_at e = option_map_or (λ (v : PartVertex). is_state_kind v.kind) (vertex_of draft e) true

  same_place : (e f : ElementRef) → AreSameVertices draft e f → is_state_at e ≡ is_state_at f
  same_place e f same =
      ap (λ (o : Option PartVertex). option_map_or (λ (v : PartVertex). is_state_kind v.kind) o true) same.is ∙ ap is_state_kind same.kind
      ∙ sym (ap (λ (o : Option PartVertex). option_map_or (λ (v : PartVertex). is_state_kind v.kind) o true) same.is_other)

  -- An element is a State where the one is that it has become.
  became_state : (m : ℕ) → BreaksNothing draft m → {e o : ElementRef} → Became draft elements.Vertex e o → IsOrExtends draft m e.machine
      → is_state_at e ≡ is_state_at o
  became_state m keeps (new none) within = refl
  became_state m keeps {e} (redefining f above became) within =
      stable (is_state_at e) (is_state_at f)
      (λ differ. keeps elements.Vertex e NotInherited within (not_inherited f above.named (λ inherited. differ (same_place e f inherited.place))))
      ∙ became_state m keeps became (above_on draft m e.machine f.machine within above.above)

  -- The form gives no behaviour and defers no signal.
  abbrev Quiet : ElementRef → Type 0
  Quiet e = (given_entry draft e ≡ None) × (given_exit draft e ≡ None) × (given_steps draft e ≡ None) × (deferred draft e ≡ [])

  quiet_form : (e : ElementRef) → is_state_at e ≡ false → Quiet e
  quiet_form e passive = go (vertex_of draft e) refl passive where
    go : (o : Option PartVertex) → vertex_of draft e ≡ o → option_map_or (λ (v : PartVertex). is_state_kind v.kind) o true ≡ false
        → (option_and_then (λ (v : PartVertex). v.entry) o ≡ None) × (option_and_then (λ (v : PartVertex). v.exit) o ≡ None) × (option_and_then (λ (v : PartVertex). v.steps) o ≡ None)
        × (option_map_or (λ (v : PartVertex). v.defers) o [] ≡ [])
    go None is passive = absurd cc
    go (Some v) is passive = let quiet = (vertex_written e v is).quiet passive in (quiet.entry, quiet.exit, quiet.steps, quiet.defers)

  none_given : {A : Type 0} (give : ElementRef → Option A) (forms : List ElementRef) → AllByRecursion (λ e. give e ≡ None) forms → last_given give forms ≡ None
  none_given give [] all = refl
  none_given give (form ∷ later) all = ap (λ o. option_or o (give form)) (none_given give later all.1) ∙ all.0

  first_is : (forms : List ElementRef) (e : ElementRef) → slice_get forms 0 ≡ Some e → is_state_kind (first_kind draft forms) ≡ is_state_at e
  first_is forms e at = ap (λ (o : Option ElementRef). is_state_kind (option_map_or (λ (v : PartVertex). v.kind) (option_and_then (vertex_of draft) o) kinds.State)) at ∙ go (vertex_of draft e) where
    go : (o : Option PartVertex)
        → is_state_kind (option_map_or (λ (v : PartVertex). v.kind) o kinds.State) ≡ option_map_or (λ (v : PartVertex). is_state_kind v.kind) o true
    go None = refl
    go (Some v) = refl

  -- ---- forms

  -- The element with its number has that number.
  abbrev HasItsNumber : Numbering → Numbered → Type 0
  HasItsNumber numbering n = number_in numbering n.element ≡ Some n.number

  own_numbered : (numbering : Numbering) (es : List ElementRef) → AllByRecursion (HasItsNumber numbering) (filter_map (with_number numbering) es)
  own_numbered numbering [] = tt
  own_numbered numbering (e ∷ es) = go (number_in numbering e) refl (own_numbered numbering es) where
    go : (o : Option ℕ) → number_in numbering e ≡ o → AllByRecursion (HasItsNumber numbering) (filter_map (with_number numbering) es)
        → AllByRecursion (HasItsNumber numbering) (cons_option (option_map (λ n. let one : Numbered = record { element = e; number = n } in one) o) (filter_map (with_number numbering) es))
    go None is others = others
    go (Some n) is others = (is, others)

  all_numbered : (numbering : Numbering) (machines : List ℕ) → AllByRecursion (HasItsNumber numbering) (numbered_of draft elements.Vertex numbering machines)
  all_numbered numbering [] = tt
  all_numbered numbering (m ∷ machines) =
      each_append (HasItsNumber numbering) (filter_map (with_number numbering) (own_elements draft elements.Vertex m)) (numbered_of draft elements.Vertex numbering machines)
      (own_numbered numbering (own_elements draft elements.Vertex m)) (all_numbered numbering machines)

  forms_numbered : (numbering : Numbering) (k : ℕ) (ns : List Numbered) → AllByRecursion (HasItsNumber numbering) ns
      → AllByRecursion (λ (e : ElementRef). number_in numbering e ≡ Some k) (forms_of ns k)
  forms_numbered numbering k [] all = tt
  forms_numbered numbering k (n ∷ ns) all = go (n.number == k) refl (forms_numbered numbering k ns all.1) where
    go : (b : Bool) → (n.number == k) ≡ b → AllByRecursion (λ (e : ElementRef). number_in numbering e ≡ Some k) (forms_of ns k)
        → AllByRecursion (λ (e : ElementRef). number_in numbering e ≡ Some k) (map (λ (x : Numbered). x.element) (cond b (n ∷ filter (λ (x : Numbered). x.number == k) ns) (filter (λ (x : Numbered). x.number == k) ns)))
    go true e others = (all.0 ∙ ap Some (eqb-true n.number k e), others)
    go false e others = others

  some_at : (lists : List (List ElementRef)) (k : ℕ) (forms : List ElementRef) → slice_get lists k ≡ Some forms → list_at lists k ≡ forms
  some_at [] k forms at = absurd cc
  some_at (l ∷ lists) zero forms at = cc
  some_at (l ∷ lists) (suc k) forms at = some_at lists k forms at

  module _ (class : ℕ) (flat : FlatDraft) (flattens : Flattens draft class flat) where
    -- The forms of a vertex have its number.
    numbers : (k : ℕ) (forms : List ElementRef) → slice_get flattens.flattened.gathered.vertices k ≡ Some forms
        → AllByRecursion (λ (e : ElementRef). number_in flattens.flattened.lineage.vertices e ≡ Some k) forms
    numbers k forms at =
        let whole = flattens.flattened in
        let numbering = whole.lineage.vertices in
        let groups = whole.gathers.vertices in
        let size = groups.all in
        let less = slice_get_within whole.gathered.vertices k forms at in
        let same = sym (groups.forms k (omega (arith, less, size))) ∙ some_at whole.gathered.vertices k forms at in
        subst (AllByRecursion (λ (e : ElementRef). number_in numbering e ≡ Some k)) same
        (forms_numbered numbering k (numbered_of draft elements.Vertex numbering whole.lineage.machines) (all_numbered numbering whole.lineage.machines))

    -- Where one of two elements of a number is a State the other is.
    two_forms : (k : ℕ) (e f : ElementRef) → number_in flattens.flattened.lineage.vertices e ≡ Some k
        → number_in flattens.flattened.lineage.vertices f ≡ Some k → is_state_at e ≡ is_state_at f
    two_forms k e f one two =
        let numbers = flattens.flattened.inherits.vertices in
        let first = numbers.sound e k one in
        let second = numbers.sound f k two in
        let same : Some first.2.0 ≡ Some second.2.0 = sym first.2.1 ∙ second.2.1 in
        let origin : first.2.0 ≡ second.2.0 = cc in
        became_state flattens.of.machine flattens.keeps first.2.2 first.0 ∙ ap is_state_at origin ∙ sym (became_state flattens.of.machine flattens.keeps second.2.2 second.0)

    -- Where the first form is no State none is.
    no_states : (k : ℕ) (forms : List ElementRef) → slice_get flattens.flattened.gathered.vertices k ≡ Some forms
        → is_state_kind (first_kind draft forms) ≡ false
        → AllByRecursion (λ (e : ElementRef). is_state_at e ≡ false) forms
    no_states k [] at passive = tt
    no_states k (e ∷ forms) at passive =
        let all = numbers k (e ∷ forms) at in
        let first : is_state_at e ≡ false = sym (first_is (e ∷ forms) e refl) ∙ passive in
        each_with (λ (f : ElementRef). number_in flattens.flattened.lineage.vertices f ≡ Some k) (λ (f : ElementRef). is_state_at f ≡ false) (e ∷ forms)
        (λ f has. sym (two_forms k e f all.0 has) ∙ first) all

    times_same : (slots : List (Option Body)) (order : List Place) → IsOrder slots order → (s : ℕ) → times s order ≡ times s (places_from 0 slots)
    times_same slots order h s =
        added_is (at_slot s) order ∙ sum_by-IsPermutation (at_slot s) (places_from 0 slots) order h.same ∙ sym (added_is (at_slot s) (places_from 0 slots))

    vertex_fits : (k : ℕ) (forms : List ElementRef) → slice_get flattens.flattened.gathered.vertices k ≡ Some forms
        → Fits (number_from 1 flattens.flattened.merged.order) (3 * k) (vertex_slots draft forms)
    vertex_fits k forms at =
        let from = flattens.flattened.gathered in
        let order = flattens.flattened.merged.order in
        let slots = slots_of draft from.vertices from.transitions in
        let fit = fits slots order (times_same slots order flattens.flattened.merged.ordered) in
        fits_each (number_from 1 order) 3 (vertex_slots draft) (λ y. refl) from.vertices (λ j. 3 * j) (λ j. omega arith)
        (fits_front (number_from 1 order) 0 (flat_map (vertex_slots draft) from.vertices) (flat_map (transition_slots draft) from.transitions) fit) k forms at

    still_vertex : (k : ℕ) (forms : List ElementRef) (x : Vertex) (owner : Owner) → slice_get flattens.flattened.gathered.vertices k ≡ Some forms
        → IsMergedVertex draft owner (number_from 1 flattens.flattened.merged.order (3 * k)) (number_from 1 flattens.flattened.merged.order (3 * k + 1)) (number_from 1 flattens.flattened.merged.order (3 * k + 2)) forms x
        → is_state_kind x.kind ≡ false → IsPassive x
    still_vertex k forms x owner at merged passive =
        let f = number_from 1 flattens.flattened.merged.order in
        let none = no_states k forms at (ap is_state_kind (sym merged.kind) ∙ passive) in
        let quiet = each_with (λ (e : ElementRef). is_state_at e ≡ false) Quiet forms quiet_form none in
        let entry = none_given (given_entry draft) forms (each_with Quiet (λ e. given_entry draft e ≡ None) forms (λ e q. q.0) quiet) in
        let exit = none_given (given_exit draft) forms (each_with Quiet (λ e. given_exit draft e ≡ None) forms (λ e q. q.1) quiet) in
        let steps = none_given (given_steps draft) forms (each_with Quiet (λ e. given_steps draft e ≡ None) forms (λ e q. q.2) quiet) in
        let defers = no_flat (deferred draft) forms (each_with Quiet (λ e. deferred draft e ≡ []) forms (λ e q. q.3) quiet) in
        let fit = vertex_fits k forms at in
        let next : 3 * k + 1 + 1 ≡ 3 * k + 2 = omega arith in
        let one : f (3 * k) ≡ 0 = agrees (f (3 * k)) (last_given (given_entry draft) forms) entry fit.0 in
        let two : f (3 * k + 1) ≡ 0 = agrees (f (3 * k + 1)) (last_given (given_exit draft) forms) exit fit.1.0 in
        let three : f (3 * k + 2) ≡ 0 = ap f (sym next) ∙ agrees (f (3 * k + 1 + 1)) (last_given (given_steps draft) forms) steps fit.1.1.0 in
        record {
          entry = ap (λ a. a.0) merged.on_entry ∙ one;
          exit = ap (λ a. a.0) merged.on_exit ∙ two;
          steps = merged.doing ∙ ap steps_numbered three;
          defers = none_contained x.defers (λ g has. empty_contains g (subst (λ gs. Contains gs g) defers ((merged.defers.same g).0 has)));
        } where
          agrees : (n : ℕ) (slot : Option Body) → slot ≡ None → Agrees n slot → n ≡ 0
          agrees n slot is has = subst (Agrees n) is has

    -- What is known of the vertices.
    pub flat_vertices : AllByRecursion IsFlatVertex flat.machine.vertices
    flat_vertices = each_from IsFlatVertex flat.machine.vertices one where
      one : (k : ℕ) (x : Vertex) → slice_get flat.machine.vertices k ≡ Some x → IsFlatVertex x
      one k x at =
          let whole = flattens.flattened in
          let merged = whole.merged.machine.vertices in
          let forms = other_at flat.machine.vertices whole.gathered.vertices k x merged.all at in
          let all : length whole.gathered.vertices ≡ length whole.gathered.owners = sym (owners_all _ _ _ whole.gathers) in
          let owner = other_at whole.gathered.vertices whole.gathered.owners k forms.0 all forms.1 in
          let is = merged.each k owner.0 forms.0 x owner.1 forms.1 at in
          record {
            label = subst IsLabel (sym is.label) (merged_label forms.0);
            still = still_vertex k forms.0 x owner.0 forms.1 is;
            ascending = above_from 0 x.defers is.defers.ascending (λ g there. omega arith);
          }

    -- The triggers of the transitions ascend.
    pub flat_triggers_ascend : AllByRecursion (λ (x : Transition). AreAbove 0 x.triggers) flat.machine.transitions
    flat_triggers_ascend = each_from _ flat.machine.transitions one where
      first_ascend : (forms : List ElementRef) → AreAbove 0 (first_triggers draft forms)
      first_ascend [] = tt
      first_ascend (e ∷ forms) = go (transition_of draft e) refl where
        go : (o : Option PartTransition) → transition_of draft e ≡ o → AreAbove 0 (option_map_or (λ (t : PartTransition). t.triggers) o [])
        go None is = tt
        go (Some t) is = transition_written e t is

      one : (k : ℕ) (x : Transition) → slice_get flat.machine.transitions k ≡ Some x → AreAbove 0 x.triggers
      one k x at =
          let whole = flattens.flattened in
          let merged = whole.merged.machine.transitions in
          let forms = other_at flat.machine.transitions whole.gathered.transitions k x merged.all at in
          let all : length whole.gathered.transitions ≡ length whole.gathered.ends = sym (ends_all _ _ _ whole.gathers) in
          let ends = other_at whole.gathered.transitions whole.gathered.ends k forms.0 all forms.1 in
          subst (AreAbove 0) (sym (merged.each k ends.0 forms.0 x ends.1 forms.1 at).triggers) (first_ascend forms.0)
