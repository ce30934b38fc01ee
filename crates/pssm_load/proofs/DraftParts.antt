-- The parts of the draft of a model file: labels are texts, only States behave, triggers ascend, and first values have 64 bits.
use Rattle.std.proofs.Common.{◌≡◌, ◌<◌, ◌≤◌, ◌+◌, ◌==◌, ℕ, ℤ, pos, Bool, true, false, cond, eqb, List, [], ◌∷◌, ◌++◌, filter, length, map, get_or, Option, Some, None, refl, sym, subst, arith, append_assoc, length-append, codes, IsTrue}
use Rattle.std.specs.List.{AllByRecursion}
use Rattle.std.specs.Option.{option_map_or}
use Rattle.std.specs.Prelude.{IfSome}
use Rattle.std.proofs.Math.Seq.{get_or-append_seam}
use Rattle.std.proofs.lemmas.List.Sums.{position_or_len_is}
use Rattle.pssm_spelling.specs.Numbers.{SpellsNumber, natural, negative}
use Rattle.pssm_model.specs.declared.ids.SignalId.{SignalId}
use Rattle.pssm_model.specs.declared.elements.VertexKind.{VertexKind}
use Rattle.pssm_model.specs.declared.elements.VertexKind.TheVariants as kinds
use Rattle.pssm_model.specs.declared.draft_setting.Draft.{Draft}
use Rattle.pssm_model.specs.declared.draft_setting.DraftClass.{DraftClass}
use Rattle.pssm_model.specs.declared.draft_setting.DraftParts.{DraftParts}
use Rattle.pssm_model.specs.declared.draft_setting.DraftVar.{DraftVar}
use Rattle.pssm_model.specs.declared.draft_setting.PartVertex.{PartVertex}
use Rattle.pssm_model.specs.declared.draft_setting.PartTransition.{PartTransition}
use Rattle.pssm_roles.specs.declared.role.Role.{Role}
use Rattle.pssm_roles.specs.declared.role.Role.TheVariants as role
use Rattle.pssm_values.specs.Labels.{label_said}
use Rattle.pssm_values.specs.Integers.{SaysInteger}
use Rattle.pssm_xml.specs.TextFaults.{HasElements}
use Rattle.pssm_profile.specs.Counts.{said}
use Rattle.pssm_profile.specs.Faults.{HasNoProfileFault}
use Rattle.pssm_profile.specs.Kinds.{IsVariable}
use Rattle.pssm_numbering.specs.Numbering.{ModelFile, role_at, own_with, children_with, child_named, place_in, signals, machines, classes, is_signal, is_vertex, is_transition, is_attribute}
use Rattle.pssm_numbering.specs.Kinds.{is_any_state}
use Rattle.pssm_numbering.specs.Meanings.{value, waits_for, is_variable, variables}
use Rattle.pssm_parts.specs.Elements.{kind_of, is_state, label_of, state_at, pseudostate_at, vertex_at, transition_at}
use Rattle.pssm_drafting.specs.Drafts.{draft_of, parts_at, class_at, variable_at}
use Rattle.pssm_parts.specs.FirstValues.{integer_spelled, first_value}
use Rattle.pssm_parts.proofs.SayingLaws.{is_said}
use Rattle.pssm_xmi.proofs.DefaultLaws.{integer_first}
use Rattle.pssm_xmi.proofs.Numbers.{StandsIn, passing, all_made}
use Rattle.pssm_flat.specs.Flat.{IsInteger, IsLabel}
use Rattle.pssm_named.proofs.ListLaws.{Rise, firsts_rise}
use Rattle.pssm_load.proofs.AttributeTexts.{ElementTexts, elements_utf8, value_texts, label_is}

-- a State, final or not
abbrev pub is_state_kind : VertexKind → Bool
is_state_kind kinds.State = true
is_state_kind kinds.Final = true
is_state_kind _ = false

-- a vertex without behaviours and deferred signals
pub record IsQuiet (v : PartVertex) : Type 0 where
  pub entry : v.entry ≡ None
  pub exit : v.exit ≡ None
  pub steps : v.steps ≡ None
  pub defers : v.defers ≡ []

-- A label is a text, and a vertex that is no State is quiet.
pub record IsWrittenPart (v : PartVertex) : Type 0 where
  pub label : (l : List ℕ) → v.label ≡ Some l → IsLabel l
  pub quiet : is_state_kind v.kind ≡ false → IsQuiet v

-- numbers of signals from this one on, in strictly ascending order
abbrev pub AreAbove : ℕ → List SignalId → Type 0
AreAbove low [] = Unit {0}
AreAbove low (g ∷ gs) = (low ≤ g.0) × AreAbove (g.0 + 1) gs

abbrev pub AreWrittenParts : DraftParts → Type 0
AreWrittenParts p = AllByRecursion IsWrittenPart p.vertices × AllByRecursion (λ (t : PartTransition). AreAbove 0 t.triggers) p.transitions

pub record HasWrittenParts (draft : Draft) : Type 0 where
  pub machines : AllByRecursion AreWrittenParts draft.machines
  pub firsts : AllByRecursion (λ (c : DraftClass). AllByRecursion (λ (v : DraftVar). IsInteger v.first) c.vars) draft.classes

-- ---- signals

pub above_weak : (low high : ℕ) (gs : List SignalId) → low ≤ high → AreAbove high gs → AreAbove low gs
above_weak low high [] le all = tt
above_weak low high (g ∷ gs) le all = (let first = all.0 in omega (arith, le, first), all.1)

abbrev signal_of_place : ℕ → SignalId
signal_of_place n = record { 0 = n }

-- Before a number stand as many as its place says.
place_behind : (front : List ℕ) (x : ℕ) (rest : List ℕ) → Rise (front ++ x ∷ rest) → place_in (front ++ x ∷ rest) x ≡ length front
place_behind front x rest rise =
    let whole : List ℕ = front ++ x ∷ rest in
    let size : length whole ≡ length front + length (x ∷ rest) = length-append front (x ∷ rest) in
    let here : get_or whole (length front) 0 ≡ x = get_or-append_seam front x rest 0 in
    position_or_len_is (λ m. m == x) whole (length front) 0 (omega (arith, size))
    (λ k less. let lower : get_or whole k 0 < get_or whole (length front) 0 = rise k (length front) 0 less (omega (arith, size)) in
    let other : eqb (get_or whole k 0) x ≡ false = grind (arith, lower, here) in other)
    (λ within. let same : eqb (get_or whole (length front) 0) x ≡ true = grind (arith, here) in same)

-- The places of what is kept of numbers that rise ascend.
places_above : (p : ℕ → Bool) (front rest : List ℕ) → Rise (front ++ rest)
    → AreAbove (length front) (map (λ s. signal_of_place (place_in (front ++ rest) s)) (filter p rest))
places_above p front [] rise = tt
places_above p front (x ∷ rest) rise =
    let one : List ℕ = x ∷ [] in
    let same : (front ++ one) ++ rest ≡ front ++ x ∷ rest = append_assoc front one rest in
    let later = places_above p (front ++ one) rest (subst Rise (sym same) rise) in
    let size : length (front ++ one) ≡ length front + 1 = length-append front one in
    let behind = subst (λ (whole : List ℕ). AreAbove (length (front ++ one)) (map (λ s. signal_of_place (place_in whole s)) (filter p rest))) same later in
    let next = subst (λ n. AreAbove n (map (λ s. signal_of_place (place_in (front ++ x ∷ rest) s)) (filter p rest))) size behind in
    go (p x) (place_behind front x rest rise) next where
      go : (b : Bool) → place_in (front ++ x ∷ rest) x ≡ length front
          → AreAbove (length front + 1) (map (λ s. signal_of_place (place_in (front ++ x ∷ rest) s)) (filter p rest))
          → AreAbove (length front) (map (λ s. signal_of_place (place_in (front ++ x ∷ rest) s)) (cond b (x ∷ filter p rest) (filter p rest)))
      go true place next = (omega (arith, place), subst (λ n. AreAbove (n + 1) (map (λ s. signal_of_place (place_in (front ++ x ∷ rest) s)) (filter p rest))) (sym place) next)
      go false place next = above_weak (length front) (length front + 1) (map (λ s. signal_of_place (place_in (front ++ x ∷ rest) s)) (filter p rest)) (omega arith) next

-- ---- first values

short_integer : {word : List ℕ} {n : ℤ} → SpellsNumber word n → IsInteger n
short_integer (natural plain small) = small
short_integer (negative plain value small) = omega (arith, value, small)

said_integer : (o : Option (List ℕ)) (i : ℤ) → SaysInteger o i → IsInteger i
said_integer None i says = subst IsInteger (sym says) (omega arith)
said_integer (Some word) i says = short_integer says

-- ---- the file

module _ (bytes : List ℕ) (file : ModelFile) (text : HasElements bytes file.doc) (none : HasNoProfileFault file.doc) (variable : (n : ℕ) → IsTrue (is_variable file n) → IsVariable file.doc n) where
  texts : ElementTexts file.doc
  texts = elements_utf8 bytes file.doc text

  label_written : (n : ℕ) (l : List ℕ) → label_of file n ≡ Some l → IsLabel l
  label_written n l = go (is_state (role_at file n)) where
    go : (b : Bool) → cond b (label_said (value (codes "name") file n)) None ≡ Some l → IsLabel l
    go true at = label_is (value (codes "name") file n) l (λ v given. value_texts file.doc n (codes "name") v texts given) at
    go false at = absurd cc

  any_state : (n : ℕ) (r : Role) → role_at file n ≡ r → is_any_state r ≡ true → is_state_kind (kind_of file n) ≡ true
  any_state n role.State e is = rw e refl
  any_state n role.FinalState e is = rw e refl
  any_state n _ e is = absurd cc

  vertex_written : (n : ℕ) → IsWrittenPart (vertex_at file n)
  vertex_written n = go (is_any_state (role_at file n)) refl where
    go : (b : Bool) → is_any_state (role_at file n) ≡ b → IsWrittenPart (cond b (state_at file n) (pseudostate_at file n))
    go true e = record { label = label_written n; quiet = λ no. absurd (let is = any_state n (role_at file n) refl e in cc) }
    go false e = record { label = λ l at. absurd cc; quiet = λ no. record { entry = refl; exit = refl; steps = refl; defers = refl } }

  triggers_written : (n : ℕ) → AreAbove 0 (transition_at file n).triggers
  triggers_written n = places_above (waits_for (codes "trigger") file n) [] (signals file) (firsts_rise (λ k. is_signal (role_at file k)) (length file.doc))

  machine_written : (m : ℕ) → AreWrittenParts (parts_at file m)
  machine_written m = (
    all_made IsWrittenPart (vertex_at file) (own_with is_vertex file m) (λ n there. vertex_written n),
    all_made (λ (t : PartTransition). AreAbove 0 t.triggers) (transition_at file) (own_with is_transition file m) (λ n there. triggers_written n),
  )

  first_written : (c v : ℕ) → StandsIn v (variables file c) → IsInteger (first_value file v)
  first_written c v there =
      let is = (passing (is_variable file) v (children_with is_attribute file c) there).0 in
      go (child_named (codes "defaultValue") file v) (integer_first file.doc none v (variable v is) (child_named (codes "defaultValue") file v) refl) where
        go : (found : Option ℕ) → IfSome found (λ d. (i : ℤ) × SaysInteger (said file.doc d (codes "value")) i)
            → IsInteger (option_map_or (λ d. option_map_or integer_spelled (value (codes "value") file d) (pos 0)) found (pos 0))
        go None says = omega arith
        go (Some d) says = subst IsInteger (sym (is_said (value (codes "value") file d) says.0 says.1)) (said_integer (value (codes "value") file d) says.0 says.1)

  pub parts_written : HasWrittenParts (draft_of file)
  parts_written = record {
    machines = all_made AreWrittenParts (parts_at file) (machines file) (λ m there. machine_written m);
    firsts = all_made (λ (c : DraftClass). AllByRecursion (λ (v : DraftVar). IsInteger v.first) c.vars) (class_at file) (classes file)
        (λ c there. all_made (λ (v : DraftVar). IsInteger v.first) (variable_at file) (variables file c) (λ v stands. first_written c v stands));
  }
