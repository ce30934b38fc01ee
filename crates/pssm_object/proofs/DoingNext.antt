-- The next do step of a vertex, read off the tables.
use Rattle.std.proofs.Common.{◌≡◌, ◌⊎◌, ◌↔◌, ◌<◌, ◌≤◌, ◌&&◌, ℕ, List, [], ◌∷◌, length, Bool, true, false, IsTrue, if◌then◌else◌, nat_lt, Option, Some, None, slice_index, slice_index_or, refl, sym, ap, subst, ◌∙◌, inl, inr, arith}
use Rattle.std.specs.Option.{option_map_or}
use Rattle.std.proofs.lemmas.Bool.{cases_order, false≢true}
use Rattle.std.proofs.lemmas.Bool.Decides.{Decides-and, Decides-ltb}
use Rattle.pssm_model.specs.declared.ids.VertexId.{VertexId}
use Rattle.pssm_model.specs.declared.ids.ActId.{ActId}
use Rattle.pssm_model.specs.declared.elements.DraftMachine.{DraftMachine}
use Rattle.pssm_model.specs.declared.elements.Vertex.{Vertex}
use Rattle.pssm_model.specs.declared.elements.VertexKind.TheVariants as kinds
use Rattle.pssm_model.specs.declared.elements.Element.TheVariants as elements
use Rattle.pssm_model.specs.declared.elements.FaultPlace.TheVariants as places
use Rattle.pssm_model.specs.Forest.{vertex_at, HasKind, IsStateOrFinal}
use Rattle.pssm_model.specs.Configuration.{Configuration, IsNextDoStep, do_steps_of}
use Rattle.pssm_model.specs.Changes.{Agree}
use Rattle.pssm_model.specs.WellFormed.{KeepsModelRules}
use Rattle.pssm_model.specs.WellFormed.Breaks.{E11}
use Rattle.pssm_model.proofs.ElementLaws.{mapped_some, and_some}
use Rattle.pssm_config.specs.Tables.{Tables, Fits, configuration_of}
use Rattle.pssm_semantics.specs.declared.setting.Class.{Class}
use Rattle.pssm_semantics.specs.Classes.{IsWellFormedClass}
use Rattle.pssm_semantics_laws.proofs.SettingClasses.{all_there}
use Rattle.pssm_object.specs.Doing.{next_do_step}

-- numbers with the same numbers below them are one
pub same_count : (a b : ℕ) → ((k : ℕ) → (k < a) ↔ (k < b)) → a ≡ b
same_count a b same = elim (cases_order a b) [
  | inl is ↦ is
  | inr (inl fewer) ↦ absurd (let lt = (same a).1 fewer in omega (arith, lt))
  | inr (inr more) ↦ absurd (let lt = (same b).0 more in omega (arith, lt))
]

some_if : {X : Type 0} (b : Bool) (x y : X) → (if b then Some x else None) ≡ Some y → IsTrue b × (x ≡ y)
some_if true x y e = (refl, (let same : Some x ≡ Some y = e in cc))
some_if false x y e = absurd (let clash : None ≡ Some y = e in cc)

if_some : {X : Type 0} (b : Bool) (x : X) → IsTrue b → Some x ≡ (if b then Some x else None)
if_some true x is = refl
if_some false x is = absurd (false≢true is)

if_none : {X : Type 0} (b : Bool) (x : X) → (IsTrue b → ⊥) → None ≡ (if b then Some x else None)
if_none true x never = absurd (never refl)
if_none false x never = refl

module _ (m : DraftMachine) (t : Tables) (s : VertexId) where
  abbrev is_active : Bool
  is_active = slice_index_or t.active s.0 false

  abbrev done : ℕ
  done = slice_index t.steps s.0

  abbrev has_left : Bool
  has_left = is_active && nat_lt done (do_steps_of m s)

  left_is : IsTrue has_left ↔ (IsTrue is_active × (done < do_steps_of m s))
  left_is = Decides-and is_active (nat_lt done (do_steps_of m s)) (λ e. e, λ e. e) (Decides-ltb done (do_steps_of m s))

  to_next : (k : ℕ) → next_do_step m t s ≡ Some k → IsNextDoStep m (configuration_of t) s k
  to_next k e =
      let both = some_if has_left done k e in
      let yes = left_is.0 both.0 in
      subst (IsNextDoStep m (configuration_of t) s) both.1 (record {
        active = yes.0;
        in_range = yes.1;
        earlier = λ j lt. lt;
        waiting = λ lt. absurd (omega (arith, lt));
      })

  -- the next one is the one whose number is how many are done
  pub next_number : (k : ℕ) → IsNextDoStep m (configuration_of t) s k → done ≡ k
  next_number k h = elim (cases_order done k) [
    | inl is ↦ is
    | inr (inl fewer) ↦ absurd (let lt = h.earlier done fewer in omega (arith, lt))
    | inr (inr more) ↦ absurd (h.waiting more)
  ]

  from_next : (k : ℕ) → IsNextDoStep m (configuration_of t) s k → next_do_step m t s ≡ Some k
  from_next k h =
      let is = next_number k h in
      sym (if_some has_left done (left_is.1 (h.active, subst (λ n. n < do_steps_of m s) (sym is) h.in_range))) ∙ ap Some is

  pub next_exactly : (k : ℕ) → (next_do_step m t s ≡ Some k) ↔ IsNextDoStep m (configuration_of t) s k
  next_exactly k = (to_next k, from_next k)

  -- what is answered is exactly that, where the answer is read off the tables
  pub next_answered : (answer : Option ℕ) → answer ≡ next_do_step m t s → (k : ℕ) → (answer ≡ Some k) ↔ IsNextDoStep m (configuration_of t) s k
  next_answered answer is k = (λ e. to_next k (sym is ∙ e), λ h. is ∙ from_next k h)

  module _ (n : ℕ) (same : (k : ℕ) → (configuration_of t).HasDoneStep s k ↔ (k < n)) where
    n_is : done ≡ n
    n_is = same_count done n same

    pub some_listed : IsTrue is_active → n < do_steps_of m s → Some n ≡ next_do_step m t s
    some_listed active lt =
        ap Some (sym n_is) ∙ if_some has_left done (left_is.1 (active, subst (λ k. k < do_steps_of m s) (sym n_is) lt))

    pub none_listed : (IsTrue is_active → n < do_steps_of m s → ⊥) → None ≡ next_do_step m t s
    none_listed never =
        if_none has_left done (λ is. let both = left_is.0 is in never both.0 (subst (λ k. k < do_steps_of m s) n_is both.1))

-- where two configurations agree, the same do steps are next
pub next_alike : (m : DraftMachine) (a b : Configuration) → Agree a b → (s : VertexId) (k : ℕ) → IsNextDoStep m a s k → IsNextDoStep m b s k
next_alike m a b same s k h = record {
  active = (same.active s).0 h.active;
  in_range = h.in_range;
  earlier = λ j lt. (same.stepped s j).0 (h.earlier j lt);
  waiting = λ did. h.waiting ((same.stepped s k).1 did);
}

-- no State has more than 64 do steps, and no final state has one
module _ (m : DraftMachine) (rules : KeepsModelRules m) (s : VertexId) (x : Vertex) (at : vertex_at m s ≡ Some x) where
  no_final_steps : HasKind m s kinds.Final → (steps : List ActId) → x.steps ≡ steps → length steps ≡ 0
  no_final_steps final [] are = refl
  no_final_steps final (a ∷ rest) are =
      absurd (rules (places.At (elements.Vertex s)) 11 (E11 (
        final,
        inr (inr (and_some
            (λ (y : Vertex). (y.entry.0 ≡ 0 → ⊥) ⊎ (y.exit.0 ≡ 0 → ⊥) ⊎ (y.steps ≡ [] → ⊥) ⊎ (y.defers ≡ [] → ⊥)) (vertex_at m s) x at
            (inr (inr (inl (λ none. let clash : a ∷ rest ≡ [] = sym are ∙ none in cc)))))),
      )))

module _ (class : Class) (b : IsWellFormedClass class) (s : VertexId) where
  steps_here : (x : Vertex) → vertex_at class.machine s ≡ Some x → do_steps_of class.machine s ≡ length x.steps
  steps_here x at = ap (λ o. option_map_or (λ (y : Vertex). length y.steps) o 0) at

  by_kind : IsStateOrFinal class.machine s → do_steps_of class.machine s ≤ 64
  by_kind (inl state) =
      let at = mapped_some (λ (x : Vertex). x.kind) (vertex_at class.machine s) kinds.State state in
      let few = all_there (λ (x : Vertex). x.kind ≡ kinds.State → length x.steps ≤ 64) class.machine.vertices s.0 at.0
      b.proper.machine.few_steps at.1 at.2 in
      let is = steps_here at.0 at.1 in
      omega (arith, few, is)
  by_kind (inr final) =
      let at = mapped_some (λ (x : Vertex). x.kind) (vertex_at class.machine s) kinds.Final final in
      let none = no_final_steps class.machine b.rules s at.0 at.1 final at.0.steps refl in
      let is = steps_here at.0 at.1 in
      omega (arith, none, is)

  pub few_steps : (t : Tables) → Fits class.machine t → (k : ℕ) → IsNextDoStep class.machine (configuration_of t) s k → slice_index t.steps s.0 < 65535
  few_steps t fits k h =
      let few = by_kind (fits.states s h.active) in
      let is = next_number class.machine t s k h in
      let lt = h.in_range in
      omega (arith, few, is, lt)
