-- The elements of one kind, one after another.
use Rattle.std.proofs.Common.{◌≡◌, ◌<◌, ℕ, List, length, get_or, refl, subst, ⊎_elim, arith}
use Rattle.pssm_model.specs.declared.elements.DraftMachine.{DraftMachine}
use Rattle.std.proofs.lemmas.Option.{slice_get_read}
use Rattle.pssm_model.specs.declared.elements.Transition.{Transition}
use Rattle.pssm_model.specs.declared.shape.PlaceKind.{PlaceKind}
use Rattle.pssm_model.specs.inner.Faultless.{IsFaultless, place_element, transition_element, AreFaultless, AreDepthsOf}

-- the places below a number, and their depths
pub record IsChecked (m : DraftMachine) (kind : PlaceKind) (number : ℕ) (found : List ℕ) : Type 0 where
  pub length_is : length found ≡ number
  pub sound : AreFaultless m (place_element kind) number
  pub depths : AreDepthsOf m kind found

-- a transition whose ends are vertices, with a number below the limit
pub sound_transition : (m : DraftMachine) (n : ℕ) (x : Transition) → n < length m.transitions → x ≡ get_or m.transitions n x
    → (x.source.0 < length m.vertices) × (x.target.0 < length m.vertices) → n < 8192 → IsFaultless m (transition_element n)
sound_transition m n x lt here ends few = record {
  owner = λ p none. absurd (cc);
  ends = λ bad.
      let at = slice_get_read m.transitions (length m.transitions) n x refl lt here in
      let same : x ≡ bad.0 = let there = bad.1 in cc in
      ⊎_elim
      (λ wrong. let fine = subst (λ (y : Transition). y.source.0 < length m.vertices) same ends.0 in omega arith)
      (λ wrong. let fine = subst (λ (y : Transition). y.target.0 < length m.vertices) same ends.1 in omega arith)
      bad.2;
  limit = λ past. omega (arith, past.0);
}
