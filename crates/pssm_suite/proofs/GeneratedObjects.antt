-- The two objects of the generated setting, and their classes.
use Rattle.std.proofs.Common.{◌≡◌, ◌⊎◌, ℕ, zero, suc, Some, None, refl, ap, inl, inr}
use Rattle.pssm_semantics.specs.declared.entry.ObjectId.{ObjectId}
use Rattle.pssm_semantics.specs.declared.setting.Class.{Class}
use Rattle.pssm_semantics.specs.Settings.{class_of}
use Rattle.pssm_suite.specs.GeneratedSetting.{front, back, generated_setting}

-- `a`, which is of the class `Front`, and `b`, which is of the class `Back`
abbrev pub front_object : ObjectId
front_object = record { 0 = 0 }

abbrev pub back_object : ObjectId
back_object = record { 0 = 1 }

pub front_class : (n : ℕ) → class_of (generated_setting n) front_object ≡ Some (front n)
unfolding generated_setting
front_class n = refl

pub back_class : (n : ℕ) → class_of (generated_setting n) back_object ≡ Some back
unfolding generated_setting
back_class n = refl

which : (n k : ℕ) (class : Class) → class_of (generated_setting n) (record { 0 = k }) ≡ Some class → ((k ≡ 0) × (class ≡ front n)) ⊎ ((k ≡ 1) × (class ≡ back))
unfolding generated_setting
which n zero class is = inl (refl, cc)
which n (suc zero) class is = inr (refl, cc)
which n (suc (suc k)) class is = absurd (let none : None ≡ Some class = is in cc)

-- There are no others.
pub which_object : (n : ℕ) (o : ObjectId) (class : Class) → class_of (generated_setting n) o ≡ Some class
    → ((o ≡ front_object) × (class ≡ front n)) ⊎ ((o ≡ back_object) × (class ≡ back))
which_object n o class is = elim (which n o.0 class is) [
  | inl h ↦ inl (ap (λ k. let q : ObjectId = record { 0 = k } in q) h.0, h.1)
  | inr h ↦ inr (ap (λ k. let q : ObjectId = record { 0 = k } in q) h.0, h.1)
]
