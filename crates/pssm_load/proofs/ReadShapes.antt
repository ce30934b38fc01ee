-- The machines of a setting that was read have the shape of machines.
use Rattle.std.proofs.Common.{◌≡◌, ℕ, suc, List, [], ◌∷◌, refl, Some, slice_get}
use Rattle.std.specs.List.{AllByRecursion}
use Rattle.pssm_model.specs.Shapes.{HasShape}
use Rattle.pssm_semantics.specs.declared.setting.Class.{Class}
use Rattle.pssm_semantics.specs.declared.setting.Setting.{Setting}
use Rattle.pssm_load.specs.Loads.{Reads, flat, model_file}

-- What holds of the class with each number holds of all.
by_number : (P : Class → Type 0) (classes : List Class) → ((number : ℕ) (class : Class) → slice_get classes number ≡ Some class → P class)
    → AllByRecursion P classes
by_number P [] each = tt
by_number P (x ∷ xs) each = (each 0 x refl, by_number P xs (λ number class at. each (suc number) class at))

pub have_shape : (bytes : List ℕ) (s : Setting) → Reads bytes s → AllByRecursion (λ (x : Class). HasShape x.machine) s.classes
have_shape bytes s (flat begins is spelled) = is.shape
have_shape bytes s (model_file draft other reads is) =
    by_number (λ (x : Class). HasShape x.machine) s.classes (λ number class at. (is.classes.each number class at).shape)
