-- Tests, and what is picked by them.
use Rattle.std.proofs.Common.{◌≡◌, ◌&&◌, Bool, true, false, Option, Some, None, refl, sym, ◌∙◌}
use Rattle.std.specs.Prelude.{is_some, if◌then◌else◌}

pub by_test : {P : Type 0} (b : Bool) → (b ≡ true → P) → (b ≡ false → P) → P
by_test true on off = on refl
by_test false on off = off refl

pub opposite : (b : Bool) → b ≡ true → b ≡ false → ⊥
opposite b here other = let wrong = sym here ∙ other in absurd (cc)

pub both : (a b : Bool) → (a && b) ≡ true → (a ≡ true) × (b ≡ true)
both true b here = (refl, here)
both false b here = absurd (cc)

-- What holds of two holds of what is picked of them.
pub picked : {X : Type 0} (P : X → Type 0) (b : Bool) (x y : X) → P x → P y → P (if b then x else y)
picked P true x y one other = one
picked P false x y one other = other

pub some_there : {X : Type 0} (o : Option X) → is_some o ≡ true → (x : X) × (o ≡ Some x)
some_there None some = absurd (cc)
some_there (Some x) some = (x, refl)
