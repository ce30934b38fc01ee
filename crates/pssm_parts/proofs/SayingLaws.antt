-- The integer that a word spells is the one that is computed of it.
use Rattle.std.proofs.Common.{◌≡◌, ◌↔◌, ℕ, ℤ, pos, Bool, true, false, cond, eqb, List, [], ◌∷◌, Option, Some, None, IsTrue, refl, sym, ap, subst, arith}
use Rattle.std.specs.Prelude.{neg_ℤ}
use Rattle.std.specs.Option.{option_map_or}
use Rattle.std.specs.Str.Parse.{digits_value}
use Rattle.std.specs.List.{list_all}
use Rattle.std.proofs.lemmas.Bool.{and_parts}
use Rattle.pssm_spelling.specs.SpellingReading.{is_digit, is_plain}
use Rattle.pssm_spelling.specs.Numbers.{is_natural, SpellsNumber, natural, negative}
use Rattle.pssm_values.specs.Integers.{SaysInteger}
use Rattle.pssm_parts.specs.FirstValues.{integer_spelled}

-- A digit is no `-`.
no_sign : (c : ℕ) → is_digit c ≡ true → eqb c 45 ≡ false
no_sign c digit = grind (arith, digit)

of_digits : (digits : List ℕ) → IsTrue (is_natural digits) → integer_spelled digits ≡ pos (digits_value 10 digits)
of_digits [] is = absurd cc
of_digits (c ∷ cs) is =
    let digit : is_digit c ≡ true = (and_parts (is_digit c) (list_all is_digit cs) (and_parts (is_plain (c ∷ cs)) (list_all is_digit (c ∷ cs)) is).1).0 in
    ap (λ (b : Bool). cond b (neg_ℤ (pos (digits_value 10 cs))) (pos (digits_value 10 (c ∷ cs)))) (no_sign c digit)

pub is_spelled : (word : List ℕ) (i : ℤ) → SpellsNumber word i → integer_spelled word ≡ i
is_spelled word i (natural {digits} is small) = of_digits digits is
is_spelled word i (negative {digits} {below} is same small) = ap (λ (k : ℕ). neg_ℤ (pos k)) same

pub is_said : (o : Option (List ℕ)) (i : ℤ) → SaysInteger o i → option_map_or integer_spelled o (pos 0) ≡ i
is_said None i says = sym says
is_said (Some word) i says = is_spelled word i says

-- What is read is the integer that is said.
pub read_is_said : (own told : Option (List ℕ)) (i : ℤ) → told ≡ own → ((n : ℤ) → (Some i ≡ Some n) ↔ SaysInteger told n) → i ≡ option_map_or integer_spelled own (pos 0)
read_is_said own told i same tells = sym (is_said own i (subst (λ (o : Option (List ℕ)). SaysInteger o i) same ((tells i).0 refl)))

-- Something is read where something is said.
pub said_is_read : (own told : Option (List ℕ)) → told ≡ own → ((i : ℤ) × SaysInteger own i) → ((n : ℤ) → (None ≡ Some n) ↔ SaysInteger told n) → ⊥
said_is_read own told same says tells =
    let none : None ≡ Some says.0 = (tells says.0).1 (subst (λ (o : Option (List ℕ)). SaysInteger o says.0) (sym same) says.1) in
    cc
