-- Why a word is read as no number: it is not written as one, or it is too wide.
use Rattle.std.proofs.Common.{◌≡◌, ◌⊎◌, inl, inr, ℕ, suc, zero, ◌^◌, pos, negsuc, Bool, true, false, ltb, eqb, List, [], ◌∷◌, Ok, Err, refl, sym, ap, ◌∙◌, subst, if◌then◌else◌}
use Rattle.std.specs.Str.Parse.{digits_value}
use Rattle.std.proofs.lemmas.Bool.{eqb-true}
use Rattle.pssm_acts.specs.declared.act_fault.ActFault.{ActFault}
use Rattle.pssm_acts.specs.declared.act_fault.ActFault.TheVariants.{Syntax, WideNumber}
use Rattle.pssm_spelling.specs.Numbers.{is_natural}
use Rattle.pssm_acts.specs.inner.NumberReading.{natural_read, negative_value, negative_read, number_read}
use Rattle.pssm_acts.specs.Shapes.{IsWritten, natural, negative}
use Rattle.pssm_acts.proofs.NumberSpelled.{minus_first}

-- Why a word is read as no number.
pub data NumberFault (at : ℕ) (word : List ℕ) : ActFault → Type 0 where
  unwritten : (IsWritten word → ⊥) → NumberFault at word (Syntax at)
  too_wide : IsWritten word → NumberFault at word (WideNumber at)

-- a word that is written as a number, with its digits
written_parts : {word : List ℕ} → IsWritten word → (is_natural word ≡ true) ⊎ ((digits : List ℕ) × (below : ℕ) × (word ≡ 45 ∷ digits) × (is_natural digits ≡ true) × (digits_value 10 digits ≡ suc below))
written_parts (natural plain) = inl plain
written_parts (negative {digits} {below} plain value) = inr (digits, below, refl, plain, value)

natural_fault : (at : ℕ) (word : List ℕ) (fault : ActFault) → ((digits : List ℕ) → word ≡ 45 ∷ digits → ⊥) → natural_read at word ≡ Err fault → NumberFault at word fault
unfolding natural_read
natural_fault at word fault plus read = go (is_natural word) refl (ltb (digits_value 10 word) (2 ^ 63)) refl read where
  never : is_natural word ≡ false → IsWritten word → ⊥
  never plain written = parts (written_parts written) where
    parts : ((is_natural word ≡ true) ⊎ ((digits : List ℕ) × (below : ℕ) × (word ≡ 45 ∷ digits) × (is_natural digits ≡ true) × (digits_value 10 digits ≡ suc below))) → ⊥
    parts (inl is) = absurd cc
    parts (inr is) = plus is.0 is.2

  go : (p : Bool) → is_natural word ≡ p → (q : Bool) → ltb (digits_value 10 word) (2 ^ 63) ≡ q
      → (if p then (if q then Ok (pos (digits_value 10 word)) else Err (WideNumber at)) else Err (Syntax at)) ≡ Err fault → NumberFault at word fault
  go true plain true small is = absurd cc
  go true plain false small is = let same : WideNumber at ≡ fault = cc in subst (λ x. NumberFault at word x) same (too_wide (natural plain))
  go false plain q small is = let same : Syntax at ≡ fault = cc in subst (λ x. NumberFault at word x) same (unwritten (never plain))

negative_fault : (at : ℕ) (digits : List ℕ) (fault : ActFault) → negative_read at digits ≡ Err fault → NumberFault at (45 ∷ digits) fault
unfolding negative_read
negative_fault at digits fault read = go (is_natural digits) refl (digits_value 10 digits) refl read where
  never : ((below : ℕ) → is_natural digits ≡ true → digits_value 10 digits ≡ suc below → ⊥) → IsWritten (45 ∷ digits) → ⊥
  never none written = parts (written_parts written) where
    parts : ((is_natural (45 ∷ digits) ≡ true) ⊎ ((ds : List ℕ) × (below : ℕ) × (45 ∷ digits ≡ 45 ∷ ds) × (is_natural ds ≡ true) × (digits_value 10 ds ≡ suc below))) → ⊥
    parts (inl is) = minus_first 45 digits is refl
    parts (inr is) = let same : digits ≡ is.0 = (let e = is.2 in cc) in none is.1 (ap is_natural same ∙ is.3) (ap (λ x. digits_value 10 x) same ∙ is.4)

  wide : (below : ℕ) → is_natural digits ≡ true → digits_value 10 digits ≡ suc below → (q : Bool) → (if q then Ok (negsuc below) else Err (WideNumber at)) ≡ Err fault → NumberFault at (45 ∷ digits) fault
  wide below plain value true is = absurd cc
  wide below plain value false is = let same : WideNumber at ≡ fault = cc in subst (λ x. NumberFault at (45 ∷ digits) x) same (too_wide (negative plain value))

  go : (p : Bool) → is_natural digits ≡ p → (v : ℕ) → digits_value 10 digits ≡ v → (if p then negative_value at v else Err (Syntax at)) ≡ Err fault → NumberFault at (45 ∷ digits) fault
  go true plain zero value is = let same : Syntax at ≡ fault = cc in subst (λ x. NumberFault at (45 ∷ digits) x) same (unwritten (never (λ below plain' some. absurd cc)))
  go true plain (suc v) value is = wide v plain value (ltb v (2 ^ 63)) is
  go false plain v value is = let same : Syntax at ≡ fault = cc in subst (λ x. NumberFault at (45 ∷ digits) x) same (unwritten (never (λ below plain' some. absurd cc)))

pub number_fault : (at : ℕ) (word : List ℕ) (fault : ActFault) → number_read at word ≡ Err fault → NumberFault at word fault
unfolding number_read
number_fault at [] fault read = natural_fault at [] fault (λ digits e. absurd cc) read
number_fault at (c ∷ cs) fault read = go (eqb c 45) refl read where
  go : (b : Bool) → eqb c 45 ≡ b → (if b then negative_read at cs else natural_read at (c ∷ cs)) ≡ Err fault → NumberFault at (c ∷ cs) fault
  go true e is = subst (λ x. NumberFault at (x ∷ cs) fault) (sym (eqb-true c 45 e)) (negative_fault at cs fault is)
  go false e is = natural_fault at (c ∷ cs) fault (λ digits w. let first : c ≡ 45 = cc in let same : eqb c 45 ≡ true = rw first refl in absurd cc) is
