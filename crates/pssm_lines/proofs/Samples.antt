-- What begins a name or a number is ended by a sample.
use Rattle.std.proofs.Common.{◌≡◌, ℕ, suc, ◌+◌, ◌-◌, ◌/◌, ◌%◌, ◌^◌, ◌<◌, ◌≤◌, Bool, true, List, [], ◌∷◌, ◌++◌, ℤ, pos, negsuc, refl, sym, ap, subst, ◌∙◌, arith, inl, inr, ◌⊎◌}
use Rattle.std.specs.Prelude.{codes, FitsSigned}
use Rattle.std.specs.Int.{w64}
use Rattle.std.specs.List.{list_all}
use Rattle.std.specs.Fmt.{decimal, signed_decimal}
use Rattle.std.proofs.lemmas.Bool.{and_parts, and_from, cases_lt}
use Rattle.std.proofs.lemmas.List.{append-nil, length-append}
use Rattle.std.proofs.lemmas.Fmt.{decimal_by_steps, decimal_digit, decimal_step}
use Rattle.pssm_spelling.specs.Spelling.{begins_name, continues_name, IsName}
use Rattle.pssm_lines.proofs.Cuts.{Cut, within, beyond, cut, IsClosed, Closes, closed_by_all, closed_already}

-- ---- names

all_front : (p : ℕ → Bool) (front more : List ℕ) → list_all p (front ++ more) ≡ true → list_all p front ≡ true
all_front p [] more e = refl
all_front p (c ∷ front) more e =
    let both = and_parts (p c) (list_all p (front ++ more)) e in
    and_from (p c) (list_all p front) both.0 (all_front p front more both.1)

name_front : (c : ℕ) (front more : List ℕ) → IsName ((c ∷ front) ++ more) → IsName (c ∷ front)
name_front c front more name =
    let both = and_parts (begins_name c) (list_all continues_name (front ++ more)) name.spelled in
    record {
      spelled = and_from (begins_name c) (list_all continues_name front) both.0 (all_front continues_name front more both.1);
      short = omega (arith, name.short, length-append (c ∷ front) more);
    }

pub sample_name : IsName (codes "a")
sample_name = record { spelled = refl; short = omega arith }

name_closed : (front more : List ℕ) → IsName (front ++ more) → IsClosed IsName (codes "a") front
name_closed [] more name = closed_by_all IsName (codes "a") sample_name
name_closed (c ∷ front) more name = closed_already IsName (codes "a") (c ∷ front) (name_front c front more name)

pub closes_name : Closes IsName (codes "a")
closes_name = record { is_text = sample_name; closes = name_closed }

-- ---- numbers

-- What begins a number in decimal is nothing or another number, which is not greater, and 0 only where that is.
pub record IsNumberFront (n : ℕ) (front : List ℕ) : Type 0 where
  pub number : ℕ
  pub is : front ≡ decimal number
  pub low : number ≤ n
  pub some : 0 < n → 0 < number

abbrev HasFronts : ℕ → List ℕ → Type 0
HasFronts n digits = n < 2 ^ 64 → (digits ≡ decimal n) × ((front more : List ℕ) → digits ≡ front ++ more → (front ≡ []) ⊎ IsNumberFront n front)

whole_front : (n : ℕ) (front : List ℕ) → front ≡ decimal n → IsNumberFront n front
whole_front n front is = record { number = n; is = is; low = omega arith; some = λ h. h }

one_digit : (n : ℕ) → n < 10 → HasFronts n ((48 + n) ∷ [])
one_digit n low = λ wide. (sym (decimal_digit n low), fronts) where
  fronts : (front more : List ℕ) → (48 + n) ∷ [] ≡ front ++ more → (front ≡ []) ⊎ IsNumberFront n front
  fronts [] more e = inl refl
  fronts (c ∷ []) more e = let head : 48 + n ≡ c = cc in inr (whole_front n (c ∷ []) (ap (λ (k : ℕ). k ∷ []) (sym head) ∙ sym (decimal_digit n low)))
  fronts (c ∷ d ∷ front) more e = absurd cc

more_digits : (n : ℕ) (ds : List ℕ) → 10 ≤ n → HasFronts (n / 10) ds → HasFronts n (ds ++ ((48 + n % 10) ∷ []))
more_digits n ds high before = λ wide.
    let small : n / 10 < 2 ^ 64 = omega arith in
    let less : n / 10 ≤ n = omega arith in
    let some : 0 < n / 10 = omega arith in
    let known = before small in
    let spelled : ds ++ ((48 + n % 10) ∷ []) ≡ decimal n = ap (λ (t : List ℕ). t ++ ((48 + n % 10) ∷ [])) known.0 ∙ sym (decimal_step n high wide) in
    (spelled, λ front more e. by_cut less some known.0 spelled known.1 front more (cut ds ((48 + n % 10) ∷ []) front more e))
  where
    by_cut : n / 10 ≤ n → 0 < n / 10 → ds ≡ decimal (n / 10) → ds ++ ((48 + n % 10) ∷ []) ≡ decimal n → ((front more : List ℕ) → ds ≡ front ++ more → (front ≡ []) ⊎ IsNumberFront (n / 10) front) → (front more : List ℕ) → Cut ds ((48 + n % 10) ∷ []) front more → (front ≡ []) ⊎ IsNumberFront n front
    by_cut less some ds_is spelled fronts front more (within left ds_parts more_is) = elim (fronts front left ds_parts) [
      | inl none ↦ inl none
      | inr f ↦ inr (record { number = f.number; is = f.is; low = omega (arith, f.low); some = λ h. f.some some })
    ]
    by_cut less some ds_is spelled fronts front more (beyond [] front_is last_is) =
        inr (record { number = n / 10; is = front_is ∙ append-nil ds ∙ ds_is; low = less; some = λ h. some })
    by_cut less some ds_is spelled fronts front more (beyond (d ∷ []) front_is last_is) =
        let head : 48 + n % 10 ≡ d = cc last_is in
        inr (whole_front n front (front_is ∙ ap (λ (k : ℕ). ds ++ k ∷ []) (sym head) ∙ spelled))
    by_cut less some ds_is spelled fronts front more (beyond (d ∷ e ∷ passed) front_is last_is) = absurd (cc last_is)

pub number_front : (n : ℕ) → n < 2 ^ 64 → (front more : List ℕ) → decimal n ≡ front ++ more → (front ≡ []) ⊎ IsNumberFront n front
number_front n wide = (decimal_by_steps HasFronts one_digit more_digits n wide wide).1

-- The text is a number of this range in decimal.
pub record NumberText (least limit : ℕ) (t : List ℕ) : Type 0 where
  pub number : ℕ
  pub low : least ≤ number
  pub small : number < limit
  pub spelled : t ≡ decimal number

one_is : decimal 1 ≡ codes "1"
one_is = decimal_digit 1 (omega arith)

-- a number that may be 0, or that is not
pub closes_number : (least limit : ℕ) → least ≤ 1 → 1 < limit → limit ≤ 4294967296 → Closes (NumberText least limit) (codes "1")
closes_number least limit one some wide = record {
  is_text = sample;
  closes = λ front more is. by_front front is.number is.low is.small (number_front is.number (omega (arith, is.small)) front more (sym is.spelled));
} where
  sample : NumberText least limit (codes "1")
  sample = record { number = 1; low = one; small = some; spelled = sym one_is }

  by_front : (front : List ℕ) (n : ℕ) → least ≤ n → n < limit → (front ≡ []) ⊎ IsNumberFront n front → IsClosed (NumberText least limit) (codes "1") front
  by_front front n low small (inl none) = subst (λ f. IsClosed (NumberText least limit) (codes "1") f) (sym none) (closed_by_all (NumberText least limit) (codes "1") sample)
  by_front front n low small (inr f) = closed_already (NumberText least limit) (codes "1") front (record { number = f.number; low = elim (cases_lt 0 n) [ inl positive ↦ let more : 0 < f.number = f.some positive in omega arith | inr none ↦ omega arith ]; small = omega (arith, f.low, small); spelled = f.is })

-- ---- numbers with a sign

pub record SignedText (t : List ℕ) : Type 0 where
  pub number : ℤ
  pub fits : FitsSigned w64 number
  pub spelled : t ≡ signed_decimal number

one_signed : SignedText (codes "1")
one_signed = record { number = pos 1; fits = record { sfits = omega arith }; spelled = sym one_is }

natural_closed : (n : ℕ) → n < 2 ^ 63 → (front more : List ℕ) → decimal n ≡ front ++ more → IsClosed SignedText (codes "1") front
natural_closed n small front more e = elim (number_front n (omega arith) front more e) [
  | inl none ↦ subst (λ f. IsClosed SignedText (codes "1") f) (sym none) (closed_by_all SignedText (codes "1") one_signed)
  | inr f ↦ closed_already SignedText (codes "1") front (record { number = pos f.number; fits = record { sfits = omega (arith, f.low) }; spelled = f.is })
]

negative_text : (n : ℕ) (k : ℕ) (front : List ℕ) → n < 2 ^ 63 → front ≡ decimal k → k ≤ suc n → 0 < k → SignedText (45 ∷ front)
negative_text n k front small is low some =
    let whole : suc (k - 1) ≡ k = omega arith in
    record { number = negsuc (k - 1); fits = record { sfits = omega arith }; spelled = ap (λ (t : List ℕ). 45 ∷ t) (is ∙ ap decimal (sym whole)) }

negative_closed : (n : ℕ) → n < 2 ^ 63 → (front more : List ℕ) → 45 ∷ decimal (suc n) ≡ front ++ more → IsClosed SignedText (codes "1") front
negative_closed n small [] more e = closed_by_all SignedText (codes "1") one_signed
negative_closed n small (c ∷ front) more e =
    let head : 45 ≡ c = cc in
    let tail : decimal (suc n) ≡ front ++ more = cc in
    subst (λ (k : ℕ). IsClosed SignedText (codes "1") (k ∷ front)) head (elim (number_front (suc n) (omega arith) front more tail) [
      | inl none ↦ record { before = []; end = codes "1"; parts = refl; whole = negative_text n 1 (front ++ codes "1") small (ap (λ (t : List ℕ). t ++ codes "1") none ∙ sym one_is) (omega arith) (omega arith) }
      | inr f ↦ closed_already SignedText (codes "1") (45 ∷ front) (negative_text n f.number front small f.is f.low (f.some (omega arith)))
    ])

signed_closed : (front more : List ℕ) → SignedText (front ++ more) → IsClosed SignedText (codes "1") front
signed_closed front more is = by_sign is.number is.fits is.spelled where
  by_sign : (z : ℤ) → FitsSigned w64 z → front ++ more ≡ signed_decimal z → IsClosed SignedText (codes "1") front
  by_sign (pos n) fits e = natural_closed n fits.sfits front more (sym e)
  by_sign (negsuc n) fits e = negative_closed n fits.sfits front more (sym e)

pub closes_signed : Closes SignedText (codes "1")
closes_signed = record { is_text = one_signed; closes = signed_closed }
