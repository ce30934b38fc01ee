-- What begins a text is ended by an end of a sample: pieces in general.
use Rattle.std.proofs.Common.{◌≡◌, ℕ, zero, suc, ◌≤◌, List, [], ◌∷◌, ◌++◌, length, refl, sym, ap, subst, ◌∙◌, append_assoc, arith, inl, inr, ◌⊎◌}
use Rattle.std.specs.List.{AllByRecursion, flat_map}
use Rattle.std.proofs.lemmas.List.{append-nil}

-- ---- two cuts of one list

-- The second cut lies within the first part, or beyond it.
pub data Cut (a b front more : List ℕ) : Type 0 where
  within : (left : List ℕ) → a ≡ front ++ left → more ≡ left ++ b → Cut a b front more
  beyond : (passed : List ℕ) → front ≡ a ++ passed → b ≡ passed ++ more → Cut a b front more

pub cut : (a b front more : List ℕ) → a ++ b ≡ front ++ more → Cut a b front more
cut [] b front more e = beyond front refl e
cut (x ∷ a) b [] more e = within (x ∷ a) refl (sym e)
cut (x ∷ a) b (c ∷ front) more e =
    let head : x ≡ c = cc in
    let tail : a ++ b ≡ front ++ more = cc in
    elim (cut a b front more tail) [
      | within left p q ↦ within left (cc (head, p)) q
      | beyond passed p q ↦ beyond passed (cc (head, p)) q
    ]

-- ---- texts that samples end

-- Some end of the sample makes a text of the front.
pub record IsClosed (IsText : List ℕ → Type 0) (sample front : List ℕ) : Type 0 where
  pub before : List ℕ
  pub end : List ℕ
  pub parts : sample ≡ before ++ end
  pub whole : IsText (front ++ end)

-- The sample is a text, and its ends make a text of whatever begins one.
pub record Closes (IsText : List ℕ → Type 0) (sample : List ℕ) : Type 0 where
  pub is_text : IsText sample
  pub closes : (front more : List ℕ) → IsText (front ++ more) → IsClosed IsText sample front

-- nothing is begun: the whole sample ends it
pub closed_by_all : (IsText : List ℕ → Type 0) (sample : List ℕ) → IsText sample → IsClosed IsText sample []
closed_by_all IsText sample is = record { before = []; end = sample; parts = refl; whole = is }

-- a text is begun and ended
pub closed_already : (IsText : List ℕ → Type 0) (sample front : List ℕ) → IsText front → IsClosed IsText sample front
closed_already IsText sample front is = record { before = sample; end = []; parts = sym (append-nil sample); whole = subst IsText (sym (append-nil front)) is }

-- the same texts under another name
pub closes_as : (P Q : List ℕ → Type 0) (sample : List ℕ) → ((t : List ℕ) → P t → Q t) → ((t : List ℕ) → Q t → P t) → Closes P sample → Closes Q sample
closes_as P Q sample to from closes = record {
  is_text = to sample closes.is_text;
  closes = λ front more is.
      let c = closes.closes front more (from (front ++ more) is) in
      record { before = c.before; end = c.end; parts = c.parts; whole = to (front ++ c.end) c.whole };
}

-- ---- a word

abbrev pub Word : List ℕ → List ℕ → Type 0
Word word t = t ≡ word

pub closes_word : (word : List ℕ) → Closes (Word word) word
closes_word word = record {
  is_text = refl;
  closes = λ front more e. record { before = front; end = more; parts = sym e; whole = e };
}

-- ---- one text behind the other

pub record Then (P R : List ℕ → Type 0) (t : List ℕ) : Type 0 where
  pub first : List ℕ
  pub second : List ℕ
  pub parts : t ≡ first ++ second
  pub is_first : P first
  pub is_second : R second

pub closes_then : (P R : List ℕ → Type 0) (p r : List ℕ) → Closes P p → Closes R r → Closes (Then P R) (p ++ r)
closes_then P R p r ps rs = record {
  is_text = record { first = p; second = r; parts = refl; is_first = ps.is_text; is_second = rs.is_text };
  closes = λ front more is. by_cut front more is (cut is.first is.second front more (sym is.parts));
} where
  by_cut : (front more : List ℕ) (is : Then P R (front ++ more)) → Cut is.first is.second front more → IsClosed (Then P R) (p ++ r) front
  by_cut front more is (within left first_is more_is) =
      let c = ps.closes front left (subst P first_is is.is_first) in
      record {
        before = c.before;
        end = c.end ++ r;
        parts = ap (λ t. t ++ r) c.parts ∙ append_assoc c.before c.end r;
        whole = record { first = front ++ c.end; second = r; parts = sym (append_assoc front c.end r); is_first = c.whole; is_second = rs.is_text };
      }
  by_cut front more is (beyond passed front_is second_is) =
      let c = rs.closes passed more (subst R second_is is.is_second) in
      record {
        before = p ++ c.before;
        end = c.end;
        parts = ap (λ t. p ++ t) c.parts ∙ sym (append_assoc p c.before c.end);
        whole = record { first = is.first; second = passed ++ c.end; parts = ap (λ t. t ++ c.end) front_is ∙ append_assoc is.first passed c.end; is_first = is.is_first; is_second = c.whole };
      }

-- ---- a text or nothing

abbrev pub Maybe : (List ℕ → Type 0) → List ℕ → Type 0
Maybe P t = (t ≡ []) ⊎ P t

pub no_front : (front more : List ℕ) → front ++ more ≡ [] → front ≡ []
no_front [] more e = refl
no_front (c ∷ front) more e = absurd cc

pub closes_maybe : (P : List ℕ → Type 0) (sample : List ℕ) → Closes P sample → Closes (Maybe P) sample
closes_maybe P sample ps = record {
  is_text = inr ps.is_text;
  closes = λ front more is. elim is [
    | inl none ↦ closed_already (Maybe P) sample front (inl (no_front front more none))
    | inr some ↦ let c = ps.closes front more some in record { before = c.before; end = c.end; parts = c.parts; whole = inr c.whole }
  ];
}

-- ---- texts in a row

-- The text is these texts, each with a byte before it.
abbrev pub row_text : ℕ → List (List ℕ) → List ℕ
row_text before ts = flat_map (λ t. before ∷ t) ts

-- at most so many texts, each with a byte before it
pub record Row (before : ℕ) (P : List ℕ → Type 0) (most : ℕ) (t : List ℕ) : Type 0 where
  pub texts : List (List ℕ)
  pub few : length texts ≤ most
  pub all : AllByRecursion P texts
  pub parts : t ≡ row_text before texts

one_row : (before : ℕ) (P : List ℕ → Type 0) (most : ℕ) (t : List ℕ) → P t → Row before P (suc most) (before ∷ t)
one_row before P most t is = record { texts = t ∷ []; few = omega arith; all = (is, tt); parts = ap (λ (u : List ℕ). before ∷ u) (sym (append-nil t)) }

no_row : (before : ℕ) (P : List ℕ → Type 0) (most : ℕ) → Row before P most []
no_row before P most = record { texts = []; few = omega arith; all = tt; parts = refl }

row_closed : (before : ℕ) (P : List ℕ → Type 0) (sample : List ℕ) → Closes P sample → (texts : List (List ℕ)) (most : ℕ) → length texts ≤ most → AllByRecursion P texts → (front more : List ℕ) → row_text before texts ≡ front ++ more → IsClosed (Row before P most) (before ∷ sample) front
row_closed before P sample ps texts most few all [] more e = closed_already (Row before P most) (before ∷ sample) [] (no_row before P most)
row_closed before P sample ps [] most few all (c ∷ front) more e = absurd cc
row_closed before P sample ps (t ∷ texts) zero few all (c ∷ front) more e = absurd (omega (arith, few))
row_closed before P sample ps (t ∷ texts) (suc most) few all (c ∷ front) more e =
    let head : before ≡ c = cc in
    let tail : t ++ row_text before texts ≡ front ++ more = cc in
    by_cut head (cut t (row_text before texts) front more tail) (row_closed before P sample ps texts most (omega (arith, few)) all.1) where
      by_cut : before ≡ c → Cut t (row_text before texts) front more → ((f m : List ℕ) → row_text before texts ≡ f ++ m → IsClosed (Row before P most) (before ∷ sample) f) → IsClosed (Row before P (suc most)) (before ∷ sample) (c ∷ front)
      by_cut head (within left t_is more_is) others =
          let closed = ps.closes front left (subst P t_is all.0) in
          record {
            before = before ∷ closed.before;
            end = closed.end;
            parts = ap (λ (u : List ℕ). before ∷ u) closed.parts;
            whole = subst (λ k. Row before P (suc most) (k ∷ (front ++ closed.end))) head (one_row before P most (front ++ closed.end) closed.whole);
          }
      by_cut head (beyond passed front_is rest_is) others =
          let closed = others passed more rest_is in
          let row = closed.whole in
          record {
            before = closed.before;
            end = closed.end;
            parts = closed.parts;
            whole = record {
              texts = t ∷ row.texts;
              few = omega (arith, row.few);
              all = (all.0, row.all);
              parts = ap (λ (k : ℕ). k ∷ (front ++ closed.end)) (sym head) ∙ ap (λ (u : List ℕ). before ∷ u) (ap (λ (u : List ℕ). u ++ closed.end) front_is ∙ append_assoc t passed closed.end ∙ ap (λ (u : List ℕ). t ++ u) row.parts);
            };
          }

pub closes_row : (before : ℕ) (P : List ℕ → Type 0) (most : ℕ) (sample : List ℕ) → Closes P sample → Closes (Row before P (suc most)) (before ∷ sample)
closes_row before P most sample ps = record {
  is_text = one_row before P most sample ps.is_text;
  closes = λ front more is. row_closed before P sample ps is.texts (suc most) is.few is.all front more (sym is.parts);
}

-- any number of texts, each with a byte before it
pub record Rows (before : ℕ) (P : List ℕ → Type 0) (t : List ℕ) : Type 0 where
  pub texts : List (List ℕ)
  pub all : AllByRecursion P texts
  pub parts : t ≡ row_text before texts

pub closes_rows : (before : ℕ) (P : List ℕ → Type 0) (sample : List ℕ) → Closes P sample → Closes (Rows before P) (before ∷ sample)
closes_rows before P sample ps = record {
  is_text = let one = one_row before P 0 sample ps.is_text in record { texts = one.texts; all = one.all; parts = one.parts };
  closes = λ front more is.
      let c = row_closed before P sample ps is.texts (length is.texts) (omega arith) is.all front more (sym is.parts) in
      let row = c.whole in
      record { before = c.before; end = c.end; parts = c.parts; whole = record { texts = row.texts; all = row.all; parts = row.parts } };
}
