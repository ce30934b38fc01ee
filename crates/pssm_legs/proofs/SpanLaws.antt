-- Tables of where transitions stand in a list: at the start, with one place more, and what they tell in the end.
use Rattle.std.proofs.Common.{◌≡◌, ◌≢◌, ◌<◌, ◌≤◌, ◌+◌, ◌↔◌, ◌∙◌, ◌==◌, ℕ, zero, suc, Bool, true, false, IsTrue, List, [], ◌∷◌, length, get_or, set, replicate, slice_get, Some, Contains, refl, sym, ap, subst, inl, inr, ⊎_elim, arith}
use Rattle.std.proofs.lemmas.Bool.{cases_lt, cases_eq}
use Rattle.std.proofs.lemmas.List.{get_or-set_same, get_or-set_other}
use Rattle.std.proofs.lemmas.Option.{slice_get_within}
use Rattle.pssm_model.specs.declared.ids.TransId.{TransId}
use Rattle.pssm_model.proofs.ElementLaws.{same_transition}
use Rattle.pssm_legs.specs.declared.further.Span.{Span}
use Rattle.pssm_legs.specs.LegsOf.{StandsBefore}
use Rattle.pssm_legs.specs.inner.Spans.{nowhere, IsSpan, AreSpans, HasSpans}
use Rattle.pssm_legs.proofs.Places.{at_contains, contains_at, same_at}

-- before any place is looked at, all stand nowhere
none_so_far : (ts : List TransId) (t : TransId) → IsSpan ts 0 t nowhere
none_so_far ts t = record {
  first_is = λ i e. absurd (omega (arith, e));
  last_is = λ i e. absurd (omega (arith, e));
  around = λ i lt at. absurd (omega (arith, lt));
}

blank : (width n : ℕ) → get_or (replicate width nowhere) n nowhere ≡ nowhere
blank zero n = refl
blank (suc width) zero = refl
blank (suc width) (suc n) = blank width n

pub none_noted : (ts : List TransId) (width : ℕ) (spans : List Span) → spans ≡ replicate width nowhere → AreSpans ts 0 spans
none_noted ts width spans e t =
    subst (λ (xs : List Span). IsSpan ts 0 t (get_or xs t.0 nowhere)) (sym e) (subst (IsSpan ts 0 t) (sym (blank width t.0)) (none_so_far ts t))

-- a transition at one place more
module _ (ts : List TransId) (k : ℕ) (t : TransId) (at : slice_get ts k ≡ Some t) where
  here : (span : Span) (first : ℕ) → IsSpan ts k t span → (span.first ≡ 0 → first ≡ k + 1) → (0 < span.first → first ≡ span.first)
      → IsSpan ts (k + 1) t (record { first = first; last = k + 1 })
  here span first h new old = record { first_is = starts; last_is = λ i e. (omega (arith, e), subst (λ n. slice_get ts n ≡ Some t) (omega (arith, e)) at); around = surrounds } where
    starts : (i : ℕ) → first ≡ suc i → (i < k + 1) × (slice_get ts i ≡ Some t)
    starts i e =
        ⊎_elim
        (λ some. let was = h.first_is i (sym (old some) ∙ e) in (let lt = was.0 in omega (arith, lt), was.1))
        (λ none. let is = new (omega (arith, none)) in (omega (arith, e, is), subst (λ n. slice_get ts n ≡ Some t) (omega (arith, e, is)) at))
        (cases_lt 0 span.first)

    surrounds : (i : ℕ) → i < k + 1 → slice_get ts i ≡ Some t → (0 < first) × (first ≤ i + 1) × (i < k + 1)
    surrounds i lt e =
        ⊎_elim
        (λ below.
        let was = h.around i below e in
        let some = was.0 in let most = was.1 in let same = old some in
        (omega (arith, some, same), omega (arith, most, same), lt))
        (λ upto.
        let last : i ≡ k = omega (arith, lt, upto) in
        ⊎_elim
        (λ some.
        let same = old some in
        let first_at = first_within some in
        (omega (arith, some, same), omega (arith, first_at, same, last), lt))
        (λ none. let is = new (omega (arith, none)) in (omega (arith, is), omega (arith, is, last), lt))
        (cases_lt 0 span.first))
        (cases_lt i k)
      where
        one_less : (n : ℕ) → 0 < n → (i : ℕ) × (n ≡ suc i)
        one_less zero some = absurd (omega (arith, some))
        one_less (suc i) some = (i, refl)

        first_within : 0 < span.first → span.first ≤ k
        first_within some = let one = one_less span.first some in let lt = (h.first_is one.0 one.1).0 in let is = one.1 in omega (arith, lt, is)

  -- and another one
  there : (w : TransId) (span : Span) → w ≢ t → IsSpan ts k w span → IsSpan ts (k + 1) w span
  there w span apart h = record {
    first_is = λ i e. let was = h.first_is i e in (let lt = was.0 in omega (arith, lt), was.1);
    last_is = λ i e. let was = h.last_is i e in (let lt = was.0 in omega (arith, lt), was.1);
    around = λ i lt e.
        ⊎_elim
        (λ below. h.around i below e)
        (λ upto. absurd (apart (same_at ts k w t (subst (λ n. slice_get ts n ≡ Some w) (omega (arith, lt, upto)) e) at)))
        (cases_lt i k);
  }

  pub noted : (spans : List Span) (first : ℕ) → t.0 < length spans → AreSpans ts k spans
      → ((get_or spans t.0 nowhere).first ≡ 0 → first ≡ k + 1) → (0 < (get_or spans t.0 nowhere).first → first ≡ (get_or spans t.0 nowhere).first)
      → AreSpans ts (k + 1) (set spans t.0 (record { first = first; last = k + 1 }))
  noted spans first within h new old w =
      ⊎_elim
      (λ same.
      let is : w ≡ t = same_transition w t same in
      subst (λ (x : TransId). IsSpan ts (k + 1) x (get_or (set spans t.0 (record { first = first; last = k + 1 })) x.0 nowhere)) (sym is)
      (subst (IsSpan ts (k + 1) t) (sym (get_or-set_same spans t.0 (record { first = first; last = k + 1 }) nowhere within))
      (here (get_or spans t.0 nowhere) first (h t) new old)))
      (λ apart.
      subst (IsSpan ts (k + 1) w) (sym (get_or-set_other spans t.0 w.0 (record { first = first; last = k + 1 }) nowhere apart))
      (there w (get_or spans w.0 nowhere) (λ is. apart (ap (λ (x : TransId). x.0) is)) (h w)))
      (cases_eq w.0 t.0)

-- what the table tells of the whole list
module _ (ts : List TransId) (t : TransId) (span : Span) (h : IsSpan ts (length ts) t span) where
  pub somewhere : (0 < span.first) ↔ Contains ts t
  somewhere = (λ some. found span.first some h.first_is, λ inside. let at = contains_at ts t inside in (h.around at.0 (slice_get_within ts at.0 t at.1) at.1).0)
    where
      found : (n : ℕ) → 0 < n → ((i : ℕ) → n ≡ suc i → (i < length ts) × (slice_get ts i ≡ Some t)) → Contains ts t
      found zero some is = absurd (omega (arith, some))
      found (suc i) some is = at_contains ts i t (is i refl).1

  pub before : (u : TransId) (other : Span) → IsSpan ts (length ts) u other → ((0 < span.first) × (span.first < other.last)) ↔ StandsBefore ts t u
  before u other g = (λ both. found span.first other.last both.0 both.1 h.first_is g.last_is, λ stands. told stands.0 stands.1 stands.2 stands.3 stands.4)
    where
      found : (n l : ℕ) → 0 < n → n < l → ((i : ℕ) → n ≡ suc i → (i < length ts) × (slice_get ts i ≡ Some t))
          → ((j : ℕ) → l ≡ suc j → (j < length ts) × (slice_get ts j ≡ Some u)) → StandsBefore ts t u
      found zero l some less is last = absurd (omega (arith, some))
      found (suc i) zero some less is last = absurd (omega (arith, less))
      found (suc i) (suc j) some less is last = (i, j, omega (arith, less), (is i refl).1, (last j refl).1)

      told : (i j : ℕ) → i < j → slice_get ts i ≡ Some t → slice_get ts j ≡ Some u → (0 < span.first) × (span.first < other.last)
      told i j lt e f =
          let first = h.around i (slice_get_within ts i t e) e in
          let last = g.around j (slice_get_within ts j u f) f in
          let most = first.1 in let least = last.2 in
          (first.0, omega (arith, lt, most, least))

-- the same from what reading and writing the table say
reads : (spans : List Span) (i : ℕ) (span : Span) → i < length spans → span ≡ get_or spans i span → get_or spans i nowhere ≡ span
reads [] i span lt is = absurd (omega (arith, lt))
reads (x ∷ xs) zero span lt is = sym is
reads (x ∷ xs) (suc i) span lt is = reads xs i span (omega (arith, lt)) is

pub noted_by : (ts : List TransId) (k : ℕ) (t : TransId) (spans : List Span) (i j first place : ℕ) (span : Span) → i ≡ t.0 → j ≡ t.0
    → t.0 < length spans → span ≡ get_or spans i span → (span.first ≡ 0 → first ≡ place) → (0 < span.first → first ≡ span.first)
    → AreSpans ts k spans → slice_get ts k ≡ Some t → place ≡ k + 1 → AreSpans ts (k + 1) (set spans j (record { first = first; last = place }))
noted_by ts k t spans i j first place span at_i at_j within is new old are at next =
    let read : get_or spans t.0 nowhere ≡ span = reads spans t.0 span within (subst (λ n. span ≡ get_or spans n span) at_i is) in
    let begins : (get_or spans t.0 nowhere).first ≡ span.first = ap (λ (x : Span). x.first) read in
    let done = noted ts k t at spans first within are (λ none. new (sym begins ∙ none) ∙ next)
    (λ some. old (subst (λ n. 0 < n) begins some) ∙ sym begins) in
    subst (λ n. AreSpans ts (k + 1) (set spans n (record { first = first; last = place }))) (sym at_j)
    (subst (λ n. AreSpans ts (k + 1) (set spans t.0 (record { first = first; last = n }))) (sym next) done)

-- all places have been looked at
pub all_noted : (ts : List TransId) (k : ℕ) (spans : List Span) → length ts ≤ k → AreSpans ts k spans → AreSpans ts (length ts) spans
all_noted ts k spans all are t =
    let h = are t in
    record {
      first_is = λ i e. let was = h.first_is i e in (slice_get_within ts i t was.1, was.1);
      last_is = λ i e. let was = h.last_is i e in (slice_get_within ts i t was.1, was.1);
      around = λ i lt e. h.around i (omega (arith, lt, all)) e;
    }

-- a table that is not empty tells of the list
pub table_there : (ts : List TransId) (spans given : List Span) (empty : Bool) → HasSpans ts spans → given ≡ spans → empty ≡ (length given == 0)
    → empty ≡ false → AreSpans ts (length ts) given
table_there ts spans given empty (inr are) same is some = subst (AreSpans ts (length ts)) (sym same) are
table_there ts spans given empty (inl none) same is some =
    let nothing : given ≡ [] = same ∙ none in let yes : (length given == 0) ≡ true = rw nothing refl in absurd (cc (is, some, yes))

pub told_contains : (ts now : List TransId) (t : TransId) (given : List Span) (span : Span) (result : Bool) → ts ≡ now → AreSpans ts (length ts) given
    → span ≡ get_or given t.0 nowhere → (IsTrue result ↔ (0 < span.first)) → IsTrue result ↔ Contains now t
told_contains ts now t given span result same are is told =
    let by = somewhere ts t span (subst (IsSpan ts (length ts) t) (sym is) (are t)) in
    subst (λ xs. IsTrue result ↔ Contains xs t) same (λ yes. by.0 (told.0 yes), λ inside. told.1 (by.1 inside))

pub told_before : (ts now : List TransId) (t u : TransId) (given : List Span) (span other : Span) (result : Bool) → ts ≡ now → AreSpans ts (length ts) given
    → span ≡ get_or given t.0 nowhere → other ≡ get_or given u.0 nowhere → (IsTrue result ↔ ((0 < span.first) × (span.first < other.last)))
    → IsTrue result ↔ StandsBefore now t u
told_before ts now t u given span other result same are is other_is told =
    let by = before ts t span (subst (IsSpan ts (length ts) t) (sym is) (are t)) u other (subst (IsSpan ts (length ts) u) (sym other_is) (are u)) in
    subst (λ xs. IsTrue result ↔ StandsBefore xs t u) same (λ yes. by.0 (told.0 yes), λ stands. told.1 (by.1 stands))
