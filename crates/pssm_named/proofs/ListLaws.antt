-- Lists of numbers that rise, and the names of what has these numbers.
use Rattle.std.proofs.Common.{◌≡◌, ◌≢◌, ◌<◌, ◌+◌, ℕ, zero, suc, Bool, List, [], ◌∷◌, map, filter, All, AllPairs, slice_index_or}
use Rattle.std.proofs.Common.{refl, sym, ap, subst, ◌∙◌, arith}
use Rattle.std.specs.List.{range_with_len, AllByRecursion}
use Rattle.std.proofs.lemmas.List.Elements.{All-nil, All-cons, All-map, All-tail, All-head, recursion_from_All}
use Rattle.std.proofs.lemmas.List.Kept.{AllPairs-cons, AllPairs-filter}
use Rattle.pssm_spelling.specs.Spelling.{IsName}
use Rattle.pssm_settings.specs.Names.{AreDistinctNames}

-- ---- numbers that rise

-- Each is less than all after it.
abbrev pub Rise : List ℕ → Type 0
Rise ns = AllPairs (λ (m n : ℕ). m < n) ns

above : (low a len : ℕ) → low < a → All (λ n. low < n) (range_with_len a len)
above low a zero less = All-nil (λ (n : ℕ). low < n)
above low a (suc len) less = All-cons (λ (n : ℕ). low < n) a (range_with_len (a + 1) len) less (above low (a + 1) len (omega (arith, less)))

none_rise : Rise []
none_rise i j d before within = absurd (omega (arith, within))

range_rises : (a len : ℕ) → Rise (range_with_len a len)
range_rises a zero = none_rise
range_rises a (suc len) =
    let less : a < a + 1 = omega arith in
    AllPairs-cons (λ (m n : ℕ). m < n) a (range_with_len (a + 1) len) (above a (a + 1) len less) (range_rises (a + 1) len)

-- What is kept of numbers that rise rises.
pub kept_rise : (p : ℕ → Bool) (ns : List ℕ) → Rise ns → Rise (filter p ns)
kept_rise p ns rise = AllPairs-filter (λ (m n : ℕ). m < n) p ns rise

-- What is kept of the first numbers rises.
pub firsts_rise : (p : ℕ → Bool) (len : ℕ) → Rise (filter p (range_with_len 0 len))
firsts_rise p len = kept_rise p (range_with_len 0 len) (range_rises 0 len)

-- ---- their names

map_twice : {X Y Z : Type 0} (g : Y → Z) (f : X → Y) (xs : List X) → map g (map f xs) ≡ map (λ x. g (f x)) xs
map_twice g f [] = refl
map_twice g f (x ∷ xs) = ap (λ zs. g (f x) ∷ zs) (map_twice g f xs)

module _ (Is : ℕ → Type 0) (name : ℕ → List ℕ) (named : (n : ℕ) → Is n → IsName (name n)) (differ : (m n : ℕ) → Is m → Is n → m < n → name m ≢ name n) where
  other_names : (n : ℕ) (ns : List ℕ) → Is n → All Is ns → All (λ m. n < m) ns → All (λ text. name n ≢ text) (map name ns)
  other_names n ns is are after =
      All-map (λ (text : List ℕ). name n ≢ text) name ns (λ k d less. differ n (slice_index_or ns k d) is (are k d less) (after k d less))

  apart : (ns : List ℕ) → All Is ns → Rise ns → AllPairs (λ (a b : List ℕ). a ≢ b) (map name ns)
  apart [] are rise = λ i j d before within. absurd (omega (arith, within))
  apart (n ∷ ns) are rise =
      AllPairs-cons (λ (a b : List ℕ). a ≢ b) (name n) (map name ns)
      (other_names n ns (All-head Is n ns are) (All-tail Is n ns are) (λ k d less. rise zero (suc k) d (omega arith) (omega (arith, less))))
      (apart ns (All-tail Is n ns are) (λ i j d before within. rise (suc i) (suc j) d (omega (arith, before)) (omega (arith, within))))

  -- The names of what rises are distinct.
  distinct : (ns : List ℕ) → All Is ns → Rise ns → AreDistinctNames (map name ns)
  distinct ns are rise = record {
    names_are = All-map IsName name ns (λ k d less. named (slice_index_or ns k d) (are k d less));
    apart = apart ns are rise;
  }

  -- So are those of what is made of it, each of which keeps its name.
  pub made_distinct : {X : Type 0} (name_in : X → List ℕ) (make : ℕ → X) (ns : List ℕ) → ((n : ℕ) → name_in (make n) ≡ name n) → All Is ns → Rise ns
      → AreDistinctNames (map name_in (map make ns))
  made_distinct name_in make ns keeps are rise = subst AreDistinctNames (sym (map_twice name_in make ns ∙ same ns)) (distinct ns are rise) where
    same : (ks : List ℕ) → map (λ n. name_in (make n)) ks ≡ map name ks
    same [] = refl
    same (k ∷ ks) = let head = keeps k in let tail = same ks in cc (head, tail)

-- ---- what is made of each

pub each_made : {X : Type 0} (P : X → Type 0) (make : ℕ → X) (ns : List ℕ) → All (λ n. P (make n)) ns → AllByRecursion P (map make ns)
each_made P make ns each = recursion_from_All P (map make ns) (All-map P make ns each)
