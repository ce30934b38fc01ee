-- Bytes at which nothing stands that may stand there have a fault.
use Rattle.std.proofs.Common.{◌≡◌, ◌+◌, ◌<◌, ◌≤◌, ℕ, zero, suc, Bool, true, false, eqb, min, get_or, take, drop, List, [], ◌∷◌, ◌++◌, length, refl, sym, ap, subst, ◌∙◌, arith}
use Rattle.std.specs.List.{prefix_len}
use Rattle.std.proofs.lemmas.Bool.{eqb-true, false≢true}
use Rattle.std.proofs.lemmas.List.{append-nil}
use Rattle.std.proofs.lemmas.List.Sums.{prefix_len-le-length}
use Rattle.std.proofs.Math.Seq.{take-length}
use Rattle.pssm_lines.specs.declared.fault.LineFault.{LineFault}
use Rattle.pssm_lines.specs.declared.fault.LineFault.TheVariants.{BadLine, LongLine, NoEnd}
use Rattle.pssm_lines.specs.Faults.{is_no_feed, Begins, IsFaultOf}
use Rattle.pssm_lines.specs.inner.Lines.{HasNoWholeLine}
use Rattle.pssm_lines.proofs.FrontLaws.{begins_nothing, bad_within, IsLookedAt, looked_at, open_front, feed_front, long_front}

module _ (begun : Bool) (number : ℕ) (bytes : List ℕ) (sound : (f : LineFault) → IsFaultOf begun number bytes f → ⊥) where
  -- A fault however the bytes go on is a fault of the bytes.
  never : (f : LineFault) → ((more : List ℕ) → IsFaultOf begun number (bytes ++ more) f) → ⊥
  never f fault = sound f (subst (λ (t : List ℕ). IsFaultOf begun number t f) (append-nil bytes) (fault []))

  module _ (front after : List ℕ) (at : IsLookedAt bytes front after) where
    -- Each front of the front begins what may stand there.
    begins_each : (n : ℕ) → n ≤ length front → (Begins begun (take n front) → ⊥) → ⊥
    begins_each zero low not = not (begins_nothing begun)
    begins_each (suc n) low not = begins_each n (omega arith) (λ before.
        never (BadLine number (n + 1)) (bad_within begun number (n + 1) bytes front after n at.parts at.clean at.few (omega arith) before
        (λ more. not (subst (λ (k : ℕ). Begins begun (take k front)) (plus_one n) more)) refl)) where
          plus_one : (n : ℕ) → n + 1 ≡ suc n
          plus_one n = omega arith

    begins_all : (Begins begun front → ⊥) → ⊥
    begins_all not = begins_each (length front) (omega arith) (λ b. not (subst (λ (t : List ℕ). Begins begun t) (take-length front) b))

    -- so nothing is wrong behind it, which cannot be
    no_end_here : ((begun ≡ true) × (bytes ≡ []) → ⊥) → HasNoWholeLine begun bytes → Begins begun front → ⊥
    no_end_here some none begins = by_rest after refl where
      by_rest : (rest : List ℕ) → after ≡ rest → ⊥
      by_rest [] is = sound (NoEnd number) (refl, open_front begun bytes front after at (ap (λ (t : List ℕ). length t) is) begins, some)
      by_rest (c ∷ rest) is = by_test (eqb c 10) refl where
        here : get_or after 0 0 ≡ c
        here = ap (λ (t : List ℕ). get_or t 0 0) is

        there : 0 < length after
        there = omega (arith, ap (λ (t : List ℕ). length t) is)

        by_test : (t : Bool) → eqb c 10 ≡ t → ⊥
        by_test true same = never (BadLine number (length front + 1)) (feed_front begun number (length front + 1) bytes front after at there (here ∙ eqb-true c 10 same) begins none refl)
        by_test false other = never (LongLine number) (long_front begun number bytes front after at there (λ same. false≢true (sym other ∙ ap (λ (k : ℕ). eqb k 10) (sym here ∙ same))) begins)

-- Something is wrong where no line stands, unless all was read.
pub some_fault : (begun : Bool) (number : ℕ) (bytes : List ℕ) → ((begun ≡ true) × (bytes ≡ []) → ⊥) → HasNoWholeLine begun bytes → ((f : LineFault) → IsFaultOf begun number bytes f → ⊥) → ⊥
some_fault begun number bytes some none sound =
    let run = prefix_len is_no_feed bytes in
    let len = min run 65536 in
    let at = looked_at bytes (take len bytes) (drop len bytes) run len refl refl (omega (arith, prefix_len-le-length is_no_feed bytes)) refl refl in
    begins_all begun number bytes sound (take len bytes) (drop len bytes) at (λ begins. no_end_here begun number bytes sound (take len bytes) (drop len bytes) at some none begins)
