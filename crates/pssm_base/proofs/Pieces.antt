-- Reading and putting a piece at a time.
use Rattle.std.proofs.Common.{◌≡◌, ℕ, ◌+◌, ◌≤◌, ◌<◌, List, ◌++◌, length, take, drop, Option, None, Some, IfSome, refl, arith, subst, sym, ap, ◌∙◌, length-append, length-take, length-drop}
use Rattle.std.proofs.Math.Seq.{take-add, take-length}
use Rattle.std.proofs.KnownBytes.{Appends-trans}
use Rattle.std.specs.Io.KnownBytes.{Appends}
use Rattle.pssm_base.specs.Faults.{NoneFell}
use Rattle.pssm_base.specs.History.{History, Added, ReadsOn}
use Rattle.pssm_base.specs.Reading.{SameContent, IsFront}
use Rattle.pssm_base.specs.inner.Filling.{IsRead}

-- what a sink has taken of the bytes so far, and that its count did not fall
pub record HasPut (before now : Option (List ℕ)) (old new : ℕ) (bytes : List ℕ) (done : ℕ) : Type 0 where
  pub in_range : done ≤ length bytes
  pub front : Appends before now (take done bytes)
  pub count : old ≤ new

-- the sink takes n more of the rest
pub has_put_more : (before now next : Option (List ℕ)) (old mid new : ℕ) (bytes : List ℕ) (done n : ℕ) (rest : List ℕ) → rest ≡ drop done bytes → HasPut before now old mid bytes done
    → n ≤ length rest → Appends now next (take n rest) → mid ≤ new → HasPut before next old new bytes (done + n)
has_put_more before now next old mid new bytes done n rest is had within more up = record {
  in_range = omega (arith, length-drop done bytes, ap length is);
  front = rw take-add (Appends-trans before now next _ _ had.front (subst (λ l. Appends now next (take n l)) is more));
  count = omega arith;
}

-- reading so far: n bytes at most, through a piece of that size, with nothing changed but counts that rose and calls that were kept
pub record HasRead (content now : List ℕ → Option (List ℕ)) (before after : History) (old new : List ℕ → ℕ) (path bytes : List ℕ) (n : ℕ) : Type 0 where
  pub front : IsRead (content path) bytes
  pub most : length bytes ≤ n
  pub same : SameContent content now
  pub counts : NoneFell old new
  pub calls : Added before after (λ calls. ReadsOn path 0 calls bytes)

-- the next piece
pub read_more : (content : Option (List ℕ)) (bytes into : List ℕ) (n : ℕ) → IsRead content bytes → n ≤ length into → IfSome content (λ held. IsFront held (length bytes) n into)
    → IsRead content (bytes ++ take n into)
read_more None bytes into n had within front = tt
read_more (Some held) bytes into n had within front =
    let size : length (bytes ++ take n into) ≡ length bytes + n = simp (length-append, length-take) (omega arith) in
    let joined : bytes ++ take n into ≡ take (length bytes + n) held = ap (λ l. l ++ take n into) had ∙ ap (λ l. take (length bytes) held ++ l) front.copied ∙ sym (take-add (length bytes) n held) in
    joined ∙ ap (λ k. take k held) (sym size)

-- a front that ends where the path ends is all of it
pub read_all : (content : Option (List ℕ)) (bytes into : List ℕ) → IsRead content bytes → IfSome content (λ held. IsFront held (length bytes) 0 into) → IfSome content (λ held. bytes ≡ held)
read_all None bytes into had front = tt
read_all (Some held) bytes into had front =
    let end : length held ≤ length bytes = front.end.0 refl in
    let size : length bytes ≡ length held = omega (arith, ap length had, length-take (length bytes) held) in
    had ∙ ap (λ k. take k held) size ∙ take-length held

-- more was read than fits
pub read_past : (content : Option (List ℕ)) (bytes : List ℕ) (limit : ℕ) → IsRead content bytes → limit < length bytes → IfSome content (λ held. limit < length held)
read_past None bytes limit had past = tt
read_past (Some held) bytes limit had past = omega (arith, ap length had, length-take (length bytes) held)
