-- Paths along the links, once a slot has been taken out or put in.
use Rattle.std.proofs.Common.{◌≡◌, ◌≢◌, ◌≤◌, ◌<◌, ◌+◌, ◌++◌, ℕ, zero, suc, List, [], ◌∷◌, length, Some, slice_get, unwrap_or, sym, ap, subst, ◌∙◌, arith}
use Rattle.std.specs.List.{remove}
use Rattle.pssm_links.specs.declared.links.Slot.{Slot}
use Rattle.pssm_links.specs.inner.Rings.{count_of, next_of, prev_of, Joins, IsEdge, IsPath}
use Rattle.pssm_links.proofs.Counting.{count-here, absent-first, absent-rest, count-at}

module _ {T : Type 0} (slots : List (Slot T)) where
  pub first-edge : (a : ℕ) (ks : List ℕ) (b : ℕ) → IsPath slots a ks b → IsEdge slots a (next_of slots a)
  first-edge a [] b path = subst (λ z. IsEdge slots a z) (sym path.next) path
  first-edge a (x ∷ xs) b path = let e : IsEdge slots a x = path.0 in subst (λ z. IsEdge slots a z) (sym e.next) e

  pub last-edge : (a : ℕ) (ks : List ℕ) (b : ℕ) → IsPath slots a ks b → IsEdge slots (prev_of slots b) b
  last-edge a [] b path = subst (λ z. IsEdge slots z b) (sym path.prev) path
  last-edge a (x ∷ xs) b path = last-edge x xs b path.1

  pub last-apart : (k a : ℕ) (ks : List ℕ) (b : ℕ) → a ≢ k → count_of k ks ≡ 0 → IsPath slots a ks b → prev_of slots b ≢ k
  last-apart k a [] b ak none path same = ak (sym path.prev ∙ same)
  last-apart k a (x ∷ xs) b ak none path same = last-apart k x xs b (absent-first k x xs none) (absent-rest k x xs none) path.1 same

  pub edge-before : (k a : ℕ) (ks : List ℕ) (b i : ℕ) → slice_get ks i ≡ Some k → IsPath slots a ks b → IsEdge slots (prev_of slots k) k
  edge-before k a [] b i at path = absurd (cc)
  edge-before k a (x ∷ xs) b zero at path =
      let same : x ≡ k = cc in
      let e : IsEdge slots a x = path.0 in
      subst (λ z. IsEdge slots (prev_of slots z) z) same (subst (λ z. IsEdge slots z x) (sym e.prev) e)
  edge-before k a (x ∷ xs) b (suc i) at path = edge-before k x xs b i at path.1

  pub edge-after : (k a : ℕ) (ks : List ℕ) (b i : ℕ) → slice_get ks i ≡ Some k → IsPath slots a ks b → IsEdge slots k (next_of slots k)
  edge-after k a [] b i at path = absurd (cc)
  edge-after k a (x ∷ xs) b zero at path =
      let same : x ≡ k = cc in
      subst (λ z. IsEdge slots z (next_of slots z)) same (first-edge x xs b path.1)
  edge-after k a (x ∷ xs) b (suc i) at path = edge-after k x xs b i at path.1

  -- what comes first, and what comes after a slot: the next on the path, or its end
  pub path-first : (a : ℕ) (ks : List ℕ) (b : ℕ) → IsPath slots a ks b → next_of slots a ≡ unwrap_or (slice_get ks 0) b
  path-first a [] b path = path.next
  path-first a (x ∷ xs) b path = let e : IsEdge slots a x = path.0 in e.next

  pub path-next : (a : ℕ) (ks : List ℕ) (b i k : ℕ) → IsPath slots a ks b → slice_get ks i ≡ Some k → next_of slots k ≡ unwrap_or (slice_get ks (i + 1)) b
  path-next a [] b i k path at = absurd (cc)
  path-next a (x ∷ xs) b zero k path at =
      let same : x ≡ k = cc in
      let after : 0 + 1 ≡ suc 0 = omega arith in
      subst
      (λ j. next_of slots k ≡ unwrap_or (slice_get (x ∷ xs) j) b)
      (sym after)
      (ap (next_of slots) (sym same) ∙ path-first x xs b path.1)
  path-next a (x ∷ xs) b (suc i) k path at =
      let after : suc i + 1 ≡ suc (i + 1) = omega arith in
      subst
      (λ j. next_of slots k ≡ unwrap_or (slice_get (x ∷ xs) j) b)
      (sym after)
      (path-next x xs b i k path.1 at)

-- a slot that stands between two is passed over
module _ {T : Type 0} (old new : List (Slot T)) (k p n : ℕ) (joins : Joins old new p n) (before : IsEdge old p k) (after : IsEdge old k n) where
  kept-edge : (u v : ℕ) → u ≢ k → v ≢ k → IsEdge old u v → IsEdge new u v
  kept-edge u v uk vk e = record {
    next = joins.nexts u (λ same. vk (sym e.next ∙ ap (next_of old) same ∙ before.next)) ∙ e.next;
    prev = joins.prevs v (λ same. uk (sym e.prev ∙ ap (prev_of old) same ∙ after.prev)) ∙ e.prev;
    from = let le = e.from in let size = joins.size in omega (arith, le, size);
    to = let le = e.to in let size = joins.size in omega (arith, le, size);
  }

  joined : IsEdge new p n
  joined = record {
    next = joins.next;
    prev = joins.prev;
    from = let le = before.from in let size = joins.size in omega (arith, le, size);
    to = let le = after.to in let size = joins.size in omega (arith, le, size);
  }

  pub kept-path : (a : ℕ) (ks : List ℕ) (b : ℕ) → a ≢ k → b ≢ k → count_of k ks ≡ 0 → IsPath old a ks b → IsPath new a ks b
  kept-path a [] b ak bk none path = kept-edge a b ak bk path
  kept-path a (x ∷ xs) b ak bk none path =
      let xk = absent-first k x xs none in
      (kept-edge a x ak xk path.0, kept-path x xs b xk bk (absent-rest k x xs none) path.1)

  path-on : (ks : List ℕ) (b : ℕ) → b ≢ k → count_of k ks ≡ 0 → IsPath old k ks b → IsPath new p ks b
  path-on [] b bk none path = subst (λ z. IsEdge new p z) (sym after.next ∙ path.next) joined
  path-on (x ∷ xs) b bk none path =
      let e : IsEdge old k x = path.0 in (
        subst (λ z. IsEdge new p z) (sym after.next ∙ e.next) joined,
        kept-path x xs b (absent-first k x xs none) bk (absent-rest k x xs none) path.1,
      )

  pub path-less : (a : ℕ) (ks : List ℕ) (b i : ℕ) → a ≢ k → b ≢ k → count_of k ks ≤ 1 → slice_get ks i ≡ Some k
      → IsPath old a ks b → IsPath new a (remove ks i) b
  path-less a [] b i ak bk once at path = absurd (cc)
  path-less a (x ∷ xs) b zero ak bk once at path =
      let same : x ≡ k = cc in
      let e : IsEdge old a x = path.0 in
      let here = count-here k x xs same in
      let on = path-on xs b bk (omega (arith, here, once)) (subst (λ z. IsPath old z xs b) same path.1) in
      subst (λ z. IsPath new z xs b) (sym before.prev ∙ ap (prev_of old) (sym same) ∙ e.prev) on
  path-less a (x ∷ xs) b (suc i) ak bk once at path =
      let there = count-at k xs i at in
      let xk : x ≢ k = λ same. let here = count-here k x xs same in omega (arith, here, there, once) in
      (kept-edge a x ak xk path.0, path-less x xs b i xk bk (omega (arith, once)) at path.1)

-- a slot is put in before another
module _ {T : Type 0} (old between new : List (Slot T)) (k p to : ℕ) (one : Joins old between p k) (two : Joins between new k to)
    (edge : IsEdge old p to) (pk : p ≢ k) (tk : to ≢ k) (there : k < length old) where
  put-edge : (u v : ℕ) → u ≢ k → v ≢ k → v ≢ to → IsEdge old u v → IsEdge new u v
  put-edge u v uk vk vt e = record {
    next = two.nexts u uk ∙ one.nexts u (λ same. vt (sym e.next ∙ ap (next_of old) same ∙ edge.next)) ∙ e.next;
    prev = two.prevs v vt ∙ one.prevs v vk ∙ e.prev;
    from = let le = e.from in let first = one.size in let second = two.size in omega (arith, le, first, second);
    to = let le = e.to in let first = one.size in let second = two.size in omega (arith, le, first, second);
  }

  edge-to : IsEdge new p k
  edge-to = record {
    next = two.nexts p pk ∙ one.next;
    prev = two.prevs k (λ same. tk (sym same)) ∙ one.prev;
    from = let le = edge.from in let first = one.size in let second = two.size in omega (arith, le, first, second);
    to = let first = one.size in let second = two.size in omega (arith, there, first, second);
  }

  edge-from : IsEdge new k to
  edge-from = record {
    next = two.next;
    prev = two.prev;
    from = let first = one.size in let second = two.size in omega (arith, there, first, second);
    to = let le = edge.to in let first = one.size in let second = two.size in omega (arith, le, first, second);
  }

  pub put-path : (a : ℕ) (ks : List ℕ) (b : ℕ) → a ≢ k → b ≢ k → b ≢ to → count_of k ks ≡ 0 → count_of to ks ≡ 0
      → IsPath old a ks b → IsPath new a ks b
  put-path a [] b ak bk bt none free path = put-edge a b ak bk bt path
  put-path a (x ∷ xs) b ak bk bt none free path =
      let xk = absent-first k x xs none in (
        put-edge a x ak xk (absent-first to x xs free) path.0,
        put-path x xs b xk bk bt (absent-rest k x xs none) (absent-rest to x xs free) path.1,
      )

  pub path-more : (a : ℕ) (ks : List ℕ) → a ≢ k → count_of k ks ≡ 0 → count_of to ks ≡ 0
      → IsPath old a ks to → IsPath new a (ks ++ k ∷ []) to
  path-more a [] ak none free path = (subst (λ z. IsEdge new z k) (sym edge.prev ∙ path.prev) edge-to, edge-from)
  path-more a (x ∷ xs) ak none free path =
      let xk = absent-first k x xs none in (
        put-edge a x ak xk (absent-first to x xs free) path.0,
        path-more x xs xk (absent-rest k x xs none) (absent-rest to x xs free) path.1,
      )
