-- Machines that extend others: one way up, circles, and chains.
use Rattle.std.proofs.Common.{◌≡◌, ◌⊎◌, ◌<◌, ℕ, zero, suc, List, [], ◌∷◌, ◌++◌, length, take, get_or, refl, sym, ap, subst, inl, inr, ⊎_elim, arith, Contains, ◌∙◌, length-append}
use Rattle.std.proofs.lemmas.Bool.{cases_lt}
use Rattle.std.proofs.lemmas.List.{take-append-le}
use Rattle.std.proofs.lemmas.List.Elements.{Contains-append_left, Contains-append_right, Contains-append_cases}
use Rattle.std.proofs.Math.ListN.{get_or-append}
use Rattle.std.proofs.Math.Seq.{take-append_seam}
use Rattle.pssm_model.specs.declared.draft_setting.Draft.{Draft}
use Rattle.pssm_model.specs.DraftSettings.{Extends, ExtendsFar, IsOrExtends}
use Rattle.pssm_model.specs.DraftSettings.ExtendsFar.{directly, further}
use Rattle.pssm_model.specs.DraftSettings.IsOrExtends.{itself, extended}
use Rattle.pssm_heritage.specs.Chains.{IsChain}
use Rattle.pssm_heritage.specs.Chains.IsChain.{base as chain_base, extended as chain_extended}

pub the_one : {X : Type 0} (x y : X) → Contains (x ∷ []) y → y ≡ x
the_one x y (zero, lt, e) = sym e
the_one x y (suc k, lt, e) = absurd (omega arith)

pub is_one : {X : Type 0} (x y : X) → y ≡ x → Contains (x ∷ []) y
is_one x y e = (0, omega arith, sym e)

-- a machine extends one
pub one_base : (draft : Draft) (m a b : ℕ) → Extends draft m a → Extends draft m b → a ≡ b
one_base draft m a b e f = cc

pub nothing_in : {X : Type 0} (x : X) → Contains [] x → ⊥
nothing_in x (k, lt, e) = omega arith

-- What stands before a machine in a chain is what it extends, and it does not extend itself.
pub record IsCut (draft : Draft) (m : ℕ) (before : List ℕ) : Type 0 where
  pub has : (x : ℕ) → Contains before x → ExtendsFar draft m x
  pub all : (x : ℕ) → ExtendsFar draft m x → Contains before x
  pub circle : ExtendsFar draft m m → ⊥

get_or_seam : {X : Type 0} (front : List X) (x d : X) → get_or (front ++ x ∷ []) (length front) d ≡ x
get_or_seam [] x d = refl
get_or_seam (y ∷ front) x d = get_or_seam front x d

module _ {draft : Draft} where
  pub far_far : {m n k : ℕ} → ExtendsFar draft m n → ExtendsFar draft n k → ExtendsFar draft m k
  far_far h (directly e) = further _ h e
  far_far h (further o more e) = further o (far_far h more) e

  pub or_far : {m n k : ℕ} → IsOrExtends draft m n → ExtendsFar draft n k → ExtendsFar draft m k
  or_far itself h = h
  or_far (extended f) h = far_far f h

  pub far_or : {m n k : ℕ} → ExtendsFar draft m n → IsOrExtends draft n k → ExtendsFar draft m k
  far_or h itself = h
  far_or h (extended f) = far_far h f

  pub or_or : {m n k : ℕ} → IsOrExtends draft m n → IsOrExtends draft n k → IsOrExtends draft m k
  or_or h itself = h
  or_or h (extended f) = extended (or_far h f)

  pub or_next : {m n k : ℕ} → IsOrExtends draft m n → Extends draft n k → IsOrExtends draft m k
  or_next h e = extended (or_far h (directly e))

  -- the first step of a way up
  pub head : {m n : ℕ} → ExtendsFar draft m n → (y : ℕ) × Extends draft m y × IsOrExtends draft y n
  head {n = n} (directly e) = (n, e, itself)
  head (further o more e) = let h = head more in (h.0, h.1, or_next h.2 e)

  -- from a machine that it extends, what it extends is reached, or reaches that
  pub rest_up : {m y n : ℕ} → Extends draft m y → ExtendsFar draft m n → IsOrExtends draft y n
  rest_up {m = m} {y = y} {n = n} e h = let f = head h in subst (λ k. IsOrExtends draft k n) (one_base draft m f.0 y f.1 e) f.2

  pub or_split : {m n : ℕ} → IsOrExtends draft m n → (n ≡ m) ⊎ ExtendsFar draft m n
  or_split itself = inl refl
  or_split (extended far) = inr far

  -- two machines on the way up: one extends the other
  pub two_up : {m a b : ℕ} → ExtendsFar draft m a → ExtendsFar draft m b → IsOrExtends draft a b ⊎ IsOrExtends draft b a
  two_up {b = b} (directly e) g = inl (rest_up e g)
  two_up {a = a} {b = b} (further o more e) g =
      ⊎_elim
      (λ up. ⊎_elim
      (λ same. inr (extended (subst (λ n. ExtendsFar draft n a) (sym same) (directly e))))
      (λ far. inl (rest_up e far))
      (or_split up))
      (λ down. inr (or_next down e))
      (two_up more g)

  -- a circle is a circle from each of its machines
  pub around : {m y : ℕ} → Extends draft m y → ExtendsFar draft m m → ExtendsFar draft y y
  around e loop = or_far (rest_up e loop) (directly e)

  -- what a machine of a circle extends leads back to it
  pub leads_back : {m n : ℕ} → ExtendsFar draft m m → ExtendsFar draft m n → IsOrExtends draft n m
  leads_back loop (directly e) = rest_up e loop
  leads_back {m = m} loop (further o more e) = rest_up e (loops (leads_back loop more))
    where
      loops : IsOrExtends draft o m → ExtendsFar draft o m
      loops up = or_far up loop

  -- a chain is no circle
  pub no_circle : {m : ℕ} {machines : List ℕ} → IsChain draft m machines → ExtendsFar draft m m → ⊥
  no_circle (chain_base parts is none) loop = let h = head loop in cc (h.1, is, none)
  no_circle (chain_extended other e chain) loop = no_circle chain (around e loop)

  -- the machines of a chain
  pub chain_has : {m : ℕ} {machines : List ℕ} → IsChain draft m machines → (x : ℕ) → Contains machines x → IsOrExtends draft m x
  chain_has {m = m} (chain_base parts is none) x h = subst (IsOrExtends draft m) (sym (the_one m x h)) itself
  chain_has {m = m} (chain_extended other {machines = front} e chain) x h =
      ⊎_elim
      (λ up. extended (far_or (directly e) (chain_has chain x up)))
      (λ here. subst (IsOrExtends draft m) (sym (the_one m x here)) itself)
      (Contains-append_cases front (m ∷ []) x h)

  pub chain_all : {m : ℕ} {machines : List ℕ} → IsChain draft m machines → (x : ℕ) → IsOrExtends draft m x → Contains machines x
  chain_all {m = m} (chain_base parts is none) x up =
      is_one m x (⊎_elim (λ same. same) (λ far. let h = head far in absurd (cc (h.1, is, none))) (or_split up))
  chain_all {m = m} (chain_extended other {machines = front} e chain) x up =
      ⊎_elim
      (λ same. Contains-append_right front (m ∷ []) x (is_one m x same))
      (λ far. Contains-append_left front (m ∷ []) x (chain_all chain x (rest_up e far)))
      (or_split up)

  cut_end : {m other : ℕ} {front : List ℕ} → Extends draft m other → IsChain draft other front → (ExtendsFar draft m m → ⊥) → IsCut draft m front
  cut_end e chain none = record {
    has = λ x h. far_or (directly e) (chain_has chain x h);
    all = λ x far. chain_all chain x (rest_up e far);
    circle = none;
  }

  pub cut_at : {m : ℕ} {machines : List ℕ} → IsChain draft m machines → (k : ℕ) → k < length machines
      → IsCut draft (get_or machines k 0) (take k machines)
  cut_at {m = m} (chain_base parts is none) zero lt = record {
    has = λ x h. absurd (nothing_in x h);
    all = λ x far. let h = head far in absurd (cc (h.1, is, none));
    circle = λ loop. let h = head loop in cc (h.1, is, none);
  }
  cut_at (chain_base parts is none) (suc k) lt = absurd (omega arith)
  cut_at {m = m} (chain_extended other {machines = front} e chain) k lt =
      ⊎_elim
      (λ less. let here = get_or-append front (m ∷ []) 0 k less in
      let cut = take-append-le k front (m ∷ []) (omega arith) in
      subst (λ n. IsCut draft n (take k (front ++ m ∷ []))) (sym here)
      (subst (λ before. IsCut draft (get_or front k 0) before) (sym cut) (cut_at chain k less)))
      (λ more. let at_end : k ≡ length front = omega (arith, length-append front (m ∷ [])) in
      let here = ap (λ n. get_or (front ++ m ∷ []) n 0) at_end ∙ get_or_seam front m 0 in
      let cut = ap (λ n. take n (front ++ m ∷ [])) at_end ∙ take-append_seam front (m ∷ []) in
      subst (λ n. IsCut draft n (take k (front ++ m ∷ []))) (sym here)
      (subst (λ before. IsCut draft m before) (sym cut) (cut_end e chain (no_circle (chain_extended other e chain)))))
      (cases_lt k (length front))
