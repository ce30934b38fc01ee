-- The line by which one more class has been read to its end stands at one place alone.
use Rattle.std.proofs.Common.{◌≡◌, ℕ, ◌<◌, ◌≤◌, List, [], ◌∷◌, ◌++◌, length, Some, Ok, refl, sym, ap, subst, ◌∙◌, arith}
use Rattle.std.proofs.lemmas.List.{append-nil, length-append}
use Rattle.pssm_flat.specs.declared.outline.Outline.{Outline}
use Rattle.pssm_flat.specs.declared.outline.Outline.TheVariants as stages
use Rattle.pssm_flat.specs.inner.Lines.{◌>>=◌}
use Rattle.pssm_flat.specs.inner.Outlines.{taken, after_bytes, after_lines, done_of}
use Rattle.pssm_flat.proofs.Bind.{bind_some, some_is, ok_is}
use Rattle.pssm_flat.proofs.Reach.{lines_reach, after_append, taken_is}
use Rattle.pssm_flat.proofs.Stays.{done_stay}

-- ---- fronts of the same lines

pub data Fronts (a b x y : List (List ℕ)) : Type 0 where
  first_longer : (m : List (List ℕ)) → a ≡ b ++ m → y ≡ m ++ x → Fronts a b x y
  second_longer : (m : List (List ℕ)) → b ≡ a ++ m → x ≡ m ++ y → Fronts a b x y

one_more : (l : List ℕ) (a b x y : List (List ℕ)) → Fronts a b x y → Fronts (l ∷ a) (l ∷ b) x y
one_more l a b x y (first_longer m e f) = first_longer m (ap (λ t. l ∷ t) e) f
one_more l a b x y (second_longer m e f) = second_longer m (ap (λ t. l ∷ t) e) f

head_same : (l m : List ℕ) (a b : List (List ℕ)) → (l ∷ a) ≡ m ∷ b → (l ≡ m) × (a ≡ b)
head_same l m a b e = (let same : l ≡ m = cc in same, let same : a ≡ b = cc in same)

pub fronts : (a b x y : List (List ℕ)) → a ++ x ≡ b ++ y → Fronts a b x y
fronts [] b x y e = second_longer b refl e
fronts (l ∷ a) [] x y e = first_longer (l ∷ a) refl (sym e)
fronts (l ∷ a) (m ∷ b) x y e =
    let parts = head_same l m (a ++ x) (b ++ y) e in
    subst (λ (k : List ℕ). Fronts (l ∷ a) (k ∷ b) x y) parts.0 (one_more l a b x y (fronts a b x y parts.1))

-- ---- reading on

pub reads_on : (d e : Outline) (l : List ℕ) (ls : List (List ℕ)) → after_lines d (l ∷ ls) ≡ Some e → (x : Outline) × (after_bytes d l ≡ Ok (Some x)) × (after_lines x ls ≡ Some e)
reads_on d e l ls eq =
    let parts = bind_some (taken (after_bytes d l)) (λ x. after_lines x ls) e eq in
    (parts.0, taken_is (after_bytes d l) parts.0 parts.1, parts.2)

pub reads_to : (a b : List (List ℕ)) (d e : Outline) → after_lines stages.Start a ≡ Some d → after_lines stages.Start (a ++ b) ≡ Some e → after_lines d b ≡ Some e
reads_to a b d e front whole =
    let rest : (after_lines stages.Start a >>= (λ x. after_lines x b)) ≡ Some e = sym (after_append stages.Start a b) ∙ whole in
    ap (λ o. o >>= (λ x. after_lines x b)) (sym front) ∙ rest

-- Behind these lines at most so many classes have been read, and more with the next line.
pub record TurnsAt (n : ℕ) (ls : List (List ℕ)) (l : List ℕ) : Type 0 where
  pub outline : Outline
  pub reads : after_lines stages.Start ls ≡ Some outline
  pub next : Outline
  pub reads_next : after_bytes outline l ≡ Ok (Some next)
  pub few : length (done_of outline) ≤ n
  pub many : n < length (done_of next)

-- it does not stand before another one
not_before : (n : ℕ) (a b m : List (List ℕ)) (l k : List ℕ) → TurnsAt n a l → TurnsAt n b k → a ≡ b ++ k ∷ m → ⊥
not_before n a b m l k p q e =
    let on = reads_to b (k ∷ m) q.outline p.outline q.reads (ap (after_lines stages.Start) (sym e) ∙ p.reads) in
    let step = reads_on q.outline p.outline k m on in
    let same : q.next ≡ step.0 = some_is q.next step.0 (ok_is (Some q.next) (Some step.0) (sym q.reads_next ∙ step.1)) in
    let good = (lines_reach stages.Start (b ++ k ∷ []) step.0 tt (after_append stages.Start b (k ∷ []) ∙ ap (λ o. o >>= (λ x. after_lines x (k ∷ []))) q.reads ∙ ap (λ r. taken r >>= (λ x. Some x)) step.1)).1 in
    let stays = done_stay step.0 p.outline m good step.2 in
    absurd (let few = p.few in let many = q.many in omega (arith, few, many, ap (λ x. length (done_of x)) same, ap length stays.1, length-append (done_of step.0) stays.0))

pub one_turn : (n : ℕ) (a b x y : List (List ℕ)) (l k : List ℕ) → TurnsAt n a l → TurnsAt n b k → a ++ l ∷ x ≡ b ++ k ∷ y → a ≡ b
one_turn n a b x y l k p q e = by_fronts (fronts a b (l ∷ x) (k ∷ y) e) where
  by_fronts : Fronts a b (l ∷ x) (k ∷ y) → a ≡ b
  by_fronts (first_longer [] f g) = f ∙ append-nil b
  by_fronts (first_longer (j ∷ m) f g) = absurd (not_before n a b m l k p q (f ∙ ap (λ t. b ++ t ∷ m) (sym (head_same k j y (m ++ l ∷ x) g).0)))
  by_fronts (second_longer [] f g) = sym (f ∙ append-nil a)
  by_fronts (second_longer (j ∷ m) f g) = absurd (not_before n b a m k l q p (f ∙ ap (λ t. a ++ t ∷ m) (sym (head_same l j x (m ++ k ∷ y) g).0)))
