-- Lines at the front of the same bytes.
use Rattle.std.proofs.Common.{◌≡◌, ℕ, List, [], ◌∷◌, ◌++◌, length, take, drop, Some, refl, sym, ap, subst, ◌∙◌, append_assoc}
use Rattle.std.specs.List.{AllByRecursion, prefix_len}
use Rattle.std.proofs.lemmas.List.{take_at, drop_at, take-append-drop}
use Rattle.pssm_spelling.proofs.SpellingLaws.{passes_front, front_again, stripped_takes, stripped_again}
use Rattle.pssm_flat.specs.Text.{line, text_of}
use Rattle.pssm_flat.specs.Flat.{is_inner}
use Rattle.pssm_flat.specs.inner.Outlines.{IsInner, line_front}
use Rattle.pssm_flat.proofs.Bind.{bind_then, some_is}

-- ---- the first line

pub record IsFirstLine (bytes text rest : List ℕ) : Type 0 where
  pub parts : bytes ≡ line text ++ rest
  pub inner : IsInner text

pub line_front_takes : (bytes text rest : List ℕ) → line_front bytes ≡ Some (text, rest) → IsFirstLine bytes text rest
unfolding line_front
line_front_takes bytes text rest e =
    bind_then _ _ _ e (λ (after : List ℕ) at_after e.
    let n = prefix_len is_inner bytes in
    let front : List ℕ = take n bytes in
    let end : drop n bytes ≡ 10 ∷ after = stripped_takes (10 ∷ []) (drop n bytes) after at_after in
    let whole : bytes ≡ line front ++ after = sym (take-append-drop n bytes) ∙ ap (λ (t : List ℕ). front ++ t) end ∙ sym (append_assoc front (10 ∷ []) after) in
    let made : IsFirstLine bytes front after = record { parts = whole; inner = passes_front is_inner bytes } in
    subst (λ (y : List ℕ × List ℕ). IsFirstLine bytes y.0 y.1) (some_is (front, after) (text, rest) e) made)

pub line_front_again : (text rest : List ℕ) → IsInner text → line_front (line text ++ rest) ≡ Some (text, rest)
unfolding line_front
line_front_again text rest inner =
    let n : prefix_len is_inner (text ++ 10 ∷ rest) ≡ length text = front_again is_inner text (10 ∷ rest) inner refl in
    rw (append_assoc text (10 ∷ []) rest, n, take_at text (10 ∷ rest) (length text) refl, drop_at text (10 ∷ rest) (length text) refl, stripped_again (10 ∷ []) rest) refl

-- ---- one front is a front of the other

-- The second has these lines and further ones.
pub record GoesOn (a b : List (List ℕ)) (x y : List ℕ) : Type 0 where
  pub next : List ℕ
  pub more : List (List ℕ)
  pub parts : b ≡ a ++ next ∷ more
  pub behind : x ≡ line next ++ (text_of more ++ y)

pub data Compared (a b : List (List ℕ)) (x y : List ℕ) : Type 0 where
  second : GoesOn a b x y → Compared a b x y
  first : GoesOn b a y x → Compared a b x y
  same : a ≡ b → x ≡ y → Compared a b x y

one_more : (l : List ℕ) (a b : List (List ℕ)) (x y : List ℕ) → Compared a b x y → Compared (l ∷ a) (l ∷ b) x y
one_more l a b x y (second g) = second (record { next = g.next; more = g.more; parts = ap (λ t. l ∷ t) g.parts; behind = g.behind })
one_more l a b x y (first g) = first (record { next = g.next; more = g.more; parts = ap (λ t. l ∷ t) g.parts; behind = g.behind })
one_more l a b x y (same e f) = same (ap (λ t. l ∷ t) e) f

pub compared : (a b : List (List ℕ)) (x y : List ℕ) → AllByRecursion IsInner a → AllByRecursion IsInner b → text_of a ++ x ≡ text_of b ++ y → Compared a b x y
compared [] [] x y p q e = same refl e
compared [] (l ∷ b) x y p q e = second (record { next = l; more = b; parts = refl; behind = e ∙ append_assoc (line l) (text_of b) y })
compared (l ∷ a) [] x y p q e = first (record { next = l; more = a; parts = refl; behind = sym e ∙ append_assoc (line l) (text_of a) x })
compared (l ∷ a) (m ∷ b) x y p q e =
    let whole : line l ++ (text_of a ++ x) ≡ line m ++ (text_of b ++ y) = sym (append_assoc (line l) (text_of a) x) ∙ e ∙ append_assoc (line m) (text_of b) y in
    let one : (l, text_of a ++ x) ≡ (m, text_of b ++ y) =
    some_is (l, text_of a ++ x) (m, text_of b ++ y) (sym (line_front_again l (text_of a ++ x) p.0) ∙ ap line_front whole ∙ line_front_again m (text_of b ++ y) q.0) in
    let head : l ≡ m = ap (λ (y : List ℕ × List ℕ). y.0) one in
    let tail : text_of a ++ x ≡ text_of b ++ y = ap (λ (y : List ℕ × List ℕ). y.1) one in
    subst (λ (n : List ℕ). Compared (l ∷ a) (n ∷ b) x y) head (one_more l a b x y (compared a b x y p.1 q.1 tail))
