-- Items that follow one another, each of which fits behind the ones before, or leads on from what stands before it.
use Rattle.std.proofs.Common.{◌≡◌, ℕ, suc, ◌+◌, List, [], ◌∷◌, ◌++◌, length, Some, refl, sym, ap, subst, ◌∙◌, append_assoc, arith}
use Rattle.std.proofs.lemmas.List.{append-nil}
use Rattle.std.specs.Prelude.{map, slice_get}
use Rattle.std.specs.List.{AllByRecursion}
use Rattle.pssm_flat.specs.Text.{numbered}
use Rattle.pssm_flat.specs.Flat.{AllBehind, Leads}

-- one more item at the end
pub fit_push : {X : Type 0} (Fits : List X → X → Type 0) (seen new : List X) (x : X) → AllBehind Fits seen new → Fits (seen ++ new) x → AllBehind Fits seen (new ++ x ∷ [])
fit_push Fits seen [] x fit here = (subst (λ s. Fits s x) (append-nil seen) here, tt)
fit_push Fits seen (y ∷ new) x fit here = (fit.0, fit_push Fits (seen ++ y ∷ []) new x fit.1 (subst (λ s. Fits s x) (sym (append_assoc seen (y ∷ []) new)) here))

-- one more item leads on
pub leads_push : {S X : Type 0} (Step : S → X → S → Type 0) (before : S) (xs : List X) (middle behind : S) (x : X) → Leads Step before xs middle → Step middle x behind → Leads Step before (xs ++ x ∷ []) behind
leads_push Step before [] middle behind x same step = (behind, subst (λ s. Step s x behind) (sym same) step, refl)
leads_push Step before (y ∷ xs) middle behind x leads step = (leads.0, leads.1, leads_push Step leads.0 xs middle behind x leads.2 step)

-- the last item leads on from what the others lead to
pub leads_split : {S X : Type 0} (Step : S → X → S → Type 0) (before : S) (xs : List X) (behind : S) (x : X) → Leads Step before (xs ++ x ∷ []) behind → (middle : S) × Leads Step before xs middle × Step middle x behind
leads_split Step before [] behind x leads = (before, refl, subst (λ s. Step before x s) leads.2 leads.1)
leads_split Step before (y ∷ xs) behind x leads =
    let more = leads_split Step leads.0 xs behind x leads.2 in
    (more.0, (leads.0, leads.1, more.1), more.2)

pub map_push : {X Y : Type 0} (f : X → Y) (xs : List X) (x : X) → map f (xs ++ x ∷ []) ≡ map f xs ++ f x ∷ []
map_push f [] x = refl
map_push f (y ∷ xs) x = ap (λ t. f y ∷ t) (map_push f xs x)

pub all_split : {X : Type 0} (P : X → Type 0) (xs : List X) (x : X) → AllByRecursion P (xs ++ x ∷ []) → AllByRecursion P xs × P x
all_split P [] x all = (tt, all.0)
all_split P (y ∷ xs) x all = let more = all_split P xs x all.1 in ((all.0, more.0), more.1)

pub all_append : {X : Type 0} (P : X → Type 0) (xs ys : List X) → AllByRecursion P xs → AllByRecursion P ys → AllByRecursion P (xs ++ ys)
all_append P [] ys all more = more
all_append P (x ∷ xs) ys all more = (all.0, all_append P xs ys all.1 more)

pub numbered_push : {X : Type 0} (f : ℕ → X → List (List ℕ)) (n : ℕ) (xs : List X) (x : X) → numbered f n (xs ++ x ∷ []) ≡ numbered f n xs ++ f (n + length xs) x
numbered_push f n [] x = let same : n ≡ n + 0 = omega arith in append-nil (f n x) ∙ ap (λ k. f k x) same
numbered_push f n (y ∷ xs) x =
    let same : suc n + length xs ≡ n + suc (length xs) = omega arith in
    ap (λ t. f n y ++ t) (numbered_push f (suc n) xs x ∙ ap (λ k. numbered f (suc n) xs ++ f k x) same) ∙ sym (append_assoc (f n y) (numbered f (suc n) xs) (f (n + suc (length xs)) x))

pub numbered_next : {X : Type 0} (f : ℕ → X → List (List ℕ)) (xs : List X) (x : X) (n : ℕ) → n ≡ length xs → numbered f 0 (xs ++ x ∷ []) ≡ numbered f 0 xs ++ f n x
numbered_next f xs x n e = let same : 0 + length xs ≡ n = omega arith in numbered_push f 0 xs x ∙ ap (λ k. numbered f 0 xs ++ f k x) same

-- lines of single items, numbered or not
pub numbered_map : {X : Type 0} (f : X → List ℕ) (n : ℕ) (xs : List X) → numbered (λ k x. f x ∷ []) n xs ≡ map f xs
numbered_map f n [] = refl
numbered_map f n (x ∷ xs) = ap (λ t. f x ∷ t) (numbered_map f (suc n) xs)

-- the item behind a front
pub get_behind : {X : Type 0} (xs ys : List X) (x : X) → slice_get (xs ++ x ∷ ys) (length xs) ≡ Some x
get_behind [] ys x = refl
get_behind (y ∷ xs) ys x = get_behind xs ys x
