-- Lists by their places and members, and claims.
use Rattle.std.proofs.Common.{◌≡◌, ◌≢◌, ◌⊎◌, ◌<◌, ◌≤◌, ◌==◌, ◌&&◌, ◌++◌, ℕ, ℤ, suc, List, [], ◌∷◌, length, Bool, true, false, not, cond, filter, get_or, Contains, Option, Some, None, slice_get, refl, sym, ap, subst, ◌∙◌, inl, inr, ⊎_elim, arith}
use Rattle.std.specs.Prelude.{AllPairs}
use Rattle.std.specs.Bool.{Decides}
use Rattle.std.specs.List.{list_any}
use Rattle.std.proofs.lemmas.List.Folds.{list_any_at}
use Rattle.std.proofs.lemmas.Map.Views.{Contains-from_any}
use Rattle.std.proofs.lemmas.Bool.{cases_lt}
use Rattle.std.proofs.lemmas.Bool.Decides.{Decides-eqb}
use Rattle.std.proofs.lemmas.Option.{same_Some, slice_get_within, slice_get-get_or, get_or_from_slice_get}
use Rattle.std.proofs.lemmas.List.Elements.{All-contains, All-contains_itself, All-filter, filter_passes, Contains-get_or}
use Rattle.std.proofs.lemmas.List.Quantifiers.{all_pairs_push}
use Rattle.pssm_model.proofs.ElementLaws.{nothing_in_nil}
use Rattle.pssm_model.specs.Equal.{both_pass}
use Rattle.pssm_model.specs.declared.ids.VertexId.{VertexId}
use Rattle.pssm_model.specs.declared.ids.TransId.{TransId}
use Rattle.pssm_semantics.specs.declared.entry.ObjectId.{ObjectId}
use Rattle.pssm_semantics.specs.declared.stimulus.Task.{Task}
use Rattle.pssm_semantics.specs.declared.stimulus.Task.TheVariants.{Exit, Effect, Enter, DoStep}
use Rattle.pssm_semantics_laws.proofs.Members.{first_in, later_in, in_cases}
use Rattle.pssm_semantics_laws.proofs.Objects.{same_object}
use Rattle.pssm_book.specs.Committing.{IsWithout, DifferFirst}
use Rattle.pssm_book.specs.inner.Claims.{is_task, is_claim}

-- lists with the same items at the same places are one
pub same_by_place : {X : Type 0} (xs ys : List X) → length xs ≡ length ys → ((i : ℕ) → i < length xs → slice_get xs i ≡ slice_get ys i) → xs ≡ ys
same_by_place [] [] long same = refl
same_by_place [] (y ∷ ys) long same = absurd (omega arith)
same_by_place (x ∷ xs) [] long same = absurd (omega arith)
same_by_place (x ∷ xs) (y ∷ ys) long same =
    let first : Some x ≡ Some y = same 0 (omega arith) in
    ap (λ (z : _). z ∷ xs) (same_Some x y first)
    ∙ ap (λ (zs : List _). y ∷ zs) (same_by_place xs ys (omega arith) (λ i less. same (suc i) (omega arith)))

-- lists that differ somewhere are two
pub differ_apart : (xs ys : List ℤ) (place : ℕ) (here there : ℤ) → DifferFirst xs ys place here there → xs ≡ ys → ⊥
differ_apart xs ys place here there d same =
    d.differ (same_Some here there (sym d.kept_is ∙ ap (λ (zs : List ℤ). slice_get zs place) same ∙ d.carried_is))

-- they first differ at one place
pub one_place : (xs ys : List ℤ) (p q : ℕ) (a b c d : ℤ) → DifferFirst xs ys p a c → DifferFirst xs ys q b d → p ≡ q
one_place xs ys p q a b c d one other =
    ⊎_elim
    (λ (below : p < q).
    absurd (one.differ (same_Some a c (sym one.kept_is ∙ other.earlier p below ∙ one.carried_is))))
    (λ (past : q ≤ p).
    ⊎_elim
    (λ (above : q < p). absurd (other.differ (same_Some b d (sym other.kept_is ∙ one.earlier q above ∙ other.carried_is))))
    (λ (last : p ≤ q). omega (arith, past, last))
    (cases_lt q p))
    (cases_lt p q)

-- an item at a place is a member, and a member has a place
pub got_member : {X : Type 0} (xs : List X) (i : ℕ) (x : X) → slice_get xs i ≡ Some x → Contains xs x
got_member xs i x at = (i, slice_get_within xs i x at, get_or_from_slice_get xs i x x at)

pub member_got : {X : Type 0} (xs : List X) (x : X) → Contains xs x → (i : ℕ) × (slice_get xs i ≡ Some x)
member_got xs x inside = (inside.0, slice_get-get_or xs inside.0 x inside.1 ∙ ap Some inside.2)

-- ---- a filter

pub in_filter : {X : Type 0} (p : X → Bool) (xs : List X) (x : X) → Contains (filter p xs) x → Contains xs x × (p x ≡ true)
in_filter p xs x inside = (
  All-contains (Contains xs) (filter p xs) x (All-filter p (Contains xs) xs (All-contains_itself xs)) inside,
  All-contains (λ y. p y ≡ true) (filter p xs) x (filter_passes p xs) inside,
)

pub filter_in : {X : Type 0} (p : X → Bool) (xs : List X) (x : X) → Contains xs x → p x ≡ true → Contains (filter p xs) x
filter_in p [] x inside passes = absurd (nothing_in_nil x inside)
filter_in p (y ∷ ys) x inside passes = by (λ later. filter_in p ys x later passes) (p y) refl (in_cases y ys x inside) where
  by : (Contains ys x → Contains (filter p ys) x) → (b : Bool) → p y ≡ b → (x ≡ y) ⊎ Contains ys x → Contains (cond b (y ∷ filter p ys) (filter p ys)) x
  by rest true at (inl same) = subst (Contains (y ∷ filter p ys)) (sym same) (first_in y (filter p ys))
  by rest true at (inr later) = later_in y (filter p ys) x (rest later)
  by rest false at (inl same) = let clash : true ≡ false = sym passes ∙ ap p same ∙ at in absurd cc
  by rest false at (inr later) = rest later

pub filter_fewer : {X : Type 0} (p : X → Bool) (xs : List X) → length (filter p xs) ≤ length xs
filter_fewer p [] = omega arith
filter_fewer p (y ∷ ys) = by (filter_fewer p ys) (p y) where
  by : length (filter p ys) ≤ length ys → (b : Bool) → length (cond b (y ∷ filter p ys) (filter p ys)) ≤ length (y ∷ ys)
  by few true = omega (arith, few)
  by few false = omega (arith, few)

pub filter_keeps : {X : Type 0} (p : X → Bool) (xs : List X) → ((x : X) → Contains xs x → p x ≡ true) → filter p xs ≡ xs
filter_keeps p [] all = refl
filter_keeps p (y ∷ ys) all = by (filter_keeps p ys (λ x inside. all x (later_in y ys x inside))) (p y) (all y (first_in y ys)) where
  by : filter p ys ≡ ys → (b : Bool) → b ≡ true → cond b (y ∷ filter p ys) (filter p ys) ≡ y ∷ ys
  by rest true is = ap (λ (zs : List _). y ∷ zs) rest
  by rest false is = absurd cc

-- ---- claims

-- tasks that compare as equal are equal, and the other way round
pub task_same : (a b : Task) → is_task a b ≡ true → a ≡ b
task_same (Exit s) (Exit t) e = ap (λ n. let v : VertexId = record { 0 = n } in Exit v) ((Decides-eqb s.0 t.0).0 e)
task_same (Effect s) (Effect t) e = ap (λ n. let v : TransId = record { 0 = n } in Effect v) ((Decides-eqb s.0 t.0).0 e)
task_same (Enter s) (Enter t) e = ap (λ n. let v : VertexId = record { 0 = n } in Enter v) ((Decides-eqb s.0 t.0).0 e)
task_same (DoStep s k) (DoStep t n) e =
    let both = both_pass _ _ e in
    ap (λ i. let v : VertexId = record { 0 = i } in DoStep v k) ((Decides-eqb s.0 t.0).0 both.0) ∙ ap (λ j. DoStep t j) ((Decides-eqb k n).0 both.1)
task_same a b e = cc

both_true : (x y : Bool) → x ≡ true → y ≡ true → (x && y) ≡ true
both_true true y p q = q
both_true false y p q = p

task_itself : (a : Task) → is_task a a ≡ true
task_itself (Exit s) = (Decides-eqb s.0 s.0).1 refl
task_itself (Effect s) = (Decides-eqb s.0 s.0).1 refl
task_itself (Enter s) = (Decides-eqb s.0 s.0).1 refl
task_itself (DoStep s k) = both_true (s.0 == s.0) (k == k) ((Decides-eqb s.0 s.0).1 refl) ((Decides-eqb k k).1 refl)

-- so claims are
pub claim_decided : (a b : ObjectId × Task) → Decides (is_claim a b) (a ≡ b)
claim_decided a b = (
  λ e.
      let both = both_pass _ _ e in
      ap (λ (o : ObjectId). (o, a.1)) (same_object a.0 b.0 both.0) ∙ ap (λ (t : Task). (b.0, t)) (task_same a.1 b.1 both.1),
  λ same.
      subst (λ (c : ObjectId × Task). is_claim a c ≡ true) same
      (both_true (a.0.0 == a.0.0) (is_task a.1 a.1) ((Decides-eqb a.0.0 a.0.0).1 refl) (task_itself a.1)),
)

not_passes : (b : Bool) → not b ≡ true → b ≡ true → ⊥
not_passes true n e = cc
not_passes false n e = cc

passes_not : (b : Bool) → (b ≡ true → ⊥) → not b ≡ true
passes_not true none = absurd (none refl)
passes_not false none = refl

-- the claims but one
abbrev pub others : ObjectId × Task → List (ObjectId × Task) → List (ObjectId × Task)
others at claims = filter (λ (x : ObjectId × Task). not (is_claim x at)) claims

pub without_is : (at : ObjectId × Task) (claims : List (ObjectId × Task)) → IsWithout claims at (others at claims)
without_is at claims = λ claim. (
  λ inside.
      let both = in_filter (λ (x : ObjectId × Task). not (is_claim x at)) claims claim inside in
      (both.0, λ same. not_passes (is_claim claim at) both.1 ((claim_decided claim at).1 same)),
  λ h. filter_in (λ (x : ObjectId × Task). not (is_claim x at)) claims claim h.0 (passes_not (is_claim claim at) (λ e. h.1 ((claim_decided claim at).0 e))),
)

pub without_none : (at : ObjectId × Task) (claims : List (ObjectId × Task)) → (Contains claims at → ⊥) → others at claims ≡ claims
without_none at claims absent =
    filter_keeps (λ (x : ObjectId × Task). not (is_claim x at)) claims
    (λ x inside. passes_not (is_claim x at) (λ e. absent (subst (Contains claims) ((claim_decided x at).0 e) inside)))

-- one claim more that was not there
pub apart_more : (claims : List (ObjectId × Task)) (at : ObjectId × Task) → AllPairs (λ a b. a ≢ b) claims → (Contains claims at → ⊥)
    → AllPairs (λ a b. a ≢ b) (claims ++ at ∷ [])
apart_more claims at pairs absent =
    all_pairs_push (λ a b. a ≢ b) claims at pairs (λ k d less same. absent (subst (Contains claims) same (Contains-get_or claims k d less)))

-- whether a claim is among others, as a value
pub among_is : (at : ObjectId × Task) (claims : List (ObjectId × Task)) → Decides (list_any (is_claim at) claims) (Contains claims at)
among_is at claims = (
  λ e. Contains-from_any (λ x y same. (claim_decided x y).0 same) at claims e,
  λ inside. list_any_at (is_claim at) claims inside.0 at inside.1 ((claim_decided at (get_or claims inside.0 at)).1 (sym inside.2)),
)
