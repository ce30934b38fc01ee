-- The machine of each element.
use Rattle.std.proofs.Common.{◌≡◌, ◌<◌, ◌≤◌, ℕ, zero, suc, Bool, true, false, cond, List, [], ◌∷◌}
use Rattle.std.proofs.Common.{length, get_or, Option, Some, None, IfSome, refl, sym, ap, subst, ◌∙◌, arith}
use Rattle.std.specs.Prelude.{slice_get, unwrap_or}
use Rattle.std.specs.List.{All}
use Rattle.std.specs.Option.{option_and_then}
use Rattle.std.proofs.lemmas.List.Elements.{All-from_get_or}
use Rattle.pssm_roles.specs.declared.role.Role.{Role}
use Rattle.pssm_roles.specs.declared.role.Role.TheVariants as role
use Rattle.pssm_numbering.specs.Numbering.{ModelFile, role_at, parent_of, is_machine, machines, with_role, machine_within, machine_of, place_in}
use Rattle.pssm_numbering.specs.inner.Tables.{HoldsList, HoldsMachines, has_role, found_place}
use Rattle.pssm_numbering.proofs.ListLaws.{by_test, stands, place_at, counts, found_is_place, places_length, listed_length}

-- what a lookup by two steps finds
pub and_then_some : {X Y : Type 0} (g : X → Option Y) (o : Option X) (y : Y) → option_and_then g o ≡ Some y → (x : X) × (o ≡ Some x) × (g x ≡ Some y)
and_then_some g None y e = absurd cc
and_then_some g (Some x) y e = (x, refl, e)

-- ---- what a machine is

pub within_machine : (file : ModelFile) (steps n m : ℕ) → machine_within steps file n ≡ Some m → is_machine (role_at file m) ≡ true
within_machine file zero n m e = absurd cc
within_machine file (suc steps) n m e =
    by_test (is_machine (role_at file n))
    (λ here. let it = ap (λ (b : Bool). cond b (Some n) (option_and_then (machine_within steps file) (parent_of file n))) here in
    let same : n ≡ m = let f : Some n ≡ Some m = sym it ∙ e in cc in
    ap (λ k. is_machine (role_at file k)) (sym same) ∙ here)
    (λ other. let it = ap (λ (b : Bool). cond b (Some n) (option_and_then (machine_within steps file) (parent_of file n))) other in
    let above = and_then_some (machine_within steps file) (parent_of file n) m (sym it ∙ e) in
    within_machine file steps above.0 m above.2)

-- An element with a role that is not passed over is among the elements.
known : (is : Role → Bool) (roles : List Role) (m : ℕ) → is role.Passed ≡ false → is (unwrap_or (slice_get roles m) role.Passed) ≡ true → m < length roles
known is [] m none here = absurd cc
known is (r ∷ roles) zero none here = omega arith
known is (r ∷ roles) (suc m) none here = let less = known is roles m none here in omega arith

pub machine_there : (file : ModelFile) (n m : ℕ) → length file.roles ≡ length file.doc → machine_of file n ≡ Some m
    → (is_machine (role_at file m) ≡ true) × (m < length file.doc)
machine_there file n m same e =
    let here = within_machine file (suc n) n m e in
    let less = known is_machine file.roles m refl here in
    (here, omega arith)

-- ---- whole tables

module _ (file : ModelFile) (is : Role → Bool) (list : List ℕ) (places : List (Option ℕ)) (h : HoldsList file is list places) where
  pub list_within : All (λ n. n < length file.doc) list
  list_within = All-from_get_or (λ n. n < length file.doc) list 0 each where
    each : (i : ℕ) → i < length list → get_or list i 0 < length file.doc
    each i less =
        let l = ap length h.lists.list in
        let s = stands (has_role is file) (length file.doc) i 0 (omega arith) in
        subst (λ xs. get_or xs i 0 < length file.doc) (sym h.lists.list) s.less

  pub list_few : length list ≤ 16777216
  list_few = let l = listed_length (has_role is file) (length file.doc) list places h.lists in let f = h.few in omega arith

  pub list_noted : length places ≡ length file.doc
  list_noted = places_length (has_role is file) (length file.doc) list places h.lists

  pub list_place : (n : ℕ) → n < length file.doc → found_place list places n ≡ place_in (with_role is file) n
  list_place n less = found_is_place (has_role is file) (length file.doc) list places h.lists n less ∙ ap (λ xs. place_in xs n) h.lists.list

-- the machine of an element has a place among the machines
pub place_there : (file : ModelFile) (n m : ℕ) → length file.roles ≡ length file.doc → machine_of file n ≡ Some m
    → place_in (machines file) m < length (machines file)
place_there file n m same e =
    let there = machine_there file n m same e in
    let at = place_at (has_role is_machine file) (length file.doc) m there.1 there.0 in
    let less = counts (has_role is_machine file) (length file.doc) m there.1 there.0 in
    omega arith

-- ---- what is asked of the whole table

pub get_any : (xs : List (Option ℕ)) (i : ℕ) (x : Option ℕ) → i < length xs → x ≡ get_or xs i x → get_or xs i None ≡ x
get_any [] i x less e = absurd (omega arith)
get_any (y ∷ xs) zero x less e = sym e
get_any (y ∷ xs) (suc i) x less e = get_any xs i x (omega arith) e

pub if_some : (o : Option ℕ) (P : ℕ → Type 0) → ((m : ℕ) → o ≡ Some m → P m) → IfSome o P
if_some None P f = tt
if_some (Some m) P f = f m refl

module _ (file : ModelFile) (table : List (Option ℕ)) (list : List ℕ) (places : List (Option ℕ)) (h : HoldsMachines file table list places)
    (n : ℕ) (o : Option ℕ) (less : n < length file.doc) (at : o ≡ get_or table n o) where
  pub machine_is : o ≡ machine_of file n
  machine_is = let c = h.each.count in sym (get_any table n o (omega arith) at) ∙ h.each.each n (suc n) less (omega arith)

  pub machine_within_file : IfSome o (λ m. m < length file.doc)
  machine_within_file = if_some o (λ m. m < length file.doc) (λ m e. (machine_there file n m h.all.roles (sym machine_is ∙ e)).1)

  pub machine_listed : IfSome o (λ m. place_in (machines file) m < length (machines file))
  machine_listed = if_some o (λ m. place_in (machines file) m < length (machines file)) (λ m e. place_there file n m h.all.roles (sym machine_is ∙ e))
