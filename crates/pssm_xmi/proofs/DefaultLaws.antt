-- The default of a variable of a file without faults is an integer.
use Rattle.std.proofs.Common.{◌≡◌, ◌≤◌, ◌<◌, ◌==◌, ℕ, zero, suc, ℤ, pos, Bool, true, false, List, [], ◌∷◌, length, filter, Option, Some, None, refl, sym, ap, subst, ◌∙◌, arith}
use Rattle.std.specs.Prelude.{slice_get, codes, bytes_eq, nat_lt, position, option_and_then, IfSome, if◌then◌else◌}
use Rattle.std.specs.List.{position_or_len}
use Rattle.std.specs.Option.{option_map_or}
use Rattle.pssm_xml.specs.Documents.{Element}
use Rattle.pssm_xml.specs.Elements.{is_child_of}
use Rattle.pssm_roles.specs.declared.role.Role.TheVariants as role
use Rattle.pssm_roles.specs.Roles.{HasRole, is_typed, settled, row, type_of, reference_role, guard_role}
use Rattle.pssm_roles.specs.Roles.HasRole.{child}
use Rattle.pssm_values.specs.Integers.{SaysInteger}
use Rattle.pssm_values.specs.inner.IntegerReading.{integer_read}
use Rattle.pssm_values.proofs.IntegerLaws.{reads_what_is_spelled}
use Rattle.pssm_profile.specs.declared.flaw.Flaw.TheVariants as flaws
use Rattle.pssm_profile.specs.declared.flaw.Unread.TheVariants as unread
use Rattle.pssm_profile.specs.Counts.{children_count, said}
use Rattle.pssm_profile.specs.Kinds.{IsVariable, IsDefaultOfVariable}
use Rattle.pssm_profile.specs.Flaws.HasFlaw.{by_role}
use Rattle.pssm_profile.specs.Faults.{HasNoProfileFault}
use Rattle.pssm_xmi.proofs.Tests.{by_test, both}
use Rattle.pssm_xmi.proofs.Ends.{child_parent}
use Rattle.pssm_xmi.proofs.Behaviours.{one_at_most}

-- ---- what is not asked in vain

-- Whether a value says an integer is decided.
says_integer : (o : Option (List ℕ)) → (((i : ℤ) → SaysInteger o i → ⊥) → ⊥) → (i : ℤ) × SaysInteger o i
says_integer None some = (pos 0, refl)
says_integer (Some word) some = by_read (integer_read word) refl where
  by_read : (r : Option ℤ) → r ≡ integer_read word → (i : ℤ) × SaysInteger (Some word) i
  by_read None is = absurd (some (λ i spells. let none : None ≡ Some i = (reads_what_is_spelled word i None is).1 spells in absurd cc))
  by_read (Some i) is = (i, (reads_what_is_spelled word i (Some i) is).0 refl)

-- ---- the first of a list that passes

-- what passes, at its place
pub record PassesAt {X : Type 0} (test : X → Bool) (xs : List X) (n : ℕ) : Type 0 where
  pub one : X
  pub at : slice_get xs n ≡ Some one
  pub passes : test one ≡ true

here : {X : Type 0} (test : X → Bool) (xs : List X) → position_or_len test xs < length xs → PassesAt test xs (position_or_len test xs)
here test [] less = absurd (omega (arith, less))
here test (x ∷ xs) less =
    by_test (test x)
    (λ e. let is : position_or_len test (x ∷ xs) ≡ 0 = rw e refl in
    subst (PassesAt test (x ∷ xs)) (sym is) (record { one = x; at = refl; passes = e }))
    (λ e. let is : position_or_len test (x ∷ xs) ≡ suc (position_or_len test xs) = rw e (omega arith) in
    let more = here test xs (omega (arith, is, less)) in
    subst (PassesAt test (x ∷ xs)) (sym is) (record { one = more.one; at = more.at; passes = more.passes }))

position_passes : {X : Type 0} (test : X → Bool) (xs : List X) (n : ℕ) → position test xs ≡ Some n → PassesAt test xs n
position_passes test xs n is =
    by_test (nat_lt (position_or_len test xs) (length xs))
    (λ e. let found : position test xs ≡ Some (position_or_len test xs) = rw e refl in
    let same : Some (position_or_len test xs) ≡ Some n = sym found ∙ is in
    let own : position_or_len test xs ≡ n = cc in
    subst (PassesAt test xs) own (here test xs (grind (arith, e))))
    (λ e. let none : position test xs ≡ None = rw e refl in let wrong : None ≡ Some n = sym none ∙ is in absurd cc)

nothing : {X : Type 0} (xs : List X) → length xs ≤ 0 → xs ≡ []
nothing [] le = refl
nothing (x ∷ xs) le = absurd (omega (arith, le))

-- What passes is the only one of at most one that pass.
only_passing : {X : Type 0} (test : X → Bool) (xs : List X) (n : ℕ) (x : X) → slice_get xs n ≡ Some x → test x ≡ true → length (filter test xs) ≤ 1
    → filter test xs ≡ x ∷ []
only_passing test [] n x at passes few = absurd cc
only_passing test (y ∷ ys) zero x at passes few =
    let same : y ≡ x = cc in
    let its : test y ≡ true = ap test same ∙ passes in
    let taken : filter test (y ∷ ys) ≡ y ∷ filter test ys = rw its refl in
    let count = ap length taken in
    taken ∙ ap (λ a. a ∷ filter test ys) same ∙ ap (λ more. x ∷ more) (nothing (filter test ys) (omega (arith, count, few)))
only_passing test (y ∷ ys) (suc n) x at passes few = by_first (test y) refl (only_passing test ys n x at passes) where
  by_first : (b : Bool) → test y ≡ b → (length (filter test ys) ≤ 1 → filter test ys ≡ x ∷ []) → filter test (y ∷ ys) ≡ x ∷ []
  by_first true e later =
      let taken : filter test (y ∷ ys) ≡ y ∷ filter test ys = rw e refl in
      let count = ap length taken in
      let one = ap length (later (omega (arith, count, few))) in absurd (omega (arith, count, few, one))
  by_first false e later =
      let passed : filter test (y ∷ ys) ≡ filter test ys = rw e refl in
      let count = ap length passed in passed ∙ later (omega (arith, count, few))

-- ---- defaults

module _ (doc : List Element) (none : HasNoProfileFault doc) (v : ℕ) (is : IsVariable doc v) where
  few_defaults : children_count doc v (codes "defaultValue") ≤ 1
  few_defaults =
      one_at_most (children_count doc v (codes "defaultValue"))
      (λ several. none v (flaws.Unsupported unread.Several) (by_role role.Attribute is.attribute (is, several)))

  default_role : (e : Element) → bytes_eq e.name (codes "defaultValue") ≡ true
      → row role.Attribute e.name (type_of e) (reference_role e) (guard_role e) ≡ role.Default
  default_role e named = ap (λ (b : Bool). if b then role.Default else role.Passed) named

  -- The default is read.
  is_default : (d : ℕ) (e : Element) → slice_get doc d ≡ Some e → is_child_of v (codes "defaultValue") e ≡ true → IsDefaultOfVariable doc d
  is_default d e at passes =
      let in_v = child_parent v (codes "defaultValue") e passes in
      let named = (both (option_map_or (λ (q : ℕ). q == v) e.parent false) (bytes_eq e.name (codes "defaultValue")) passes).1 in
      record {
        default = subst (HasRole doc d) (ap (settled doc v d) (default_role e named)) (child at in_v is.attribute);
        of = v;
        parent = ap (λ (o : Option Element). option_and_then (λ (x : Element). x.parent) o) at ∙ in_v;
        variable = is;
      }

  -- It says an integer.
  integer_default : (d : ℕ) (e : Element) → slice_get doc d ≡ Some e → is_child_of v (codes "defaultValue") e ≡ true
      → (i : ℤ) × SaysInteger (said doc d (codes "value")) i
  integer_default d e at passes =
      let default = is_default d e at passes in
      let only = only_passing (is_child_of v (codes "defaultValue")) doc d e at passes few_defaults in
      let typed = ap (λ (o : Option Element). option_map_or (is_typed (codes "uml:LiteralInteger")) o false) at ∙ is.integer e only in
      says_integer (said doc d (codes "value"))
      (λ says_none. none d (flaws.Unsupported unread.Value) (by_role role.Default default.default (default, (typed, says_none))))

  pub integer_first : (found : Option ℕ) → position (is_child_of v (codes "defaultValue")) doc ≡ found
      → IfSome found (λ d. (i : ℤ) × SaysInteger (said doc d (codes "value")) i)
  integer_first None at = tt
  integer_first (Some d) at =
      let there = position_passes (is_child_of v (codes "defaultValue")) doc d at in integer_default d there.one there.at there.passes
