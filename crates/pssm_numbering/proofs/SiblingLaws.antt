-- The children of an element that are of a kind, one after another.
use Rattle.std.proofs.Common.{◌≡◌, ◌<◌, ◌≤◌, ◌+◌, ◌&&◌, ◌==◌, ℕ, zero, suc, Bool, true, false, cond, List}
use Rattle.std.proofs.Common.{[], ◌∷◌, ◌++◌, length, Option, Some, None, refl, sym, ap, ◌∙◌, ⊎_elim, arith}
use Rattle.std.specs.Prelude.{unwrap_or}
use Rattle.std.specs.List.{range_with_len}
use Rattle.std.proofs.lemmas.Bool.{cases_lt}
use Rattle.pssm_xml.specs.Elements.{IsParent, IsNextChild}
use Rattle.pssm_roles.specs.inner.Seen.{left_from}
use Rattle.pssm_roles.specs.declared.role.Role.{Role}
use Rattle.pssm_profile.proofs.CountingLaws.{in_range}
use Rattle.pssm_profile.proofs.ChildLaws.{is_child, fewer_left}
use Rattle.pssm_numbering.specs.Numbering.{ModelFile, role_at, parent_of, is_number, children_with}
use Rattle.pssm_numbering.specs.inner.Children.{is_child_with}
use Rattle.pssm_numbering.specs.inner.Tables.{AreChildrenTo, first_with}
use Rattle.pssm_numbering.proofs.ChildLaws.{not_with}
use Rattle.pssm_numbering.proofs.ListLaws.{first_more, passed_up}
use Rattle.pssm_numbering.proofs.GroupLaws.{filter_twice}

-- where none passes, no more are listed
gap : (q : ℕ → Bool) (low high : ℕ) → low ≤ high → ((m : ℕ) → low ≤ m → m < high → q m ≡ false) → first_with q high ≡ first_with q low
gap q low zero le none = ap (first_with q) (let e : 0 ≡ low = omega arith in e)
gap q low (suc high) le none =
    ⊎_elim
    (λ more. passed_up q high (none high (omega arith) (omega arith)) ∙ gap q low high (omega arith) (λ m least less. none m least (omega arith)))
    (λ last. ap (first_with q) (let e : suc high ≡ low = omega arith in e))
    (cases_lt low (suc high))

module _ (file : ModelFile) (is : Role → Bool) (p : ℕ) where
  -- up to the next child none passes
  to_next : (low : ℕ) (o : Option ℕ) → low ≤ length file.doc → IsNextChild file.doc p low o
      → first_with (is_child_with is file p) (unwrap_or o (length file.doc)) ≡ first_with (is_child_with is file p) low
  to_next low None le next =
      gap (is_child_with is file p) low (length file.doc) le (λ m least less. not_with is file p m (next m least))
  to_next low (Some k) le next =
      gap (is_child_with is file p) low k next.0 (λ m least less. not_with is file p m (next.2 m least less))

  pub children_start : (o : Option ℕ) → IsNextChild file.doc p 0 o → AreChildrenTo file is p o []
  children_start o next = record { child = is_child file.doc p 0 o next; list = sym (to_next 0 o (omega arith) next) }

  pub child_within : (m : ℕ) (list : List ℕ) → AreChildrenTo file is p (Some m) list → m < length file.doc
  child_within m list h = in_range p [] file.doc m h.child

  pub fewer : (m : ℕ) (o : Option ℕ) (list : List ℕ) → AreChildrenTo file is p (Some m) list → IsNextChild file.doc p (suc m) o
      → left_from (length file.doc) o < left_from (length file.doc) (Some m)
  fewer m o list h next = fewer_left file.doc p m o h.child next

  passes_by_role : (m : ℕ) → IsParent file.doc p m → is_child_with is file p m ≡ is (role_at file m)
  passes_by_role m child =
      ap (λ o. is (role_at file m) && is_number p o) child
      ∙ ap (λ (b : Bool). is (role_at file m) && b) (let e : (let q : ℕ = p in q == p) ≡ true = grind arith in e)
      ∙ both (is (role_at file m))
    where
      both : (b : Bool) → (b && true) ≡ b
      both true = refl
      both false = refl

  pub children_more : (m : ℕ) (o : Option ℕ) (list : List ℕ) → AreChildrenTo file is p (Some m) list → IsNextChild file.doc p (suc m) o
      → AreChildrenTo file is p o (list ++ cond (is (role_at file m)) (m ∷ []) [])
  children_more m o list h next = record {
    child = is_child file.doc p (suc m) o next;
    list = ap (λ xs. xs ++ cond (is (role_at file m)) (m ∷ []) []) h.list
        ∙ ap (λ (b : Bool). first_with (is_child_with is file p) m ++ cond b (m ∷ []) []) (sym (passes_by_role m h.child))
        ∙ sym (first_more (is_child_with is file p) m)
        ∙ ap (first_with (is_child_with is file p)) (let e : m + 1 ≡ suc m = omega arith in e)
        ∙ sym (to_next (suc m) o (let less = child_within m list h in omega arith) next);
  }

  pub children_end : (list : List ℕ) → AreChildrenTo file is p None list → list ≡ children_with is file p
  children_end list h = h.list ∙ sym (filter_twice (λ n. is_number p (parent_of file n)) (λ n. is (role_at file n)) (range_with_len 0 (length file.doc)))
