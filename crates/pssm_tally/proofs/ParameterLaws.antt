-- Parameters of a signal, counted one behind another.
use Rattle.std.proofs.Common.{◌≡◌, ◌↔◌, ◌<◌, ◌≤◌, ◌+◌, ℕ, suc, Bool, true, false, List, Option, Some, None, refl, sym, subst, ◌∙◌, arith}
use Rattle.std.proofs.lemmas.Bool.Decides.{Decides-eqb}
use Rattle.std.proofs.lemmas.Option.{same_Some}
use Rattle.std.specs.Prelude.{IsTrue, nat_eq, slice_get, option_map, option_and_then, if◌then◌else◌}
use Rattle.pssm_xml.specs.Documents.{Element}
use Rattle.pssm_xml.specs.Elements.{HasParent, IsParent, IsNextChild}
use Rattle.pssm_roles.specs.Roles.{HasRole}
use Rattle.pssm_roles.specs.declared.role.Role.TheVariants as role
use Rattle.pssm_profile.specs.Kinds.{StandBefore}
use Rattle.pssm_profile.specs.Flaws.{IsParameterOf}
use Rattle.pssm_tally.specs.inner.Parameters.{IsCountedBelow, PassesParameters}
use Rattle.pssm_tally.proofs.BeforeLaws.{gap, one_behind, none_behind, none_first, same_count}

module _ (doc : List Element) (p n : ℕ) where
  pub at_first : (first : Option ℕ) → IsNextChild doc p 0 first → IsCountedBelow doc p n 0 first
  at_first first next = record { low = 0; within = omega arith; few = omega arith; next = next; counted = none_first (IsParameterOf doc p) }

  pub is_parent : (count child : ℕ) → IsCountedBelow doc p n count (Some child) → IsParent doc p child
  is_parent count child far = far.next.1

  -- All are counted where the next child is not before the element, and where there is none.
  pub at_element : (count child : ℕ) → IsCountedBelow doc p n count (Some child) → n ≤ child → StandBefore (IsParameterOf doc p) n count
  at_element count child far behind =
      gap (IsParameterOf doc p) far.low n count far.within far.counted (λ m least less is. far.next.2 m least (omega (arith, less, behind)) is.1)

  pub at_end : (count : ℕ) → IsCountedBelow doc p n count None → StandBefore (IsParameterOf doc p) n count
  at_end count far = gap (IsParameterOf doc p) far.low n count far.within far.counted (λ m least less is. far.next m least is.1)

  -- One turn counts one child.
  pub one_on : (count child : ℕ) (so : Bool) (next : Option ℕ) → IsCountedBelow doc p n count (Some child) → child < n
      → IsTrue so ↔ HasRole doc child role.Parameter
      → IsNextChild doc p (suc child) next → IsCountedBelow doc p n (count + (if so then 1 else 0)) next
  one_on count child so next far less is goes = by_test so is where
    before : StandBefore (IsParameterOf doc p) child count
    before = gap (IsParameterOf doc p) far.low child count far.next.0 far.counted (λ m least below own. far.next.2 m least below own.1)

    by_test : (t : Bool) → IsTrue t ↔ HasRole doc child role.Parameter → IsCountedBelow doc p n (count + (if t then 1 else 0)) next
    by_test true own = record {
      low = suc child;
      within = omega (arith, less);
      few = (let few = far.few in let least = far.next.0 in omega (arith, few, least));
      next = goes;
      counted = one_behind (IsParameterOf doc p) child count before (own.0 refl, far.next.1);
    }
    by_test false own = record {
      low = suc child;
      within = omega (arith, less);
      few = (let few = far.few in let least = far.next.0 in omega (arith, few, least));
      next = goes;
      counted = subst (StandBefore (IsParameterOf doc p) (suc child)) (omega arith)
          (none_behind (IsParameterOf doc p) child count before (λ has. absurd (let wrong : false ≡ true = own.1 has.0 in cc)));
    }

-- ---- the limit

pub parent_is : (doc : List Element) (n : ℕ) (p : Option ℕ) → HasParent doc n p → option_and_then (λ (e : Element). e.parent) (slice_get doc n) ≡ p
parent_is doc n p stands = by_element (slice_get doc n) stands where
  by_element : (o : Option Element) → option_map (λ (e : Element). e.parent) o ≡ Some p → option_and_then (λ (e : Element). e.parent) o ≡ p
  by_element None is = absurd cc
  by_element (Some e) is = same_Some e.parent p is

-- The signal is full where eight stand before.
pub full_where : (doc : List Element) (n signal count : ℕ) → HasRole doc n role.Parameter → HasParent doc n (Some signal)
    → StandBefore (IsParameterOf doc signal) n count
    → IsTrue (nat_eq count 8) ↔ PassesParameters doc n
full_where doc n signal count has stands before = (there, back) where
  there : IsTrue (nat_eq count 8) → PassesParameters doc n
  there full = record {
    signal = signal;
    own = (has, parent_is doc n (Some signal) stands);
    before = subst (StandBefore (IsParameterOf doc signal) n) ((Decides-eqb count 8).0 full) before;
  }

  back : PassesParameters doc n → IsTrue (nat_eq count 8)
  back p =
      let same : p.signal ≡ signal = same_Some p.signal signal (sym p.own.1 ∙ parent_is doc n (Some signal) stands) in
      let eight = subst (λ (k : ℕ). StandBefore (IsParameterOf doc k) n 8) same p.before in
      (Decides-eqb count 8).1 (same_count (IsParameterOf doc signal) n count 8 before eight)
