-- Ways from a machine: at the start, one machine more, and at the end.
use Rattle.std.proofs.Common.{◌≡◌, ◌⊎◌, ◌<◌, ℕ, zero, suc, Bool, true, false, List, [], ◌∷◌, length, map, set, replicate, get_or, Option, Some, None, IfSome, refl, sym, ap, subst, ◌∙◌, inl, inr, ⊎_elim, arith, sum_by}
use Rattle.std.specs.Prelude.{slice_get, option_and_then}
use Rattle.std.proofs.lemmas.Bool.{cases_eq}
use Rattle.std.proofs.lemmas.Option.{slice_get-get_or}
use Rattle.std.proofs.lemmas.List.{get_or-set_same, get_or-set_other, length-replicate}
use Rattle.std.proofs.lemmas.List.Sums.{sum_by-set}
use Rattle.std.proofs.Math.ListN.{length-set}
use Rattle.pssm_model.specs.declared.draft_setting.Draft.{Draft}
use Rattle.pssm_model.specs.DraftSettings.{ExtendsFar}
use Rattle.pssm_model.specs.DraftSettings.ExtendsFar.{directly as far_directly, further as far_further}
use Rattle.pssm_totals.specs.Totals.{extended, ExtendWithin, Reaches, extends_of}
use Rattle.pssm_totals.specs.Totals.Reaches.{itself, further}
use Rattle.pssm_totals.proofs.ReachLaws.{base_below}
use Rattle.pssm_limits.specs.inner.Ways.{IsMarked, ReachesFrom, AreReached, IsWalking, one_if_unmarked}

extends_in : {X : Type 0} (f : X → Option ℕ) (xs : List X) (m : ℕ) → extended (map f xs) m ≡ option_and_then f (slice_get xs m)
extends_in f [] m = refl
extends_in f (x ∷ xs) zero = refl
extends_in f (x ∷ xs) (suc m) = extends_in f xs m

none_marked : (n m : ℕ) → IsMarked (replicate n false) m → ⊥
none_marked zero m is = cc
none_marked (suc n) zero is = cc
none_marked (suc n) (suc m) is = none_marked n m is

pub walk_starts : (extends : List (Option ℕ)) (from : Option ℕ) → IfSome from (λ m. m < length extends)
    → IsWalking extends from (replicate (length extends) false) from
walk_starts extends from there = record {
  width = length-replicate (length extends) false;
  there = there;
  marked = λ m is. absurd (none_marked (length extends) m is);
  comes = λ m e. (m, e, itself);
  first = λ m e. inr e;
  closed = λ m base is e. absurd (none_marked (length extends) m is);
}

-- a mark that is new, or an old one
new_or_old : (marks : List Bool) (at m : ℕ) → IsMarked (set marks at true) m → (m ≡ at) ⊎ IsMarked marks m
new_or_old marks at m is =
    ⊎_elim (λ same. inl same) (λ other. inr (sym (get_or-set_other marks at m true false other) ∙ is)) (cases_eq m at)

stays : (marks : List Bool) (at m : ℕ) → at < length marks → IsMarked marks m → IsMarked (set marks at true) m
stays marks at m lt is =
    ⊎_elim
    (λ same. subst (IsMarked (set marks at true)) (sym same) (get_or-set_same marks at true false lt))
    (λ other. get_or-set_other marks at m true false other ∙ is)
    (cases_eq m at)

-- the machine that a machine extends is one of them
pub next_there : (extends : List (Option ℕ)) (at : ℕ) (next : Option ℕ) → ExtendWithin extends → extended extends at ≡ next → IfSome next (λ k. k < length extends)
next_there extends at None within e = tt
next_there extends at (Some base) within e = base_below extends at base within e

pub walk_goes_on : (extends : List (Option ℕ)) (from : Option ℕ) (marks : List Bool) (next : Option ℕ) (at : ℕ) → ExtendWithin extends
    → IsWalking extends from marks next → next ≡ Some at → at < length marks → IsWalking extends from (set marks at true) (extended extends at)
walk_goes_on extends from marks next at within h here lt = record {
  width = length-set marks at true ∙ h.width;
  there = next_there extends at (extended extends at) within refl;
  marked = λ m is. ⊎_elim (λ same. subst (ReachesFrom extends from) (sym same) (h.comes at here)) (λ old. h.marked m old) (new_or_old marks at m is);
  comes = λ m e. let way = h.comes at here in (way.0, way.1, further at way.2 e);
  first = λ m e. inl (settled m (h.first m e));
  closed = λ m base is e. ⊎_elim
      (λ same. inr (ap (extended extends) (sym same) ∙ e))
      (λ old. inl (settled base (h.closed m base old e)))
      (new_or_old marks at m is);
}
  where
    settled : (m : ℕ) → IsMarked marks m ⊎ (next ≡ Some m) → IsMarked (set marks at true) m
    settled m either =
        ⊎_elim
        (λ old. stays marks at m lt old)
        (λ e. let same : at ≡ m = cc in subst (IsMarked (set marks at true)) same (get_or-set_same marks at true false lt))
        either

pub extended_at : (extends : List (Option ℕ)) (at : ℕ) → at < length extends → extended extends at ≡ get_or extends at None
extended_at extends at lt = ap (λ o. option_and_then (λ (b : Option ℕ). b) o) (slice_get-get_or extends at None lt)

pub walk_is_shorter : (marks : List Bool) (at : ℕ) → at < length marks → get_or marks at false ≡ false
    → sum_by one_if_unmarked (set marks at true) < sum_by one_if_unmarked marks
walk_is_shorter marks at lt unmarked =
    let change = sum_by-set one_if_unmarked marks at true false lt in
    let before : one_if_unmarked (get_or marks at false) ≡ 1 = ap one_if_unmarked unmarked in
    omega arith

pub walk_ends : (extends : List (Option ℕ)) (from : Option ℕ) (marks : List Bool) (next : Option ℕ) → IsWalking extends from marks next
    → ((m : ℕ) → next ≡ Some m → IsMarked marks m) → AreReached extends from marks
walk_ends extends from marks next h end = record {
  width = h.width;
  marked = h.marked;
  all = λ m way. reach way.0 (settled way.0 (h.first way.0 way.1)) way.2;
}
  where
    settled : (m : ℕ) → IsMarked marks m ⊎ (next ≡ Some m) → IsMarked marks m
    settled m either = ⊎_elim (λ old. old) (λ e. end m e) either

    reach : (first : ℕ) {m : ℕ} → IsMarked marks first → Reaches extends first m → IsMarked marks m
    reach first is itself = is
    reach first {m} is (further other more e) = settled m (h.closed other m (reach first is more) e)

-- ---- drafts

module _ (draft : Draft) (m : ℕ) where
  -- what a machine extends is reached from the machine that it extends directly
  pub far_is_reached : {x : ℕ} → ExtendsFar draft m x → ReachesFrom (extends_of draft) (extended (extends_of draft) m) x
  far_is_reached {x} (far_directly e) = (x, extends_in (λ p. p.extends) draft.machines m ∙ e, itself)
  far_is_reached (far_further o more e) =
      let way = far_is_reached more in
      (way.0, way.1, further o way.2 (extends_in (λ p. p.extends) draft.machines o ∙ e))

  far_from : (first : ℕ) {x : ℕ} → extended (extends_of draft) m ≡ Some first → Reaches (extends_of draft) first x → ExtendsFar draft m x
  far_from first e itself = far_directly (sym (extends_in (λ p. p.extends) draft.machines m) ∙ e)
  far_from first e (further o more n) = far_further o (far_from first e more) (sym (extends_in (λ p. p.extends) draft.machines o) ∙ n)

  pub reached_is_far : {x : ℕ} → ReachesFrom (extends_of draft) (extended (extends_of draft) m) x → ExtendsFar draft m x
  reached_is_far way = far_from way.0 way.1 way.2
