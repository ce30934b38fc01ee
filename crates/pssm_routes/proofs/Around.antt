-- The States around a vertex, marked from the innermost one on.
use Rattle.std.proofs.Common.{◌≡◌, ◌⊎◌, ◌↔◌, ◌<◌, ◌≤◌, ◌+◌, ◌-◌, ℕ, zero, suc, List, length, get_or, set, take, replicate, Bool, true, false, Some, Contains, refl, sym, ap, subst, ◌∙◌, inl, inr, ⊎_elim, arith}
use Rattle.std.proofs.lemmas.Bool.{cases_eq, true≢false}
use Rattle.std.proofs.lemmas.Option.{slice_get_within}
use Rattle.std.proofs.lemmas.List.{take_all, get_or-set_same, get_or-set_other, length-set, length-replicate}
use Rattle.pssm_model.specs.declared.ids.VertexId.{VertexId}
use Rattle.pssm_model.specs.declared.ids.RegionId.{RegionId}
use Rattle.pssm_model.specs.declared.elements.DraftMachine.{DraftMachine}
use Rattle.pssm_model.specs.declared.elements.Owner.{Owner}
use Rattle.pssm_model.specs.declared.elements.Owner.TheVariants.{Top, Region, State}
use Rattle.pssm_model.specs.Forest.{owner_of, LiesInState, IsOrLiesIn, IsHome, HasRegionsAbove}
use Rattle.pssm_model.specs.Forest.LiesUnder.{further}
use Rattle.pssm_model.specs.Shapes.{HasShape}
use Rattle.pssm_model.proofs.ElementLaws.{same_vertex, nothing_in_nil, mapped_some}
use Rattle.pssm_model.proofs.OwnerChains.{one_owner, under_further, top_lies_nowhere, state_down}
use Rattle.pssm_model.proofs.Nesting.{under_cases, shallower}
use Rattle.pssm_routes.proofs.ChosenStates.{IsMarked}
use Rattle.pssm_enabled.proofs.Choosing.{seen_more, seen_last, seen_cases}

same_state : (s q : VertexId) → State s ≡ State q → s ≡ q
same_state s q e = cc

module _ {m : DraftMachine} where
  -- what lies in a State lies in what that State lies in
  pub lies_deeper : (v s q : VertexId) → LiesInState m v s → LiesInState m s q → LiesInState m v q
  lies_deeper v s q inner outer = (outer.0, outer.1, under_further inner.2 (further inner.1 outer.2))

  -- the State that owns the home of a vertex is the innermost one around it
  pub owner_around : (v s : VertexId) (home : RegionId) → IsHome m v home → owner_of m (Region home) ≡ Some (State s) → LiesInState m v s
  owner_around v s home h e = (home, e, h.lies)

  pub owner_innermost : (v s q : VertexId) (home : RegionId) → IsHome m v home → owner_of m (Region home) ≡ Some (State s) → LiesInState m v q
      → IsOrLiesIn m s q
  owner_innermost v s q home h e inside =
      ⊎_elim
      (λ same. inl (same_state s q (one_owner m (Region home) (State s) (State q) e (subst (λ r. owner_of m (Region r) ≡ Some (State q)) (sym same) inside.1))))
      (λ under. ⊎_elim
      (λ no. absurd (cc))
      (λ rest. inr (inside.0, inside.1, rest))
      (under_cases m (Region home) (State s) (Region inside.0) e under))
      (h.innermost inside.0 inside.2)

  -- no State is around a vertex whose home the machine owns
  pub top_around : (v q : VertexId) (home : RegionId) → IsHome m v home → owner_of m (Region home) ≡ Some Top → LiesInState m v q → ⊥
  top_around v q home h e inside =
      ⊎_elim
      (λ same. let other = subst (λ r. owner_of m (Region r) ≡ Some (State q)) (sym same) inside.1 in cc)
      (λ under. ⊎_elim
      (λ no. cc)
      (λ rest. top_lies_nowhere (Region inside.0) rest)
      (under_cases m (Region home) Top (Region inside.0) e under))
      (h.innermost inside.0 inside.2)

  -- a State that owns a region is a vertex of the machine
  pub owner_there : HasShape m → (home : RegionId) (s : VertexId) → owner_of m (Region home) ≡ Some (State s) → s.0 < length m.vertices
  owner_there shape home s e =
      let at = mapped_some _ _ _ (shape.regions home (State s) e).0 in
      slice_get_within m.vertices s.0 at.0 at.1

  -- no State is around a vertex whose home no State owns
  pub none_around : HasShape m → (v q : VertexId) (home : RegionId) (owner : Owner) → IsHome m v home → owner_of m (Region home) ≡ Some owner
      → ((s : VertexId) → owner ≡ State s → ⊥) → LiesInState m v q → ⊥
  none_around shape v q home Top h e not inside = top_around v q home h e inside
  none_around shape v q home (Region r) h e not inside = (shape.regions home (Region r) e).0
  none_around shape v q home (State s) h e not inside = not s refl

  -- fewer regions stand above a State around it
  pub fewer_above : (v s : VertexId) (n : ℕ) → LiesInState m v s → HasRegionsAbove m (State v) n → (k : ℕ) × (k < n) × HasRegionsAbove m (State s) k
  fewer_above v s n inside above =
      let less = shallower m (State v) inside.0 n inside.2 above in
      (less.0, less.1, state_down s inside.1 less.2)

module _ (m : DraftMachine) (v : VertexId) (old : List Bool) where
  -- How far the States around the vertex have been marked: those from the place on are left.
  pub record IsMarking (at : VertexId) (left : ℕ) (marks : List Bool) : Type 0 where
    pub inside : at.0 < length m.vertices
    pub width : length marks ≡ length m.vertices
    pub level : (k : ℕ) × (k ≤ left) × HasRegionsAbove m (State at) k
    pub kept : (s : VertexId) → IsMarked old s → IsMarked marks s
    pub sound : (s : VertexId) → IsMarked marks s → IsMarked old s ⊎ LiesInState m v s
    pub up : (s : VertexId) → LiesInState m at s → LiesInState m v s
    pub rest : (s : VertexId) → LiesInState m v s → IsMarked marks s ⊎ LiesInState m at s

  pub marking_start : (left : ℕ) → v.0 < length m.vertices → length old ≡ length m.vertices → HasRegionsAbove m (State v) left → IsMarking v left old
  marking_start left lt width above = record {
    inside = lt;
    width = width;
    level = (left, omega arith, above);
    kept = λ s h. h;
    sound = λ s h. inl h;
    up = λ s h. h;
    rest = λ s h. inr h;
  }

  set_keeps : (marks : List Bool) (at s : VertexId) → at.0 < length marks → IsMarked marks s → IsMarked (set marks at.0 true) s
  set_keeps marks at s lt h =
      ⊎_elim
      (λ same. subst (λ k. get_or (set marks at.0 true) k false ≡ true) (sym same) (get_or-set_same marks at.0 true false lt))
      (λ apart. get_or-set_other marks at.0 s.0 true false apart ∙ h)
      (cases_eq s.0 at.0)

  set_marks : (marks : List Bool) (at s : VertexId) → at.0 < length marks → IsMarked (set marks at.0 true) s → (at ≡ s) ⊎ IsMarked marks s
  set_marks marks at s lt h =
      ⊎_elim
      (λ same. inl (same_vertex at s (sym same)))
      (λ apart. inr (sym (get_or-set_other marks at.0 s.0 true false apart) ∙ h))
      (cases_eq s.0 at.0)

  -- the next State around is marked
  pub marking_more : (at s : VertexId) (left : ℕ) (marks : List Bool) → IsMarking at left marks → s.0 < length m.vertices → LiesInState m at s
      → ((q : VertexId) → LiesInState m at q → IsOrLiesIn m s q) → IsMarking s (left - 1) (set marks s.0 true)
  marking_more at s left marks h lt inside innermost =
      let width = h.width in
      let room : s.0 < length marks = omega (arith, lt, width) in
      let less = fewer_above at s h.level.0 inside h.level.2 in
      let fewer = less.1 in
      let most = h.level.1 in
      record {
        inside = lt;
        width = length-set marks s.0 true ∙ width;
        level = (less.0, omega (arith, fewer, most), less.2);
        kept = λ q has. set_keeps marks s q room (h.kept q has);
        sound = λ q has. ⊎_elim
            (λ same. inr (subst (LiesInState m v) same (h.up s inside)))
            (λ was. h.sound q was)
            (set_marks marks s q room has);
        up = λ q lies. h.up q (lies_deeper at s q inside lies);
        rest = λ q lies. ⊎_elim
            (λ was. inl (set_keeps marks s q room was))
            (λ more. ⊎_elim
            (λ same. inl (subst (IsMarked (set marks s.0 true)) same (get_or-set_same marks s.0 true false room)))
            (λ further_out. inr further_out)
            (innermost q more))
            (h.rest q lies);
      }

  -- no State is left
  pub marking_end : (at : VertexId) (left : ℕ) (marks : List Bool) → IsMarking at left marks → ((q : VertexId) → LiesInState m at q → ⊥)
      → (s : VertexId) → IsMarked marks s ↔ (IsMarked old s ⊎ LiesInState m v s)
  marking_end at left marks h none s = (
    λ has. h.sound s has,
    λ either. ⊎_elim
        (λ was. h.kept s was)
        (λ lies. ⊎_elim (λ has. has) (λ more. absurd (none s more)) (h.rest s lies))
        either,
  )

  pub marking_top : (at : VertexId) (left : ℕ) (marks : List Bool) → IsMarking at left marks → left ≤ 0 → (q : VertexId) → LiesInState m at q → ⊥
  marking_top at left marks h no_more q lies =
      let less = fewer_above at q h.level.0 lies h.level.2 in
      let fewer = less.1 in
      let most = h.level.1 in
      omega (arith, fewer, most, no_more)

unmarked : (n k : ℕ) → get_or (replicate n false) k false ≡ false
unmarked zero k = refl
unmarked (suc n) zero = refl
unmarked (suc n) (suc k) = unmarked n k

module _ (m : DraftMachine) (inner : List VertexId) where
  -- The States in which one of the first few of these lies are marked.
  pub record AreAround (n : ℕ) (marks : List Bool) : Type 0 where
    pub width : length marks ≡ length m.vertices
    pub marked : (s : VertexId) → IsMarked marks s ↔ ((q : VertexId) × Contains (take n inner) q × LiesInState m q s)

  pub around_start : (marks : List Bool) → marks ≡ replicate (length m.vertices) false → AreAround 0 marks
  around_start marks e = record {
    width = ap length e ∙ length-replicate (length m.vertices) false;
    marked = λ s. (
      λ has. absurd (true≢false (sym (subst (λ l. get_or l s.0 false ≡ true) e has) ∙ unmarked (length m.vertices) s.0)),
      λ is. absurd (nothing_in_nil is.0 is.1),
    );
  }

  pub around_more : (n : ℕ) (d : VertexId) (marks more : List Bool) → n < length inner → AreAround n marks → length more ≡ length marks
      → ((s : VertexId) → IsMarked more s ↔ (IsMarked marks s ⊎ LiesInState m (get_or inner n d) s)) → AreAround (n + 1) more
  around_more n d marks more lt h width is = record {
    width = width ∙ h.width;
    marked = λ s. (
      λ has. ⊎_elim
          (λ was. let old = (h.marked s).0 was in (old.0, seen_more inner n d lt old.0 old.1, old.2))
          (λ lies. (get_or inner n d, seen_last inner n d lt, lies))
          ((is s).0 has),
      λ some. ⊎_elim
          (λ was. (is s).1 (inl ((h.marked s).1 (some.0, was, some.2))))
          (λ same. (is s).1 (inr (subst (λ q. LiesInState m q s) (sym same) some.2)))
          (seen_cases inner n d lt some.0 some.1),
    );
  }

  pub around_end : (n : ℕ) (marks : List Bool) → length inner ≤ n → AreAround n marks
      → (s : VertexId) → IsMarked marks s ↔ ((q : VertexId) × Contains inner q × LiesInState m q s)
  around_end n marks le h =
      subst (λ l. (s : VertexId) → IsMarked marks s ↔ ((q : VertexId) × Contains l q × LiesInState m q s)) (take_all n inner le) h.marked
