-- Levels of places, and which places hold a vertex.
use Rattle.std.proofs.Common.{◌≡◌, ◌↔◌, ◌⊎◌, ◌<◌, ◌≤◌, ◌+◌, ◌*◌, ℕ, suc, length, Option, Some, None, MatchOption, refl, sym, ap, subst, ◌∙◌, inl, inr, ⊎_elim, arith}
use Rattle.std.proofs.lemmas.Bool.{cases_eq}
use Rattle.pssm_model.specs.declared.ids.VertexId.{VertexId}
use Rattle.pssm_model.specs.declared.ids.RegionId.{RegionId}
use Rattle.pssm_model.specs.declared.elements.DraftMachine.{DraftMachine}
use Rattle.pssm_model.specs.declared.elements.VertexKind.TheVariants as kinds
use Rattle.pssm_model.specs.declared.elements.Owner.{Owner}
use Rattle.pssm_model.specs.declared.elements.Owner.TheVariants.{Top, Region, State}
use Rattle.pssm_model.specs.Forest.{HasKind, owner_of, LiesUnder, LiesInRegion, LiesInState, HasRegionsAbove, vertex_at, OwnsOfKind}
use Rattle.pssm_model.specs.Forest.LiesUnder.{owned, further}
use Rattle.pssm_model.specs.Forest.HasRegionsAbove.{region, state, machine}
use Rattle.pssm_model.specs.Legs.{IsPoint}
use Rattle.pssm_model.specs.Shapes.{HasShape}
use Rattle.pssm_model.proofs.ElementLaws.{some_at, kind_unique, mapped_at}
use Rattle.pssm_model.specs.declared.elements.Vertex.{Vertex}
use Rattle.pssm_wellformed.specs.inner.Walks.{LiesIn, IsThere}
use Rattle.pssm_wellformed.specs.inner.Levels.{IsLevel, IsWithin, IsHome, IsCommonLevel, IsClimbing, IsPartWith, IsSeeking}
use Rattle.pssm_wellformed.specs.inner.Levels.IsLevel.{top, over}
use Rattle.pssm_wellformed.proofs.Places.{owner_may, owning_region_there, kind_there}
use Rattle.pssm_wellformed.proofs.Chains.{under_under, one_chain, nothing_over, chain_region_there, top_above}

-- The owner of a place is a place that can hold others.
pub owner_there : (m : DraftMachine) → HasShape m → (p q : Owner) → owner_of m p ≡ Some q → IsThere m q
owner_there m shape p Top e = tt
owner_there m shape Top (Region r) e = absurd cc
owner_there m shape (Region q) (Region r) e = absurd (shape.regions q (Region r) e).0
owner_there m shape (State v) (Region r) e = owning_region_there m shape v r e
owner_there m shape Top (State s) e = absurd cc
owner_there m shape (Region r) (State s) e = (shape.regions r (State s) e).0
owner_there m shape (State v) (State s) e = (owner_may m shape v (State s) e).1

-- No State is a connection point.
not_point : (m : DraftMachine) (v : VertexId) → HasKind m v kinds.State → IsPoint m v → ⊥
not_point m v is point = ⊎_elim
    (λ entry. let k = kind_unique m v kinds.State kinds.EntryPoint is entry in let no : kinds.State ≡ kinds.EntryPoint → ⊥ = λ e. cc in no k)
    (λ exit. let k = kind_unique m v kinds.State kinds.ExitPoint is exit in let no : kinds.State ≡ kinds.ExitPoint → ⊥ = λ e. cc in no k) point

-- the level of a place with so many regions above it
abbrev pub level_by : Owner → ℕ → ℕ
level_by (Region r) n = suc (n + n)
level_by _ n = n + n

pub level_above : (m : DraftMachine) → HasShape m → (p : Owner) → IsThere m p → (n : ℕ) → HasRegionsAbove m p n → IsLevel m p (level_by p n)
level_above m shape Top there _ (machine e) = absurd cc
level_above m shape Top there _ (region e h) = absurd cc
level_above m shape Top there _ (state e h) = absurd cc
level_above m shape (Region r) there _ (machine e) = over e top
level_above m shape (Region r) there _ (region {r = q} e h) = absurd (shape.regions r (Region q) e).0
level_above m shape (Region r) there _ (state {s = s} {n = n} e h) = over e (level_above m shape (State s) (owner_there m shape (Region r) (State s) e) n h)
level_above m shape (State v) there _ (machine e) = absurd (owner_may m shape v Top e)
level_above m shape (State v) there _ (region {r = r} {n = n} e h) =
    let up : IsLevel m (State v) (suc (suc (n + n))) = over e (level_above m shape (Region r) (owner_there m shape (State v) (Region r) e) n h) in
    let same : suc (suc (n + n)) ≡ suc n + suc n = omega arith in
    subst (IsLevel m (State v)) same up
level_above m shape (State v) there _ (state {s = s} e h) = absurd (not_point m v there (owner_may m shape v (State s) e).0)

-- A place has one level.
pub level_only : (m : DraftMachine) (p : Owner) (k n : ℕ) → IsLevel m p k → IsLevel m p n → k ≡ n
level_only m _ _ _ top top = refl
level_only m _ _ _ top (over e h) = absurd cc
level_only m _ _ _ (over e h) top = absurd cc
level_only m p _ _ (over {q = q} {k = k} e h) (over {q = s} {k = n} f g) =
    let same : s ≡ q = cc in ap suc (level_only m q k n h (subst (λ x. IsLevel m x n) same g))

-- A place stands at a higher level than what it lies under.
pub level_over : (m : DraftMachine) (p q : Owner) (k n : ℕ) → LiesUnder m p q → IsLevel m p k → IsLevel m q n → n < k
level_over m _ q _ n (owned e) top g = absurd cc
level_over m _ q _ n (owned e) (over {q = x} {k = k} f h) g =
    let same : x ≡ q = cc in let is = level_only m q k n (subst (λ y. IsLevel m y k) same h) g in omega arith
level_over m _ q _ n (further e u) top g = absurd cc
level_over m _ q _ n (further {q = y} e u) (over {q = x} {k = k} f h) g =
    let same : x ≡ y = cc in let lt = level_over m y q k n u (subst (λ z. IsLevel m z k) same h) g in omega arith

-- A place that is there has a level.
pub level_there : (m : DraftMachine) → HasShape m → (p : Owner) → IsThere m p → (k : ℕ) × IsLevel m p k
level_there m shape Top there = (0, top)
level_there m shape (Region r) there =
    let at = some_at m.regions r.0 there in
    let above = (shape.regions r at.0 at.1).1 in
    (level_by (Region r) above.0, level_above m shape (Region r) there above.0 above.2)
level_there m shape (State s) there =
    let at = some_at m.vertices s.0 (kind_there m s kinds.State there) in
    let above = (shape.vertices s at.0 at.1).1 in
    (level_by (State s) above.0, level_above m shape (State s) there above.0 above.2)

-- Only the machine has level 0.
pub level_of_top : (m : DraftMachine) (p : Owner) → IsLevel m p 0 → p ≡ Top
level_of_top m _ top = refl

-- One place more is climbed.
pub level_up : (m : DraftMachine) (p q : Owner) (k : ℕ) → owner_of m p ≡ Some q → IsLevel m p k → (j : ℕ) × (k ≡ suc j) × IsLevel m q j
level_up m _ q _ e top = absurd cc
level_up m _ q _ e (over {q = x} {k = k} f h) = let same : x ≡ q = cc in (k, refl, subst (λ y. IsLevel m y k) same h)

-- within
pub within_under : (m : DraftMachine) (p q s : Owner) → IsWithin m p q → LiesUnder m q s → LiesUnder m p s
within_under m p q s h u = ⊎_elim (λ same. subst (λ x. LiesUnder m x s) (sym same) u) (λ under. under_under m p q s under u) h

pub within_within : (m : DraftMachine) (p q s : Owner) → IsWithin m p q → IsWithin m q s → IsWithin m p s
within_within m p q s h g = ⊎_elim (λ same. subst (IsWithin m p) same h) (λ under. inr (within_under m p q s h under)) g

-- What lies under a place is owned by it, or its owner lies under it.
pub owner_within : (m : DraftMachine) (p q s : Owner) → owner_of m p ≡ Some q → LiesUnder m p s → IsWithin m q s
owner_within m p q s e (owned f) = inl cc
owner_within m p q s e (further {q = x} f h) = let same : x ≡ q = cc in inr (subst (λ y. LiesUnder m y s) same h)

pub under_owner : (m : DraftMachine) (p q s : Owner) → owner_of m p ≡ Some q → IsWithin m q s → LiesUnder m p s
under_owner m p q s e h = ⊎_elim (λ same. owned (e ∙ ap Some same)) (λ under. further e under) h

-- A place that lies under a State lies in a region of it.
pub region_between : (m : DraftMachine) → HasShape m → (p : Owner) (s : VertexId) → IsThere m p → LiesUnder m p (State s)
    → (r : RegionId) × (owner_of m (Region r) ≡ Some (State s)) × IsWithin m p (Region r)
region_between m shape Top s there (owned e) = absurd cc
region_between m shape (Region r) s there (owned e) = (r, e, inl refl)
region_between m shape (State v) s there (owned e) = absurd (not_point m v there (owner_may m shape v (State s) e).0)
region_between m shape p s there (further {q = x} e h) =
    let up = region_between m shape x s (owner_there m shape p x e) h in
    (up.0, up.1, inr (under_owner m p x (Region up.0) e up.2))

-- Every chain ends at the machine.
pub under_top : (m : DraftMachine) (p : Owner) (n : ℕ) → HasRegionsAbove m p n → LiesUnder m p Top
under_top m p _ (machine e) = owned e
under_top m p _ (region {r = r} {n = n} e h) = further e (under_top m (Region r) n h)
under_top m p _ (state {s = s} {n = n} e h) = further e (under_top m (State s) n h)

-- what a vertex lies in is the region in which it lies innermost, and what that lies under
home_lies : (m : DraftMachine) → HasShape m → (v : VertexId) (h : RegionId) → IsThere m (Region h)
    → ((r : RegionId) → LiesInRegion m v r ↔ IsWithin m (Region h) (Region r)) → (p : Owner) → LiesIn m v p ↔ IsWithin m (Region h) p
home_lies m shape v h there regions Top =
    let at = some_at m.regions h.0 there in
    let above = (shape.regions h at.0 at.1).1 in
    (λ t. inr (under_top m (Region h) above.0 above.2), λ w. tt)
home_lies m shape v h there regions (Region r) = regions r
home_lies m shape v h there regions (State s) = (
  λ w. inr (within_under m (Region h) (Region w.0) (State s) ((regions w.0).0 w.2) (owned w.1)),
  λ w. ⊎_elim (λ same. absurd cc)
      (λ under. let up = region_between m shape (Region h) s there under in (up.0, up.1, (regions up.0).1 up.2)) w,
)

-- the home of a vertex that a region owns
pub home_by_region : (m : DraftMachine) → HasShape m → (v : VertexId) (h : RegionId) → owner_of m (State v) ≡ Some (Region h) → IsHome m v (Region h)
home_by_region m shape v h owner =
    let there = owning_region_there m shape v h owner in record {
      there = there;
      lies = home_lies m shape v h there (λ r. (owner_within m (State v) (Region h) (Region r) owner, under_owner m (State v) (Region h) (Region r) owner));
    }

-- the home of a connection point
pub home_by_state : (m : DraftMachine) → HasShape m → (v s : VertexId) (h : RegionId) → owner_of m (State v) ≡ Some (State s) → owner_of m (State s) ≡ Some (Region h)
    → IsHome m v (Region h)
home_by_state m shape v s h owner above =
    let there = owning_region_there m shape s h above in record {
      there = there;
      lies = home_lies m shape v h there (λ r. (
        λ u. ⊎_elim (λ same. absurd cc) (owner_within m (State s) (Region h) (Region r) above) (owner_within m (State v) (State s) (Region r) owner u),
        λ w. further owner (under_owner m (State s) (Region h) (Region r) above w),
      ));
    }

-- the owner of a State, which is a region
pub state_owner : (m : DraftMachine) → HasShape m → (s : VertexId) (p : Owner) → HasKind m s kinds.State → owner_of m (State s) ≡ Some p
    → (r : RegionId) × (p ≡ Region r)
state_owner m shape s Top is owner = absurd (owner_may m shape s Top owner)
state_owner m shape s (Region r) is owner = (r, refl)
state_owner m shape s (State q) is owner = absurd (not_point m s is (owner_may m shape s (State q) owner).0)

-- a vertex that is there has an owner
pub owner_exists : (m : DraftMachine) (v : VertexId) → v.0 < length m.vertices → (p : Owner) × (owner_of m (State v) ≡ Some p)
owner_exists m v lt = let at = some_at m.vertices v.0 lt in (at.0.owner, mapped_at (λ (x : Vertex). x.owner) (vertex_at m v) at.0 at.1)

-- the home of a vertex, by what owns it
pub home_inside : (m : DraftMachine) → HasShape m → (v s : VertexId) (p : Owner) → owner_of m (State v) ≡ Some (State s) → owner_of m (State s) ≡ Some p → IsHome m v p
home_inside m shape v s p owner above =
    let up = state_owner m shape s p (owner_may m shape v (State s) owner).1 above in
    subst (IsHome m v) (sym up.1) (home_by_state m shape v s up.0 owner (above ∙ ap Some up.1))

pub home_outside : (m : DraftMachine) → HasShape m → (v : VertexId) (p : Owner) → owner_of m (State v) ≡ Some p → ((s : VertexId) → p ≡ State s → ⊥) → IsHome m v p
home_outside m shape v Top owner other = absurd (owner_may m shape v Top owner)
home_outside m shape v (Region r) owner other = home_by_region m shape v r owner
home_outside m shape v (State s) owner other = absurd (other s refl)

home_by_owner : (m : DraftMachine) → HasShape m → (v : VertexId) (p : Owner) → owner_of m (State v) ≡ Some p → (h : Owner) × IsHome m v h
home_by_owner m shape v (State s) owner =
    let above = owner_exists m s (kind_there m s kinds.State (owner_may m shape v (State s) owner).1) in
    (above.0, home_inside m shape v s above.0 owner above.1)
home_by_owner m shape v p owner = (p, home_outside m shape v p owner (λ s e. cc))

-- Each vertex has a home.
pub home_exists : (m : DraftMachine) → HasShape m → (v : VertexId) → v.0 < length m.vertices → (h : Owner) × IsHome m v h
home_exists m shape v lt = let owner = owner_exists m v lt in home_by_owner m shape v owner.0 owner.1

-- Whether two places are the same is decided.
same_place : (p q : Owner) → (p ≡ q) ⊎ (p ≡ q → ⊥)
same_place Top Top = inl refl
same_place Top (Region r) = inr (λ e. cc)
same_place Top (State s) = inr (λ e. cc)
same_place (Region r) Top = inr (λ e. cc)
same_place (Region r) (Region q) = ⊎_elim
    (λ (e : r.0 ≡ q.0). inl (ap (λ k. let x : RegionId = record { 0 = k } in Region x) e))
    (λ (ne : r.0 ≡ q.0 → ⊥). inr (λ e. ne (let f : r ≡ q = cc in ap (λ (x : RegionId). x.0) f)))
    (cases_eq r.0 q.0)
same_place (Region r) (State s) = inr (λ e. cc)
same_place (State s) Top = inr (λ e. cc)
same_place (State s) (Region r) = inr (λ e. cc)
same_place (State s) (State q) = ⊎_elim
    (λ (e : s.0 ≡ q.0). inl (ap (λ k. let x : VertexId = record { 0 = k } in State x) e))
    (λ (ne : s.0 ≡ q.0 → ⊥). inr (λ e. ne (let f : s ≡ q = cc in ap (λ (x : VertexId). x.0) f)))
    (cases_eq s.0 q.0)

-- Whether a place stands over another is decided, and whether a vertex lies in it.
within_decided : (m : DraftMachine) (p q : Owner) (k : ℕ) → IsLevel m p k → IsWithin m p q ⊎ (IsWithin m p q → ⊥)
within_decided m p q _ top =
    ⊎_elim (λ same. inl (inl same)) (λ other. inr (λ w. ⊎_elim other (nothing_over m q) w)) (same_place Top q)
within_decided m p q _ (over {q = x} {k = k} e h) =
    ⊎_elim (λ same. inl (inl same))
    (λ other. ⊎_elim (λ up. inl (inr (under_owner m p x q e up)))
    (λ none. inr (λ w. ⊎_elim other (λ under. none (owner_within m p x q e under)) w))
    (within_decided m x q k h)) (same_place p q)

pub lies_decided : (m : DraftMachine) → HasShape m → (v : VertexId) → v.0 < length m.vertices → (p : Owner) → LiesIn m v p ⊎ (LiesIn m v p → ⊥)
lies_decided m shape v lt p =
    let home = home_exists m shape v lt in
    let level = level_there m shape home.0 home.1.there in
    ⊎_elim (λ w. inl ((home.1.lies p).1 w)) (λ none. inr (λ l. none ((home.1.lies p).0 l))) (within_decided m home.0 p level.0 level.1)

-- Of two places over a third the one with the greater level lies within the other.
within_between : (m : DraftMachine) (h p q : Owner) (n k : ℕ) → IsWithin m h p → IsWithin m h q → IsLevel m p n → IsLevel m q k → k ≤ n → IsWithin m p q
within_between m h p q n k over_p over_q level other le = ⊎_elim
    (λ e. subst (λ x. IsWithin m x q) e over_q)
    (λ u. ⊎_elim
    (λ f. absurd (let lt = level_over m h p k n u (subst (λ x. IsLevel m x k) (sym f) other) level in omega arith))
    (λ w. ⊎_elim inl (λ chain. ⊎_elim inr (λ back. absurd (let lt = level_over m q p k n back other level in omega arith)) chain) (one_chain m h p q u w)) over_q) over_p

-- the climb to the innermost common place: at the start, one turn more, and at the end
pub climb_begins : (m : DraftMachine) → HasShape m → (v w : VertexId) (h : Owner) (k : ℕ) → IsHome m v h → IsLevel m h k → k ≤ 65 → IsClimbing m v w h k
climb_begins m shape v w h k home level low = record {
  there = home.there;
  level = level;
  low = low;
  holds = (home.lies h).1 (inl refl);
  common = λ p l o. (home.lies p).0 l;
}

-- A place that holds the first vertex and not the second is not the machine.
pub climb_has_room : (m : DraftMachine) (v w : VertexId) (place : Owner) (k : ℕ) → IsClimbing m v w place k → (LiesIn m w place → ⊥) → 0 < k
climb_has_room m v w place k h out = ⊎_elim
    (λ (e : k ≡ 0). absurd (out (subst (LiesIn m w) (sym (level_of_top m place (subst (IsLevel m place) e h.level))) tt)))
    (λ (ne : k ≡ 0 → ⊥). omega arith) (cases_eq k 0)

pub climb_goes_on : (m : DraftMachine) → HasShape m → (v w : VertexId) → v.0 < length m.vertices → (place owner : Owner) (k j : ℕ) → IsClimbing m v w place k
    → (LiesIn m w place → ⊥) → owner_of m place ≡ Some owner → k ≡ j + 1 → IsClimbing m v w owner j
climb_goes_on m shape v w lt place owner k j h out owned_by less =
    let up = level_up m place owner k owned_by h.level in
    let same : up.0 ≡ j = let e = up.1 in omega arith in
    let home = home_exists m shape v lt in record {
      there = owner_there m shape place owner owned_by;
      level = subst (IsLevel m owner) same up.2;
      low = let le = h.low in omega arith;
      holds = (home.1.lies owner).1 (within_within m home.0 place owner ((home.1.lies place).0 h.holds) (inr (owned owned_by)));
      common = λ p l o. ⊎_elim (λ e. absurd (out (subst (LiesIn m w) (sym e) o))) (owner_within m place owner p owned_by) (h.common p l o);
    }

pub climb_ends : (m : DraftMachine) → HasShape m → (v w : VertexId) → v.0 < length m.vertices → w.0 < length m.vertices → (place : Owner) (n : ℕ)
    → IsClimbing m v w place n → LiesIn m w place → IsCommonLevel m v w n
climb_ends m shape v w v_there w_there place n h inside p k lies level =
    let home = home_exists m shape v v_there in
    let other = home_exists m shape w w_there in
    let upwards : IsWithin m place p → LiesIn m w p =
    λ up. (other.1.lies p).1 (within_within m other.0 place p ((other.1.lies place).0 inside) up) in (
      λ o. ⊎_elim
          (λ e. let same = level_only m place n k h.level (subst (λ x. IsLevel m x k) (sym e) level) in omega arith)
          (λ under. let lt = level_over m place p n k under h.level level in omega arith) (h.common p lies o),
      λ le. upwards (within_between m home.0 place p n k ((home.1.lies place).0 h.holds) ((home.1.lies p).0 lies) h.level level le),
    )

-- the levels of a State, of a region of a State, and of another region
pub state_level : (m : DraftMachine) → HasShape m → (p : Owner) (s : VertexId) (n : ℕ) → p ≡ State s → IsThere m p → HasRegionsAbove m (State s) n → IsLevel m p (2 * n)
state_level m shape p s n is there h =
    let same : n + n ≡ 2 * n = omega arith in
    let at : IsLevel m (State s) (n + n) = level_above m shape (State s) (subst (IsThere m) is there) n h in
    subst (λ x. IsLevel m x (2 * n)) (sym is) (subst (IsLevel m (State s)) same at)

pub inner_level : (m : DraftMachine) → HasShape m → (r : RegionId) (s : VertexId) (n : ℕ) → owner_of m (Region r) ≡ Some (State s) → HasRegionsAbove m (State s) n
    → IsLevel m (Region r) (2 * n + 1)
inner_level m shape r s n owner h =
    let up : IsLevel m (Region r) (suc (2 * n)) = over owner (state_level m shape (State s) s n refl (owner_there m shape (Region r) (State s) owner) h) in
    let same : suc (2 * n) ≡ 2 * n + 1 = omega arith in
    subst (IsLevel m (Region r)) same up

pub outer_level : (m : DraftMachine) → HasShape m → (r : RegionId) (p : Owner) → owner_of m (Region r) ≡ Some p → ((s : VertexId) → p ≡ State s → ⊥) → IsLevel m (Region r) 1
outer_level m shape r Top owner other = over owner top
outer_level m shape r (Region q) owner other = absurd (shape.regions r (Region q) owner).0
outer_level m shape r (State s) owner other = absurd (other s refl)

-- A place that a State owns is a region of it, where it can hold others; and one that a region owns is a State.
pub place_of_state : (m : DraftMachine) → HasShape m → (p : Owner) (s : VertexId) → IsThere m p → owner_of m p ≡ Some (State s) → (r : RegionId) × (p ≡ Region r)
place_of_state m shape Top s there owner = absurd cc
place_of_state m shape (Region r) s there owner = (r, refl)
place_of_state m shape (State q) s there owner = absurd (not_point m q there (owner_may m shape q (State s) owner).0)

place_of_region : (m : DraftMachine) → HasShape m → (p : Owner) (r : RegionId) → owner_of m p ≡ Some (Region r) → (s : VertexId) × (p ≡ State s)
place_of_region m shape Top r owner = absurd cc
place_of_region m shape (Region q) r owner = absurd (shape.regions q (Region r) owner).0
place_of_region m shape (State s) r owner = (s, refl)

-- the climb to a part of a place: at the start, one turn more, and at the end without one
pub seek_begins : (m : DraftMachine) (v : VertexId) (o h : Owner) (k : ℕ) → IsHome m v h → IsLevel m h k → IsSeeking m v o h k
seek_begins m v o h k home level = record {
  there = home.there;
  level = level;
  holds = (home.lies h).1 (inl refl);
  inner = λ p part. (home.lies p).0 part.2;
}

pub seek_goes_on : (m : DraftMachine) → HasShape m → (v : VertexId) (o : Owner) → v.0 < length m.vertices → (place owner : Owner) (k j : ℕ) → IsSeeking m v o place k
    → owner_of m place ≡ Some owner → (owner ≡ o → ⊥) → k ≡ j + 1 → IsSeeking m v o owner j
seek_goes_on m shape v o lt place owner k j h owned_by other less =
    let up = level_up m place owner k owned_by h.level in
    let same : up.0 ≡ j = let e = up.1 in omega arith in
    let home = home_exists m shape v lt in record {
      there = owner_there m shape place owner owned_by;
      level = subst (IsLevel m owner) same up.2;
      holds = (home.1.lies owner).1 (within_within m home.0 place owner ((home.1.lies place).0 h.holds) (inr (owned owned_by)));
      inner = λ p part. ⊎_elim
          (λ (e : place ≡ p). let at : owner_of m place ≡ Some o = subst (λ q. owner_of m q ≡ Some o) (sym e) part.1 in absurd (other cc))
          (owner_within m place owner p owned_by) (h.inner p part);
    }

pub seek_ends : (m : DraftMachine) (v : VertexId) (o place : Owner) (k : ℕ) → IsSeeking m v o place k → k ≡ 0 → (p : Owner) → IsPartWith m v o p → ⊥
seek_ends m v o place k h none p part =
    let is = level_of_top m place (subst (IsLevel m place) none h.level) in
    ⊎_elim (λ (e : Top ≡ p). let at : owner_of m Top ≡ Some o = subst (λ q. owner_of m q ≡ Some o) (sym e) part.1 in absurd cc)
    (nothing_over m p) (subst (λ q. IsWithin m q p) is (h.inner p part))

-- The machine is the one place without an owner.
pub has_owner : (m : DraftMachine) (place : Owner) (k : ℕ) → IsLevel m place k → 0 < k → place ≡ Top → ⊥
has_owner m place k level some is = let none = level_only m Top k 0 (subst (λ p. IsLevel m p k) is level) top in omega arith

-- Two vertices have a region in common where their common level is not that of the machine.
pub share_iff : (m : DraftMachine) → HasShape m → (v w : VertexId) (n : ℕ) → v.0 < length m.vertices → IsCommonLevel m v w n
    → (0 < n) ↔ ((r : RegionId) × LiesInRegion m v r × LiesInRegion m w r)
share_iff m shape v w n lt common = (
  λ some.
      let at = some_at m.vertices v.0 lt in
      let above = (shape.vertices v at.0 at.1).1 in
      ⊎_elim (λ is. absurd (owner_may m shape v Top is))
      (λ up. (up.0, up.2, (common (Region up.0) 1 up.2 (over up.1 top)).1 (omega arith))) (top_above m shape (State v) above.0 above.2),
  λ both.
      let level = level_there m shape (Region both.0) (chain_region_there m shape (State v) both.0 both.1) in
      let at_most = (common (Region both.0) level.0 both.1 level.1).0 both.2 in
      ⊎_elim (λ (e : level.0 ≡ 0). absurd (let is = level_of_top m (Region both.0) (subst (IsLevel m (Region both.0)) e level.1) in let differ : Region both.0 ≡ Top → ⊥ = λ f. cc in differ is))
      (λ (ne : level.0 ≡ 0 → ⊥). omega arith) (cases_eq level.0 0),
)

-- the part of a State is a region, and that of a region is a State
pub region_part : (m : DraftMachine) → HasShape m → (v s : VertexId) (p : Owner) (found : Option RegionId) → IsPartWith m v (State s) p
    → MatchOption found ((r : RegionId) → p ≡ Region r → ⊥) (λ r. p ≡ Region r)
    → MatchOption found (LiesInState m v s → ⊥) (λ r. (owner_of m (Region r) ≡ Some (State s)) × LiesInRegion m v r)
region_part m shape v s p (Some r) part is = (subst (λ q. owner_of m q ≡ Some (State s)) is part.1, subst (LiesIn m v) is part.2)
region_part m shape v s p None part is = let at = place_of_state m shape p s part.0 part.1 in absurd (is at.0 at.1)

pub state_part : (m : DraftMachine) → HasShape m → (v : VertexId) (r : RegionId) (p : Owner) (found : Option VertexId) → IsPartWith m v (Region r) p
    → MatchOption found ((s : VertexId) → p ≡ State s → ⊥) (λ s. p ≡ State s)
    → MatchOption found ((s : VertexId) → OwnsOfKind m r kinds.State s → LiesInState m v s → ⊥) (λ s. OwnsOfKind m r kinds.State s × LiesInState m v s)
state_part m shape v r p (Some s) part is = (
  (subst (IsThere m) is part.0, subst (λ q. owner_of m q ≡ Some (Region r)) is part.1),
  subst (LiesIn m v) is part.2,
)
state_part m shape v r p None part is = let at = place_of_region m shape p r part.1 in absurd (is at.0 at.1)

-- where there is no part, the vertex does not lie in the State, or in a State of the region
pub no_region_part : (m : DraftMachine) → HasShape m → (v s : VertexId) → ((p : Owner) → IsPartWith m v (State s) p → ⊥) → LiesInState m v s → ⊥
no_region_part m shape v s none lies = none (Region lies.0) (chain_region_there m shape (State v) lies.0 lies.2, lies.1, lies.2)

pub no_state_part : (m : DraftMachine) (v : VertexId) (r : RegionId) → ((p : Owner) → IsPartWith m v (Region r) p → ⊥)
    → (s : VertexId) → OwnsOfKind m r kinds.State s → LiesInState m v s → ⊥
no_state_part m v r none s own lies = none (State s) (own.0, own.1, lies)

-- A vertex lies in one State of a region.
pub one_state_inside : (m : DraftMachine) → HasShape m → (v : VertexId) (r : RegionId) (s q : VertexId) → OwnsOfKind m r kinds.State s → OwnsOfKind m r kinds.State q
    → LiesInState m v s → LiesInState m v q → s ≡ q
one_state_inside m shape v r s q own other h g =
    let level = level_there m shape (Region r) (owning_region_there m shape s r own.1) in
    let apart : (a b : VertexId) → owner_of m (State a) ≡ Some (Region r) → owner_of m (State b) ≡ Some (Region r) → LiesUnder m (State a) (State b) → ⊥ =
    λ a b e f under. let lt = level_over m (State a) (State b) (suc level.0) (suc level.0) under (over e level.1) (over f level.1) in omega arith in
    ⊎_elim (λ same. cc) (⊎_elim (λ under. absurd (apart s q own.1 other.1 under)) (λ under. absurd (apart q s other.1 own.1 under)))
    (one_chain m (State v) (State s) (State q) (under_under m (State v) (Region h.0) (State s) h.2 (owned h.1)) (under_under m (State v) (Region g.0) (State q) g.2 (owned g.1)))
