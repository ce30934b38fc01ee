-- Owner chains: what lies under what.
use Rattle.std.proofs.Common.{◌≡◌, ◌⊎◌, ◌<◌, ℕ, length, Some, sym, subst, inl, inr, ⊎_elim}
use Rattle.pssm_model.specs.declared.ids.VertexId.{VertexId}
use Rattle.pssm_model.specs.declared.ids.RegionId.{RegionId}
use Rattle.pssm_model.specs.declared.elements.DraftMachine.{DraftMachine}
use Rattle.pssm_model.specs.declared.elements.Owner.{Owner}
use Rattle.pssm_model.specs.declared.elements.Owner.TheVariants.{Top, Region, State}
use Rattle.pssm_model.specs.Forest.{owner_of, LiesUnder, LiesInRegion, HasRegionsAbove}
use Rattle.pssm_model.specs.Forest.LiesUnder.{owned, further}
use Rattle.pssm_model.specs.Forest.HasRegionsAbove.{region, state, machine}
use Rattle.pssm_model.specs.Shapes.{HasShape}
use Rattle.pssm_wellformed.proofs.Places.{owner_may, owning_region_there}

-- Chains follow on each other.
pub under_under : (m : DraftMachine) (p q s : Owner) → LiesUnder m p q → LiesUnder m q s → LiesUnder m p s
under_under m _ _ s (owned e) rest = further e rest
under_under m _ _ s (further {q = x} {s = q} e h) rest = further e (under_under m x q s h rest)

-- What a place lies under is its owner, or lies over its owner.
pub beyond : (m : DraftMachine) (p q s : Owner) → owner_of m p ≡ Some q → (q ≡ s → ⊥) → LiesUnder m p s → LiesUnder m q s
beyond m p q s e other (owned f) = absurd (other cc)
beyond m p q s e other (further {q = x} f h) = let same : x ≡ q = cc in subst (λ y. LiesUnder m y s) same h

-- One of two places on a chain is the other, or lies under it.
pub one_chain : (m : DraftMachine) (p q s : Owner) → LiesUnder m p q → LiesUnder m p s → (q ≡ s) ⊎ LiesUnder m q s ⊎ LiesUnder m s q
one_chain m _ _ _ (owned {q = q} e) (owned {q = s} f) = inl cc
one_chain m _ _ _ (owned {q = q} e) (further {q = x} {s = s} f h) = let same : q ≡ x = cc in inr (inl (subst (λ y. LiesUnder m y s) (sym same) h))
one_chain m _ _ _ (further {q = x} {s = q} e h) (owned {q = s} f) = let same : s ≡ x = cc in inr (inr (subst (λ y. LiesUnder m y q) (sym same) h))
one_chain m _ _ _ (further {q = x} {s = q} e h) (further {q = y} {s = s} f g) =
    let same : y ≡ x = cc in one_chain m x q s h (subst (λ z. LiesUnder m z s) same g)

-- A region on a chain is there.
pub chain_region_there : (m : DraftMachine) → HasShape m → (p : Owner) (r : RegionId) → LiesUnder m p (Region r) → r.0 < length m.regions
chain_region_there m shape Top r (owned e) = absurd cc
chain_region_there m shape (Region q) r (owned e) = absurd (shape.regions q (Region r) e).0
chain_region_there m shape (State v) r (owned e) = owning_region_there m shape v r e
chain_region_there m shape p r (further {q = x} e h) = chain_region_there m shape x r h

-- A region lies under a top region, or is one; and so does a vertex.
pub top_above : (m : DraftMachine) → HasShape m → (p : Owner) (n : ℕ) → HasRegionsAbove m p n
    → (owner_of m p ≡ Some Top) ⊎ ((q : RegionId) × (owner_of m (Region q) ≡ Some Top) × LiesUnder m p (Region q))
top_above m shape _ _ (machine e) = inl e
top_above m shape _ _ (region {r = r} {n = n} e h) = inr (⊎_elim (λ top. (r, top, owned e)) (λ w. (w.0, w.1, further e w.2)) (top_above m shape (Region r) n h))
top_above m shape _ _ (state {s = s} {n = n} e h) =
    ⊎_elim (λ top. absurd (owner_may m shape s Top top)) (λ w. inr (w.0, w.1, further e w.2)) (top_above m shape (State s) n h)

-- Nothing lies over the machine, and what a top place lies under is the machine.
pub nothing_over : (m : DraftMachine) (p : Owner) → LiesUnder m Top p → ⊥
nothing_over m p (owned e) = cc
nothing_over m p (further e h) = cc

from_top : (m : DraftMachine) (p : Owner) → owner_of m p ≡ Some Top → LiesUnder m p p → ⊥
from_top m p e (owned f) = let is : p ≡ Top = cc in nothing_over m p (subst (λ q. LiesUnder m q p) is (owned f))
from_top m p e (further {q = q} f h) = let is : q ≡ Top = cc in nothing_over m p (subst (λ x. LiesUnder m x p) is h)

-- A circle through a place goes through its owner too.
round : (m : DraftMachine) (p q : Owner) → owner_of m p ≡ Some q → LiesUnder m p p → LiesUnder m q q
round m p q e (owned f) = let is : p ≡ q = cc in subst (λ x. LiesUnder m x x) is (owned f)
round m p q e (further {q = x} f h) =
    let is : x ≡ q = cc in
    under_under m q p q (subst (λ y. LiesUnder m y p) is h) (owned e)

-- Nothing lies under itself.
pub no_cycle : (m : DraftMachine) (p : Owner) (n : ℕ) → HasRegionsAbove m p n → LiesUnder m p p → ⊥
no_cycle m p _ (machine e) under = from_top m p e under
no_cycle m p _ (region {r = r} {n = n} e h) under = no_cycle m (Region r) n h (round m p (Region r) e under)
no_cycle m p _ (state {s = s} {n = n} e h) under = no_cycle m (State s) n h (round m p (State s) e under)

-- A vertex lies in one region of a State.
pub one_region_inside : (m : DraftMachine) → HasShape m → (v s : VertexId) (r q : RegionId) → owner_of m (Region r) ≡ Some (State s) → owner_of m (Region q) ≡ Some (State s)
    → LiesInRegion m v r → LiesInRegion m v q → r ≡ q
one_region_inside m shape v s r q owner other h g =
    let apart : (a b : RegionId) → owner_of m (Region a) ≡ Some (State s) → owner_of m (Region b) ≡ Some (State s) → LiesUnder m (Region a) (Region b) → ⊥ =
    λ a b own own' under.
    let above = (shape.regions b (State s) own').1 in
    no_cycle m (Region b) above.0 above.2 (further own' (beyond m (Region a) (State s) (Region b) own (λ e. cc) under)) in
    ⊎_elim (λ same. cc) (⊎_elim (λ under. absurd (apart r q owner other under)) (λ under. absurd (apart q r other owner under)))
    (one_chain m (State v) (Region r) (Region q) h g)
