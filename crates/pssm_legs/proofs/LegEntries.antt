-- What the legs of a route enter: where it lies, and how two legs stand to each other that enter a State and something in it.
use Rattle.std.proofs.Common.{◌≡◌, ◌⊎◌, Some, Contains, refl, sym, subst, inl, inr, ⊎_elim}
use Rattle.pssm_model.specs.declared.ids.VertexId.{VertexId}
use Rattle.pssm_model.specs.declared.ids.RegionId.{RegionId}
use Rattle.pssm_model.specs.declared.ids.TransId.{TransId}
use Rattle.pssm_model.specs.declared.elements.DraftMachine.{DraftMachine}
use Rattle.pssm_model.specs.declared.elements.VertexKind.TheVariants as kinds
use Rattle.pssm_model.specs.declared.elements.Owner.TheVariants.{Region, State}
use Rattle.pssm_model.specs.declared.elements.Element.TheVariants as elements
use Rattle.pssm_model.specs.declared.elements.FaultPlace.TheVariants as places
use Rattle.pssm_model.specs.declared.steps.Route.{Route}
use Rattle.pssm_model.specs.Forest.{owner_of, HasKind, LiesInRegion, LiesInState, IsOrLiesIn}
use Rattle.pssm_model.specs.Forest.LiesUnder.{owned, further}
use Rattle.pssm_model.specs.Legs.{Leaves, Enters, SameLeg, LaterLeg, IsInternal, Scope, LegScope, LiesInScope, IsEnteredFor, IsEndState, LegEnters}
use Rattle.pssm_model.specs.Legs.SameLeg.{itself as itself_leg}
use Rattle.pssm_model.specs.Routes.{IsRoute}
use Rattle.pssm_model.specs.Shapes.{HasShape}
use Rattle.pssm_model.specs.WellFormed.{KeepsModelRules}
use Rattle.pssm_model.specs.WellFormed.Breaks.{E15}
use Rattle.pssm_model.specs.RouteWords.{IsStepRoute}
use Rattle.pssm_model_laws.specs.inner.RouteWords.{IsThrough}
use Rattle.pssm_model.proofs.ElementLaws.{kind_unique, leaves_one, enters_one}
use Rattle.pssm_model.proofs.OwnerChains.{under_further}
use Rattle.pssm_model_laws.proofs.RegionChains.{under_state}
use Rattle.pssm_model_laws.proofs.Known.{known_transition}
use Rattle.pssm_model_laws.proofs.InnerPaths.{no_circle, regions_apart, entry_after}
use Rattle.pssm_model_laws.proofs.Branches.{Along, GoesNext, Branch, Beside, of_rest, along_ends, along_cases, through_not_ends, goes_through, route_comes, fork_ends_here, stand}
use Rattle.pssm_model_laws.proofs.Branches.Along.{itself, goes}
use Rattle.pssm_model_laws.proofs.EndsApart.{step_is_route, one_way_in}
use Rattle.pssm_model_laws.proofs.LegRoots.{Over, IsRoot, IsBehind, over_ends, over_leg, leg_begins, leg_ends, leg_turned, legs_meet, begin_leg, along_leg, later_to, later_from, later_further, cut_root, root_no_junction}
use Rattle.pssm_model_laws.proofs.LegRoots.Over.{same, over}
use Rattle.pssm_model_laws.proofs.UpAndDown.{GoesUp, GoesDown, up_or_down_kind, IsBelow, target_of}
use Rattle.pssm_model_laws.proofs.RouteKinds.{internal_start, internal_alone}
use Rattle.pssm_model_laws.proofs.DownLegs.{down_target}
use Rattle.pssm_model_laws.proofs.UpScopes.{scope_turned, below_root}
use Rattle.pssm_model_laws.proofs.DownScopes.{HasDownScope, down_scope}
use Rattle.pssm_model_laws.proofs.RouteTree.{not_after_itself}

-- The leg with the name enters the State, by a last vertex on which the other transition ends.
pub record EntersBy (m : DraftMachine) (p : Route) (t a : TransId) (v s : VertexId) : Type 0 where
  pub leg : SameLeg m p t a
  pub enters : Enters m a v
  pub stops : HasKind m v kinds.Junction → ⊥
  pub entered : IsEnteredFor m v
  pub not_internal : IsInternal m p t → ⊥
  pub by : ((scope : Scope) × LegScope m p t scope × LiesInScope m s scope × LiesInState m v s) ⊎ IsEndState m v s

pub enters_by : {m : DraftMachine} {p : Route} {t : TransId} {s : VertexId} (h : LegEnters m p t s) → EntersBy m p t h.1.0 h.0 s
enters_by h = record {
  leg = h.1.1;
  enters = h.1.2;
  stops = h.1.3;
  entered = h.2;
  not_internal = h.3;
  by = h.4;
}

pub enters_from : {m : DraftMachine} {p : Route} {t a : TransId} {v s : VertexId} → EntersBy m p t a v s → LegEnters m p t s
enters_from {a = a} {v = v} h = (v, (a, h.leg, h.enters, h.stops), h.entered, h.not_internal, h.by)

module _ {m : DraftMachine} (shape : HasShape m) (rules : KeepsModelRules m) (p : Route) (step : IsStepRoute m p) where
  the_route : IsRoute m p
  the_route = step_is_route step

  -- a vertex for which something is entered does not lead up
  pub not_up : (v : VertexId) → (HasKind m v kinds.Junction → ⊥) → IsEnteredFor m v → GoesUp m v → ⊥
  not_up v stops entered h = ⊎_elim (λ k. stops k) (⊎_elim (λ k. entered.2 k) (λ k. entered.1 k)) h

  pub enters_turned : (t u : TransId) (s : VertexId) → SameLeg m p t u → LegEnters m p t s → LegEnters m p u s
  enters_turned t u s leg h =
      let back = leg_turned m p leg in (
        h.0,
        (h.1.0, legs_meet m p back h.1.1, h.1.2, h.1.3),
        h.2,
        λ i. h.3 (subst (IsInternal m p)
            (sym (internal_alone shape rules p step u t (internal_start shape rules p step u i.0 i.1) i.1 (leg_begins m p leg))) i),
        ⊎_elim
            (λ inside. inl (inside.0, scope_turned shape rules p step t u inside.0 leg inside.1, inside.2, inside.3))
            (λ ends. inr ends)
            h.4,
      )

  -- from a first transition of a leg on, other legs begin after it
  pub along_back : {w a : TransId} (k : TransId) → IsRoot m p k → Over m p w a → Along m p k a → Along m p k w
  along_back k root (same is) a = a
  along_back {w = w} k root (over {t = x} {u = u} {v = v} o j e l h) (itself is) = absurd (root_no_junction shape rules p step k v root l j)
  along_back {w = w} k root (over {t = x} {u = u} {v = v} o j e l h) (goes {u = y} {v = q} path f g i) =
      let here = leaves_one m u q v g l in
      let y_is : y ≡ x = one_way_in shape rules p step v y x (λ join. let clash = kind_unique m v kinds.Junction kinds.Join j join in cc)
      (along_ends m p path) (over_ends m p o) (subst (Enters m y) here f) e in
      along_back k root o (subst (Along m p k) y_is path)

  -- the beginning of a leg below a fork or entry point
  record BeginsBelow (k a : TransId) : Type 0 where
    first : TransId
    at : VertexId
    behind : IsBehind m p first at
    over_to : Over m p first a
    scope : HasDownScope m p a at
    along : Along m p k first

  begins_below : (k a : TransId) (w : VertexId) → GoesDown m w → Leaves m k w → Contains p.rest k → Along m p k a → BeginsBelow k a
  begins_below k a w down l h path =
      let below : IsBelow m p a = record { first = k; at = w; kind = down; leaves = l; in_rest = h; along = path } in
      let root = below_root shape rules p step a below (along_ends m p path) in
      let k_root : IsRoot m p k = inr (w, cut_root shape rules p step k w (of_rest m p k h) l (⊎_elim (λ f. inl f) (λ e. inr (inr (inl e))) down)) in
      record {
        first = root.0;
        at = root.1;
        behind = root.2;
        over_to = root.4;
        scope = down_scope shape rules p step root.0 a root.1 root.2 root.4 root.3;
        along = along_back k k_root root.4 path;
      }

  -- what a leg below enters lies in its region
  enters_region : {t a : TransId} {v s : VertexId} (c : VertexId) → EntersBy m p t a v s → (d : HasDownScope m p a c) → LiesInRegion m s d.region
  enters_region {t = t} {a = a} {v = v} {s = s} c h d =
      let v_in = d.targets a v (itself_leg (leg_ends m p h.leg)) h.enters in
      ⊎_elim
      (λ inside. subst (LiesInScope m s) (d.only inside.0 (scope_turned shape rules p step t a inside.0 h.leg inside.1)) inside.2)
      (⊎_elim
      (λ at. subst (λ x. LiesInRegion m x d.region) (sym at.1) v_in)
      (λ entry. under_state m (State v) s d.region entry.1 v_in))
      h.by

  begin_in : (k w : VertexId) (t u : TransId) (q : RegionId) → GoesDown m w → LiesInRegion m w q → Leaves m t w → Along m p t u → Leaves m u k
      → LiesInRegion m k q
  begin_in k w t u q down lies l (itself is) f = subst (λ x. LiesInRegion m x q) (leaves_one m t w k l f) lies
  begin_in k w t u q down lies l (goes {u = x} {v = v} path e g h) f =
      subst (λ y. LiesInRegion m y q) (leaves_one m u v k g f) (down_target shape rules p step w v q down lies l path e)

  -- it lies in each region in which the fork or entry point lies
  pub enters_around : {t a : TransId} {v s : VertexId} (k : TransId) (w : VertexId) (q : RegionId) → GoesDown m w → Leaves m k w → Contains p.rest k
      → Along m p k a
      → EntersBy m p t a v s → LiesInRegion m w q → LiesInRegion m s q
  enters_around {a = a} {s = s} k w q down l h path enters lies =
      let b = begins_below k a w down l h path in
      b.scope.around s q (enters_region b.at enters b.scope) (begin_in b.at w k b.first q down lies l b.along b.behind.leaves)

  -- and in the region of the State of an entry point in which the first target lies
  pub enters_part : {t a : TransId} {v s : VertexId} (k : TransId) (w z y : VertexId) (r : RegionId) → HasKind m w kinds.EntryPoint
      → owner_of m (State w) ≡ Some (State z)
      → owner_of m (Region r) ≡ Some (State z) → Leaves m k w → Contains p.rest k → Enters m k y → LiesInRegion m y r → Along m p k a → EntersBy m p t a v s
      → LiesInRegion m s r
  enters_part {a = a} {s = s} k w z y r entry owner f l h e lies path enters =
      let b = begins_below k a w (inr entry) l h path in
      let s_in = enters_region b.at enters b.scope in
      part_or_around b s_in b.along
    where
      at_in : (b : BeginsBelow k a) → (u : TransId) → Along m p k u → Leaves m u b.at → (k ≡ u → ⊥) → LiesInRegion m b.at r
      at_in b u (itself is) leaves apart = absurd (apart refl)
      at_in b u (goes {u = x} {v = q} way g i j) leaves apart =
          subst (λ c. LiesInRegion m c r) (leaves_one m u q b.at i leaves)
          (entry_after shape rules w z y q k r entry owner f l e lies (route_comes shape p the_route rules w (inr (inr entry)) l way g))

      part_or_around : (b : BeginsBelow k a) → LiesInRegion m s b.scope.region → Along m p k b.first → LiesInRegion m s r
      part_or_around b s_in along =
          ⊎_elim
          (λ here.
          let at_is : w ≡ b.at = leaves_one m k w b.at l (subst (λ x. Leaves m x b.at) (sym here) b.behind.leaves) in
          let part = b.scope.part z (subst (λ x. HasKind m x kinds.EntryPoint) at_is entry) (subst (λ x. owner_of m (State x) ≡ Some
          (State z)) at_is owner) in
          let y_in = b.scope.targets b.first y (leg_turned m p (over_leg m p b.over_to)) (subst (λ x. Enters m x y) here e) in
          subst (LiesInRegion m s) (regions_apart shape y z b.scope.region r part f y_in lies) s_in)
          (λ apart. b.scope.around s r s_in (at_in b b.first along b.behind.leaves apart))
          (known_transition k b.first)

  -- a leg that comes later does not enter what an earlier one enters, or stands around that
  later_enters_not : {t u a b : TransId} {v w s q : VertexId} → EntersBy m p t a v s → EntersBy m p u b w q → GoesNext m p b a → IsOrLiesIn m q s → ⊥
  later_enters_not {a = a} {b = b} {w = w} {s = s} {q = q} later first n inside =
      let here = enters_one m b n.at w n.enters first.enters in
      let b_on = leg_ends m p first.leg in
      let through = subst (IsThrough m) here (goes_through shape p the_route b n.next n.at b_on n.enters n.leaves n.in_rest) in
      let l = subst (Leaves m n.next) here n.leaves in
      let down : GoesDown m w = ⊎_elim (λ up. absurd (not_up w first.stops first.entered up)) (λ d. d) (up_or_down_kind m w through) in
      let circle = λ (r : RegionId) (owner : owner_of m (Region r) ≡ Some (State q)) (lies : LiesInRegion m s r). (
      let wrong : ⊥ = no_circle shape (State s) (⊎_elim
      (λ e. under_further lies (owned (subst (λ x. owner_of m (Region r) ≡ Some (State x)) e owner)))
      (λ deep. under_further lies (further owner (under_further deep.2 (owned deep.1))))
      inside) in wrong) in
      ⊎_elim
      (λ around. circle around.3.0 around.3.1 (enters_around n.next w around.3.0 down l n.in_rest n.along later around.3.2))
      (⊎_elim
      (λ at. through_not_ends m w through at.0)
      (λ entry. rules (places.At (elements.Vertex w)) 15 (E15 (
        entry.0,
        λ z owner apart. (
            let y = target_of shape rules p step n.next (of_rest m p n.next n.in_rest) in
            let into = apart.inside n.next y.0 (l, y.1) in
            let f = entry.1 in
            let z_is : z ≡ q = cc in
            circle into.0 (subst (λ x. owner_of m (Region into.0) ≡ Some (State x)) z_is into.1)
            (enters_part n.next w z y.0 into.0 entry.0 owner into.1 l n.in_rest y.1 into.2 n.along later)),
      ))))
      first.by

  -- two legs behind different branches of an entry point
  pub branch_enters_not : {t a b : TransId} {v s : VertexId} (x : VertexId) → EntersBy m p t a v s → (h : Branch m p a b) → HasKind m h.at kinds.EntryPoint
      → ((z : VertexId) (r : RegionId) → owner_of m (Region r) ≡ Some (State z) → LiesInRegion m s r → LiesInRegion m x r)
      → ((z y : VertexId) (r : RegionId) → owner_of m (State h.at) ≡ Some (State z) → owner_of m (Region r) ≡ Some
      (State z) → Enters m h.second y → LiesInRegion m y r
      → LiesInRegion m x r)
      → ⊥
  branch_enters_not x enters h entry lift other =
      rules (places.At (elements.Vertex h.at)) 15 (E15 (
        entry,
        λ z owner apart. (
            let y = target_of shape rules p step h.first (of_rest m p h.first h.first_rest) in
            let k = target_of shape rules p step h.second (of_rest m p h.second h.second_rest) in
            let into = apart.inside h.first y.0 (h.leaves_first, y.1) in
            let onto = apart.inside h.second k.0 (h.leaves_second, k.1) in
            let s_in = enters_part h.first h.at z y.0 into.0 entry owner into.1 h.leaves_first h.first_rest y.1 into.2 h.to_first enters in
            let x_first = lift z into.0 into.1 s_in in
            let x_second = other z k.0 onto.0 owner onto.1 k.1 onto.2 in
            let here = regions_apart shape x z into.0 onto.0 into.1 onto.1 x_first x_second in
            apart.apart h.first h.second y.0 k.0 into.0 h.apart (h.leaves_first, y.1) (h.leaves_second, k.1) into.1 into.2
            (subst (LiesInRegion m k.0) (sym here) onto.2)),
      ))

  -- what a transition behind the other branch ends on
  pub behind_second : {a b : TransId} (x : VertexId) (h : Branch m p a b) → HasKind m h.at kinds.EntryPoint → Enters m b x
      → (z y : VertexId) (r : RegionId) → owner_of m (State h.at) ≡ Some (State z) → owner_of m (Region r) ≡ Some (State z) → Enters m h.second y
      → LiesInRegion m y r
      → LiesInRegion m x r
  behind_second x h entry e z y r owner f second lies =
      entry_after shape rules h.at z y x h.second r entry owner f h.leaves_second second lies
      (route_comes shape p the_route rules h.at (inr (inr entry)) h.leaves_second h.to_second e)

  -- behind a fork both are of one leg
  pub fork_leg : {a b : TransId} (h : Branch m p a b) → HasKind m h.at kinds.Fork → SameLeg m p a b
  fork_leg {a = a} {b = b} h fork =
      let first = fork_ends_here shape p the_route rules h.first a h.at fork h.leaves_first h.to_first in
      let second = fork_ends_here shape p the_route rules h.second b h.at fork h.leaves_second h.to_second in
      begin_leg shape rules p step a b (along_ends m p h.to_first) (along_ends m p h.to_second)
      (inr (inr (h.at, fork, subst (λ x. Leaves m x h.at) first h.leaves_first, subst (λ x. Leaves m x h.at) second h.leaves_second)))

  pub not_beside : {t a : TransId} {v s : VertexId} (b : TransId) → EntersBy m p t a v s → Beside m a b → ⊥
  not_beside {a = a} {v = v} b h beside =
      h.entered.2 (subst (λ x. HasKind m x kinds.Join) (enters_one m a beside.0 v beside.2 h.enters) beside.1)

  pub leg_or_later : {t a u b : TransId} → SameLeg m p t a → SameLeg m p u b → SameLeg m p a b ⊎ LaterLeg m p a b → SameLeg m p t u ⊎ LaterLeg m p t u
  leg_or_later first second h =
      ⊎_elim
      (λ leg. inl (legs_meet m p first (legs_meet m p leg (leg_turned m p second))))
      (λ later. inr (later_from m p first (later_to m p later (leg_turned m p second))))
      h

  pub entries_stand : {t u a b : TransId} {v w s q : VertexId} → EntersBy m p t a v s → EntersBy m p u b w q → IsOrLiesIn m q s
      → SameLeg m p t u ⊎ LaterLeg m p t u
  entries_stand {t = t} {u = u} {a = a} {b = b} {s = s} {q = q} first second inside =
      ⊎_elim
      (λ path. leg_or_later first.leg second.leg (along_leg shape rules p step path))
      (⊎_elim
      (λ path. ⊎_elim
      (λ here. leg_or_later first.leg second.leg (inl (subst (SameLeg m p a) (sym here) (itself_leg (leg_ends m p first.leg)))))
      (λ n. absurd (later_enters_not first second n inside))
      (along_cases m p path))
      (⊎_elim
      (λ beside. absurd (not_beside b first beside))
      (λ h. ⊎_elim
      (λ fork. leg_or_later first.leg second.leg (inl (fork_leg h fork)))
      (λ entry. absurd (branch_enters_not q first h entry
      (λ z r owner lies. ⊎_elim
      (λ e. subst (λ x. LiesInRegion m x r) (sym e) lies)
      (λ deep. under_further deep.2 (further deep.1 lies))
      inside)
      (λ z y r owner f second_enters lies.
      enters_part h.second h.at z y r entry owner f h.leaves_second h.second_rest second_enters lies h.to_second second)))
      h.kind)))
      (stand shape p the_route rules a b (leg_ends m p first.leg) (leg_ends m p second.leg))

  -- one leg enters a State
  pub one_entering : (t u : TransId) (s : VertexId) → LegEnters m p t s → LegEnters m p u s → SameLeg m p t u
  one_entering t u s first second =
      ⊎_elim
      (λ leg. leg)
      (λ later. ⊎_elim
      (λ leg. leg_turned m p leg)
      (λ back. absurd (not_after_itself shape rules p step t (later_further m p later back)))
      (entries_stand (enters_by second) (enters_by first) (inl refl)))
      (entries_stand (enters_by first) (enters_by second) (inl refl))
