-- What a later leg enters lies in each State that an earlier one enters.
use Rattle.std.proofs.Common.{◌≡◌, ◌⊎◌, Bool, Some, sym, subst, inl, inr, ⊎_elim}
use Rattle.pssm_model.specs.declared.ids.VertexId.{VertexId}
use Rattle.pssm_model.specs.declared.ids.TransId.{TransId}
use Rattle.pssm_model.specs.declared.elements.DraftMachine.{DraftMachine}
use Rattle.pssm_model.specs.declared.elements.VertexKind.TheVariants as kinds
use Rattle.pssm_model.specs.declared.elements.Owner.TheVariants.{Region, State}
use Rattle.pssm_model.specs.declared.elements.Element.TheVariants as elements
use Rattle.pssm_model.specs.declared.elements.FaultPlace.TheVariants as places
use Rattle.pssm_model.specs.declared.steps.Route.{Route}
use Rattle.pssm_model.specs.declared.steps.Item.{Item}
use Rattle.pssm_model.specs.declared.steps.Item.TheVariants as items
use Rattle.pssm_model.specs.Forest.{owner_of, HasKind, LiesInState}
use Rattle.pssm_model.specs.Legs.{Leaves, SameLeg, LaterLeg, LegEnters}
use Rattle.pssm_model.specs.Items.{LegEnds, IsExit, IsEffect, IsEnter}
use Rattle.pssm_model.specs.Routes.{IsRoute}
use Rattle.pssm_model.specs.Shapes.{HasShape}
use Rattle.pssm_model.specs.WellFormed.{KeepsModelRules}
use Rattle.pssm_model.specs.WellFormed.Breaks.{E15}
use Rattle.pssm_model.specs.RouteWords.{IsStepRoute}
use Rattle.pssm_model_laws.specs.inner.RouteWords.{IsThrough}
use Rattle.pssm_model.proofs.ElementLaws.{enters_one}
use Rattle.pssm_model_laws.proofs.Known.{sure}
use Rattle.pssm_model_laws.proofs.DownLegs.{known_inside}
use Rattle.pssm_model_laws.proofs.Branches.{GoesNext, Branch, of_rest, along_cases, through_not_ends, goes_through, stand}
use Rattle.pssm_model_laws.proofs.EndsApart.{step_is_route}
use Rattle.pssm_model_laws.proofs.LegRoots.{leg_ends, leg_turned, over_leg, along_leg, later_to, later_from, later_further, later_along, rooted, cut_root}
use Rattle.pssm_model_laws.proofs.UpAndDown.{GoesDown, up_or_down_kind, target_of, one_branch}
use Rattle.pssm_model_laws.proofs.LegShapes.{later_begins_on}
use Rattle.pssm_model_laws.proofs.RouteTree.{not_after_itself}
use Rattle.pssm_legs.specs.Calls.{IsItemOfLeg, IsOrderedInLeg}
use Rattle.pssm_legs.specs.Calls.IsOrderedInLeg.{exit_effect, path, effect_enter, effect_end, enter_end, later}
use Rattle.pssm_legs.proofs.LegEntries.{EntersBy, enters_by, not_up, not_beside, fork_leg, along_back, enters_around, enters_part}
use Rattle.pssm_plan.specs.declared.ways.Way.{Way}
use Rattle.pssm_plan.specs.Ways.{IsWayIn}
use Rattle.pssm_plan.specs.inner.ByWays.{orders_by}

module _ {m : DraftMachine} (shape : HasShape m) (rules : KeepsModelRules m) (p : Route) (step : IsStepRoute m p) where
  the_route : IsRoute m p
  the_route = step_is_route step

  -- a leg is not later than itself
  no_way_back : {a b : TransId} → LaterLeg m p a b → SameLeg m p b a ⊎ LaterLeg m p b a → ⊥
  no_way_back {a = a} far h =
      ⊎_elim
      (λ leg. not_after_itself shape rules p step a (later_to m p far leg))
      (λ back. not_after_itself shape rules p step a (later_further m p far back))
      h

  -- behind different branches of an entry point no leg is later than the other
  no_branch : {a b : TransId} → LaterLeg m p a b → (h : Branch m p a b) → HasKind m h.at kinds.EntryPoint → ⊥
  no_branch {a = a} {b = b} far h entry =
      let root = rooted shape rules p step a (later_begins_on m p a b far) in
      let first_root = inr (h.at, cut_root shape rules p step h.first h.at (of_rest m p h.first h.first_rest) h.leaves_first (inr (inr (inl entry)))) in
      let to_root = along_back shape rules p step h.first first_root root.2 h.to_first in
      let from_root = later_along shape rules p step root.0 root.1 (later_from m p (over_leg m p root.2) far) in
      let branch : Branch m p root.0 b = record {
        at = h.at;
        before = h.before;
        first = h.first;
        second = h.second;
        kind = h.kind;
        before_on = h.before_on;
        enters = h.enters;
        leaves_first = h.leaves_first;
        leaves_second = h.leaves_second;
        first_rest = h.first_rest;
        second_rest = h.second_rest;
        apart = h.apart;
        to_first = to_root;
        to_second = h.to_second;
      } in
      one_branch shape rules p step branch from_root

  -- so the route goes on from where the earlier leg enters
  goes_on : {t u a b : TransId} {v w s q : VertexId} → LaterLeg m p t u → EntersBy m p t a v s → EntersBy m p u b w q → GoesNext m p a b
  goes_on {a = a} {b = b} far first second =
      let apart : LaterLeg m p a b = later_from m p (leg_turned m p first.leg) (later_to m p far second.leg) in
      ⊎_elim
      (λ path. ⊎_elim
      (λ here. absurd (not_after_itself shape rules p step a (subst (LaterLeg m p a) (sym here) apart)))
      (λ n. n)
      (along_cases m p path))
      (⊎_elim
      (λ path. absurd (no_way_back apart (along_leg shape rules p step path)))
      (⊎_elim
      (λ beside. absurd (not_beside shape rules p step b first beside))
      (λ h. ⊎_elim
      (λ fork. absurd (no_way_back apart (inl (leg_turned m p (fork_leg shape rules p step h fork)))))
      (λ entry. absurd (no_branch apart h entry))
      h.kind)))
      (stand shape p the_route rules a b (leg_ends m p first.leg) (leg_ends m p second.leg))

  -- what it comes to lies in the State
  entered_inside : {t u a b : TransId} {v w s q : VertexId} → EntersBy m p t a v s → EntersBy m p u b w q → GoesNext m p a b → LiesInState m q s
  entered_inside {a = a} {v = v} {s = s} {q = q} first behind n =
      let here = enters_one m a n.at v n.enters first.enters in
      let a_on = leg_ends m p first.leg in
      let through = subst (IsThrough m) here (goes_through shape p the_route a n.next n.at a_on n.enters n.leaves n.in_rest) in
      let l = subst (Leaves m n.next) here n.leaves in
      let down : GoesDown m v = ⊎_elim (λ up. absurd (not_up shape rules p step v first.stops first.entered up)) (λ d. d) (up_or_down_kind m v through) in
      ⊎_elim
      (λ around. (around.3.0, around.3.1, enters_around shape rules p step n.next v around.3.0 down l n.in_rest n.along behind around.3.2))
      (⊎_elim
      (λ at. absurd (through_not_ends m v through at.0))
      (λ entry. sure (known_inside shape q s) (λ out. rules (places.At (elements.Vertex v)) 15 (E15 (
        entry.0,
        λ z owner apart. (
            let y = target_of shape rules p step n.next (of_rest m p n.next n.in_rest) in
            let into = apart.inside n.next y.0 (l, y.1) in
            let f = entry.1 in
            let z_is : z ≡ s = cc in
            out (
              into.0,
              subst (λ x. owner_of m (Region into.0) ≡ Some (State x)) z_is into.1,
              enters_part shape rules p step n.next v z y.0 into.0 entry.0 owner into.1 l n.in_rest y.1 into.2 n.along behind,
            )),
      )))))
      first.by

  later_inside : (t u : TransId) (s q : VertexId) → LaterLeg m p t u → LegEnters m p t s → LegEnters m p u q → LiesInState m q s
  later_inside t u s q far first second =
      entered_inside (enters_by first) (enters_by second) (goes_on far (enters_by first) (enters_by second))

  -- If the items are entries, the second is of a State in that of the first.
  abbrev IsInnerEntry : Item → Item → Type 0
  IsInnerEntry (items.Enter s) (items.Enter q) = LiesInState m q s
  IsInnerEntry _ _ = Unit {0}

  module _ (fires : Bool) where
    later_inner : (t u : TransId) (x y : Item) → LaterLeg m p t u → IsItemOfLeg m fires p t x → IsItemOfLeg m fires p u y → IsInnerEntry x y
    later_inner t u (items.Enter s) (items.Enter q) far h g =
        ⊎_elim
        (λ first. ⊎_elim (λ second. later_inside t u s q far first second) (λ e. absurd (⊎_elim (λ x. x) (λ x. x) e)) g)
        (λ e. absurd (⊎_elim (λ x. x) (λ x. x) e))
        h
    later_inner t u (items.Enter s) (items.Exit q) far h g = tt
    later_inner t u (items.Enter s) (items.Effect w) far h g = tt
    later_inner t u (items.Enter s) (items.Opened r mode) far h g = tt
    later_inner t u (items.Enter s) (items.Pick c) far h g = tt
    later_inner t u (items.Exit s) y far h g = tt
    later_inner t u (items.Effect w) y far h g = tt
    later_inner t u (items.Opened r mode) y far h g = tt
    later_inner t u (items.Pick c) y far h g = tt

    exit_first : (x y : Item) → IsExit x → IsInnerEntry x y
    exit_first (items.Exit s) y h = tt
    exit_first (items.Effect t) y h = absurd h
    exit_first (items.Enter s) y h = absurd h
    exit_first (items.Opened r mode) y h = absurd h
    exit_first (items.Pick c) y h = absurd h

    effect_first : (x y : Item) → IsEffect x → IsInnerEntry x y
    effect_first (items.Effect t) y h = tt
    effect_first (items.Exit s) y h = absurd h
    effect_first (items.Enter s) y h = absurd h
    effect_first (items.Opened r mode) y h = absurd h
    effect_first (items.Pick c) y h = absurd h

    end_second : (t : TransId) (x y : Item) → IsEnter x → LegEnds m p t y → IsInnerEntry x y
    end_second t (items.Enter s) (items.Enter q) h g = absurd g
    end_second t (items.Enter s) (items.Exit q) h g = absurd g
    end_second t (items.Enter s) (items.Effect w) h g = absurd g
    end_second t (items.Enter s) (items.Opened r mode) h g = tt
    end_second t (items.Enter s) (items.Pick c) h g = tt
    end_second t (items.Exit s) y h g = tt
    end_second t (items.Effect w) y h g = tt
    end_second t (items.Opened r mode) y h g = tt
    end_second t (items.Pick c) y h g = tt

    ordered_inner : (t : TransId) (x y : Item) → IsOrderedInLeg m fires p t x y → IsInnerEntry x y
    ordered_inner t _ _ (exit_effect {x = x} {y = y} e f cx cy) = exit_first x y e
    ordered_inner t _ _ (path leg before) = tt
    ordered_inner t _ _ (effect_enter {x = x} {y = y} e f cx cy) = effect_first x y e
    ordered_inner t _ _ (effect_end {x = x} {y = y} e cx ends) = effect_first x y e
    ordered_inner t _ _ (enter_end {x = x} {y = y} e cx ends) = end_second t x y e ends
    ordered_inner t _ _ (later {x = x} {y = y} u far cx cy) = later_inner t u x y far (inl cx) cy

-- of two entries that a way orders, the second is of a State in that of the first
pub entries_inner : {m : DraftMachine} (shape : HasShape m) (rules : KeepsModelRules m) (way : Way) → IsWayIn m way → (s q : VertexId)
    → orders_by m way (items.Enter s) (items.Enter q) → LiesInState m q s
entries_inner shape rules way is s q h =
    ordered_inner shape rules way.route.value is.route way.fires h.0 (items.Enter s) (items.Enter q) h.2
