-- The legs of a route, one put after the other behind the leg on whose end it begins.
use Rattle.std.proofs.Common.{◌≡◌, ◌⊎◌, ◌<◌, ◌≤◌, ◌+◌, ℕ, zero, suc, List, [], ◌∷◌, ◌++◌, length, Some, None, slice_get, Contains, refl, sym, ap, subst, ◌∙◌, inl, inr, ⊎_elim, arith}
use Rattle.std.proofs.lemmas.Bool.{cases_lt}
use Rattle.std.proofs.lemmas.List.{length_push}
use Rattle.std.proofs.lemmas.Option.{slice_get_within}
use Rattle.std.proofs.lemmas.List.Elements.{Contains-append_right}
use Rattle.pssm_model.specs.declared.ids.VertexId.{VertexId}
use Rattle.pssm_model.specs.declared.ids.TransId.{TransId}
use Rattle.pssm_model.specs.declared.elements.DraftMachine.{DraftMachine}
use Rattle.pssm_model.specs.declared.elements.VertexKind.TheVariants as kinds
use Rattle.pssm_model.specs.declared.steps.Route.{Route}
use Rattle.pssm_model.specs.Shapes.{HasShape}
use Rattle.pssm_model.specs.Forest.{HasKind}
use Rattle.pssm_model.specs.Legs.{Leaves, Enters, IsCut, SameLeg, NextLeg, LaterLeg, IsLastVertex}
use Rattle.pssm_model.specs.Legs.SameLeg.{itself, joined}
use Rattle.pssm_model.specs.Legs.LaterLeg.{next as leg_next, after as leg_after}
use Rattle.pssm_model.specs.Routes.{IsRoute, IsReached}
use Rattle.pssm_model.specs.Routes.IsReached.{start as reached_first, on as reached_after}
use Rattle.pssm_model.specs.RouteWords.{IsStepRoute}
use Rattle.pssm_model.specs.WellFormed.{KeepsModelRules}
use Rattle.pssm_model.proofs.ElementLaws.{leaves_one, enters_one, only_element, same_transition}
use Rattle.pssm_model.proofs.RouteLaws.{reached_is_on}
use Rattle.pssm_model_laws.proofs.Through.{end_not_through, fork_to_end}
use Rattle.pssm_model_laws.proofs.RouteOrder.{route_of, passes_through, start_not_through}
use Rattle.pssm_model_laws.proofs.RouteTree.{one_before}
use Rattle.pssm_model_laws.proofs.LegShapes.{InLeg, in_leg, ends_on, leg_on, leg_turned, next_to, later_on, first_step, last_step, cut_no_junction, join_from_no_through, start_legs}
use Rattle.pssm_model_laws.proofs.LegShapes.InLeg.{one_and_same, path_to, path_from, in_join, in_fork}
use Rattle.pssm_legs.specs.declared.legs.Leg.{Leg}
use Rattle.pssm_legs.specs.declared.legs.Legs.{Legs}
use Rattle.pssm_legs.specs.LegsOf.{leg_list, IsAt, StandsLater, IsLegIn, IsLegOf, AreLegsOf}
use Rattle.pssm_legs.specs.LegsOf.StandsLater.{next, after}
use Rattle.pssm_legs.specs.inner.Chained.{IsMade, ComesAfterOne, IsListed, AreLegsSoFar, AreDone}
use Rattle.pssm_legs.proofs.Places.{same_at, at_push_cases, at_push, at_end}
use Rattle.pssm_legs.proofs.PathRegions.{in_head}
use Rattle.pssm_legs.proofs.FewLegs.{few_numbered}
use Rattle.pssm_legs.proofs.LaterPlaces.{later_further}

module _ {m : DraftMachine} (p : Route) (step : IsStepRoute m p) where
  not_cut_start : (t : TransId) (v : VertexId) → Contains p.starts t → Leaves m t v → IsCut m v → ⊥
  not_cut_start t v start l cut = start_not_through p step t v start l (inr cut)

module _ {m : DraftMachine} (shape : HasShape m) (rules : KeepsModelRules m) (p : Route) (step : IsStepRoute m p) where
  route : IsRoute m p
  route = route_of m p step

  -- no leg is before that of the starts
  start_behind : (s b : TransId) (v : VertexId) → Contains p.starts s → IsCut m v → Leaves m b v → InLeg m p s b → ⊥
  start_behind s b v start cut l (one_and_same same) = not_cut_start p step s v start (subst (λ x. Leaves m x v) (sym same) l) cut
  start_behind s b v start cut l (path_to on) =
      let last = last_step m p s b on in
      cut_no_junction m v cut (subst (λ x. HasKind m x kinds.Junction) (leaves_one m b last.1.at v last.1.leaves l) last.1.kind)
  start_behind s b v start cut l (path_from back) =
      let last = last_step m p b s back in start_not_through p step s last.1.at start last.1.leaves (inl last.1.kind)
  start_behind s b v start cut l (in_join j k e f) = join_from_no_through shape rules p route b j v k f l (inr cut)
  start_behind s b v start cut l (in_fork f k g h) = not_cut_start p step s f start g (inl k)

  pub none_before_start : (s t : TransId) → Contains p.starts s → NextLeg m p t s → ⊥
  none_before_start s t start h =
      start_behind s h.1 h.2 start h.5 h.7 (in_leg shape rules p route s h.1 (leg_turned m p h.1 s h.4))

  -- a leg ends on one vertex where it ends on one that cuts the route
  cut_end : (u w : TransId) (v x : VertexId) → IsCut m v → Enters m u v → (HasKind m x kinds.Junction → ⊥) → Enters m w x → InLeg m p u w → v ≡ x
  cut_end u w v x cut e none f (one_and_same same) = enters_one m w v x (subst (λ y. Enters m y v) same e) f
  cut_end u w v x cut e none f (path_to on) =
      let first = first_step m p u w on in
      absurd (cut_no_junction m v cut (subst (λ y. HasKind m y kinds.Junction) (enters_one m u first.1.at v first.1.enters e) first.1.kind))
  cut_end u w v x cut e none f (path_from back) =
      let first = first_step m p w u back in
      absurd (none (subst (λ y. HasKind m y kinds.Junction) (enters_one m w first.1.at x first.1.enters f) first.1.kind))
  cut_end u w v x cut e none f (in_join j k g h) =
      let one = enters_one m u v j e g in let two = enters_one m w x j f h in cc
  cut_end u w v x cut e none f (in_fork k fork g h) = absurd (end_not_through m v (fork_to_end rules u k v fork g e) (inr cut))

  pub one_cut_end : (t a : TransId) (v x : VertexId) → SameLeg m p t a → Enters m a v → IsCut m v → IsLastVertex m p t x → v ≡ x
  one_cut_end t a v x leg e cut h =
      cut_end a h.0 v x cut e h.3 h.2 (in_leg shape rules p route a h.0 (leg_on m p a t h.0 (leg_turned m p t a leg) h.1))

  -- one transition out of a join, an entry or an exit point is in a leg
  out_alone : (u w : TransId) (v : VertexId) → IsCut m v → (HasKind m v kinds.Fork → ⊥) → Leaves m u v → Leaves m w v → InLeg m p u w → u ≡ w
  out_alone u w v cut no_fork l g (one_and_same same) = same
  out_alone u w v cut no_fork l g (path_to on) =
      let last = last_step m p u w on in
      absurd (cut_no_junction m v cut (subst (λ x. HasKind m x kinds.Junction) (leaves_one m w last.1.at v last.1.leaves g) last.1.kind))
  out_alone u w v cut no_fork l g (path_from back) =
      let last = last_step m p w u back in
      absurd (cut_no_junction m v cut (subst (λ x. HasKind m x kinds.Junction) (leaves_one m u last.1.at v last.1.leaves l) last.1.kind))
  out_alone u w v cut no_fork l g (in_join j k e f) = absurd (join_from_no_through shape rules p route u j v k e l (inr cut))
  out_alone u w v cut no_fork l g (in_fork f k a c) = absurd (no_fork (subst (λ x. HasKind m x kinds.Fork) (leaves_one m u f v a l) k))

  pub one_out_alone : (u w : TransId) (v : VertexId) → IsCut m v → (HasKind m v kinds.Fork → ⊥) → Leaves m u v → Leaves m w v → SameLeg m p u w → u ≡ w
  one_out_alone u w v cut no_fork l g leg = out_alone u w v cut no_fork l g (in_leg shape rules p route u w leg)

  -- the first leg alone
  pub so_far_begins : (legs : Legs) → legs.more.items ≡ [] → IsMade m p legs.first.named None legs.first → Contains p.starts legs.first.named
      → AreDone m p legs 0
  so_far_begins legs none made start = record {
    inside = λ i a at. subst (IsLegIn m) (sym (only i a at).1) made.inside;
    each = λ i a at. subst (IsLegOf m p) (sym (only i a at).1) made.of;
    start = (start, made.before_is);
    after = λ j b at lt. (let first = (only j b at).0 in absurd (omega (arith, first, lt)));
    apart = λ i j a b at there leg. (let one = (only i a at).0 in let two = (only j b there).0 in omega (arith, one, two));
    put = λ t h. absurd h;
    done = λ i a t lt at h. absurd (omega (arith, lt));
    reached = omega arith;
  }
    where
      only : (i : ℕ) (a : Leg) → IsAt legs i a → (i ≡ 0) × (a ≡ legs.first)
      only i a at = only_element legs.first a i (subst (λ (xs : List Leg). slice_get (legs.first ∷ xs) i ≡ Some a) none at)

  -- the same with others that say the same
  pub put_same : (legs : Legs) (place : ℕ) (Put Too : TransId → Type 0) → ((t : TransId) → Put t → Too t) → ((t : TransId) → Too t → Put t)
      → AreLegsSoFar m p legs place Put → AreLegsSoFar m p legs place Too
  put_same legs place Put Too there from h = record {
    inside = h.inside;
    each = h.each;
    start = h.start;
    after = λ j b at lt. (let x = h.after j b at lt in record {
      place_before = x.place_before;
      leg_before = x.leg_before;
      named = x.named;
      at = x.at;
      leads = x.leads;
      lower = x.lower;
      done = ⊎_elim (λ less. inl less) (λ same. inr (same.0, there b.named same.1)) x.done;
    });
    apart = h.apart;
    put = λ t is. h.put t (from t is);
    done = h.done;
    reached = h.reached;
  }

  -- one leg more
  module _ (legs more : Legs) (leg : Leg) (first_kept : more.first ≡ legs.first) (pushed : more.more.items ≡ legs.more.items ++ leg ∷ []) where
    longer : leg_list more ≡ leg_list legs ++ leg ∷ []
    longer = cc (first_kept, pushed)

    pub kept_at : (i : ℕ) (a : Leg) → IsAt legs i a → IsAt more i a
    kept_at i a at = subst (λ (xs : List Leg). slice_get xs i ≡ Some a) (sym longer) (at_push (leg_list legs) leg a i at)

    newest_at : IsAt more (length (leg_list legs)) leg
    newest_at = subst (λ (xs : List Leg). slice_get xs (length (leg_list legs)) ≡ Some leg) (sym longer) (at_end (leg_list legs) leg)

    at_cases : (i : ℕ) (a : Leg) → IsAt more i a → IsAt legs i a ⊎ ((i ≡ length (leg_list legs)) × (a ≡ leg))
    at_cases i a at = at_push_cases (leg_list legs) leg a i (subst (λ (xs : List Leg). slice_get xs i ≡ Some a) longer at)

    listed_kept : (t : TransId) → IsListed m p legs t → IsListed m p more t
    listed_kept t h = (h.0, h.1, kept_at h.0 h.1 h.2, h.3)

    one_longer : length (leg_list legs) ≤ length (leg_list more)
    one_longer = let e = ap length longer in let one = length_push (leg_list legs) leg in omega (arith, e, one)

    module _ (place : ℕ) (Put : TransId → Type 0) (h : AreLegsSoFar m p legs place Put) (a : Leg) (at : IsAt legs place a) (x : TransId)
        (made : IsMade m p x (Some place) leg) (leads : NextLeg m p a.named x) (fresh : (y : TransId) → Put y → SameLeg m p y x → ⊥) where
      -- what it says with the new leg
      after_kept : (j : ℕ) (b : Leg) → IsAt legs j b → 0 < j → ComesAfterOne m p more place (λ y. Put y ⊎ (y ≡ x)) j b
      after_kept j b there lt =
          let c = h.after j b there lt in
          record {
            place_before = c.place_before;
            leg_before = c.leg_before;
            named = c.named;
            at = kept_at c.place_before c.leg_before c.at;
            leads = c.leads;
            lower = c.lower;
            done = ⊎_elim (λ less. inl less) (λ same. inr (same.0, inl same.1)) c.done;
          }

      after_newest : (j : ℕ) (b : Leg) → j ≡ length (leg_list legs) → b ≡ leg → ComesAfterOne m p more place (λ y. Put y ⊎ (y ≡ x)) j b
      after_newest j b last same = record {
        place_before = place;
        leg_before = a;
        named = subst (λ (y : Leg). y.before ≡ Some place) (sym same) made.before_is;
        at = kept_at place a at;
        leads = subst (NextLeg m p a.named) (sym (ap (λ (y : Leg). y.named) same ∙ made.named)) leads;
        lower = let within = slice_get_within (leg_list legs) place a at in omega (arith, within, last);
        done = inr (refl, inr (ap (λ (y : Leg). y.named) same ∙ made.named));
      }

      -- it is none of those that are there
      not_there : (i : ℕ) (c : Leg) → IsAt legs i c → SameLeg m p c.named x → ⊥
      not_there zero c there leg_is =
          let same : legs.first ≡ c = cc in
          let start = subst (λ (y : Leg). Contains p.starts y.named) same h.start.0 in
          none_before_start c.named a.named start (next_to m p a.named x c.named leads (leg_turned m p c.named x leg_is))
      not_there (suc k) c there leg_is =
          let b = h.after (suc k) c there (omega arith) in
          let before = one_before shape rules p step b.leg_before.named a.named c.named b.leads
          (next_to m p a.named x c.named leads (leg_turned m p c.named x leg_is)) in
          let place_is = h.apart b.place_before place b.leg_before a b.at at before in
          ⊎_elim (λ less. absurd (omega (arith, less, place_is))) (λ same. fresh c.named same.1 leg_is) b.done

      named_leg : (c : TransId) → SameLeg m p c leg.named → SameLeg m p c x
      named_leg c leg_is = subst (SameLeg m p c) made.named leg_is

      apart_more : (i j : ℕ) (b c : Leg) → IsAt more i b → IsAt more j c → SameLeg m p b.named c.named → i ≡ j
      apart_more i j b c first second leg_is =
          ⊎_elim
          (λ old. ⊎_elim
          (λ too. h.apart i j b c old too leg_is)
          (λ new. absurd (not_there i b old (named_leg b.named (subst (λ (y : Leg). SameLeg m p b.named y.named) new.1 leg_is))))
          (at_cases j c second))
          (λ new. ⊎_elim
          (λ old. absurd (not_there j c old (named_leg c.named
          (leg_turned m p leg.named c.named (subst (λ (y : Leg). SameLeg m p y.named c.named) new.1 leg_is)))))
          (λ too. (let one = new.0 in let two = too.0 in omega (arith, one, two)))
          (at_cases j c second))
          (at_cases i b first)

      done_more : (i : ℕ) (b : Leg) (t : TransId) → i < place → IsAt more i b → NextLeg m p b.named t → IsListed m p more t
      done_more i b t lt there next_is =
          ⊎_elim
          (λ old. listed_kept t (h.done i b t lt old next_is))
          (λ new. (let within = slice_get_within (leg_list legs) place a at in let last = new.0 in absurd (omega (arith, within, last, lt))))
          (at_cases i b there)

      named_newest : (t : TransId) → t ≡ x → IsListed m p more t
      named_newest t same =
          (length (leg_list legs), leg, newest_at, subst (SameLeg m p leg.named) (made.named ∙ sym same) (itself made.of.on))

      pub one_leg_more : AreLegsSoFar m p more place (λ y. Put y ⊎ (y ≡ x))
      one_leg_more = record {
        inside = λ i b there. ⊎_elim (λ old. h.inside i b old) (λ new. subst (IsLegIn m) (sym new.1) made.inside) (at_cases i b there);
        each = λ i b there. ⊎_elim (λ old. h.each i b old) (λ new. subst (IsLegOf m p) (sym new.1) made.of) (at_cases i b there);
        start = (
          subst (λ (y : Leg). Contains p.starts y.named) (sym first_kept) h.start.0,
          subst (λ (y : Leg). y.before ≡ None) (sym first_kept) h.start.1,
        );
        after = λ j b there lt. ⊎_elim (λ old. after_kept j b old lt) (λ new. after_newest j b new.0 new.1) (at_cases j b there);
        apart = apart_more;
        put = λ t is. ⊎_elim (λ old. listed_kept t (h.put t old)) (λ new. named_newest t new) is;
        done = done_more;
        reached = let most = h.reached in let long = one_longer in omega (arith, most, long);
      }

  -- once all that begin behind the leg have been put
  pub all_put : (legs : Legs) (place : ℕ) (Put : TransId → Type 0) (a : Leg) → IsAt legs place a → AreLegsSoFar m p legs place Put
      → ((t : TransId) → NextLeg m p a.named t → (y : TransId) × Put y × SameLeg m p y t) → AreDone m p legs (place + 1)
  all_put legs place Put a at h all = record {
    inside = h.inside;
    each = h.each;
    start = h.start;
    after = λ j b there lt. (let x = h.after j b there lt in record {
      place_before = x.place_before;
      leg_before = x.leg_before;
      named = x.named;
      at = x.at;
      leads = x.leads;
      lower = x.lower;
      done = inl (⊎_elim
          (λ less. (let one : x.place_before < place + 1 = omega (arith, less) in one))
          (λ same. (let here = same.0 in let one : x.place_before < place + 1 = omega (arith, here) in one))
          x.done);
    });
    apart = h.apart;
    put = λ t none. absurd none;
    done = λ i b t lt there next_is. ⊎_elim
        (λ below. h.done i b t below there next_is)
        (λ upto.
        let place_is : i ≡ place = omega (arith, lt, upto) in
        let same = same_at (leg_list legs) place b a (subst (λ n. IsAt legs n b) place_is there) at in
        let y = all t (subst (λ (c : Leg). NextLeg m p c.named t) same next_is) in
        let j = h.put y.0 y.1 in
        (j.0, j.1, j.2, leg_on m p j.1.named y.0 t j.3 y.2))
        (cases_lt i place);
    reached = let within = slice_get_within (leg_list legs) place a at in omega (arith, within);
  }

  -- there are no more legs than transitions
  pub few_legs : (legs : Legs) (place : ℕ) (Put : TransId → Type 0) → AreLegsSoFar m p legs place Put → length (leg_list legs) ≤ length m.transitions
  few_legs legs place Put h =
      few_numbered (λ (a : Leg). a.named.0) (leg_list legs) (length m.transitions)
      (λ i j a b at there same. h.apart i j a b at there
      (subst (SameLeg m p a.named) (same_transition a.named b.named same) (itself (h.each i a at).on)))
      (λ i a at. (h.inside i a at).path a.named (in_head a.named a.further.items))

  -- once all that begin behind any of them have been
  module _ (legs : Legs) (place : ℕ) (h : AreDone m p legs place) (whole : length (leg_list legs) ≤ place) where
    behind : (i : ℕ) (a : Leg) (t : TransId) → IsAt legs i a → NextLeg m p a.named t → IsListed m p legs t
    behind i a t at next_is = h.done i a t (let within = slice_get_within (leg_list legs) i a at in omega (arith, within, whole)) at next_is

    reached_listed : (t : TransId) → IsReached m p t → IsListed m p legs t
    reached_listed t (reached_first start) = (0, legs.first, refl, start_legs shape rules p route legs.first.named t h.start.0 start)
    reached_listed t (reached_after {u = u} {v = v} r e l further) =
        let f = reached_listed u r in
        let is = reached_is_on m p u r in
        let there = Contains-append_right p.starts p.rest t further in
        ⊎_elim
        (λ junction. (f.0, f.1, f.2, leg_on m p f.1.named u t f.3 (joined is (inl (v, junction, e, l)) (itself there))))
        (λ cut. behind f.0 f.1 t f.2 (u, t, v, f.3, itself there, cut, e, l))
        (passes_through shape rules p route u t v is e further l)

    next_at : (i j : ℕ) (a b : Leg) → IsAt legs i a → IsAt legs j b → NextLeg m p a.named b.named → StandsLater (leg_list legs) i j
    next_at i zero a b at there next_is =
        let same : legs.first ≡ b = cc in
        absurd (none_before_start b.named a.named (subst (λ (y : Leg). Contains p.starts y.named) same h.start.0) next_is)
    next_at i (suc k) a b at there next_is =
        let c = h.after (suc k) b there (omega arith) in
        let before = one_before shape rules p step c.leg_before.named a.named b.named c.leads next_is in
        let same = h.apart c.place_before i c.leg_before a c.at at before in
        next there (subst (λ n. b.before ≡ Some n) same c.named)

    later_at : (t u : TransId) → LaterLeg m p t u → (i j : ℕ) (a b : Leg) → IsAt legs i a → SameLeg m p a.named t → IsAt legs j b → SameLeg m p b.named u
        → StandsLater (leg_list legs) i j
    later_at t u (leg_next n) i j a b at first there second =
        next_at i j a b at there
        (n.0, n.1, n.2, leg_on m p a.named t n.0 first n.3, leg_on m p n.1 u b.named n.4 (leg_turned m p b.named u second), n.5, n.6, n.7)
    later_at t u (leg_after {u = k} n rest) i j a b at first there second =
        let f = reached_listed k (route.reached k (ends_on m p n.1 k n.4)) in
        let one = next_at i f.0 a f.1 at f.2
        (n.0, n.1, n.2, leg_on m p a.named t n.0 first n.3, leg_on m p n.1 k f.1.named n.4 (leg_turned m p f.1.named k f.3), n.5, n.6, n.7) in
        later_further legs i f.0 j one (later_at k u rest f.0 j f.1 b f.2 f.3 there second)

    leads_at : (i j : ℕ) (b : Leg) → IsAt legs j b → b.before ≡ Some i → (a : Leg) × IsAt legs i a × NextLeg m p a.named b.named
    leads_at i zero b there named =
        let same : legs.first ≡ b = cc in
        let none = subst (λ (y : Leg). y.before ≡ None) same h.start.1 in
        absurd (cc)
    leads_at i (suc k) b there named =
        let c = h.after (suc k) b there (omega arith) in
        let too = c.named in
        let same : c.place_before ≡ i = cc in
        (c.leg_before, subst (λ n. IsAt legs n c.leg_before) same c.at, c.leads)

    stands_later : (i j : ℕ) (a b : Leg) → IsAt legs i a → IsAt legs j b → StandsLater (leg_list legs) i j → LaterLeg m p a.named b.named
    stands_later i j a b at there (next {b = x} here named) =
        let c = leads_at i j x here named in
        leg_next (subst (λ (y : Leg). NextLeg m p y.named b.named) (same_at (leg_list legs) i c.0 a c.1 at)
        (subst (λ (y : Leg). NextLeg m p c.0.named y.named) (same_at (leg_list legs) j x b here there) c.2))
    stands_later i j a b at there (after {k = k} {b = x} here named rest) =
        let c = leads_at k j x here named in
        let one = subst (λ (y : Leg). NextLeg m p c.0.named y.named) (same_at (leg_list legs) j x b here there) c.2 in
        later_on m p a.named c.0.named b.named (stands_later i k a c.0 at c.1 rest) (leg_next one)

    lower_before : (i j : ℕ) (b : Leg) → IsAt legs j b → b.before ≡ Some i → i < j
    lower_before i zero b there named =
        let same : legs.first ≡ b = cc in
        let none = subst (λ (y : Leg). y.before ≡ None) same h.start.1 in
        absurd (cc)
    lower_before i (suc k) b there named =
        let c = h.after (suc k) b there (omega arith) in
        let too = c.named in
        let same : c.place_before ≡ i = cc in
        let less = c.lower in
        omega (arith, less, same)

    pub all_legs : AreLegsOf m p legs
    all_legs = record {
      route = step;
      inside = record { each = h.inside; before = lower_before };
      each = h.each;
      all = λ t is. (let f = reached_listed t (route.reached t is) in (f.0, f.1, f.2, ((h.each f.0 f.1 f.2).path t).1 f.3));
      later = λ i j a b at there. (
        λ far. later_at a.named b.named far i j a b at (itself (h.each i a at).on) there (itself (h.each j b there).on),
        stands_later i j a b at there,
      );
    }
