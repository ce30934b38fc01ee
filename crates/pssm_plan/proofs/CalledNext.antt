-- What one more item calls that runs: by a late route, by restoring a State, or without a way.
use Rattle.std.proofs.Common.{◌≡◌, ◌⊎◌, ◌↔◌, ◌++◌, ◌∙◌, List, [], ◌∷◌, Contains, IsTrue, false, refl, sym, ap, subst, inl, inr, ⊎_elim}
use Rattle.std.proofs.lemmas.Bool.{false≢true}
use Rattle.std.proofs.lemmas.List.Elements.{Contains-push, Contains-push_cases, Contains-append_left}
use Rattle.pssm_model.specs.declared.ids.VertexId.{VertexId}
use Rattle.pssm_model.specs.declared.ids.RegionId.{RegionId}
use Rattle.pssm_model.specs.declared.elements.DraftMachine.{DraftMachine}
use Rattle.pssm_model.specs.declared.steps.Route.{Route}
use Rattle.pssm_model.specs.declared.steps.Mode.{Mode}
use Rattle.pssm_model.specs.declared.steps.How.{How}
use Rattle.pssm_model.specs.declared.steps.How.TheVariants.{By, Restore, Nothing}
use Rattle.pssm_model.specs.declared.steps.Item.{Item}
use Rattle.pssm_model.specs.declared.steps.Item.TheVariants as items
use Rattle.pssm_model.specs.Configuration.{Configuration}
use Rattle.pssm_model.specs.Course.{Course, Leg, IsLeg, FiresBy, HasGoneBy, HasRun, HasRestored}
use Rattle.pssm_model.specs.Items.{EnterOpens, Called, restored_mode}
use Rattle.pssm_model.specs.Items.Called.{start, run, ends, opens, restored, entered}
use Rattle.pssm_plan.specs.declared.ways.Way.{Way}
use Rattle.pssm_plan.specs.declared.roster.Call.{Call}
use Rattle.pssm_plan.specs.declared.progress.Restored.{Restored}
use Rattle.pssm_plan.specs.Ways.{IsWayIn, IsWayTaken, AreWaysOf}
use Rattle.pssm_plan.specs.inner.ByWays.{calls_by, opens_by}
use Rattle.pssm_plan.specs.inner.Marks.{IsMarked}
use Rattle.pssm_plan.specs.inner.Calling.{IsNoExit, MayRun, IsOfWays, IsLate, IsOpeningOf, IsOfRestored, IsOpenedByEntry, IsEntered}
use Rattle.pssm_plan.proofs.MoreRan.{gone_on, ran_kept, ran_now, run_more, gone_by_more}
use Rattle.pssm_plan.proofs.WayLaws.{called_is, called_of, entry_opens}

-- one of a list with one more element
pub some_more : {X : Type 0} (P : X → Type 0) (xs : List X) (y : X)
    → ((x : X) × Contains (xs ++ y ∷ []) x × P x) ↔ (((x : X) × Contains xs x × P x) ⊎ P y)
some_more {X} P xs y = (
  λ h. ⊎_elim (λ was. inl (h.0, was, h.2)) (λ now. inr (subst P (sym now) h.2)) (Contains-push_cases xs y h.0 h.1),
  λ h. ⊎_elim (λ was. (was.0, Contains-append_left xs (y ∷ []) was.0 was.1, was.2)) (λ now. (y, Contains-push xs y, now)) h,
)

-- the same where two things are said of it
some_two : {X : Type 0} (P Q : X → Type 0) (xs : List X) (y : X)
    → ((x : X) × Contains (xs ++ y ∷ []) x × P x × Q x) ↔ (((x : X) × Contains xs x × P x × Q x) ⊎ (P y × Q y))
some_two {X} P Q xs y = (
  λ h. ⊎_elim
      (λ was. inl (was.0, was.1, was.2.0, was.2.1))
      (λ now. inr now)
      ((some_more (λ (x : X). P x × Q x) xs y).0 (h.0, h.1, (h.2, h.3))),
  λ h.
      (let all = (some_more (λ (x : X). P x × Q x) xs y).1 (⊎_elim (λ was. inl (was.0, was.1, (was.2, was.3))) (λ now. inr now) h) in
      (all.0, all.1, all.2.0, all.2.1)),
)

-- a late way exits nothing
late_no_exit : (m : DraftMachine) (way : Way) → way.fires ≡ false → (x : Item) → calls_by m way x → IsNoExit x
late_no_exit m way late (items.Exit s) h =
    ⊎_elim (λ exits. absurd (false≢true (sym late ∙ exits.0.0))) (⊎_elim (λ none. absurd none) (λ none. absurd none)) h.2
late_no_exit m way late (items.Effect t) h = tt
late_no_exit m way late (items.Enter s) h = tt
late_no_exit m way late (items.Opened r mode) h = tt
late_no_exit m way late (items.Pick c) h = tt

-- and what is no exit may run, whatever is active
no_exit_runs : (now : Configuration) (x : Item) → IsNoExit x → MayRun now x
no_exit_runs now (items.Exit s) h = absurd h
no_exit_runs now (items.Effect t) h = tt
no_exit_runs now (items.Enter s) h = tt
no_exit_runs now (items.Opened r mode) h = tt
no_exit_runs now (items.Pick c) h = tt

-- what calls something once it has run without a way is the entry of a State
entered_by : (m : DraftMachine) (ways : List Way) (states : List Restored) (item x : Item) → IsEntered m ways states item x
    → (s : VertexId) × (items.Enter s ≡ item) × IsOpenedByEntry m ways states s x
entered_by m ways states (items.Enter s) x h = (s, refl, h)
entered_by m ways states (items.Exit s) x h = absurd h
entered_by m ways states (items.Effect t) x h = absurd h
entered_by m ways states (items.Opened r mode) x h = absurd h
entered_by m ways states (items.Pick c) x h = absurd h

-- the State that an opening in this mode restored
abbrev pub restored_one : Mode → VertexId → Restored
restored_one mode s = record { mode = mode; state = s }

module _ (course : Course) (item : Item) (how : How) where
  -- what it restores
  pub restores_more : (mode : Mode) (s : VertexId) → HasRestored (gone_on course item how) mode s
      ↔ (HasRestored course mode s ⊎ ((r : RegionId) × (item ≡ items.Opened r mode) × (how ≡ Restore s)))
  restores_more mode s = (
    λ h. ⊎_elim
        (λ was. inl (h.0, was))
        (λ now. inr (h.0, ap (λ (y : Item × How). y.0) now, ap (λ (y : Item × How). y.1) now))
        (Contains-push_cases course.ran (item, how) (items.Opened h.0 mode, Restore s) h.1),
    λ h. ⊎_elim
        (λ was. (was.0, ran_kept course item how (items.Opened was.0 mode, Restore s) was.1))
        (λ now. (
          now.0,
          subst (λ (y : Item). Contains (gone_on course item how).ran (y, Restore s)) now.1
              (subst (λ (z : How). Contains (gone_on course item how).ran (item, z)) now.2 (ran_now course item how)),
        ))
        h,
  )

  leg_kept : (leg : Leg) → IsLeg course leg → IsLeg (gone_on course item how) leg
  leg_kept leg is = (
    ⊎_elim (λ fires. inl fires) (λ late. inr ((gone_by_more course item how leg.route).1 (inl late))) is.0,
    is.1,
  )

  entry_kept : (m : DraftMachine) (s : VertexId) (x : Item) → EnterOpens m course s x → EnterOpens m (gone_on course item how) s x
  entry_kept m s (items.Exit q) h = absurd h
  entry_kept m s (items.Effect t) h = absurd h
  entry_kept m s (items.Enter q) h = absurd h
  entry_kept m s (items.Pick c) h = absurd h
  entry_kept m s (items.Opened r mode) h = (
    h.0,
    ⊎_elim
        (λ by. inl (by.0, leg_kept by.0 by.1, by.2, by.3, by.4))
        (λ was. inr (was.0, (restores_more was.0 s).1 (inl was.1), was.2))
        h.1,
  )

  -- what it called it still calls
  pub called_kept : {m : DraftMachine} (x : Item) → Called m course x → Called m (gone_on course item how) x
  called_kept x (start h) = start h
  called_kept x (run leg is h) = run leg (leg_kept leg is) h
  called_kept x (ends leg is h) = ends leg (leg_kept leg is) h
  called_kept x (opens leg is h) = opens leg (leg_kept leg is) h
  called_kept x (restored mode s was e) = restored mode s ((restores_more mode s).1 (inl was)) e
  called_kept {m} x (entered s ran h) = entered s ((run_more course item how (items.Enter s)).1 (inl ran)) (entry_kept m s x h)

module _ {m : DraftMachine} (course : Course) (ways : List Way) (states : List Restored) (are : AreWaysOf m course ways states) where
  -- the ways once it has gone by a late route
  pub ways_by : (item : Item) (p : Route) (way : Way) → IsWayIn m way → way.route.value ≡ p → way.fires ≡ false
      → AreWaysOf m (gone_on course item (By p)) (ways ++ way ∷ []) states
  ways_by item p way inside route late = record {
    legs = λ w h. ⊎_elim (λ was. are.legs w was) (λ now. subst (IsWayIn m) now inside) (Contains-push_cases ways way w h);
    taken = λ q. (taken_down q, taken_up q);
    fired = λ q. (
      λ h. ⊎_elim
          (λ was. (are.fired q).0 was)
          (λ now. absurd (false≢true (sym late ∙ now.1)))
          ((some_two (λ (w : Way). w.route.value ≡ q) (λ (w : Way). IsTrue w.fires) ways way).0 h),
      λ f. (some_two (λ (w : Way). w.route.value ≡ q) (λ (w : Way). IsTrue w.fires) ways way).1 (inl ((are.fired q).1 f)),
    );
    restored = λ mode s. (
      λ h. (restores_more course item (By p) mode s).1 (inl ((are.restored mode s).0 h)),
      λ h. ⊎_elim
          (λ was. (are.restored mode s).1 was)
          (λ now. (let clash = now.2 in absurd (cc)))
          ((restores_more course item (By p) mode s).0 h),
    );
  }
    where
      taken_down : (q : Route) → IsWayTaken (ways ++ way ∷ []) q → FiresBy course.head q ⊎ HasGoneBy (gone_on course item (By p)) q
      taken_down q h =
          ⊎_elim
          (λ was. ⊎_elim
          (λ fires. inl fires)
          (λ gone. inr ((gone_by_more course item (By p) q).1 (inl gone)))
          ((are.taken q).0 was))
          (λ now. inr ((gone_by_more course item (By p) q).1 (inr (ap (λ (r : Route). By r) (sym route ∙ now)))))
          ((some_more (λ (w : Way). w.route.value ≡ q) ways way).0 h)

      taken_up : (q : Route) → FiresBy course.head q ⊎ HasGoneBy (gone_on course item (By p)) q → IsWayTaken (ways ++ way ∷ []) q
      taken_up q h =
          (some_more (λ (w : Way). w.route.value ≡ q) ways way).1
          (⊎_elim
          (λ fires. inl ((are.taken q).1 (inl fires)))
          (λ late. ⊎_elim
          (λ gone. inl ((are.taken q).1 (inr gone)))
          (λ e. inr (route ∙ (let same : p ≡ q = (let f = e in cc) in same)))
          ((gone_by_more course item (By p) q).0 late))
          h)

  -- once it has restored a State
  pub ways_restoring : (r : RegionId) (mode : Mode) (s : VertexId)
      → AreWaysOf m (gone_on course (items.Opened r mode) (Restore s)) ways (states ++ restored_one mode s ∷ [])
  ways_restoring r mode s = record {
    legs = are.legs;
    taken = λ q. (
      λ h. ⊎_elim
          (λ fires. inl fires)
          (λ gone. inr ((gone_by_more course item how q).1 (inl gone)))
          ((are.taken q).0 h),
      λ h. (are.taken q).1
          (⊎_elim
          (λ fires. inl fires)
          (λ late. ⊎_elim (λ gone. inr gone) (λ e. (let clash = e in absurd (cc))) ((gone_by_more course item how q).0 late))
          h),
    );
    fired = are.fired;
    restored = λ md q. (
      λ h. (restores_more course item how md q).1
          (⊎_elim
          (λ was. inl ((are.restored md q).0 was))
          (λ now. inr (r, ap (λ (z : Restored). items.Opened r z.mode) now, ap (λ (z : Restored). Restore z.state) now))
          (Contains-push_cases states (restored_one mode s) (restored_one md q) h)),
      λ h. ⊎_elim
          (λ was. Contains-append_left states (restored_one mode s ∷ []) (restored_one md q) ((are.restored md q).1 was))
          (λ now. (
          let same : mode ≡ md = (let f = now.1 in cc) in
          let state : s ≡ q = (let f = now.2 in cc) in
          there md q same state
          ))
          ((restores_more course item how md q).0 h),
    );
  }
    where
      item : Item
      item = items.Opened r mode

      how : How
      how = Restore s

      there : (md : Mode) (q : VertexId) → mode ≡ md → s ≡ q → Contains (states ++ restored_one mode s ∷ []) (restored_one md q)
      there md q e f =
          subst (λ (z : VertexId). Contains (states ++ restored_one mode s ∷ []) (restored_one md z)) f
          (subst (λ (z : Mode). Contains (states ++ restored_one mode s ∷ []) (restored_one z s)) e (Contains-push states (restored_one mode s)))

  -- and once an item has run without a way
  pub ways_plainly : (item : Item) → AreWaysOf m (gone_on course item Nothing) ways states
  ways_plainly item = record {
    legs = are.legs;
    taken = λ q. (
      λ h. ⊎_elim
          (λ fires. inl fires)
          (λ gone. inr ((gone_by_more course item Nothing q).1 (inl gone)))
          ((are.taken q).0 h),
      λ h. (are.taken q).1
          (⊎_elim
          (λ fires. inl fires)
          (λ late. ⊎_elim (λ gone. inr gone) (λ e. (let clash = e in absurd (cc))) ((gone_by_more course item Nothing q).0 late))
          h),
    );
    fired = are.fired;
    restored = λ mode s. (
      λ h. (restores_more course item Nothing mode s).1 (inl ((are.restored mode s).0 h)),
      λ h. ⊎_elim
          (λ was. (are.restored mode s).1 was)
          (λ now. (let clash = now.2 in absurd (cc)))
          ((restores_more course item Nothing mode s).0 h),
    );
  }

  -- what an entry opened that had run
  opened_before : {x : Item} (s : VertexId) → HasRun course (items.Enter s) → IsOpenedByEntry m ways states s x → Called m course x
  opened_before {x} s ran h = called_of course ways states are x (inr (inr (inr (s, ran, (entry_opens course ways states are s x).1 h))))

  module _ (calls : List Call) (marks : (v : VertexId) → IsMarked calls (items.Enter v) ↔ HasRun course (items.Enter v)) where
    pub called_by : (item : Item) (p : Route) (way : Way) → IsWayIn m way → way.route.value ≡ p → way.fires ≡ false
        → ((s : VertexId) → items.Enter s ≡ item → ⊥) → (x : Item)
        → Called m (gone_on course item (By p)) x ↔ (Called m course x ⊎ IsLate m calls way x)
    called_by item p way inside route late none x = (
      λ h. ⊎_elim
          (λ starts. inl (called_of course ways states are x (inl starts)))
          (⊎_elim
          (λ of. down_of of)
          (⊎_elim
          (λ entry. inl (called_of course ways states are x (inr (inr (inl (entry.0, entry.1, was_restored entry.0 entry.1 entry.2, entry.3))))))
          (λ after. down_after after.0 (was_run after.0 after.1)
          ((entry_opens next (ways ++ way ∷ []) states now after.0 x).0 after.2))))
          (called_is next (ways ++ way ∷ []) states now x h),
      λ h. ⊎_elim (λ was. called_kept course item (By p) x was) up h,
    )
      where
        next : Course
        next = gone_on course item (By p)

        now : AreWaysOf m next (ways ++ way ∷ []) states
        now = ways_by item p way inside route late

        was_run : (s : VertexId) → HasRun next (items.Enter s) → HasRun course (items.Enter s)
        was_run s h = ⊎_elim (λ was. was) (λ e. absurd (none s e)) ((run_more course item (By p) (items.Enter s)).0 h)

        was_restored : (mode : Mode) (s : VertexId) → HasRestored next mode s → HasRestored course mode s
        was_restored mode s h =
            ⊎_elim (λ was. was) (λ now. (let clash = now.2 in absurd (cc))) ((restores_more course item (By p) mode s).0 h)

        down_of : IsOfWays m course.at_head (ways ++ way ∷ []) x → Called m course x ⊎ IsLate m calls way x
        down_of h =
            ⊎_elim
            (λ was. inl (called_of course ways states are x (inr (inl was))))
            (λ of. inr (inl (late_no_exit m way late x of.1, of.1)))
            ((some_two (λ (w : Way). MayRun course.at_head x) (λ (w : Way). calls_by m w x) ways way).0 h)

        down_after : (s : VertexId) → HasRun course (items.Enter s) → IsOpenedByEntry m (ways ++ way ∷ []) states s x
            → Called m course x ⊎ IsLate m calls way x
        down_after s ran h =
            ⊎_elim
            (λ default. ⊎_elim
            (λ was. inl (opened_before s ran (inl (default.0, default.1, default.2, was))))
            (λ by. inr (inr (s, default.0, default.1, default.2, (marks s).1 ran, by)))
            ((some_more (λ (w : Way). opens_by m w s default.0) ways way).0 default.3))
            (λ again. inl (opened_before s ran (inr again)))
            h

        up : IsLate m calls way x → Called m next x
        up h =
            ⊎_elim
            (λ other. called_of next (ways ++ way ∷ []) states now x
            (inr (inl ((some_two (λ (w : Way). MayRun course.at_head x) (λ (w : Way). calls_by m w x) ways way).1
            (inr (no_exit_runs course.at_head x other.0, other.1))))))
            (λ again. called_of next (ways ++ way ∷ []) states now x
            (inr (inr (inr (
              again.0,
              (run_more course item (By p) (items.Enter again.0)).1 (inl ((marks again.0).0 again.4)),
              (entry_opens next (ways ++ way ∷ []) states now again.0 x).1
                  (inl (again.1, again.2, again.3, (some_more (λ (w : Way). opens_by m w again.0 again.1) ways way).1 (inr again.5))),
            )))))
            h

    pub called_restoring : (r : RegionId) (mode : Mode) (s : VertexId) (x : Item)
        → Called m (gone_on course (items.Opened r mode) (Restore s)) x ↔ (Called m course x ⊎ IsOfRestored m calls mode s x)
    called_restoring r mode s x = (
      λ h. ⊎_elim
          (λ starts. inl (called_of course ways states are x (inl starts)))
          (⊎_elim
          (λ of. inl (called_of course ways states are x (inr (inl of))))
          (⊎_elim
          (λ entry. down_entry entry.0 entry.1 entry.2 entry.3)
          (λ after. down_after after.0 (was_run after.0 after.1) ((entry_opens next ways more now after.0 x).0 after.2))))
          (called_is next ways more now x h),
      λ h. ⊎_elim (λ was. called_kept course (items.Opened r mode) (Restore s) x was) up h,
    )
      where
        next : Course
        next = gone_on course (items.Opened r mode) (Restore s)

        more : List Restored
        more = states ++ restored_one mode s ∷ []

        now : AreWaysOf m next ways more
        now = ways_restoring r mode s

        was_run : (q : VertexId) → HasRun next (items.Enter q) → HasRun course (items.Enter q)
        was_run q h =
            ⊎_elim
            (λ was. was)
            (λ e. (let clash = e in absurd (cc)))
            ((run_more course (items.Opened r mode) (Restore s) (items.Enter q)).0 h)

        down_entry : (md : Mode) (q : VertexId) → HasRestored next md q → x ≡ items.Enter q → Called m course x ⊎ IsOfRestored m calls mode s x
        down_entry md q h e =
            ⊎_elim
            (λ was. inl (restored md q was e))
            (λ is. (let same : s ≡ q = (let f = is.2 in cc) in
            inr (inl (subst (λ (v : VertexId). x ≡ items.Enter v) (sym same) e))))
            ((restores_more course (items.Opened r mode) (Restore s) md q).0 h)

        again : (one : Restored) → restored_one mode s ≡ one → HasRun course (items.Enter one.state)
            → IsOpeningOf m one.state (restored_mode one.mode) x → IsOfRestored m calls mode s x
        again one e ran opening =
            subst
            (λ (z : Restored). HasRun course (items.Enter z.state) → IsOpeningOf m z.state (restored_mode z.mode) x → IsOfRestored m calls mode s x)
            e (λ run of. inr ((marks s).1 run, of)) ran opening

        down_after : (q : VertexId) → HasRun course (items.Enter q) → IsOpenedByEntry m ways more q x
            → Called m course x ⊎ IsOfRestored m calls mode s x
        down_after q ran h =
            ⊎_elim
            (λ default. inl (opened_before q ran (inl default)))
            (λ of. ⊎_elim
            (λ was. inl (opened_before q ran (inr (of.0, was, of.2))))
            (λ e. inr (again (restored_one of.0 q) e ran of.2))
            (Contains-push_cases states (restored_one mode s) (restored_one of.0 q) of.1))
            h

        up : IsOfRestored m calls mode s x → Called m next x
        up h =
            ⊎_elim
            (λ e. restored mode s ((restores_more course (items.Opened r mode) (Restore s) mode s).1 (inr (r, refl, refl))) e)
            (λ after. called_of next ways more now x
            (inr (inr (inr (
              s,
              (run_more course (items.Opened r mode) (Restore s) (items.Enter s)).1 (inl ((marks s).0 after.0)),
              (entry_opens next ways more now s x).1 (inr (mode, Contains-push states (restored_one mode s), after.1)),
            )))))
            h

  pub called_plainly : (item x : Item) → Called m (gone_on course item Nothing) x ↔ (Called m course x ⊎ IsEntered m ways states item x)
  called_plainly item x = (
    λ h. ⊎_elim
        (λ starts. inl (called_of course ways states are x (inl starts)))
        (⊎_elim
        (λ of. inl (called_of course ways states are x (inr (inl of))))
        (⊎_elim
        (λ entry. inl (restored entry.0 entry.1 (was_restored entry.0 entry.1 entry.2) entry.3))
        (λ after. down_after after.0 after.1 ((entry_opens next ways states now after.0 x).0 after.2))))
        (called_is next ways states now x h),
    λ h. ⊎_elim (λ was. called_kept course item Nothing x was) up h,
  )
    where
      next : Course
      next = gone_on course item Nothing

      now : AreWaysOf m next ways states
      now = ways_plainly item

      was_restored : (mode : Mode) (s : VertexId) → HasRestored next mode s → HasRestored course mode s
      was_restored mode s h =
          ⊎_elim (λ was. was) (λ is. (let clash = is.2 in absurd (cc))) ((restores_more course item Nothing mode s).0 h)

      down_after : (s : VertexId) → HasRun next (items.Enter s) → IsOpenedByEntry m ways states s x
          → Called m course x ⊎ IsEntered m ways states item x
      down_after s ran h =
          ⊎_elim
          (λ was. inl (opened_before s was h))
          (λ e. inr (subst (λ (y : Item). IsEntered m ways states y x) e h))
          ((run_more course item Nothing (items.Enter s)).0 ran)

      up : IsEntered m ways states item x → Called m next x
      up h =
          let at = entered_by m ways states item x h in
          called_of next ways states now x
          (inr (inr (inr (
            at.0,
            (run_more course item Nothing (items.Enter at.0)).1 (inr at.1),
            (entry_opens next ways states now at.0 x).1 at.2,
          ))))
