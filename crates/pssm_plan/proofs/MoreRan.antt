-- What one more item that runs does to a step: what has run, by what it goes, and what it has restored.
use Rattle.std.proofs.Common.{◌≡◌, ◌⊎◌, ◌↔◌, ◌++◌, [], ◌∷◌, Contains, sym, ap, subst, inl, inr, ⊎_elim}
use Rattle.std.proofs.lemmas.List.Elements.{Contains-append_cases, Contains-append_left, Contains-append_right}
use Rattle.pssm_model.specs.declared.ids.VertexId.{VertexId}
use Rattle.pssm_model.specs.declared.steps.Route.{Route}
use Rattle.pssm_model.specs.declared.steps.Mode.{Mode}
use Rattle.pssm_model.specs.declared.steps.How.{How}
use Rattle.pssm_model.specs.declared.steps.How.TheVariants.{By, Restore}
use Rattle.pssm_model.specs.declared.steps.Item.{Item}
use Rattle.pssm_model.specs.declared.steps.Item.TheVariants as items
use Rattle.pssm_model.specs.Configuration.{Configuration}
use Rattle.pssm_model.specs.Course.{Head, Course, FiresBy, HasGoneBy, HasRun, HasRestored}
use Rattle.pssm_model.proofs.ElementLaws.{nothing_in_nil}
use Rattle.pssm_model.proofs.RouteLaws.{in_one, is_one}

-- the step once this item has run in this way
abbrev pub gone_on : Course → Item → How → Course
gone_on course item how = record course { ran = course.ran ++ (item, how) ∷ [] }

-- a step of which nothing has run
abbrev pub begun : Head → Configuration → Course
begun head now = record { head = head; at_head = now; ran = [] }

module _ (head : Head) (now : Configuration) where
  pub nothing_ran : (x : Item) → HasRun (begun head now) x → ⊥
  nothing_ran x h = nothing_in_nil (x, h.0) h.1

  -- goes by what fires alone
  pub begins_by : (route : Route) → (FiresBy head route ⊎ HasGoneBy (begun head now) route) → FiresBy head route
  begins_by route h = ⊎_elim (λ fires. fires) (λ gone. absurd (nothing_in_nil (gone.0, By route) gone.1)) h

module _ (course : Course) (item : Item) (how : How) where
  ran_cases : (x : Item × How) → Contains (gone_on course item how).ran x → Contains course.ran x ⊎ (x ≡ (item, how))
  ran_cases x h =
      ⊎_elim (λ was. inl was) (λ now. inr (is_one (item, how) x now)) (Contains-append_cases course.ran ((item, how) ∷ []) x h)

  pub ran_kept : (x : Item × How) → Contains course.ran x → Contains (gone_on course item how).ran x
  ran_kept x h = Contains-append_left course.ran ((item, how) ∷ []) x h

  pub ran_now : Contains (gone_on course item how).ran (item, how)
  ran_now = Contains-append_right course.ran ((item, how) ∷ []) (item, how) (in_one (item, how))

  -- the items that have run
  pub run_more : (x : Item) → HasRun (gone_on course item how) x ↔ (HasRun course x ⊎ (x ≡ item))
  run_more x = (
    λ h. ⊎_elim (λ was. inl (h.0, was)) (λ now. inr (ap (λ y. y.0) now)) (ran_cases (x, h.0) h.1),
    λ h. ⊎_elim (λ was. (was.0, ran_kept (x, was.0) was.1)) (λ same. subst (λ y. HasRun (gone_on course item how) y) (sym same) (how, ran_now)) h,
  )

  -- the late routes by which it goes
  pub gone_by_more : (route : Route) → HasGoneBy (gone_on course item how) route ↔ (HasGoneBy course route ⊎ (how ≡ By route))
  gone_by_more route = (
    λ h. ⊎_elim (λ was. inl (h.0, was)) (λ now. inr (sym (ap (λ y. y.1) now))) (ran_cases (h.0, By route) h.1),
    λ h. ⊎_elim
        (λ was. (was.0, ran_kept (was.0, By route) was.1))
        (λ same. (item, subst (λ y. Contains (gone_on course item how).ran (item, y)) same ran_now))
        h,
  )

  -- the States that it restores
  pub restored_more : (mode : Mode) (s : VertexId) → HasRestored (gone_on course item how) mode s
      → HasRestored course mode s ⊎ (how ≡ Restore s)
  restored_more mode s h =
      ⊎_elim (λ was. inl (h.0, was)) (λ now. inr (sym (ap (λ y. y.1) now))) (ran_cases (items.Opened h.0 mode, Restore s) h.1)
