-- What is kept of the step, by whether there is a plan.
use Rattle.std.proofs.Common.{◌≡◌, ◌⊎◌, List, Option, Some, None, IfSome, refl, subst, inl, inr}
use Rattle.std.specs.List.{AllByRecursion}
use Rattle.pssm_model.specs.declared.ids.VertexId.{VertexId}
use Rattle.pssm_model.specs.declared.elements.DraftMachine.{DraftMachine}
use Rattle.pssm_model.specs.declared.elements.Owner.TheVariants.{Top, Region, State}
use Rattle.pssm_model.specs.Forest.{owner_of}
use Rattle.pssm_model.specs.Configuration.{Configuration}
use Rattle.pssm_config.specs.Tables.{configuration_of}
use Rattle.pssm_plan.specs.Agenda.{Agenda}
use Rattle.pssm_plan.specs.Plans.{IsPlanOf}
use Rattle.pssm_plan.specs.Steadiness.{IsConsistent, changed_along}
use Rattle.pssm_semantics.specs.declared.entry.Entry.{Entry}
use Rattle.pssm_semantics.specs.declared.setting.Class.{Class}
use Rattle.pssm_semantics.specs.Journal.{IsPost, object_of}
use Rattle.pssm_object.specs.Standing.{Standing, AreActiveAlike, IsUnderWay, HasNotStarted, IsStepOf, StandsAfter}

-- there is a plan, or there is none
pub plan_or_none : (plan : Option Agenda) → (plan ≡ None) ⊎ ((p : Agenda) × (plan ≡ Some p))
plan_or_none None = inl refl
plan_or_none (Some p) = inr (p, refl)

module _ {class : Class} {J : List Entry} {x : Standing} (s : StandsAfter class J x) where
  pub not_begun : x.plan ≡ None → HasNotStarted class.machine J x.own
  not_begun none = subst (IsStepOf class.machine J x.own) none s.step_is

  pub only_posts : x.plan ≡ None → AllByRecursion (λ f. (object_of f ≡ x.own) → IsPost f) J
  only_posts none = (not_begun none).posts

  pub plan_of : (p : Agenda) → x.plan ≡ Some p → IsPlanOf class.machine p
  plan_of p is = (subst (IsStepOf class.machine J x.own) is s.step_is).0

  pub step_of : (p : Agenda) → x.plan ≡ Some p → IsUnderWay class.machine J x.own p.head (configuration_of p.at_head) p.ran
  step_of p is = (subst (IsStepOf class.machine J x.own) is s.step_is).1

  -- the plan that is kept is one of the machine
  plan_known : (plan : Option Agenda) → IsStepOf class.machine J x.own plan → IfSome plan (IsPlanOf class.machine)
  plan_known None step = tt
  plan_known (Some p) step = step.0

  pub plan_fits : IfSome x.plan (IsPlanOf class.machine)
  plan_fits = plan_known x.plan s.step_is

  -- what is active is what the step has left active
  pub along_of : (p : Agenda) → x.plan ≡ Some p → AreActiveAlike (configuration_of x.config) (changed_along class.machine (configuration_of p.at_head) p.ran)
  along_of p is v =
      let along = (step_of p is).along in
      ((λ active. (along v).0 ((s.now_is.active v).0 active)), (λ active. (s.now_is.active v).1 ((along v).1 active)))

-- configurations in which as much is active are consistent alike
pub consistent_alike : (m : DraftMachine) (a b : Configuration) → AreActiveAlike b a → IsConsistent m a → IsConsistent m b
consistent_alike m a b same h = record {
  states = λ s active. h.states s ((same s).0 active);
  one_each = λ r s q first second is also. h.one_each r s q first second ((same s).0 is) ((same q).0 also);
  owners = λ r s direct active. owner r (h.owners r s direct ((same s).0 active));
} where
  owner : (r : _) → (owner_of m (Region r) ≡ Some Top) ⊎ ((q : VertexId) × (owner_of m (Region r) ≡ Some (State q)) × a.Active q)
      → (owner_of m (Region r) ≡ Some Top) ⊎ ((q : VertexId) × (owner_of m (Region r) ≡ Some (State q)) × b.Active q)
  owner r (inl top) = inl top
  owner r (inr (q, owns, active)) = inr (q, owns, (same q).1 active)
