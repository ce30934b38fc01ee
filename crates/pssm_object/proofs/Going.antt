-- Where an object stands once a step has gone on.
use Rattle.std.proofs.Common.{◌≡◌, ◌↔◌, ◌++◌, [], ◌∷◌, Bool, IsTrue, IfOk, List, Option, Some, Result, Ok, Err, OnOk, refl, subst}
use Rattle.pssm_model.specs.declared.ids.VertexId.{VertexId}
use Rattle.pssm_model.specs.declared.elements.DraftMachine.{DraftMachine}
use Rattle.pssm_model.specs.declared.steps.Route.{Route}
use Rattle.pssm_model.specs.declared.steps.Event.TheVariants.{Completion}
use Rattle.pssm_model.specs.declared.steps.Firing.{Firing}
use Rattle.pssm_model.specs.declared.steps.How.{How}
use Rattle.pssm_model.specs.declared.steps.Item.{Item}
use Rattle.pssm_model.specs.Course.Head.{Starts, Fires}
use Rattle.pssm_model.specs.Changes.{Agree, nothing_yet}
use Rattle.pssm_config.specs.Tables.{Tables, configuration_of}
use Rattle.pssm_plan.specs.Agenda.{Agenda}
use Rattle.pssm_plan.specs.Plans.{IsPlanOf}
use Rattle.pssm_semantics.specs.declared.setting.Class.{Class}
use Rattle.pssm_semantics.specs.Values.{Store, Params, eight_of}
use Rattle.pssm_object.specs.Standing.{Standing}
use Rattle.pssm_object.specs.inner.Firing.{Fires as Fired}
use Rattle.pssm_object.specs.inner.Judging.{Completes}
use Rattle.pssm_object.specs.inner.Advancing.{HasRunOn, HasFired, Begins}

-- the item has run, where that has succeeded
pub has_run_on : {A E : Type 0} (m : DraftMachine) (old : Option Agenda) (was now : Agenda) (item : Item) (how : How) (outcome : Result A E)
    → old ≡ Some was → now.head ≡ was.head → now.at_head ≡ was.at_head
    → OnOk outcome (now.ran ≡ was.ran ++ (item, how) ∷ []) → OnOk outcome (IsPlanOf m now)
    → OnOk outcome (HasRunOn m old item how (Some now))
has_run_on m old was now item how (Ok done) is head at_head ran plan =
    record { was = was; was_is = is; now = now; now_is = refl; head = head; at_head = at_head; ran = ran; is_plan = plan }
has_run_on m old was now item how (Err error) is head at_head ran plan = tt

-- the routes have fired, where that has succeeded
pub has_fired : {A E : Type 0} (m : DraftMachine) (config : Tables) (firing : Firing) (now : Agenda) (outcome : Result A E)
    → OnOk outcome (now.head ≡ Fires firing.routes) → OnOk outcome (now.at_head ≡ config) → OnOk outcome (now.ran ≡ [])
    → OnOk outcome (IsPlanOf m now) → OnOk outcome (HasFired m config firing.routes (Some now))
has_fired m config firing now (Ok done) head at_head ran plan =
    (record { now = now; now_is = refl; head_is = head; ran = ran; is_plan = plan }, at_head)
has_fired m config firing now (Err error) head at_head ran plan = tt

-- a step has begun, by a start
pub begins : (m : DraftMachine) (old new : Standing) (plan : Agenda) → new.own ≡ old.own → new.plan ≡ Some plan → new.config ≡ old.config
    → new.store ≡ old.store → new.params ≡ old.params → new.queue ≡ old.queue → new.ended ≡ old.ended → new.doers ≡ old.doers → plan.head ≡ Starts
    → Agree (configuration_of plan.at_head) nothing_yet → plan.ran ≡ [] → IsPlanOf m plan → Begins m old new
begins m old new plan own is config store params queue ended doers head at_head ran is_plan = record {
  own = own;
  plan = record { now = plan; now_is = is; head_is = head; ran = ran; is_plan = is_plan };
  at_head = at_head;
  config = config;
  store = store;
  params = params;
  queue = queue;
  ended = ended;
  doers = doers;
}

-- what the completion of a State fires, asked with no parameters
pub completes_by : {E : Type 0} (class : Class) (x : Standing) (v : VertexId) (routes : List Route) (store : Store) (params : Params) (result : Result Bool E)
    → store ≡ x.store → params ≡ [] → IfOk result (λ is. IsTrue is ↔ Fired class x.config store (eight_of params) (Completion v) routes)
    → IfOk result (λ is. IsTrue is ↔ Completes class x v routes)
completes_by class x v routes store params result same none h =
    subst (λ (p : Params). IfOk result (λ is. IsTrue is ↔ Fired class x.config x.store (eight_of p) (Completion v) routes)) none
    (subst (λ (s : Store). IfOk result (λ is. IsTrue is ↔ Fired class x.config s (eight_of params) (Completion v) routes)) same h)
