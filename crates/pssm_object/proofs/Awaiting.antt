-- An object waits for a signal exactly where what is kept of it says so.
use Rattle.std.proofs.Common.{◌≡◌, ◌⊎◌, ◌↔◌, List, Bool, IsTrue, Some, None, inl, inr}
use Rattle.pssm_plan.specs.Agenda.{Agenda}
use Rattle.pssm_semantics.specs.declared.entry.Entry.{Entry}
use Rattle.pssm_semantics.specs.declared.setting.Class.{Class}
use Rattle.pssm_object.specs.Standing.{Standing, StandsAfter}
use Rattle.pssm_object.specs.Following.{AwaitsSignal}
use Rattle.pssm_object.specs.inner.Situations.{IsAtRest}
use Rattle.pssm_object.specs.inner.Choosing.{AwaitsHere}
use Rattle.pssm_object.proofs.QueueHeads.{end_of_queue}
use Rattle.pssm_object.proofs.Rules.{has_started, not_started}
use Rattle.pssm_object.proofs.Standings.{plan_or_none, only_posts, step_of}
use Rattle.pssm_object.proofs.UnderWay.{step_finished, finished_step}

module _ (class : Class) {J : List Entry} {x : Standing} (s : StandsAfter class J x) where
  awaits : AwaitsHere class.machine x → AwaitsSignal class.machine J x.own
  awaits (living, (p, is, out), none) = record {
    living = λ ended. living (s.ended_is.1 ended);
    started = has_started (step_of s p is);
    finished = step_finished (step_of s p is) out;
    empty = (end_of_queue class.machine J x.own x.queue.states s.queue_is).0 none;
  }

  rests : AwaitsSignal class.machine J x.own → (x.plan ≡ None) ⊎ ((p : Agenda) × (x.plan ≡ Some p)) → IsAtRest class.machine x.plan
  rests h (inl none) = absurd (not_started J x.own (only_posts s none) h.started.0 h.started.1 h.started.2)
  rests h (inr (p, is)) = (p, is, finished_step (step_of s p is) h.living h.finished)

  awaits_here : AwaitsSignal class.machine J x.own → AwaitsHere class.machine x
  awaits_here h = (
    λ ended. h.living (s.ended_is.0 ended),
    rests h (plan_or_none x.plan),
    (end_of_queue class.machine J x.own x.queue.states s.queue_is).1 h.empty,
  )

  pub wait_told : (answer : Bool) → (IsTrue answer ↔ AwaitsHere class.machine x) → IsTrue answer ↔ AwaitsSignal class.machine J x.own
  wait_told answer h = ((λ yes. awaits (h.0 yes)), (λ waits. h.1 (awaits_here waits)))
