-- a do step is done, and the queue goes on
use Rattle.std.proofs.Common.{◌∙◌, Some, None, ap, subst}
use Rattle.pssm_config.specs.Tables.{configuration_of}
use Rattle.pssm_object.specs.Queue.{CompletionQueue}
use Rattle.pssm_object.specs.inner.Queueing.{QueueGoesOn}
use Rattle.pssm_object.proofs.situation.Situation.step_on.Goals as goal

pub returns-clause-ok : goal.returns-clause-ok
returns-clause-ok c =
    let did = c.in_ok-do_step.ensures.ok in
    record {
      own = did.own;
      plan = did.plan;
      fits = did.fits;
      changed = did.changed;
      store = did.store;
      params = did.params;
      room = c.settle.ensures.room ∙ ap (λ (q : CompletionQueue). q.room) did.queue;
      queue = subst (λ (q : CompletionQueue). QueueGoesOn c.args.class.now.machine (configuration_of c.args.self.now.config)
          (configuration_of c.do_step.new.self.config) None (Some c.args.state) q.states c.settle.new.self.states) did.queue
          (c.settle.ensures.goes_on c.args.self.now.config (Some c.args.state) c.due_of-due.ensures.due);
      ended = did.ended;
      doers = did.doers;
    }
