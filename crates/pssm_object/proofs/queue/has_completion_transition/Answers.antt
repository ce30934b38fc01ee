-- each turn looks at one transition more
use Rattle.std.proofs.Common.{◌≡◌, ◌∙◌, false, true, sym, subst, Contains}
use Rattle.std.proofs.lemmas.List.{take_all, take_more}
use Rattle.pssm_model.specs.Routes.{HasNoTrigger}
use Rattle.pssm_object.proofs.QueueLists.{none_more}
use Rattle.pssm_object.proofs.queue.has_completion_transition.Goals as goal

pub loop-t-preserved : goal.loop-t-preserved
loop-t-preserved c =
    none_more (HasNoTrigger c.args.machine.now) _ _ _ (take_more c.outgoing-t-items.result.now c.loop-t.t-index _ c.loop-t-test.true) c.loop-t.invariant
    (λ none. let clash : false ≡ true = sym c.if-has_no_trigger.false ∙ c.has_no_trigger.ensures.1 none in absurd (cc))

pub returns : goal.returns
returns c = (
  λ e. absurd (cc),
  λ h. absurd (c.loop-t.invariant h.0
      (subst (λ ts. Contains ts h.0) (sym (take_all c.loop-t.t-index c.outgoing-t-items.result.now c.loop-t-test.false))
      ((c.outgoing-t-items.ensures.items h.0).1 h.1)) h.2),
)
