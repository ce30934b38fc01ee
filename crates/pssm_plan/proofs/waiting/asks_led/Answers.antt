use Rattle.std.proofs.Common.{◌≡◌, List, true, subst, sym}
use Rattle.pssm_plan.specs.declared.ways.Way.{Way}
use Rattle.pssm_plan.specs.inner.Sequence.{IsOrderedBySome}
use Rattle.pssm_plan.proofs.ApartCalls.{rest_is, rest_some}
use Rattle.pssm_plan.proofs.NearWays.{near_ways}
use Rattle.pssm_plan.proofs.waiting.asks_led.Goals as goal

pub long_may_lead-requires-clause-ways : goal.long_may_lead-requires-clause-ways
long_may_lead-requires-clause-ways c =
    near_ways c.args.machine.now c.args.ways.now _ (rest_some c.args.ways.now c.args.since.ways) c.requires.ways

pub returns-then-asks_new : goal.returns-then-asks_new
returns-then-asks_new c = λ x h.
    c.long_may_lead.ensures x
    (subst (λ (l : List Way). IsOrderedBySome c.args.machine.now l x c.args.item) (sym (rest_is c.args.ways.now c.args.since.ways)) h)

pub returns-else-asks_new : goal.returns-else-asks_new
returns-else-asks_new c = λ x h.
    absurd (let yes : c.asks_new.result ≡ true = c.asks_new.ensures x h in let no = c.if-asks_new.false in cc)
