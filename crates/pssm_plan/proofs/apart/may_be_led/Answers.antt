use Rattle.std.proofs.Common.{subst}
use Rattle.pssm_model.specs.declared.steps.Item.{Item}
use Rattle.pssm_plan.specs.inner.ByWays.{orders_by}
use Rattle.pssm_plan.proofs.ApartPairs.{exited_first}
use Rattle.pssm_plan.proofs.FreeCalls.{unset_by}
use Rattle.pssm_plan.proofs.NearItems.{first_in}
use Rattle.pssm_plan.proofs.apart.may_be_led.Goals as goal

pub covers-requires-clause-area : goal.covers-requires-clause-area
covers-requires-clause-area c = (first_in c.args.way.now c.requires.way).area

pub returns-in-Exit : goal.returns-in-Exit
returns-in-Exit c = λ x h.
    unset_by c.covers.result
    (λ lies. exited_first c.regions-shaped.ensures.shaped c.requires.rules c.args.way.now c.requires.way c.in-Exit.s (c.covers.ensures.0 lies) x
    (subst (λ (y : Item). orders_by c.args.machine.now c.args.way.now x y) c.in-Exit.is h))
