-- the effects of its legs are those that the way calls
use Rattle.std.proofs.Common.{◌⊎◌}
use Rattle.std.proofs.lemmas.Result.{on_ok_weaker}
use Rattle.pssm_model.specs.declared.steps.Item.{Item}
use Rattle.pssm_plan.specs.inner.Calling.{IsEffectBy, IsEffectOf, IsEffectOfSome}
use Rattle.pssm_plan.proofs.Extending.{extended_same, extended_further}
use Rattle.pssm_plan.proofs.NearItems.{first_in, more_in, effects_are}
use Rattle.pssm_plan.proofs.roster.Roster.list_effects.Goals as goal

pub list_leg-requires-clause-leg : goal.list_leg-requires-clause-leg
list_leg-requires-clause-leg c = first_in c.args.way.now c.requires.way

pub list_legs-requires-clause-legs : goal.list_legs-requires-clause-legs
list_legs-requires-clause-legs c = λ leg inside. more_in c.args.way.now c.requires.way leg (rw c.as_slice.ensures.value at inside)

pub returns-clause-added : goal.returns-clause-added
returns-clause-added c =
    let m = c.args.machine.now in
    let way = c.args.way.now in
    let old = c.args.self.now.calls.items in
    let mid = c.list_leg.new.self.calls.items in
    on_ok_weaker c.list_legs.result
    (λ added. extended_same m old _ (λ (x : Item). IsEffectOf way.legs.first x ⊎ IsEffectOfSome way.legs.more.items x) (IsEffectBy m way)
    (effects_are way c.requires.way)
    (extended_further m old mid _ (IsEffectOf way.legs.first) (IsEffectOfSome way.legs.more.items)
    c.in_ok-list_leg.ensures.added (rw c.as_slice.ensures.value at added)))
    c.list_legs.ensures.added
