-- the picks at the ends of its legs are those that the way calls
use Rattle.std.proofs.Common.{◌⊎◌}
use Rattle.std.proofs.lemmas.Result.{on_ok_weaker}
use Rattle.pssm_model.specs.declared.steps.Item.{Item}
use Rattle.pssm_plan.specs.inner.Calling.{IsPickBy, IsPickAt, IsPickAtSome}
use Rattle.pssm_plan.proofs.Extending.{extended_same, extended_further}
use Rattle.pssm_plan.proofs.NearItems.{first_in, more_in, picks_are}
use Rattle.pssm_plan.proofs.roster.Roster.list_picks.Goals as goal

pub list_pick-requires-clause-leg : goal.list_pick-requires-clause-leg
list_pick-requires-clause-leg c = first_in c.args.way.now c.requires.way

pub list_further_picks-requires-clause-legs : goal.list_further_picks-requires-clause-legs
list_further_picks-requires-clause-legs c = λ leg inside. more_in c.args.way.now c.requires.way leg (rw c.as_slice.ensures.value at inside)

pub returns-clause-added : goal.returns-clause-added
returns-clause-added c =
    let m = c.args.machine.now in
    let way = c.args.way.now in
    let old = c.args.self.now.calls.items in
    let mid = c.list_pick.new.self.calls.items in
    on_ok_weaker c.list_further_picks.result
    (λ added. extended_same m old _ (λ (x : Item). IsPickAt m way way.legs.first x ⊎ IsPickAtSome m way way.legs.more.items x) (IsPickBy m way)
    (picks_are way c.requires.way)
    (extended_further m old mid _ (IsPickAt m way way.legs.first) (IsPickAtSome m way way.legs.more.items)
    c.in_ok-list_pick.ensures.added (rw c.as_slice.ensures.value at added)))
    c.list_further_picks.ensures.added
