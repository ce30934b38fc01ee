use Rattle.std.proofs.Common.{◌+◌, ◌<◌, ◌≤◌, ◌^◌, List, length, take, refl, sym, subst, arith}
use Rattle.pssm_config.specs.Tables.{configuration_of}
use Rattle.pssm_model.specs.declared.steps.Item.TheVariants.{Exit}
use Rattle.pssm_plan.specs.declared.roster.Call.{Call}
use Rattle.pssm_plan.specs.inner.Sequence.{IsSequence}
use Rattle.pssm_plan.specs.declared.waiters.Span.{Span}
use Rattle.pssm_plan.specs.inner.Passes.{AreCaught}
use Rattle.pssm_plan.proofs.Caught.{caught_grown}
use Rattle.pssm_plan.proofs.Passes.{before_left}
use Rattle.pssm_plan.proofs.FiredWays.{fired_before, fired_new, fired_made, inside_taken}
use Rattle.pssm_plan.proofs.SomeWay.{is_there}
use Rattle.pssm_plan.proofs.progress.fire_way.Goals as goal

pub meets_fired-anew-requires-clause-way : goal.meets_fired-anew-requires-clause-way
meets_fired-anew-requires-clause-way c =
    c.requires.ways c.index-ways-place.result
    (is_there c.args.ways.now c.args.place c.index-ways-place.result c.requires.there c.index-ways-place.is)

pub meets_fired-anew-requires-clause-active : goal.meets_fired-anew-requires-clause-active
meets_fired-anew-requires-clause-active c = λ s listed. ((c.requires.made.listed (Exit s)).0 listed).2

pub list_fired-requires-clause-way : goal.list_fired-requires-clause-way
list_fired-requires-clause-way c =
    c.requires.ways c.index-ways-place.result
    (is_there c.args.ways.now c.args.place c.index-ways-place.result c.requires.there c.index-ways-place.is)

pub settle_fired-requires-clause-ways : goal.settle_fired-requires-clause-ways
settle_fired-requires-clause-ways c = λ way inside. c.requires.ways way (inside_taken _ c.args.ways.now way inside)

pub settle_fired-requires-clause-caught : goal.settle_fired-requires-clause-caught
settle_fired-requires-clause-caught c =
    subst (λ (l : List Span). AreCaught l c.list_fired.new.self.calls.items) (sym c.as_mut_slice.ensures.value)
    (caught_grown c.args.machine.now c.args.spans.now.items c.make_room.new.spans.items c.args.roster.now.calls.items c.list_fired.new.self.calls.items
    c.requires.caught c.make_room.ensures.longer c.list_fired.ensures.calls c.in_ok-list_fired.ensures.added.roster
    c.in_ok-list_fired.ensures.added.fresh
    (subst (λ (l : List Call). length l < 2 ^ 32) c.as_slice.ensures.value c.in_ok-make_room.ensures.few)
    (subst (λ (l : List Call). length l ≤ length c.make_room.new.spans.items) c.as_slice.ensures.value c.in_ok-make_room.ensures.room))

pub settle_fired-requires-clause-left : goal.settle_fired-requires-clause-left
settle_fired-requires-clause-left c = λ free.
    before_left (IsSequence c.args.machine.now (take (c.args.place + 1) c.args.ways.now)) c.len-listed.result
    (length c.list_fired.new.self.calls.items) c.list_fired.new.self.calls.items (omega arith)
    (fired_before c.args.machine.now (configuration_of c.args.config.now) c.args.ways.now c.args.place c.index-ways-place.result c.requires.there
    c.index-ways-place.is c.args.roster.now.calls.items c.list_fired.new.self.calls.items c.requires.made c.list_fired.ensures.calls
    c.in_ok-list_fired.ensures.added
    (λ h. free (c.meets_fired-anew.ensures h))
    _ c.len-listed.ensures)

pub settle_fired-requires-clause-new : goal.settle_fired-requires-clause-new
settle_fired-requires-clause-new c = λ free.
    fired_new c.args.machine.now (configuration_of c.args.config.now) c.args.ways.now c.args.place c.index-ways-place.result c.requires.there
    c.index-ways-place.is c.args.roster.now.calls.items c.list_fired.new.self.calls.items c.requires.made c.list_fired.ensures.calls
    c.in_ok-list_fired.ensures.added
    (λ h. free (c.meets_fired-anew.ensures h))
    _ c.len-listed.ensures refl

pub returns-clause-made : goal.returns-clause-made
returns-clause-made c =
    fired_made c.args.machine.now (configuration_of c.args.config.now) c.args.ways.now c.args.place c.index-ways-place.result c.requires.there
    c.index-ways-place.is c.args.roster.now.calls.items c.list_fired.new.self.calls.items c.requires.made c.list_fired.ensures.calls
    c.in_ok-list_fired.ensures.added _ c.settle_fired.ensures.alike c.settle_fired.ensures.sure
