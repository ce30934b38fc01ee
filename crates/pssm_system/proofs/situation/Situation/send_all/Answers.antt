-- everything that can fail comes before the object goes on, and what is kept is so of the longer journal
use Rattle.std.proofs.Common.{◌+◌, List, length, IfSome, ap, subst, sym, ◌∙◌, arith}
use Rattle.std.proofs.lemmas.List.{with_items_is}
use Rattle.std.specs.Option.{option_copied}
use Rattle.pssm_semantics.specs.declared.stimulus.Stimulus.{Stimulus}
use Rattle.pssm_semantics.specs.Pool.{signals_of_entry}
use Rattle.pssm_pool.specs.declared.pools.Waiting.{Waiting}
use Rattle.pssm_system.specs.inner.Pooling.{delivered, left_by, signal_taken, HavePools}
use Rattle.pssm_system.specs.inner.Stepping.{CanStep, HaveStepped, AreMade}
use Rattle.pssm_system.proofs.Stepped.{pools_there, length-left, can_step_now, stands_after}
use Rattle.pssm_system.proofs.situation.Situation.send_all.Goals as goal

pub reserve-requires : goal.reserve-requires
reserve-requires c =
    let count = ap (λ (xs : List Stimulus). length xs) (c.as_slice.ensures.value ∙ c.in_ok-signals.ensures) in
    let held = c.requires.can.stands.held in
    let few = c.requires.can.few in
    omega (arith, count, held, few)

pub step_by-requires-clause-can : goal.step_by-requires-clause-can
step_by-requires-clause-can c =
    let room = c.in_ok-reserve.ensures in
    subst (λ xs. CanStep c.args.setting.now xs (option_copied c.taken_signal-taken.result) c.args.entry.now) (sym c.as_mut_slice.ensures.value)
    (can_step_now c.requires.well_formed c.requires.can c.reserve.new.self.waiting room.waiting (option_copied c.taken_signal-taken.result)
    c.taken_signal-taken.ensures)

pub step_by-requires-clause-made : goal.step_by-requires-clause-made
step_by-requires-clause-made c =
    subst (λ xs. IfSome c.args.made (λ store. AreMade c.args.setting.now xs c.args.entry.now store.now)) (sym c.as_mut_slice.ensures.value) c.requires.made

pub deliver-requires-clause-there : goal.deliver-requires-clause-there
deliver-requires-clause-there c =
    let room = c.in_ok-reserve.ensures in
    let e = c.args.entry.now in
    let count = ap (λ (ws : List (List Waiting)). length ws) c.leave.ensures.waiting ∙ length-left e c.reserve.new.self.waiting
    ∙ ap (λ (ws : List (List Waiting)). length ws) room.waiting in
    subst (λ xs. HavePools xs (length c.leave.new.pools.waiting)) (sym c.in_ok-signals.ensures)
    (subst (HavePools (signals_of_entry e)) (sym count) (pools_there c.requires.well_formed c.requires.can))

pub deliver-requires-clause-spare : goal.deliver-requires-clause-spare
deliver-requires-clause-spare c =
    let room = c.in_ok-reserve.ensures in
    let ok = room.ok in
    let count = ap (λ (xs : List Stimulus). length xs) c.as_slice.ensures.value in
    let kept = c.leave.ensures.spare in
    omega (arith, ok, count, kept)

pub returns-clause-ok : goal.returns-clause-ok
returns-clause-ok c = λ J stands may.
    let room = c.in_ok-reserve.ensures in
    let step = c.in_ok-step_by.ensures in
    let e = c.args.entry.now in
    let pools = c.args.self.now.pools.waiting in
    let objects = with_items_is c.args.self.now.objects c.step_by.new.objects (c.step_by.auto.objects ∙ c.as_mut_slice.ensures.len) in
    let taken = c.taken_signal-taken.ensures ∙ ap (λ ws. signal_taken ws e) room.waiting in
    let stepped : HaveStepped c.args.setting.now c.args.self.now.objects.items (signal_taken pools e) e c.step_by.new.objects =
    subst (λ g. HaveStepped c.args.setting.now c.args.self.now.objects.items g e c.step_by.new.objects) taken
    (subst (λ xs. HaveStepped c.args.setting.now xs (option_copied c.taken_signal-taken.result) e c.step_by.new.objects) c.as_mut_slice.ensures.value step.ok) in
    stands_after c.requires.well_formed stands e may _
    (subst (HaveStepped c.args.setting.now c.args.self.now.objects.items (signal_taken pools e) e) (sym objects) stepped)
    (c.deliver.ensures
    ∙ ap (λ xs. delivered (c.args.self.now.told + 1) xs c.leave.new.pools.waiting) c.in_ok-signals.ensures
    ∙ ap (delivered (c.args.self.now.told + 1) (signals_of_entry e)) (c.leave.ensures.waiting ∙ ap (left_by e) room.waiting))
    (ap (λ xs. c.args.self.now.told + length xs) (c.as_slice.ensures.value ∙ c.in_ok-signals.ensures))
