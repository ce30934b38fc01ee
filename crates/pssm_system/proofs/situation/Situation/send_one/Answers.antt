-- everything that can fail comes before the object goes on, and what is kept is so of the longer journal
use Rattle.std.proofs.Common.{◌<◌, ◌+◌, List, length, IfSome, ap, subst, sym, ◌∙◌, arith}
use Rattle.std.proofs.lemmas.List.{with_items_is}
use Rattle.std.specs.Option.{option_copied}
use Rattle.pssm_pool.specs.declared.pools.Waiting.{Waiting}
use Rattle.pssm_pool.specs.Waits.{with_arrived}
use Rattle.pssm_system.specs.inner.Pooling.{waiting_as, delivered, left_by, signal_taken, HavePools}
use Rattle.pssm_system.specs.inner.Stepping.{CanStep, HaveStepped, AreMade, posted}
use Rattle.pssm_system.proofs.Stepped.{pools_there, length-left, can_step_now, stands_after}
use Rattle.pssm_system.proofs.situation.Situation.send_one.Goals as goal

pub reserve-requires : goal.reserve-requires
reserve-requires c =
    let held = c.requires.can.stands.held in
    let few = c.requires.few in
    omega (arith, held, few)

pub step_by-requires-clause-can : goal.step_by-requires-clause-can
step_by-requires-clause-can c =
    let room = c.in_ok-reserve.ensures in
    subst (λ xs. CanStep c.args.setting.now xs (option_copied c.taken_signal-taken.result) c.args.entry.now) (sym c.as_mut_slice.ensures.value)
    (can_step_now c.requires.well_formed c.requires.can c.reserve.new.self.waiting room.waiting (option_copied c.taken_signal-taken.result)
    c.taken_signal-taken.ensures)

pub step_by-requires-clause-made : goal.step_by-requires-clause-made
step_by-requires-clause-made c =
    subst (λ xs. IfSome c.args.made (λ store. AreMade c.args.setting.now xs c.args.entry.now store.now)) (sym c.as_mut_slice.ensures.value) c.requires.made

pub arrive-requires-clause-object : goal.arrive-requires-clause-object
arrive-requires-clause-object c =
    let room = c.in_ok-reserve.ensures in
    let e = c.args.entry.now in
    let count = ap (λ (ws : List (List Waiting)). length ws) c.leave.ensures.waiting ∙ length-left e c.reserve.new.self.waiting
    ∙ ap (λ (ws : List (List Waiting)). length ws) room.waiting in
    subst (λ n. c.args.object.0 < n) (sym count)
    (subst (λ xs. HavePools xs (length c.args.self.now.pools.waiting)) c.requires.sends (pools_there c.requires.well_formed c.requires.can)).0

pub arrive-requires-clause-spare : goal.arrive-requires-clause-spare
arrive-requires-clause-spare c =
    let room = c.in_ok-reserve.ensures in
    let ok = room.ok in
    let kept = c.leave.ensures.spare in
    omega (arith, ok, kept)

pub returns-clause-ok : goal.returns-clause-ok
returns-clause-ok c = λ J stands may.
    let room = c.in_ok-reserve.ensures in
    let step = c.in_ok-step_by.ensures in
    let e = c.args.entry.now in
    let pools = c.args.self.now.pools.waiting in
    let objects = with_items_is c.args.self.now.objects c.step_by.new.objects (c.step_by.auto.objects ∙ c.as_mut_slice.ensures.len) in
    let taken = c.taken_signal-taken.ensures ∙ ap (λ ws. signal_taken ws e) room.waiting in
    let stepped : HaveStepped c.args.setting.now c.args.self.now.objects.items (signal_taken pools e) e c.step_by.new.objects =
    subst (λ g. HaveStepped c.args.setting.now c.args.self.now.objects.items g e c.step_by.new.objects) taken
    (subst (λ xs. HaveStepped c.args.setting.now xs (option_copied c.taken_signal-taken.result) e c.step_by.new.objects) c.as_mut_slice.ensures.value step.ok) in
    stands_after c.requires.well_formed stands e may _
    (subst (HaveStepped c.args.setting.now c.args.self.now.objects.items (signal_taken pools e) e) (sym objects) stepped)
    (c.arrive.ensures.waiting
    ∙ ap (λ args. with_arrived c.leave.new.pools.waiting c.args.object (waiting_as (c.args.self.now.told + 1) (posted c.args.object c.args.signal args)))
    c.in_ok-args.ensures
    ∙ ap (λ ws. with_arrived ws c.args.object (waiting_as (c.args.self.now.told + 1) (posted c.args.object c.args.signal c.args.args.now)))
    (c.leave.ensures.waiting ∙ ap (left_by e) room.waiting)
    ∙ sym (ap (λ xs. delivered (c.args.self.now.told + 1) xs (left_by e pools)) c.requires.sends))
    (sym (ap (λ xs. c.args.self.now.told + length xs) c.requires.sends))
