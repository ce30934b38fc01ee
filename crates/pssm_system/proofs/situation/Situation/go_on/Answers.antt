-- the object goes on, a take leaves its pool, and what is kept is so of the longer journal
use Rattle.std.proofs.Common.{◌≡◌, ◌+◌, ℕ, List, length, IfSome, refl, ap, subst, sym, ◌∙◌, arith}
use Rattle.std.proofs.lemmas.List.{with_items_is}
use Rattle.std.specs.Option.{option_copied}
use Rattle.pssm_semantics.specs.declared.stimulus.Stimulus.{Stimulus}
use Rattle.pssm_semantics.specs.Pool.{signals_of_entry}
use Rattle.pssm_system.specs.inner.Pooling.{delivered, left_by, signal_taken}
use Rattle.pssm_system.specs.inner.Stepping.{CanStep, HaveStepped, AreMade}
use Rattle.pssm_system.proofs.Stepped.{can_step_now, stands_after}
use Rattle.pssm_system.proofs.Own.{own-numbers}
use Rattle.pssm_system.proofs.Slots.{slot_there}
use Rattle.pssm_system.proofs.situation.Situation.go_on.Goals as goal

pub signal_at-taken-requires : goal.signal_at-taken-requires
signal_at-taken-requires c = slot_there c.args.self.now.pools c.args.entry.now c.taken_slot-slot.result c.taken_slot-slot.ensures

pub taken_slot-slot-requires : goal.taken_slot-slot-requires
taken_slot-slot-requires c = own-numbers c.requires.can.stands

pub leave_slot-requires : goal.leave_slot-requires
leave_slot-requires c = c.taken_slot-slot.ensures

pub step_by-requires-clause-can : goal.step_by-requires-clause-can
step_by-requires-clause-can c =
    subst (λ xs. CanStep c.args.setting.now xs (option_copied c.signal_at-taken.result) c.args.entry.now) (sym c.as_mut_slice.ensures.value)
    (can_step_now c.requires.well_formed c.requires.can c.args.self.now.pools.waiting refl (option_copied c.signal_at-taken.result)
    (c.signal_at-taken.ensures c.args.entry.now c.taken_slot-slot.ensures))

pub step_by-requires-clause-made : goal.step_by-requires-clause-made
step_by-requires-clause-made c =
    subst (λ xs. IfSome c.args.made (λ store. AreMade c.args.setting.now xs c.args.entry.now store.now)) (sym c.as_mut_slice.ensures.value) c.requires.made

pub returns-clause-ok : goal.returns-clause-ok
returns-clause-ok c = λ J stands may.
    let step = c.in_ok-step_by.ensures in
    let e = c.args.entry.now in
    let pools = c.args.self.now.pools.waiting in
    let told : ℕ = c.args.self.now.told in
    let objects = with_items_is c.args.self.now.objects c.step_by.new.objects (c.step_by.auto.objects ∙ c.as_mut_slice.ensures.len) in
    let stepped : HaveStepped c.args.setting.now c.args.self.now.objects.items (signal_taken pools e) e c.step_by.new.objects =
    subst (λ g. HaveStepped c.args.setting.now c.args.self.now.objects.items g e c.step_by.new.objects) (c.signal_at-taken.ensures c.args.entry.now c.taken_slot-slot.ensures)
    (subst (λ xs. HaveStepped c.args.setting.now xs (option_copied c.signal_at-taken.result) e c.step_by.new.objects) c.as_mut_slice.ensures.value step.ok) in
    let none : length (signals_of_entry e) ≡ 0 = ap (λ (xs : List Stimulus). length xs) c.requires.silent in
    stands_after c.requires.well_formed stands e may _
    (subst (HaveStepped c.args.setting.now c.args.self.now.objects.items (signal_taken pools e) e) (sym objects) stepped)
    (c.leave_slot.ensures.waiting ∙ sym (ap (λ xs. delivered (told + 1) xs (left_by e pools)) c.requires.silent))
    (omega arith)
