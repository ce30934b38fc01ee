-- The slot of the signal that an entry takes.
use Rattle.std.proofs.Common.{◌≡◌, ℕ, List, Option, Some, None, sym, ap, ◌∙◌}
use Rattle.std.specs.Prelude.{IfSome, IfNone}
use Rattle.std.proofs.Math.ListN.{set}
use Rattle.pssm_model.specs.declared.steps.Firing.{Firing}
use Rattle.pssm_semantics.specs.declared.entry.ObjectId.{ObjectId}
use Rattle.pssm_semantics.specs.declared.entry.Entry.{Entry}
use Rattle.pssm_semantics.specs.declared.entry.Entry.TheVariants.{Take}
use Rattle.pssm_semantics.specs.Journal.{object_of}
use Rattle.pssm_pool.specs.declared.pools.Waiting.{Waiting}
use Rattle.pssm_links.specs.declared.slot.SlotId.{SlotId}
use Rattle.pssm_pool.specs.Waits.{Waits, waiting_for, without, IsSlot, IsSlotOf, StandsAt}
use Rattle.pssm_system.specs.inner.Pooling.{HasNoNumber, IsSlotWith, IsTakenAt, IsSlotTaken, signal_taken, left_by}
use Rattle.pssm_system.proofs.Pools.{taken-none, left-none}

-- the one that was found for a take
pub slot_taken : (pools : Waits) (e : Entry) (o : ObjectId) (number : ℕ) (firing : Firing) → e ≡ Take o number firing → (slot : Option SlotId)
    → IfSome slot (IsSlotWith number pools o) → IfNone slot (HasNoNumber number (waiting_for pools.waiting o)) → IsSlotTaken pools e slot
slot_taken pools e o number firing is None there none = (sym (taken-none pools.waiting e o number firing is none), sym (left-none pools.waiting e o number firing is none))
slot_taken pools e o number firing is (Some slot) there none = record {
  object = o;
  own = sym (ap object_of is);
  place = there.0;
  is = there.1;
  signal = ap (signal_taken pools.waiting) is ∙ there.2.signal;
  others = ap (λ f. left_by f pools.waiting) is ∙ ap (λ ws. set pools.waiting o.0 ws) there.2.others;
}

-- it is one of a signal that waits
pub slot_there : (pools : Waits) (e : Entry) (slot : Option SlotId) → IsSlotTaken pools e slot → IfSome slot (IsSlot pools)
slot_there pools e None t = tt
slot_there pools e (Some slot) t = (t.object, t.place, t.is)

-- the signal there is the one that the entry takes
pub signal_there : (pools : Waits) (e : Entry) (slot : SlotId) (w : Waiting) → IsTakenAt pools e slot → ((o : ObjectId) (k : ℕ) → IsSlotOf pools slot o k → StandsAt pools.waiting o k w) → Some w ≡ signal_taken pools.waiting e
signal_there pools e slot w t stands = sym (t.signal ∙ stands t.object t.place t.is)

-- and the others are those that are left
pub others_left : (pools : Waits) (new : List (List Waiting)) (e : Entry) (slot : SlotId) → IsTakenAt pools e slot → ((o : ObjectId) (k : ℕ) → IsSlotOf pools slot o k → new ≡ without pools.waiting o k) → new ≡ left_by e pools.waiting
others_left pools new e slot t takes = takes t.object t.place t.is ∙ sym t.others
