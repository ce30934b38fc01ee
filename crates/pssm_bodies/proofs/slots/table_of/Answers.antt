use Rattle.std.proofs.Common.{◌∙◌, take, subst, sym}
use Rattle.std.proofs.lemmas.List.{take_more}
use Rattle.pssm_bodies.specs.inner.Counts.{IsTable}
use Rattle.pssm_bodies.proofs.slots.table_of.Goals as goal

pub loop-slot-preserved : goal.loop-slot-preserved
loop-slot-preserved c = record {
  width = c.put.ensures.kept ∙ c.loop-slot.invariant.width;
  slots = subst (λ xs. IsTable xs c.put.new.table.items) (sym (take_more c.args.slots.now c.loop-slot.slot-index _ c.loop-slot-test.true))
      (c.put.ensures.put (take c.loop-slot.slot-index c.args.slots.now) c.loop-slot.invariant.slots);
}
