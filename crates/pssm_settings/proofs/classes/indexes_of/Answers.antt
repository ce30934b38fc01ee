use Rattle.pssm_settings.proofs.ClassLaws.{objects_indexed, signals_indexed}
use Rattle.pssm_settings.proofs.classes.indexes_of.Goals as goal

pub returns : goal.returns
returns c = (
  objects_indexed c.args.draft.now c.as_slice.result.now c.in_ok-objects.objects.items c.as_slice-3.result.now c.in_ok-of.field-0 c.as_slice.ensures
      (c.in_ok-objects.ensures {u = tt}) c.as_slice-3.ensures.value (c.in_ok-of.ensures {u = tt}),
  signals_indexed c.args.draft.now c.as_slice-2.result.now c.in_ok-signals.signals.items c.as_slice-4.result.now c.in_ok-of-2.field-0 c.as_slice-2.ensures
      (c.in_ok-signals.ensures {u = tt}) c.as_slice-4.ensures.value (c.in_ok-of-2.ensures {u = tt}),
)
