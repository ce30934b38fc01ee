-- what is called ahead of an item comes before it
use Rattle.pssm_legs.proofs.Backwards.{ordered_back}
use Rattle.pssm_legs.proofs.ordering.are_ordered_over.Goals as goal

pub returns-then-starts_ahead : goal.returns-then-starts_ahead
returns-then-starts_ahead c =
    let starts = c.starts_ahead.ensures c.if-starts_ahead.true in
    let told = ordered_back c.args.machine.now c.args.legs.now c.requires.legs c.args.fires c.args.first c.args.second starts in (
      λ is. told.0 (c.are_called_from.ensures.0 is),
      λ h. c.are_called_from.ensures.1 (told.1 h),
    )
