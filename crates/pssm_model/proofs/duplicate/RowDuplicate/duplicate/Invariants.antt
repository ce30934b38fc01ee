-- How far the copy of a row has come.
use Rattle.std.proofs.Common.{◌≡◌, take}
use Rattle.pssm_model.proofs.duplicate.RowDuplicate.duplicate.Given as goal

-- the items that were copied are the first ones
abbrev pub invariant-loop-item : goal.invariant-loop-item
invariant-loop-item g l = l.items.items ≡ take l.item-index l.item-items
