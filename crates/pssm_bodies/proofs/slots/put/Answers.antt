use Rattle.std.proofs.Common.{◌∙◌, ◌<◌, arith, not, ap, length}
use Rattle.pssm_bodies.proofs.SlotLaws.{put_table, kept_table, none_at, some_at, read_at}
use Rattle.pssm_bodies.proofs.slots.put.Goals as goal
use Rattle.pssm_bodies.proofs.slots.put.Goals.{else-number-len-via-then-number-len+else-is_none, else-number-len-via-else-number-len}

pub returns-then-is_none-clause-put : goal.returns-then-is_none-clause-put
returns-then-is_none-clause-put c =
    let within : c.from-number.result < length c.args.table.now.items = omega (arith, c.if-number-len.true, c.len.ensures) in
    let old = read_at c.args.table.now.items c.from-number.result c.index.result.now within c.index.ensures in
    λ slots is.
    put_table slots c.args.table.now.items c.args.slot c.from-number.result c.from-number.ensures within (old ∙ none_at c.index.result.now (c.is_none.ensures ∙ ap not c.if-is_none.true)) is

pub returns-else-number-len-clause-put : goal.returns-else-number-len-clause-put
returns-else-number-len-clause-put c = elim c.else-number-len.branch [
  | else-number-len-via-then-number-len+else-is_none w ↦
      λ slots is.
      kept_table slots c.args.table.now.items c.args.slot c.from-number.result c.from-number.ensures
      (λ within.
      let there = some_at w.index.result.now (w.is_none.ensures ∙ ap not w.if-is_none.false) in
      (there.0, read_at c.args.table.now.items c.from-number.result w.index.result.now within w.index.ensures ∙ there.1)) is
  | else-number-len-via-else-number-len w ↦
      λ slots is. kept_table slots c.args.table.now.items c.args.slot c.from-number.result c.from-number.ensures (λ within. absurd (omega (arith, within, w.if-number-len.false, c.len.ensures))) is
]
