use Rattle.std.proofs.Common.{◌+◌, sym, subst, arith}
use Rattle.pssm_flat.specs.declared.outline.Outline.{Outline}
use Rattle.pssm_flat.specs.inner.Outlines.{HasRead}
use Rattle.pssm_flat.proofs.ReadLaws.{more_read, small_read, room_read, few_lines, shorter, front_inner}
use Rattle.pssm_flat.proofs.reading.whole_of.Goals as goal

pub loop-text-smaller : goal.loop-text-smaller
loop-text-smaller c = shorter c.loop-text.rest.now c.in-Some.text.now c.in-Some.after.now (sym c.in-Some.ensures)

pub next_at-requires-clause-inner : goal.next_at-requires-clause-inner
next_at-requires-clause-inner c = front_inner c.loop-text.rest.now c.in-Some.text.now c.in-Some.after.now (sym c.in-Some.ensures)

pub next_at-requires-clause-small : goal.next_at-requires-clause-small
next_at-requires-clause-small c = small_read c.args.bytes.now c.loop-text.outline c.loop-text.rest.now c.loop-text.line c.loop-text.invariant.read

pub next_at-requires-clause-room : goal.next_at-requires-clause-room
next_at-requires-clause-room c = room_read c.args.bytes.now c.loop-text.outline c.loop-text.rest.now c.loop-text.line c.loop-text.invariant.read

pub overflow_add-line : goal.overflow_add-line
overflow_add-line c =
    let few = few_lines c.args.bytes.now c.loop-text.outline c.loop-text.rest.now c.loop-text.line c.loop-text.invariant.read in
    omega (arith, few, c.requires)

pub returns-in-Ended-clause-read : goal.returns-in-Ended-clause-read
returns-in-Ended-clause-read c =
    let bytes = c.args.bytes.now in let outline = c.loop-text.outline in let rest = c.loop-text.rest.now in let line = c.loop-text.line in
    let read = c.loop-text.invariant.read in let text = c.in-Some.text.now in let after = c.in-Some.after.now in let next = c.in_ok-next.next in
    subst (λ (d : Outline). HasRead bytes d after (line + 1)) c.in-Ended.is (more_read bytes outline next rest text after line read (sym c.in-Some.ensures) c.in_ok-next.ensures.read (c.in_ok-next.ensures.shaped read.shaped))

pub loop-text-preserved : goal.loop-text-preserved
loop-text-preserved c =
    let bytes = c.args.bytes.now in let outline = c.loop-text.outline in let rest = c.loop-text.rest.now in let line = c.loop-text.line in
    let read = c.loop-text.invariant.read in let text = c.in-Some.text.now in let after = c.in-Some.after.now in let next = c.in_ok-next.next in
    record {
      read = more_read bytes outline next rest text after line read (sym c.in-Some.ensures) c.in_ok-next.ensures.read (c.in_ok-next.ensures.shaped read.shaped);
      open_yet = c.in_default-next.not-Ended;
    }
