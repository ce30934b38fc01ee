use Rattle.std.proofs.Common.{sym, arith}
use Rattle.pssm_spelling.proofs.SpellingLaws.{stripped_takes}
use Rattle.pssm_lines.specs.LineText.{header_line}
use Rattle.pssm_lines.proofs.FrontLaws.{no_header, no_line, near_line, near_rest}
use Rattle.pssm_lines.proofs.front.front_of.Goals as goal

pub unread-requires : goal.unread-requires
unread-requires c = rw c.if-not-begun.true (no_header c.args.bytes.now (sym c.in-None.ensures))

pub returns-in-Some : goal.returns-in-Some
returns-in-Some c = (c.if-not-begun.true, stripped_takes header_line c.args.bytes.now c.in-Some.rest.now (sym c.in-Some.ensures))

pub unread-requires-in_default : goal.unread-requires-in_default
unread-requires-in_default c =
    rw c.if-not-begun.false (no_line c.args.bytes.now c.split_at.result.0.now c.min.result c.min.ensures c.split_at.ensures.front (rw c.in_default.is at c.in_ok-parts.ensures.none))

pub returns : goal.returns
returns c =
    let found = rw c.in-Some-2.is at c.in_ok-parts.ensures.found in
    let line = near_line c.args.bytes.now c.split_at.result.0.now c.min.result c.min.ensures c.split_at.ensures.front found.0 c.in-Some-2.after.now c.split_at-2.result.1.now found.1 found.2 c.split_at-2.ensures.back in
    let rest = near_rest c.args.bytes.now c.split_at.result.0.now c.min.result c.min.ensures c.split_at.ensures.front found.0 c.in-Some-2.after.now c.split_at-2.result.1.now found.1 found.2 c.split_at-2.ensures.back in
    (found.0, c.if-not-begun.false, line, rest, found.3)
