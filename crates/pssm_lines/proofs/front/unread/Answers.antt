use Rattle.std.proofs.Common.{◌+◌, refl, arith}
use Rattle.std.proofs.lemmas.List.Sums.{prefix_len-le-length}
use Rattle.pssm_lines.specs.Faults.{is_no_feed}
use Rattle.pssm_lines.proofs.FrontLaws.{looked_at, bad_within, open_front, feed_front, long_front}
use Rattle.pssm_lines.proofs.front.unread.Goals as goal

pub split_at-requires : goal.split_at-requires
split_at-requires c = omega (arith, prefix_len-le-length is_no_feed c.args.bytes.now)

pub returns-then-not-branch : goal.returns-then-not-branch
returns-then-not-branch c = λ more.
    let at = looked_at c.args.bytes.now c.split_at.result.0.now c.split_at.result.1.now c.line_len.result c.min-len.result c.line_len.ensures c.min-len.ensures (omega (arith, prefix_len-le-length is_no_feed c.args.bytes.now)) c.split_at.ensures.front c.split_at.ensures.back in
    bad_within c.args.begun c.args.line (c.in_ok-byte.field-0 + 1) c.args.bytes.now c.split_at.result.0.now c.split_at.result.1.now c.in_ok-byte.field-0 at.parts at.clean at.few c.in_ok-byte.ensures.within c.in_ok-byte.ensures.begins c.in_ok-byte.ensures.stops refl more

pub returns-in-empty : goal.returns-in-empty
returns-in-empty c =
    let at = looked_at c.args.bytes.now c.split_at.result.0.now c.split_at.result.1.now c.line_len.result c.min-len.result c.line_len.ensures c.min-len.ensures (omega (arith, prefix_len-le-length is_no_feed c.args.bytes.now)) c.split_at.ensures.front c.split_at.ensures.back in
    open_front c.args.begun c.args.bytes.now c.split_at.result.0.now c.split_at.result.1.now at (omega arith) (c.in_ok-begins.ensures.0 c.if-not-branch.false)

pub returns-then-next-ne10 : goal.returns-then-next-ne10
returns-then-next-ne10 c = λ more.
    let at = looked_at c.args.bytes.now c.split_at.result.0.now c.split_at.result.1.now c.line_len.result c.min-len.result c.line_len.ensures c.min-len.ensures (omega (arith, prefix_len-le-length is_no_feed c.args.bytes.now)) c.split_at.ensures.front c.split_at.ensures.back in
    long_front c.args.begun c.args.line c.args.bytes.now c.split_at.result.0.now c.split_at.result.1.now at (omega arith) c.if-next-ne10.true (c.in_ok-begins.ensures.0 c.if-not-branch.false) more

pub returns-else-next-ne10 : goal.returns-else-next-ne10
returns-else-next-ne10 c = λ more.
    let at = looked_at c.args.bytes.now c.split_at.result.0.now c.split_at.result.1.now c.line_len.result c.min-len.result c.line_len.ensures c.min-len.ensures (omega (arith, prefix_len-le-length is_no_feed c.args.bytes.now)) c.split_at.ensures.front c.split_at.ensures.back in
    feed_front c.args.begun c.args.line (c.min-len.result + 1) c.args.bytes.now c.split_at.result.0.now c.split_at.result.1.now at (omega arith) c.if-next-ne10.false (c.in_ok-begins.ensures.0 c.if-not-branch.false) c.requires (omega arith) more
