use Rattle.std.proofs.Common.{◌<◌, ◌≤◌, length, ◌∙◌, arith}
use Rattle.pssm_numbering.specs.Numbering.{machines}
use Rattle.pssm_limits.specs.inner.Counts.{cut_count}
use Rattle.pssm_limits.proofs.ListLaws.{noted_more}
use Rattle.pssm_limits.proofs.CountLaws.{counted_all}
use Rattle.pssm_limits.proofs.counts.counts_of.Goals as goal

pub loop-k-preserved : goal.loop-k-preserved
loop-k-preserved c =
    let test = c.loop-k-test.true in
    let count = c.machine_count-k-end.ensures.count in
    let lt : c.loop-k.k < length (machines c.args.file.now) = grind (arith, test, count) in
    c.in_ok-push.ensures.items
    ∙ noted_more (cut_count c.args.what c.args.file.now) (machines c.args.file.now) c.loop-k.k c.loop-k.counts.items c.in_ok-count_of.field-0 lt c.loop-k.invariant
    c.in_ok-count_of.ensures

pub returns : goal.returns
returns c =
    let test = c.loop-k-test.false in
    let count = c.machine_count-k-end.ensures.count in
    let le : length (machines c.args.file.now) ≤ c.loop-k.k = grind (arith, test, count) in
    counted_all c.args.file.now c.args.what c.loop-k.counts.items c.loop-k.k le c.loop-k.invariant
