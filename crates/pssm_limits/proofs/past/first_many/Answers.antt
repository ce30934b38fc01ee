use Rattle.std.proofs.Common.{◌≤◌, length, arith}
use Rattle.pssm_limits.proofs.PastLaws.{below_all}
use Rattle.pssm_limits.proofs.past.first_many.Goals as goal

pub returns : goal.returns
returns c =
    let test = c.loop-n-test.false in
    let count = c.len-n-end.ensures.count in
    let le : length c.args.file.now.doc ≤ c.loop-n.n = grind (arith, test, count) in
    below_all c.args.file.now c.loop-n.n c.loop-n.found le c.loop-n.invariant
