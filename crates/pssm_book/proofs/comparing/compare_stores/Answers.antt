-- where none differs, all are the same
use Rattle.std.proofs.Common.{arith}
use Rattle.pssm_book.proofs.ListLaws.{same_by_place}
use Rattle.pssm_book.proofs.comparing.compare_stores.Goals as goal

pub returns : goal.returns
returns c =
    same_by_place c.args.kept.now c.args.carried.now (omega arith)
    (λ k less. c.loop-i.invariant k (let past = c.loop-i-test.false in omega (arith, less, past)))
