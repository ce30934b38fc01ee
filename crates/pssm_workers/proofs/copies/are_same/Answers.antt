-- where each is the same, the lists are
use Rattle.std.proofs.Common.{◌≡◌, refl, arith}
use Rattle.pssm_book.proofs.ListLaws.{same_by_place}
use Rattle.pssm_workers.proofs.copies.are_same.Goals as goal

pub returns : goal.returns
returns c =
    let same : c.args.one.now ≡ c.args.other.now =
    same_by_place c.args.one.now c.args.other.now (omega arith)
    (λ k less. c.loop-i.invariant k (let past = c.loop-i-test.false in omega (arith, less, past))) in
    ((λ t. same), (λ e. refl))
