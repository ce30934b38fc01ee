-- one object more has nothing
use Rattle.std.proofs.Common.{arith}
use Rattle.pssm_book.proofs.DeskLaws.{none_is, nothing_of_more}
use Rattle.pssm_book.proofs.desk.Desk.next_among.Goals as goal

pub loop-k-preserved : goal.loop-k-preserved
loop-k-preserved c =
    nothing_of_more c.args.self.now c.args.from (record { 0 = c.loop-k.k }) c.loop-k.invariant
    (none_is c.in_ok-next.field-0 c.in_default.not-Some c.in_ok-next.ensures.none)

pub returns : goal.returns
returns c = λ o from less. c.loop-k.invariant o from (omega (arith, less))
