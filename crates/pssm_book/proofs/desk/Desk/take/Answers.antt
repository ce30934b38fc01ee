-- what may be done next is what is done
use Rattle.std.proofs.Common.{rules}
use Rattle.pssm_book.proofs.DeskLaws.{busy_comes, quiet_comes, job_comes}
use Rattle.pssm_book.proofs.desk.Desk.take.Goals as goal

pub go_on-requires-clause-next : goal.go_on-requires-clause-next
go_on-requires-clause-next c = rw c.in-Append.is at c.requires.next

pub hand_out-requires-clause-is_open : goal.hand_out-requires-clause-is_open
hand_out-requires-clause-is_open c = rw c.in-Work.is at c.requires.next

pub returns-in-Wait-clause-comes : goal.returns-in-Wait-clause-comes
returns-in-Wait-clause-comes c =
    let still = rw c.in-Wait.is at c.requires.next in
    busy_comes c.args.self.now c.requires.order c.requires.room still.0 still.1 _ (search rules)

pub returns-in-End-clause-comes : goal.returns-in-End-clause-comes
returns-in-End-clause-comes c =
    let still = rw c.in-End.is at c.requires.next in
    quiet_comes c.args.self.now c.requires.order c.requires.room still.0 still.1

pub returns-in_ok-hand_out-in-Work-clause-comes : goal.returns-in_ok-hand_out-in-Work-clause-comes
returns-in_ok-hand_out-in-Work-clause-comes c =
    let has = c.in_ok-hand_out-in-Work.ensures in
    job_comes c.args.self.now c.requires.order c.requires.room c.hand_out.new.self c.in_ok-hand_out-in-Work.field-0 c.in-Work.object c.in-Work.task
    (rw c.in-Work.is at c.requires.next) has.names has.ok has.carries has.runs
