-- an object of which nothing but a post may follow has nothing
use Rattle.pssm_book.proofs.DeskLaws.{quiet_nothing}
use Rattle.pssm_book.proofs.desk.Desk.next_of.Goals as goal

pub returns-then-quiet_of-clause-none : goal.returns-then-quiet_of-clause-none
returns-then-quiet_of-clause-none c =
    quiet_nothing c.args.self.now c.requires.order c.args.object (c.quiet_of.ensures.0 c.if-quiet_of.true)
