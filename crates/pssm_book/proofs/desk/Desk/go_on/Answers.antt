-- a post or a move
use Rattle.pssm_book.proofs.DeskLaws.{moved_comes}
use Rattle.pssm_book.proofs.desk.Desk.go_on.Goals as goal

pub returns-clause-comes : goal.returns-clause-comes
returns-clause-comes c = moved_comes c.args.self.now c.requires.order c.requires.room c.append.new.self c.args.entry c.requires.next c.in_ok-append.ensures.ok
